use Rattle.std.proofs.Common.{sym}
use Rattle.iso_lexer.proofs.SqlFronts.{second_of_two, behind_one}
use Rattle.iso_lexer.proofs.sql_front.sign_front.Goals as goal

pub split_at-requires : goal.split_at-requires
split_at-requires c =
    let small = second_of_two c.args.first c.args.second c.in-Some.sign (sym c.in-Some.ensures) in
    behind_one c.args.rest.now c.args.second c.utf8.rest c.requires small.0 small.1
