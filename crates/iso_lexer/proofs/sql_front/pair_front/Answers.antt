use Rattle.std.proofs.Common.{sym}
use Rattle.iso_lexer.proofs.SqlFronts.{second_of_opening, behind_one}
use Rattle.iso_lexer.proofs.sql_front.pair_front.Goals as goal

pub split_at-requires : goal.split_at-requires
split_at-requires c =
    let small = second_of_opening c.args.first c.first_byte-second.result (sym c.if-opens_here.ensures) in
    behind_one c.args.rest.now c.first_byte-second.result c.utf8.rest c.first_byte-second.ensures small.0 small.1
