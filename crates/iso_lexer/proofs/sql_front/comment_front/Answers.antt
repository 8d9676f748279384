use Rattle.iso_lexer.proofs.SqlFronts.{end_boundary}
use Rattle.iso_lexer.proofs.sql_front.comment_front.Goals as goal

pub split_at-requires : goal.split_at-requires
split_at-requires c = end_boundary c.args.text.now c.as_bytes.result.now c.in-Some.len c.utf8.text c.as_bytes.ensures.value c.in-Some.ensures
