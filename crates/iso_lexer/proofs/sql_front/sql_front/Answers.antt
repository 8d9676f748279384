use Rattle.std.proofs.Common.{sym, ◌∙◌}
use Rattle.iso_lexer.proofs.SpecFronts.{front_boundary}
use Rattle.iso_lexer.proofs.SqlFronts.{front_word, front_ascii}
use Rattle.iso_lexer.proofs.sql_front.sql_front.Goals as goal

pub returns-then-is_name_start : goal.returns-then-is_name_start
returns-then-is_name_start c = c.word_front.ensures ∙ sym (front_word c.args.text.now c.as_bytes.result.now c.as_bytes.ensures.value c.requires (sym c.if-is_name_start.ensures))

pub split_at-requires : goal.split_at-requires
split_at-requires c = front_boundary c.args.text.now c.as_bytes.result.now c.utf8.text c.as_bytes.ensures.value c.requires (sym c.if-is_name_start.ensures)

pub returns : goal.returns
returns c = c.ascii_front.ensures ∙ sym (front_ascii c.args.text.now c.as_bytes.result.now c.split_at.result.1.now c.as_bytes.ensures.value c.requires (sym c.if-is_name_start.ensures) c.split_at.ensures.back)
