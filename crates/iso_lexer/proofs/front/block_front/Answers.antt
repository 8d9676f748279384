use Rattle.std.proofs.Common.{sym}
use Rattle.iso_lexer.proofs.SpecFronts.{no_brace, brace}
use Rattle.iso_lexer.proofs.front.block_front.Goals as goal

pub split_at-requires-in-Some : goal.split_at-requires-in-Some
split_at-requires-in-Some c = (brace c.args.text.now c.as_bytes.result.now c.in-Some.len c.utf8.text c.as_bytes.ensures.value c.in-Some.ensures).behind

pub returns-in-None : goal.returns-in-None
returns-in-None c = sym (no_brace c.args.text.now c.as_bytes.result.now c.as_bytes.ensures.value c.in-None.ensures)

pub returns-in-Some : goal.returns-in-Some
returns-in-Some c =
    let found = brace c.args.text.now c.as_bytes.result.now c.in-Some.len c.utf8.text c.as_bytes.ensures.value c.in-Some.ensures in
    rw (c.trimmed.ensures, c.split_run.ensures.run, c.split_at.ensures.front, c.split_at-in-Some.ensures.back) (sym found.front)
