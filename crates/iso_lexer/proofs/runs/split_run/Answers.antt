use Rattle.iso_lexer.proofs.Boundaries.{run_boundary}
use Rattle.iso_lexer.proofs.runs.split_run.Goals as goal

pub split_at-requires : goal.split_at-requires
split_at-requires c = rw (c.run_len.ensures, c.as_bytes.ensures.value) (run_boundary c.args.run c.args.text.now c.utf8.text)
