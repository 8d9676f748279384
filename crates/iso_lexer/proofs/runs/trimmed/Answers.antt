use Rattle.iso_lexer.specs.Bytes.{is_blank}
use Rattle.std.proofs.lemmas.List.Sums.{suffix_len-le-length}
use Rattle.iso_lexer.proofs.Boundaries.{suffix_boundary}
use Rattle.iso_lexer.proofs.runs.trimmed.Goals as goal

pub overflow_sub-rest : goal.overflow_sub-rest
overflow_sub-rest c = rw (c.blanks_at_end.ensures, c.as_bytes.ensures.value) (suffix_len-le-length is_blank c.split_run.result.1.now)

pub split_at-requires : goal.split_at-requires
split_at-requires c = rw (c.blanks_at_end.ensures, c.as_bytes.ensures.value) (suffix_boundary c.split_run.result.1.now)
