use Rattle.std.proofs.Common.{not}
use Rattle.std.proofs.lemmas.List.Sums.{suffix_len-le-length}
use Rattle.program_words.specs.Quote.{is_newline}
use Rattle.program_words.proofs.quote.last_line.Goals as goal

pub overflow_sub-text : goal.overflow_sub-text
overflow_sub-text c = rw c.last_len.ensures (suffix_len-le-length (λ b. not (is_newline b)) c.args.text.now)
