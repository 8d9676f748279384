use Rattle.std.proofs.Common.{not}
use Rattle.std.proofs.lemmas.List.Sums.{prefix_len-le-length}
use Rattle.program_words.specs.Quote.{is_newline}
use Rattle.program_words.proofs.quote.first_line.Goals as goal

pub split_at-requires : goal.split_at-requires
split_at-requires c = rw c.first_len.ensures (prefix_len-le-length (λ b. not (is_newline b)) c.args.text.now)
