use Rattle.std.proofs.Common.{◌≡◌, ◌+◌, ◌++◌, map, take}
use Rattle.arrayvec.specs.ArrayVec.{array_vec_len}
use Rattle.program_words.specs.Quote.{shown_byte}
use Rattle.program_words.proofs.quote.push_shown.Given as goal

abbrev pub invariant-loop-b : goal.invariant-loop-b
invariant-loop-b l = record {
  items : l.text.items ≡ l.initial.text.items ++ map shown_byte (take l.b-index l.line);
  len : array_vec_len l.text ≡ array_vec_len l.initial.text + l.b-index;
}
