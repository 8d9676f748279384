use Rattle.std.proofs.Common.{◌≡◌, ◌++◌, flat_map, take}
use Rattle.iso_lexer.specs.Devices.{page_text}
use Rattle.permutation_lists.specs.Lines.{doubled}
use Rattle.permutation_lists.proofs.line.push_doubled.Given as goal

abbrev pub invariant-loop-byte : goal.invariant-loop-byte
invariant-loop-byte l = page_text l.page ≡ page_text l.fn.page ++ flat_map doubled (take l.byte-index l.bytes)
