use Rattle.unique_keys.specs.Inner.Listing.{Shrunk}
use Rattle.unique_keys.proofs.known.strike_codes.Given as goal

-- the row is struck for the keys so far
abbrev pub invariant-loop-key : goal.invariant-loop-key
invariant-loop-key l = Shrunk l.note.row.0 l.initial.by_code l.by_code
