use Rattle.std.proofs.Common.{◌≡◌, false, drop}
use Rattle.places.specs.Noted.{has_place}
use Rattle.places.proofs.last.last_of.Given as goal

-- no place from here on is equal
abbrev pub invariant-loop-index : goal.invariant-loop-index
invariant-loop-index l = has_place (drop l.index l.places) l.place ≡ false
