use Rattle.std.proofs.Common.{◌≡◌, true, take}
use Rattle.std.specs.List.{list_all}
use Rattle.unique_keys.specs.Inner.Listing.{AreOnce, KeepsRows, is_coded}
use Rattle.unique_keys.proofs.known.add_codes.Given as goal

-- the note's row is listed for the keys so far
abbrev pub invariant-loop-key : goal.invariant-loop-key
invariant-loop-key l = KeepsRows l.initial.by_code l.by_code × (AreOnce l.initial.by_code → AreOnce l.by_code) × (list_all (is_coded l.note l.by_code) (take l.key-index l.known) ≡ true)
