use Rattle.std.proofs.Common.{◌≡◌, filter, take}
use Rattle.row_versions.specs.Log.{has_committed}
use Rattle.unique_keys.specs.Inner.Finding.{is_blocker}
use Rattle.unique_keys.specs.Inner.Slots.{kept}
use Rattle.unique_keys.proofs.blocking.blockers.Given as goal

-- those of the ones so far who stand in the way
abbrev pub invariant-loop-other : goal.invariant-loop-other
invariant-loop-other g l =
    l.by.items ≡ filter (is_blocker (has_committed (g.V.Versions.content l.store)) (kept l.notes.slots.items) l.table l.columns l.asked l.tx) (take l.other-index l.others)
