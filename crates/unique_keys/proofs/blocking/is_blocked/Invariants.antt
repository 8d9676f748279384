use Rattle.std.proofs.Common.{◌≡◌, false, take}
use Rattle.std.specs.List.{list_any}
use Rattle.row_versions.specs.Log.{has_committed}
use Rattle.unique_keys.specs.Inner.Finding.{is_blocker}
use Rattle.unique_keys.specs.Inner.Slots.{kept}
use Rattle.unique_keys.proofs.blocking.is_blocked.Given as goal

-- none so far stands in the way
abbrev pub invariant-loop-other : goal.invariant-loop-other
invariant-loop-other g l =
    list_any (is_blocker (has_committed (g.V.Versions.content l.store)) (kept l.notes.slots.items) l.table l.columns l.asked l.tx) (take l.other-index l.others) ≡ false
