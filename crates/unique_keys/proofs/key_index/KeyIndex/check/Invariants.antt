use Rattle.row_versions.specs.Log.{IsOpen}
use Rattle.unique_keys.specs.Writes.{IsUpToDate}
use Rattle.unique_keys.specs.Checks.{FreeBefore, key_blockers, taken_by}
use Rattle.unique_keys.proofs.key_index.KeyIndex.check.Given as goal

-- the keys so far are free
abbrev pub invariant-loop-key : goal.invariant-loop-key
invariant-loop-key g l =
    let content = g.V.Versions.content l.store in
    IsUpToDate l.self content → IsOpen content l.tx → FreeBefore (key_blockers content l.keys.table l.tx l.values) (taken_by content l.keys.table l.tx l.except l.values) l.keys l.key
