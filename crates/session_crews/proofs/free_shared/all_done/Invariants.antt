use Rattle.std.proofs.Common.{◌≡◌, ◌<◌, ℕ, [], true}
use Rattle.std.specs.Prelude.{Some, slice_get}
use Rattle.session_crews.specs.Inner.FreeRuns.{ProgressOf}
use Rattle.session_crews.proofs.free_shared.all_done.Given as goal

abbrev pub invariant-loop-each : goal.invariant-loop-each
invariant-loop-each l = (k : ℕ) (p : ProgressOf) → k < l.each-index → slice_get l.progress k ≡ Some p → (p.over ≡ true) × (p.events ≡ [])
