use Rattle.std.proofs.Common.{◌≡◌, ℕ, []}
use Rattle.std.specs.Prelude.{Some, slice_get, length}
use Rattle.session_seats.specs.Free.{scripts_in}
use Rattle.session_crews.specs.Inner.FreeRuns.{ProgressOf, IsAt}
use Rattle.session_crews.proofs.free.at_start.Given as goal

abbrev pub invariant-loop-place : goal.invariant-loop-place
invariant-loop-place l = record {
  count : length l.progress.items ≡ l.place;
  each : (k : ℕ) (p : ProgressOf) → slice_get l.progress.items k ≡ Some p → IsAt (scripts_in l.scripts) [] k p;
}
