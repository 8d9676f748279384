use Rattle.row_locks.proofs.Paths.{run_kept, wait_kept, no_cycle_less}
use Rattle.row_locks.proofs.laws.no_cycle_appears.Goals as goal

pub returns : goal.returns
returns c = record {
  goes_on = run_kept;
  waits = λ edge mid after x blockers none grows idle free adds. wait_kept edge mid after x blockers none grows adds free idle;
  fewer = no_cycle_less;
}
