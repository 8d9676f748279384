-- What a free run of a spec launches.
use Rattle.std.specs.Prelude.{ℕ, List, ◌++◌, map, option_to_list}
use Rattle.std.specs.Global.{Vec}
use Rattle.spec_parser.specs.Trees.{PartTree, StepTree, SessionTree, SpecTree}
use Rattle.report_lines.specs.declared.history.PlannedLaunch.{PlannedLaunch}
use Rattle.permutation_plans.specs.Launches.{launch_in, own_launches}

-- blocks with their sessions that run one after the other; of each session the blocks of its own; the blocks of the control session behind them
pub record FreeLaunches : Type 0 where
  pub before : List PlannedLaunch
  pub scripts : List (List ℕ)
  pub after : List ℕ

abbrev pub blocks_in : Vec ℕ → List ℕ
blocks_in v = v.items

abbrev pub scripts_of : Vec (Vec ℕ) → List (List ℕ)
scripts_of v = map blocks_in v.items

abbrev pub block : PartTree → ℕ
block part = part.block

abbrev pub step_block : StepTree → ℕ
step_block step = step.part.block

-- the blocks of a session's steps, and its teardown
abbrev pub script : SessionTree → List ℕ
script s = map step_block s.steps ++ map block (option_to_list s.teardown)

-- the main setups in the control session and each session's setup; each session's script; the main teardown
abbrev pub free_launches : SpecTree → FreeLaunches
free_launches spec = record {
  before = map (launch_in 0) spec.setups ++ own_launches (λ s. s.setup) spec.sessions;
  scripts = map script spec.sessions;
  after = map block (option_to_list spec.teardown);
}
