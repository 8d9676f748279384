use Rattle.std.proofs.Common.{◌≡◌, ◌++◌, drop}
use Rattle.std.specs.Prelude.{map}
use Rattle.spec_parser.specs.Trees.{session_view}
use Rattle.permutation_plans.specs.FreeLaunches.{script, scripts_of}
use Rattle.permutation_plans.proofs.free_launches.scripts.Given as goal

abbrev pub invariant-loop-session : goal.invariant-loop-session
invariant-loop-session l = scripts_of l.scripts ++ map script (map session_view (drop l.session-index l.sessions)) ≡ map script (map session_view l.sessions)
