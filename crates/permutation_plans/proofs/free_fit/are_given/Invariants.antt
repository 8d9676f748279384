use Rattle.std.proofs.Common.{◌↔◌, ◌+◌, map, drop}
use Rattle.permutation_plans.specs.FreeLaunches.{blocks_in}
use Rattle.permutation_plans.specs.FreeRegular.{AreGiven}
use Rattle.permutation_plans.proofs.free_fit.are_given.Given as goal

abbrev pub invariant-loop-place : goal.invariant-loop-place
invariant-loop-place l = AreGiven l.events 1 (map blocks_in l.scripts) ↔ AreGiven l.events (l.place + 1) (map blocks_in (drop l.place l.scripts))
