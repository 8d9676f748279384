use Rattle.std.proofs.Common.{◌≡◌, map, take}
use Rattle.spec_parser.specs.Trees.{part_view}
use Rattle.permutation_plans.specs.Launches.{launch_in}
use Rattle.permutation_plans.proofs.launches.setups.Given as goal

abbrev pub invariant-loop-part : goal.invariant-loop-part
invariant-loop-part l = l.setups.items ≡ map (launch_in 0) (map part_view (take l.part-index l.part-items))
