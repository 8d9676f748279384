use Rattle.std.proofs.Common.{◌≡◌, map, take}
use Rattle.spec_parser.specs.Trees.{spec_view, entry_view}
use Rattle.permutation_plans.specs.Launches.{launch_of_entry}
use Rattle.permutation_plans.proofs.launches.steps.Given as goal

abbrev pub invariant-loop-entry : goal.invariant-loop-entry
invariant-loop-entry l = l.steps.items ≡ map (launch_of_entry (spec_view l.spec)) (map entry_view (take l.entry-index l.entries))
