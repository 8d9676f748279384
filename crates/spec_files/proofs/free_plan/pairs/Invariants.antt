use Rattle.std.proofs.Common.{◌≡◌, map, take}
use Rattle.spec_files.specs.FreeRuns.{pair_of}
use Rattle.spec_files.proofs.free_plan.pairs.Given as goal

abbrev pub invariant-loop-launch : goal.invariant-loop-launch
invariant-loop-launch l = l.pairs.items ≡ map pair_of (take l.launch-index l.launches)
