use Rattle.std.proofs.Common.{◌≡◌}
use Rattle.values_tests.proofs.keys.put_all.Given as goal

abbrev pub invariant-loop-one : goal.invariant-loop-one
invariant-loop-one g l = (g.V.Versions.content l.store).fates ≡ (g.V.Versions.content l.initial.store).fates
