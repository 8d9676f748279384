use Rattle.std.proofs.Common.{◌≡◌}
use Rattle.values_tests.proofs.stores.write_in_turn.Given as goal

abbrev pub invariant-loop : goal.invariant-loop
invariant-loop g l = (g.V.Versions.content l.store).fates ≡ (g.V.Versions.content l.initial.store).fates
