use Rattle.std.proofs.Common.{◌≡◌}
use Rattle.values_tests.proofs.random_notes.write_all.Given as goal

-- a write changes no fate
abbrev pub invariant-loop : goal.invariant-loop
invariant-loop g l = (g.V.Versions.content l.store).fates ≡ (g.V.Versions.content l.initial.store).fates
