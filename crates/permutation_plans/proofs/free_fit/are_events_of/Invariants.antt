use Rattle.std.proofs.Common.{◌≡◌, ◌↔◌, drop}
use Rattle.permutation_plans.specs.FreeRegular.{events_of}
use Rattle.permutation_plans.proofs.free_fit.are_events_of.Given as goal

abbrev pub invariant-loop-event : goal.invariant-loop-event
invariant-loop-event l = (events_of l.session l.events ≡ l.wanted) ↔ (events_of l.session (drop l.event-index l.events) ≡ l.rest)
