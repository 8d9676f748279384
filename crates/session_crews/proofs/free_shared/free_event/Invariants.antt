use Rattle.std.proofs.Common.{◌≡◌}
use Rattle.session_machine.specs.Machine.{session_of}
use Rattle.session_crews.proofs.free_shared.free_event.Given as goal

abbrev pub invariant-loop : goal.invariant-loop
invariant-loop g l = record {
  can : (goal.iterator-loop g).can_next l.iterator';
  finite : (goal.iterator-loop g).is_finite l.iterator';
  admitted : l.admitted ≡ l.fn.event;
  event : session_of l.admitted ≡ (g.S.SeatAt.seat l.seat).session;
  seat : (g.S.SeatAt.seat l.seat).session ≡ (g.S.SeatAt.seat l.initial.seat).session;
}
