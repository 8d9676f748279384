-- What stands behind the lock of a directed run may cross threads, where its engine, its orders and its driver may.
use denote.RattleType.{RattleType}
use denote.Param.Send.{IsSend, AllSend, recorded_send, struct_send, view_send, sendable}
use denote.Struct.Declared.{shape as struct_shape}
use Rattle.std.proofs.Crossing.{crosses}
use Rattle.session_machine.specs.declared.engine.Engine as Engine
use Rattle.session_machine.proofs.event.Event.TheSendSync.{the_send as event_send}
use Rattle.session_seats.specs.declared.ordering.Orderings as Orderings
use Rattle.session_seats.proofs.fault.ThreadFault.TheSendSync.{the_send as fault_send}
use Rattle.session_crews.specs.declared.driven.Drives as Drives
use Rattle.session_crews.specs.contracts.shared.Shared as Shared
use Rattle.session_crews.specs.contracts.shared.Shared.TheInside as SharedInside

-- what is inside, and then as contracts see it
inside_send : (E O D : RattleType) (e : Engine.Ghosts E.Denot) (o : Orderings.Ghosts O.Denot) (d : Drives.Ghosts D.Denot E.Denot)
    → IsSend E → IsSend O → IsSend D → IsSend (SharedInside.the_row E O D e o d)
inside_send E O D e o d s t u =
    let T = SharedInside.the_type E O D e o d in
    let all : AllSend (struct_shape T).fields = (
      search sendable depth 60,
      (
        s,
        (
          u,
          (
            search (sendable, crosses) depth 60,
            (search (sendable, crosses, event_send) depth 60, (search sendable depth 60, (search (sendable, crosses, fault_send) depth 60, (search (sendable, crosses) depth 60, tt)))),
          ),
        ),
      ),
    ) in
    recorded_send _ _ _ T.to_one (struct_send (struct_shape T) all)

pub shared_send : (E O D : RattleType) (e : Engine.Ghosts E.Denot) (o : Orderings.Ghosts O.Denot) (d : Drives.Ghosts D.Denot E.Denot)
    → IsSend E → IsSend O → IsSend D → IsSend (Shared.the_row E O D e o d)
shared_send E O D e o d s t u = view_send _ _ _ _ _ (inside_send E O D e o d s t u)
