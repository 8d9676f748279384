-- What stands behind the lock of a free run may cross threads, where its engine may.
use denote.Ref.{NamedLft}
use denote.RattleType.{RattleType}
use denote.Param.Send.{IsSend, AllSend, recorded_send, struct_send, view_send, sendable}
use denote.Struct.Declared.{shape as struct_shape}
use Rattle.std.proofs.Crossing.{crosses}
use Rattle.session_machine.specs.declared.engine.Engine as Engine
use Rattle.session_seats.specs.declared.ordering.Scripting as Scripting
use Rattle.session_seats.proofs.fault.ThreadFault.TheSendSync.{the_send as fault_send}
use Rattle.session_crews.proofs.progress.Progress.TheSendSync.{the_send as progress_send}
use Rattle.session_crews.specs.contracts.free_shared.FreeShared as FreeShared
use Rattle.session_crews.specs.contracts.free_shared.FreeShared.TheInside as FreeSharedInside

-- what is inside, and then as contracts see it
inside_send : (κ : NamedLft) (E P : RattleType) (e : Engine.Ghosts E.Denot) (p : Scripting.Ghosts P.Denot) → IsSend E → IsSend P → IsSend (FreeSharedInside.the_row κ E P e p)
inside_send κ E P e p s t =
    let T = FreeSharedInside.the_type κ E P e p in
    let all : AllSend (struct_shape T).fields = (
      s,
      (search (sendable, crosses, progress_send) depth 60 fits 10000, (search (sendable, crosses, fault_send) depth 60, (search (sendable, crosses) depth 60, tt))),
    ) in
    recorded_send _ _ _ T.to_one (struct_send (struct_shape T) all)

pub free_shared_send : (κ : NamedLft) (E P : RattleType) (e : Engine.Ghosts E.Denot) (p : Scripting.Ghosts P.Denot) → IsSend E → IsSend P → IsSend (FreeShared.the_row κ E P e p)
free_shared_send κ E P e p s t = view_send _ _ _ _ _ (inside_send κ E P e p s t)
