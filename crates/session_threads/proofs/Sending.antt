-- An engine may cross threads, where its store may.
use denote.Ref.{NamedLft}
use denote.RattleType.{RattleType}
use denote.Param.Send.{IsSend, AllSend, recorded_send, struct_send, view_send, sendable}
use denote.Struct.Declared.{shape as struct_shape}
use Rattle.std.proofs.Crossing.{crosses}
use Rattle.sql_blocks.proofs.Sending.{block_sync}
use Rattle.row_versions.specs.declared.versions.Versions as Versions
use Rattle.session_machine.proofs.reply.HistItem.TheSendSync.{the_send as item_send}
use Rattle.session_core.proofs.kept.Kept.TheSendSync.{the_send as kept_send}
use Rattle.session_core.proofs.blockers.AllBlockers.TheSendSync.{the_send as blockers_send}
use Rattle.session_core.proofs.live.Live.TheSendSync.{the_send as live_send}
use Rattle.session_core.specs.contracts.engine.EngineState as EngineState
use Rattle.session_core.specs.contracts.engine.EngineState.TheInside as EngineInside
use Rattle.session_threads.specs.contracts.held.Held as Held

-- what is inside, and then as contracts see it
inside_send : (κ λ' : NamedLft) (V : RattleType) (v : Versions.Ghosts V.Denot) → IsSend V → IsSend (EngineInside.the_row κ λ' V v)
inside_send κ λ' V v s =
    let T = EngineInside.the_type κ λ' V v in
    let all : AllSend (struct_shape T).fields = (
      search (sendable, crosses, block_sync) depth 60 fits 10000,
      (search sendable depth 60, (search sendable depth 60, (search (sendable, crosses, live_send) depth 60, (search (sendable, crosses, kept_send) depth 60, (search (sendable, crosses, blockers_send) depth 60, (search (sendable, crosses, item_send) depth 60, (search sendable depth 60, tt))))))),
    ) in
    recorded_send _ _ _ T.to_one (struct_send (struct_shape T) all)

pub engine_send : (κ λ' : NamedLft) (V : RattleType) (v : Versions.Ghosts V.Denot) → IsSend V → IsSend (EngineState.the_row κ λ' V v)
engine_send κ λ' V v s = view_send _ _ _ _ _ (inside_send κ λ' V v s)

pub held_send : (κ λ' : NamedLft) (V : RattleType) (v : Versions.Ghosts V.Denot) → IsSend V → IsSend (Held.the_row κ λ' V v)
held_send κ λ' V v s =
    let T = Held.the_type κ λ' V v in
    let all : AllSend (struct_shape T).fields = (engine_send κ λ' V v s, tt) in
    recorded_send _ _ _ T.to_one (struct_send (struct_shape T) all)
