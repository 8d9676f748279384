-- What doing one event leaves, of the engine and of the session's seat.
use Rattle.std.specs.Prelude.{◌≡◌, Ok, Err}
use Rattle.session_machine.specs.declared.event.Event.{Event}
use Rattle.session_machine.specs.declared.reply.Reply.{Reply}
use Rattle.session_machine.specs.declared.fault.EngineFault.{EngineFault}
use Rattle.session_machine.specs.declared.fault.EngineFault.TheVariants as engine_faults
use Rattle.session_machine.specs.Engine.{Engine, IsDue, engine_after, spent_engine}
use Rattle.session_seats.specs.declared.fault.ThreadFault.{ThreadFault}
use Rattle.session_seats.specs.declared.fault.ThreadFault.TheVariants.{Engine as EngineRefused, Memory}
use Rattle.session_seats.specs.Seats.{SeatOf, with_item}

-- the engine is still over what it was opened over
abbrev pub IsRunOf : Engine → Engine → Type 0
IsRunOf before after = (after.blocks ≡ before.blocks) × (after.count ≡ before.count) × (after.mode ≡ before.mode)

-- the engine answered the event as the machine does, and the seat has it
pub record Acted (event : Event) (before after : Engine) (held kept : SeatOf) : Type 0 where
  pub reply : Reply
  pub engine : engine_after before event ≡ record { engine = after; answer = Ok reply }
  pub seat : kept ≡ with_item held event reply

-- the engine refused the event: as the machine does, or for want of memory, after which it is spent
abbrev pub RefusesEvent : Event → Engine → EngineFault → Engine → Type 0
RefusesEvent event before engine_faults.Memory after = (after ≡ spent_engine before) × IsDue before event
RefusesEvent event before fault after = engine_after before event ≡ record { engine = after; answer = Err fault }

-- the event was not done: the engine refused it, or memory was refused before the engine was asked
abbrev pub NotActed : Event → Engine → ThreadFault → Engine → Type 0
NotActed event before (EngineRefused fault) after = RefusesEvent event before fault after
NotActed event before Memory after = after ≡ before
NotActed event before _ after = ⊥
