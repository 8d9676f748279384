-- What an event makes of the machine alone.
use Rattle.std.specs.Prelude.{Result, Ok, Err}
use Rattle.session_machine.specs.declared.reply.Reply.{Reply}
use Rattle.session_machine.specs.declared.fault.Refusal.{Refusal}
use Rattle.session_machine.specs.Machine.{Machine, Next}

-- what stands after an event, and what was answered; a refusal changes nothing
pub record Answered : Type 0 where
  pub machine : Machine
  pub answer : Result Reply Refusal

abbrev pub engine_answer : Machine → Result Next Refusal → Answered
engine_answer m (Ok n) = record { machine = n.machine; answer = Ok n.reply }
engine_answer m (Err refusal) = record { machine = m; answer = Err refusal }
