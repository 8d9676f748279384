-- What may stand in the way of a run on one thread: memory, or what the machine refuses; and of printing such runs.
use Rattle.std.specs.Prelude.{◌≡◌, ℕ, Bool, true, List, [], Some, Ok, Err}
use Rattle.session_machine.specs.declared.event.Event.{Event}
use Rattle.session_machine.specs.declared.event.Mode.{Mode}
use Rattle.session_machine.specs.declared.event.Mode.TheVariants.{Directed}
use Rattle.session_machine.specs.declared.fault.Refusal.{Refusal}
use Rattle.session_machine.specs.declared.fault.EngineFault.{EngineFault}
use Rattle.session_machine.specs.declared.reply.HistItem.{HistItem}
use Rattle.session_machine.specs.Machine.{Machine, Blocks, opening, next, turn_in, Run}
use Rattle.session_machine.specs.Engine.{fault_of}
use Rattle.session_seats.specs.declared.fault.ThreadFault.TheVariants as thread_faults
use Rattle.session_seats.specs.Orders.{Orders, OrderedAfter}
use Rattle.session_seats.specs.Refusals.{next_event}
use Rattle.spec_files.specs.Files.{File, FileIs}
use Rattle.spec_files.specs.Runs.{is_early_end}
use Rattle.spec_files.specs.declared.fault.RunFault.{RunFault}
use Rattle.spec_files.specs.declared.fault.RunFault.TheVariants as faults

-- after a history in order, the machine refuses the event that is next
pub record RefusesNext (orders : Orders) (blocks : Blocks) (count : ℕ) (mode : Mode) (fault : EngineFault) : Type 0 where
  pub items : List HistItem
  pub state : Machine
  pub run : Run blocks mode (opening count) items state
  pub ordered : OrderedAfter orders [] items
  pub event : Event
  pub due : next_event (turn_in state) (orders items) ≡ Some event
  pub refusal : Refusal
  pub refuses : next blocks mode state event ≡ Err refusal
  pub told : fault ≡ fault_of refusal

-- the faults of such a run
abbrev pub IsOfAlone : Orders → Blocks → ℕ → RunFault → Type 0
IsOfAlone orders blocks count faults.Memory = Unit {0}
IsOfAlone orders blocks count (faults.Threads (thread_faults.Engine fault)) = RefusesNext orders blocks count Directed fault
IsOfAlone orders blocks count _ = ⊥

-- the faults of printing permutations: memory was refused, a sink has failed, or the print ended early
abbrev pub IsOfPrint : Bool → RunFault → Type 0
IsOfPrint failed faults.Memory = Unit {0}
IsOfPrint failed faults.Write = failed ≡ true
IsOfPrint failed e = is_early_end e ≡ true

-- the faults of printing a file's permutations: memory was refused, the file is refused, or it is a spec whose print met this
pub data IsOfFile (bytes : List ℕ) (failed : Bool) (e : RunFault) : Type 0 where
  memory : e ≡ faults.Memory → IsOfFile bytes failed e
  refused : FileIs bytes (Err e) → IsOfFile bytes failed e
  prints : (file : File) → FileIs bytes (Ok file) → IsOfPrint failed e → IsOfFile bytes failed e
