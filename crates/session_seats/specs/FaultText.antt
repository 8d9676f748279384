-- What is printed of a fault that ends a run with threads.
use Rattle.std.specs.Prelude.{ℕ, List, ◌++◌, codes, decimal}
use Rattle.session_machine.specs.declared.fault.EngineFault.{EngineFault}
use Rattle.session_machine.specs.declared.fault.EngineFault.TheVariants as engine_faults
use Rattle.session_seats.specs.declared.fault.ThreadFault.{ThreadFault}
use Rattle.session_seats.specs.declared.fault.ThreadFault.TheVariants.{ThreadRefused, SeatMismatch, Gate, Engine, OtherRun, Memory}

abbrev pub engine_fault_text : EngineFault → List ℕ
engine_fault_text engine_faults.Busy = codes "Busy"
engine_fault_text engine_faults.NotYourTurn = codes "NotYourTurn"
engine_fault_text engine_faults.StillBlocked = codes "StillBlocked"
engine_fault_text engine_faults.Idle = codes "Idle"
engine_fault_text engine_faults.Spent = codes "Spent"
engine_fault_text engine_faults.Memory = codes "Memory"
engine_fault_text engine_faults.NoSession = codes "NoSession"
engine_fault_text engine_faults.BlockNotAllowed = codes "BlockNotAllowed"

abbrev pub thread_fault_text : ThreadFault → List ℕ
thread_fault_text ThreadRefused = codes "ThreadRefused"
thread_fault_text (SeatMismatch session) = codes "SeatMismatch of session " ++ decimal session
thread_fault_text Gate = codes "Gate"
thread_fault_text (Engine fault) = codes "Engine: " ++ engine_fault_text fault
thread_fault_text OtherRun = codes "OtherRun"
thread_fault_text Memory = codes "Memory"
