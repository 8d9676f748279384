-- What a run is told to have met.
use Rattle.std.specs.Prelude.{Bool, true, false, Option, Some, None, if◌then◌else◌}
use Rattle.session_machine.specs.declared.fault.EngineFault.TheVariants as engine_faults
use Rattle.session_seats.specs.declared.fault.ThreadFault.{ThreadFault}
use Rattle.session_seats.specs.declared.fault.ThreadFault.TheVariants as thread_faults

-- the engine refused what was next for it
abbrev pub is_refusal : ThreadFault → Bool
is_refusal (thread_faults.Engine engine_faults.Memory) = false
is_refusal (thread_faults.Engine engine_faults.NotYourTurn) = false
is_refusal (thread_faults.Engine fault) = true
is_refusal _ = false

-- it is another run than the one that was handed in: a fault that was met there is told, unless its engine refused what was next; else that it is another run
abbrev pub told_of_another : Option ThreadFault → Option ThreadFault
told_of_another None = Some thread_faults.OtherRun
told_of_another (Some fault) = Some (if is_refusal fault then thread_faults.OtherRun else fault)

-- it is the run that was handed in, and what was met in it is told; or it is another
abbrev pub told_of : Bool → Option ThreadFault → Option ThreadFault
told_of true met = met
told_of false met = told_of_another met
