-- What may stop the run of a permutation whose blocks and steps are there.
use Rattle.std.specs.Prelude.{◌≡◌, Bool, true, false, List, Result, IfErr}
use Rattle.session_machine.specs.declared.fault.EngineFault.TheVariants as engine_faults
use Rattle.session_machine.specs.Machine.{Blocks}
use Rattle.session_seats.specs.declared.fault.ThreadFault.TheVariants as thread_faults
use Rattle.spec_parser.specs.Trees.{EntryTree, SpecTree}
use Rattle.spec_files.specs.Complete.{HasItsBlocks, HasItsSteps}
use Rattle.spec_files.specs.Runs.{is_broken}
use Rattle.spec_files.specs.declared.fault.RunFault.{RunFault}
use Rattle.spec_files.specs.declared.fault.RunFault.TheVariants as faults

-- want of memory, a thread that isn't started, a gate, or threads that come out of turn, or leave a run before its end, or its seats otherwise than they should; what else an engine refuses is none of these
abbrev pub is_of_threads : RunFault → Bool
is_of_threads faults.Memory = true
is_of_threads (faults.Threads thread_faults.ThreadRefused) = true
is_of_threads (faults.Threads thread_faults.Gate) = true
is_of_threads (faults.Threads (thread_faults.SeatMismatch session)) = true
is_of_threads (faults.Threads thread_faults.OtherRun) = true
is_of_threads (faults.Threads (thread_faults.Engine engine_faults.NotYourTurn)) = true
is_of_threads _ = false

-- a run that came to no end was stopped by such a fault
abbrev pub IsStoppedByThreads : Result (Unit {0}) RunFault → Type 0
IsStoppedByThreads result = IfErr result (λ e. is_broken e ≡ true → is_of_threads e ≡ true)

-- so it is where the permutation's blocks and steps are there
abbrev pub IsStoppedSo : SpecTree → Blocks → List EntryTree → Result (Unit {0}) RunFault → Type 0
IsStoppedSo spec blocks entries result = HasItsBlocks spec blocks → HasItsSteps spec entries → IsStoppedByThreads result
