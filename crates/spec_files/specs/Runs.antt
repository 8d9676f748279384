-- What a run answers.
use Rattle.std.specs.Prelude.{◌≡◌, ℕ, Bool, true, false, List, Result, Ok, Err, Option, if◌then◌else◌}
use Rattle.std.specs.String.{string_bytes}
use Rattle.std.specs.Io.KnownBytes.{Appends}
use Rattle.spec_files.specs.declared.fault.RunFault.{RunFault}
use Rattle.spec_files.specs.declared.fault.RunFault.TheVariants as faults
use Rattle.session_machine.specs.declared.fault.EngineFault.TheVariants as engine_faults
use Rattle.session_machine.specs.declared.reply.HistItem.{HistItem}
use Rattle.session_seats.specs.declared.fault.ThreadFault.{ThreadFault}
use Rattle.session_seats.specs.declared.fault.ThreadFault.TheVariants as thread_faults
use Rattle.session_machine.specs.Machine.{Blocks}
use Rattle.spec_parser.specs.Trees.{EntryTree, SpecTree}
use Rattle.permutation_plans.specs.Regular.{IsRegular}
use Rattle.report_text.specs.Said.{Said, Ending, whole, invalid, setup_failed, setup_waits, too_many}
use Rattle.report_text.specs.Permutation.{permutation_says}

-- the file itself is refused, before anything is written
abbrev pub is_refusal : RunFault → Bool
is_refusal (faults.Lex f) = true
is_refusal (faults.Spec f) = true
is_refusal (faults.Sql f) = true
is_refusal (faults.NotUtf8 at) = true
is_refusal _ = false

-- the run came to an end, though not to the end of the file
abbrev pub is_early_end : RunFault → Bool
is_early_end (faults.SetupFailed text) = true
is_early_end faults.SetupWaits = true
is_early_end faults.TooManyPermutations = true
is_early_end _ = false

-- a thread's fault that is no want of memory, which is told by its own name
abbrev pub is_no_memory : ThreadFault → Bool
is_no_memory thread_faults.Memory = false
is_no_memory (thread_faults.Engine engine_faults.Memory) = false
is_no_memory _ = true

-- want of memory is told as such, and as no thread's fault
abbrev pub tells_memory : RunFault → Bool
tells_memory (faults.Threads f) = is_no_memory f
tells_memory _ = true

-- a fault that the run of one permutation may answer before anything of it is written
abbrev pub is_of_run : RunFault → Bool
is_of_run faults.ScheduleBroken = true
is_of_run (faults.Threads f) = is_no_memory f
is_of_run faults.Memory = true
is_of_run _ = false

-- a fault that the run of one permutation, and writing its report, may answer
abbrev pub is_of_one : RunFault → Bool
is_of_one faults.Write = true
is_of_one (faults.SetupFailed text) = true
is_of_one faults.SetupWaits = true
is_of_one faults.ScheduleBroken = true
is_of_one (faults.Threads f) = is_no_memory f
is_of_one faults.Memory = true
is_of_one _ = false

-- a fault that reading a file may answer
abbrev pub is_of_reading : RunFault → Bool
is_of_reading (faults.Lex f) = true
is_of_reading (faults.Spec f) = true
is_of_reading (faults.Sql f) = true
is_of_reading (faults.NotUtf8 at) = true
is_of_reading faults.Memory = true
is_of_reading _ = false

-- a fault that a list may answer: it runs nothing
abbrev pub is_of_listing : RunFault → Bool
is_of_listing (faults.SetupFailed text) = false
is_of_listing faults.SetupWaits = false
is_of_listing faults.ScheduleBroken = false
is_of_listing (faults.Threads f) = false
is_of_listing _ = true

-- the run of a permutation came to no end, or launched something else, so that nothing of it is written
abbrev pub is_broken : RunFault → Bool
is_broken faults.ScheduleBroken = true
is_broken (faults.Threads f) = true
is_broken _ = false

abbrev pub has_broken : Result (Unit {0}) RunFault → Bool
has_broken (Ok x) = false
has_broken (Err e) = is_broken e

abbrev pub has_ended : Result (Unit {0}) RunFault → Bool
has_ended (Ok x) = true
has_ended (Err e) = is_early_end e

-- the file was read to its end, or as far as a file may reach
abbrev pub is_read_by : RunFault → Bool
is_read_by faults.Read = false
is_read_by faults.Memory = false
is_read_by _ = true

abbrev pub has_read : Result (Unit {0}) RunFault → Bool
has_read (Ok x) = true
has_read (Err e) = is_read_by e

-- the answer to a run, of all permutations or of one, that ended so
abbrev pub AnswersRun : Ending → Result (Unit {0}) RunFault → Type 0
AnswersRun whole result = result ≡ Ok tt
AnswersRun invalid result = result ≡ Ok tt
AnswersRun (setup_failed text) (Err (faults.SetupFailed told)) = string_bytes told ≡ text
AnswersRun (setup_failed text) _ = ⊥
AnswersRun setup_waits result = result ≡ Err faults.SetupWaits
AnswersRun too_many result = result ≡ Err faults.TooManyPermutations

-- a file that is refused, or of which a run ends early, ends the program with 1; a device, memory, a thread or a schedule that fails with 3
abbrev pub status_of : RunFault → ℕ
status_of e = if is_refusal e then 1 else (if is_early_end e then 1 else 3)

-- the run ended so, and its text went out
pub record IsListed (old new : Option (List ℕ)) (result : Result (Unit {0}) RunFault) (said : Said) : Type 0 where
  pub answer : AnswersRun said.ending result
  pub text : Appends old new said.text

-- the run ended so, and its text and notes went out
pub record IsTold (out_old out_new notes_old notes_new : Option (List ℕ)) (result : Result (Unit {0}) RunFault) (said : Said) : Type 0 where
  pub answer : AnswersRun said.ending result
  pub text : Appends out_old out_new said.text
  pub notes : Appends notes_old notes_new said.notes

-- the permutation has a regular history, whose report went out
pub record IsOneTold (spec : SpecTree) (blocks : Blocks) (entries : List EntryTree) (out_old out_new notes_old notes_new : Option (List ℕ)) (result : Result (Unit {0}) RunFault) : Type 0 where
  pub items : List HistItem
  pub regular : IsRegular spec blocks entries items
  pub answer : AnswersRun (permutation_says spec entries items).ending result
  pub text : Appends out_old out_new (permutation_says spec entries items).text
  pub notes : Appends notes_old notes_new (permutation_says spec entries items).notes
