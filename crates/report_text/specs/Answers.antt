-- What writing a permutation answers.
use Rattle.std.specs.Prelude.{◌≡◌, ℕ, Bool, true, ◌||◌, List, ◌++◌, codes, Option, Result, Ok, Err, string_bytes}
use Rattle.std.specs.Io.KnownBytes.{Appends}
use Rattle.iso_lexer.specs.Devices.{PutsFront}
use Rattle.report_text.specs.declared.fault.ReportFault.{ReportFault}
use Rattle.report_text.specs.declared.fault.ReportFault.TheVariants as faults
use Rattle.report_text.specs.declared.fault.Ended.{Ended}
use Rattle.report_text.specs.declared.fault.Ended.TheVariants as ends
use Rattle.report_text.specs.declared.fault.Ending.{Ending as Found}
use Rattle.report_text.specs.declared.fault.Ending.TheVariants as found
use Rattle.report_text.specs.Said.{Ending, whole, invalid, setup_failed, setup_waits}

-- the ending that was found, with its text
abbrev pub ending_of : Found → Ending
ending_of found.Whole = whole
ending_of found.Invalid = invalid
ending_of (found.SetupFailed text) = setup_failed (string_bytes text)
ending_of found.SetupWaits = setup_waits

-- what is answered of it
abbrev pub answer_of : Found → Result Ended ReportFault
answer_of found.Whole = Ok ends.Whole
answer_of found.Invalid = Ok ends.Invalid
answer_of (found.SetupFailed text) = Err (faults.SetupFailed text)
answer_of found.SetupWaits = Err faults.SetupWaits

-- what is answered of a report to its end
abbrev pub ended_as : Ended → Ending
ended_as ends.Whole = whole
ended_as ends.Invalid = invalid

-- the answer is how the report ends, unless a sink failed or memory was refused
abbrev pub EndsAs : Ending → Result Ended ReportFault → Type 0
EndsAs ending (Ok ended) = ended_as ended ≡ ending
EndsAs ending (Err (faults.SetupFailed text)) = setup_failed (string_bytes text) ≡ ending
EndsAs ending (Err faults.SetupWaits) = setup_waits ≡ ending
EndsAs ending (Err faults.Write) = Unit {0}
EndsAs ending (Err faults.Memory) = Unit {0}

-- memory was not refused
abbrev pub IsNotMemory : {A : Type 0} → Result A ReportFault → Type 0
IsNotMemory (Ok a) = Unit {0}
IsNotMemory (Err (faults.SetupFailed text)) = Unit {0}
IsNotMemory (Err faults.SetupWaits) = Unit {0}
IsNotMemory (Err faults.Write) = Unit {0}
IsNotMemory (Err faults.Memory) = ⊥

-- this text went out; where a sink failed or memory was refused, a prefix of it
abbrev pub Puts : {A : Type 0} → Option (List ℕ) → Option (List ℕ) → List ℕ → Result A ReportFault → Type 0
Puts old new text (Ok a) = Appends old new text
Puts old new text (Err (faults.SetupFailed why)) = Appends old new text
Puts old new text (Err faults.SetupWaits) = Appends old new text
Puts old new text (Err faults.Write) = PutsFront old new text
Puts old new text (Err faults.Memory) = PutsFront old new text

-- Write is answered exactly where one of the two sinks has failed in the call; else both marks are those from before
abbrev pub TellsFailure : {A : Type 0} → Bool → Bool → Bool → Bool → Result A ReportFault → Type 0
TellsFailure old new notes_old notes_new (Ok a) = (new ≡ old) × (notes_new ≡ notes_old)
TellsFailure old new notes_old notes_new (Err (faults.SetupFailed why)) = (new ≡ old) × (notes_new ≡ notes_old)
TellsFailure old new notes_old notes_new (Err faults.SetupWaits) = (new ≡ old) × (notes_new ≡ notes_old)
TellsFailure old new notes_old notes_new (Err faults.Write) = (new || notes_new) ≡ true
TellsFailure old new notes_old notes_new (Err faults.Memory) = (new ≡ old) × (notes_new ≡ notes_old)

-- what is printed of why a permutation was not reported to its end
abbrev pub report_fault_text : ReportFault → List ℕ
report_fault_text faults.Write = codes "R2 Write"
report_fault_text faults.Memory = codes "Memory"
report_fault_text (faults.SetupFailed text) = codes "R6 SetupFailed: " ++ string_bytes text
report_fault_text faults.SetupWaits = codes "R7 SetupWaits"
