-- What the errors take beside notes: how to give a file, the line of a fault, and at a terminal the line of the file that it names and words on its cure.
use Rattle.std.specs.Prelude.{◌≡◌, ◌+◌, ℕ, Bool, true, false, List, [], ◌++◌, Option, Result, Ok, Err, codes}
use Rattle.std.specs.Io.KnownBytes.{Appends}
use Rattle.iso_lexer.specs.Devices.{PutsFront, TakesFew}
use Rattle.iso_lexer.specs.declared.limits.TheConstants.{LONGEST_FILE}
use Rattle.spec_files.specs.FaultText.{fault_line}
use Rattle.spec_files.specs.Runs.{status_of}
use Rattle.spec_files.specs.declared.fault.RunFault.{RunFault}
use Rattle.spec_files.specs.declared.fault.RunFault.TheVariants as faults
use Rattle.program_words.specs.Cures.{words_for}
use Rattle.program_words.specs.Places.{place_in_file, quoted_at}
use Rattle.program_words.specs.Shell.{Took}

-- ---- before the file is read

-- how to give a file
abbrev pub hint : List ℕ
hint = codes "isolationtester: reads a spec file from the keyboard, up to Ctrl-D; to give a file: isolationtester < FILE\n"

-- where the file is typed at a terminal, it is said how to give one
abbrev pub Hints : Bool → Option (List ℕ) → Option (List ℕ) → Type 0
Hints true old new = Appends old new hint
Hints false old new = new ≡ old

-- why no file is there: Read exactly where the input has failed, else memory was refused
abbrev pub FailsFirst : Bool → RunFault → Type 0
FailsFirst in_failed faults.Read = in_failed ≡ true
FailsFirst in_failed faults.Memory = in_failed ≡ false
FailsFirst in_failed _ = ⊥

-- no file is there: the errors fail to take how to give one, and nothing is read, or the fault is told; and the exit status is this
pub data IsUnread (left_old left_new : Option (List ℕ)) (in_failed typed : Bool) (err_failed : Bool) (err_old err_new : Option (List ℕ)) (status : ℕ) : Type 0 where
  unhinted : typed ≡ true → err_failed ≡ true → PutsFront err_old err_new hint → left_new ≡ left_old → status ≡ 3 → IsUnread left_old left_new in_failed typed err_failed err_old err_new status
  faulted : (hinted : Option (List ℕ)) → Hints typed err_old hinted → (e : RunFault) → FailsFirst in_failed e → Took err_failed hinted err_new (fault_line e)
      → TakesFew (LONGEST_FILE + 1) left_old left_new → status ≡ status_of e → IsUnread left_old left_new in_failed typed err_failed err_old err_new status

-- ---- behind the run

-- at a terminal the line of the file is quoted that a fault names, and then it is said what cures it
abbrev pub quote_of : Bool → List ℕ → RunFault → List ℕ
quote_of true file e = quoted_at file (place_in_file e) ++ words_for file e
quote_of false file e = []

abbrev pub TellsFault : Bool → List ℕ → Result (Unit {0}) RunFault → Bool → Option (List ℕ) → Option (List ℕ) → Type 0
TellsFault there file (Ok x) failed noted new = new ≡ noted
TellsFault there file (Err e) failed noted new = Took failed noted new (fault_line e ++ quote_of there file e)
