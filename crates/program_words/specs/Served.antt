-- What the program does, from its words to its exit status.
use Rattle.std.specs.Prelude.{◌≡◌, ◌≢◌, ◌||◌, ◌+◌, ℕ, Bool, true, false, List, [], Option, Result, Err, IsErrOf}
use Rattle.clap.specs.Words.{Text, fault_of}
use Rattle.iso_lexer.specs.Devices.{IsFront}
use Rattle.iso_lexer.specs.declared.limits.TheConstants.{LONGEST_FILE}
use Rattle.spec_files.specs.declared.fault.RunFault.{RunFault}
use Rattle.spec_files.specs.declared.fault.RunFault.TheVariants as faults
use Rattle.program_words.specs.declared.options.Options.{Options}
use Rattle.program_words.specs.Options.{GivesOptions, program}
use Rattle.program_words.specs.Shell.{IsRefused, Runs, exit_status}
use Rattle.program_words.specs.Terminal.{Hints, IsUnread, TellsFault}

-- the file runs: first its text and notes go out, and then the line of its fault; and the exit status is this
pub record RunsFile (options : Options) (file : List ℕ) (there out_failed : Bool) (out_old out_new : Option (List ℕ)) (err_failed : Bool) (err_old err_new : Option (List ℕ)) (status : ℕ) : Type 0 where
  pub answer : Result (Unit {0}) RunFault
  pub noted : Option (List ℕ)
  pub runs : Runs options file out_old out_new err_old noted answer
  pub told : TellsFault there file answer err_failed noted err_new
  pub ends : status ≡ exit_status answer
  -- the file was read before: Read isn't answered any more, and Write only where the output or the errors have failed
  pub read : answer ≢ Err faults.Read
  pub write : IsErrOf answer faults.Write → (out_failed || err_failed) ≡ true

-- the words are refused, and nothing is read; or no file is there; or the bytes that were read, all of the input up to one byte over the longest file, run with the options of the words.
-- Where someone types the file (`typed`) it is said first how to give one; where someone reads the errors (`there`) the line of a fault is followed by the line of the file, and by what cures the fault
pub data IsServed (words : List Text) (left_old left_new : Option (List ℕ)) (in_failed typed there out_failed : Bool) (out_old out_new : Option (List ℕ))
    (err_failed : Bool) (err_old err_new : Option (List ℕ)) (status : ℕ) : Type 0 where
  refuses : IsRefused (fault_of program words) out_failed out_old out_new err_failed err_old err_new status → left_new ≡ left_old
      → IsServed words left_old left_new in_failed typed there out_failed out_old out_new err_failed err_old err_new status
  lacks : fault_of program words ≡ [] → out_new ≡ out_old → IsUnread left_old left_new in_failed typed err_failed err_old err_new status
      → IsServed words left_old left_new in_failed typed there out_failed out_old out_new err_failed err_old err_new status
  serves : (options : Options) → fault_of program words ≡ [] → GivesOptions words options → (hinted : Option (List ℕ)) → Hints typed err_old hinted
      → (file : List ℕ) → IsFront (LONGEST_FILE + 1) left_old left_new file → in_failed ≡ false → RunsFile options file there out_failed out_old out_new err_failed hinted err_new status
      → IsServed words left_old left_new in_failed typed there out_failed out_old out_new err_failed err_old err_new status
