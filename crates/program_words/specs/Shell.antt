-- What the program does with the words of its command line: its exit status, what goes to its output, and what to its errors.
use Rattle.std.specs.Prelude.{◌≡◌, ◌≢◌, ℕ, Bool, true, false, IsTrue, List, Option, Result, Ok, Err, IfErr}
use Rattle.std.specs.Bool.{OnFalse}
use Rattle.std.specs.Io.KnownBytes.{Appends}
use Rattle.clap.specs.Words.{IsAmong, Kinds}
use Rattle.clap.specs.declared.error.kind.ErrorKind.{ErrorKind}
use Rattle.clap.specs.declared.error.kind.ErrorKind.TheVariants.{DisplayHelp, DisplayVersion}
use Rattle.iso_lexer.specs.Devices.{PutsFront}
use Rattle.spec_files.specs.Begun.{Begun, FileMaySay, FileSaysFreely, ListBegun}
use Rattle.spec_files.specs.Broken.{FileBroken}
use Rattle.spec_files.specs.FaultText.{fault_line}
use Rattle.spec_files.specs.Files.{FileIs}
use Rattle.spec_files.specs.FreeRuns.{FileFreeTold}
use Rattle.spec_files.specs.Lists.{FileLists}
use Rattle.spec_files.specs.Prints.{FileSays}
use Rattle.spec_files.specs.Runs.{is_refusal, is_of_listing, has_broken, has_ended, status_of as fault_status, IsListed, IsTold}
use Rattle.spec_files.specs.Stopped.{IsStoppedByThreads}
use Rattle.report_text.specs.Said.{Said}
use Rattle.spec_files.specs.declared.fault.RunFault.{RunFault}
use Rattle.spec_files.specs.declared.fault.RunFault.TheVariants as faults
use Rattle.program_words.specs.declared.options.Options.{Options}
use Rattle.program_words.specs.Options.{option_status}

-- a text went out, or a prefix of it where the sink has failed
pub record Took (failed : Bool) (old new : Option (List ℕ)) (text : List ℕ) : Type 0 where
  pub front : PutsFront old new text
  pub whole : OnFalse failed (Appends old new text)

-- ---- words that are refused

-- help or the version was asked for
abbrev pub is_request : ErrorKind → Bool
is_request DisplayHelp = true
is_request DisplayVersion = true
is_request _ = false

-- what was asked for goes to the output, a mistake is told to the errors, and nothing goes to the other
abbrev pub IsPutOut : Bool → List ℕ → Bool → Option (List ℕ) → Option (List ℕ) → Bool → Option (List ℕ) → Option (List ℕ) → Type 0
IsPutOut true text out_failed out_old out_new err_failed err_old err_new = Took out_failed out_old out_new text × (err_new ≡ err_old)
IsPutOut false text out_failed out_old out_new err_failed err_old err_new = Took err_failed err_old err_new text × (out_new ≡ out_old)

-- the words give no options, for one of these reasons: what clap says of it is put, and the exit status is the reason's. Where memory is wanted for that, the errors are told so
pub data IsRefused (kinds : Kinds) (out_failed : Bool) (out_old out_new : Option (List ℕ)) (err_failed : Bool) (err_old err_new : Option (List ℕ)) (status : ℕ) : Type 0 where
  said : (kind : ErrorKind) → IsAmong kind kinds → (text : List ℕ) → IsPutOut (is_request kind) text out_failed out_old out_new err_failed err_old err_new → status ≡ option_status kind
      → IsRefused kinds out_failed out_old out_new err_failed err_old err_new status
  unsaid : out_new ≡ out_old → Took err_failed err_old err_new (fault_line faults.Memory) → status ≡ 3
      → IsRefused kinds out_failed out_old out_new err_failed err_old err_new status

-- ---- words that give options

-- the permutations of the file were listed: their lines go to the output, wherever that ends a prefix of them, and nothing to the errors
pub record ListsTold (file : List ℕ) (limit : ℕ) (old new notes_old notes_new : Option (List ℕ)) (answer : Result (Unit {0}) RunFault) : Type 0 where
  pub lists : IsTrue (has_ended answer) → (said : Said) × FileLists file limit (Ok said) × IsListed old new answer said
  pub refused : IfErr answer (λ e. is_refusal e ≡ true → FileLists file limit (Err e))
  pub untouched : IfErr answer (λ e. is_refusal e ≡ true → new ≡ old)
  pub kinds : IfErr answer (λ e. is_of_listing e ≡ true)
  pub begun : ListBegun file limit old new
  pub noted : notes_new ≡ notes_old

-- its permutations ran: their text goes to the output, and their notes to the errors, wherever that ends fronts of them
pub record Ran (file : List ℕ) (limit : ℕ) (out_old out_new notes_old notes_new : Option (List ℕ)) (answer : Result (Unit {0}) RunFault) : Type 0 where
  pub told : IsTrue (has_ended answer) → (said : Said) × FileSays file limit (Ok said) × IsTold out_old out_new notes_old notes_new answer said
  pub refused : IfErr answer (λ e. is_refusal e ≡ true → FileSays file limit (Err e))
  pub untouched : IfErr answer (λ e. is_refusal e ≡ true → (out_new ≡ out_old) × (notes_new ≡ notes_old))
  pub begun : Begun (FileMaySay file limit) out_old out_new notes_old notes_new
  pub broken : IsTrue (has_broken answer) → FileBroken file limit out_old out_new notes_old notes_new
  pub unbroken : answer ≢ Err faults.ScheduleBroken
  pub sure : IsStoppedByThreads answer

-- it ran freely: the text of a free run that it may have goes to the output, and its notes to the errors; where it is refused, or its threads come to no end, nothing is written
pub record FileRanFreely (file : List ℕ) (out_old out_new notes_old notes_new : Option (List ℕ)) (answer : Result (Unit {0}) RunFault) : Type 0 where
  pub told : IsTrue (has_ended answer) → FileFreeTold file out_old out_new notes_old notes_new answer
  pub refused : IfErr answer (λ e. is_refusal e ≡ true → FileIs file (Err e))
  pub untouched : IfErr answer (λ e. is_refusal e ≡ true → (out_new ≡ out_old) × (notes_new ≡ notes_old))
  pub begun : Begun (FileSaysFreely file) out_old out_new notes_old notes_new
  pub broken : IsTrue (has_broken answer) → (out_new ≡ out_old) × (notes_new ≡ notes_old)
  pub unbroken : answer ≢ Err faults.ScheduleBroken

-- `--list` is looked at before all else, then `--free`, with which the limit counts for nothing
pub record Runs (o : Options) (file : List ℕ) (out_old out_new notes_old notes_new : Option (List ℕ)) (answer : Result (Unit {0}) RunFault) : Type 0 where
  pub listed : o.list ≡ true → ListsTold file o.limit out_old out_new notes_old notes_new answer
  pub freely : o.list ≡ false → o.free ≡ true → FileRanFreely file out_old out_new notes_old notes_new answer
  pub in_order : o.list ≡ false → o.free ≡ false → Ran file o.limit out_old out_new notes_old notes_new answer

-- 0 exactly where the run came to its end, else the fault's
abbrev pub exit_status : Result (Unit {0}) RunFault → ℕ
exit_status (Ok x) = 0
exit_status (Err e) = fault_status e
