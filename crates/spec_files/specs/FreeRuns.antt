-- What a free run of a file prints, and what is answered of it.
use Rattle.std.specs.Prelude.{◌≡◌, ◌⊎◌, ℕ, Bool, List, ◌++◌, Option, Result, Ok, Err}
use Rattle.std.specs.Io.KnownBytes.{Appends}
use Rattle.session_machine.specs.declared.reply.HistItem.{HistItem}
use Rattle.session_machine.specs.Machine.{Blocks}
use Rattle.spec_parser.specs.Trees.{SpecTree}
use Rattle.permutation_plans.specs.FreeRegular.{IsFreeRegular}
use Rattle.report_lines.specs.declared.history.PlannedLaunch.{PlannedLaunch}
use Rattle.report_text.specs.declared.fault.Ended.{Ended}
use Rattle.report_text.specs.declared.fault.ReportFault.{ReportFault}
use Rattle.report_text.specs.Answers.{EndsAs, Puts, TellsFailure}
use Rattle.report_text.specs.FreeText.{free_says}
use Rattle.spec_files.specs.declared.fault.RunFault.{RunFault}
use Rattle.spec_files.specs.Faults.{report_fault}
use Rattle.spec_files.specs.FirstLine.{first_line}
use Rattle.spec_files.specs.Files.{File, FileIs}
use Rattle.spec_files.specs.Runs.{AnswersRun}

-- a launch, as the threads are given it
abbrev pub pair_of : PlannedLaunch → ℕ × ℕ
pair_of launch = (launch.session, launch.block)

-- the first line, and what the items say
abbrev pub free_text : SpecTree → List HistItem → List ℕ
free_text spec items = first_line spec ++ (free_says spec items).text

-- a fault of the text is told as one of the run
abbrev pub free_told : Result Ended ReportFault → Result (Unit {0}) RunFault
free_told (Ok ended) = Ok tt
free_told (Err f) = Err (report_fault f)

-- the text and behind it the notes of the free run with this history went out, or fronts of them, where a sink failed or memory was refused; the answer is how its setups ended
pub record IsFreeWritten (spec : SpecTree) (items : List HistItem) (out_old out_new notes_old notes_new : Option (List ℕ))
    (failed_old failed_new noted_old noted_new : Bool) (result : Result (Unit {0}) RunFault) : Type 0 where
  pub told : Result Ended ReportFault
  pub is : result ≡ free_told told
  pub ending : EndsAs (free_says spec items).ending told
  pub text : Puts out_old out_new (free_text spec items) told
  pub notes : Puts notes_old notes_new (free_says spec items).notes told
  pub order : (notes_new ≡ notes_old) ⊎ Appends out_old out_new (free_text spec items)
  pub fails : TellsFailure failed_old failed_new noted_old noted_new told

-- the spec has a free run whose text and notes went out, and the answer is how its setups ended
pub record IsFreeTold (spec : SpecTree) (blocks : Blocks) (out_old out_new notes_old notes_new : Option (List ℕ)) (result : Result (Unit {0}) RunFault) : Type 0 where
  pub items : List HistItem
  pub regular : IsFreeRegular spec blocks items
  pub answer : AnswersRun (free_says spec items).ending result
  pub text : Appends out_old out_new (free_text spec items)
  pub notes : Appends notes_old notes_new (free_says spec items).notes

-- the bytes are a spec of which that is so
pub record FileFreeTold (bytes : List ℕ) (out_old out_new notes_old notes_new : Option (List ℕ)) (result : Result (Unit {0}) RunFault) : Type 0 where
  pub file : File
  pub is : FileIs bytes (Ok file)
  pub told : IsFreeTold file.spec file.blocks out_old out_new notes_old notes_new result
