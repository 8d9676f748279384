-- A permutation's report that was written.
use Rattle.std.specs.Prelude.{◌≡◌, ◌⊎◌, ℕ, Bool, List, Option, Result, Ok, Err}
use Rattle.std.specs.Io.KnownBytes.{Appends}
use Rattle.session_machine.specs.declared.reply.HistItem.{HistItem}
use Rattle.spec_parser.specs.Trees.{EntryTree, SpecTree}
use Rattle.report_text.specs.declared.fault.Ended.{Ended}
use Rattle.report_text.specs.declared.fault.ReportFault.{ReportFault}
use Rattle.report_text.specs.Answers.{EndsAs, Puts, TellsFailure}
use Rattle.report_text.specs.Permutation.{permutation_says}
use Rattle.spec_files.specs.declared.fault.RunFault.{RunFault}
use Rattle.spec_files.specs.Faults.{report_fault}

-- a fault of the report is told as one of the run
abbrev pub told_as : Result Ended ReportFault → Result Ended RunFault
told_as (Ok ended) = Ok ended
told_as (Err f) = Err (report_fault f)

-- the text and behind it the notes of the permutation with this history went out, or fronts of them, where a sink failed or memory was refused; the answer is how the report ends
pub record IsWritten (spec : SpecTree) (entries : List EntryTree) (items : List HistItem) (out_old out_new notes_old notes_new : Option (List ℕ))
    (failed_old failed_new noted_old noted_new : Bool) (result : Result Ended RunFault) : Type 0 where
  pub told : Result Ended ReportFault
  pub is : result ≡ told_as told
  pub ending : EndsAs (permutation_says spec entries items).ending told
  pub text : Puts out_old out_new (permutation_says spec entries items).text told
  pub notes : Puts notes_old notes_new (permutation_says spec entries items).notes told
  pub order : (notes_new ≡ notes_old) ⊎ Appends out_old out_new (permutation_says spec entries items).text
  pub fails : TellsFailure failed_old failed_new noted_old noted_new told
