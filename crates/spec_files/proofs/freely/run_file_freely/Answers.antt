use Rattle.std.proofs.lemmas.Result.{err_from_is_err_and}
use Rattle.spec_files.specs.BlockAnswers.{file_view}
use Rattle.spec_files.proofs.Listing.{differs}
use Rattle.spec_files.proofs.Beginning.{freely_begun}
use Rattle.spec_files.proofs.Whole.{room_of}
use Rattle.spec_files.proofs.freely.run_file_freely.Goals as goal

pub returns-in_err-file-clause-refused : goal.returns-in_err-file-clause-refused
returns-in_err-file-clause-refused g c =
    let p = err_from_is_err_and c.from_residual.result c.from_residual.ensures.1 in
    rw (p.1, p.2) (λ refusal. c.in_err-file.ensures.err (differs c.in_err-file.field-0.0 refusal))

pub returns-clause-told : goal.returns-clause-told
returns-clause-told g c ended = record {
  file = file_view c.in_ok-file.file;
  is = c.in_ok-file.ensures.ok;
  told = (c.requires.runs _ _ _ _ _ _ c.run.ensures).told ended;
}

pub returns-clause-begun : goal.returns-clause-begun
returns-clause-begun g c =
    freely_begun c.args.bytes.now (file_view c.in_ok-file.file) _ _ _ _ c.in_ok-file.ensures.ok (c.requires.runs _ _ _ _ _ _ c.run.ensures).begun

pub returns-clause-room : goal.returns-clause-room
returns-clause-room g c = λ _. room_of c.args.bytes.now (file_view c.in_ok-file.file) c.in_ok-file.ensures.ok
