use Rattle.std.proofs.Common.{List, ℕ, IsTrue, Ok, rules}
use Rattle.spec_files.specs.Begun.{Begun, FileMaySay}
use Rattle.spec_files.specs.Broken.{FileBroken}
use Rattle.spec_files.specs.Prints.{FileSays}
use Rattle.spec_files.specs.Promises.{IfFile}
use Rattle.spec_files.specs.Runs.{has_broken, has_ended, IsTold}
use Rattle.report_text.specs.Said.{Said}
use Rattle.spec_files.proofs.Listing.{of_bytes}
use Rattle.spec_files.proofs.run.run_spec_by.Goals as goal

pub returns-clause-run : goal.returns-clause-run
returns-clause-run g c =
    let left = g.S.Source.left c.args.input.now in
    let wo = g.W.Sink.put_so_far c.args.out.now in
    let wn = g.W.Sink.put_so_far c.run_file.new.out in
    let eo = g.N.Sink.put_so_far c.args.notes.now in
    let en = g.N.Sink.put_so_far c.run_file.new.notes in
    let of_file : (P : List ℕ → Type 0) → P c.deref.result.now → IfFile left P =
    λ P. of_bytes P 1048577 left c.deref.result.now c.in_ok-bytes.bytes.items c.deref.ensures.value c.in_ok-bytes.ensures.bytes.front in
    record {
      told = of_file (λ file. IsTrue (has_ended c.run_file.result) → (said : Said) × FileSays file c.args.limit (Ok said) × IsTold wo wn eo en c.run_file.result said) c.run_file.ensures.told;
      begun = of_file (λ file. Begun (FileMaySay file c.args.limit) wo wn eo en) c.run_file.ensures.begun;
      broken = of_file (λ file. IsTrue (has_broken c.run_file.result) → FileBroken file c.args.limit wo wn eo en) c.run_file.ensures.broken;
      refused = search rules;
      untouched = c.run_file.ensures.untouched;
      read = search rules;
      unread = search rules;
      memory = c.run_file.ensures.memory;
      unbroken = c.run_file.ensures.unbroken;
      write = c.run_file.ensures.write;
      taken = search rules;
    }

pub returns-in_err-bytes-clause-run : goal.returns-in_err-bytes-clause-run
returns-in_err-bytes-clause-run g c = record {
  told = search rules;
  begun = search rules;
  broken = search rules;
  refused = search rules;
  untouched = search rules;
  read = search rules;
  unread = search rules;
  memory = search rules;
  unbroken = search rules;
  write = search rules;
  taken = search rules;
}

pub returns-clause-sure : goal.returns-clause-sure
returns-clause-sure g c = λ complete. c.run_file.ensures.sure (complete c.deref.result.now)
