use Rattle.std.proofs.Common.{List, ℕ, IsTrue, rules}
use Rattle.spec_files.specs.Begun.{Begun, FileSaysFreely}
use Rattle.spec_files.specs.FreeRuns.{FileFreeTold}
use Rattle.spec_files.specs.Promises.{IfFile}
use Rattle.spec_files.specs.Runs.{has_ended}
use Rattle.spec_files.proofs.Listing.{of_bytes}
use Rattle.spec_files.proofs.freely.free_spec_by.Goals as goal

pub returns : goal.returns
returns g c =
    let left = g.S.Source.left c.args.input.now in
    let wo = g.W.Sink.put_so_far c.args.out.now in
    let wn = g.W.Sink.put_so_far c.run_file_freely.new.out in
    let eo = g.N.Sink.put_so_far c.args.notes.now in
    let en = g.N.Sink.put_so_far c.run_file_freely.new.notes in
    let of_file : (P : List ℕ → Type 0) → P c.deref.result.now → IfFile left P =
    λ P. of_bytes P 1048577 left c.deref.result.now c.in_ok-bytes.bytes.items c.deref.ensures.value c.in_ok-bytes.ensures.bytes.front in
    record {
      told = of_file (λ file. IsTrue (has_ended c.run_file_freely.result) → FileFreeTold file wo wn eo en c.run_file_freely.result) c.run_file_freely.ensures.told;
      refused = search rules;
      untouched = c.run_file_freely.ensures.untouched;
      begun = of_file (λ file. Begun (FileSaysFreely file) wo wn eo en) c.run_file_freely.ensures.begun;
      memory = c.run_file_freely.ensures.memory;
      broken = c.run_file_freely.ensures.broken;
      unbroken = c.run_file_freely.ensures.unbroken;
      read = search rules;
      unread = search rules;
      write = c.run_file_freely.ensures.write;
      taken = search rules;
    }
