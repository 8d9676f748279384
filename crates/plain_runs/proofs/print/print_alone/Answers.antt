use Rattle.std.proofs.Common.{◌||◌, ap, subst, sym}
use Rattle.std.proofs.lemmas.Result.{err_from_is_err_and, IfErr-weaker}
use Rattle.session_machine.specs.Machine.{Blocks}
use Rattle.sql_blocks.specs.Blocks.{blocks_of}
use Rattle.permutation_lists.specs.Permutations.{permutations_of}
use Rattle.spec_files.specs.BlockAnswers.{file_view}
use Rattle.spec_files.specs.Prints.{Prints}
use Rattle.spec_files.proofs.Whole.{room_of}
use Rattle.spec_files.specs.Complete.{HasItsBlocks}
use Rattle.plain_runs.specs.Alone.{IsOfFile, IsOfPrint, prints}
use Rattle.plain_runs.proofs.Ending.{no_refusal, of_reading}
use Rattle.plain_runs.proofs.print.print_alone.Goals as goal

pub returns-clause-told : goal.returns-clause-told
returns-clause-told g c =
    let file = file_view c.in_ok-file.file in
    let blocks = ap blocks_of c.deref.ensures.value in
    λ ended.
    let one = c.print_all.ensures.told ended in
    (file, one.0, c.in_ok-file.ensures.ok, subst (λ (bs : Blocks). Prints file.spec bs c.args.limit (permutations_of file.spec) one.0) blocks one.1, one.2)

pub returns-in_err-file-clause-faults : goal.returns-in_err-file-clause-faults
returns-in_err-file-clause-faults g c =
    let p = err_from_is_err_and c.from_residual.result c.from_residual.ensures.1 in
    rw (p.1, p.2) (of_reading c.args.bytes.now _ c.in_err-file.field-0.0 c.in_err-file.ensures.err)

pub print_all-requires-clause-blocks : goal.print_all-requires-clause-blocks
print_all-requires-clause-blocks g c =
    let file = file_view c.in_ok-file.file in
    let there = c.specs_have_their_blocks.ensures c.args.bytes.now file c.in_ok-file.ensures.ok in
    subst (HasItsBlocks file.spec) (sym (ap blocks_of c.deref.ensures.value)) there.0

pub print_all-requires-clause-steps : goal.print_all-requires-clause-steps
print_all-requires-clause-steps g c =
    (c.specs_have_their_blocks.ensures c.args.bytes.now (file_view c.in_ok-file.file) c.in_ok-file.ensures.ok).1

pub returns-clause-faults : goal.returns-clause-faults
returns-clause-faults g c =
    let failed = g.W.Sink.failed c.print_all.new.out || g.N.Sink.failed c.print_all.new.notes in
    IfErr-weaker c.print_all.result (IsOfPrint failed) (IsOfFile c.args.bytes.now failed) (λ e is. prints (file_view c.in_ok-file.file) c.in_ok-file.ensures.ok is) c.print_all.ensures.faults

pub returns-clause-untouched : goal.returns-clause-untouched
returns-clause-untouched g c =
    let failed = g.W.Sink.failed c.print_all.new.out || g.N.Sink.failed c.print_all.new.notes in
    IfErr-weaker c.print_all.result (IsOfPrint failed) _ (λ e is refusal. absurd (no_refusal failed e is refusal)) c.print_all.ensures.faults

pub returns-clause-room : goal.returns-clause-room
returns-clause-room g c = λ _. room_of c.args.bytes.now (file_view c.in_ok-file.file) c.in_ok-file.ensures.ok
