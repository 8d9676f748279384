use Rattle.std.proofs.Common.{map, rules}
use Rattle.std.proofs.lemmas.Result.{err_from_is_err_and}
use Rattle.sql_blocks.specs.Blocks.{blocks_of}
use Rattle.spec_parser.specs.Trees.{entry_view, spec_view}
use Rattle.spec_files.proofs.Telling.{thread_kind}
use Rattle.permutations.specs.Inner.Runs.{RanSo}
use Rattle.permutations.proofs.Running.{closed_so, regular_as, stopped_so}
use Rattle.permutations.proofs.Taken.{of_threads}
use Rattle.permutations.proofs.thread_run.closed_of.Goals as goal

pub returns-clause-regular : goal.returns-clause-regular
returns-clause-regular g c =
    let spec = spec_view c.args.spec.now in
    let blocks = blocks_of c.args.blocks.now in
    let entries = map entry_view c.args.entries.now in
    let so : RanSo spec blocks entries c.args.run = c.requires.ran in
    regular_as spec blocks entries c.in_ok-closed.closed (closed_so spec blocks entries c.args.run c.in_ok-closed.closed so (search rules)) c.rests.ensures

pub returns-in_err-closed-clause-faults : goal.returns-in_err-closed-clause-faults
returns-in_err-closed-clause-faults g c =
    let p = err_from_is_err_and c.from_residual.result c.from_residual.ensures.1 in
    rw (p.1, p.2) (thread_kind c.in_err-closed.field-0.0)

pub returns-in_err-closed-clause-sure : goal.returns-in_err-closed-clause-sure
returns-in_err-closed-clause-sure g c =
    let spec = spec_view c.args.spec.now in
    let blocks = blocks_of c.args.blocks.now in
    let entries = map entry_view c.args.entries.now in
    let f = c.in_err-closed.field-0.0 in
    let p = err_from_is_err_and c.from_residual.result c.from_residual.ensures.1 in
    let so : RanSo spec blocks entries c.args.run = c.requires.ran in
    rw (p.1, p.2) (λ fit steps. of_threads spec blocks entries fit steps f (stopped_so spec blocks entries c.args.run f so (search rules)))
