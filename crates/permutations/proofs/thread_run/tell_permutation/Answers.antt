use Rattle.std.proofs.Common.{map}
use Rattle.std.proofs.lemmas.Result.{err_from_is_err_and}
use Rattle.sql_blocks.specs.Blocks.{blocks_of}
use Rattle.spec_parser.specs.Trees.{entry_view, spec_view}
use Rattle.spec_files.proofs.Beginning.{one_begun}
use Rattle.spec_files.proofs.Telling.{told_broken, told_err, told_ok}
use Rattle.permutations.proofs.thread_run.tell_permutation.Goals as goal

pub returns-in_err-written-clause-begun : goal.returns-in_err-written-clause-begun
returns-in_err-written-clause-begun g c =
    let spec = spec_view c.args.spec.now in
    let blocks = blocks_of c.args.blocks.now in
    let entries = map entry_view c.args.entries.now in
    one_begun (g.W.Sink.failed c.args.out.now) (g.W.Sink.failed c.write_run-written.new.out) (g.N.Sink.failed c.args.notes.now) (g.N.Sink.failed c.write_run-written.new.notes)
    (g.W.Sink.put_so_far c.args.out.now) (g.W.Sink.put_so_far c.write_run-written.new.out) (g.N.Sink.put_so_far c.args.notes.now) (g.N.Sink.put_so_far c.write_run-written.new.notes)
    spec blocks entries c.in_ok-closed.closed.state.history c.write_run-written.result c.in_ok-closed.ensures.regular c.write_run-written.ensures

pub returns-clause-begun : goal.returns-clause-begun
returns-clause-begun g c =
    let spec = spec_view c.args.spec.now in
    let blocks = blocks_of c.args.blocks.now in
    let entries = map entry_view c.args.entries.now in
    one_begun (g.W.Sink.failed c.args.out.now) (g.W.Sink.failed c.write_run-written.new.out) (g.N.Sink.failed c.args.notes.now) (g.N.Sink.failed c.write_run-written.new.notes)
    (g.W.Sink.put_so_far c.args.out.now) (g.W.Sink.put_so_far c.write_run-written.new.out) (g.N.Sink.put_so_far c.args.notes.now) (g.N.Sink.put_so_far c.write_run-written.new.notes)
    spec blocks entries c.in_ok-closed.closed.state.history c.write_run-written.result c.in_ok-closed.ensures.regular c.write_run-written.ensures

pub returns-in_err-written-clause-told : goal.returns-in_err-written-clause-told
returns-in_err-written-clause-told g c =
    let p = err_from_is_err_and c.from_residual-in_err-written.result c.from_residual-in_err-written.ensures.1 in
    rw (p.1, p.2) (λ early. told_err (spec_view c.args.spec.now) (blocks_of c.args.blocks.now) (map entry_view c.args.entries.now) c.in_ok-closed.closed.state.history
    (g.W.Sink.put_so_far c.args.out.now) (g.W.Sink.put_so_far c.write_run-written.new.out) (g.N.Sink.put_so_far c.args.notes.now) (g.N.Sink.put_so_far c.write_run-written.new.notes)
    (g.W.Sink.failed c.args.out.now) (g.W.Sink.failed c.write_run-written.new.out) (g.N.Sink.failed c.args.notes.now) (g.N.Sink.failed c.write_run-written.new.notes)
    c.in_err-written.field-0.0 c.in_ok-closed.ensures.regular c.in_err-written.ensures early)

pub returns-clause-told : goal.returns-clause-told
returns-clause-told g c =
    λ _. told_ok (spec_view c.args.spec.now) (blocks_of c.args.blocks.now) (map entry_view c.args.entries.now) c.in_ok-closed.closed.state.history
    (g.W.Sink.put_so_far c.args.out.now) (g.W.Sink.put_so_far c.write_run-written.new.out) (g.N.Sink.put_so_far c.args.notes.now) (g.N.Sink.put_so_far c.write_run-written.new.notes)
    (g.W.Sink.failed c.args.out.now) (g.W.Sink.failed c.write_run-written.new.out) (g.N.Sink.failed c.args.notes.now) (g.N.Sink.failed c.write_run-written.new.notes)
    c.in_ok-written.field-0 c.in_ok-closed.ensures.regular c.in_ok-written.ensures

pub returns-in_err-written-clause-sure : goal.returns-in_err-written-clause-sure
returns-in_err-written-clause-sure g c =
    let p = err_from_is_err_and c.from_residual-in_err-written.result c.from_residual-in_err-written.ensures.1 in
    rw (p.1, p.2) (λ fit steps broken. absurd (told_broken (spec_view c.args.spec.now) (blocks_of c.args.blocks.now) (map entry_view c.args.entries.now) c.in_ok-closed.closed.state.history
    (g.W.Sink.put_so_far c.args.out.now) (g.W.Sink.put_so_far c.write_run-written.new.out) (g.N.Sink.put_so_far c.args.notes.now) (g.N.Sink.put_so_far c.write_run-written.new.notes)
    (g.W.Sink.failed c.args.out.now) (g.W.Sink.failed c.write_run-written.new.out) (g.N.Sink.failed c.args.notes.now) (g.N.Sink.failed c.write_run-written.new.notes)
    c.in_err-written.field-0.0 c.in_err-written.ensures broken))
