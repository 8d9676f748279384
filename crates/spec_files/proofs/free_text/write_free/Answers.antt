use Rattle.std.proofs.lemmas.Result.{err_from_is_err_and}
use Rattle.std.proofs.Common.{Ok, Err, refl, ◌∙◌}
use Rattle.spec_parser.specs.Trees.{spec_view}
use Rattle.spec_files.specs.Faults.{report_fault}
use Rattle.spec_files.proofs.FreeTelling.{no_memory, no_line, behind_line}
use Rattle.spec_files.proofs.Beginning.{at_sink}
use Rattle.spec_files.proofs.free_text.write_free.Goals as goal

pub returns-in_err-line : goal.returns-in_err-line
returns-in_err-line g c =
    let p = err_from_is_err_and c.from_residual.result c.from_residual.ensures.1 in
    rw (p.1, p.2) (no_memory (spec_view c.args.spec.now) c.args.items.now (g.W.Sink.put_so_far c.args.out.now) (g.N.Sink.put_so_far c.args.notes.now) (g.W.Sink.failed c.args.out.now) (g.N.Sink.failed c.args.notes.now))

pub returns-in_err-put : goal.returns-in_err-put
returns-in_err-put g c =
    let line = c.as_slice.ensures.value ∙ c.in_ok-line.ensures in
    let p = err_from_is_err_and c.from_residual-in_err-put.result c.from_residual-in_err-put.ensures.1 in
    rw (p.1, p.2) (no_line (spec_view c.args.spec.now) c.args.items.now (g.W.Sink.put_so_far c.args.out.now) (g.W.Sink.put_so_far c.put.new.self) (g.N.Sink.put_so_far c.args.notes.now)
    (g.W.Sink.failed c.args.out.now) (g.W.Sink.failed c.put.new.self) (g.N.Sink.failed c.args.notes.now) c.in_err-put.field-0.0 c.as_slice.result.now line c.in_err-put.ensures.front c.in_err-put.ensures.fails)

pub returns-in_err-write_free : goal.returns-in_err-write_free
returns-in_err-write_free g c =
    let line = c.as_slice.ensures.value ∙ c.in_ok-line.ensures in
    let fault = c.in_err-write_free.field-0.0 in
    let p = err_from_is_err_and c.from_residual-in_err-write_free.result c.from_residual-in_err-write_free.ensures.1 in
    rw (p.1, p.2) (behind_line (spec_view c.args.spec.now) c.args.items.now
    (g.W.Sink.put_so_far c.args.out.now) (g.W.Sink.put_so_far c.put.new.self) (g.W.Sink.put_so_far c.write_free.new.out) (g.N.Sink.put_so_far c.args.notes.now) (g.N.Sink.put_so_far c.write_free.new.notes)
    (g.W.Sink.failed c.args.out.now) (g.W.Sink.failed c.put.new.self) (g.W.Sink.failed c.write_free.new.out) (g.N.Sink.failed c.args.notes.now) (g.N.Sink.failed c.write_free.new.notes)
    c.as_slice.result.now _ (Err fault) (Err (report_fault fault)) line c.in_ok-put.ensures.bytes c.in_ok-put.ensures.fails
    refl c.in_err-write_free.ensures.ending c.in_err-write_free.ensures.text c.in_err-write_free.ensures.notes (at_sink g.N.Sink.put_so_far c.args.notes.now c.write_free.new.notes _ c.in_err-write_free.ensures.order) c.in_err-write_free.ensures.fails)

pub returns : goal.returns
returns g c =
    let line = c.as_slice.ensures.value ∙ c.in_ok-line.ensures in
    behind_line (spec_view c.args.spec.now) c.args.items.now
    (g.W.Sink.put_so_far c.args.out.now) (g.W.Sink.put_so_far c.put.new.self) (g.W.Sink.put_so_far c.write_free.new.out) (g.N.Sink.put_so_far c.args.notes.now) (g.N.Sink.put_so_far c.write_free.new.notes)
    (g.W.Sink.failed c.args.out.now) (g.W.Sink.failed c.put.new.self) (g.W.Sink.failed c.write_free.new.out) (g.N.Sink.failed c.args.notes.now) (g.N.Sink.failed c.write_free.new.notes)
    c.as_slice.result.now _ (Ok c.in_ok-write_free.field-0) (Ok tt) line c.in_ok-put.ensures.bytes c.in_ok-put.ensures.fails
    refl c.in_ok-write_free.ensures.ending c.in_ok-write_free.ensures.text c.in_ok-write_free.ensures.notes (at_sink g.N.Sink.put_so_far c.args.notes.now c.write_free.new.notes _ c.in_ok-write_free.ensures.order) c.in_ok-write_free.ensures.fails
