use Rattle.std.proofs.Common.{List, ◌||◌, map, subst, sym, true≢false, ◌∙◌}
use Rattle.std.proofs.lemmas.Result.{err_from_is_err_and}
use Rattle.sql_blocks.specs.Blocks.{blocks_of}
use Rattle.session_machine.specs.declared.reply.HistItem.{HistItem}
use Rattle.spec_parser.specs.Trees.{entry_view, spec_view}
use Rattle.permutation_plans.specs.Regular.{IsRegular}
use Rattle.spec_files.proofs.Telling.{told_broken, told_err, told_kind, told_ok, told_write}
use Rattle.plain_runs.proofs.Ending.{no_end, of_report, of_run}
use Rattle.plain_runs.proofs.print.print_one.Goals as goal

pub returns-in_err-engine-clause-told : goal.returns-in_err-engine-clause-told
returns-in_err-engine-clause-told g c =
    let p = err_from_is_err_and c.from_residual.result c.from_residual.ensures.1 in
    rw (p.1, p.2) (λ early. absurd (true≢false (sym early ∙ no_end c.in_err-engine.field-0.0 (c.in_err-engine.ensures.sure c.requires.blocks c.requires.steps))))

pub returns-in_err-engine-clause-faults : goal.returns-in_err-engine-clause-faults
returns-in_err-engine-clause-faults g c =
    let p = err_from_is_err_and c.from_residual.result c.from_residual.ensures.1 in
    rw (p.1, p.2) (of_run _ c.in_err-engine.field-0.0 (c.in_err-engine.ensures.sure c.requires.blocks c.requires.steps))

pub returns-in_err-write_permutation-clause-told : goal.returns-in_err-write_permutation-clause-told
returns-in_err-write_permutation-clause-told g c =
    let spec = spec_view c.args.spec.now in
    let blocks = blocks_of c.args.blocks.now in
    let entries = map entry_view c.args.entries.now in
    let regular = subst (λ (items : List HistItem). IsRegular spec blocks entries items) (sym c.history.ensures.lends) c.in_ok-engine.ensures.regular in
    let p = err_from_is_err_and c.from_residual-in_err-write_permutation.result c.from_residual-in_err-write_permutation.ensures.1 in
    rw (p.1, p.2) (λ early. told_err spec blocks entries c.history.result.now
    (g.W.Sink.put_so_far c.args.out.now) (g.W.Sink.put_so_far c.write_permutation.new.out) (g.N.Sink.put_so_far c.args.notes.now) (g.N.Sink.put_so_far c.write_permutation.new.notes)
    (g.W.Sink.failed c.args.out.now) (g.W.Sink.failed c.write_permutation.new.out) (g.N.Sink.failed c.args.notes.now) (g.N.Sink.failed c.write_permutation.new.notes)
    c.in_err-write_permutation.field-0.0 regular c.in_err-write_permutation.ensures early)

pub returns-in_err-write_permutation-clause-faults : goal.returns-in_err-write_permutation-clause-faults
returns-in_err-write_permutation-clause-faults g c =
    let spec = spec_view c.args.spec.now in
    let blocks = blocks_of c.args.blocks.now in
    let entries = map entry_view c.args.entries.now in
    let wo = g.W.Sink.put_so_far c.args.out.now in
    let wn = g.W.Sink.put_so_far c.write_permutation.new.out in
    let eo = g.N.Sink.put_so_far c.args.notes.now in
    let en = g.N.Sink.put_so_far c.write_permutation.new.notes in
    let fo = g.W.Sink.failed c.args.out.now in
    let fn = g.W.Sink.failed c.write_permutation.new.out in
    let go = g.N.Sink.failed c.args.notes.now in
    let gn = g.N.Sink.failed c.write_permutation.new.notes in
    let e = c.in_err-write_permutation.field-0.0 in
    let written = c.in_err-write_permutation.ensures in
    let p = err_from_is_err_and c.from_residual-in_err-write_permutation.result c.from_residual-in_err-write_permutation.ensures.1 in
    rw (p.1, p.2) (of_report (fn || gn) e
    (told_kind spec blocks entries c.history.result.now wo wn eo en fo fn go gn e written)
    (told_broken spec blocks entries c.history.result.now wo wn eo en fo fn go gn e written)
    (told_write spec blocks entries c.history.result.now wo wn eo en fo fn go gn e written))

pub returns-clause-told : goal.returns-clause-told
returns-clause-told g c =
    let spec = spec_view c.args.spec.now in
    let blocks = blocks_of c.args.blocks.now in
    let entries = map entry_view c.args.entries.now in
    let regular = subst (λ (items : List HistItem). IsRegular spec blocks entries items) (sym c.history.ensures.lends) c.in_ok-engine.ensures.regular in
    λ _. told_ok spec blocks entries c.history.result.now
    (g.W.Sink.put_so_far c.args.out.now) (g.W.Sink.put_so_far c.write_permutation.new.out) (g.N.Sink.put_so_far c.args.notes.now) (g.N.Sink.put_so_far c.write_permutation.new.notes)
    (g.W.Sink.failed c.args.out.now) (g.W.Sink.failed c.write_permutation.new.out) (g.N.Sink.failed c.args.notes.now) (g.N.Sink.failed c.write_permutation.new.notes)
    c.in_ok-write_permutation.field-0 regular c.in_ok-write_permutation.ensures
