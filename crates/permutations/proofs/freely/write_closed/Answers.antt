use Rattle.std.proofs.Common.{◌∙◌, List, ap, subst}
use Rattle.session_machine.specs.declared.reply.HistItem.{HistItem}
use Rattle.session_machine.specs.Engine.{Engine}
use Rattle.spec_parser.specs.Trees.{spec_view}
use Rattle.spec_files.specs.FreeRuns.{IsFreeWritten}
use Rattle.permutations.proofs.freely.write_closed.Goals as goal

pub returns : goal.returns
returns g c =
    subst (λ (items : List HistItem). IsFreeWritten (spec_view c.args.spec.now) items
    (g.W.Sink.put_so_far c.args.out.now) (g.W.Sink.put_so_far c.write_free.new.out) (g.N.Sink.put_so_far c.args.notes.now) (g.N.Sink.put_so_far c.write_free.new.notes)
    (g.W.Sink.failed c.args.out.now) (g.W.Sink.failed c.write_free.new.out) (g.N.Sink.failed c.args.notes.now) (g.N.Sink.failed c.write_free.new.notes) c.write_free.result)
    (c.history.ensures.lends ∙ ap (λ (e : Engine). e.history) c.state-engine.ensures) c.write_free.ensures
