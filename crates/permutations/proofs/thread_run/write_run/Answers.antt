use Rattle.std.proofs.Common.{◌∙◌, List, ap, map, subst}
use Rattle.session_machine.specs.declared.reply.HistItem.{HistItem}
use Rattle.session_machine.specs.Engine.{Engine}
use Rattle.spec_parser.specs.Trees.{entry_view, spec_view}
use Rattle.spec_files.specs.Written.{IsWritten}
use Rattle.permutations.proofs.thread_run.write_run.Goals as goal

pub returns : goal.returns
returns g c =
    subst (λ (items : List HistItem). IsWritten (spec_view c.args.spec.now) (map entry_view c.args.entries.now) items
    (g.W.Sink.put_so_far c.args.out.now) (g.W.Sink.put_so_far c.write_permutation.new.out) (g.N.Sink.put_so_far c.args.notes.now) (g.N.Sink.put_so_far c.write_permutation.new.notes)
    (g.W.Sink.failed c.args.out.now) (g.W.Sink.failed c.write_permutation.new.out) (g.N.Sink.failed c.args.notes.now) (g.N.Sink.failed c.write_permutation.new.notes) c.write_permutation.result)
    (c.history.ensures.lends ∙ ap (λ (e : Engine). e.history) c.state-engine.ensures) c.write_permutation.ensures
