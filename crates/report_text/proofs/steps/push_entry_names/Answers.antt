use Rattle.spec_parser.specs.Trees.{entry_view, spec_view}
use Rattle.report_text.specs.Inner.Steps.{entry_name}
use Rattle.report_text.proofs.Nonempty.{on_err, some_of}
use Rattle.report_text.proofs.steps.push_entry_names.Goals as goal

pub returns-in_err-push_entry_name-clause-memory : goal.returns-in_err-push_entry_name-clause-memory
returns-in_err-push_entry_name-clause-memory c =
    on_err c.from_residual.result
    (some_of entry_view (entry_name (spec_view c.args.spec.now)) c.args.entries.now c.loop-entry.entry-index c.entry-item.result c.entry-item.result
    c.loop-entry-test.true c.entry-item.is c.in_err-push_entry_name.ensures.memory)
