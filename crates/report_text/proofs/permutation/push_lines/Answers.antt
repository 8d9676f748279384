use Rattle.std.proofs.Common.{refl}
use Rattle.spec_parser.specs.Trees.{spec_view}
use Rattle.report_text.specs.LineText.{line_text}
use Rattle.report_text.proofs.Nonempty.{on_err, some_in}
use Rattle.report_text.proofs.permutation.push_lines.Goals as goal

pub returns-in_err-push_line-clause-memory : goal.returns-in_err-push_line-clause-memory
returns-in_err-push_line-clause-memory c =
    on_err c.from_residual.result
    (some_in (line_text (spec_view c.args.spec.now) c.args.run.now) c.args.lines.now c.loop-line.line-index _ _ c.loop-line-test.true refl c.in_err-push_line.ensures.memory)
