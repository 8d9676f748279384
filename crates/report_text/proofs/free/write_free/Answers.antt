use Rattle.std.proofs.Common.{subst, sym, ap, ◌∙◌}
use Rattle.spec_parser.specs.Trees.{spec_view}
use Rattle.report_lines.specs.Due.{orders}
use Rattle.report_text.specs.Said.{Said, Ending}
use Rattle.report_text.specs.Code.Turns.{setup_numbers}
use Rattle.report_text.specs.FreeText.{free_says}
use Rattle.report_text.specs.Answers.{EndsAs}
use Rattle.report_text.proofs.Blocks.{setups_are}
use Rattle.report_text.proofs.free.write_free.Goals as goal

pub returns-clause-ending : goal.returns-clause-ending
unfolding free_says
returns-clause-ending g c =
    let same = setups_are c.args.items.now (orders c.args.items.now) 0 (setup_numbers (spec_view c.args.spec.now)) in
    subst (λ (e : Ending). EndsAs e c.put_said.result) (c.in_ok-ending.ensures ∙ ap (λ (s : Said). s.ending) (sym same)) c.put_said.ensures.ending
