use Rattle.std.proofs.Common.{◌≡◌, false, sym, ap, ◌∙◌}
use Rattle.spec_parser.specs.Trees.{spec_view}
use Rattle.report_lines.specs.Due.{orders}
use Rattle.report_text.specs.Said.{whole}
use Rattle.report_text.specs.Code.Turns.{is_whole}
use Rattle.report_text.specs.Steps.{starting_text}
use Rattle.report_text.specs.Code.Turns.{setup_numbers}
use Rattle.report_text.specs.Inner.Permutation.{setups_say, rest_says, all_says}
use Rattle.report_text.specs.Answers.{ending_of}
use Rattle.report_text.proofs.Saying.{setups_notes, text_well, notes_well, ends_well, text_early, notes_early, ends_early, ended}
use Rattle.report_text.proofs.permutation.push_all.Goals as goal

pub returns-in-Whole-clause-text : goal.returns-in-Whole-clause-text
unfolding all_says
returns-in-Whole-clause-text c =
    let spec = spec_view c.args.spec.now in
    let run = c.args.run.now in
    let front = setups_say run.items (orders run.items) 0 (setup_numbers spec) in
    let well : front.ending ≡ whole = sym c.in_ok-early.ensures.ending ∙ ap ending_of c.in-Whole.is in
    text_well c.push_rest.result (starting_text spec run.entries) front (rest_says spec run (orders run.items)) _ _ _ well c.in_ok-early.ensures.text c.push_rest.ensures.text

pub returns-in-Whole-clause-notes : goal.returns-in-Whole-clause-notes
unfolding all_says
returns-in-Whole-clause-notes c =
    let spec = spec_view c.args.spec.now in
    let run = c.args.run.now in
    let front = setups_say run.items (orders run.items) 0 (setup_numbers spec) in
    let well : front.ending ≡ whole = sym c.in_ok-early.ensures.ending ∙ ap ending_of c.in-Whole.is in
    notes_well c.push_rest.result (starting_text spec run.entries) front (rest_says spec run (orders run.items)) _ _ well (setups_notes run.items (orders run.items) 0 (setup_numbers spec)) c.push_rest.ensures.notes

pub returns-in-Whole-clause-ending : goal.returns-in-Whole-clause-ending
unfolding all_says
returns-in-Whole-clause-ending c =
    let spec = spec_view c.args.spec.now in
    let run = c.args.run.now in
    let front = setups_say run.items (orders run.items) 0 (setup_numbers spec) in
    let well : front.ending ≡ whole = sym c.in_ok-early.ensures.ending ∙ ap ending_of c.in-Whole.is in
    ends_well c.push_rest.result (starting_text spec run.entries) front (rest_says spec run (orders run.items)) well c.push_rest.ensures.ending

pub returns-in_default-clause-text : goal.returns-in_default-clause-text
unfolding all_says
returns-in_default-clause-text c =
    let spec = spec_view c.args.spec.now in
    let run = c.args.run.now in
    let front = setups_say run.items (orders run.items) 0 (setup_numbers spec) in
    let early : is_whole front.ending ≡ false = ap is_whole (sym c.in_ok-early.ensures.ending) ∙ ended c.in_ok-early.early c.in_default.not-Whole in
    text_early (starting_text spec run.entries) front (rest_says spec run (orders run.items)) _ _ early c.in_ok-early.ensures.text

pub returns-in_default-clause-notes : goal.returns-in_default-clause-notes
unfolding all_says
returns-in_default-clause-notes c =
    let spec = spec_view c.args.spec.now in
    let run = c.args.run.now in
    let front = setups_say run.items (orders run.items) 0 (setup_numbers spec) in
    let early : is_whole front.ending ≡ false = ap is_whole (sym c.in_ok-early.ensures.ending) ∙ ended c.in_ok-early.early c.in_default.not-Whole in
    notes_early (starting_text spec run.entries) front (rest_says spec run (orders run.items)) _ early (setups_notes run.items (orders run.items) 0 (setup_numbers spec))

pub returns-in_default-clause-ending : goal.returns-in_default-clause-ending
unfolding all_says
returns-in_default-clause-ending c =
    let spec = spec_view c.args.spec.now in
    let run = c.args.run.now in
    let front = setups_say run.items (orders run.items) 0 (setup_numbers spec) in
    let early : is_whole front.ending ≡ false = ap is_whole (sym c.in_ok-early.ensures.ending) ∙ ended c.in_ok-early.early c.in_default.not-Whole in
    ends_early (starting_text spec run.entries) front (rest_says spec run (orders run.items)) _ early c.in_ok-early.ensures.ending
