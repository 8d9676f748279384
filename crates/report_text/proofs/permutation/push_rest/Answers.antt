use Rattle.std.proofs.Common.{◌≡◌, ◌+◌, ◌-◌, ◌++◌, List, length, sym, ap, ◌∙◌, arith}
use Rattle.std.proofs.lemmas.List.{length-map}
use Rattle.iso_lexer.specs.Devices.{page_text}
use Rattle.session_machine.specs.declared.reply.HistItem.{HistItem}
use Rattle.spec_parser.specs.Trees.{entry_view, spec_view}
use Rattle.report_lines.specs.Due.{orders}
use Rattle.report_text.specs.Said.{Said, whole}
use Rattle.report_text.specs.Code.Turns.{teardown_numbers}
use Rattle.report_text.specs.Inner.Teardowns.{teardowns_say, teardowns_in_turn}
use Rattle.report_text.specs.Inner.Permutation.{entries_say}
use Rattle.report_text.specs.Answers.{ending_of}
use Rattle.report_text.proofs.Saying.{text_after, notes_after, ending_after, entries_notes}
use Rattle.report_text.proofs.InTurn.{told}
use Rattle.report_text.proofs.permutation.push_rest.Goals as goal

pub returns-in_ok-push_teardowns-in-Whole-clause-text : goal.returns-in_ok-push_teardowns-in-Whole-clause-text
returns-in_ok-push_teardowns-in-Whole-clause-text c =
    let spec = spec_view c.args.spec.now in
    let run = c.args.run.now in
    let said = entries_say spec run (orders run.items - run.setups) in
    let rest = teardowns_say spec.sessions run.items (orders run.items) (run.setups + length run.entries) (teardown_numbers spec) in
    let well : said.ending ≡ whole = sym c.in_ok-early.ensures.ending ∙ ap ending_of c.in-Whole.is in
    let long : length c.entries.result.now ≡ length run.entries = sym (length-map c.entries.result.now entry_view) ∙ ap length c.entries.ensures in
    let from : c.args.setups + length c.entries.result.now ≡ run.setups + length run.entries = omega (arith, c.requires.setups, long) in
    let counted : c.count.result ≡ orders run.items = c.count.ensures ∙ ap orders c.segments-segments.ensures in
    let same : teardowns_in_turn spec c.segments-segments.result c.count.result (c.args.setups + length c.entries.result.now) ≡ rest =
    ap (λ (items : List HistItem). teardowns_in_turn spec items c.count.result (c.args.setups + length c.entries.result.now)) c.segments-segments.ensures
    ∙ ap (λ n. teardowns_in_turn spec run.items n (c.args.setups + length c.entries.result.now)) counted
    ∙ ap (λ n. teardowns_in_turn spec run.items (orders run.items) n) from
    ∙ sym (told spec run.items (orders run.items) (run.setups + length run.entries)) in
    text_after said rest
    (page_text c.args.pages.now.text) (page_text c.push_entries.new.page) (page_text c.push_teardowns.new.pages.text) well c.in_ok-early.ensures.text
    (c.in_ok-push_teardowns-in-Whole.ensures.text ∙ ap (λ (t : Said). page_text c.push_entries.new.page ++ t.text) same)

pub returns-in_ok-push_teardowns-in-Whole-clause-notes : goal.returns-in_ok-push_teardowns-in-Whole-clause-notes
returns-in_ok-push_teardowns-in-Whole-clause-notes c =
    let spec = spec_view c.args.spec.now in
    let run = c.args.run.now in
    let said = entries_say spec run (orders run.items - run.setups) in
    let rest = teardowns_say spec.sessions run.items (orders run.items) (run.setups + length run.entries) (teardown_numbers spec) in
    let well : said.ending ≡ whole = sym c.in_ok-early.ensures.ending ∙ ap ending_of c.in-Whole.is in
    let long : length c.entries.result.now ≡ length run.entries = sym (length-map c.entries.result.now entry_view) ∙ ap length c.entries.ensures in
    let from : c.args.setups + length c.entries.result.now ≡ run.setups + length run.entries = omega (arith, c.requires.setups, long) in
    let counted : c.count.result ≡ orders run.items = c.count.ensures ∙ ap orders c.segments-segments.ensures in
    let same : teardowns_in_turn spec c.segments-segments.result c.count.result (c.args.setups + length c.entries.result.now) ≡ rest =
    ap (λ (items : List HistItem). teardowns_in_turn spec items c.count.result (c.args.setups + length c.entries.result.now)) c.segments-segments.ensures
    ∙ ap (λ n. teardowns_in_turn spec run.items n (c.args.setups + length c.entries.result.now)) counted
    ∙ ap (λ n. teardowns_in_turn spec run.items (orders run.items) n) from
    ∙ sym (told spec run.items (orders run.items) (run.setups + length run.entries)) in
    notes_after said rest (page_text c.args.pages.now.notes) (page_text c.push_teardowns.new.pages.notes) well (entries_notes spec run (orders run.items - run.setups))
    (c.in_ok-push_teardowns-in-Whole.ensures.notes ∙ ap (λ (t : Said). page_text c.args.pages.now.notes ++ t.notes) same)

pub returns-in_ok-push_teardowns-in-Whole-clause-ending : goal.returns-in_ok-push_teardowns-in-Whole-clause-ending
returns-in_ok-push_teardowns-in-Whole-clause-ending c =
    let spec = spec_view c.args.spec.now in
    let run = c.args.run.now in
    let said = entries_say spec run (orders run.items - run.setups) in
    let rest = teardowns_say spec.sessions run.items (orders run.items) (run.setups + length run.entries) (teardown_numbers spec) in
    let well : said.ending ≡ whole = sym c.in_ok-early.ensures.ending ∙ ap ending_of c.in-Whole.is in
    ending_after said rest well (ap (λ (t : Said). t.ending) (told spec run.items (orders run.items) (run.setups + length run.entries)))
