use Rattle.std.proofs.Common.{◌≡◌, ℕ, ◌++◌, length, sym, ap, ◌∙◌, arith}
use Rattle.std.specs.Prelude.{map}
use Rattle.report_lines.specs.History.{PermutationRun}
use Rattle.spec_parser.specs.Trees.{entry_view, spec_view}
use Rattle.report_text.specs.Code.Turns.{setup_numbers}
use Rattle.report_text.specs.Said.{Said}
use Rattle.report_text.specs.Inner.Permutation.{all_says}
use Rattle.report_text.proofs.Counting.{orders-le}
use Rattle.report_text.proofs.Saying.{permutation_run}
use Rattle.report_text.proofs.Blocks.{permutation_is}
use Rattle.report_text.proofs.permutation.said_of.Goals as goal

pub push_all-requires-clause-orders : goal.push_all-requires-clause-orders
push_all-requires-clause-orders c =
    let items : c.in_ok-run.run'.items ≡ c.args.items.now = ap (λ (s : PermutationRun). s.items) c.in_ok-run.ensures.run in
    omega (arith, orders-le c.in_ok-run.run'.items, ap length items)

pub returns-clause-text : goal.returns-clause-text
returns-clause-text c =
    let count : c.len.result ≡ length (setup_numbers (spec_view c.args.spec.now)) = c.len.ensures ∙ sym c.deref.ensures.len ∙ ap length (c.deref.ensures.value ∙ c.in_ok-setups.ensures) in
    let run = c.in_ok-run.ensures.run ∙ ap (λ (n : ℕ). permutation_run (map entry_view c.args.entries.now) c.args.items.now n) count in
    c.in_ok-ending.ensures.text
    ∙ ap (λ l. l ++ (all_says (spec_view c.args.spec.now) c.in_ok-run.run').text) c.new-pages.ensures.text
    ∙ ap (λ (s : PermutationRun). (all_says (spec_view c.args.spec.now) s).text) run
    ∙ ap (λ (s : Said). s.text) (sym (permutation_is (spec_view c.args.spec.now) (map entry_view c.args.entries.now) c.args.items.now))

pub returns-clause-notes : goal.returns-clause-notes
returns-clause-notes c =
    let count : c.len.result ≡ length (setup_numbers (spec_view c.args.spec.now)) = c.len.ensures ∙ sym c.deref.ensures.len ∙ ap length (c.deref.ensures.value ∙ c.in_ok-setups.ensures) in
    let run = c.in_ok-run.ensures.run ∙ ap (λ (n : ℕ). permutation_run (map entry_view c.args.entries.now) c.args.items.now n) count in
    c.in_ok-ending.ensures.notes
    ∙ ap (λ l. l ++ (all_says (spec_view c.args.spec.now) c.in_ok-run.run').notes) c.new-pages.ensures.notes
    ∙ ap (λ (s : PermutationRun). (all_says (spec_view c.args.spec.now) s).notes) run
    ∙ ap (λ (s : Said). s.notes) (sym (permutation_is (spec_view c.args.spec.now) (map entry_view c.args.entries.now) c.args.items.now))

pub returns-clause-ending : goal.returns-clause-ending
returns-clause-ending c =
    let count : c.len.result ≡ length (setup_numbers (spec_view c.args.spec.now)) = c.len.ensures ∙ sym c.deref.ensures.len ∙ ap length (c.deref.ensures.value ∙ c.in_ok-setups.ensures) in
    let run = c.in_ok-run.ensures.run ∙ ap (λ (n : ℕ). permutation_run (map entry_view c.args.entries.now) c.args.items.now n) count in
    c.in_ok-ending.ensures.ending ∙ ap (λ (s : PermutationRun). (all_says (spec_view c.args.spec.now) s).ending) run
    ∙ ap (λ (s : Said). s.ending) (sym (permutation_is (spec_view c.args.spec.now) (map entry_view c.args.entries.now) c.args.items.now))
