use Rattle.std.proofs.Common.{◌≡◌, ◌∙◌, List, inl, inr, map, refl, sym, ap, subst}
use Rattle.std.specs.Prelude.{string_bytes}
use Rattle.std.proofs.lemmas.Option.{MatchOption-at_none, MatchOption-at_some}
use Rattle.sql_blocks.specs.Blocks.{blocks_of}
use Rattle.spec_parser.specs.Trees.{EntryTree, entry_view, spec_view}
use Rattle.outcome_counts.specs.declared.outcome.RunOutcome.{RunOutcome}
use Rattle.outcome_verdicts.specs.Transactions.{in_order, list_view}
use Rattle.outcomes.specs.Judging.{IsSerialRun}
use Rattle.outcomes.proofs.serial.tell_order.Goals as goal

pub returns-in-Some : goal.returns-in-Some
returns-in-Some c =
    let Runs = IsSerialRun (spec_view c.args.spec.now) (blocks_of c.args.blocks.now) (map string_bytes c.args.names.now) in
    let own : map entry_view c.deref.result.now ≡ in_order (map list_view c.args.lists.now) c.args.order.now = ap (map entry_view) c.deref.ensures.value ∙ c.in_ok-entries.ensures in
    let run : Runs (map entry_view c.deref.result.now) c.in-Some.outcome =
    MatchOption-at_some ((o : RunOutcome) → Runs (map entry_view c.deref.result.now) o → ⊥) (Runs (map entry_view c.deref.result.now)) c.in-Some.outcome c.in-Some.is c.in_ok-outcome.ensures in
    inl (c.in-Some.outcome, subst (λ (es : List EntryTree). Runs es c.in-Some.outcome) own run, c.in_ok-add_order-in-Some.ensures)

pub returns : goal.returns
returns c =
    let Runs = IsSerialRun (spec_view c.args.spec.now) (blocks_of c.args.blocks.now) (map string_bytes c.args.names.now) in
    let own : map entry_view c.deref.result.now ≡ in_order (map list_view c.args.lists.now) c.args.order.now = ap (map entry_view) c.deref.ensures.value ∙ c.in_ok-entries.ensures in
    let none : (o : RunOutcome) → Runs (map entry_view c.deref.result.now) o → ⊥ =
    MatchOption-at_none ((o : RunOutcome) → Runs (map entry_view c.deref.result.now) o → ⊥) (Runs (map entry_view c.deref.result.now)) c.in-None.is c.in_ok-outcome.ensures in
    inr (λ o run. none o (subst (λ (es : List EntryTree). Runs es o) (sym own) run), refl)
