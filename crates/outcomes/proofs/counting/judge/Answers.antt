use Rattle.std.proofs.Common.{◌≡◌, ◌∙◌, List, map, ap, subst}
use Rattle.std.specs.Prelude.{string_bytes}
use Rattle.sql_blocks.specs.Blocks.{blocks_of}
use Rattle.spec_parser.specs.declared.tree.Entry.{Entry}
use Rattle.spec_parser.specs.Trees.{entry_view, spec_view}
use Rattle.outcome_verdicts.specs.Transactions.{TransactionTree, list_view, transactions_of}
use Rattle.outcome_verdicts.specs.Verdicts.{StandFor}
use Rattle.outcomes.specs.Judging.{IsSerialOrder, IsVerdictOn}
use Rattle.outcomes.proofs.Verdicts.{few_lists}
use Rattle.outcomes.proofs.counting.judge.Goals as goal

pub serial_orders-requires-clause-few : goal.serial_orders-requires-clause-few
serial_orders-requires-clause-few c =
    few_lists (spec_view c.args.spec.now) (blocks_of c.args.blocks.now) (map entry_view c.deref.result.now) c.deref-2.result.now c.requires.spec.few_sessions
    (ap (map list_view) c.deref-2.ensures.value ∙ c.in_ok-lists.ensures)

pub verdict_of-requires-clause-few : goal.verdict_of-requires-clause-few
verdict_of-requires-clause-few c =
    few_lists (spec_view c.args.spec.now) (blocks_of c.args.blocks.now) (map entry_view c.deref.result.now) c.deref-4.result.now c.requires.spec.few_sessions
    (ap (map list_view) c.deref-4.ensures.value ∙ c.in_ok-lists.ensures)

pub returns : goal.returns
returns c =
    let spec = spec_view c.args.spec.now in
    let blocks = blocks_of c.args.blocks.now in
    let names = map string_bytes c.args.names.now in
    let all = transactions_of spec blocks (map entry_view c.args.group.now.nearest.items) in
    let own : map list_view c.in_ok-lists.lists.items ≡ all = c.in_ok-lists.ensures ∙ ap (λ (es : List Entry). transactions_of spec blocks (map entry_view es)) c.deref.ensures.value in
    let here : map list_view c.deref-2.result.now ≡ all = ap (map list_view) c.deref-2.ensures.value ∙ own in
    let there : map list_view c.deref-4.result.now ≡ all = ap (map list_view) c.deref-4.ensures.value ∙ own in
    record {
      verdict = subst (λ (ls : List (List TransactionTree)). IsVerdictOn spec blocks names ls c.args.group.now.outcome c.in_ok-verdict.verdict) there c.in_ok-verdict.ensures;
      orders = subst (λ (ls : List (List TransactionTree)). StandFor (IsSerialOrder spec blocks names ls) c.in_ok-orders.orders.items) here c.in_ok-orders.ensures;
    }
