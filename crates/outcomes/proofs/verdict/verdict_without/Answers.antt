use Rattle.std.proofs.Common.{◌∙◌, List, map, ap, subst}
use Rattle.std.specs.Prelude.{string_bytes}
use Rattle.sql_blocks.specs.Blocks.{blocks_of}
use Rattle.spec_parser.specs.Trees.{spec_view}
use Rattle.outcome_verdicts.specs.declared.serial_orders.SerialOrder.{SerialOrder}
use Rattle.outcome_verdicts.specs.Transactions.{TransactionTree, list_view, transaction_view}
use Rattle.outcome_verdicts.specs.Failures.{SameBut, rest_of}
use Rattle.outcome_verdicts.specs.Verdicts.{IsFound, IsNotFound, StandFor}
use Rattle.outcome_verdicts.proofs.Judging.{rest_has, rest_has_not}
use Rattle.outcomes.specs.Judging.{IsSerialOrder}
use Rattle.outcomes.proofs.verdict.verdict_without.Goals as goal

pub returns-in-Some : goal.returns-in-Some
returns-in-Some c =
    let spec = spec_view c.args.spec.now in
    let blocks = blocks_of c.args.blocks.now in
    let lists = map list_view c.args.lists.now in
    let o = c.args.outcome.now in
    let ts = map transaction_view c.args.failed.now in
    let found = c.in-Some.order.now.sessions.items in
    let has = IsSerialOrder spec blocks (map string_bytes c.args.names.now) in
    rest_has spec blocks lists (has lists) (has (rest_of spec o lists)) o ts c.in_ok-orders.orders.items c.in_ok-failed-in-Some.failed c.in_ok-rest-in-Some.rest found c.requires.failed
    c.requires.none c.requires.some c.requires.out
    (subst (λ (ls : List (List TransactionTree)). StandFor (has ls) c.in_ok-orders.orders.items) (ap (map list_view) c.deref.ensures.value ∙ c.in_ok-kept.ensures) c.in_ok-orders.ensures)
    c.in_ok-failed-in-Some.ensures (c.in_ok-rest-in-Some.ensures.items ∙ c.as_slice.ensures.value)
    (subst (λ (os : List SerialOrder). IsFound os (λ s. SameBut spec ts s o) found) c.deref-2.ensures.value c.in-Some.ensures)

pub returns : goal.returns
returns c =
    let spec = spec_view c.args.spec.now in
    let blocks = blocks_of c.args.blocks.now in
    let lists = map list_view c.args.lists.now in
    let o = c.args.outcome.now in
    let ts = map transaction_view c.args.failed.now in
    let has = IsSerialOrder spec blocks (map string_bytes c.args.names.now) in
    rest_has_not spec blocks lists (has lists) (has (rest_of spec o lists)) o ts c.in_ok-orders.orders.items c.requires.failed c.requires.none c.requires.out
    (subst (λ (ls : List (List TransactionTree)). StandFor (has ls) c.in_ok-orders.orders.items) (ap (map list_view) c.deref.ensures.value ∙ c.in_ok-kept.ensures) c.in_ok-orders.ensures)
    (subst (λ (os : List SerialOrder). IsNotFound os (λ s. SameBut spec ts s o)) c.deref-2.ensures.value c.in-None.ensures)
