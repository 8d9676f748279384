use Rattle.std.proofs.Common.{◌≡◌, ◌∙◌, ◌∷◌, [], length, map, ap, subst, rules}
use Rattle.std.specs.Prelude.{string_bytes}
use Rattle.sql_blocks.specs.Blocks.{blocks_of}
use Rattle.spec_parser.specs.Trees.{spec_view}
use Rattle.permutation_lists.specs.Interleavings.{interleavings}
use Rattle.outcome_verdicts.specs.Transactions.{in_order, list_view}
use Rattle.outcome_verdicts.specs.Code.Adding.{IsTold}
use Rattle.outcome_verdicts.proofs.Told.{at_first, at_last, next_order}
use Rattle.outcomes.specs.Judging.{IsSerialIn}
use Rattle.outcomes.proofs.Serially.{one_outcome}
use Rattle.outcomes.proofs.serial.serial_orders.Goals as goal

pub loop-interleavings-init : goal.loop-interleavings-init
loop-interleavings-init c =
    at_first (IsSerialIn (spec_view c.args.spec.now) (blocks_of c.args.blocks.now) (map string_bytes c.args.names.now) (map list_view c.args.lists.now))
    (interleavings c.in_ok-counts.counts.items) c.in_ok-interleavings.interleavings c.new-orders.result.items (c.in_ok-interleavings.ensures ∙ ap interleavings c.deref.ensures.value)
    c.new-orders.ensures.items

pub loop-interleavings-preserved : goal.loop-interleavings-preserved
loop-interleavings-preserved c =
    let spec = spec_view c.args.spec.now in
    let blocks = blocks_of c.args.blocks.now in
    let names = map string_bytes c.args.names.now in
    let lists = map list_view c.args.lists.now in
    let order = c.next.new.out.items in
    let more : c.loop-interleavings.interleavings ≡ order ∷ c.next.new.self = search rules in
    let told : IsTold (IsSerialIn spec blocks names lists) c.loop-interleavings.orders.items c.tell_order.new.orders.items order =
    subst (IsTold (IsSerialIn spec blocks names lists) c.loop-interleavings.orders.items c.tell_order.new.orders.items) c.deref-in-loop-interleavings.ensures.value c.in_ok-tell_order.ensures in
    next_order (IsSerialIn spec blocks names lists) (interleavings c.in_ok-counts.counts.items) c.loop-interleavings.interleavings c.next.new.self c.loop-interleavings.orders.items
    c.tell_order.new.orders.items order (one_outcome spec blocks names (in_order lists order)) c.loop-interleavings.invariant more told

pub returns : goal.returns
returns c =
    let none : c.loop-interleavings.interleavings ≡ [] = search rules in
    at_last (IsSerialIn (spec_view c.args.spec.now) (blocks_of c.args.blocks.now) (map string_bytes c.args.names.now) (map list_view c.args.lists.now)) c.in_ok-counts.counts.items
    (map length (map list_view c.args.lists.now)) c.loop-interleavings.interleavings c.loop-interleavings.orders.items c.loop-interleavings.invariant none c.in_ok-counts.ensures
