use Rattle.std.proofs.Common.{sym, map}
use Rattle.std.proofs.lemmas.Result.{on_ok_weaker}
use Rattle.spec_parser.specs.Trees.{entry_view}
use Rattle.report_lines.specs.History.{PermutationRun}
use Rattle.report_lines.proofs.Keeping.{seen_order, order_waits, seen_step, step_waits}
use Rattle.report_lines.proofs.progress.PlanProgress.see.Goals as goal

pub returns-in_ok-settle-clause-kept : goal.returns-in_ok-settle-clause-kept
returns-in_ok-settle-clause-kept c =
    let run : PermutationRun = record { entries = map entry_view c.args.entries.now; items = c.args.front.now; setups = c.args.setups } in
    on_ok_weaker c.note.result
    (λ noted. seen_order run c.args.item.now c.settle.new.self c.note.new.self c.in_ok-settle.ensures.settled (sym c.if-is_order.ensures) noted) c.note.ensures.noted

pub returns-in_ok-settle-clause-lags : goal.returns-in_ok-settle-clause-lags
returns-in_ok-settle-clause-lags c =
    let run : PermutationRun = record { entries = map entry_view c.args.entries.now; items = c.args.front.now; setups = c.args.setups } in
    on_ok_weaker c.note.result
    (λ noted. order_waits run c.args.item.now c.settle.new.self c.note.new.self c.in_ok-settle.ensures.settled (sym c.if-is_order.ensures) noted) c.note.ensures.noted

pub returns-else-is_order-clause-kept : goal.returns-else-is_order-clause-kept
returns-else-is_order-clause-kept c =
    let run : PermutationRun = record { entries = map entry_view c.args.entries.now; items = c.args.front.now; setups = c.args.setups } in
    on_ok_weaker c.note-else-is_order.result
    (λ noted. seen_step run c.args.item.now c.args.self.now c.note-else-is_order.new.self c.requires.kept c.requires.next (sym c.if-is_order.ensures) noted) c.note-else-is_order.ensures.noted

pub returns-else-is_order-clause-lags : goal.returns-else-is_order-clause-lags
returns-else-is_order-clause-lags c =
    let run : PermutationRun = record { entries = map entry_view c.args.entries.now; items = c.args.front.now; setups = c.args.setups } in
    on_ok_weaker c.note-else-is_order.result
    (λ noted. step_waits run c.args.item.now c.args.self.now c.note-else-is_order.new.self c.requires.next (sym c.if-is_order.ensures) noted) c.note-else-is_order.ensures.noted
