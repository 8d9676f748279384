use Rattle.std.proofs.Common.{◌≡◌, drop}
use Rattle.std.specs.List.{list_any}
use Rattle.session_machine.specs.declared.reply.HistItem.{HistItem}
use Rattle.session_machine.specs.Machine.{is_failed}
use Rattle.report_lines.proofs.segments.any_fails.Given as goal

abbrev pub invariant-loop-item : goal.invariant-loop-item
invariant-loop-item l =
    let fails = λ (item : HistItem). is_failed item.reply.outcome in list_any fails (drop l.item-index l.items) ≡ list_any fails l.items
