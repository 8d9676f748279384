use Rattle.std.proofs.Common.{◌≡◌, ◌≤◌, ◌⊎◌, length, map, take, true, Some}
use Rattle.std.specs.Prelude.{slice_get}
use Rattle.session_machine.specs.declared.reply.HistItem.{HistItem}
use Rattle.spec_parser.specs.Trees.{entry_view}
use Rattle.report_lines.specs.Starts.{is_order}
use Rattle.report_lines.specs.Code.Progress.{Keeps}
use Rattle.report_lines.specs.Inner.Progress.{Lags}
use Rattle.report_lines.proofs.progress.PlanProgress.see_all.Given as goal

abbrev pub invariant-loop-place : goal.invariant-loop-place
invariant-loop-place l = record {
  kept : Keeps (record { entries = map entry_view l.entries; items = take l.place l.items; setups = l.setups }) l.self;
  next : (item : HistItem) → slice_get l.items l.place ≡ Some item → (is_order item.event ≡ true) ⊎ Lags (record { entries = map entry_view l.entries; items = take l.place l.items; setups = l.setups }) l.self;
  same : length l.items ≤ l.initial.self.seen → l.self ≡ l.initial.self;
}
