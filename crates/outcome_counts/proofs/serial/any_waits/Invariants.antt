use Rattle.std.proofs.Common.{◌≡◌, drop}
use Rattle.std.specs.List.{list_any}
use Rattle.outcome_counts.specs.Serial.{is_wait}
use Rattle.outcome_counts.proofs.serial.any_waits.Given as goal

abbrev pub invariant-loop-item : goal.invariant-loop-item
invariant-loop-item l = list_any is_wait (drop l.item-index l.items) ≡ list_any is_wait l.items
