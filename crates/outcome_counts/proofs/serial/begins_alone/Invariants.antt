use Rattle.std.proofs.Common.{◌≡◌, ◌<◌, ℕ, false}
use Rattle.sql_blocks.specs.Blocks.{blocks_of}
use Rattle.outcome_counts.specs.Serial.{is_beside}
use Rattle.outcome_counts.proofs.serial.begins_alone.Given as goal

abbrev pub invariant-loop-other : goal.invariant-loop-other
invariant-loop-other l = (o : ℕ) → o < l.other → is_beside (blocks_of l.blocks) l.session l.items o ≡ false
