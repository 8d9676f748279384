use Rattle.std.proofs.Common.{◌<◌, ◌≤◌, ℕ}
use Rattle.sql_blocks.specs.Blocks.{blocks_of}
use Rattle.outcome_counts.specs.Serial.{IsAloneAt}
use Rattle.outcome_counts.proofs.serial.all_alone.Given as goal

abbrev pub invariant-loop-k : goal.invariant-loop-k
invariant-loop-k l = (j : ℕ) → l.setups ≤ j → j < l.k → IsAloneAt (blocks_of l.blocks) l.count l.items j
