use Rattle.std.proofs.Common.{◌≡◌, drop}
use Rattle.std.specs.Prelude.{fold}
use Rattle.sql_blocks.specs.Blocks.{blocks_of}
use Rattle.outcome_counts.specs.Serial.{after_item, at_first}
use Rattle.outcome_counts.proofs.standing.is_in_queries.Given as goal

abbrev pub invariant-loop-item : goal.invariant-loop-item
invariant-loop-item l =
    fold (after_item (blocks_of l.blocks) l.session) l.s (drop l.item-index l.items) ≡ fold (after_item (blocks_of l.blocks) l.session) at_first l.items
