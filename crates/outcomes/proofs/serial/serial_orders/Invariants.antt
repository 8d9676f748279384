use Rattle.std.proofs.Common.{length, map}
use Rattle.std.specs.Prelude.{string_bytes}
use Rattle.sql_blocks.specs.Blocks.{blocks_of}
use Rattle.spec_parser.specs.Trees.{spec_view}
use Rattle.permutation_lists.specs.Interleavings.{interleavings}
use Rattle.outcome_verdicts.specs.Transactions.{list_view}
use Rattle.outcome_verdicts.proofs.Told.{OrdersSoFar}
use Rattle.outcomes.specs.Judging.{IsSerialIn}
use Rattle.outcomes.proofs.serial.serial_orders.Given as goal

abbrev pub invariant-loop-interleavings : goal.invariant-loop-interleavings
invariant-loop-interleavings l =
    OrdersSoFar (IsSerialIn (spec_view l.spec) (blocks_of l.blocks) (map string_bytes l.names) (map list_view l.lists)) (interleavings l.counts.items) l.interleavings l.orders.items

abbrev pub decreases-loop-interleavings : goal.decreases-loop-interleavings
decreases-loop-interleavings l = length l.interleavings
