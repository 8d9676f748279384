use Rattle.std.proofs.Common.{◌≡◌, ◌∙◌, ℕ, false, sym, below_more}
use Rattle.sql_blocks.specs.Blocks.{blocks_of}
use Rattle.outcome_counts.specs.Serial.{is_beside}
use Rattle.outcome_counts.proofs.serial.begins_alone.Goals as goal

pub loop-other-preserved : goal.loop-other-preserved
loop-other-preserved c = λ o below.
    below_more (λ (n : ℕ). is_beside (blocks_of c.args.blocks.now) c.in-Launch.session c.args.items.now n ≡ false) c.loop-other.other c.loop-other.invariant
    (sym c.is_beside.ensures ∙ c.if-is_beside.false) o below
