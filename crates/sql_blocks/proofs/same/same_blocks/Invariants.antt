use Rattle.std.proofs.Common.{◌≡◌, ◌↔◌, drop}
use Rattle.sql_blocks.specs.Blocks.{blocks_of}
use Rattle.sql_blocks.proofs.same.same_blocks.Given as goal

-- the lists are one exactly if what is left of them is
abbrev pub invariant-loop-block : goal.invariant-loop-block
invariant-loop-block l = (blocks_of l.blocks ≡ blocks_of l.others) ↔ (blocks_of (drop l.block-index l.blocks) ≡ blocks_of l.left)
