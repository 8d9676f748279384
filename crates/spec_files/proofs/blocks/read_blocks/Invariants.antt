use Rattle.std.specs.Prelude.{map}
use Rattle.sql_blocks.specs.Blocks.{blocks_of}
use Rattle.spec_files.specs.BlockAnswers.{placed_view}
use Rattle.spec_files.proofs.Reading.{SoFar}
use Rattle.spec_files.proofs.blocks.read_blocks.Given as goal

abbrev pub invariant-loop-placed : goal.invariant-loop-placed
invariant-loop-placed l = SoFar (map placed_view l.parts) (blocks_of l.blocks.items) l.placed-index
