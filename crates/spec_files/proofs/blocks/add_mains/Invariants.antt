use Rattle.std.proofs.Common.{◌≡◌, ◌++◌, take}
use Rattle.std.specs.Prelude.{map}
use Rattle.spec_parser.specs.Trees.{part_view}
use Rattle.sql_blocks.specs.declared.block.Role.TheVariants.{Main}
use Rattle.spec_files.specs.BlockAnswers.{block_as}
use Rattle.spec_files.specs.BlockAnswers.{placed_view}
use Rattle.spec_files.proofs.blocks.add_mains.Given as goal

abbrev pub invariant-loop-part : goal.invariant-loop-part
invariant-loop-part l = map placed_view l.parts.items ≡ map placed_view l.fn.parts.items ++ map (block_as Main) (map part_view (take l.part-index l.mains))
