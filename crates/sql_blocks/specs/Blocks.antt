-- Blocks as decoded trees: an engine is opened over such.
use Rattle.std.specs.Prelude.{List, map}
use Rattle.sql_trees.specs.Statements.{StmtTree, stmt_of}
use Rattle.sql_blocks.specs.declared.block.Block.{Block}

-- a block is its statements, as decoded trees
abbrev pub block_of : Block → List StmtTree
block_of b = map stmt_of b.stmts

abbrev pub blocks_of : List Block → List (List StmtTree)
blocks_of bs = map block_of bs
