-- A block as contracts see it.
use Rattle.std.specs.Prelude.{List}
use Rattle.sql_trees.specs.declared.stmt.Stmt.{Stmt}
use Rattle.sql_blocks.specs.declared.block.Role.{Role}

-- where a block stands, and its statements
pub record BlockView : Type 0 where
  pub role : Role
  pub stmts : List Stmt
