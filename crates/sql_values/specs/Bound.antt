-- Expressions that are bound to columns.
use Rattle.sql_trees.specs.declared.expr.Expr.{Expr}
use Rattle.sql_trees.specs.Trees.{Tree, tree_of}
use Rattle.sql_values.specs.Expressions.{Cols}

-- an expression, and the columns of the rows that it is evaluated at
pub record BoundExpr : Type 0 where
  pub expr : Expr
  pub columns : Cols

-- the same, with its tree
abbrev pub bound_tree : BoundExpr → Tree × Cols
bound_tree b = (tree_of b.expr, b.columns)
