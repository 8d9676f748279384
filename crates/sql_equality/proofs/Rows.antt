-- The items of an IN as a list.
use Rattle.std.proofs.Common.{◌≡◌, refl, ap}
use mathlib.Core.Former.{Count}
use Rattle.sql_trees.specs.declared.expr.Expr.{Row_of-Expr, end_of-Expr, more_of-Expr, items-the_row-Expr}
use Rattle.sql_trees.specs.Trees.{tree_of, trees, trees_of, more}

pub trees_of_row : (n : Count) (k : Row_of-Expr n) → trees_of k ≡ trees (items-the_row-Expr n k)
trees_of_row n end_of-Expr = refl
trees_of_row n (more_of-Expr e rest) = ap (more (tree_of e)) (trees_of_row _ rest)
