-- The items of an IN: as a list, and after some of them.
use Rattle.std.proofs.Common.{◌≡◌, Bool, true, false, refl, ap, Ok, None}
use mathlib.Core.Former.{Count}
use Rattle.sql_trees.specs.declared.expr.Expr.{Row_of-Expr, end_of-Expr, more_of-Expr, items-the_row-Expr}
use Rattle.sql_trees.specs.Trees.{tree_of, trees, trees_of, more}
use Rattle.sql_values.specs.Logic.{Known, decided_by}

pub trees_of_row : (n : Count) (k : Row_of-Expr n) → trees_of k ≡ trees (items-the_row-Expr n k)
trees_of_row n end_of-Expr = refl
trees_of_row n (more_of-Expr e rest) = ap (more (tree_of e)) (trees_of_row _ rest)

-- what is known after items of which none was equal, and one was perhaps not known
abbrev pub after : Bool → Known → Known
after true k = decided_by true (Ok None) k
after false k = k
