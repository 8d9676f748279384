-- The tree of an expression that holds a list.
use Rattle.std.proofs.Common.{◌≡◌, Bool, refl, ap, ◌∙◌, Box, Global}
use Rattle.std.specs.Prelude.{Vec}
use mathlib.Core.Former.{Count}
use Rattle.sql_trees.specs.declared.expr.Expr.{Expr, Row_of-Expr, end_of-Expr, more_of-Expr, items-the_row-Expr, items_hidden-the_row-Expr-0}
use Rattle.sql_trees.specs.declared.expr.Expr.TheVariants.{In, In'}
use Rattle.sql_trees.specs.Trees.{more, tree_of, trees_of, trees}
use Rattle.sql_trees.specs.Trees as tree

abbrev row_of : Expr → (n : Count) × Row_of-Expr n
row_of (In' _ _ _ _ row) = (_, row)
row_of _ = (_, end_of-Expr)

of_row : (n : Count) (row : Row_of-Expr n) → trees_of row ≡ trees (items-the_row-Expr n row)
of_row n end_of-Expr = refl
of_row n (more_of-Expr e rest) = ap (more (tree_of e)) (of_row _ rest)

pub in_tree : (b : Box Expr Global) (n : Bool) (v : Vec Expr Global) → tree_of (In b n v) ≡ tree.In (tree_of b.value) n (trees v.items)
in_tree b n v =
    let row = row_of (In b n v) in
    ap (tree.In (tree_of b.value) n) (of_row row.0 row.1 ∙ ap trees (items_hidden-the_row-Expr-0 v))
