-- Which expressions may ask for memory when they are evaluated.
use Rattle.std.specs.Prelude.{Bool, true, false, ◌||◌}
use Rattle.sql_trees.specs.declared.expr.Operator.TheVariants.{Concat}
use Rattle.sql_trees.specs.Trees.{Tree, Trees}
use Rattle.sql_trees.specs.Trees as tree

abbrev mutual
  -- some part is a string, a column, whose value is copied, or joins two texts
  pub may_grow : Tree → Bool
  may_grow (tree.Text s) = true
  may_grow (tree.Column name) = true
  may_grow (tree.Plus a) = may_grow a
  may_grow (tree.Minus a) = may_grow a
  may_grow (tree.Not a) = may_grow a
  may_grow (tree.Binary Concat a b) = true
  may_grow (tree.Binary op a b) = may_grow a || may_grow b
  may_grow (tree.Is a negated asked) = may_grow a
  may_grow (tree.In a negated items) = may_grow a || some_may_grow items
  may_grow (tree.Between a negated low high) = may_grow a || (may_grow low || may_grow high)
  may_grow constant = false

  pub some_may_grow : Trees → Bool
  some_may_grow tree.none = false
  some_may_grow (tree.more e rest) = may_grow e || some_may_grow rest
