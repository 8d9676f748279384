use Rattle.std.proofs.Common.{rules, sym, ap, ◌∙◌}
use Rattle.sql_trees.specs.declared.expr.Expr.TheViews.{the_lemmas}
use Rattle.std.proofs.lemmas.List.{drop_all}
use Rattle.sql_trees.specs.Trees.{trees}
use Rattle.sql_trees.specs.Same.{same_trees}
use Rattle.sql_equality.proofs.Sameness.{none_left}
use Rattle.sql_equality.proofs.Rows.{trees_of_row}
use Rattle.sql_equality.proofs.expressions.+same.Goals as goal

pub alike-returns-in-In-matches : goal.alike-returns-in-In-matches
alike-returns-in-In-matches t c = search (rules, the_lemmas, trees_of_row)

pub alike-returns-in_default-matches-10 : goal.alike-returns-in_default-matches-10
alike-returns-in_default-matches-10 t c = search (rules, the_lemmas, trees_of_row)

pub all_alike-returns : goal.all_alike-returns
all_alike-returns t c =
    c.is_empty.ensures ∙ none_left c.loop-item.left.now
    ∙ sym (c.loop-item.invariant ∙ ap (λ xs. same_trees (trees xs) (trees c.loop-item.left.now)) (drop_all c.loop-item.item-index c.args.items.now c.loop-item-test.false))
