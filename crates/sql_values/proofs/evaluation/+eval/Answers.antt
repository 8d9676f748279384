use Rattle.std.proofs.Common.{rules}
use Rattle.sql_trees.specs.declared.expr.Expr.TheViews.{the_lemmas}
use Rattle.sql_values.proofs.Among.{trees_of_row}
use Rattle.sql_values.proofs.evaluation.+eval.Goals as goal

pub eval-returns-in_ok-a-in-In : goal.eval-returns-in_ok-a-in-In
eval-returns-in_ok-a-in-In t c = search (rules, the_lemmas, trees_of_row)
