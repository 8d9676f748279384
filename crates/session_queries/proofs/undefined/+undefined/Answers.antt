use Rattle.std.proofs.Common.{rules}
use Rattle.sql_trees.specs.declared.expr.Expr.TheViews.{the_lemmas}
use Rattle.session_queries.proofs.Among.{trees_of_row}
use Rattle.session_queries.proofs.undefined.+undefined.Goals as goal

pub undefined_column-returns-in-None-undefined_column : goal.undefined_column-returns-in-None-undefined_column
undefined_column-returns-in-None-undefined_column t c = search (rules, the_lemmas, trees_of_row)
