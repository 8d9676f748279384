use Rattle.std.proofs.Common.{◌≡◌, None, Ok, ap, inr}
use Rattle.std.specs.Prelude.{Option, option_map, true}
use Rattle.sql_trees.specs.declared.expr.Expr.{Expr}
use Rattle.sql_trees.specs.Trees.{tree_of}
use Rattle.sql_values.specs.Expressions.{passes}
use Rattle.session_queries.proofs.Bindings.{some_row}
use Rattle.session_queries.proofs.passing.passing.Goals as goal

pub returns-in_err-all_places-in-None-clause-memory : goal.returns-in_err-all_places-in-None-clause-memory
returns-in_err-all_places-in-None-clause-memory c = λ h.
    let none : c.args.filter.now ≡ None = cc c.in-None.is in
    inr (some_row (λ row. passes (option_map tree_of c.args.filter.now) c.args.columns.now row.now ≡ Ok true) c.args.rows.now c.in_err-all_places-in-None.ensures.memory
    (λ row. ap (λ (filter : Option Expr). passes (option_map tree_of filter) c.args.columns.now row.now) none))
