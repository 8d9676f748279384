use Rattle.std.proofs.Common.{◌≡◌, ◌∙◌, ap, sym, map, Some, None}
use Rattle.std.specs.Option.{option_or}
use Rattle.sql_trees.specs.Statements.{column_of, update_of}
use Rattle.query_results.specs.Queries.{cols_of, undefined_among}
use Rattle.query_results.specs.Updates.{update_exprs}
use Rattle.session_queries.proofs.ColumnLists.{known_columns}
use Rattle.session_queries.proofs.ColumnsNamed.{of_update}
use Rattle.session_queries.specs.Inner.Undefined.{undefined_in_changes, undefined_in_returned}
use Rattle.session_queries.proofs.undefined.undefined_in_update.Goals as goal

pub returns-in-Some : goal.returns-in-Some
returns-in-Some c =
    let cols = c.of-columns.result in
    let u = update_of c.args.update.now in
    let named : cols_of (map column_of c.args.columns.now) ≡ cols = known_columns c.args.columns.now ∙ sym c.of-columns.ensures in
    let found : undefined_in_changes cols u ≡ Some c.in-Some.name = sym c.undefined_in_changes.ensures ∙ c.in-Some.is in
    sym (ap (λ cs. undefined_among cs (update_exprs u)) named ∙ of_update cols u ∙ ap (λ lacks. option_or lacks (undefined_in_returned cols u.returning)) found)

pub returns-in-None : goal.returns-in-None
returns-in-None c =
    let cols = c.of-columns.result in
    let u = update_of c.args.update.now in
    let named : cols_of (map column_of c.args.columns.now) ≡ cols = known_columns c.args.columns.now ∙ sym c.of-columns.ensures in
    let none : undefined_in_changes cols u ≡ None = sym c.undefined_in_changes.ensures ∙ c.in-None.is in
    c.undefined_in_returned.ensures
    ∙ sym (ap (λ cs. undefined_among cs (update_exprs u)) named ∙ of_update cols u ∙ ap (λ lacks. option_or lacks (undefined_in_returned cols u.returning)) none)
