use Rattle.std.proofs.Common.{◌≡◌, ◌∙◌, sym, ap, subst, List, []}
use Rattle.std.specs.Prelude.{IfOk, Some, None}
use Rattle.sql_trees.specs.Statements.{ColumnTree, name_of, stmt_of}
use Rattle.session_machine.specs.Tables.{find_table}
use Rattle.session_machine.specs.Statements.{Effect}
use Rattle.session_machine.specs.Running.{fault_in}
use Rattle.session_machine.specs.Inner.Pieces.{table_columns}
use Rattle.session_statements.specs.Inner.Going.{go_from}
use Rattle.session_statements.specs.Inner.Left.{left}
use Rattle.session_statements.proofs.Going.{begins_there}
use Rattle.session_statements.proofs.begin.begin_at.Goals as goal

pub returns-clause-did : goal.returns-clause-did
returns-clause-did g c =
    let db = c.args.db.now in
    let t = c.args.by.now in
    let name = name_of c.args.name in
    let stmt = stmt_of c.args.stmt.now in
    let k = c.in-Some.place in
    let at : find_table db (Some t.tx) name ≡ Some k = sym c.find_table.ensures.first ∙ c.in-Some.is in
    let right : fault_in (table_columns db.catalog k) stmt ≡ None =
    ap (λ (columns : List ColumnTree). fault_in columns stmt) (sym c.columns.ensures) ∙ sym c.in_ok-fault.ensures.fault ∙ c.in_default-2.is in
    let there = begins_there db t c.args.around.now name stmt k at right ∙ λ i. go_from db (sym c.work-work.ensures i) stmt 0 [] in
    subst (λ (x : Effect). IfOk c.start.result (λ did. x ≡ left c.start.new.db did)) (sym there) c.start.ensures.did
