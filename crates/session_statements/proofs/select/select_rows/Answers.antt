use Rattle.std.proofs.Common.{◌≡◌, sym, subst}
use Rattle.std.specs.Prelude.{IfOk}
use Rattle.sql_trees.specs.Statements.{select_of, Selects}
use Rattle.query_results.specs.Queries.{result_of}
use Rattle.session_machine.specs.Views.{rows_shown}
use Rattle.session_machine.specs.Rows.{Work, columns_in}
use Rattle.session_machine.specs.Statements.{Effect}
use Rattle.session_machine.specs.Running.{at_once}
use Rattle.session_statements.specs.Inner.Left.{left}
use Rattle.session_statements.proofs.Going.{answers_at_once}
use Rattle.session_statements.proofs.select.select_rows.Goals as goal

pub returns : goal.returns
returns g c =
    let db = c.args.db.now in
    let w = c.args.work.now in
    let s = select_of c.args.stmt.now in
    let columns = columns_in db w in
    let rows = rows_shown db.content w.view w.table in
    subst (λ (x : Work). IfOk c.answer.result (λ did. at_once db x.t columns rows (Selects s) ≡ left c.answer.new.db did)) c.work.view_is
    (subst (λ (x : Effect). IfOk c.answer.result (λ did. x ≡ left c.answer.new.db did)) (sym (answers_at_once db c.work.inside.by columns rows s))
    (c.answer.ensures.did (result_of s columns rows) c.result_at-made.ensures))
