use Rattle.std.proofs.Common.{◌≡◌, ap, subst, refl}
use Rattle.std.specs.Prelude.{IfOk}
use Rattle.sql_trees.specs.Statements.{stmt_of}
use Rattle.session_machine.specs.declared.session.OpenTransaction.{OpenTransaction}
use Rattle.session_machine.specs.declared.fault.StmtFault.TheVariants.{Value as OfValue}
use Rattle.session_machine.specs.Rows.{Work}
use Rattle.session_machine.specs.Statements.{fails}
use Rattle.session_statements.specs.Inner.Left.{left}
use Rattle.session_statements.proofs.Kept.{failed_there, over_all}
use Rattle.session_statements.proofs.begin.start.Goals as goal

pub returns-in-Err-clause-did : goal.returns-in-Err-clause-did
returns-in-Err-clause-did g c =
    let db = c.args.db.now in
    let w = c.args.work.now in
    failed_there db c.fail_value.new.db w (stmt_of c.args.stmt.now) c.fail_value.result c.in-Err.fault c.in-Err.ensures
    (subst (λ (t : OpenTransaction). IfOk c.fail_value.result (λ did. fails db t (OfValue c.in-Err.fault) ≡ left c.fail_value.new.db did)) (ap (λ (x : Work). x.t) c.work.view_is) c.fail_value.ensures.did)
    c.fail_value.ensures.other

pub returns-in-Err-clause-kept : goal.returns-in-Err-clause-kept
returns-in-Err-clause-kept g c =
    over_all c.args.db.now c.fail_value.new.db (stmt_of c.args.stmt.now) (fails c.args.db.now c.work.inside.by (OfValue c.in-Err.fault)) c.fail_value.result refl c.fail_value.ensures.did
