use Rattle.sql_trees.specs.Statements.{stmt_of}
use Rattle.session_machine.specs.declared.session.Transaction.TheVariants.{Aborted}
use Rattle.session_machine.specs.Running.{run_stmt}
use Rattle.session_statements.proofs.Alone.{aborted_over}
use Rattle.session_statements.proofs.Kept.{over_keeps}
use Rattle.session_statements.proofs.run.run_statement.Goals as goal

pub returns-in-Closed-clause-did : goal.returns-in-Closed-clause-did
returns-in-Closed-clause-did g c = rw c.in-Closed.is (c.run_closed.ensures.did c.args.statement)

pub returns-in-Aborted-clause-did : goal.returns-in-Aborted-clause-did
returns-in-Aborted-clause-did g c = rw c.in-Aborted.is (c.run_aborted.ensures c.args.db.now c.args.statement c.args.around.now)

pub returns-in-Aborted-clause-kept : goal.returns-in-Aborted-clause-kept
returns-in-Aborted-clause-kept g c =
    let db = c.args.db.now in
    let stmt = stmt_of c.args.stmt.now in
    over_keeps db db stmt (run_stmt db Aborted c.args.statement c.args.around.now stmt) c.run_aborted.result (aborted_over db c.args.statement c.args.around.now stmt)
    (c.run_aborted.ensures db c.args.statement c.args.around.now)
