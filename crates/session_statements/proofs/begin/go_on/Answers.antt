use Rattle.std.proofs.Common.{◌≡◌, ◌∙◌, sym, subst}
use Rattle.std.specs.Prelude.{IfOk, Some, Ok}
use Rattle.sql_trees.specs.declared.stmt.Stmt.{Stmt}
use Rattle.sql_trees.specs.Statements.{delete_of, select_of, stmt_of, Selects}
use Rattle.session_machine.specs.Rows.{columns_in}
use Rattle.session_machine.specs.Statements.{Effect}
use Rattle.session_machine.specs.Inner.Statements.{answer, delete_one, lock_one}
use Rattle.session_machine.specs.Targets.{passing_targets, taken_targets}
use Rattle.session_statements.specs.Inner.Left.{left}
use Rattle.session_statements.specs.Targets.{targets_of}
use Rattle.session_statements.proofs.Going.{deletes_on, goes_over, locks_on}
use Rattle.session_statements.proofs.Kept.{locked_targets, targets_in}
use Rattle.session_statements.proofs.begin.go_on.Goals as goal

pub go_over-requires-clause-its : goal.go_over-requires-clause-its
go_over-requires-clause-its g c = targets_in c.args.db.now c.args.work.now (stmt_of c.args.stmt.now) c.args.targets.items c.requires.work.running.orderly.1 c.requires.targets

pub go_over-requires-in-Some-clause-its : goal.go_over-requires-in-Some-clause-its
go_over-requires-in-Some-clause-its g c = targets_in c.args.db.now c.args.work.now (stmt_of c.args.stmt.now) c.args.targets.items c.requires.work.running.orderly.1 c.requires.targets

pub returns-in-Delete-clause-did : goal.returns-in-Delete-clause-did
returns-in-Delete-clause-did g c =
    let db = c.args.db.now in
    let w = c.args.work.now in
    let d = delete_of c.in-Delete.delete in
    let found : passing_targets db w d.filter ≡ Ok c.args.targets.items =
    subst (λ (s : Stmt). targets_of db w (stmt_of s) ≡ Ok c.args.targets.items) c.in-Delete.is c.requires.targets in
    let there = deletes_on db w c.args.place c.args.rows.items d
    ∙ goes_over (delete_one w d) db w (answer (columns_in db w) d.returning) c.args.place c.args.rows.items c.args.targets.items found in
    rw c.in-Delete.is (subst (λ (x : Effect). IfOk c.go_over.result (λ did. x ≡ left c.go_over.new.db did)) (sym there) c.go_over.ensures.did)

pub returns-in-Some-clause-did : goal.returns-in-Some-clause-did
returns-in-Some-clause-did g c =
    let db = c.args.db.now in
    let w = c.args.work.now in
    let s = select_of c.in-Select.select in
    let l = c.in-Some.lock in
    let due : targets_of db w (Selects s) ≡ Ok c.args.targets.items =
    subst (λ (x : Stmt). targets_of db w (stmt_of x) ≡ Ok c.args.targets.items) c.in-Select.is c.requires.targets in
    let found : taken_targets db w s ≡ Ok c.args.targets.items = sym (locked_targets db w s l c.in-Some.is) ∙ due in
    let there = locks_on db w c.args.place c.args.rows.items s l c.in-Some.is
    ∙ goes_over (lock_one w s l) db w (answer (columns_in db w) (Some s.items)) c.args.place c.args.rows.items c.args.targets.items found in
    rw c.in-Select.is (subst (λ (x : Effect). IfOk c.go_over-in-Some.result (λ did. x ≡ left c.go_over-in-Some.new.db did)) (sym there) c.go_over-in-Some.ensures.did)
