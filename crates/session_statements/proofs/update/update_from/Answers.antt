use Rattle.std.proofs.Common.{◌≡◌, ◌∙◌, ap, sym, subst, map, drop, List}
use Rattle.std.specs.Prelude.{IfOk}
use Rattle.sql_trees.specs.Statements.{set_of, update_of, Updates}
use Rattle.query_results.specs.Queries.{AssignedColumn}
use Rattle.query_results.specs.Updates.{columns_set}
use Rattle.session_machine.specs.Rows.{columns_in}
use Rattle.session_machine.specs.Statements.{Effect}
use Rattle.session_machine.specs.Inner.Statements.{update_one, answer, assigned_to, after_walk, walked}
use Rattle.session_statements.specs.Inner.Left.{left}
use Rattle.session_statements.proofs.Going.{goes_over, updates_on}
use Rattle.session_statements.proofs.Kept.{targets_in}
use Rattle.session_statements.proofs.update.update_from.Goals as goal

pub go_over-requires-clause-its : goal.go_over-requires-clause-its
go_over-requires-clause-its g c = targets_in c.args.db.now c.args.work.now (Updates (update_of c.args.stmt.now)) c.args.targets.items c.requires.work.running.orderly.1 c.requires.targets

pub returns-clause-did : goal.returns-clause-did
returns-clause-did g c =
    let db = c.args.db.now in
    let w = c.args.work.now in
    let u = update_of c.args.stmt.now in
    let outcome = answer (columns_in db w) u.returning in
    let to : List AssignedColumn = assigned_to (columns_set (columns_in db w) u.sets) in
    let same : c.in_ok-to.to ≡ to =
    c.in_ok-to.ensures ∙ ap (λ cs. assigned_to (columns_set cs (map set_of c.deref.result.now))) c.columns_in.ensures
    ∙ ap (λ xs. assigned_to (columns_set (columns_in db w) (map set_of xs))) c.deref.ensures.value in
    let there = updates_on db w c.args.place c.args.rows.items u ∙ goes_over (update_one w u to) db w outcome c.args.place c.args.rows.items c.args.targets.items c.requires.targets in
    subst (λ (x : Effect). IfOk c.go_over.result (λ did. x ≡ left c.go_over.new.db did)) (sym there)
    (subst (λ (x : List AssignedColumn). IfOk c.go_over.result (λ did.
    after_walk db.content w outcome (walked (update_one w u x) db c.args.place c.args.rows.items (drop c.args.place c.args.targets.items)) ≡ left c.go_over.new.db did)) same c.go_over.ensures.did)
