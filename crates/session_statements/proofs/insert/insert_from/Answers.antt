use Rattle.std.proofs.Common.{◌≡◌, ◌∙◌, ap, sym, subst, drop, List, rules}
use Rattle.std.specs.Prelude.{IfOk, Option, option_map}
use Rattle.sql_trees.specs.Statements.{ItemTree, insert_of, items_of}
use Rattle.query_results.specs.Queries.{AssignedColumn, columns_assigned}
use Rattle.session_machine.specs.Rows.{columns_in}
use Rattle.session_machine.specs.Statements.{Effect}
use Rattle.session_machine.specs.Inner.Statements.{answer, insert_one, assigned_to, after_walk, put_insert, walked}
use Rattle.session_statements.specs.Inner.Acting.{halted_walk}
use Rattle.session_statements.specs.Inner.Left.{left}
use Rattle.session_statements.proofs.Going.{inserts_on, same_end}
use Rattle.session_statements.proofs.Visiting.{still_at_work}
use Rattle.session_statements.proofs.insert.insert_from.Goals as goal

pub end-requires : goal.end-requires
end-requires g c = record { work = still_at_work c.args.db.now c.insert_rows.new.db c.args.work.now c.in_ok-halted.ensures.kept c.requires.work }

pub returns-clause-did : goal.returns-clause-did
returns-clause-did g c =
    let db = c.args.db.now in
    let w = c.args.work.now in
    let i = insert_of c.args.stmt.now in
    let later = c.insert_rows.new.db in
    let rows = c.insert_rows.new.rows.items in
    let outcome = answer (columns_in db w) i.returning in
    let to : List AssignedColumn = assigned_to (columns_assigned (columns_in db w) i.columns) in
    let same : to ≡ c.in_ok-to.to = search rules in
    let items : option_map (λ is. items_of is.now) c.as_ref-2.result ≡ i.returning = search rules in
    let e =
    ap (λ (is : Option (List ItemTree)). halted_walk db.content w (answer (columns_in later w) is) later rows c.in_ok-halted.halted) items
    ∙ same_end db.content db later w i.returning rows c.in_ok-halted.halted c.in_ok-halted.ensures.kept.catalog
    ∙ sym (inserts_on db w c.args.place c.args.rows.items i
    ∙ ap (λ (ts : List AssignedColumn). after_walk db.content w outcome (walked (insert_one w (put_insert i) ts) db c.args.place c.args.rows.items (drop c.args.place i.rows))) same
    ∙ c.in_ok-halted.ensures.walk db.content outcome) in
    subst (λ (x : Effect). IfOk c.end.result (λ did. x ≡ left c.end.new.db did)) e (c.end.ensures.did db.content (sym c.in_ok-halted.ensures.kept.fates))
