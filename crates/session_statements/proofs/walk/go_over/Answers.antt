use Rattle.std.proofs.Common.{◌≡◌, ◌∙◌, ap, sym, subst, drop, List}
use Rattle.std.specs.Prelude.{IfOk, Option}
use Rattle.sql_trees.specs.Statements.{ItemTree}
use Rattle.row_versions.specs.declared.write.Seen.{Seen}
use Rattle.session_machine.specs.Rows.{columns_in}
use Rattle.session_machine.specs.Statements.{Effect}
use Rattle.session_machine.specs.Inner.Statements.{answer, after_walk, walked}
use Rattle.session_statements.specs.Inner.Acting.{halted_walk, items_in, visit_at}
use Rattle.session_statements.specs.Inner.Keeping.{RowsIn}
use Rattle.session_statements.specs.Inner.Left.{left}
use Rattle.session_statements.proofs.Going.{same_end}
use Rattle.session_statements.proofs.Visiting.{still_at_work}
use Rattle.session_statements.proofs.walk.go_over.Goals as goal

pub walk-requires-clause-its : goal.walk-requires-clause-its
walk-requires-clause-its g c = subst (RowsIn c.args.db.now.content c.args.work.now.table) (sym c.deref.ensures.value) c.requires.its

pub end-requires : goal.end-requires
end-requires g c = record { work = still_at_work c.args.db.now c.walk.new.db c.args.work.now c.in_ok-halted.ensures.kept c.requires.work }

pub returns-clause-did : goal.returns-clause-did
returns-clause-did g c =
    let db = c.args.db.now in
    let w = c.args.work.now in
    let items = items_in c.args.act.now in
    let later = c.walk.new.db in
    let rows = c.walk.new.rows.items in
    let outcome = answer (columns_in db w) items in
    let e =
    ap (λ (is : Option (List ItemTree)). halted_walk db.content w (answer (columns_in later w) is) later rows c.in_ok-halted.halted) c.items.ensures
    ∙ same_end db.content db later w items rows c.in_ok-halted.halted c.in_ok-halted.ensures.kept.catalog
    ∙ sym (ap (λ (ts : List Seen). after_walk db.content w outcome (walked (visit_at w c.args.act.now) db c.args.place c.args.rows.items (drop c.args.place ts))) (sym c.deref.ensures.value)
    ∙ c.in_ok-halted.ensures.walk db.content outcome) in
    subst (λ (x : Effect). IfOk c.end.result (λ did. x ≡ left c.end.new.db did)) e (c.end.ensures.did db.content (sym c.in_ok-halted.ensures.kept.fates))
