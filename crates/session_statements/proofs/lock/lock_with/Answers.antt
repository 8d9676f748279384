use Rattle.std.proofs.Common.{◌≡◌, refl, subst, map, List}
use Rattle.std.specs.Prelude.{IfOk, Some}
use Rattle.sql_trees.specs.Statements.{item_of}
use Rattle.sql_trees.specs.declared.stmt.Item.{Item}
use Rattle.sql_values.specs.declared.value.Value.{Value}
use Rattle.session_machine.specs.Inner.Statements.{shows}
use Rattle.session_statements.specs.Inner.Acting.{visit_of}
use Rattle.session_statements.proofs.lock.lock_with.Goals as goal

pub returns : goal.returns
returns g c =
    let db = c.args.db.now in
    let w = c.args.work.now in
    subst (λ (row : List Value). IfOk c.show.result (λ v. shows w (Some (map item_of c.args.stmt.now.items.items)) db row ≡ visit_of db v)) c.row_of.ensures
    (subst (λ (items : List Item). IfOk c.show.result (λ v. shows w (Some (map item_of items)) db c.row_of.result.now ≡ visit_of db v)) c.deref.ensures.value (c.show.ensures db refl))
