use Rattle.std.proofs.Common.{◌≡◌, ◌∙◌, ap, sym, subst, map, List}
use Rattle.std.specs.Prelude.{IfOk, Option, Some, option_map}
use Rattle.sql_trees.specs.Statements.{ItemTree, item_of, items_of}
use Rattle.session_machine.specs.Inner.Statements.{shows}
use Rattle.session_statements.specs.Inner.Acting.{visit_of}
use Rattle.session_statements.proofs.returning.returned.Goals as goal

pub returns-in-Some-clause-shown : goal.returns-in-Some-clause-shown
returns-in-Some-clause-shown g c after same =
    let w = c.args.work.now in
    let items : Some (map item_of c.deref.result.now) ≡ option_map items_of c.args.items.now =
    ap (λ is. Some (map item_of is)) c.deref.ensures.value ∙ ap (option_map items_of) (sym c.in-Some.is) in
    subst (λ (o : Option (List ItemTree)). IfOk c.show.result (λ v. shows w o after c.args.row.now ≡ visit_of after v)) items (c.show.ensures after same)
