use Rattle.std.proofs.Common.{◌∙◌, refl, ap, sym}
use Rattle.std.specs.Prelude.{Option, option_map}
use Rattle.session_machine.specs.Tables.{Database}
use Rattle.session_machine.specs.Rows.{inserted}
use Rattle.session_machine.specs.Inner.Statements.{shows}
use Rattle.session_machine.specs.Inner.Pieces.{unless_met}
use Rattle.session_database.specs.declared.stop.Meets.{Meets}
use Rattle.session_database.specs.Stops.{meets_of}
use Rattle.session_statements.specs.Inner.Acting.{putting_of, visit_of}
use Rattle.session_statements.proofs.insert.insert_made.Goals as goal

pub returns-in-Some : goal.returns-in-Some
returns-in-Some g c =
    let db = c.args.db.now in
    let w = c.args.work.now in
    let due = shows w (putting_of c.args.put.now).returning (inserted db w c.args.values) c.args.values in
    c.in_ok-met.ensures due ∙ ap (λ (o : Option Meets). unless_met db due (option_map meets_of o)) c.in-Some.is ∙ c.at_key.ensures db

pub returns : goal.returns
returns g c =
    let db = c.args.db.now in
    let w = c.args.work.now in
    let after = inserted db w c.args.values in
    let due = shows w (putting_of c.args.put.now).returning after c.args.values in
    c.in_ok-met.ensures due ∙ ap (λ (o : Option Meets). unless_met db due (option_map meets_of o)) c.in_default.is
    ∙ c.in_ok-answer.ensures.shown after refl ∙ ap (λ (d : Database). visit_of d c.in_ok-answer.answer) (sym c.in_ok-add_row.ensures)
