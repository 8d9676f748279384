use Rattle.std.proofs.Common.{◌∙◌, refl, ap, sym, List}
use Rattle.std.specs.Prelude.{None}
use Rattle.sql_trees.specs.Statements.{delete_of}
use Rattle.sql_values.specs.declared.value.Value.{Value}
use Rattle.session_machine.specs.Tables.{Database}
use Rattle.session_machine.specs.Rows.{written}
use Rattle.session_machine.specs.Inner.Statements.{shows}
use Rattle.session_statements.specs.Inner.Acting.{visit_of}
use Rattle.session_statements.proofs.settle.delete_with.Goals as goal

pub returns : goal.returns
returns g c =
    let w = c.args.work.now in
    let after = written c.args.db.now w c.args.version.now.row None in
    ap (λ (row : List Value). shows w (delete_of c.args.stmt.now).returning after row) (sym c.row_of.ensures) ∙ c.in_ok-answer.ensures.shown after refl
    ∙ ap (λ (d : Database). visit_of d c.in_ok-answer.answer) (sym c.in_ok-write_row.ensures)
