use Rattle.std.proofs.Common.{◌∙◌, ap, sym, subst, ℕ, map, length}
use Rattle.std.proofs.lemmas.List.{length-map}
use Rattle.sql_trees.specs.Statements.{column_of}
use Rattle.sql_values.specs.Values.{Answers}
use Rattle.query_results.specs.Queries.{new_values}
use Rattle.sql_trees.specs.Trees.{tree_of}
use Rattle.session_machine.specs.Rows.{columns_in}
use Rattle.session_statements.proofs.Inserting.{new_long}
use Rattle.session_statements.proofs.insert.inserted.Goals as goal

pub returns-clause-even : goal.returns-clause-even
returns-clause-even g c = new_long (length (columns_in c.args.db.now c.args.work.now)) c.args.to.now (map tree_of c.args.row.now) c.new_values.result
    (subst (λ (n : ℕ). Answers c.new_values.result (new_values n c.args.to.now (map tree_of c.args.row.now))) (sym (length-map c.columns_in.result.now column_of) ∙ ap length c.columns_in.ensures) c.new_values.ensures)
