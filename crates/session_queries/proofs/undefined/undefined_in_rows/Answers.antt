use Rattle.std.proofs.Common.{map, arith}
use Rattle.std.proofs.lemmas.Grind.{common_steps}
use Rattle.sql_trees.specs.Statements.{exprs_of}
use Rattle.session_queries.proofs.ColumnsNamed.{rows_answer}
use Rattle.session_queries.proofs.undefined.undefined_in_rows.Goals as goal

pub returns-in-Some : goal.returns-in-Some
returns-in-Some c = rows_answer (map exprs_of c.args.rows.now) _ (grind (arith, common_steps))

pub returns : goal.returns
returns c = rows_answer (map exprs_of c.args.rows.now) _ (grind (arith, common_steps))
