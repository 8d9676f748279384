use Rattle.std.proofs.Common.{map, arith}
use Rattle.std.proofs.lemmas.Grind.{common_steps}
use Rattle.sql_trees.specs.Statements.{column_of, select_of}
use Rattle.session_queries.proofs.ColumnsNamed.{position_answer}
use Rattle.session_queries.proofs.positions.wrong_position.Goals as goal

pub returns-in-Some : goal.returns-in-Some
returns-in-Some c = position_answer (map column_of c.args.columns.now) (select_of c.args.select.now) _ (grind (arith, common_steps))

pub returns : goal.returns
returns c = position_answer (map column_of c.args.columns.now) (select_of c.args.select.now) _ (grind (arith, common_steps))
