use Rattle.sql_expressions.proofs.Views.{in_tree}
use Rattle.sql_expressions.proofs.cursor.Parser.contains.Goals as goal

pub returns : goal.returns
returns c = rw (c.in_ok-depth.ensures, c.in_ok-rest.ensures, ← in_tree) c.made.ensures
