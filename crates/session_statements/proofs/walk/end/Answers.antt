use Rattle.std.specs.Prelude.{option_map}
use Rattle.sql_trees.specs.Statements.{items_of}
use Rattle.session_machine.specs.Rows.{columns_in}
use Rattle.session_machine.specs.Inner.Statements.{answer}
use Rattle.session_statements.proofs.walk.end.Goals as goal

pub returns-in-Some-clause-did : goal.returns-in-Some-clause-did
returns-in-Some-clause-did g c before same =
    rw c.in-Some.is (c.halt.ensures.did before (answer (columns_in c.args.db.now c.args.work.now) (option_map (λ is. items_of is.now) c.args.items)) same)
