use Rattle.std.proofs.Common.{◌≡◌, ◌++◌, drop, map}
use Rattle.sql_trees.specs.Statements.{column_of}
use Rattle.sql_trees.specs.Inner.KeyNames.{underscored}
use Rattle.session_machine.specs.Targets.{names_at}
use Rattle.session_database.proofs.keys.push_columns.Given as goal

abbrev pub invariant-loop-place : goal.invariant-loop-place
invariant-loop-place l =
    l.text.items ++ underscored (names_at (map column_of l.columns) (drop l.place-index l.places))
    ≡ l.fn.text.items ++ underscored (names_at (map column_of l.columns) l.fn.places)
