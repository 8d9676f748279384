use Rattle.std.proofs.Common.{◌≡◌, drop, map}
use Rattle.sql_trees.specs.Statements.{column_of, name_of}
use Rattle.session_queries.specs.Inner.Assigned.{assigned_each}
use Rattle.session_queries.specs.Inner.Fronts.{in_front}
use Rattle.session_queries.proofs.assigned.assigned_by_name.Given as goal

abbrev pub invariant-loop-name : goal.invariant-loop-name
invariant-loop-name l =
    let columns = map column_of l.columns in
    assigned_each columns (map name_of l.names) ≡ in_front l.to.items (assigned_each columns (map name_of (drop l.name-index l.names)))
