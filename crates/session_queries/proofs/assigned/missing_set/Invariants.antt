use Rattle.std.proofs.Common.{◌≡◌, drop, map}
use Rattle.sql_trees.specs.Statements.{SetTree, column_of, set_of}
use Rattle.session_queries.specs.Inner.Assigned.{missing_name}
use Rattle.session_queries.proofs.assigned.missing_set.Given as goal

abbrev pub invariant-loop-name : goal.invariant-loop-name
invariant-loop-name l =
    let columns = map column_of l.columns in
    missing_name columns (map (λ (s : SetTree). s.column) (map set_of l.sets)) ≡ missing_name columns (map (λ (s : SetTree). s.column) (map set_of (drop l.name-index l.sets)))
