use Rattle.std.proofs.Common.{◌≡◌, map, take}
use Rattle.sql_trees.specs.Statements.{SetTree, name_of, set_of}
use Rattle.session_queries.proofs.assigned.assigned_names.Given as goal

abbrev pub invariant-loop-name : goal.invariant-loop-name
invariant-loop-name l = map name_of l.names.items ≡ map (λ (s : SetTree). s.column) (map set_of (take l.name-index l.sets))
