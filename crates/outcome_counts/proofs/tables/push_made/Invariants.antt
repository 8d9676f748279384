use Rattle.std.proofs.Common.{◌≡◌, ◌++◌, map, drop, string_bytes}
use Rattle.std.specs.Prelude.{flat_map}
use Rattle.sql_trees.specs.Statements.{stmt_of}
use Rattle.outcome_counts.specs.Tables.{made_by}
use Rattle.outcome_counts.proofs.tables.push_made.Given as goal

abbrev pub invariant-loop-stmt : goal.invariant-loop-stmt
invariant-loop-stmt l =
    map string_bytes l.names.items ++ flat_map made_by (map stmt_of (drop l.stmt-index l.stmts))
    ≡ map string_bytes l.fn.names.items ++ flat_map made_by (map stmt_of l.stmts)
