use Rattle.std.proofs.Common.{◌≡◌, [], drop, map}
use Rattle.sql_trees.specs.Trees.{tree_of}
use Rattle.session_queries.specs.Inner.Undefined.{first_of, undefined_column}
use Rattle.session_queries.proofs.undefined.undefined_in_values.Given as goal

abbrev pub invariant-loop-expr : goal.invariant-loop-expr
invariant-loop-expr l = first_of (undefined_column []) (map tree_of l.row) ≡ first_of (undefined_column []) (map tree_of (drop l.expr-index l.row))
