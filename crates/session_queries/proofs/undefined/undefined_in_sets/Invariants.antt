use Rattle.std.proofs.Common.{◌≡◌, drop, map}
use Rattle.sql_trees.specs.Statements.{SetTree, set_of}
use Rattle.session_queries.specs.Inner.Undefined.{first_of, undefined_column}
use Rattle.session_queries.proofs.undefined.undefined_in_sets.Given as goal

abbrev pub invariant-loop-expr : goal.invariant-loop-expr
invariant-loop-expr l =
    let lacks = λ (s : SetTree). undefined_column l.columns s.value in
    first_of lacks (map set_of l.sets) ≡ first_of lacks (map set_of (drop l.expr-index l.sets))
