use Rattle.std.proofs.Common.{◌≡◌, drop, map}
use Rattle.sql_trees.specs.Statements.{SetTree, set_of}
use Rattle.sql_values.specs.Expressions.{value}
use Rattle.session_queries.specs.Inner.Fronts.{in_front}
use Rattle.sql_values.specs.Values.{each}
use Rattle.session_queries.proofs.update.set_values.Given as goal

abbrev pub invariant-loop-expr : goal.invariant-loop-expr
invariant-loop-expr l =
    let one = λ (s : SetTree). value s.value l.columns l.row in
    each one (map set_of l.sets) ≡ in_front l.values.items (each one (map set_of (drop l.expr-index l.sets)))
