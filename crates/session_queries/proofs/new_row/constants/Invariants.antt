use Rattle.std.proofs.Common.{◌≡◌, [], drop, map}
use Rattle.sql_trees.specs.Trees.{tree_of}
use Rattle.sql_values.specs.Expressions.{value}
use Rattle.sql_values.specs.Values.{each}
use Rattle.session_queries.specs.Inner.Fronts.{in_front}
use Rattle.session_queries.proofs.new_row.constants.Given as goal

abbrev pub invariant-loop-expr : goal.invariant-loop-expr
invariant-loop-expr l =
    each (λ e. value e [] []) (map tree_of l.exprs) ≡ in_front l.values.items (each (λ e. value e [] []) (map tree_of (drop l.expr-index l.exprs)))
