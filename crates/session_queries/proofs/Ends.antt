-- Where there are no more values.
use Rattle.std.proofs.Common.{◌≡◌, ◌<◌, List, [], ◌∷◌, length, None, refl, arith}
use Rattle.sql_trees.specs.Statements.{ColumnTree}
use Rattle.sql_values.specs.declared.value.Value.{Value}
use Rattle.query_results.specs.Queries.{null_in}

pub null_in_none : (cs : List ColumnTree) (vs : List Value) → length vs < 1 → null_in cs vs ≡ None
null_in_none [] vs h = refl
null_in_none (c ∷ cs) [] h = refl
null_in_none (c ∷ cs) (v ∷ vs) h = absurd (omega arith)
