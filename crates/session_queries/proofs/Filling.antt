-- A row that takes one value after the other.
use Rattle.std.proofs.Common.{◌≡◌, ◌<◌, List, [], ◌∷◌, length, Ok, refl, arith}
use Rattle.std.specs.Prelude.{slice_set}
use Rattle.sql_values.specs.declared.value.Value.{Value}
use Rattle.sql_values.specs.Values.{if_ok, assign}
use Rattle.query_results.specs.Queries.{AssignedColumn, filled}

pub filled_step : (t : AssignedColumn) (ts : List AssignedColumn) (v : Value) (vs row : List Value) → filled (t ∷ ts) (v ∷ vs) row ≡ if_ok (assign v t.kind) (λ x. filled ts vs (slice_set row t.place x))
filled_step t ts v vs row = refl

pub filled_short : (ts : List AssignedColumn) (vs row : List Value) → length vs < 1 → filled ts vs row ≡ Ok row
filled_short [] vs row h = refl
filled_short (t ∷ ts) [] row h = refl
filled_short (t ∷ ts) (v ∷ vs) row h = absurd (omega arith)
