-- Whether columns are left as they are, one after the other.
use Rattle.std.specs.Prelude.{ℕ, ◌==◌, Bool, true, false, not, ◌&&◌, ◌||◌, List, ◌∷◌, slice_get, unwrap_or, Ok, Err}
use Rattle.std.specs.List.{list_any}
use Rattle.sql_trees.specs.Statements.{SetTree}
use Rattle.sql_trees.specs.Trees.{Tree}
use Rattle.sql_values.specs.declared.value.Value.{Value}
use Rattle.sql_values.specs.declared.value.Value.TheVariants.{Null}
use Rattle.sql_values.specs.Growing.{may_grow}
use Rattle.sql_values.specs.Values.{assign}
use Rattle.sql_values.specs.Expressions.{Cols, value}
use Rattle.query_results.specs.Queries.{AssignedColumn}
use Rattle.query_results.specs.Updates.{stays}

-- the column of this place is among these
abbrev pub is_key_column : List ℕ → ℕ → Bool
is_key_column places at = list_any (λ place. place == at) places

-- the column takes the value, as the one that the row has
abbrev pub leaves_as : List Value → AssignedColumn → Value → Bool
leaves_as row to v = elim (assign v to.kind) [ Ok new ↦ stays (unwrap_or (slice_get row to.place) Null) new | Err fault ↦ false ]

-- the expression has a value on the row, and the column takes it so
abbrev pub leaves_with : Cols → List Value → AssignedColumn → Tree → Bool
leaves_with cols row to e = elim (value e cols row) [ Ok v ↦ leaves_as row to v | Err fault ↦ false ]

-- each of these columns that is assigned to is left so
abbrev pub leaves_each : Cols → List AssignedColumn → List SetTree → List ℕ → List Value → Bool
leaves_each cols (t ∷ ts) (s ∷ ss) places row = (not (is_key_column places t.place) || leaves_with cols row t s.value) && leaves_each cols ts ss places row
leaves_each cols ts ss places row = true

-- some expression that is assigned to one of them may ask for memory
abbrev pub one_may_grow : List AssignedColumn → List SetTree → List ℕ → Bool
one_may_grow (t ∷ ts) (s ∷ ss) places = (is_key_column places t.place && may_grow s.value) || one_may_grow ts ss places
one_may_grow ts ss places = false
