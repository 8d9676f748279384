-- How a key is named.
use Rattle.std.specs.Prelude.{ℕ, List, [], option_map, unwrap_or, slice_get}
use Rattle.sql_trees.specs.Statements.{ColumnTree}

-- the name of the column at the place
abbrev pub column_name_at : List ColumnTree → ℕ → List ℕ
column_name_at columns place = unwrap_or (option_map (λ (c : ColumnTree). c.name) (slice_get columns place)) []
