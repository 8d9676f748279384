-- To be believed. Keys of rows: PostgreSQL's manual, 5.5.3, "Unique Constraints".
use Rattle.std.specs.Prelude.{ℕ, Bool, false, List, [], Option}
use Rattle.std.specs.Option.{option_map_or}
use Rattle.std.specs.Ordering.{is_eq, is_some_and}
use Rattle.std.specs.List.{list_all, slice_index_or}
use Rattle.sql_values.specs.declared.value.Value.{Value}
use Rattle.sql_values.specs.Values.{compare}
use Rattle.sql_values.specs.Sorting.{key as value_at}
use Rattle.row_versions.specs.declared.names.TableId.{TableId}

-- a table's keys in declared order, each by the places of its columns
pub record Keys : Type 0 where
  pub table : TableId
  pub keys : List (List ℕ)

-- the columns of the key of that number
abbrev pub columns_of_key : Keys → ℕ → List ℕ
columns_of_key t key = slice_index_or t.keys key []

-- a version has the asked row's key: it is not gone, and equal in all columns of the key, as `=` has it: NULL is equal to nothing, also not to NULL
abbrev pub has_key : List ℕ → List Value → Option (List Value) → Bool
has_key columns asked values =
    option_map_or (λ row. list_all (λ column. is_some_and is_eq (compare (value_at column asked) (value_at column row))) columns) values false
