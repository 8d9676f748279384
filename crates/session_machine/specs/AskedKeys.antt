-- To be believed. Keys that statements ask for.
use Rattle.std.specs.Prelude.{ℕ, List}
use Rattle.sql_values.specs.declared.value.Value.{Value}
use Rattle.row_versions.specs.declared.names.TableId.{TableId}

-- a key of a table, by the places of its columns, and the values of the row that is to have it
pub record AskedKey : Type 0 where
  pub table : TableId
  pub columns : List ℕ
  pub values : List Value
