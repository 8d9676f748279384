-- To be believed. What an UPDATE makes of a row (PostgreSQL manual, UPDATE).
use Rattle.std.specs.Prelude.{ℕ, ◌==◌, Bool, true, false, List, ◌++◌, map, filter, zip, slice_get, unwrap_or, Some, option_to_list, Result, Ok, Err}
use Rattle.std.specs.List.{list_all, list_any}
use Rattle.std.specs.Ordering.{is_eq, is_some_and}
use Rattle.sql_trees.specs.Trees.{Tree}
use Rattle.sql_trees.specs.Statements.{ColumnTree, DeleteTree, SetTree, UpdateTree}
use Rattle.sql_values.specs.declared.value.Value.{Value}
use Rattle.sql_values.specs.declared.value.Value.TheVariants.{Null}
use Rattle.sql_values.specs.declared.fault.ValueFault.{ValueFault}
use Rattle.sql_values.specs.Values.{assign, compare, if_ok, each}
use Rattle.sql_values.specs.Expressions.{Cols, value}
use Rattle.query_results.specs.Queries.{AssignedColumn, columns_assigned, filled, returned_exprs}

-- the expressions of an UPDATE, as they are looked at: its new values, then WHERE, then those of RETURNING; what it assigns to is looked at before
abbrev pub update_exprs : UpdateTree → List Tree
update_exprs u = map (λ s. s.value) u.sets ++ option_to_list u.filter ++ returned_exprs u.returning

-- the expressions of a DELETE: WHERE, then those of RETURNING
abbrev pub delete_exprs : DeleteTree → List Tree
delete_exprs d = option_to_list d.filter ++ returned_exprs d.returning

-- the columns that are assigned to, or the first name that is none
abbrev pub columns_set : List ColumnTree → List SetTree → Result (List AssignedColumn) (List ℕ)
columns_set columns sets = columns_assigned columns (Some (map (λ s. s.column) sets))

-- the row as an UPDATE leaves it: all new values are evaluated on the old row, from the left, then all are taken as their columns do
abbrev pub updated : Cols → List AssignedColumn → List SetTree → List Value → Result (List Value) ValueFault
updated cols to sets row = if_ok (each (λ s. value s.value cols row) sets) (λ values. filled to values row)

-- a column that has the one value still has it with the other: they are equal as `=` has it, or both NULL
abbrev pub stays : Value → Value → Bool
stays Null Null = true
stays old new = is_some_and is_eq (compare old new)

-- an assignment leaves its column as it is: it has a value on the row, which the column takes, and which is the row's own
abbrev pub leaves : Cols → List Value → AssignedColumn × SetTree → Bool
leaves cols row s = elim (if_ok (value s.1.value cols row) (λ v. assign v s.0.kind)) [ Ok new ↦ stays (unwrap_or (slice_get row s.0.place) Null) new | Err fault ↦ false ]

-- an UPDATE leaves these columns of a row as they are, by what it assigns to them
abbrev pub leaves_all : Cols → List AssignedColumn → List SetTree → List ℕ → List Value → Bool
leaves_all cols to sets places row = list_all (leaves cols row) (filter (λ s. list_any (λ place. place == s.0.place) places) (zip to sets))
