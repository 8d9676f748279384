-- Columns that values are assigned to, as they are found one after the other.
use Rattle.std.specs.Prelude.{ℕ, ◌+◌, List, [], ◌∷◌, Option, Some, None, bytes_eq, Result, Ok, Err, if◌then◌else◌}
use Rattle.sql_trees.specs.Statements.{ColumnTree}
use Rattle.query_results.specs.Queries.{AssignedColumn}

-- all columns, from the place on
abbrev pub assigned_in_order : ℕ → List ColumnTree → List AssignedColumn
assigned_in_order k [] = []
assigned_in_order k (c ∷ cs) = record { place = k; kind = c.kind } ∷ assigned_in_order (k + 1) cs

-- the column of that name, from the place on
abbrev pub assigned_from : ℕ → List ColumnTree → List ℕ → Option AssignedColumn
assigned_from k [] name = None
assigned_from k (c ∷ cs) name = if bytes_eq c.name name then Some (record { place = k; kind = c.kind }) else assigned_from (k + 1) cs name

abbrev pub assigned_or : List ℕ → Option AssignedColumn → Result (List AssignedColumn) (List ℕ) → Result (List AssignedColumn) (List ℕ)
assigned_or name None rest = Err name
assigned_or name (Some t) (Err lacks) = Err lacks
assigned_or name (Some t) (Ok ts) = Ok (t ∷ ts)

-- the columns of these names, or the first name that is none
abbrev pub assigned_each : List ColumnTree → List (List ℕ) → Result (List AssignedColumn) (List ℕ)
assigned_each columns [] = Ok []
assigned_each columns (name ∷ names) = assigned_or name (assigned_from 0 columns name) (assigned_each columns names)

abbrev pub missing_or : List ℕ → Option AssignedColumn → Option (List ℕ) → Option (List ℕ)
missing_or name None rest = Some name
missing_or name (Some t) rest = rest

-- the first of these names that is none
abbrev pub missing_name : List ColumnTree → List (List ℕ) → Option (List ℕ)
missing_name columns [] = None
missing_name columns (name ∷ names) = missing_or name (assigned_from 0 columns name) (missing_name columns names)
