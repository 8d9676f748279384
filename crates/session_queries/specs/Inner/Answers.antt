-- What a query answers at the rows that it takes.
use Rattle.std.specs.Prelude.{ℕ, ◌-◌, ◌==◌, nat_lt, Bool, true, false, List, [], ◌∷◌, ◌++◌, filter_map, length, map, Option, Some, None, Result, Ok, if◌then◌else◌}
use Rattle.sql_trees.specs.Trees.{Tree, AggTree}
use Rattle.sql_trees.specs.Statements.{ColumnTree, ItemTree, SelectTree}
use Rattle.sql_trees.specs.Statements as stmt
use Rattle.sql_values.specs.declared.value.Value.{Value}
use Rattle.sql_values.specs.declared.value.Value.TheVariants.{Null}
use Rattle.sql_values.specs.declared.fault.ValueFault.{ValueFault}
use Rattle.sql_values.specs.Values.{Answer, each, if_ok}
use Rattle.sql_values.specs.Sorting.{key}
use Rattle.sql_values.specs.Expressions.{Cols, value}
use Rattle.sql_values.specs.Aggregates.{aggregate}
use Rattle.query_results.specs.declared.title.Title.{Title}
use Rattle.query_results.specs.Results.{Results}
use Rattle.query_results.specs.Ordering.{rows_at}
use Rattle.query_results.specs.Queries.{aggregate_in, cols_of, results_by, taken}

-- what an item answers at a row
abbrev pub item_row : Cols → List Value → ItemTree → Result (List Value) ValueFault
item_row cols row stmt.All = Ok row
item_row cols row (stmt.Value e alias) = if_ok (value e cols row) (λ v. Ok (v ∷ []))
item_row cols row (stmt.Aggregate a alias) = Ok []

-- the expression that an item has for each row, with the columns
abbrev pub item_bound : Cols → ItemTree → Option (Tree × Cols)
item_bound cols (stmt.Value e alias) = Some (e, cols)
item_bound cols i = None

abbrev pub row_by_items : Cols → List ItemTree → List Value → Result (List Value) ValueFault
row_by_items cols [] row = Ok []
row_by_items cols (i ∷ is) row = if_ok (item_row cols row i) (λ vs. if_ok (row_by_items cols is row) (λ rest. Ok (vs ++ rest)))

-- the value that the result has at the row in its column k, counted from 0; NULL where it has no such column
abbrev pub shown_at : Cols → List ItemTree → List Value → ℕ → Answer
shown_at cols [] row k = Ok Null
shown_at cols (stmt.All ∷ is) row k = if nat_lt k (length row) then Ok (key k row) else shown_at cols is row (k - length row)
shown_at cols (stmt.Value e alias ∷ is) row k = if k == 0 then value e cols row else shown_at cols is row (k - 1)
shown_at cols (stmt.Aggregate a alias ∷ is) row k = shown_at cols is row k

-- the items at each of the rows, under their titles
abbrev pub row_results : List ColumnTree → List ItemTree → List (List Value) → Result Results ValueFault
row_results columns is taken = results_by columns is [] taken

-- the aggregates over all of the rows, one after the other, as one row
abbrev pub agg_results : List ColumnTree → List (AggTree × Title) → List (List Value) → Result Results ValueFault
agg_results columns aggs taken =
    if_ok (each (λ a. aggregate a.0 (cols_of columns) taken) aggs) (λ row. Ok (record { titles = map (λ a. a.1) aggs; rows = row ∷ [] }))

-- the aggregates among the items, each with its title
abbrev pub counted : List ItemTree → List (AggTree × Title)
counted is = filter_map aggregate_in is

-- the items at each of the rows, or the aggregates over all of them, under their titles
abbrev pub items_answered : List ColumnTree → List ItemTree → List (List Value) → Result Results ValueFault
items_answered columns is = results_by columns is (counted is)

-- the same of the rows that pass WHERE, as ORDER BY sorts them
abbrev pub selected : SelectTree → List ColumnTree → List (List Value) → Result Results ValueFault
selected s columns rows = if_ok (taken s columns rows) (λ places. items_answered columns s.items (rows_at rows places))

-- the list is empty
abbrev pub has_none : {A : Type 0} → List A → Bool
has_none [] = true
has_none (x ∷ xs) = false
