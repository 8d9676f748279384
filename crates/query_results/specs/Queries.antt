-- To be believed. What a query answers at the rows of its table, and what an INSERT makes of its values (PostgreSQL manual, SELECT and INSERT).
use Rattle.std.specs.Prelude.{ℕ, ◌-◌, ◌==◌, ℤ, pos, int_le, int_lt, not, ◌&&◌, ◌||◌, List, [], ◌∷◌, ◌++◌, length, map, flat_map, replicate}
use Rattle.std.specs.Prelude.{Option, Some, None, is_none, option_map, option_to_list, find, filter, filter_map, position, zip}
use Rattle.std.specs.Prelude.{bytes_eq, slice_set, slice_index_or, ok_or, Result, Ok, Err, if◌then◌else◌}
use Rattle.std.specs.List.{enumerate_from}
use Rattle.std.specs.Option.{option_map_or}
use Rattle.sql_trees.specs.declared.kind.Kind.{Kind}
use Rattle.sql_trees.specs.declared.expr.AggKind.TheVariants as agg_kind
use Rattle.sql_trees.specs.Trees.{Tree, Trees, AggTree}
use Rattle.sql_trees.specs.Trees as tree
use Rattle.sql_trees.specs.declared.kind.Dir.{Dir}
use Rattle.sql_trees.specs.Statements.{ColumnTree, ItemTree, SelectTree}
use Rattle.sql_trees.specs.Statements as stmt
use Rattle.sql_values.specs.declared.value.Value.{Value}
use Rattle.sql_values.specs.declared.value.Value.TheVariants.{Null}
use Rattle.sql_values.specs.declared.fault.ValueFault.{ValueFault}
use Rattle.sql_values.specs.declared.fault.ValueFault.TheVariants.{NoColumn, TypeMismatch}
use Rattle.sql_values.specs.Values.{Answer, is_null, if_ok, each, assign}
use Rattle.sql_values.specs.Arithmetic.{signed}
use Rattle.sql_values.specs.Sorting.{can_sort}
use Rattle.sql_values.specs.Expressions.{Cols, value, passes}
use Rattle.sql_values.specs.Aggregates.{aggregate}
use Rattle.query_results.specs.declared.title.Title.{Title}
use Rattle.query_results.specs.declared.title.Title.TheVariants.{Column as Named, Unnamed, Count, Sum, Min, Max}
use Rattle.query_results.specs.Results.{Results}
use Rattle.query_results.specs.Ordering.{rows_at, sorted_places}

-- columns as expressions know them
abbrev pub cols_of : List ColumnTree → Cols
cols_of columns = map (λ c. (c.name, c.kind)) columns

abbrev mutual
  -- the columns that an expression names, in the order of the text; a literal names none
  pub columns_named : Tree → List (List ℕ)
  columns_named (tree.Column name) = name ∷ []
  columns_named (tree.Plus a) = columns_named a
  columns_named (tree.Minus a) = columns_named a
  columns_named (tree.Not a) = columns_named a
  columns_named (tree.Binary op a b) = columns_named a ++ columns_named b
  columns_named (tree.Is a negated truth) = columns_named a
  columns_named (tree.In a negated items) = columns_named a ++ columns_named_in items
  columns_named (tree.Between a negated low high) = columns_named a ++ columns_named low ++ columns_named high
  columns_named literal = []

  pub columns_named_in : Trees → List (List ℕ)
  columns_named_in tree.none = []
  columns_named_in (tree.more e rest) = columns_named e ++ columns_named_in rest

-- the first column that one of the expressions names and that isn't there
abbrev pub undefined_among : Cols → List Tree → Option (List ℕ)
undefined_among cols es = find (λ name. is_none (position (λ c. bytes_eq name c.0) cols)) (flat_map columns_named es)

-- a key of ORDER BY that is a bare name means the first item with that alias, if there is one
abbrev pub meant : List ItemTree → Tree → Tree
meant (stmt.Value e (Some alias) ∷ is) (tree.Column name) = if bytes_eq name alias then e else meant is (tree.Column name)
meant (i ∷ is) key = meant is key
meant [] key = key

-- the expressions of items; `*` and count(*) have none
abbrev pub items_exprs : List ItemTree → List Tree
items_exprs items = flat_map (λ i. elim i [ stmt.Value e alias ↦ e ∷ [] | stmt.Aggregate (tree.Of k e) alias ↦ e ∷ [] | other ↦ [] ]) items

-- the expressions of RETURNING, if there is one
abbrev pub returned_exprs : Option (List ItemTree) → List Tree
returned_exprs items = option_map_or items_exprs items []

-- the expressions of a SELECT, as they are looked at: of its items, then WHERE, then what its keys mean
abbrev pub select_exprs : SelectTree → List Tree
select_exprs s = items_exprs s.items ++ option_to_list s.filter ++ map (λ k. meant s.items k.expr) s.order

-- the places of the rows that pass WHERE, once it is tested at all of them
abbrev pub passing : Cols → Option Tree → List (List Value) → Result (List ℕ) ValueFault
passing cols condition rows = if_ok (each (passes condition cols) rows) (λ ps. Ok (map (λ p. p.0) (filter (λ p. p.1) (enumerate_from 0 ps))))

-- what an item answers at a row, in each of its columns; an aggregate has none
abbrev pub item_values : Cols → List Value → ItemTree → List Answer
item_values cols row stmt.All = map (λ v. Ok v) row
item_values cols row (stmt.Value e alias) = value e cols row ∷ []
item_values cols row (stmt.Aggregate a alias) = []

-- the values of the result's columns at a row
abbrev pub row_values : Cols → List ItemTree → List Value → Result (List Value) ValueFault
row_values cols is row = each (λ answer. answer) (flat_map (item_values cols row) is)

-- the titles of what an item shows: of an expression its alias, or the name of the column that it is, or none
abbrev pub item_titles : List ColumnTree → ItemTree → List Title
item_titles columns stmt.All = map (λ c. Named c.name) columns
item_titles columns (stmt.Value e alias) = option_map_or Named alias (elim e [ tree.Column name ↦ Named name | other ↦ Unnamed ]) ∷ []
item_titles columns (stmt.Aggregate a alias) = []

abbrev pub titles_of : List ColumnTree → List ItemTree → List Title
titles_of columns is = flat_map (item_titles columns) is

-- the first of the numbers in ORDER BY that is none of the result's columns, which are counted from 1
abbrev pub wrong_position : List ColumnTree → SelectTree → Option ℤ
wrong_position columns s = find (λ n. not (int_lt (pos 0) n && int_le n (pos (length (titles_of columns s.items)))))
    (filter_map (λ k. elim k.expr [ tree.Number negative n ↦ Some (signed negative n) | other ↦ None ]) s.order)

-- the value of a key of ORDER BY at a row: a number literal means that column of the result, counted from 1, or NULL where there is none
abbrev pub key_value : Cols → List ItemTree → List Value → Tree → Answer
key_value cols is row (tree.Number negative n) = if negative || n == 0 then Ok Null else slice_index_or (flat_map (item_values cols row) is) (n - 1) (Ok Null)
key_value cols is row e = value (meant is e) cols row

-- the places in the order of their rows' keys, if the keys can be sorted
abbrev pub by_keys : List Dir → List ℕ → List (List Value) → Result (List ℕ) ValueFault
by_keys by places keys = if can_sort by keys then Ok (map (λ i. slice_index_or places i 0) (sorted_places by keys)) else Err TypeMismatch

-- the places of the rows that pass WHERE, as ORDER BY sorts them: the keys of all these rows are evaluated, row by row, before any are compared
abbrev pub taken : SelectTree → List ColumnTree → List (List Value) → Result (List ℕ) ValueFault
taken s columns rows = if_ok (passing (cols_of columns) s.filter rows) (λ places.
    if_ok (each (λ row. each (λ k. key_value (cols_of columns) s.items row k.expr) s.order) (rows_at rows places)) (by_keys (map (λ k. k.dir) s.order) places))

-- the aggregate that an item is, titled by its alias, or by what it counts, sums or compares (9.21): a SELECT that has any has nothing else
abbrev pub aggregate_in : ItemTree → Option (AggTree × Title)
aggregate_in (stmt.Aggregate a alias) =
    let own : Title = elim a [ tree.Of agg_kind.Sum e ↦ Sum | tree.Of agg_kind.Min e ↦ Min | tree.Of agg_kind.Max e ↦ Max | other ↦ Count ] in
    Some (a, option_map_or Named alias own)
aggregate_in i = None

-- what is answered from the rows that are taken: without aggregates the items at each of them, else one row, of the aggregates over all of them
abbrev pub results_by : List ColumnTree → List ItemTree → List (AggTree × Title) → List (List Value) → Result Results ValueFault
results_by columns is [] taken = if_ok (each (row_values (cols_of columns) is) taken) (λ shown. Ok (record { titles = titles_of columns is; rows = shown }))
results_by columns is aggs taken = if_ok (each (λ a. aggregate a.0 (cols_of columns) taken) aggs) (λ row. Ok (record { titles = map (λ a. a.1) aggs; rows = row ∷ [] }))

-- the result of a SELECT whose table has these columns and shows these rows: a column that isn't there is a fault before any row is
-- looked at; WHERE is tested at all rows, then they are sorted, and then the items are evaluated
abbrev pub result_of : SelectTree → List ColumnTree → List (List Value) → Result Results ValueFault
result_of s columns rows = option_map_or (λ name. Err (NoColumn name)) (undefined_among (cols_of columns) (select_exprs s))
    (if_ok (taken s columns rows) (λ places. results_by columns s.items (filter_map aggregate_in s.items) (rows_at rows places)))

-- where a value of an INSERT or UPDATE goes: a column's place, and its kind
pub record AssignedColumn : Type 0 where
  pub place : ℕ
  pub kind : Kind

-- a column with its place, as a value is assigned to it
abbrev pub at_place : ℕ × ColumnTree → AssignedColumn
at_place c = record { place = c.0; kind = c.1.kind }

-- the columns of a list of names, of each the first, or the first name that no column has; without a list the values go to the first columns
abbrev pub columns_assigned : List ColumnTree → Option (List (List ℕ)) → Result (List AssignedColumn) (List ℕ)
columns_assigned columns None = Ok (map at_place (enumerate_from 0 columns))
columns_assigned columns (Some names) = each (λ name. ok_or (option_map at_place (find (λ c. bytes_eq c.1.name name) (enumerate_from 0 columns))) name) names

-- the row with each value at its column's place, as the column takes it
abbrev pub filled : List AssignedColumn → List Value → List Value → Result (List Value) ValueFault
filled (t ∷ ts) (v ∷ vs) row = if_ok (assign v t.kind) (λ taken. filled ts vs (slice_set row t.place taken))
filled ts vs row = Ok row

-- a new row: NULL where it has no value
abbrev pub new_values : ℕ → List AssignedColumn → List Tree → Result (List Value) ValueFault
new_values width to row = if_ok (each (λ e. value e [] []) row) (λ values. filled to values (replicate width Null))

-- the first column that is NULL and must not be
abbrev pub null_in : List ColumnTree → List Value → Option (List ℕ)
null_in columns values = option_map (λ c. c.0.name) (find (λ c. c.0.not_null && is_null c.1) (zip columns values))
