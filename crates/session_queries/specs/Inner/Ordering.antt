-- The rows that a SELECT takes, as they are found one after the other.
use Rattle.std.specs.Prelude.{ℕ, ◌+◌, List, [], ◌∷◌, map, Option, Some, None, Result, Ok, unwrap_or, if◌then◌else◌, ◌-◌, ◌==◌, ◌||◌, slice_index_or}
use Rattle.sql_trees.specs.Trees.{Tree}
use Rattle.sql_trees.specs.Trees as tree
use Rattle.sql_trees.specs.Statements.{ItemTree, OrderTree}
use Rattle.sql_values.specs.declared.value.Value.{Value}
use Rattle.sql_values.specs.declared.value.Value.TheVariants.{Null}
use Rattle.sql_values.specs.declared.fault.ValueFault.{ValueFault}
use Rattle.sql_values.specs.Values.{Answer, each, if_ok}
use Rattle.sql_values.specs.Expressions.{Cols, passes, value}
use Rattle.query_results.specs.Ordering.{rows_at}
use Rattle.query_results.specs.Queries.{by_keys}
use Rattle.query_results.specs.Inner.Pieces.{keys_of, shown}
use Rattle.session_queries.specs.Inner.Undefined.{aliased}

-- the places, counted from k, of the rows that pass WHERE
abbrev pub passing_from : Cols → Option Tree → ℕ → List (List Value) → Result (List ℕ) ValueFault
passing_from cols filter k [] = Ok []
passing_from cols filter k (row ∷ rows) = if_ok (passes filter cols row) (λ p. if_ok (passing_from cols filter (k + 1) rows) (λ rest. Ok (if p then k ∷ rest else rest)))

-- the value of a key at a row, where a bare name is looked for among the aliases
abbrev pub key_answer : Cols → List ItemTree → List Value → Tree → Answer
key_answer cols is row (tree.Number negative n) = if negative || n == 0 then Ok Null else slice_index_or (shown cols is row) (n - 1) (Ok Null)
key_answer cols is row (tree.Column name) = value (unwrap_or (aliased is name) (tree.Column name)) cols row
key_answer cols is row e = value e cols row

-- the expression that a key means, with the columns; a number means none
abbrev pub key_bound : Cols → List ItemTree → Tree → Option (Tree × Cols)
key_bound cols is (tree.Number negative n) = None
key_bound cols is (tree.Column name) = Some (unwrap_or (aliased is name) (tree.Column name), cols)
key_bound cols is e = Some (e, cols)

-- the values of the keys, from the left
abbrev pub key_answers : Cols → List ItemTree → List OrderTree → List Value → Result (List Value) ValueFault
key_answers cols is order row = each (λ (k : OrderTree). key_answer cols is row k.expr) order

-- the places as ORDER BY sorts them, where there is one
abbrev pub ordered : Cols → List ItemTree → List OrderTree → List (List Value) → List ℕ → Result (List ℕ) ValueFault
ordered cols is [] rows places = Ok places
ordered cols is order rows places = if_ok (each (keys_of cols is order) (rows_at rows places)) (by_keys (map (λ (k : OrderTree). k.dir) order) places)
