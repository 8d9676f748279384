-- To be believed. Aggregates over the rows of a table (PostgreSQL manual, 9.21).
use Rattle.std.specs.Prelude.{ℤ, pos, ◌+ℤ◌, Bool, ◌||◌, not, List, [], ◌∷◌, length, filter, find, is_some, unwrap_or, Result, Ok, Err, if◌then◌else◌}
use Rattle.std.specs.List.{list_all, list_any}
use Rattle.std.specs.Ordering.{is_lt, is_gt}
use Rattle.std.specs.declared.cmp.Ordering.{Ordering}
use Rattle.sql_trees.specs.declared.expr.AggKind.{AggKind}
use Rattle.sql_trees.specs.declared.expr.AggKind.TheVariants.{Count, Sum, Min, Max}
use Rattle.sql_trees.specs.Trees.{AggTree}
use Rattle.sql_trees.specs.Trees as tree
use Rattle.sql_values.specs.declared.value.Value.{Value}
use Rattle.sql_values.specs.declared.value.Value.TheVariants.{Null, Int, Text}
use Rattle.sql_values.specs.declared.fault.ValueFault.{ValueFault}
use Rattle.sql_values.specs.declared.fault.ValueFault.TheVariants.{TypeMismatch}
use Rattle.sql_values.specs.Values.{Answer, if_ok, each, bigint, is_null, number_of, compare}
use Rattle.sql_values.specs.Expressions.{Cols, value}
use Rattle.sql_values.specs.Sorting.{full_order}

-- the sum of integers; other values have none
abbrev pub total : List Value → Result ℤ ValueFault
total [] = Ok (pos 0)
total (Int z ∷ vs) = if_ok (total vs) (λ t. Ok (z +ℤ t))
total (v ∷ vs) = Err TypeMismatch

-- the first of the values that none of them is better than, or NULL where there is none; they are numbers alone, or all compare with a text
abbrev pub extreme : (Ordering → Bool) → List Value → Answer
extreme is_better vs =
    let best = find (λ v. not (list_any (λ w. is_better (full_order w v)) vs)) vs in
    if list_all (λ v. is_some (number_of v)) vs || list_all (λ v. is_some (compare v (Text []))) vs then Ok (unwrap_or best Null) else Err TypeMismatch

-- an aggregate of values, none of them NULL; the sum of none is NULL
abbrev pub summary : AggKind → List Value → Answer
summary Count vs = bigint (pos (length vs))
summary Sum [] = Ok Null
summary Sum vs = if_ok (total vs) bigint
summary Min vs = extreme is_lt vs
summary Max vs = extreme is_gt vs

-- all rows are evaluated, and NULLs left out, before the values are tested
abbrev pub aggregate : AggTree → Cols → List (List Value) → Answer
aggregate tree.CountRows cols rows = bigint (pos (length rows))
aggregate (tree.Of kind e) cols rows = if_ok (each (value e cols) rows) (λ vs. summary kind (filter (λ v. not (is_null v)) vs))
