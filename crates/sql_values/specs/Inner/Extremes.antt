-- The least or the greatest of values, value by value.
use Rattle.std.specs.Prelude.{Bool, true, false, ◌||◌, not, List, Option, find, is_some, unwrap_or, Result, Ok, Err, filter, if◌then◌else◌}
use Rattle.std.specs.List.{list_all, list_any}
use Rattle.std.specs.Ordering.{is_lt}
use Rattle.sql_trees.specs.Trees.{Tree}
use Rattle.sql_values.specs.declared.value.Value.{Value}
use Rattle.sql_values.specs.declared.value.Value.TheVariants.{Null, Text}
use Rattle.sql_values.specs.declared.fault.ValueFault.{ValueFault}
use Rattle.sql_values.specs.declared.fault.ValueFault.TheVariants.{TypeMismatch}
use Rattle.sql_values.specs.Values.{Answer, if_ok, each, is_null, number_of}
use Rattle.sql_values.specs.Expressions.{Cols, value}
use Rattle.sql_values.specs.Sorting.{full_order}

abbrev pub without_nulls : List Value → List Value
without_nulls vs = filter (λ v. not (is_null v)) vs

-- the values of the expression on the rows, in order, without NULLs
abbrev pub values : Tree → Cols → List (List Value) → Result (List Value) ValueFault
values e cols rows = if_ok (each (value e cols) rows) (λ vs. Ok (without_nulls vs))

abbrev pub is_number : Value → Bool
is_number v = is_some (number_of v)

abbrev pub is_text : Value → Bool
is_text (Text s) = true
is_text v = false

-- w is a better answer than v: less, or greater where the greatest is asked for
abbrev pub beats : Bool → Value → Value → Bool
beats greatest w v = is_lt (if greatest then full_order v w else full_order w v)

-- the first of the values that none of them beats
abbrev pub best : Bool → List Value → Option Value
best greatest vs = find (λ v. not (list_any (λ w. beats greatest w v) vs)) vs

-- that value, or NULL where there is none
abbrev pub extreme : Bool → List Value → Answer
extreme greatest vs = if list_all is_number vs || list_all is_text vs then Ok (unwrap_or (best greatest vs) Null) else Err TypeMismatch
