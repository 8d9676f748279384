-- The operators in groups: comparisons, and arithmetic.
use Rattle.std.specs.Prelude.{◌^◌, ℤ, pos, ◌+ℤ◌, ◌-ℤ◌, ◌*ℤ◌, int_div, int_rem, Bool, false, ◌++◌, Option, Some, None, option_map, ok_or, Result, Ok, Err, if◌then◌else◌}
use Rattle.std.specs.Option.{option_map_or, option_zip}
use Rattle.std.specs.Ordering.{int_eq, is_eq, is_ne, is_lt, is_le, is_gt, is_ge}
use Rattle.std.specs.declared.cmp.Ordering.{Ordering}
use Rattle.sql_trees.specs.declared.expr.Operator.{Operator}
use Rattle.sql_trees.specs.declared.expr.Operator.TheVariants.{Equal, NotEqual, Less, AtMost, Greater, AtLeast, Concat, Add, Subtract, Multiply, Divide, Remainder}
use Rattle.sql_values.specs.declared.value.Value.{Value}
use Rattle.sql_values.specs.declared.value.Value.TheVariants.{Int, Text, Bool as Boolean}
use Rattle.sql_values.specs.declared.fault.ValueFault.{ValueFault}
use Rattle.sql_values.specs.declared.fault.ValueFault.TheVariants.{DivisionByZero, TypeMismatch}
use Rattle.sql_values.specs.Values.{Answer, if_ok, is_within, integer, bigint, number_of, compare}

-- what a comparison asks of the order of two values; no other operator is one
abbrev pub order_test : Operator → Option (Ordering → Bool)
order_test Equal = Some is_eq
order_test NotEqual = Some is_ne
order_test Less = Some is_lt
order_test AtMost = Some is_le
order_test Greater = Some is_gt
order_test AtLeast = Some is_ge
order_test op = None

-- whether a comparison holds of an order; no other operator does
abbrev pub holds : Operator → Ordering → Bool
holds op o = option_map_or (λ (test : Ordering → Bool). test o) (order_test op) false

abbrev pub comparison : Operator → Value → Value → Answer
comparison op a b = ok_or (option_map (λ o. Boolean (holds op o)) (compare a b)) TypeMismatch

-- the exact result; the other operators take no numbers
abbrev pub calculate : Operator → ℤ → ℤ → Result ℤ ValueFault
calculate Add a b = Ok (a +ℤ b)
calculate Subtract a b = Ok (a -ℤ b)
calculate Multiply a b = Ok (a *ℤ b)
calculate Divide a b = if int_eq b (pos 0) then Err DivisionByZero else Ok (int_div a b)
calculate Remainder a b = if int_eq b (pos 0) then Err DivisionByZero else Ok (int_rem a b)
calculate op a b = Err TypeMismatch

abbrev pub arithmetic : Operator → Value → Value → Answer
arithmetic op (Int a) (Int b) = if_ok (calculate op a b) integer
arithmetic op a b = if_ok (ok_or (option_zip (number_of a) (number_of b)) TypeMismatch) (λ n. if_ok (calculate op n.0 n.1) bigint)

-- an operator on two values that aren't NULL
abbrev pub operation : Operator → Value → Value → Answer
operation Concat (Text s) (Text t) = Ok (Text (s ++ t))
operation op a b = option_map_or (λ (test : Ordering → Bool). ok_or (option_map (λ o. Boolean (test o)) (compare a b)) TypeMismatch) (order_test op) (arithmetic op a b)

-- a literal's number is an integer where it has 32 bits, and otherwise a bigint
abbrev pub number : ℤ → Answer
number z = if is_within (2 ^ 31) z then Ok (Int z) else bigint z
