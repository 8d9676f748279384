-- To be believed. The value of an expression at a row, or why it has none.
use Rattle.std.specs.Prelude.{ℕ, ◌^◌, pos, ◌+ℤ◌, ◌-ℤ◌, ◌*ℤ◌, int_div, int_rem, Bool, true, false, ◌||◌, List, ◌++◌}
use Rattle.std.specs.Prelude.{Option, Some, option_map, option_and_then, unwrap_or, ok_or, is_some, slice_get, position, bytes_eq}
use Rattle.std.specs.Prelude.{Result, Ok, Err, if◌then◌else◌}
use Rattle.std.specs.Option.{option_map_or}
use Rattle.std.specs.Ordering.{int_eq, is_eq, is_ne, is_lt, is_le, is_gt, is_ge}
use Rattle.std.specs.declared.cmp.Ordering.{Ordering}
use Rattle.std.specs.Str.{is_utf8}
use Rattle.sql_trees.specs.declared.kind.Kind.{Kind}
use Rattle.sql_trees.specs.declared.expr.Operator.{Operator}
use Rattle.sql_trees.specs.declared.expr.Operator.TheVariants.{Or, And, Equal, NotEqual, Less, AtMost, Greater, AtLeast, Concat, Add, Subtract, Multiply, Divide, Remainder}
use Rattle.sql_trees.specs.Trees.{Tree, Trees}
use Rattle.sql_trees.specs.Trees as tree
use Rattle.sql_values.specs.declared.value.Value.{Value}
use Rattle.sql_values.specs.declared.value.Value.TheVariants.{Null, Int, Text, Bool as Boolean}
use Rattle.sql_values.specs.declared.fault.ValueFault.{ValueFault}
use Rattle.sql_values.specs.declared.fault.ValueFault.TheVariants.{NoColumn, DivisionByZero, TypeMismatch}
use Rattle.sql_values.specs.Values.{Answer, if_ok, is_within, bigint, is_null, number_of, compare}
use Rattle.sql_values.specs.Arithmetic.{arithmetic, signed}
use Rattle.sql_values.specs.Logic.{Known, truth, condition, decided_by, is_test}

abbrev pub Cols : Type 0
Cols = List (List ℕ × Kind)

-- a test of the order of two values that compare (9.2)
abbrev pub comparison : (Ordering → Bool) → Value → Value → Answer
comparison test a b = ok_or (option_map (λ o. Boolean (test o)) (compare a b)) TypeMismatch

-- an operator on two values that aren't NULL: two texts one after the other (9.4), a comparison (9.2), or arithmetic (9.3),
-- where a quotient is cut off toward zero, and a remainder has the dividend's sign
abbrev pub operation : Operator → Value → Value → Answer
operation Concat (Text s) (Text t) = Ok (Text (s ++ t))
operation Equal a b = comparison is_eq a b
operation NotEqual a b = comparison is_ne a b
operation Less a b = comparison is_lt a b
operation AtMost a b = comparison is_le a b
operation Greater a b = comparison is_gt a b
operation AtLeast a b = comparison is_ge a b
operation Add a b = arithmetic (λ x y. Ok (x +ℤ y)) a b
operation Subtract a b = arithmetic (λ x y. Ok (x -ℤ y)) a b
operation Multiply a b = arithmetic (λ x y. Ok (x *ℤ y)) a b
operation Divide a b = arithmetic (λ x y. if int_eq y (pos 0) then Err DivisionByZero else Ok (int_div x y)) a b
operation Remainder a b = arithmetic (λ x y. if int_eq y (pos 0) then Err DivisionByZero else Ok (int_rem x y)) a b
operation op a b = Err TypeMismatch

-- with a NULL it is NULL, whatever the other value is
abbrev pub operate : Operator → Value → Value → Answer
operate op a b = if is_null a || is_null b then Ok Null else operation op a b

-- a comparison as a condition, where the right side may have a fault
abbrev pub compares : Operator → Value → Answer → Known
compares op v b = if_ok (if_ok b (operate op v)) truth

abbrev mutual
  -- the value of an expression at a row of these columns (4.2): a string literal that isn't UTF-8, which no text has, is no text,
  -- a number is an integer where it has 32 bits, and otherwise a bigint (4.1.2), a name means the first column that has it,
  -- a plus sign leaves NULL and a number as it is, and a minus sign takes it from 0 (9.3)
  pub value : Tree → Cols → List Value → Answer
  value tree.Null cols row = Ok Null
  value (tree.Flag b) cols row = Ok (Boolean b)
  value (tree.Number negative n) cols row = let z = signed negative n in if is_within (2 ^ 31) z then Ok (Int z) else bigint z
  value (tree.Text s) cols row = if is_utf8 s then Ok (Text s) else Err TypeMismatch
  value (tree.Column name) cols row = ok_or (option_and_then (slice_get row) (position (λ c. bytes_eq name c.0) cols)) (NoColumn name)
  value (tree.Plus a) cols row = if_ok (value a cols row) (λ v. if is_null v || is_some (number_of v) then Ok v else Err TypeMismatch)
  value (tree.Minus a) cols row = if_ok (value a cols row) (operate Subtract (Int (pos 0)))
  value (tree.Not a) cols row = condition true (if_ok (value a cols row) truth)
  value (tree.Binary Or a b) cols row = condition false (decided_by true (if_ok (value a cols row) truth) (if_ok (value b cols row) truth))
  value (tree.Binary And a b) cols row = condition false (decided_by false (if_ok (value a cols row) truth) (if_ok (value b cols row) truth))
  value (tree.Binary op a b) cols row = if_ok (value a cols row) (λ v. if_ok (value b cols row) (operate op v))
  value (tree.Is a negated asked) cols row = if_ok (value a cols row) (λ v. condition negated (is_test asked v))
  value (tree.In a negated items) cols row = if_ok (value a cols row) (λ v. condition negated (is_among items v cols row))
  value (tree.Between a negated low high) cols row =
      if_ok (value a cols row) (λ v. condition negated (decided_by false (compares AtLeast v (value low cols row)) (compares AtMost v (value high cols row))))

  -- x IN (a, b, ..) is x = a OR x = b OR .. (9.24)
  pub is_among : Trees → Value → Cols → List Value → Known
  is_among tree.none v cols row = Ok (Some false)
  is_among (tree.more e rest) v cols row = decided_by true (compares Equal v (value e cols row)) (is_among rest v cols row)

-- WHERE passes a row at which its condition is true; without one, each (7.2.2)
abbrev pub passes : Option Tree → Cols → List Value → Result Bool ValueFault
passes filter cols row = option_map_or (λ e. if_ok (if_ok (value e cols row) truth) (λ known. Ok (unwrap_or known false))) filter (Ok true)
