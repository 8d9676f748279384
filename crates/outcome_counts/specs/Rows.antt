-- When two lists of rows are the same rows: as a multiset.
use Rattle.std.specs.Prelude.{◌≡◌, ℕ, Bool, true, false, List, count_by, bytes_eq}
use Rattle.std.specs.Bool.{beq}
use Rattle.std.specs.Ordering.{int_eq}
use Rattle.std.specs.Cmp.Lexicographic.{pointwise}
use Rattle.sql_values.specs.declared.value.Value.{Value}
use Rattle.sql_values.specs.declared.value.Value.TheVariants.{Null, Int, Big, Text, Bool as Boolean}

-- both are the same value of the same kind
abbrev pub is_value : Value → Value → Bool
is_value Null Null = true
is_value (Int a) (Int b) = int_eq a b
is_value (Big a) (Big b) = int_eq a b
is_value (Text s) (Text t) = bytes_eq s t
is_value (Boolean a) (Boolean b) = beq a b
is_value a b = false

-- both are the same values in the same order
abbrev pub is_row : List Value → List Value → Bool
is_row = pointwise is_value

-- how often the row stands among these
abbrev pub times : List Value → List (List Value) → ℕ
times row rows = count_by (is_row row) rows

-- each row stands as often in the one as in the other
abbrev pub SameRows : List (List Value) → List (List Value) → Type 0
SameRows rows others = (row : List Value) → times row rows ≡ times row others
