-- To be believed. Values: their ranges, how two of them compare, and what a column of a kind takes of them.
use Rattle.std.specs.Prelude.{ℕ, ◌^◌, ◌≡◌, ◌≢◌, ℤ, pos, neg_ℤ, int_le, int_lt, Bool, true, false, ◌&&◌}
use Rattle.std.specs.Prelude.{Option, Some, None, option_map, ok_or, Result, Ok, Err, if◌then◌else◌}
use Rattle.std.specs.Option.{option_zip}
use Rattle.std.specs.Ordering.{nat_cmp, int_cmp, bool_cmp}
use Rattle.std.specs.declared.cmp.Ordering.{Ordering}
use Rattle.std.specs.Cmp.Lexicographic.{slice_cmp}
pub use Rattle.iso_lexer.specs.Results.{if_ok, each}
use Rattle.sql_trees.specs.declared.kind.Kind.{Kind}
use Rattle.sql_trees.specs.declared.kind.Kind.TheVariants as kind
use Rattle.sql_values.specs.declared.value.Value.{Value}
use Rattle.sql_values.specs.declared.value.Value.TheVariants.{Null, Int, Big, Text, Bool as Boolean}
use Rattle.sql_values.specs.declared.fault.ValueFault.{ValueFault}
use Rattle.sql_values.specs.declared.fault.ValueFault.TheVariants.{IntegerRange, BigintRange, TypeMismatch, Memory}

-- a value, or why there is none
abbrev pub Answer : Type 0
Answer = Result Value ValueFault

-- the call answers this, unless it was refused memory
abbrev pub Answers : {A : Type 0} → Result A ValueFault → Result A ValueFault → Type 0
Answers (Ok x) answer = answer ≡ Ok x
Answers (Err e) answer = e ≢ Memory → answer ≡ Err e

-- the number is at least -half and below half
abbrev pub is_within : ℕ → ℤ → Bool
is_within half z = int_le (neg_ℤ (pos half)) z && int_lt z (pos half)

-- an integer has 32 bits (PostgreSQL manual, 8.1)
abbrev pub integer : ℤ → Answer
integer z = if is_within (2 ^ 31) z then Ok (Int z) else Err IntegerRange

-- a bigint has 64 bits (8.1)
abbrev pub bigint : ℤ → Answer
bigint z = if is_within (2 ^ 63) z then Ok (Big z) else Err BigintRange

abbrev pub is_null : Value → Bool
is_null v = elim v [ Null ↦ true | other ↦ false ]

-- the number that a value is
abbrev pub number_of : Value → Option ℤ
number_of v = elim v [ Int z ↦ Some z | Big z ↦ Some z | other ↦ None ]

-- numbers compare by size, texts by their bytes, false stands before true; NULL and values of other kinds don't compare (9.2)
abbrev pub compare : Value → Value → Option Ordering
compare (Text s) (Text t) = Some (slice_cmp nat_cmp s t)
compare (Boolean a) (Boolean b) = Some (bool_cmp a b)
compare a b = option_map (λ n. int_cmp n.0 n.1) (option_zip (number_of a) (number_of b))

-- what a column of the kind takes a value as: NULL as it is, a number if it fits, another value of that kind
abbrev pub assign : Value → Kind → Answer
assign Null k = Ok Null
assign v kind.Int = if_ok (ok_or (number_of v) TypeMismatch) integer
assign v kind.Big = if_ok (ok_or (number_of v) TypeMismatch) bigint
assign (Text s) kind.Text = Ok (Text s)
assign (Boolean b) kind.Bool = Ok (Boolean b)
assign v k = Err TypeMismatch
