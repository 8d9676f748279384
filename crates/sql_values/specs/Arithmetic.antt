-- To be believed. Arithmetic on whole numbers (PostgreSQL manual, 9.3) and the literals (4.1.2).
use Rattle.std.specs.Prelude.{ℕ, ℤ, pos, neg_ℤ, Bool, ok_or, Result, if◌then◌else◌}
use Rattle.std.specs.Option.{option_zip}
use Rattle.sql_values.specs.declared.value.Value.{Value}
use Rattle.sql_values.specs.declared.value.Value.TheVariants.{Int}
use Rattle.sql_values.specs.declared.fault.ValueFault.{ValueFault}
use Rattle.sql_values.specs.declared.fault.ValueFault.TheVariants.{TypeMismatch}
use Rattle.sql_values.specs.Values.{Answer, if_ok, integer, bigint, number_of}

-- the exact result as a value: of two integers an integer, with a bigint a bigint
abbrev pub arithmetic : (ℤ → ℤ → Result ℤ ValueFault) → Value → Value → Answer
arithmetic exact (Int a) (Int b) = if_ok (exact a b) integer
arithmetic exact a b = if_ok (ok_or (option_zip (number_of a) (number_of b)) TypeMismatch) (λ n. if_ok (exact n.0 n.1) bigint)

-- a literal's number, by its sign and size
abbrev pub signed : Bool → ℕ → ℤ
signed negative n = if negative then neg_ℤ (pos n) else pos n
