-- The bytes of a text that looks like a number.
use Rattle.std.specs.Prelude.{ℕ, ◌==◌, ◌||◌, Bool}
use Rattle.std.specs.Char.{is_ascii_digit}

-- `E` or `e`
abbrev pub is_exponent : ℕ → Bool
is_exponent b = b == 69 || b == 101

-- a digit, `.`, `E`, `e`, a blank or `-`
abbrev pub is_numeric_byte : ℕ → Bool
is_numeric_byte b = is_ascii_digit b || b == 46 || is_exponent b || b == 32 || b == 45
