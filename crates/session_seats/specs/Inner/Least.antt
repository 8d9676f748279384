-- The least number.
use Rattle.std.specs.Prelude.{Option, Some, None, ℕ, nat_lt, Bool, true}

-- the number is less than the other, if there is one
abbrev pub is_less : ℕ → Option ℕ → Bool
is_less n None = true
is_less n (Some m) = nat_lt n m
