-- To be believed. Texts that look like numbers.
use Rattle.std.specs.Prelude.{ℕ, ◌-◌, ◌==◌, ◌||◌, ◌&&◌, Bool, false, not, List, length}
use Rattle.std.specs.List.{list_all, slice_get}
use Rattle.std.specs.Option.{option_map_or}
use Rattle.std.specs.Char.{is_ascii_digit}

-- all bytes are digits, `.`, `E`, `e`, blanks and `-`, the first one is no `E` or `e`, and the last one is a digit
abbrev pub is_numeric : List ℕ → Bool
is_numeric text = list_all (λ b. is_ascii_digit b || b == 46 || (b == 69 || b == 101) || b == 32 || b == 45) text
    && not (option_map_or (λ b. b == 69 || b == 101) (slice_get text 0) false) && option_map_or is_ascii_digit (slice_get text (length text - 1)) false
