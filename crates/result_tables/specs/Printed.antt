-- To be believed. What values print.
use Rattle.std.specs.Prelude.{ℕ, List, [], codes, if◌then◌else◌}
use Rattle.std.specs.Fmt.{signed_decimal}
use Rattle.sql_values.specs.declared.value.Value.{Value}
use Rattle.sql_values.specs.declared.value.Value.TheVariants.{Null, Int, Big, Text, Bool}

-- numbers in decimal, a text as it is, a boolean as `t` or `f`, and NULL as nothing
abbrev pub printed : Value → List ℕ
printed Null = []
printed (Int n) = signed_decimal n
printed (Big n) = signed_decimal n
printed (Text text) = text
printed (Bool b) = if b then codes "t" else codes "f"
