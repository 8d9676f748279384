-- A number taken from 0.
use Rattle.std.proofs.Common.{◌≡◌, ℤ, pos, neg_ℤ, arith}
use Rattle.std.specs.Prelude.{◌-ℤ◌}
use Rattle.std.proofs.lemmas.Int.{ints}

pub from_zero : (z : ℤ) → pos 0 -ℤ z ≡ neg_ℤ z
from_zero z = omega (arith, ints)
