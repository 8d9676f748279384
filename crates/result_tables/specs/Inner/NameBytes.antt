-- The bytes of a quoted name, one by one.
use Rattle.std.specs.Prelude.{◌≡◌, ℕ, ◌<◌, List, ◌∷◌, length}
use Rattle.iso_lexer.specs.Names.{unquoted}

-- the first byte that a part of a quoted name stands for, and the part behind it
pub record FirstUnquoted (part : List ℕ) (byte : ℕ) (behind : List ℕ) : Type 0 where
  pub stands : unquoted part ≡ byte ∷ unquoted behind
  pub shorter : length behind < length part
