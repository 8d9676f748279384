-- Names as they are compared: byte by byte, from the front.
use Rattle.std.specs.Prelude.{◌≡◌, ℕ, ◌<◌, List, ◌∷◌, length, map}
use Rattle.std.specs.Char.{to_ascii_lowercase}
use Rattle.iso_lexer.specs.Names.{Written, plain, quoted, folded, unquoted}

-- the bytes that a part of a name of this kind stands for
abbrev pub decoded_in : Written → List ℕ → List ℕ
decoded_in (plain s) bs = bs
decoded_in (quoted s) bs = unquoted bs
decoded_in (folded s) bs = map to_ascii_lowercase bs

abbrev pub raw_bytes : Written → List ℕ
raw_bytes (plain s) = s
raw_bytes (quoted s) = s
raw_bytes (folded s) = s

-- a byte of the name, and the part behind it
abbrev pub FirstIs : Written → List ℕ → ℕ → List ℕ → Type 0
FirstIs n bs b rest = (decoded_in n bs ≡ b ∷ decoded_in n rest) × (length rest < length bs)
