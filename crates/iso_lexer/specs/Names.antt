-- To be believed. Names as they are written, and the bytes that they stand for.
use Rattle.std.specs.Prelude.{ℕ, List, ◌∷◌, map, if◌then◌else◌, ◌==◌}
use Rattle.std.specs.Char.{to_ascii_lowercase}
use Rattle.iso_lexer.specs.declared.name.Name.{Name}
use Rattle.iso_lexer.specs.declared.name.Name.TheVariants as names

-- a name as it is written, without where it lies in memory
pub data Written : Type 0 where
  plain : List ℕ → Written
  quoted : List ℕ → Written
  folded : List ℕ → Written

abbrev pub name_view : Name → Written
name_view (names.Plain s) = plain s.now
name_view (names.Quoted s) = quoted s.now
name_view (names.Folded s) = folded s.now

-- a doubled quote is one
unfoldable pub unquoted : List ℕ → List ℕ
unquoted (b ∷ c ∷ bs) = if b == 34 then b ∷ unquoted bs else b ∷ unquoted (c ∷ bs)
unquoted bs = bs

-- the bytes that a name stands for
abbrev pub decoded : Written → List ℕ
decoded name = elim name [ plain s ↦ s | quoted s ↦ unquoted s | folded s ↦ map to_ascii_lowercase s ]
