-- Lexicographic order.
use Rattle.std.specs.Prelude.{◌≡◌, ℕ, ◌<◌, List, [], ◌∷◌, ◌⊎◌}

-- the first list comes before the second: it is its beginning, or is less at the first place where they differ
abbrev pub IsBelow : List ℕ → List ℕ → Type 0
IsBelow xs [] = ⊥
IsBelow [] (y ∷ ys) = Unit {0}
IsBelow (x ∷ xs) (y ∷ ys) = (x < y) ⊎ ((x ≡ y) × IsBelow xs ys)
