-- A piece of the names of keys.
use Rattle.std.specs.Prelude.{ℕ, List, ◌∷◌, map}
use Rattle.std.specs.List.{concat}

-- the names, each behind an underscore
abbrev pub underscored : List (List ℕ) → List ℕ
underscored ns = concat (map (λ n. 95 ∷ n) ns)
