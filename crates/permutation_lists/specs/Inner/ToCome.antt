-- The lists that are still to be given.
use Rattle.std.specs.Prelude.{◌≡◌, ℕ, ◌^◌, ◌≤◌, List, [], ◌∷◌, length, sum, Bool, true, false}
use Rattle.permutation_lists.specs.Inner.Prefixes.{later, IsAt}

-- the next list and all above it, unless all were given
abbrev pub to_come : Bool → List ℕ → List ℕ → List (List ℕ)
to_come true counts next = []
to_come false counts next = next ∷ later counts next

-- the next list lies on the way, and takes all turns
pub record IsReady (over : Bool) (counts left next : List ℕ) : Type 0 where
  pub few : length left ≤ 2 ^ 32
  pub at : over ≡ false → IsAt counts next left
  pub none : over ≡ false → sum left ≡ 0
