-- That there is just one.
use Rattle.std.specs.Prelude.{◌≡◌}

-- this is so of one thing, and of nothing else
pub record ExactlyOne {A : Type 0} (IsSo : A → Type 0) : Type 0 where
  pub it : A
  pub is_so : IsSo it
  pub only : (other : A) → IsSo other → other ≡ it
