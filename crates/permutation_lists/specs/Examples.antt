use Rattle.std.specs.Prelude.{◌≡◌, refl, [], ◌∷◌}
use Rattle.permutation_lists.specs.Interleavings.{interleavings}

-- two sessions of two steps
two_of_two : interleavings (2 ∷ 2 ∷ []) ≡ (1 ∷ 1 ∷ 2 ∷ 2 ∷ []) ∷ (1 ∷ 2 ∷ 1 ∷ 2 ∷ []) ∷ (1 ∷ 2 ∷ 2 ∷ 1 ∷ []) ∷ (2 ∷ 1 ∷ 1 ∷ 2 ∷ []) ∷ (2 ∷ 1 ∷ 2 ∷ 1 ∷ []) ∷ (2 ∷ 2 ∷ 1 ∷ 1 ∷ []) ∷ []
two_of_two = refl

-- no sessions: the one empty list
no_sessions : interleavings [] ≡ [] ∷ []
no_sessions = refl

-- three sessions of one step
three_of_one : interleavings (1 ∷ 1 ∷ 1 ∷ []) ≡ (1 ∷ 2 ∷ 3 ∷ []) ∷ (1 ∷ 3 ∷ 2 ∷ []) ∷ (2 ∷ 1 ∷ 3 ∷ []) ∷ (2 ∷ 3 ∷ 1 ∷ []) ∷ (3 ∷ 1 ∷ 2 ∷ []) ∷ (3 ∷ 2 ∷ 1 ∷ []) ∷ []
three_of_one = refl

-- a session of no steps is left out
none_of_two : interleavings (0 ∷ 1 ∷ 0 ∷ 2 ∷ []) ≡ (2 ∷ 4 ∷ 4 ∷ []) ∷ (4 ∷ 2 ∷ 4 ∷ []) ∷ (4 ∷ 4 ∷ 2 ∷ []) ∷ []
none_of_two = refl
