-- How one list steps to the next.
use Rattle.std.specs.Prelude.{◌≡◌, ℕ, ◌+◌, ◌<◌, ◌≤◌, ◌==◌, List, [], ◌∷◌, ◌++◌, length, map, flat_map, slice_index, drop, if◌then◌else◌}
use Rattle.std.specs.List.{enumerate_from}
use Rattle.permutation_lists.specs.Interleavings.{without, of_length}

-- for each session that has a turn left, from this one on: it, and then each list of the turns that are left; the last argument is the counts from that session on
abbrev pub each_first : (List ℕ → List (List ℕ)) → List ℕ → ℕ → List ℕ → List (List ℕ)
each_first rest counts session more =
    flat_map (λ p. if p.1 == 0 then [] else map (λ (list : List ℕ). p.0 ∷ list) (rest (without counts p.0))) (enumerate_from session more)

-- the lists that begin with this session or a later one
abbrev pub from_session : (List ℕ → List (List ℕ)) → List ℕ → ℕ → List (List ℕ)
from_session rest counts session = each_first rest counts session (drop session counts)

-- after a prefix that n sessions follow: the given lists behind the whole prefix, and then all that are above it
abbrev pub behind : List ℕ → List ℕ → ℕ → List (List ℕ) → List (List ℕ)
behind counts [] n lists = lists
behind counts (x ∷ xs) n lists =
    map (λ (ys : List ℕ). x ∷ ys) (behind (without counts x) xs n lists) ++ from_session (of_length (length xs + n)) counts (x + 1)

-- the lists that come after one
abbrev pub later : List ℕ → List ℕ → List (List ℕ)
later counts list = behind counts list 0 []

-- the counts that are left after a prefix
abbrev pub left_after : List ℕ → List ℕ → List ℕ
left_after counts [] = counts
left_after counts (x ∷ xs) = left_after (without counts x) xs

-- each session of the list had a turn left when its place came
abbrev pub IsPath : List ℕ → List ℕ → Type 0
IsPath counts [] = Unit {0}
IsPath counts (x ∷ xs) = (x < length counts) × (0 < slice_index counts x) × IsPath (without counts x) xs

-- the least session from one on that has a turn left
abbrev pub IsLeast : List ℕ → ℕ → ℕ → Type 0
IsLeast left from y =
    (from ≤ y) × (y < length left) × (0 < slice_index left y)
    × ((rest : List ℕ → List (List ℕ)) → from_session rest left from ≡ map (λ (ys : List ℕ). y ∷ ys) (rest (without left y)) ++ from_session rest left (y + 1))

-- no session from one on has a turn left
abbrev pub IsNoneLeft : List ℕ → ℕ → Type 0
IsNoneLeft left from = (rest : List ℕ → List (List ℕ)) → from_session rest left from ≡ []

-- no session below this one has a turn left
abbrev pub IsUsedUp : List ℕ → ℕ → Type 0
IsUsedUp left session = (i : ℕ) → i < session → slice_index left i ≡ 0

-- a list that lies on the way, and what is left after it
pub record IsAt (counts list left : List ℕ) : Type 0 where
  pub path : IsPath counts list
  pub rest : left ≡ left_after counts list
