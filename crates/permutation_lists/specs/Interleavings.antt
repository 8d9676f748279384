-- To be believed. The interleavings of sessions: all orders of their steps that keep each session's own steps in order, as lists of session numbers.
-- The isolation README: with no permutation lines "all possible interleavings of the steps from each session" run, "running the steps of any one session in order".
use Rattle.std.specs.Prelude.{◌≡◌, ℕ, zero, suc, ◌-◌, ◌<◌, ◌==◌, List, [], ◌∷◌, length, map, flat_map, sum, count_by, slice_index, slice_set, if◌then◌else◌}
use Rattle.std.specs.List.{enumerate_from}

-- the counts with one turn of the session taken
abbrev pub without : List ℕ → ℕ → List ℕ
without counts session = slice_set counts session (slice_index counts session - 1)

-- the lists of this length, of sessions numbered from 0: for each session that has a turn left it, and then each list of the turns that are left
abbrev pub of_length : ℕ → List ℕ → List (List ℕ)
of_length zero counts = [] ∷ []
of_length (suc n) counts =
    flat_map (λ p. if p.1 == 0 then [] else map (λ (list : List ℕ). p.0 ∷ list) (of_length n (without counts p.0))) (enumerate_from 0 counts)

-- all interleavings of sessions with these counts of steps; they are numbered from 1, since number 0, of setups and teardowns, takes no turn
abbrev pub interleavings : List ℕ → List (List ℕ)
interleavings counts = of_length (sum counts) (0 ∷ counts)

-- each session occurs in the list as often as it has steps, and no other number does
abbrev pub IsInterleaving : List ℕ → List ℕ → Type 0
IsInterleaving counts list = (session : ℕ) → count_by (λ x. x == session) list ≡ slice_index (0 ∷ counts) session

-- a list is still to be given that this room doesn't hold
abbrev pub WantsRoom : List (List ℕ) → ℕ → Type 0
WantsRoom [] room = ⊥
WantsRoom (list ∷ lists) room = room < length list
