-- The interleavings rise strictly.
use Rattle.std.proofs.Common.{ℕ, zero, suc, ◌+◌, ◌<◌, ◌≤◌, List, [], ◌∷◌, ◌++◌, map, sum, length, refl, sym, subst, arith, inl, inr}
use Rattle.permutation_lists.specs.Inner.Prefixes.{each_first}
use Rattle.permutation_lists.proofs.First.{with_turn}
use Rattle.permutation_lists.specs.Interleavings.{without, of_length, interleavings}
use Rattle.std.specs.Prelude.{◌≢◌, AllPairs, slice_index_or}
use Rattle.permutation_lists.specs.Order.{IsBelow}

-- a list comes before each of some
abbrev pub IsBelowAll : List ℕ → List (List ℕ) → Type 0
IsBelowAll xs [] = Unit {0}
IsBelowAll xs (l ∷ ls) = IsBelow xs l × IsBelowAll xs ls

-- each list comes before each later one, by recursion
abbrev pub IsRising : List (List ℕ) → Type 0
IsRising [] = Unit {0}
IsRising (l ∷ ls) = IsBelowAll l ls × IsRising ls

abbrev Begins : ℕ → List ℕ → Type 0
Begins j [] = ⊥
Begins j (x ∷ xs) = j ≤ x

abbrev AllBegin : ℕ → List (List ℕ) → Type 0
AllBegin j [] = Unit {0}
AllBegin j (l ∷ ls) = Begins j l × AllBegin j ls

-- one more session in front keeps the order
below_map : (i : ℕ) (l : List ℕ) (ls : List (List ℕ)) → IsBelowAll l ls → IsBelowAll (i ∷ l) (map (λ (xs : List ℕ). i ∷ xs) ls)
below_map i l [] h = tt
below_map i l (m ∷ ls) h = (inr (refl, h.0), below_map i l ls h.1)

rising_map : (i : ℕ) (ls : List (List ℕ)) → IsRising ls → IsRising (map (λ (xs : List ℕ). i ∷ xs) ls)
rising_map i [] h = tt
rising_map i (l ∷ ls) h = (below_map i l ls h.0, rising_map i ls h.1)

below_append : (l : List ℕ) (front bs : List (List ℕ)) → IsBelowAll l front → IsBelowAll l bs → IsBelowAll l (front ++ bs)
below_append l [] bs h k = k
below_append l (a ∷ front) bs h k = (h.0, below_append l front bs h.1 k)

below_begins : (i : ℕ) (l : List ℕ) (ls : List (List ℕ)) → AllBegin (i + 1) ls → IsBelowAll (i ∷ l) ls
below_begins i l [] h = tt
below_begins i l ([] ∷ ls) h = absurd h.0
below_begins i l ((x ∷ m) ∷ ls) h = (let e : i + 1 ≤ x = h.0 in inl (omega arith), below_begins i l ls h.1)

-- lists that begin with one session, and then lists that begin with later ones
rising_append : (i : ℕ) (front bs : List (List ℕ)) → IsRising front → IsRising bs → AllBegin (i + 1) bs → IsRising (map (λ (xs : List ℕ). i ∷ xs) front ++ bs)
rising_append i [] bs h k later = k
rising_append i (a ∷ front) bs h k later = (below_append (i ∷ a) (map (λ (xs : List ℕ). i ∷ xs) front) bs (below_map i a front h.0) (below_begins i a bs later), rising_append i front bs h.1 k later)

begin_append : (j i : ℕ) (front bs : List (List ℕ)) → j ≤ i → AllBegin j bs → AllBegin j (map (λ (xs : List ℕ). i ∷ xs) front ++ bs)
begin_append j i [] bs h k = k
begin_append j i (a ∷ front) bs h k = (h, begin_append j i front bs h k)

-- the lists from a session on begin with it or a later one
begin_each : (rest : List ℕ → List (List ℕ)) (c : List ℕ) (j i : ℕ) (cs : List ℕ) → j ≤ i → AllBegin j (each_first rest c i cs)
begin_each rest c j i [] h = tt
begin_each rest c j i (zero ∷ cs) h = begin_each rest c j (i + 1) cs (omega arith)
begin_each rest c j i (suc x ∷ cs) h =
    subst (AllBegin j) (sym (with_turn rest c i x cs)) (begin_append j i (rest (without c i)) (each_first rest c (i + 1) cs) h (begin_each rest c j (i + 1) cs (omega arith)))

rising_each : (rest : List ℕ → List (List ℕ)) → ((c : List ℕ) → IsRising (rest c)) → (c : List ℕ) (i : ℕ) (cs : List ℕ) → IsRising (each_first rest c i cs)
rising_each rest h c i [] = tt
rising_each rest h c i (zero ∷ cs) = rising_each rest h c (i + 1) cs
rising_each rest h c i (suc x ∷ cs) =
    subst IsRising (sym (with_turn rest c i x cs))
    (rising_append i (rest (without c i)) (each_first rest c (i + 1) cs) (h (without c i)) (rising_each rest h c (i + 1) cs) (begin_each rest c (i + 1) (i + 1) cs (omega arith)))

-- the lists of a length rise
pub rising : (n : ℕ) (c : List ℕ) → IsRising (of_length n c)
rising zero c = (tt, tt)
rising (suc n) c = rising_each (of_length n) (rising n) c 0 c

below_at : (l : List ℕ) (ls : List (List ℕ)) → IsBelowAll l ls → (j : ℕ) (d : List ℕ) → j < length ls → IsBelow l (slice_index_or ls j d)
below_at l [] h j d less = absurd (omega arith)
below_at l (m ∷ ls) h zero d less = h.0
below_at l (m ∷ ls) h (suc j) d less = below_at l ls h.1 j d (omega arith)

-- each comes before each later one, by index
pairs : (ls : List (List ℕ)) → IsRising ls → AllPairs IsBelow ls
pairs [] h i j d before less = absurd (omega arith)
pairs (l ∷ ls) h i zero d before less = absurd (omega arith)
pairs (l ∷ ls) h zero (suc j) d before less = below_at l ls h.0 j d (omega arith)
pairs (l ∷ ls) h (suc i) (suc j) d before less = pairs ls h.1 i j d (omega arith) (omega arith)

pub interleavings_rise : (counts : List ℕ) → AllPairs IsBelow (interleavings counts)
interleavings_rise counts = pairs (interleavings counts) (rising (sum counts) (0 ∷ counts))

-- no list comes before itself
pub not_below_itself : (l : List ℕ) → IsBelow l l → ⊥
not_below_itself [] h = h
not_below_itself (x ∷ l) (inl less) = omega arith
not_below_itself (x ∷ l) (inr same) = not_below_itself l same.1

pub no_interleaving_twice : (counts : List ℕ) → AllPairs (λ one other. one ≢ other) (interleavings counts)
no_interleaving_twice counts i j d before less same =
    let lists = interleavings counts in
    let below : IsBelow (slice_index_or lists i d) (slice_index_or lists j d) = interleavings_rise counts i j d before less in
    not_below_itself (slice_index_or lists j d) (subst (λ (l : List ℕ). IsBelow l (slice_index_or lists j d)) same below)
