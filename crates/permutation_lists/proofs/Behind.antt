-- How the lists behind a prefix change with its last session.
use Rattle.std.proofs.Common.{◌≡◌, ℕ, ◌+◌, ◌<◌, ◌≤◌, List, [], ◌∷◌, ◌++◌, length, map, drop, refl, ap, sym, ◌∙◌, arith, length-append, get_or, drop-cons, add-one}
use Rattle.std.proofs.lemmas.List.{drop_all}
use Rattle.permutation_lists.specs.Interleavings.{without, of_length}
use Rattle.permutation_lists.specs.Inner.Prefixes.{each_first, from_session, behind, left_after, later}

-- what is left after one more session
pub left_push : (c p : List ℕ) (x : ℕ) → left_after c (p ++ x ∷ []) ≡ without (left_after c p) x
left_push c [] x = refl
left_push c (y ∷ p) x = left_push (without c y) p x

-- the lists behind a prefix of one more session
pub behind_push : (c p : List ℕ) (x n : ℕ) (lists : List (List ℕ))
    → behind c (p ++ x ∷ []) n lists ≡ behind c p (n + 1) (map (λ (ys : List ℕ). x ∷ ys) lists ++ from_session (of_length n) (left_after c p) (x + 1))
behind_push c [] x n lists = ap (λ (k : ℕ). map (λ (ys : List ℕ). x ∷ ys) lists ++ from_session (of_length k) c (x + 1)) (omega arith)
behind_push c (y ∷ p) x n lists =
    let long : length (p ++ x ∷ []) + n ≡ length p + (n + 1) = omega (arith, length-append p (x ∷ [])) in
    rw (behind_push (without c y) p x n lists, long) refl

-- a session with no turn left begins no list
pub skip : (rest : List ℕ → List (List ℕ)) (c : List ℕ) (i : ℕ) → i < length c → get_or c i 0 ≡ 0 → from_session rest c i ≡ from_session rest c (i + 1)
skip rest c i h none = rw (drop-cons c i 0 h, none) (ap (λ (k : ℕ). each_first rest c (i + 1) (drop k c)) (sym (add-one i)))

-- no list begins past the last session
pub none_from : (rest : List ℕ → List (List ℕ)) (c : List ℕ) (i : ℕ) → length c ≤ i → from_session rest c i ≡ []
none_from rest c i h = rw (drop_all i c h) refl

-- a list at its end is the next one
pub at_end : (c p : List ℕ) → behind c p 0 ([] ∷ []) ≡ p ∷ later c p
at_end c [] = refl
at_end c (x ∷ p) = rw (at_end (without c x) p) refl

-- the last session has no later one to take its place
pub pop_none : (c p : List ℕ) (x n : ℕ) → from_session (of_length n) (left_after c p) (x + 1) ≡ [] → behind c (p ++ x ∷ []) n [] ≡ behind c p (n + 1) []
pop_none c p x n h = behind_push c p x n [] ∙ ap (behind c p (n + 1)) h

-- another takes its place
pub pop_found : (c p : List ℕ) (x y n : ℕ)
    → from_session (of_length n) (left_after c p) (x + 1) ≡ map (λ (ys : List ℕ). y ∷ ys) (of_length n (without (left_after c p) y)) ++ from_session (of_length n) (left_after c p) (y + 1)
    → behind c (p ++ x ∷ []) n [] ≡ behind c (p ++ y ∷ []) n (of_length n (left_after c (p ++ y ∷ [])))
pop_found c p x y n h =
    behind_push c p x n [] ∙ ap (behind c p (n + 1)) h
    ∙ ap (λ (d : List ℕ). behind c p (n + 1) (map (λ (ys : List ℕ). y ∷ ys) (of_length n d) ++ from_session (of_length n) (left_after c p) (y + 1))) (sym (left_push c p y))
    ∙ sym (behind_push c p y n (of_length n (left_after c (p ++ y ∷ []))))

-- the least session goes on
pub fill : (c p : List ℕ) (y n : ℕ)
    → from_session (of_length n) (left_after c p) 0 ≡ map (λ (ys : List ℕ). y ∷ ys) (of_length n (without (left_after c p) y)) ++ from_session (of_length n) (left_after c p) (y + 1)
    → behind c p (n + 1) (of_length (n + 1) (left_after c p)) ≡ behind c (p ++ y ∷ []) n (of_length n (left_after c (p ++ y ∷ [])))
fill c p y n h =
    ap (behind c p (n + 1)) (rw add-one h)
    ∙ ap (λ (d : List ℕ). behind c p (n + 1) (map (λ (ys : List ℕ). y ∷ ys) (of_length n d) ++ from_session (of_length n) (left_after c p) (y + 1))) (sym (left_push c p y))
    ∙ sym (behind_push c p y n (of_length n (left_after c (p ++ y ∷ []))))
