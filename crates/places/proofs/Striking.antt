-- What is left of a list where a place is struck.
use Rattle.std.proofs.Common.{◌≡◌, refl, sym, ◌∙◌, ap, Bool, true, false, cond, not, ◌||◌, ◌==◌, ℕ, zero, suc, ◌<◌, List, [], ◌∷◌, ◌++◌, length, get_or, take, drop, filter}
use native.Mathlib.Omega.{arith}
use Rattle.places.specs.Noted.{has_place, has_no_place_twice, without_last}

or_true : (a b : Bool) → b ≡ true → (a || b) ≡ true
or_true true b e = refl
or_true false b e = e

-- the element at an index within the list is one of the list
has_at : (place : ℕ) (places : List ℕ) (i : ℕ) → i < length places → (get_or places i place == place) ≡ true → has_place places place ≡ true
has_at place [] i l e = grind arith
has_at place (first ∷ rest) zero l e = ap (λ v. v || has_place rest place) e
has_at place (first ∷ rest) (suc i) l e = or_true (first == place) (has_place rest place) (has_at place rest i (grind arith) e)

-- to strike the last element that is equal is to take it out at its index
pub struck_at : (place : ℕ) (places : List ℕ) (i : ℕ) → i < length places → (get_or places i place == place) ≡ true → has_place (drop (suc i) places) place ≡ false
    → take i places ++ drop (suc i) places ≡ without_last place places
struck_at place [] i l e n = grind arith
struck_at place (first ∷ rest) zero l e n = sym (ap (λ v. cond v (first ∷ without_last place rest) (cond (first == place) rest (first ∷ rest))) n ∙ ap (λ v. cond v rest (first ∷ rest)) e)
struck_at place (first ∷ rest) (suc i) l e n =
    ap (λ xs. first ∷ xs) (struck_at place rest i (grind arith) e n)
    ∙ sym (ap (λ v. cond v (first ∷ without_last place rest) (cond (first == place) rest (first ∷ rest))) (has_at place rest i (grind arith) e))

-- where no element is equal, nothing is struck
pub nothing_struck : (place : ℕ) (places : List ℕ) → has_place places place ≡ false → places ≡ without_last place places
nothing_struck place [] n = refl
nothing_struck place (first ∷ rest) n = step (first == place) (has_place rest place) n where
  step : (a b : Bool) → (a || b) ≡ false → first ∷ rest ≡ cond b (first ∷ without_last place rest) (cond a rest (first ∷ rest))
  step true b e = cc
  step false true e = cc
  step false false e = refl

-- a filter that takes out what isn't there keeps the list
kept_all : (place : ℕ) (places : List ℕ) → has_place places place ≡ false → filter (λ other. not (other == place)) places ≡ places
kept_all place [] n = refl
kept_all place (first ∷ rest) n = step (first == place) (has_place rest place) n (kept_all place rest) where
  step : (a b : Bool) → (a || b) ≡ false → (b ≡ false → filter (λ other. not (other == place)) rest ≡ rest)
      → cond (not a) (first ∷ filter (λ other. not (other == place)) rest) (filter (λ other. not (other == place)) rest) ≡ first ∷ rest
  step true b e k = cc
  step false b e k = ap (λ xs. first ∷ xs) (k e)

-- two elements of which one is in a list and the other isn't are not equal
other_than : (first place : ℕ) (rest : List ℕ) → has_place rest first ≡ false → has_place rest place ≡ true → (v : Bool) → (first == place) ≡ v → v ≡ false
other_than first place rest n h false e = refl
other_than first place rest n h true e = let is : first ≡ place = grind (arith) in let k : has_place rest place ≡ false = ap (λ p. has_place rest p) (sym is) ∙ n in cc

-- of a list that has no place twice, to strike a place is to keep all others
pub kept_others : (place : ℕ) (places : List ℕ) → has_no_place_twice places → without_last place places ≡ filter (λ other. not (other == place)) places
kept_others place [] d = refl
kept_others place (first ∷ rest) d = step (kept_others place rest d.1) (has_place rest place) refl (first == place) refl where
  step : without_last place rest ≡ filter (λ other. not (other == place)) rest → (b : Bool) → has_place rest place ≡ b → (a : Bool) → (first == place) ≡ a
      → cond b (first ∷ without_last place rest) (cond a rest (first ∷ rest)) ≡ cond (not a) (first ∷ filter (λ other. not (other == place)) rest) (filter (λ other. not (other == place)) rest)
  step k true h true e = let c : true ≡ false = other_than first place rest d.0 h true e in cc
  step k true h false e = ap (λ xs. first ∷ xs) k
  step k false h true e = sym (kept_all place rest h)
  step k false h false e = ap (λ xs. first ∷ xs) (sym (kept_all place rest h))
