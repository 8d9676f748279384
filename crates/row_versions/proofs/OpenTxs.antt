-- Which transactions are open, also after one more begin or end.
use Rattle.std.proofs.Common.{◌≡◌, ℕ, zero, suc, ◌+◌, ◌<◌, Bool, true, false, cond, not, ◌||◌, List, [], ◌∷◌, ◌++◌, length, map, filter, set, Some, slice_get, count_by, refl, sym, ◌∙◌, ap, subst, arith}
use Rattle.std.specs.List.{enumerate_from}
use Rattle.std.proofs.lemmas.Bool.{eq-eqb, ne_eqb}
use Rattle.std.proofs.lemmas.List.Sums.{sum_by-append}
use Rattle.row_versions.specs.declared.names.TxId.{TxId}
use Rattle.row_versions.specs.declared.write.Fate.{Fate}
use Rattle.row_versions.specs.declared.write.Fate.TheVariants.{Open}
use Rattle.row_versions.specs.Log.{open_in, is_commit, is_open, is_open_fate}
use Rattle.row_versions.specs.Members.{has, is_distinct, same_tx}

abbrev numbered : ℕ → TxId
numbered n = record { 0 = n }

abbrev entered : ℕ × Fate → TxId
entered e = record { 0 = e.0 }

-- those of the part of the fates that begins at the number
abbrev from : ℕ → List Fate → List TxId
from n fates = map entered (filter (λ e. is_open_fate (Some e.1)) (enumerate_from n fates))

begun_from : (n m : ℕ) (fates : List Fate) → m ≡ n + length fates → from n (fates ++ Open ∷ []) ≡ from n fates ++ numbered m ∷ []
begun_from n m [] e = let same : n ≡ m = omega arith in ap (λ k. numbered k ∷ []) same
begun_from n m (f ∷ fates) e = step (is_open_fate (Some f)) (begun_from (n + 1) m fates (omega arith)) where
  step : (b : Bool) → from (n + 1) (fates ++ Open ∷ []) ≡ from (n + 1) fates ++ numbered m ∷ []
      → map entered (cond b ((n, f) ∷ filter (λ e. is_open_fate (Some e.1)) (enumerate_from (n + 1) (fates ++ Open ∷ []))) (filter (λ e. is_open_fate (Some e.1)) (enumerate_from (n + 1) (fates ++ Open ∷ []))))
      ≡ map entered (cond b ((n, f) ∷ filter (λ e. is_open_fate (Some e.1)) (enumerate_from (n + 1) fates)) (filter (λ e. is_open_fate (Some e.1)) (enumerate_from (n + 1) fates))) ++ numbered m ∷ []
  step true so = ap (λ us. numbered n ∷ us) so
  step false so = so

-- the first of the fates, and those of the rest
abbrev listed : Bool → ℕ → List TxId → List TxId
listed b n rest = cond b (numbered n ∷ rest) rest

from_cons : (n : ℕ) (f : Fate) (fates : List Fate) → from n (f ∷ fates) ≡ listed (is_open_fate (Some f)) n (from (n + 1) fates)
from_cons n f fates = step (is_open_fate (Some f)) where
  step : (b : Bool) → map entered (cond b ((n, f) ∷ filter (λ e. is_open_fate (Some e.1)) (enumerate_from (n + 1) fates)) (filter (λ e. is_open_fate (Some e.1)) (enumerate_from (n + 1) fates))) ≡ listed b n (from (n + 1) fates)
  step true = refl
  step false = refl

none_below : (n : ℕ) (fates : List Fate) (u : TxId) → u.0 < n → has (from n fates) u ≡ false
none_below n [] u l = refl
none_below n (f ∷ fates) u l = ap (λ us. has us u) (from_cons n f fates) ∙ step (is_open_fate (Some f)) (none_below (n + 1) fates u (omega arith)) where
  step : (b : Bool) → has (from (n + 1) fates) u ≡ false → has (listed b n (from (n + 1) fates)) u ≡ false
  step true so = ap (λ b. b || has (from (n + 1) fates) u) (ne_eqb n u.0 (λ e. omega arith)) ∙ so
  step false so = so

has_from : (n m j : ℕ) (fates : List Fate) → m ≡ n + j → has (from n fates) (numbered m) ≡ is_open_fate (slice_get fates j)
has_from n m j [] e = refl
has_from n m zero (f ∷ fates) e = ap (λ us. has us (numbered m)) (from_cons n f fates) ∙ step (is_open_fate (Some f)) where
  step : (b : Bool) → has (listed b n (from (n + 1) fates)) (numbered m) ≡ b
  step true = ap (λ b. b || has (from (n + 1) fates) (numbered m)) (eq-eqb n m (omega arith))
  step false = none_below (n + 1) fates (numbered m) (omega arith)
has_from n m (suc j) (f ∷ fates) e = ap (λ us. has us (numbered m)) (from_cons n f fates) ∙ step (is_open_fate (Some f)) (has_from (n + 1) m j fates (omega arith)) where
  step : (b : Bool) → has (from (n + 1) fates) (numbered m) ≡ is_open_fate (slice_get fates j) → has (listed b n (from (n + 1) fates)) (numbered m) ≡ is_open_fate (slice_get fates j)
  step true so = ap (λ b. b || has (from (n + 1) fates) (numbered m)) (ne_eqb n m (λ k. omega arith)) ∙ so
  step false so = so

distinct_from : (n : ℕ) (fates : List Fate) → is_distinct (from n fates)
distinct_from n [] = tt
distinct_from n (f ∷ fates) = subst is_distinct (sym (from_cons n f fates)) (step (is_open_fate (Some f)) (distinct_from (n + 1) fates)) where
  step : (b : Bool) → is_distinct (from (n + 1) fates) → is_distinct (listed b n (from (n + 1) fates))
  step true so = (none_below (n + 1) fates (numbered n) (omega arith), so)
  step false so = so

-- whoever isn't there is left out without a change
none_left_out : (us : List TxId) (u : TxId) → has us u ≡ false → filter (λ other. not (same_tx other u)) us ≡ us
none_left_out [] u h = refl
none_left_out (t ∷ us) u h = step (same_tx t u) h (none_left_out us u) where
  step : (b : Bool) → (b || has us u) ≡ false → (has us u ≡ false → filter (λ other. not (same_tx other u)) us ≡ us)
      → cond (not b) (t ∷ filter (λ other. not (same_tx other u)) us) (filter (λ other. not (same_tx other u)) us) ≡ t ∷ us
  step true k others = cc
  step false k others = ap (λ v. t ∷ v) (others k)

ended_from : (n m j : ℕ) (fates : List Fate) (fate : Fate) → m ≡ n + j → slice_get fates j ≡ Some Open → is_open_fate (Some fate) ≡ false
    → filter (λ other. not (same_tx other (numbered m))) (from n fates) ≡ from n (set fates j fate)
ended_from n m j [] fate e at ended = cc
ended_from n m zero (f ∷ fates) fate e at ended =
    let rest = from (n + 1) fates in
    ap (filter (λ other. not (same_tx other (numbered m)))) (from_cons n f fates ∙ ap (λ b. listed b n rest) (ap is_open_fate at))
    ∙ ap (λ b. cond (not b) (numbered n ∷ filter (λ other. not (same_tx other (numbered m))) rest) (filter (λ other. not (same_tx other (numbered m))) rest)) (eq-eqb n m (omega arith))
    ∙ none_left_out rest (numbered m) (none_below (n + 1) fates (numbered m) (omega arith))
    ∙ sym (from_cons n fate fates ∙ ap (λ b. listed b n rest) ended)
ended_from n m (suc j) (f ∷ fates) fate e at ended =
    ap (filter (λ other. not (same_tx other (numbered m)))) (from_cons n f fates) ∙ step (is_open_fate (Some f)) (ended_from (n + 1) m j fates fate (omega arith) at ended) ∙ sym (from_cons n f (set fates j fate)) where
      step : (b : Bool) → filter (λ other. not (same_tx other (numbered m))) (from (n + 1) fates) ≡ from (n + 1) (set fates j fate)
          → filter (λ other. not (same_tx other (numbered m))) (listed b n (from (n + 1) fates)) ≡ listed b n (from (n + 1) (set fates j fate))
      step true so =
          ap (λ b. cond (not b) (numbered n ∷ filter (λ other. not (same_tx other (numbered m))) (from (n + 1) fates)) (filter (λ other. not (same_tx other (numbered m))) (from (n + 1) fates))) (ne_eqb n m (λ k. omega arith))
          ∙ ap (λ us. numbered n ∷ us) so
      step false so = so

-- a transaction that begins is the last
pub open-after_begin : (fates : List Fate) → open_in (fates ++ Open ∷ []) ≡ open_in fates ++ numbered (length fates) ∷ []
open-after_begin fates = begun_from 0 (length fates) fates (omega arith)

-- one that ends is left out
pub open-after_end : (fates : List Fate) (tx : TxId) (fate : Fate) → slice_get fates tx.0 ≡ Some Open → is_open_fate (Some fate) ≡ false
    → filter (λ other. not (same_tx other tx)) (open_in fates) ≡ open_in (set fates tx.0 fate)
open-after_end fates tx fate at ended = ended_from 0 tx.0 tx.0 fates fate (omega arith) at ended

-- listed is who is open, and nobody twice
pub has_open : (fates : List Fate) (u : TxId) → has (open_in fates) u ≡ is_open fates u
has_open fates u = has_from 0 u.0 u.0 fates (omega arith)

pub open_once : (fates : List Fate) → is_distinct (open_in fates)
open_once fates = distinct_from 0 fates

-- and no commit more is counted once a transaction has begun
pub count_begun : (fates : List Fate) → count_by is_commit (fates ++ Open ∷ []) ≡ count_by is_commit fates
count_begun fates = omega (arith, sum_by-append (λ f. cond (is_commit f) 1 0) fates (Open ∷ []))
