-- What a list has at a place after a change, and which locks are held after one more.
use Rattle.std.proofs.Common.{◌≡◌, ◌⊎◌, inl, inr, ⊎_elim, ℕ, zero, suc, Bool, true, false, not, cond, ◌||◌, List, [], ◌∷◌, ◌++◌, length, refl, sym, ap, ◌∙◌}
use Rattle.std.specs.Prelude.{Some, slice_get}
use Rattle.std.proofs.lemmas.List.Folds.{list_any-append}
use Rattle.row_locks.specs.declared.held.Held.{Held}
use Rattle.row_versions.specs.Members.{same_tx}
use Rattle.row_versions.specs.declared.names.TxId.{TxId}
use Rattle.row_versions.specs.declared.write.Write.{Write}
use Rattle.row_locks.specs.Held.{same_lock, holds, released, with_lock}
use Rattle.row_locks.proofs.Holding.{is_lock, lock_is}
use Rattle.row_locks.proofs.Cases.{or_cases, or_left, or_right}

-- the lock that was taken last is held
pub holds_last : (held : List Held) (h : Held) → holds (with_lock held h) h ≡ true
holds_last held h =
    list_any-append (λ (g : Held). same_lock g h) held (h ∷ [])
    ∙ or_right (holds held h) (same_lock h h || false) (or_left (same_lock h h) false (is_lock h))

-- and those before are
pub holds_before : (held : List Held) (l h : Held) → holds held h ≡ true → holds (with_lock held l) h ≡ true
holds_before held l h e = list_any-append (λ (g : Held). same_lock g h) held (l ∷ []) ∙ or_left (holds held h) (same_lock l h || false) e

same_write : (w v : Write) → Some w ≡ Some v → w ≡ v
same_write w v h = cc

-- what a longer log has at a place stood there, or is the last
pub get_more : (xs : List Write) (y : Write) (k : ℕ) (x : Write) → slice_get (xs ++ y ∷ []) k ≡ Some x → (slice_get xs k ≡ Some x) ⊎ ((k ≡ length xs) × (y ≡ x))
get_more [] y zero x h = inr (refl, same_write y x h)
get_more [] y (suc k) x h = cc
get_more (z ∷ zs) y zero x h = inl h
get_more (z ∷ zs) y (suc k) x h = ⊎_elim inl (λ m. inr (ap suc m.0, m.1)) (get_more zs y k x h)

false_not : false ≡ true → ⊥
false_not h = cc

-- a longer list of locks holds what it held, and the last
pub holds_more : (held : List Held) (l h : Held) → holds (with_lock held l) h ≡ true → (holds held h ≡ true) ⊎ (l ≡ h)
holds_more held l h e =
    ⊎_elim inl (λ k. ⊎_elim (λ m. inr (lock_is l h m)) (λ m. absurd (false_not m)) (or_cases (same_lock l h) false k))
    (or_cases (holds held h) (same_lock l h || false) (sym (list_any-append (λ (g : Held). same_lock g h) held (l ∷ [])) ∙ e))

-- and a shorter one nothing more
pub holds_released : (held : List Held) (x : TxId) (h : Held) → holds (released x held) h ≡ true → holds held h ≡ true
holds_released [] x h e = e
holds_released (g ∷ held) x h e = at (not (same_tx g.tx x)) (holds_released held x h) e where
  at : (b : Bool) → (holds (released x held) h ≡ true → holds held h ≡ true) → holds (cond b (g ∷ released x held) (released x held)) h ≡ true → (same_lock g h || holds held h) ≡ true
  at true on k = ⊎_elim (λ m. or_left (same_lock g h) (holds held h) m) (λ m. or_right (same_lock g h) (holds held h) (on m)) (or_cases (same_lock g h) (holds (released x held) h) k)
  at false on k = or_right (same_lock g h) (holds held h) (on k)
