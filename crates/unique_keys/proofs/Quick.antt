-- A search that starts from the writes which have the key finds the same.
use Rattle.std.proofs.Common.{◌≡◌, refl, sym, ap, Bool, true, false, cond, ◌||◌, ◌&&◌, ◌==◌, ℕ, List, [], ◌∷◌, reverse, eqb-true, eq-eqb}
use Rattle.std.specs.Prelude.{Some, find}
use Rattle.std.specs.List.{list_any}
use mathlib.Core.List.{reverse_aux}
use Rattle.sql_values.specs.declared.value.Value.{Value}
use Rattle.row_versions.specs.declared.names.TxId.{TxId}
use Rattle.row_versions.specs.declared.names.RowId.{RowId}
use Rattle.unique_keys.specs.declared.noted.Noted.{Noted}
use Rattle.row_versions.specs.Members.{same_tx}
use Rattle.unique_keys.specs.Keys.{has_key}
use Rattle.unique_keys.specs.Inner.Finding.{last_of, version_has, is_committed_version, committed_has, own_has}

pub both : (a b : Bool) → (a && b) ≡ true → (a ≡ true) × (b ≡ true)
both true b h = (refl, h)
both false b h = cc

pub and : (a b : Bool) → a ≡ true → b ≡ true → (a && b) ≡ true
and true b h k = k
and false b h k = cc

pub or_left : (a b : Bool) → a ≡ true → (a || b) ≡ true
or_left true b h = refl
or_left false b h = cc

pub or_right : (a b : Bool) → b ≡ true → (a || b) ≡ true
or_right true b h = refl
or_right false b h = h

-- two tests that pass alike are the same
pub alike : (a b : Bool) → (a ≡ true → b ≡ true) → (b ≡ true → a ≡ true) → a ≡ b
alike true b there back = sym (there refl)
alike false true there back = back refl
alike false false there back = refl

-- what holds by any write that passes the test, and of which one can say that a test which it passes is passed by a write of the list, holds
pub by_any : (p : Noted → Bool) (b : Bool) (ws : List Noted) → ((w : Noted) → p w ≡ true → ((r : Noted → Bool) → r w ≡ true → list_any r ws ≡ true) → b ≡ true) → list_any p ws ≡ true → b ≡ true
by_any p b [] f h = cc
by_any p b (x ∷ xs) f h = step (p x) refl h (λ k. by_any p b xs (λ w m intro. f w m (λ r n. or_right (r x) (list_any r xs) (intro r n))) k) where
  step : (a : Bool) → p x ≡ a → (a || list_any p xs) ≡ true → (list_any p xs ≡ true → b ≡ true) → b ≡ true
  step true e k others = f x e (λ r m. or_left (r x) (list_any r xs) m)
  step false e k others = others k

any-reverse_aux : (p : Noted → Bool) (ws behind : List Noted) → list_any p (reverse_aux ws behind) ≡ true → (list_any p ws || list_any p behind) ≡ true
any-reverse_aux p [] behind h = h
any-reverse_aux p (w ∷ ws) behind h = step (p w) (list_any p ws) (list_any p behind) (any-reverse_aux p ws (w ∷ behind) h) where
  step : (a b c : Bool) → (b || (a || c)) ≡ true → ((a || b) || c) ≡ true
  step true b c k = refl
  step false b c k = k

-- the version that is found has the key, so some write that passes the test has it
find_has : (p : Noted → Bool) (columns : List ℕ) (asked : List Value) (ws : List Noted) → version_has columns asked (find p ws) ≡ true → list_any (λ v. p v && has_key columns asked v.values) ws ≡ true
find_has p columns asked [] h = cc
find_has p columns asked (w ∷ ws) h = step (p w) h (λ k. find_has p columns asked ws k) where
  step : (b : Bool) → version_has columns asked (cond b (Some w) (find p ws)) ≡ true → (version_has columns asked (find p ws) ≡ true → list_any (λ v. p v && has_key columns asked v.values) ws ≡ true)
      → ((b && has_key columns asked w.values) || list_any (λ v. p v && has_key columns asked v.values) ws) ≡ true
  step true k others = or_left (has_key columns asked w.values) (list_any (λ v. p v && has_key columns asked v.values) ws) k
  step false k others = others k

or_false : (b : Bool) → (b || false) ≡ true → b ≡ true
or_false true h = refl
or_false false h = h

last_has : (p : Noted → Bool) (columns : List ℕ) (asked : List Value) (ws : List Noted) → version_has columns asked (last_of p ws) ≡ true → list_any (λ v. p v && has_key columns asked v.values) ws ≡ true
last_has p columns asked ws h =
    or_false (list_any (λ v. p v && has_key columns asked v.values) ws) (any-reverse_aux (λ v. p v && has_key columns asked v.values) ws [] (find_has p columns asked (reverse ws) h))

pub row_is : (a b : RowId) → (a.0 == b.0) ≡ true → a ≡ b
row_is a b h = let mk : ℕ → RowId = λ n. record { 0 = n } in ap mk (eqb-true a.0 b.0 h)

-- where the row's newest committed version, or an own one, has the key, a write of the row has it
pub has_of_row : (committed : TxId → Bool) (ws : List Noted) (columns : List ℕ) (asked : List Value) (row : RowId) (u : TxId)
    → (committed_has committed ws columns asked row || own_has ws columns asked row u) ≡ true → list_any (λ v. has_key columns asked v.values && (row.0 == v.row.0)) ws ≡ true
has_of_row committed ws columns asked row u h = cases (committed_has committed ws columns asked row) refl h where
  here : (v : Noted) (k : Bool) → ((v.row.0 == row.0) && k) ≡ true → has_key columns asked v.values ≡ true → (has_key columns asked v.values && (row.0 == v.row.0)) ≡ true
  here v k e has = and (has_key columns asked v.values) (row.0 == v.row.0) has (eq-eqb row.0 v.row.0 (sym (eqb-true v.row.0 row.0 (both (v.row.0 == row.0) k e).0)))

  cases : (a : Bool) → committed_has committed ws columns asked row ≡ a → (a || own_has ws columns asked row u) ≡ true → list_any (λ v. has_key columns asked v.values && (row.0 == v.row.0)) ws ≡ true
  cases true e k =
      by_any (λ v. is_committed_version committed row v && has_key columns asked v.values) (list_any (λ v. has_key columns asked v.values && (row.0 == v.row.0)) ws) ws
      (λ v m intro. let p = both (is_committed_version committed row v) (has_key columns asked v.values) m in intro (λ x. has_key columns asked x.values && (row.0 == x.row.0)) (here v (committed v.tx) p.0 p.1))
      (last_has (is_committed_version committed row) columns asked ws e)
  cases false e k =
      by_any (λ v. ((v.row.0 == row.0) && same_tx v.tx u) && has_key columns asked v.values) (list_any (λ v. has_key columns asked v.values && (row.0 == v.row.0)) ws) ws
      (λ v m intro. let p = both ((v.row.0 == row.0) && same_tx v.tx u) (has_key columns asked v.values) m in intro (λ x. has_key columns asked x.values && (row.0 == x.row.0)) (here v (same_tx v.tx u) p.0 p.1))
      k
