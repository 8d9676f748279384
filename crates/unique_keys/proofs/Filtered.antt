-- Tests that pass only what a filter keeps see the same in the filtered list.
use Rattle.std.proofs.Common.{◌≡◌, refl, sym, ◌∙◌, ap, Bool, true, false, cond, ◌||◌, List, [], ◌∷◌, reverse}
use Rattle.std.specs.Prelude.{Some, filter, find}
use Rattle.std.specs.List.{list_any}
use mathlib.Core.List.{reverse_aux}
use Rattle.unique_keys.specs.declared.noted.Noted.{Noted}
use Rattle.unique_keys.specs.Inner.Finding.{last_of}

false_test : (b : Bool) → (b ≡ true → false ≡ true) → b ≡ false
false_test true h = let k : false ≡ true = h refl in cc
false_test false h = refl

pub list_any-filter : (s p q : Noted → Bool) → ((w : Noted) → p w ≡ q w) → ((w : Noted) → q w ≡ true → s w ≡ true) → (ws : List Noted) → list_any p (filter s ws) ≡ list_any q ws
list_any-filter s p q same kept [] = refl
list_any-filter s p q same kept (w ∷ ws) = step (s w) (kept w) (list_any-filter s p q same kept ws) where
  step : (a : Bool) → (q w ≡ true → a ≡ true) → list_any p (filter s ws) ≡ list_any q ws → list_any p (cond a (w ∷ filter s ws) (filter s ws)) ≡ (q w || list_any q ws)
  step true k ih = ap (λ v. v || list_any p (filter s ws)) (same w) ∙ ap (λ v. q w || v) ih
  step false k ih = ih ∙ sym (ap (λ v. v || list_any q ws) (false_test (q w) k))

pub find-filter : (s p : Noted → Bool) → ((w : Noted) → p w ≡ true → s w ≡ true) → (ws : List Noted) → find p (filter s ws) ≡ find p ws
find-filter s p kept [] = refl
find-filter s p kept (w ∷ ws) = step (s w) (kept w) (find-filter s p kept ws) where
  step : (a : Bool) → (p w ≡ true → a ≡ true) → find p (filter s ws) ≡ find p ws → find p (cond a (w ∷ filter s ws) (filter s ws)) ≡ cond (p w) (Some w) (find p ws)
  step true k ih = ap (λ v. cond (p w) (Some w) v) ih
  step false k ih = ih ∙ sym (ap (λ v. cond v (Some w) (find p ws)) (false_test (p w) k))

-- the filters of tests that agree on what the first filter keeps
pub filter-filter : (s p q : Noted → Bool) → ((w : Noted) → s w ≡ true → p w ≡ q w) → ((w : Noted) → q w ≡ true → s w ≡ true) → (ws : List Noted) → filter p (filter s ws) ≡ filter q ws
filter-filter s p q same kept [] = refl
filter-filter s p q same kept (w ∷ ws) = step (s w) (same w) (kept w) (filter-filter s p q same kept ws) where
  step : (a : Bool) → (a ≡ true → p w ≡ q w) → (q w ≡ true → a ≡ true) → filter p (filter s ws) ≡ filter q ws
      → filter p (cond a (w ∷ filter s ws) (filter s ws)) ≡ cond (q w) (w ∷ filter q ws) (filter q ws)
  step true e k ih = ap (λ v. cond v (w ∷ filter p (filter s ws)) (filter p (filter s ws))) (e refl) ∙ ap (λ v. cond (q w) (w ∷ v) v) ih
  step false e k ih = ih ∙ sym (ap (λ v. cond v (w ∷ filter q ws) (filter q ws)) (false_test (q w) k))

filter-reverse_aux : (s : Noted → Bool) (ws behind : List Noted) → filter s (reverse_aux ws behind) ≡ reverse_aux (filter s ws) (filter s behind)
filter-reverse_aux s [] behind = refl
filter-reverse_aux s (w ∷ ws) behind = step (s w) (filter-reverse_aux s ws (w ∷ behind)) where
  step : (a : Bool) → filter s (reverse_aux ws (w ∷ behind)) ≡ reverse_aux (filter s ws) (cond a (w ∷ filter s behind) (filter s behind))
      → filter s (reverse_aux ws (w ∷ behind)) ≡ reverse_aux (cond a (w ∷ filter s ws) (filter s ws)) (filter s behind)
  step true ih = ih
  step false ih = ih

pub last_of-filter : (s p : Noted → Bool) → ((w : Noted) → p w ≡ true → s w ≡ true) → (ws : List Noted) → last_of p (filter s ws) ≡ last_of p ws
last_of-filter s p kept ws = ap (λ v. find p v) (sym (filter-reverse_aux s ws [])) ∙ find-filter s p kept (reverse ws)
