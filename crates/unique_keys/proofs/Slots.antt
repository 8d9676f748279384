-- What is found at listed places is what is found among the notes.
use Rattle.std.proofs.Common.{◌≡◌, refl, sym, ◌∙◌, ap, subst, Bool, true, false, cond, not, ◌||◌, ◌==◌, ℕ, zero, suc, ◌<◌, ◌≤◌, List, [], ◌∷◌, ◌++◌, length, get_or, take, drop, reverse, set, eqb-true, eq-eqb, arith, ◌⊎◌, inl, inr}
use Rattle.std.specs.Prelude.{Option, Some, None, find}
use Rattle.std.specs.Option.{option_or}
use Rattle.std.specs.List.{list_any}
use Rattle.std.proofs.lemmas.List.{reverse-append}
use Rattle.std.proofs.lemmas.List.Folds.{find-append}
use Rattle.places.specs.Noted.{has_no_place_twice, has_place, without_last}
use Rattle.row_versions.specs.declared.names.TxId.{TxId}
use Rattle.row_versions.specs.Members.{same_tx}
use Rattle.unique_keys.specs.declared.noted.Noted.{Noted}
use Rattle.unique_keys.specs.Writes.{notes_without}
use Rattle.unique_keys.specs.Inner.Finding.{last_of}
use Rattle.unique_keys.specs.Inner.Slots.{at, kept, passes, Listed, Rises}
use Rattle.unique_keys.proofs.Quick.{or_left, or_right, alike}

-- a test that can't pass fails
pub fails : (b : Bool) → (b ≡ true → ⊥) → b ≡ false
fails true h = absurd (h refl)
fails false h = refl

pub true_or_false : (b : Bool) → b ≡ true → b ≡ false → ⊥
true_or_false true h k = cc
true_or_false false h k = cc

pub not_false : (b : Bool) → not b ≡ false → b ≡ true
not_false true h = refl
not_false false h = cc

pub or_none : (a b : Bool) → (a || b) ≡ false → (a ≡ false) × (b ≡ false)
or_none true b h = cc
or_none false b h = (refl, h)

-- what passes is a note
pub passes_some : (test : Noted → Bool) (o : Option Noted) → passes test o ≡ true → (w : Noted) × (o ≡ Some w) × (test w ≡ true)
passes_some test None h = cc
passes_some test (Some w) h = (w, refl, h)

pub some_passes : (test : Noted → Bool) (o : Option Noted) (w : Noted) → o ≡ Some w → test w ≡ true → passes test o ≡ true
some_passes test o w e h = ap (λ v. passes test v) e ∙ h

abbrev pub PassesAt : (Noted → Bool) → List (Option Noted) → Type 0
PassesAt test slots = (place : ℕ) × (passes test (at slots place) ≡ true)

pub exists_at : (test : Noted → Bool) (slots : List (Option Noted)) → list_any test (kept slots) ≡ true → PassesAt test slots
exists_at test [] h = cc
exists_at test (None ∷ slots) h = let r = exists_at test slots h in (suc r.0, r.1)
exists_at test (Some w ∷ slots) h = step (test w) refl h (λ k. exists_at test slots k) where
  step : (b : Bool) → test w ≡ b → (b || list_any test (kept slots)) ≡ true → (list_any test (kept slots) ≡ true → PassesAt test slots) → PassesAt test (Some w ∷ slots)
  step true e k others = (zero, e)
  step false e k others = let r = others k in (suc r.0, r.1)

pub any_at : (test : Noted → Bool) (slots : List (Option Noted)) (place : ℕ) → passes test (at slots place) ≡ true → list_any test (kept slots) ≡ true
any_at test [] place h = cc
any_at test (None ∷ slots) zero h = cc
any_at test (None ∷ slots) (suc place) h = any_at test slots place h
any_at test (Some w ∷ slots) zero h = or_left (test w) (list_any test (kept slots)) h
any_at test (Some w ∷ slots) (suc place) h = or_right (test w) (list_any test (kept slots)) (any_at test slots place h)

pub none_at : (test : Noted → Bool) (slots : List (Option Noted)) → list_any test (kept slots) ≡ false → (place : ℕ) → passes test (at slots place) ≡ false
none_at test slots n place = fails (passes test (at slots place)) (λ h. true_or_false (list_any test (kept slots)) (any_at test slots place h) n)

-- a test that a place of the list passes
pub here : (q : ℕ → Bool) (places : List ℕ) (p : ℕ) → has_place places p ≡ true → q p ≡ true → list_any q places ≡ true
here q [] p h k = cc
here q (x ∷ xs) p h k = step (x == p) refl h (λ t. here q xs p t k) where
  step : (b : Bool) → (x == p) ≡ b → (b || has_place xs p) ≡ true → (has_place xs p ≡ true → list_any q xs ≡ true) → (q x || list_any q xs) ≡ true
  step true e t others = or_left (q x) (list_any q xs) (subst (λ v. q v ≡ true) (sym (eqb-true x p e)) k)
  step false e t others = or_right (q x) (list_any q xs) (others t)

pub some_place : (q : ℕ → Bool) (places : List ℕ) → list_any q places ≡ true → (p : ℕ) × (q p ≡ true)
some_place q [] h = cc
some_place q (x ∷ xs) h = step (q x) refl h (λ k. some_place q xs k) where
  step : (b : Bool) → q x ≡ b → (b || list_any q xs) ≡ true → (list_any q xs ≡ true → (p : ℕ) × (q p ≡ true)) → (p : ℕ) × (q p ≡ true)
  step true e k others = (x, e)
  step false e k others = others k

-- a note among those at the listed places passes where any does
pub any_listed : (test : Noted → Bool) (slots : List (Option Noted)) (places : List ℕ) → Listed slots places test → list_any (λ p. passes test (at slots p)) places ≡ list_any test (kept slots)
any_listed test slots places listed = alike _ _ there back where
  there : list_any (λ p. passes test (at slots p)) places ≡ true → list_any test (kept slots) ≡ true
  there h = let r = some_place (λ p. passes test (at slots p)) places h in any_at test slots r.0 r.1

  back : list_any test (kept slots) ≡ true → list_any (λ p. passes test (at slots p)) places ≡ true
  back h = let r = exists_at test slots h in here (λ p. passes test (at slots p)) places r.0 (listed r.0 r.1) r.1

-- the first place whose note passes, and the last
pub find_at : (test : Noted → Bool) (slots : List (Option Noted)) (m : ℕ) → passes test (at slots m) ≡ true → ((k : ℕ) → k < m → passes test (at slots k) ≡ false) → find test (kept slots) ≡ at slots m
find_at test [] m h before = cc
find_at test (None ∷ slots) zero h before = cc
find_at test (None ∷ slots) (suc m) h before = find_at test slots m h (λ k l. before (suc k) (omega arith))
find_at test (Some w ∷ slots) zero h before = ap (λ b. cond b (Some w) (find test (kept slots))) h
find_at test (Some w ∷ slots) (suc m) h before =
    ap (λ b. cond b (Some w) (find test (kept slots))) (before zero (omega arith)) ∙ find_at test slots m h (λ k l. before (suc k) (omega arith))

pub find_none : (test : Noted → Bool) (ws : List Noted) → list_any test ws ≡ false → find test ws ≡ None
find_none test [] h = refl
find_none test (w ∷ ws) h = step (test w) h (find_none test ws) where
  step : (b : Bool) → (b || list_any test ws) ≡ false → (list_any test ws ≡ false → find test ws ≡ None) → cond b (Some w) (find test ws) ≡ None
  step true k others = cc
  step false k others = others k

last_cons : (test : Noted → Bool) (w : Noted) (ws : List Noted) → last_of test (w ∷ ws) ≡ option_or (last_of test ws) (cond (test w) (Some w) None)
last_cons test w ws = ap (λ v. find test v) (reverse-append (w ∷ []) ws) ∙ find-append test (reverse ws) (w ∷ [])

pub last_none : (test : Noted → Bool) (ws : List Noted) → list_any test ws ≡ false → last_of test ws ≡ None
last_none test [] h = refl
last_none test (w ∷ ws) h = last_cons test w ws ∙ step (test w) h (last_none test ws) where
  step : (b : Bool) → (b || list_any test ws) ≡ false → (list_any test ws ≡ false → last_of test ws ≡ None) → option_or (last_of test ws) (cond b (Some w) None) ≡ None
  step true k others = cc
  step false k others = ap (λ o. option_or o None) (others k)

or_some : (test : Noted → Bool) (o alt : Option Noted) → passes test o ≡ true → option_or o alt ≡ o
or_some test None alt h = cc
or_some test (Some w) alt h = refl

last_at : (test : Noted → Bool) (slots : List (Option Noted)) (m : ℕ) → passes test (at slots m) ≡ true → ((k : ℕ) → m < k → passes test (at slots k) ≡ false) → last_of test (kept slots) ≡ at slots m
last_at test [] m h after = cc
last_at test (None ∷ slots) zero h after = cc
last_at test (None ∷ slots) (suc m) h after = last_at test slots m h (λ k l. after (suc k) (omega arith))
last_at test (Some w ∷ slots) zero h after =
    last_cons test w (kept slots) ∙ ap (λ o. option_or o (cond (test w) (Some w) None)) (last_none test (kept slots) (fails (list_any test (kept slots)) none)) ∙ ap (λ b. cond b (Some w) None) h where
      none : list_any test (kept slots) ≡ true → ⊥
      none t = let r = exists_at test slots t in true_or_false (passes test (at slots r.0)) r.1 (after (suc r.0) (omega arith))
last_at test (Some w ∷ slots) (suc m) h after =
    last_cons test w (kept slots) ∙ ap (λ o. option_or o (cond (test w) (Some w) None)) (last_at test slots m h (λ k l. after (suc k) (omega arith)))
    ∙ or_some test (at slots m) (cond (test w) (Some w) None) h

-- of a list that rises, what is below a place stands before it, and what is above it behind it
has_get : (places : List ℕ) (i d : ℕ) → i < length places → has_place places (get_or places i d) ≡ true
has_get [] i d l = absurd (omega arith)
has_get (x ∷ xs) zero d l = or_left (x == x) (has_place xs x) (eq-eqb x x refl)
has_get (x ∷ xs) (suc i) d l = or_right (x == get_or xs i d) (has_place xs (get_or xs i d)) (has_get xs i d (omega arith))

below_earlier : (limit : ℕ) (places : List ℕ) (i d k : ℕ) → Rises limit places → i < length places → has_place places k ≡ true → k < get_or places i d → has_place (take i places) k ≡ true
below_earlier limit [] i d k r l h s = cc
below_earlier limit (x ∷ xs) zero d k r l h s = step (x == k) refl h where
  step : (b : Bool) → (x == k) ≡ b → (b || has_place xs k) ≡ true → false ≡ true
  step true e t = let same : x ≡ k = eqb-true x k e in absurd (omega arith)
  step false e t = let le : x ≤ k = r.1 k t in absurd (omega arith)
below_earlier limit (x ∷ xs) (suc i) d k r l h s = step (x == k) h (λ t. below_earlier limit xs i d k r.2 (omega arith) t s) where
  step : (b : Bool) → (b || has_place xs k) ≡ true → (has_place xs k ≡ true → has_place (take i xs) k ≡ true) → (b || has_place (take i xs) k) ≡ true
  step true t others = refl
  step false t others = others t

above_later : (limit : ℕ) (places : List ℕ) (i d k : ℕ) → Rises limit places → i < length places → has_place places k ≡ true → get_or places i d < k → has_place (drop (suc i) places) k ≡ true
above_later limit [] i d k r l h s = cc
above_later limit (x ∷ xs) zero d k r l h s = step (x == k) refl h where
  step : (b : Bool) → (x == k) ≡ b → (b || has_place xs k) ≡ true → has_place xs k ≡ true
  step true e t = let same : x ≡ k = eqb-true x k e in absurd (omega arith)
  step false e t = t
above_later limit (x ∷ xs) (suc i) d k r l h s = step (x == k) refl h (λ t. above_later limit xs i d k r.2 (omega arith) t s) where
  le : x ≤ get_or xs i d
  le = r.1 (get_or xs i d) (has_get xs i d (omega arith))

  step : (b : Bool) → (x == k) ≡ b → (b || has_place xs k) ≡ true → (has_place xs k ≡ true → has_place (drop (suc i) xs) k ≡ true) → has_place (drop (suc i) xs) k ≡ true
  step true e t others = let same : x ≡ k = eqb-true x k e in let first : x ≤ get_or xs i d = le in absurd (omega arith)
  step false e t others = others t

-- before the first of the listed places whose note passes no note does
pub first_at : (test : Noted → Bool) (slots : List (Option Noted)) (places : List ℕ) (limit i d : ℕ) → Rises limit places → Listed slots places test → i < length places
    → list_any (λ p. passes test (at slots p)) (take i places) ≡ false → (k : ℕ) → k < get_or places i d → passes test (at slots k) ≡ false
first_at test slots places limit i d r listed l none k s =
    fails (passes test (at slots k)) (λ e. true_or_false (list_any (λ p. passes test (at slots p)) (take i places))
    (here (λ p. passes test (at slots p)) (take i places) k (below_earlier limit places i d k r l (listed k e) s) e) none)

-- the last of the listed places whose note passes has the last note that does
pub last_found : (test : Noted → Bool) (slots : List (Option Noted)) (places : List ℕ) (limit i d : ℕ) → Rises limit places → Listed slots places test → i < length places
    → passes test (at slots (get_or places i d)) ≡ true → list_any (λ p. passes test (at slots p)) (drop (suc i) places) ≡ false → last_of test (kept slots) ≡ at slots (get_or places i d)
last_found test slots places limit i d r listed l h none = last_at test slots (get_or places i d) h later where
  later : (k : ℕ) → get_or places i d < k → passes test (at slots k) ≡ false
  later k s = fails (passes test (at slots k)) (λ e. true_or_false (list_any (λ p. passes test (at slots p)) (drop (suc i) places))
      (here (λ p. passes test (at slots p)) (drop (suc i) places) k (above_later limit places i d k r l (listed k e) s) e) none)

-- a list that rises does so with a place behind it, up to a higher limit, and without one
pub rises_on : (limit more : ℕ) (places : List ℕ) → limit ≤ more → Rises limit places → Rises more places
rises_on limit more [] l r = tt
rises_on limit more (x ∷ xs) l r = (omega (arith, r.0), r.1, rises_on limit more xs l r.2)

pub has_last : (places : List ℕ) (place p : ℕ) → has_place (places ++ place ∷ []) p ≡ (has_place places p || (place == p))
has_last [] place p = or_false (place == p) where
  or_false : (b : Bool) → (b || false) ≡ b
  or_false true = refl
  or_false false = refl
has_last (x ∷ xs) place p = step (x == p) (has_last xs place p) where
  step : (b : Bool) → has_place (xs ++ place ∷ []) p ≡ (has_place xs p || (place == p)) → (b || has_place (xs ++ place ∷ []) p) ≡ ((b || has_place xs p) || (place == p))
  step true e = refl
  step false e = e

pub keeps_pushed : (places : List ℕ) (place p : ℕ) → has_place places p ≡ true → has_place (places ++ place ∷ []) p ≡ true
keeps_pushed places place p h = has_last places place p ∙ or_left (has_place places p) (place == p) h

pub has_pushed : (places : List ℕ) (place : ℕ) → has_place (places ++ place ∷ []) place ≡ true
has_pushed places place = has_last places place place ∙ or_right (has_place places place) (place == place) (eq-eqb place place refl)

pub rises_pushed : (places : List ℕ) (place : ℕ) → Rises place places → Rises place (places ++ place ∷ [])
rises_pushed [] place r = (omega arith, λ later h. cc, tt)
rises_pushed (x ∷ xs) place r = (r.0, all, rises_pushed xs place r.2) where
  all : (later : ℕ) → has_place (xs ++ place ∷ []) later ≡ true → x ≤ later
  all later h = step (has_place xs later) (place == later) refl refl (sym (has_last xs place later) ∙ h) where
    step : (a b : Bool) → has_place xs later ≡ a → (place == later) ≡ b → (a || b) ≡ true → x ≤ later
    step true b e f t = r.1 later e
    step false true e f t = let same : place ≡ later = eqb-true place later f in let le : x ≤ place = r.0 in omega arith
    step false false e f t = cc

pub has_struck : (place : ℕ) (places : List ℕ) (p : ℕ) → has_place (without_last place places) p ≡ true → has_place places p ≡ true
has_struck place [] p h = h
has_struck place (x ∷ xs) p h = step (has_place xs place) (x == place) h (has_struck place xs p) where
  more : (c : Bool) → (c || has_place (without_last place xs) p) ≡ true → (has_place (without_last place xs) p ≡ true → has_place xs p ≡ true) → (c || has_place xs p) ≡ true
  more true t others = refl
  more false t others = others t

  step : (b a : Bool) → has_place (cond b (x ∷ without_last place xs) (cond a xs (x ∷ xs))) p ≡ true → (has_place (without_last place xs) p ≡ true → has_place xs p ≡ true)
      → ((x == p) || has_place xs p) ≡ true
  step true a t others = more (x == p) t others
  step false true t others = or_right (x == p) (has_place xs p) t
  step false false t others = t

pub keeps_struck : (place : ℕ) (places : List ℕ) (p : ℕ) → (p == place) ≡ false → has_place places p ≡ true → has_place (without_last place places) p ≡ true
keeps_struck place [] p n h = h
keeps_struck place (x ∷ xs) p n h = step (has_place xs place) (x == place) refl h (keeps_struck place xs p n) where
  more : (c : Bool) → (c || has_place xs p) ≡ true → (has_place xs p ≡ true → has_place (without_last place xs) p ≡ true) → (c || has_place (without_last place xs) p) ≡ true
  more true t others = refl
  more false t others = others t

  another : (c : Bool) → (x == p) ≡ c → (x == place) ≡ true → (c || has_place xs p) ≡ true → has_place xs p ≡ true
  another true e f t = let one : x ≡ p = eqb-true x p e in let two : x ≡ place = eqb-true x place f in absurd (true_or_false (p == place) (eq-eqb p place (sym one ∙ two)) n)
  another false e f t = t

  step : (b a : Bool) → (x == place) ≡ a → ((x == p) || has_place xs p) ≡ true → (has_place xs p ≡ true → has_place (without_last place xs) p ≡ true)
      → has_place (cond b (x ∷ without_last place xs) (cond a xs (x ∷ xs))) p ≡ true
  step true a e t others = more (x == p) t others
  step false true e t others = another (x == p) refl e t
  step false false e t others = t

-- no place comes twice where one is added that wasn't there, nor where one is struck
pub once_pushed : (places : List ℕ) (place : ℕ) → has_place places place ≡ false → has_no_place_twice places → has_no_place_twice (places ++ place ∷ [])
once_pushed [] place n d = (refl, tt)
once_pushed (x ∷ xs) place n d =
    let t = or_none (x == place) (has_place xs place) n in
    (has_last xs place x ∙ ap (λ b. b || (place == x)) d.0 ∙ fails (place == x) (λ e. true_or_false (x == place) (eq-eqb x place (sym (eqb-true place x e))) t.0), once_pushed xs place t.1 d.1)

pub once_struck : (place : ℕ) (places : List ℕ) → has_no_place_twice places → has_no_place_twice (without_last place places)
once_struck place [] d = tt
once_struck place (x ∷ xs) d = step (has_place xs place) (x == place) (once_struck place xs d.1) where
  step : (b a : Bool) → has_no_place_twice (without_last place xs) → has_no_place_twice (cond b (x ∷ without_last place xs) (cond a xs (x ∷ xs)))
  step true a rest = (fails (has_place (without_last place xs) x) (λ h. true_or_false (has_place xs x) (has_struck place xs x h) d.0), rest)
  step false true rest = d.1
  step false false rest = d

pub rises_struck : (place : ℕ) (places : List ℕ) (limit : ℕ) → Rises limit places → Rises limit (without_last place places)
rises_struck place [] limit r = tt
rises_struck place (x ∷ xs) limit r = step (has_place xs place) (x == place) (rises_struck place xs limit r.2) where
  step : (b a : Bool) → Rises limit (without_last place xs) → Rises limit (cond b (x ∷ without_last place xs) (cond a xs (x ∷ xs)))
  step true a rest = (r.0, λ later t. r.1 later (has_struck place xs later t), rest)
  step false true rest = r.2
  step false false rest = r

pub fewer_struck : (place : ℕ) (places : List ℕ) → has_place places place ≡ true → length (without_last place places) < length places
fewer_struck place [] h = cc
fewer_struck place (x ∷ xs) h = step (has_place xs place) (x == place) refl h (fewer_struck place xs) where
  step : (b a : Bool) → has_place xs place ≡ b → (a || b) ≡ true → (has_place xs place ≡ true → length (without_last place xs) < length xs)
      → length (cond b (x ∷ without_last place xs) (cond a xs (x ∷ xs))) < length (x ∷ xs)
  step true a e t others = let less : length (without_last place xs) < length xs = others e in omega arith
  step false true e t others = omega arith
  step false false e t others = cc

-- a slot that is emptied, and one that is added
pub at-set_other : (slots : List (Option Noted)) (place p : ℕ) → (p ≡ place → ⊥) → at (set slots place None) p ≡ at slots p
at-set_other [] place p n = refl
at-set_other (slot ∷ slots) zero zero n = absurd (n refl)
at-set_other (slot ∷ slots) zero (suc p) n = refl
at-set_other (slot ∷ slots) (suc place) zero n = refl
at-set_other (slot ∷ slots) (suc place) (suc p) n = at-set_other slots place p (λ e. n (ap suc e))

pub at-set_same : (slots : List (Option Noted)) (place : ℕ) → at (set slots place None) place ≡ None
at-set_same [] place = refl
at-set_same (slot ∷ slots) zero = refl
at-set_same (slot ∷ slots) (suc place) = at-set_same slots place

pub without_set : (tx : TxId) (slots : List (Option Noted)) (place : ℕ) → passes (λ w. same_tx w.tx tx) (at slots place) ≡ true
    → notes_without tx (kept (set slots place None)) ≡ notes_without tx (kept slots)
without_set tx [] place h = cc
without_set tx (None ∷ slots) zero h = cc
without_set tx (None ∷ slots) (suc place) h = without_set tx slots place h
without_set tx (Some w ∷ slots) zero h = sym (ap (λ b. cond (not b) (w ∷ notes_without tx (kept slots)) (notes_without tx (kept slots))) h)
without_set tx (Some w ∷ slots) (suc place) h = ap (λ v. cond (not (same_tx w.tx tx)) (w ∷ v) v) (without_set tx slots place h)

pub without_none : (tx : TxId) (ws : List Noted) → list_any (λ w. same_tx w.tx tx) ws ≡ false → notes_without tx ws ≡ ws
without_none tx [] h = refl
without_none tx (w ∷ ws) h = step (same_tx w.tx tx) h (without_none tx ws) where
  step : (b : Bool) → (b || list_any (λ v. same_tx v.tx tx) ws) ≡ false → (list_any (λ v. same_tx v.tx tx) ws ≡ false → notes_without tx ws ≡ ws)
      → cond (not b) (w ∷ notes_without tx ws) (notes_without tx ws) ≡ w ∷ ws
  step true k others = cc
  step false k others = ap (λ v. w ∷ v) (others k)

pub kept-push : (slots : List (Option Noted)) (w : Noted) → kept (slots ++ Some w ∷ []) ≡ kept slots ++ w ∷ []
kept-push [] w = refl
kept-push (None ∷ slots) w = kept-push slots w
kept-push (Some v ∷ slots) w = ap (λ vs. v ∷ vs) (kept-push slots w)

-- what stands in a list with a note behind it
pub at-push : (slots : List (Option Noted)) (w : Noted) (p : ℕ) (v : Noted) → at (slots ++ Some w ∷ []) p ≡ Some v → (at slots p ≡ Some v) ⊎ ((w ≡ v) × (p ≡ length slots))
at-push [] w zero v h = inr (same w v h, refl) where
  same : (a b : Noted) → Some a ≡ Some b → a ≡ b
  same a b e = cc
at-push [] w (suc p) v h = cc
at-push (slot ∷ slots) w zero v h = inl h
at-push (slot ∷ slots) w (suc p) v h = elim (at-push slots w p v h) [ inl e ↦ inl e | inr e ↦ inr (e.0, ap suc e.1) ]

pub any_slots : (test : Noted → Bool) (slots : List (Option Noted)) → list_any (passes test) slots ≡ list_any test (kept slots)
any_slots test [] = refl
any_slots test (None ∷ slots) = any_slots test slots
any_slots test (Some w ∷ slots) = ap (λ b. test w || b) (any_slots test slots)
