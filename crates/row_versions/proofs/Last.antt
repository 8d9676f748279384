-- The newest version of a row, and the write that it comes from.
use Rattle.std.proofs.Common.{◌≡◌, ℕ, zero, suc, ◌+◌, ◌<◌, ◌≤◌, Bool, true, false, ◌||◌, cond, ◌==◌, ◌⊎◌, inl, inr, List, [], ◌∷◌, Option, Some, None, slice_get, refl, sym, ◌∙◌, ap, arith}
use Rattle.std.specs.Prelude.{find, option_map}
use Rattle.std.specs.List.{enumerate_from}
use Rattle.std.specs.Option.{option_or}
use mathlib.Core.List.{reverse_aux}
use Rattle.std.proofs.lemmas.Bool.{and_parts, and_from, or_cases, or_left, or_right, eqb-true, eq-eqb, both_ways, false_from_ne_true}
use Rattle.std.proofs.lemmas.Option.{same_Some, cond_some}
use Rattle.row_versions.specs.declared.names.TxId.{TxId}
use Rattle.row_versions.specs.declared.names.RowId.{RowId}
use Rattle.row_versions.specs.declared.write.Write.{Write}
use Rattle.row_versions.specs.declared.write.Seen.{Seen}
use Rattle.row_versions.specs.declared.write.Fate.{Fate}
use Rattle.row_versions.specs.Log.{Content, fate_of}
use Rattle.row_versions.specs.Newest.{newest_of}
use Rattle.row_versions.specs.Inner.Searching.{is_committed, is_version, newest_from}
use Rattle.row_versions.specs.Laws.{CountsFor, IsNewest, NewestIsTheLast}
use Rattle.row_versions.proofs.Seeing.{same_tx, same_row}

-- the newest version is found write by write
or_nothing : {X : Type 0} (o : Option X) → option_or o None ≡ o
or_nothing None = refl
or_nothing (Some x) = refl

abbrev seen_at : RowId → ℕ × Write → Seen
seen_at row e = record { row = row; place = e.0 }

found_from : (fates : List Fate) (row : RowId) (tx : TxId) (place : ℕ) (ws : List Write) (before : List (ℕ × Write))
    → option_map (seen_at row) (find (λ e. is_version fates row tx e.1) (reverse_aux (enumerate_from place ws) before))
    ≡ option_or (newest_from fates row tx place ws) (option_map (seen_at row) (find (λ e. is_version fates row tx e.1) before))
found_from fates row tx place [] before = refl
found_from fates row tx place (w ∷ later) before =
    found_from fates row tx (place + 1) later ((place, w) ∷ before)
    ∙ by (newest_from fates row tx (place + 1) later) (is_version fates row tx w) (find (λ e. is_version fates row tx e.1) before) where
      by : (o : Option Seen) (b : Bool) (rest : Option (ℕ × Write))
          → option_or o (option_map (seen_at row) (cond b (Some (place, w)) rest)) ≡ option_or (option_or o (cond b (Some (record { row = row; place = place })) None)) (option_map (seen_at row) rest)
      by (Some s) b rest = refl
      by None true rest = refl
      by None false rest = refl

pub newest_is : (c : Content) (row : RowId) (tx : TxId) → newest_of c row tx ≡ newest_from c.fates row tx 0 c.log
newest_is c row tx = found_from c.fates row tx 0 c.log [] ∙ or_nothing (newest_from c.fates row tx 0 c.log)

-- the version comes from the k-th write of the part of the log that begins at the place, and no later write is one
record IsLast (fates : List Fate) (row : RowId) (tx : TxId) (place : ℕ) (ws : List Write) (seen : Seen) : Type 0 where
  pub k : ℕ
  pub write : Write
  pub there : slice_get ws k ≡ Some write
  pub is : is_version fates row tx write ≡ true
  pub named : seen.row ≡ row
  pub its_place : seen.place ≡ place + k
  pub none : (j : ℕ) (w : Write) → k < j → slice_get ws j ≡ Some w → is_version fates row tx w ≡ false

abbrev NoneIn : List Fate → RowId → TxId → List Write → Type 0
NoneIn fates row tx ws = (j : ℕ) (w : Write) → slice_get ws j ≡ Some w → is_version fates row tx w ≡ false

or_some : {X : Type 0} (a b : Option X) (x : X) → option_or a b ≡ Some x → (a ≡ Some x) ⊎ ((a ≡ None) × (b ≡ Some x))
or_some None b x h = inr (refl, h)
or_some (Some y) b x h = inl h

or_none : {X : Type 0} (a b : Option X) → option_or a b ≡ None → (a ≡ None) × (b ≡ None)
or_none None b h = (refl, h)
or_none (Some y) b h = cc

cond_none : {X : Type 0} (b : Bool) (x : X) → (let none : Option X = None in cond b (Some x) none ≡ none) → b ≡ false
cond_none true x h = cc
cond_none false x h = refl

-- what there is none of
none_in : (fates : List Fate) (row : RowId) (tx : TxId) (place : ℕ) (ws : List Write) → newest_from fates row tx place ws ≡ None → NoneIn fates row tx ws
none_in fates row tx place [] h j w e = cc
none_in fates row tx place (v ∷ later) h zero w e =
    ap (is_version fates row tx) (sym (same_Some v w e)) ∙ cond_none _ (record { row = row; place = place }) (or_none (newest_from fates row tx (place + 1) later) _ h).1
none_in fates row tx place (v ∷ later) h (suc j) w e = none_in fates row tx (place + 1) later (or_none (newest_from fates row tx (place + 1) later) _ h).0 j w e

is_none : (fates : List Fate) (row : RowId) (tx : TxId) (place : ℕ) (ws : List Write) → NoneIn fates row tx ws → newest_from fates row tx place ws ≡ None
is_none fates row tx place [] h = refl
is_none fates row tx place (v ∷ later) h =
    let rest = is_none fates row tx (place + 1) later (λ j w e. h (suc j) w e) in
    let first = h 0 v refl in
    λ i. option_or (rest i) (cond (first i) (Some (record { row = row; place = place })) None)

-- what holds of each element of the rest from a place on holds past that place with one more element in front
after_cons : (P : Write → Type 0) (v : Write) (later : List Write) (k : ℕ) → ((j : ℕ) (w : Write) → k ≤ j → slice_get later j ≡ Some w → P w)
    → (j : ℕ) (w : Write) → k < j → slice_get (v ∷ later) j ≡ Some w → P w
after_cons P v later k h zero w after at = absurd (omega arith)
after_cons P v later k h (suc j) w after at = h j w (omega arith) at

-- what the last one is
last_later : (fates : List Fate) (row : RowId) (tx : TxId) (place : ℕ) (v : Write) (later : List Write) (seen : Seen)
    → IsLast fates row tx (place + 1) later seen → IsLast fates row tx place (v ∷ later) seen
last_later fates row tx place v later seen h = record {
  k = suc h.k;
  write = h.write;
  there = h.there;
  is = h.is;
  named = h.named;
  its_place = omega (arith, h.its_place);
  none = after_cons (λ w. is_version fates row tx w ≡ false) v later (suc h.k) (λ j w after at. h.none j w (omega arith) at);
}

last_first : (fates : List Fate) (row : RowId) (tx : TxId) (place : ℕ) (v : Write) (later : List Write) (seen : Seen) → NoneIn fates row tx later
    → cond (is_version fates row tx v) (Some (record { row = row; place = place })) None ≡ Some seen → IsLast fates row tx place (v ∷ later) seen
last_first fates row tx place v later seen none h =
    let parts = cond_some _ (record { row = row; place = place }) seen h in
    record {
      k = 0;
      write = v;
      there = refl;
      is = parts.0;
      named = sym (ap (λ (s : Seen). s.row) parts.1);
      its_place = let p : place ≡ seen.place = ap (λ (s : Seen). s.place) parts.1 in omega arith;
      none = after_cons (λ w. is_version fates row tx w ≡ false) v later 0 (λ j w after at. none j w at);
    }

last_of : (fates : List Fate) (row : RowId) (tx : TxId) (place : ℕ) (ws : List Write) (seen : Seen) → newest_from fates row tx place ws ≡ Some seen → IsLast fates row tx place ws seen
last_of fates row tx place [] seen h = cc
last_of fates row tx place (v ∷ later) seen h =
    elim (or_some (newest_from fates row tx (place + 1) later) _ seen h) [
      | inl rest ↦ last_later fates row tx place v later seen (last_of fates row tx (place + 1) later seen rest)
      | inr first ↦ last_first fates row tx place v later seen (none_in fates row tx (place + 1) later first.0) first.1
    ]

is_last : (fates : List Fate) (row : RowId) (tx : TxId) (place : ℕ) (ws : List Write) (seen : Seen) (k : ℕ) (write : Write) → slice_get ws k ≡ Some write
    → is_version fates row tx write ≡ true → row ≡ seen.row → place + k ≡ seen.place → ((j : ℕ) (w : Write) → k < j → slice_get ws j ≡ Some w → is_version fates row tx w ≡ false)
    → newest_from fates row tx place ws ≡ Some seen
is_last fates row tx place [] seen k write there is named its_place none = cc
is_last fates row tx place (v ∷ later) seen zero write there is named its_place none =
    let rest = is_none fates row tx (place + 1) later (λ j w e. none (suc j) w (omega arith) e) in
    let first = ap (is_version fates row tx) (same_Some v write there) ∙ is in
    let at : place ≡ seen.place = omega arith in
    λ i. option_or (rest i) (cond (first i) (Some (record { row = named i; place = at i })) None)
is_last fates row tx place (v ∷ later) seen (suc k) write there is named its_place none =
    let rest = is_last fates row tx (place + 1) later seen k write there is named (omega arith) (λ j w after e. none (suc j) w (omega arith) e) in
    ap (λ found. option_or found (cond (is_version fates row tx v) (Some (record { row = row; place = place })) None)) rest

-- a version of the row is a write of it that counts
counts_is : (c : Content) (tx : TxId) (w : Write) → (is_committed (fate_of c.fates w.tx) || (w.tx.0 == tx.0)) ≡ true → CountsFor c tx w
counts_is c tx w h = elim (or_cases _ _ h) [ inl commit ↦ inl commit | inr own ↦ inr (same_tx _ _ (eqb-true _ _ own)) ]

is_counting : (c : Content) (tx : TxId) (w : Write) → CountsFor c tx w → (is_committed (fate_of c.fates w.tx) || (w.tx.0 == tx.0)) ≡ true
is_counting c tx w h = elim h [ inl commit ↦ or_left _ _ commit | inr own ↦ or_right _ _ (eq-eqb _ _ (ap (λ (t : TxId). t.0) own)) ]

version_from : (c : Content) (row : RowId) (tx : TxId) (w : Write) → w.row ≡ row → CountsFor c tx w → is_version c.fates row tx w ≡ true
version_from c row tx w its counts = and_from _ _ (eq-eqb _ _ (ap (λ (r : RowId). r.0) its)) (is_counting c tx w counts)

no_version : (c : Content) (row : RowId) (tx : TxId) (w : Write) → (w.row ≡ row → ¬ CountsFor c tx w) → is_version c.fates row tx w ≡ false
no_version c row tx w h = false_from_ne_true _ (λ e. let parts = and_parts _ _ e in h (same_row _ _ (eqb-true _ _ parts.0)) (counts_is c tx w parts.1))

not_counting : (c : Content) (row : RowId) (tx : TxId) (w : Write) → is_version c.fates row tx w ≡ false → w.row ≡ row → ¬ CountsFor c tx w
not_counting c row tx w h its counts = both_ways _ h (version_from c row tx w its counts)

newest_from_law : (c : Content) (row : RowId) (tx : TxId) (seen : Seen) → newest_of c row tx ≡ Some seen → IsNewest c row tx seen
newest_from_law c row tx seen h =
    let last = last_of c.fates row tx 0 c.log seen (sym (newest_is c row tx) ∙ h) in
    let k_is : last.k ≡ seen.place = omega (arith, last.its_place) in
    let parts = and_parts _ _ last.is in
    record {
      write = last.write;
      there = ap (slice_get c.log) (sym k_is) ∙ last.there;
      its_row = same_row _ _ (eqb-true _ _ parts.0);
      named = last.named;
      counts = counts_is c tx last.write parts.1;
      last = λ later w after at its. not_counting c row tx w (last.none later w (omega arith) at) its;
    }

law_from_newest : (c : Content) (row : RowId) (tx : TxId) (seen : Seen) → IsNewest c row tx seen → newest_of c row tx ≡ Some seen
law_from_newest c row tx seen h =
    newest_is c row tx
    ∙ is_last c.fates row tx 0 c.log seen seen.place h.write h.there (version_from c row tx h.write h.its_row h.counts) (sym h.named) (omega arith)
    (λ j w after at. no_version c row tx w (h.last j w after at))

pub newest_is_the_last : NewestIsTheLast
newest_is_the_last c row tx = (
  (λ seen. (newest_from_law c row tx seen, law_from_newest c row tx seen)),
  (
    (λ h place w at its. not_counting c row tx w (none_in c.fates row tx 0 c.log (sym (newest_is c row tx) ∙ h) place w at) its),
    (λ h. newest_is c row tx ∙ is_none c.fates row tx 0 c.log (λ j w at. no_version c row tx w (h j w at))),
  ),
)
