-- The first note that takes a key, row after row.
use Rattle.std.proofs.Common.{◌≡◌, refl, sym, ◌∙◌, ap, subst, Bool, true, false, cond, ◌||◌, ◌&&◌, ◌==◌, ℕ, ◌+◌, ◌<◌, ◌≤◌, List, [], length, get_or, take, eqb-true, eq-eqb, arith}
use mathlib.Core.Path.{fun_ext}
use Rattle.std.specs.Prelude.{Option, Some, None, find, nat_lt, option_and_then}
use Rattle.std.specs.List.{list_any}
use Rattle.std.proofs.lemmas.Bool.{ltb-true, ltb-false}
use Rattle.std.proofs.lemmas.List.{take_all}
use Rattle.std.proofs.lemmas.List.Folds.{list_any_more}
use Rattle.places.specs.Noted.{has_place, noted}
use Rattle.sql_values.specs.declared.value.Value.{Value}
use Rattle.row_versions.specs.declared.names.TxId.{TxId}
use Rattle.row_versions.specs.declared.names.RowId.{RowId}
use Rattle.row_versions.specs.declared.names.TableId.{TableId}
use Rattle.unique_keys.specs.declared.noted.Noted.{Noted}
use Rattle.unique_keys.specs.declared.notes.Notes.{Notes}
use Rattle.unique_keys.specs.Keys.{has_key}
use Rattle.unique_keys.specs.Inner.Finding.{counts_for, gives, is_another, newest_has, row_noted, taker_among, takes, takes_by_row}
use Rattle.unique_keys.specs.Inner.Slots.{at, earlier, kept, passes, IsFirst, IsFirstAt, Listed, Rises}
use Rattle.unique_keys.specs.Inner.WellKept.{Leads, WellKept}
use Rattle.unique_keys.proofs.Quick.{alike, and, both, row_is}
use Rattle.unique_keys.proofs.Slots.{fails, true_or_false, passes_some, exists_at, find_at, find_none, first_at, here}
use Rattle.unique_keys.proofs.Places.{row_listed}
use Rattle.unique_keys.proofs.Leading.{taking_row}

first_alike : (s t : Noted → Bool) (slots : List (Option Noted)) (found : Option ℕ) → ((w : Noted) → s w ≡ t w) → IsFirst s slots found → IsFirst t slots found
first_alike s t slots found h f = subst (λ v. IsFirst v slots found) (fun_ext {f = s} {g = t} h) f

-- where neither passes, and where one does
neither : (s t : Noted → Bool) (o : Option Noted) → passes s o ≡ false → passes t o ≡ false → passes (λ w. s w || t w) o ≡ false
neither s t None h k = refl
neither s t (Some w) h k = ap (λ b. b || t w) h ∙ k

one_or : (s t : Noted → Bool) (o : Option Noted) → passes s o ≡ true → passes (λ w. s w || t w) o ≡ true
one_or s t None h = cc
one_or s t (Some w) h = ap (λ b. b || t w) h

or_other : (s t : Noted → Bool) (o : Option Noted) → passes t o ≡ true → passes (λ w. s w || t w) o ≡ true
or_other s t None h = cc
or_other s t (Some w) h = step (s w) where
  step : (b : Bool) → (b || t w) ≡ true
  step true = refl
  step false = h

-- the first of two firsts is the first that passes either test
first_of_both : (s t : Noted → Bool) (slots : List (Option Noted)) (a b : Option ℕ) → IsFirst s slots a → IsFirst t slots b → IsFirst (λ w. s w || t w) slots (earlier a b)
first_of_both s t slots None None f g = λ k. neither s t (at slots k) (f k) (g k)
first_of_both s t slots None (Some b) f g = record { there = or_other s t (at slots b) g.there; none_before = λ k l. neither s t (at slots k) (f k) (g.none_before k l) }
first_of_both s t slots (Some a) None f g = record { there = one_or s t (at slots a) f.there; none_before = λ k l. neither s t (at slots k) (f.none_before k l) (g k) }
first_of_both s t slots (Some a) (Some b) f g = step (nat_lt b a) refl where
  step : (c : Bool) → nat_lt b a ≡ c → IsFirstAt (λ w. s w || t w) slots (cond c b a)
  step true e =
      let less : b < a = ltb-true b a e in
      record { there = or_other s t (at slots b) g.there; none_before = λ k l. neither s t (at slots k) (f.none_before k (omega arith)) (g.none_before k l) }
  step false e =
      let most : a ≤ b = ltb-false b a e in
      record { there = one_or s t (at slots a) f.there; none_before = λ k l. neither s t (at slots k) (f.none_before k l) (g.none_before k (omega arith)) }

-- of the rows so far
abbrev pub takes_among : (TxId → Bool) → List Noted → TableId → TxId → Option RowId → List Value → List ℕ → List ℕ → Noted → Bool
takes_among committed ws table tx except asked columns rows w = has_place rows w.row.0 && takes committed ws table tx except asked columns w

pub among_none : (committed : TxId → Bool) (slots : List (Option Noted)) (table : TableId) (tx : TxId) (except : Option RowId) (asked : List Value) (columns : List ℕ)
    → IsFirst (takes_among committed (kept slots) table tx except asked columns []) slots None
among_none committed slots table tx except asked columns = λ k. none (at slots k) where
  none : (o : Option Noted) → passes (λ w. false) o ≡ false
  none None = refl
  none (Some w) = refl

distribute : (a b t : Bool) → ((a && t) || (b && t)) ≡ ((a || b) && t)
distribute true b true = refl
distribute true true false = refl
distribute true false false = refl
distribute false b t = refl

eqb_comm : (a b : ℕ) → (a == b) ≡ (b == a)
eqb_comm a b = alike (a == b) (b == a) (λ e. eq-eqb b a (sym (eqb-true a b e))) (λ e. eq-eqb a b (sym (eqb-true b a e)))

-- one row more
pub among_more : (committed : TxId → Bool) (slots : List (Option Noted)) (table : TableId) (tx : TxId) (except : Option RowId) (asked : List Value) (columns rows : List ℕ) (i : ℕ) (first place after : Option ℕ)
    → i < length rows → IsFirst (takes_among committed (kept slots) table tx except asked columns (take i rows)) slots first
    → IsFirst (takes_by_row committed (kept slots) table tx except asked columns (record { 0 = get_or rows i 0 })) slots place → after ≡ earlier first place
    → IsFirst (takes_among committed (kept slots) table tx except asked columns (take (i + 1) rows)) slots after
among_more committed slots table tx except asked columns rows i first place after l f g e =
    let s = takes_among committed (kept slots) table tx except asked columns (take i rows) in
    let t = takes_by_row committed (kept slots) table tx except asked columns (record { 0 = get_or rows i 0 }) in
    subst (λ o. IsFirst (takes_among committed (kept slots) table tx except asked columns (take (i + 1) rows)) slots o) (sym e)
    (first_alike (λ w. s w || t w) (takes_among committed (kept slots) table tx except asked columns (take (i + 1) rows)) slots (earlier first place) same (first_of_both s t slots first place f g)) where
      same : (w : Noted)
          → (takes_among committed (kept slots) table tx except asked columns (take i rows) w || takes_by_row committed (kept slots) table tx except asked columns (record { 0 = get_or rows i 0 }) w)
          ≡ takes_among committed (kept slots) table tx except asked columns (take (i + 1) rows) w
      same w =
          distribute (has_place (take i rows) w.row.0) (w.row.0 == get_or rows i 0) (takes committed (kept slots) table tx except asked columns w)
          ∙ ap (λ b. (has_place (take i rows) w.row.0 || b) && takes committed (kept slots) table tx except asked columns w) (eqb_comm w.row.0 (get_or rows i 0))
          ∙ ap (λ b. b && takes committed (kept slots) table tx except asked columns w) (sym (list_any_more (λ other. other == w.row.0) rows i 0 l))

-- the first of a list of places that rises
pub first_listed : (test : Noted → Bool) (slots : List (Option Noted)) (places : List ℕ) (limit i : ℕ) → Rises limit places → Listed slots places test → i < length places
    → passes test (at slots (get_or places i 0)) ≡ true → list_any (λ p. passes test (at slots p)) (take i places) ≡ false → IsFirstAt test slots (get_or places i 0)
first_listed test slots places limit i r listed l h none = record { there = h; none_before = first_at test slots places limit i 0 r listed l none }

pub none_listed : (test : Noted → Bool) (slots : List (Option Noted)) (places : List ℕ) (i : ℕ) → Listed slots places test → length places ≤ i
    → list_any (λ p. passes test (at slots p)) (take i places) ≡ false → (k : ℕ) → passes test (at slots k) ≡ false
none_listed test slots places i listed l none k =
    fails (passes test (at slots k)) (λ h. true_or_false (list_any (λ p. passes test (at slots p)) places) (here (λ p. passes test (at slots p)) places k (listed k h) h)
    (subst (λ v. list_any (λ p. passes test (at slots p)) v ≡ false) (take_all i places l) none))

-- a row that is another one, and has the key still, takes it by the notes that gave it
gives_is : (committed : TxId → Bool) (ws : List Noted) (table : TableId) (tx : TxId) (except : Option RowId) (asked : List Value) (columns : List ℕ) (row : RowId) → is_another except row ≡ true
    → newest_has committed ws columns asked row tx ≡ true → (w : Noted) → gives committed table tx asked columns row w ≡ takes_by_row committed ws table tx except asked columns row w
gives_is committed ws table tx except asked columns row other still w = step (w.row.0 == row.0) refl where
  whole : (t g a n : Bool) → a ≡ true → n ≡ true → (t && g) ≡ ((t && (a && g)) && n)
  whole true true true true e f = refl
  whole true false true true e f = refl
  whole false g true true e f = refl
  whole t g true false e f = cc
  whole t g false n e f = cc

  step : (b : Bool) → (w.row.0 == row.0) ≡ b → (b && ((w.table.0 == table.0) && (counts_for committed tx w && has_key columns asked w.values))) ≡ (b && takes committed ws table tx except asked columns w)
  step true e =
      let same : w.row ≡ row = row_is w.row row e in
      whole (w.table.0 == table.0) (counts_for committed tx w && has_key columns asked w.values) (is_another except w.row) (newest_has committed ws columns asked w.row tx)
      (ap (is_another except) same ∙ other) (ap (λ r. newest_has committed ws columns asked r tx) same ∙ still)
  step false e = refl

of_row : (committed : TxId → Bool) (table : TableId) (tx : TxId) (asked : List Value) (columns : List ℕ) (row : RowId) (w : Noted) → gives committed table tx asked columns row w ≡ true → (w.row.0 == row.0) ≡ true
of_row committed table tx asked columns row w h = (both (w.row.0 == row.0) ((w.table.0 == table.0) && (counts_for committed tx w && has_key columns asked w.values)) h).0

gives_listed : (n : Notes) (committed : TxId → Bool) (table : TableId) (tx : TxId) (asked : List Value) (columns : List ℕ) (row : RowId) (places : List ℕ) → WellKept n → places ≡ noted n.by_row row.0
    → Listed n.slots.items places (gives committed table tx asked columns row)
gives_listed n committed table tx asked columns row places well e =
    subst (λ l. Listed n.slots.items l (gives committed table tx asked columns row)) (sym e) (row_listed n row (gives committed table tx asked columns row) well (of_row committed table tx asked columns row))

-- where it was first given the key
pub first_given : (n : Notes) (committed : TxId → Bool) (table : TableId) (tx : TxId) (except : Option RowId) (asked : List Value) (columns : List ℕ) (row : RowId) (places : List ℕ) (i : ℕ) → WellKept n
    → places ≡ noted n.by_row row.0 → is_another except row ≡ true → newest_has committed (kept n.slots.items) columns asked row tx ≡ true → i < length places
    → passes (gives committed table tx asked columns row) (at n.slots.items (get_or places i 0)) ≡ true
    → list_any (λ p. passes (gives committed table tx asked columns row) (at n.slots.items p)) (take i places) ≡ false
    → IsFirst (takes_by_row committed (kept n.slots.items) table tx except asked columns row) n.slots.items (Some (get_or places i 0))
first_given n committed table tx except asked columns row places i well e other still l h none =
    first_alike (gives committed table tx asked columns row) (takes_by_row committed (kept n.slots.items) table tx except asked columns row) n.slots.items (Some (get_or places i 0))
    (gives_is committed (kept n.slots.items) table tx except asked columns row other still)
    (first_listed (gives committed table tx asked columns row) n.slots.items places (length n.slots.items) i (subst (λ v. Rises (length n.slots.items) v) (sym e) (well.rows_rise row.0))
    (gives_listed n committed table tx asked columns row places well e) l h none)

pub never_given : (n : Notes) (committed : TxId → Bool) (table : TableId) (tx : TxId) (except : Option RowId) (asked : List Value) (columns : List ℕ) (row : RowId) (places : List ℕ) (i : ℕ) → WellKept n
    → places ≡ noted n.by_row row.0 → is_another except row ≡ true → newest_has committed (kept n.slots.items) columns asked row tx ≡ true → length places ≤ i
    → list_any (λ p. passes (gives committed table tx asked columns row) (at n.slots.items p)) (take i places) ≡ false
    → IsFirst (takes_by_row committed (kept n.slots.items) table tx except asked columns row) n.slots.items None
never_given n committed table tx except asked columns row places i well e other still l none =
    first_alike (gives committed table tx asked columns row) (takes_by_row committed (kept n.slots.items) table tx except asked columns row) n.slots.items None
    (gives_is committed (kept n.slots.items) table tx except asked columns row other still)
    (none_listed (gives committed table tx asked columns row) n.slots.items places i (gives_listed n committed table tx asked columns row places well e) l none)

-- the row that is left aside takes nothing, nor one that hasn't the key any more
pub takes_nothing : (slots : List (Option Noted)) (committed : TxId → Bool) (table : TableId) (tx : TxId) (except : Option RowId) (asked : List Value) (columns : List ℕ) (row : RowId)
    → (is_another except row && newest_has committed (kept slots) columns asked row tx) ≡ false → IsFirst (takes_by_row committed (kept slots) table tx except asked columns row) slots None
takes_nothing slots committed table tx except asked columns row gone = λ k. none (at slots k) where
  part : (t a g n : Bool) → (a && n) ≡ false → ((t && (a && g)) && n) ≡ false
  part true true true n h = h
  part true true false n h = refl
  part true false g n h = refl
  part false a g n h = refl

  one : (w : Noted) → takes_by_row committed (kept slots) table tx except asked columns row w ≡ false
  one w = step (w.row.0 == row.0) refl where
    step : (b : Bool) → (w.row.0 == row.0) ≡ b → (b && takes committed (kept slots) table tx except asked columns w) ≡ false
    step true e =
        let same : w.row ≡ row = row_is w.row row e in
        part (w.table.0 == table.0) (is_another except w.row) (counts_for committed tx w && has_key columns asked w.values) (newest_has committed (kept slots) columns asked w.row tx)
        (ap (λ r. is_another except r && newest_has committed (kept slots) columns asked r tx) same ∙ gone)
    step false e = refl

  none : (o : Option Noted) → passes (takes_by_row committed (kept slots) table tx except asked columns row) o ≡ false
  none None = refl
  none (Some w) = one w

-- the first note of any row that takes the key is the first of the candidates' that does
all_rows : (committed : TxId → Bool) (slots : List (Option Noted)) (table : TableId) (tx : TxId) (except : Option RowId) (asked : List Value) (columns candidates : List ℕ) → Leads slots candidates table columns asked
    → (place : ℕ) → passes (takes_among committed (kept slots) table tx except asked columns candidates) (at slots place) ≡ false → passes (takes committed (kept slots) table tx except asked columns) (at slots place) ≡ false
all_rows committed slots table tx except asked columns candidates leads place h =
    fails (passes (takes committed (kept slots) table tx except asked columns) (at slots place)) (λ t.
    let s = passes_some (takes committed (kept slots) table tx except asked columns) (at slots place) t in
    true_or_false (passes (takes_among committed (kept slots) table tx except asked columns candidates) (at slots place))
    (ap (passes (takes_among committed (kept slots) table tx except asked columns candidates)) s.1
    ∙ and (has_place candidates s.0.row.0) (takes committed (kept slots) table tx except asked columns s.0) (taking_row committed slots candidates table tx except asked columns leads place s.0 s.1 s.2) s.2)
    h)

pub taker_is_first : (committed : TxId → Bool) (slots : List (Option Noted)) (table : TableId) (tx : TxId) (except : Option RowId) (asked : List Value) (columns candidates : List ℕ) (i : ℕ) (first : Option ℕ)
    → Leads slots candidates table columns asked → length candidates ≤ i → IsFirst (takes_among committed (kept slots) table tx except asked columns (take i candidates)) slots first
    → row_noted (option_and_then (λ place. at slots place) first) ≡ taker_among committed (kept slots) table tx except asked columns
taker_is_first committed slots table tx except asked columns candidates i first leads l f =
    ap row_noted (sym (found first (subst (λ rows. IsFirst (takes_among committed (kept slots) table tx except asked columns rows) slots first) (take_all i candidates l) f))) where
      test : Noted → Bool
      test = takes committed (kept slots) table tx except asked columns

      found : (o : Option ℕ) → IsFirst (takes_among committed (kept slots) table tx except asked columns candidates) slots o → find test (kept slots) ≡ option_and_then (λ place. at slots place) o
      found None g = find_none test (kept slots) (fails (list_any test (kept slots)) (λ t. let r = exists_at test slots t in
          true_or_false (passes test (at slots r.0)) r.1 (all_rows committed slots table tx except asked columns candidates leads r.0 (g r.0))))
      found (Some place) g =
          let s = passes_some (takes_among committed (kept slots) table tx except asked columns candidates) (at slots place) g.there in
          find_at test slots place (ap (passes test) s.1 ∙ (both (has_place candidates s.0.row.0) (test s.0) s.2).1)
          (λ k b. all_rows committed slots table tx except asked columns candidates leads k (g.none_before k b))
