-- What is listed stays listed where the notes and their lists change.
use Rattle.std.proofs.Common.{◌≡◌, refl, sym, ◌∙◌, ap, subst, Bool, true, false, not, ◌||◌, ◌&&◌, ◌==◌, ℕ, ◌<◌, suc, List, [], ◌∷◌, ◌++◌, length, get_or, drop, set, eqb-true, eq-eqb, arith, length-set, inl, inr}
use Rattle.std.specs.Prelude.{Option, Some, None, Result, Ok, Err, OnOk, OnErr}
use Rattle.std.specs.Option.{option_map_or}
use Rattle.std.specs.List.{list_any, list_all}
use Rattle.std.proofs.lemmas.List.{length_push}
use Rattle.std.proofs.lemmas.List.Folds.{list_any-append, list_all-append}
use Rattle.places.specs.declared.places.Places.{Places}
use Rattle.places.specs.Noted.{has_no_place_twice, has_place, noted, without_last}
use Rattle.row_versions.specs.declared.names.TxId.{TxId}
use Rattle.row_versions.specs.declared.names.RowId.{RowId}
use Rattle.row_versions.specs.declared.names.TableId.{TableId}
use Rattle.row_versions.specs.Members.{same_tx}
use Rattle.unique_keys.specs.declared.noted.Noted.{Noted}
use Rattle.unique_keys.specs.declared.notes.Notes.{Notes}
use Rattle.unique_keys.specs.declared.known.KnownKey.{KnownKey}
use Rattle.unique_keys.specs.Inner.Codes.{note_code}
use Rattle.unique_keys.specs.Inner.Finding.{last_of}
use Rattle.unique_keys.specs.Inner.Slots.{at, is_elsewhere, kept, passes, Listed, Rises}
use Rattle.unique_keys.specs.Inner.Listing.{GrownList, Grown, ShrunkList, Shrunk, AreOnce, KeepsRows, is_coded}
use Rattle.unique_keys.specs.Inner.WellKept.{AreAll, IsListed, WellKept}
use Rattle.unique_keys.proofs.Quick.{both, alike}
use Rattle.unique_keys.proofs.Slots.{fails, true_or_false, passes_some, some_passes, exists_at, any_at, none_at, any_listed, last_found, rises_on, rises_pushed, keeps_pushed, has_struck, once_pushed, once_struck, keeps_struck, rises_struck, at-set_other, at-set_same, kept-push, at-push}

-- a list that stays, one with a place more, and one with a place less
pub grown_same : (place : ℕ) (old new : List ℕ) → new ≡ old → GrownList place old new
grown_same place old new e = record {
  once = λ n d. subst (λ v. has_no_place_twice v) (sym e) d;
  keeps = λ p h. ap (λ v. has_place v p) e ∙ h;
  rises = λ r. subst (λ v. Rises place v) (sym e) r;
}

pub grown_pushed : (place : ℕ) (old new : List ℕ) → new ≡ old ++ place ∷ [] → GrownList place old new
grown_pushed place old new e = record {
  once = λ n d. subst (λ v. has_no_place_twice v) (sym e) (once_pushed old place n d);
  keeps = λ p h. ap (λ v. has_place v p) e ∙ keeps_pushed old place p h;
  rises = λ r. subst (λ v. Rises place v) (sym e) (rises_pushed old place r);
}

pub shrunk_same : (place : ℕ) (old new : List ℕ) → new ≡ old → ShrunkList place old new
shrunk_same place old new e = record {
  once = λ d. subst (λ v. has_no_place_twice v) (sym e) d;
  keeps = λ p n h. ap (λ v. has_place v p) e ∙ h;
  only = λ p h. sym (ap (λ v. has_place v p) e) ∙ h;
  rises = λ limit r. subst (λ v. Rises limit v) (sym e) r;
}

pub shrunk_struck : (place : ℕ) (old new : List ℕ) → new ≡ without_last place old → ShrunkList place old new
shrunk_struck place old new e = record {
  once = λ d. subst (λ v. has_no_place_twice v) (sym e) (once_struck place old d);
  keeps = λ p n h. ap (λ v. has_place v p) e ∙ keeps_struck place old p n h;
  only = λ p h. has_struck place old p (sym (ap (λ v. has_place v p) e) ∙ h);
  rises = λ limit r. subst (λ v. Rises limit v) (sym e) (rises_struck place old limit r);
}

pub shrunk_more : (place : ℕ) (a b c : List ℕ) → ShrunkList place a b → ShrunkList place b c → ShrunkList place a c
shrunk_more place a b c f g = record {
  once = λ d. g.once (f.once d);
  keeps = λ p n h. g.keeps p n (f.keeps p n h);
  only = λ p h. f.only p (g.only p h);
  rises = λ limit r. g.rises limit (f.rises limit r);
}

-- in a map, where one number's list is changed and the others stay
at_number : (P : List ℕ → List ℕ → Type 0) (old new : Places) (number : ℕ) → P (noted old number) (noted new number)
    → ((other : ℕ) → (other == number) ≡ false → P (noted old other) (noted new other)) → (other : ℕ) → P (noted old other) (noted new other)
at_number P old new number one others other = step (other == number) refl where
  step : (b : Bool) → (other == number) ≡ b → P (noted old other) (noted new other)
  step true e = subst (λ n. P (noted old n) (noted new n)) (sym (eqb-true other number e)) one
  step false e = others other e

pub grown_at : (place : ℕ) (old new : Places) (number : ℕ) → noted new number ≡ noted old number ++ place ∷ [] → ((other : ℕ) → (other == number) ≡ false → noted new other ≡ noted old other)
    → Grown place old new
grown_at place old new number e others =
    at_number (GrownList place) old new number (grown_pushed place (noted old number) (noted new number) e) (λ other n. grown_same place (noted old other) (noted new other) (others other n))

pub shrunk_at : (place : ℕ) (old new : Places) (number : ℕ) → noted new number ≡ without_last place (noted old number) → ((other : ℕ) → (other == number) ≡ false → noted new other ≡ noted old other)
    → Shrunk place old new
shrunk_at place old new number e others =
    at_number (ShrunkList place) old new number (shrunk_struck place (noted old number) (noted new number) e) (λ other n. shrunk_same place (noted old other) (noted new other) (others other n))

-- a note whose row is listed for its codes stays so
mapped : (f g : ℕ → Bool) → ((code : ℕ) → f code ≡ true → g code ≡ true) → (o : Option ℕ) → option_map_or f o true ≡ true → option_map_or g o true ≡ true
mapped f g h None t = refl
mapped f g h (Some code) t = h code t

or_mapped : (a b c : Bool) → (b ≡ true → c ≡ true) → (a || b) ≡ true → (a || c) ≡ true
or_mapped true b c h t = refl
or_mapped false b c h t = h t

abbrev pub HasRowOn : ℕ → Places → Places → Type 0
HasRowOn row old new = (code : ℕ) → has_place (noted old code) row ≡ true → has_place (noted new code) row ≡ true

coded_on : (w : Noted) (old new : Places) → HasRowOn w.row.0 old new → (key : KnownKey) → is_coded w old key ≡ true → is_coded w new key ≡ true
coded_on w old new h key t =
    or_mapped (not (w.table.0 == key.table.0)) (option_map_or (λ code. has_place (noted old code) w.row.0) (note_code key w) true) (option_map_or (λ code. has_place (noted new code) w.row.0) (note_code key w) true)
    (mapped (λ code. has_place (noted old code) w.row.0) (λ code. has_place (noted new code) w.row.0) h (note_code key w)) t

all_on : (f g : KnownKey → Bool) → ((key : KnownKey) → f key ≡ true → g key ≡ true) → (keys : List KnownKey) → list_all f keys ≡ true → list_all g keys ≡ true
all_on f g h [] t = refl
all_on f g h (key ∷ keys) t = step (f key) refl t (all_on f g h keys) where
  step : (b : Bool) → f key ≡ b → (b && list_all f keys) ≡ true → (list_all f keys ≡ true → list_all g keys ≡ true) → (g key && list_all g keys) ≡ true
  step true e k others = ap (λ v. v && list_all g keys) (h key e) ∙ others k
  step false e k others = cc

pub all_coded_on : (w : Noted) (old new : Places) → HasRowOn w.row.0 old new → (keys : List KnownKey) → list_all (is_coded w old) keys ≡ true → list_all (is_coded w new) keys ≡ true
all_coded_on w old new h keys t = all_on (is_coded w old) (is_coded w new) (coded_on w old new h) keys t

-- one key more
pub coded_more : (w : Noted) (by_code : Places) (keys : List KnownKey) (key : KnownKey) → list_all (is_coded w by_code) keys ≡ true → is_coded w by_code key ≡ true
    → list_all (is_coded w by_code) (keys ++ key ∷ []) ≡ true
coded_more w by_code keys key t u = list_all-append (is_coded w by_code) keys (key ∷ []) ∙ ap (λ v. v && (is_coded w by_code key && true)) t ∙ ap (λ v. v && true) u

-- a row for which some place is listed is among all
pub row_in_all : (by_row : Places) (all : List ℕ) (row : ℕ) → AreAll by_row all → (length (noted by_row row) == 0) ≡ false → has_place all row ≡ true
row_in_all by_row all row rows some = by (noted by_row row) refl some where
  by : (xs : List ℕ) → noted by_row row ≡ xs → (length xs == 0) ≡ false → has_place all row ≡ true
  by [] e h = cc
  by (x ∷ xs) e h = rows row x (ap (λ v. has_place v x) e ∙ ap (λ b. b || has_place xs x) (eq-eqb x x refl))

-- where places are listed for a row that is among all, all rows are
pub all_more : (by_row new : Places) (all : List ℕ) (row : ℕ) → AreAll by_row all → has_place all row ≡ true → ((other : ℕ) → (other == row) ≡ false → noted new other ≡ noted by_row other) → AreAll new all
all_more by_row new all row rows own others = λ r p h. step r p h (r == row) refl where
  step : (r p : ℕ) → has_place (noted new r) p ≡ true → (b : Bool) → (r == row) ≡ b → has_place all r ≡ true
  step r p h true same = subst (λ n. has_place all n ≡ true) (sym (eqb-true r row same)) own
  step r p h false other = rows r p (sym (ap (λ v. has_place v p) (others r other)) ∙ h)

-- another note of the row is of another table
abbrev pub is_apart : Noted → Noted → Bool
is_apart w v = is_elsewhere w.table w.row v

-- the lists grow
pub grown_keeps : (n m : Notes) (place : ℕ) → place ≡ length n.slots.items → WellKept n → m.slots.items ≡ n.slots.items → m.known.items ≡ n.known.items → (m.mixed ≡ false → n.mixed ≡ false)
    → AreAll m.by_row m.all.items → Grown place n.by_row m.by_row → Grown place n.by_tx m.by_tx → KeepsRows n.by_code m.by_code → AreOnce m.by_code → WellKept m
grown_keeps n m place last well slots known mixed all rows txs codes once = record {
  listed = λ p w e. let old = well.listed p w (sym (ap (λ s. at s p) slots) ∙ e) in record {
    in_row = (rows w.row.0).keeps p old.in_row;
    in_tx = (txs w.tx.0).keeps p old.in_tx;
    coded = ap (λ k. list_all (is_coded w m.by_code) k) known ∙ all_coded_on w n.by_code m.by_code (codes w.row.0) n.known.items old.coded;
    apart = λ t. ap (λ s. list_any (is_apart w) (kept s)) slots ∙ old.apart (mixed t);
  };
  rows_rise = λ number. raised (noted n.by_row number) (noted m.by_row number) (rows number) (well.rows_rise number);
  rows = all;
  once = once;
} where
  raised : (old new : List ℕ) → GrownList place old new → Rises (length n.slots.items) old → Rises (length m.slots.items) new
  raised old new g r = subst (λ s. Rises (length s) new) (sym slots) (subst (λ k. Rises k new) last (g.rises (subst (λ k. Rises k old) (sym last) r)))

eqb_comm : (a b : ℕ) → (a == b) ≡ (b == a)
eqb_comm a b = alike (a == b) (b == a) (λ e. eq-eqb b a (sym (eqb-true a b e))) (λ e. eq-eqb a b (sym (eqb-true b a e)))

apart_comm : (w v : Noted) → is_apart w v ≡ is_apart v w
apart_comm w v = ap (λ b. b && not (v.table.0 == w.table.0)) (eqb_comm v.row.0 w.row.0) ∙ ap (λ b. (w.row.0 == v.row.0) && not b) (eqb_comm v.table.0 w.table.0)

not_apart : (w : Noted) → is_apart w w ≡ false
not_apart w = ap (λ b. (w.row.0 == w.row.0) && not b) (eq-eqb w.table.0 w.table.0 refl) ∙ and_false (w.row.0 == w.row.0) where
  and_false : (b : Bool) → (b && false) ≡ false
  and_false true = refl
  and_false false = refl

apart_more : (w v : Noted) (ws : List Noted) → list_any (is_apart w) ws ≡ false → is_apart w v ≡ false → list_any (is_apart w) (ws ++ v ∷ []) ≡ false
apart_more w v ws h k = list_any-append (is_apart w) ws (v ∷ []) ∙ ap (λ b. b || (is_apart w v || false)) h ∙ ap (λ b. b || false) k

all_same : (n m : Notes) → m.by_row ≡ n.by_row → m.all ≡ n.all → AreAll n.by_row n.all.items → AreAll m.by_row m.all.items
all_same n m rows all h = λ r p t. ap (λ a. has_place a.items r) all ∙ h r p (sym (ap (λ a. has_place (noted a r) p) rows) ∙ t)

-- a note is put behind the others that is listed already
pub pushed_keeps : (n m : Notes) (w : Noted) → WellKept n → IsListed n w (length n.slots.items) → m.slots.items ≡ n.slots.items ++ Some w ∷ [] → m.known ≡ n.known → m.mixed ≡ n.mixed
    → m.all ≡ n.all → m.by_row ≡ n.by_row → m.by_tx ≡ n.by_tx → m.by_code ≡ n.by_code → WellKept m
pushed_keeps n m w well new slots known mixed all rows txs codes = record {
  listed = λ p v e. elim (at-push n.slots.items w p v (sym (ap (λ s. at s p) slots) ∙ e)) [
    | inl old ↦ moved v p (well.listed p v old) (λ t. let own = passes_false v p old t in apart_comm v w ∙ own)
    | inr own ↦ subst (λ u. IsListed m u p) own.0 (subst (λ q. IsListed m w q) (sym own.1) (moved w (length n.slots.items) new (λ t. not_apart w)))
  ];
  rows_rise = λ number. ap_rises (noted n.by_row number) (noted m.by_row number) (ap (λ a. noted a number) rows) (well.rows_rise number);
  rows = all_same n m rows all well.rows;
  once = subst (λ c. AreOnce c) (sym codes) well.once;
} where
  passes_false : (v : Noted) (p : ℕ) → at n.slots.items p ≡ Some v → n.mixed ≡ false → is_apart w v ≡ false
  passes_false v p e t = sym (ap (passes (is_apart w)) e) ∙ none_at (is_apart w) n.slots.items (new.apart t) p

  moved : (v : Noted) (p : ℕ) → IsListed n v p → (n.mixed ≡ false → is_apart v w ≡ false) → IsListed m v p
  moved v p old h = record {
    in_row = ap (λ a. has_place (noted a v.row.0) p) rows ∙ old.in_row;
    in_tx = ap (λ a. has_place (noted a v.tx.0) p) txs ∙ old.in_tx;
    coded = ap (λ k. list_all (is_coded v m.by_code) k.items) known ∙ ap (λ c. list_all (is_coded v c) n.known.items) codes ∙ old.coded;
    apart = λ t. let u = sym mixed ∙ t in ap (λ s. list_any (is_apart v) (kept s)) slots ∙ ap (list_any (is_apart v)) (kept-push n.slots.items w) ∙ apart_more v w (kept n.slots.items) (old.apart u) (h u);
  }

  ap_rises : (old now : List ℕ) → now ≡ old → Rises (length n.slots.items) old → Rises (length m.slots.items) now
  ap_rises old now e r =
      subst (λ s. Rises (length s) now) (sym slots) (rises_on (length n.slots.items) (length (n.slots.items ++ Some w ∷ [])) now (omega (arith, length_push n.slots.items (Some w)))
      (subst (λ v. Rises (length n.slots.items) v) (sym e) r))

other_place : (p place : ℕ) → (p ≡ place → ⊥) → (p == place) ≡ false
other_place p place h = fails (p == place) (λ e. h (eqb-true p place e))

none_there : (slots : List (Option Noted)) (place : ℕ) (w : Noted) → at (set slots place None) place ≡ Some w → ⊥
none_there slots place w e = let same : None ≡ Some w = sym (at-set_same slots place) ∙ e in cc

-- a slot is emptied, its place is struck for its row, and only a row without notes is struck for codes
pub emptied_keeps : (n m : Notes) (place : ℕ) → WellKept n → m.slots.items ≡ set n.slots.items place None → m.known ≡ n.known → m.mixed ≡ n.mixed → m.all ≡ n.all → m.by_tx ≡ n.by_tx
    → Shrunk place n.by_row m.by_row → ((row p : ℕ) → has_place (noted m.by_row row) p ≡ true → HasRowOn row n.by_code m.by_code) → AreOnce m.by_code → WellKept m
emptied_keeps n m place well slots known mixed all txs rows codes once = record {
  listed = λ p w e. moved w p (λ same. none_there n.slots.items place w (sym (ap (λ s. at s place) slots) ∙ subst (λ q. at m.slots.items q ≡ Some w) same e)) (ap (λ s. at s p) (sym slots) ∙ e);
  rows_rise = λ number. subst (λ k. Rises k (noted m.by_row number)) (sym long) ((rows number).rises (length n.slots.items) (well.rows_rise number));
  rows = λ r p t. ap (λ a. has_place a.items r) all ∙ well.rows r p ((rows r).only p t);
  once = once;
} where
  long : length m.slots.items ≡ length n.slots.items
  long = ap (λ s. length s) slots ∙ length-set n.slots.items place None

  fewer : (test : Noted → Bool) → list_any test (kept n.slots.items) ≡ false → list_any test (kept (set n.slots.items place None)) ≡ false
  fewer test h = fails (list_any test (kept (set n.slots.items place None))) (λ t. let r = exists_at test (set n.slots.items place None) t in
      let s = passes_some test (at (set n.slots.items place None) r.0) r.1 in
      let elsewhere : r.0 ≡ place → ⊥ = λ same. none_there n.slots.items place s.0 (subst (λ q. at (set n.slots.items place None) q ≡ Some s.0) same s.1) in
      true_or_false (list_any test (kept n.slots.items)) (any_at test n.slots.items r.0 (ap (passes test) (sym (at-set_other n.slots.items place r.0 elsewhere)) ∙ r.1)) h)

  moved : (w : Noted) (p : ℕ) → (p ≡ place → ⊥) → at (set n.slots.items place None) p ≡ Some w → IsListed m w p
  moved w p h e = let old = well.listed p w (sym (at-set_other n.slots.items place p h) ∙ e) in let still = (rows w.row.0).keeps p (other_place p place h) old.in_row in record {
    in_row = still;
    in_tx = ap (λ a. has_place (noted a w.tx.0) p) txs ∙ old.in_tx;
    coded = ap (λ k. list_all (is_coded w m.by_code) k.items) known ∙ all_coded_on w n.by_code m.by_code (codes w.row.0 p still) n.known.items old.coded;
    apart = λ t. ap (λ s. list_any (is_apart w) (kept s)) slots ∙ fewer (is_apart w) (old.apart (sym mixed ∙ t));
  }

-- a row for which no place is listed is struck for codes: what is listed for the codes of other rows stays
pub others_on : (by_row old new : Places) (row : ℕ) → (length (noted by_row row) == 0) ≡ true → Shrunk row old new → (r p : ℕ) → has_place (noted by_row r) p ≡ true → HasRowOn r old new
others_on by_row old new row none codes r p h code t = (codes code).keeps r (other_place r row (λ same. empty (noted by_row row) none (subst (λ k. has_place (noted by_row k) p ≡ true) same h))) t where
  empty : (xs : List ℕ) → (length xs == 0) ≡ true → has_place xs p ≡ true → ⊥
  empty [] e k = cc
  empty (x ∷ xs) e k = let none_left : suc (length xs) ≡ 0 = eqb-true (suc (length xs)) 0 e in absurd (omega arith)

-- a place is struck from those of a transaction that made no note there
pub struck_keeps : (n m : Notes) (tx : TxId) (place : ℕ) → WellKept n → passes (λ w. same_tx w.tx tx) (at n.slots.items place) ≡ false → m.slots ≡ n.slots → m.known ≡ n.known → m.mixed ≡ n.mixed
    → m.all ≡ n.all → m.by_row ≡ n.by_row → m.by_code ≡ n.by_code → Shrunk place n.by_tx m.by_tx → ((other : ℕ) → (other == tx.0) ≡ false → noted m.by_tx other ≡ noted n.by_tx other) → WellKept m
struck_keeps n m tx place well none slots known mixed all rows codes txs others = record {
  listed = λ p w e. let here = sym (ap (λ s. at s.items p) slots) ∙ e in let old = well.listed p w here in record {
    in_row = ap (λ a. has_place (noted a w.row.0) p) rows ∙ old.in_row;
    in_tx = step w p here old.in_tx (w.tx.0 == tx.0) refl;
    coded = ap (λ k. list_all (is_coded w m.by_code) k.items) known ∙ ap (λ c. list_all (is_coded w c) n.known.items) codes ∙ old.coded;
    apart = λ t. ap (λ s. list_any (is_apart w) (kept s.items)) slots ∙ old.apart (sym mixed ∙ t);
  };
  rows_rise = λ number. subst (λ s. Rises (length s.items) (noted m.by_row number)) (sym slots) (subst (λ a. Rises (length n.slots.items) (noted a number)) (sym rows) (well.rows_rise number));
  rows = all_same n m rows all well.rows;
  once = subst (λ c. AreOnce c) (sym codes) well.once;
} where
  step : (w : Noted) (p : ℕ) → at n.slots.items p ≡ Some w → has_place (noted n.by_tx w.tx.0) p ≡ true → (b : Bool) → (w.tx.0 == tx.0) ≡ b → has_place (noted m.by_tx w.tx.0) p ≡ true
  step w p e h false own = ap (λ l. has_place l p) (others w.tx.0 own) ∙ h
  step w p e h true own =
      (txs w.tx.0).keeps p
      (other_place p place (λ same. true_or_false (passes (λ v. same_tx v.tx tx) (at n.slots.items place)) (ap (passes (λ v. same_tx v.tx tx)) (subst (λ q. at n.slots.items q ≡ Some w) same e) ∙ own) none)) h

-- one key more is known, of a table without notes
pub learnt_keeps : (n m : Notes) (key : KnownKey) → WellKept n → list_any (λ w. w.table.0 == key.table.0) (kept n.slots.items) ≡ false → m.slots ≡ n.slots → m.known.items ≡ n.known.items ++ key ∷ []
    → m.mixed ≡ n.mixed → m.all ≡ n.all → m.by_row ≡ n.by_row → m.by_tx ≡ n.by_tx → m.by_code ≡ n.by_code → WellKept m
learnt_keeps n m key well none slots known mixed all rows txs codes = record {
  listed = λ p w e. let here = sym (ap (λ s. at s.items p) slots) ∙ e in let old = well.listed p w here in record {
    in_row = ap (λ a. has_place (noted a w.row.0) p) rows ∙ old.in_row;
    in_tx = ap (λ a. has_place (noted a w.tx.0) p) txs ∙ old.in_tx;
    coded = ap (λ k. list_all (is_coded w m.by_code) k) known ∙ ap (λ c. list_all (is_coded w c) (n.known.items ++ key ∷ [])) codes ∙ coded_more w n.by_code n.known.items key old.coded (new w p here);
    apart = λ t. ap (λ s. list_any (is_apart w) (kept s.items)) slots ∙ old.apart (sym mixed ∙ t);
  };
  rows_rise = λ number. subst (λ s. Rises (length s.items) (noted m.by_row number)) (sym slots) (subst (λ a. Rises (length n.slots.items) (noted a number)) (sym rows) (well.rows_rise number));
  rows = all_same n m rows all well.rows;
  once = subst (λ c. AreOnce c) (sym codes) well.once;
} where
  new : (w : Noted) (p : ℕ) → at n.slots.items p ≡ Some w → is_coded w n.by_code key ≡ true
  new w p e =
      ap (λ b. not b || option_map_or (λ code. has_place (noted n.by_code code) w.row.0) (note_code key w) true) (sym (ap (passes (λ v. v.table.0 == key.table.0)) e) ∙ none_at (λ v. v.table.0 == key.table.0) n.slots.items none p)

-- the places of a row's notes
pub row_listed : (n : Notes) (row : RowId) (test : Noted → Bool) → WellKept n → ((w : Noted) → test w ≡ true → (w.row.0 == row.0) ≡ true) → Listed n.slots.items (noted n.by_row row.0) test
row_listed n row test well of_row place h =
    let s = passes_some test (at n.slots.items place) h in
    subst (λ r. has_place (noted n.by_row r) place ≡ true) (eqb-true s.0.row.0 row.0 (of_row s.0 s.2)) (well.listed place s.0 s.1).in_row

-- a transaction without places made no note
pub no_places : (n : Notes) (tx : TxId) → WellKept n → noted n.by_tx tx.0 ≡ [] → list_any (λ w. same_tx w.tx tx) (kept n.slots.items) ≡ false
no_places n tx well none = fails (list_any (λ w. same_tx w.tx tx) (kept n.slots.items)) (λ t.
    let r = exists_at (λ w. same_tx w.tx tx) n.slots.items t in
    let s = passes_some (λ w. same_tx w.tx tx) (at n.slots.items r.0) r.1 in
    true_or_false (has_place (noted n.by_tx tx.0) r.0) (subst (λ u. has_place (noted n.by_tx u) r.0 ≡ true) (eqb-true s.0.tx.0 tx.0 s.2) (well.listed r.0 s.0 s.1).in_tx) (ap (λ l. has_place l r.0) none))

-- a note passes where one at a place of its row does
pub any_of_row : (n : Notes) (row : RowId) (test : Noted → Bool) (places : List ℕ) (b : Bool) → WellKept n → ((w : Noted) → test w ≡ true → (w.row.0 == row.0) ≡ true) → places ≡ noted n.by_row row.0
    → b ≡ list_any (λ p. passes test (at n.slots.items p)) places → b ≡ list_any test (kept n.slots.items)
any_of_row n row test places b well of_row e is =
    is ∙ any_listed test n.slots.items places (subst (λ l. Listed n.slots.items l test) (sym e) (row_listed n row test well of_row))

-- the places of a transaction's notes
tx_listed : (n : Notes) (tx : TxId) (test : Noted → Bool) → WellKept n → ((w : Noted) → test w ≡ true → same_tx w.tx tx ≡ true) → Listed n.slots.items (noted n.by_tx tx.0) test
tx_listed n tx test well of_tx place h =
    let s = passes_some test (at n.slots.items place) h in
    subst (λ t. has_place (noted n.by_tx t) place ≡ true) (eqb-true s.0.tx.0 tx.0 (of_tx s.0 s.2)) (well.listed place s.0 s.1).in_tx

-- the notes of a row by a transaction are at places of the row, and at places of the transaction
abbrev pub is_of_both : RowId → TxId → Noted → Bool
is_of_both row tx w = (w.row.0 == row.0) && same_tx w.tx tx

pub both_in_row : (n : Notes) (row : RowId) (tx : TxId) (places : List ℕ) → WellKept n → places ≡ noted n.by_row row.0 → Listed n.slots.items places (is_of_both row tx)
both_in_row n row tx places well e =
    subst (λ l. Listed n.slots.items l (is_of_both row tx)) (sym e) (row_listed n row (is_of_both row tx) well (λ w h. (both (w.row.0 == row.0) (same_tx w.tx tx) h).0))

pub both_in_tx : (n : Notes) (row : RowId) (tx : TxId) (places : List ℕ) → WellKept n → places ≡ noted n.by_tx tx.0 → Listed n.slots.items places (is_of_both row tx)
both_in_tx n row tx places well e =
    subst (λ l. Listed n.slots.items l (is_of_both row tx)) (sym e) (tx_listed n tx (is_of_both row tx) well (λ w h. (both (w.row.0 == row.0) (same_tx w.tx tx) h).1))

-- a note of a row by a transaction passes where one at such a place does
pub any_of_writer : (n : Notes) (row : RowId) (tx : TxId) (test : Noted → Bool) (places : List ℕ) (b : Bool) → ((w : Noted) → test w ≡ true → is_of_both row tx w ≡ true)
    → Listed n.slots.items places (is_of_both row tx) → b ≡ list_any (λ p. passes test (at n.slots.items p)) places → b ≡ list_any test (kept n.slots.items)
any_of_writer n row tx test places b of_both listed is = is ∙ any_listed test n.slots.items places (λ place h.
    let s = passes_some test (at n.slots.items place) h in
    listed place (some_passes (is_of_both row tx) (at n.slots.items place) s.0 s.1 (of_both s.0 s.2)))

-- what an addition does, whether or not it is refused memory
pub grown_by : {A E : Type 0} (place : ℕ) (old new : Places) (number : ℕ) (r : Result A E) → OnOk r (noted new number ≡ noted old number ++ place ∷ [])
    → ((other : ℕ) → (other == number) ≡ false → noted new other ≡ noted old other) → OnErr r ((other : ℕ) → noted new other ≡ noted old other) → Grown place old new
grown_by place old new number (Ok x) ok others err = grown_at place old new number ok others
grown_by place old new number (Err e) ok others err = λ other. grown_same place (noted old other) (noted new other) (err other)

-- the last note that passes is at the last place of its row that does
pub last_of_row : (n : Notes) (row : RowId) (test : Noted → Bool) (places : List ℕ) (i : ℕ) → WellKept n → ((w : Noted) → test w ≡ true → (w.row.0 == row.0) ≡ true) → places ≡ noted n.by_row row.0
    → i < length places → passes test (at n.slots.items (get_or places i 0)) ≡ true → list_any (λ p. passes test (at n.slots.items p)) (drop (suc i) places) ≡ false
    → last_of test (kept n.slots.items) ≡ at n.slots.items (get_or places i 0)
last_of_row n row test places i well of_row e l h none =
    last_found test n.slots.items places (length n.slots.items) i 0 (subst (λ v. Rises (length n.slots.items) v) (sym e) (well.rows_rise row.0))
    (subst (λ v. Listed n.slots.items v test) (sym e) (row_listed n row test well of_row)) l h none

-- where a note of the row is of the table, and no row is mixed, no note of it is of another table
pub one_of_table : (n : Notes) (table : TableId) (row : RowId) (place : ℕ) → WellKept n → passes (λ w. w.row.0 == row.0) (at n.slots.items place) ≡ true → passes (λ w. w.table.0 == table.0) (at n.slots.items place) ≡ true
    → n.mixed ≡ false → list_any (is_elsewhere table row) (kept n.slots.items) ≡ false
one_of_table n table row place well of_row of_table mixed =
    let s = passes_some (λ w. w.row.0 == row.0) (at n.slots.items place) of_row in
    let t = sym (ap (passes (λ w. w.table.0 == table.0)) s.1) ∙ of_table in
    subst (λ r. list_any (λ w. (w.row.0 == r) && not (w.table.0 == table.0)) (kept n.slots.items) ≡ false) (eqb-true s.0.row.0 row.0 s.2)
    (subst (λ k. list_any (λ w. (w.row.0 == s.0.row.0) && not (w.table.0 == k)) (kept n.slots.items) ≡ false) (eqb-true s.0.table.0 table.0 t) ((well.listed place s.0 s.1).apart mixed))

-- nor where the row has no note
pub none_of_row : (n : Notes) (table : TableId) (row : RowId) → list_any (λ w. w.row.0 == row.0) (kept n.slots.items) ≡ false → list_any (is_elsewhere table row) (kept n.slots.items) ≡ false
none_of_row n table row none = fails (list_any (is_elsewhere table row) (kept n.slots.items)) (λ t.
    let r = exists_at (is_elsewhere table row) n.slots.items t in
    let s = passes_some (is_elsewhere table row) (at n.slots.items r.0) r.1 in
    true_or_false (list_any (λ w. w.row.0 == row.0) (kept n.slots.items))
    (any_at (λ w. w.row.0 == row.0) n.slots.items r.0 (some_passes (λ w. w.row.0 == row.0) (at n.slots.items r.0) s.0 s.1 (both (s.0.row.0 == row.0) (not (s.0.table.0 == table.0)) s.2).0)) none)
