-- The rows that a view shows, and the writes that they come from.
use Rattle.std.proofs.Common.{◌≡◌, ℕ, zero, suc, ◌+◌, ◌-◌, ◌<◌, ◌≤◌, Bool, true, false, not, ◌&&◌, ◌||◌, cond, ◌==◌, inl, inr, List, [], ◌∷◌, ◌++◌, length, get_or, drop, Some, is_some, IsSome, slice_get, All, AllPairs, Contains, length-append, refl, sym, ◌∙◌, ap, subst, arith}
use mathlib.Core.Path.{fun_ext}
use Rattle.std.specs.Prelude.{map, filter}
use Rattle.std.specs.List.{list_any, enumerate_from}
use Rattle.std.proofs.lemmas.Bool.{and_parts, and_from, and_left, and_right, and_cases, or_parts, or_from, not-true, not_from_false, eqb-true, eqb-false, eq-eqb, both_ways, cond-false, cases_Bool, cases_eq}
use Rattle.std.proofs.lemmas.List.Elements.{Contains-get_or}
use Rattle.std.proofs.lemmas.Option.{same_Some, slice_get_within}
use Rattle.row_versions.specs.declared.names.RowId.{RowId}
use Rattle.row_versions.specs.declared.names.TableId.{TableId}
use Rattle.row_versions.specs.declared.write.Write.{Write}
use Rattle.row_versions.specs.declared.write.View.{View}
use Rattle.row_versions.specs.declared.write.Seen.{Seen}
use Rattle.row_versions.specs.declared.write.Fate.{Fate}
use Rattle.row_versions.specs.Log.{Content, after_write}
use Rattle.row_versions.specs.View.{sees}
use Rattle.row_versions.specs.Rows.{rows_of}
use Rattle.row_versions.specs.Inner.Searching.{replaces, shows, rows_from}
use Rattle.row_versions.specs.Laws.{IsShown, IsAt, RowsAreTheShown, RowsFollowTheLog, EachRowOnce, ShowsOwnWrite, next_place}
use Rattle.row_versions.proofs.Gets.{get-append_last, get-drop, member_cases, member_first, member_later, AllPairs-cond}
use Rattle.row_versions.proofs.Seeing.{same_row, same_table}
use Rattle.row_versions.proofs.Filtered.{rows_are}

-- the version comes from the k-th write of the part of the log that begins at the place
record ComesFrom (fates : List Fate) (view : View) (table : TableId) (place : ℕ) (ws : List Write) (seen : Seen) : Type 0 where
  pub k : ℕ
  pub write : Write
  pub there : slice_get ws k ≡ Some write
  pub shown : shows fates view table write (drop (suc k) ws) ≡ true
  pub its_row : write.row ≡ seen.row
  pub its_place : seen.place ≡ place + k

comes_first : (fates : List Fate) (view : View) (table : TableId) (place : ℕ) (w : Write) (later : List Write) (seen : Seen)
    → shows fates view table w later ≡ true → (let first : Seen = record { row = w.row; place = place } in first ≡ seen) → ComesFrom fates view table place (w ∷ later) seen
comes_first fates view table place w later seen t e = record {
  k = 0;
  write = w;
  there = refl;
  shown = t;
  its_row = ap (λ (s : Seen). s.row) e;
  its_place = let p : place ≡ seen.place = ap (λ (s : Seen). s.place) e in omega arith;
}

comes_later : (fates : List Fate) (view : View) (table : TableId) (place : ℕ) (w : Write) (later : List Write) (seen : Seen)
    → ComesFrom fates view table (place + 1) later seen → ComesFrom fates view table place (w ∷ later) seen
comes_later fates view table place w later seen h = record {
  k = suc h.k;
  write = h.write;
  there = h.there;
  shown = h.shown;
  its_row = h.its_row;
  its_place = omega (arith, h.its_place);
}

comes_from : (fates : List Fate) (view : View) (table : TableId) (place : ℕ) (ws : List Write) (seen : Seen)
    → Contains (rows_from fates view table place ws) seen → ComesFrom fates view table place ws seen
comes_from fates view table place [] seen h = absurd (omega (arith, h.1))
comes_from fates view table place (w ∷ later) seen h =
    elim (member_cases (shows fates view table w later) (record { row = w.row; place = place }) (rows_from fates view table (place + 1) later) seen h) [
      | inl first ↦ comes_first fates view table place w later seen first.0 first.1
      | inr rest ↦ comes_later fates view table place w later seen (comes_from fates view table (place + 1) later seen rest)
    ]

-- and each write that the view shows is among the rows
among : (fates : List Fate) (view : View) (table : TableId) (place : ℕ) (ws : List Write) (seen : Seen) (k : ℕ) (write : Write) → slice_get ws k ≡ Some write
    → shows fates view table write (drop (suc k) ws) ≡ true → write.row ≡ seen.row → place + k ≡ seen.place → Contains (rows_from fates view table place ws) seen
among fates view table place [] seen k write there shown its_row its_place = cc
among fates view table place (w ∷ later) seen zero write there shown its_row its_place =
    let same : w ≡ write = same_Some w write there in
    let first : place ≡ seen.place = omega arith in
    member_first _ (record { row = w.row; place = place }) (rows_from fates view table (place + 1) later) seen
    (ap (λ (v : Write). shows fates view table v later) same ∙ shown)
    (λ i. record { row = (ap (λ (v : Write). v.row) same ∙ its_row) i; place = first i })
among fates view table place (w ∷ later) seen (suc k) write there shown its_row its_place =
    member_later _ (record { row = w.row; place = place }) (rows_from fates view table (place + 1) later) seen
    (among fates view table (place + 1) later seen k write there shown its_row (omega arith))

-- no element passes the test exactly where none of any place does
none_at : {X : Type 0} (p : X → Bool) (xs : List X) → list_any p xs ≡ false → (k : ℕ) (x : X) → slice_get xs k ≡ Some x → p x ≡ false
none_at p [] none k x e = cc
none_at p (y ∷ xs) none zero x e = ap p (sym (same_Some y x e)) ∙ (or_parts _ _ none).0
none_at p (y ∷ xs) none (suc k) x e = none_at p xs (or_parts _ _ none).1 k x e

none_from : {X : Type 0} (p : X → Bool) (xs : List X) → ((k : ℕ) (x : X) → slice_get xs k ≡ Some x → p x ≡ false) → list_any p xs ≡ false
none_from p [] h = refl
none_from p (y ∷ xs) h = or_from _ _ (h 0 y refl) (none_from p xs (λ k x e. h (suc k) x e))

-- a write of the row that does not replace it is not seen
not_replaced : (fates : List Fate) (view : View) (row : RowId) (w : Write) → replaces fates view row w ≡ false → w.row ≡ row → sees fates view w ≡ false
not_replaced fates view row w h its = elim (and_cases _ _ h) [ inl e ↦ absurd (eqb-false _ _ e (ap (λ (r : RowId). r.0) its)) | inr unseen ↦ unseen ]

pub shown_from_rows : (c : Content) (view : View) (table : TableId) (seen : Seen) → Contains (rows_of c view table) seen → IsShown c view table seen
shown_from_rows c view table seen h =
    let from = comes_from c.fates view table 0 c.log seen (subst (λ (rows : List Seen). Contains rows seen) (rows_are c view table) h) in
    let k_is : from.k ≡ seen.place = omega (arith, from.its_place) in
    let parts = and_parts _ _ from.shown in
    let ours = and_parts _ _ parts.0 in
    let shows = and_parts _ _ parts.1 in
    record {
      write = from.write;
      there = ap (slice_get c.log) (sym k_is) ∙ from.there;
      its_row = from.its_row;
      its_table = same_table _ _ (eqb-true _ _ ours.0);
      has_values = ours.1;
      is_seen = shows.0;
      last = λ later w after at its_row.
          not_replaced c.fates view from.write.row w
          (none_at (replaces c.fates view from.write.row) (drop (suc from.k) c.log) (not-true _ shows.1) (later - suc from.k) w
          (get-drop (suc from.k) c.log (later - suc from.k) later (omega arith) ∙ at))
          (its_row ∙ sym from.its_row);
    }

pub rows_from_shown : (c : Content) (view : View) (table : TableId) (seen : Seen) → IsShown c view table seen → Contains (rows_of c view table) seen
rows_from_shown c view table seen h =
    let none : list_any (replaces c.fates view h.write.row) (drop (suc seen.place) c.log) ≡ false =
    none_from _ (drop (suc seen.place) c.log) (λ k w e.
    elim (cases_Bool (w.row.0 == h.write.row.0)) [
      | inl same ↦ and_right _ _ (h.last (suc seen.place + k) w (omega arith) (sym (get-drop (suc seen.place) c.log k (suc seen.place + k) refl) ∙ e) (same_row _ _ (eqb-true _ _ same) ∙ h.its_row))
      | inr other ↦ and_left _ _ other
    ]) in
    subst (λ (rows : List Seen). Contains rows seen) (sym (rows_are c view table)) (among c.fates view table 0 c.log seen seen.place h.write h.there
    (and_from _ _ (and_from _ _ (eq-eqb _ _ (ap (λ (t : TableId). t.0) h.its_table)) h.has_values) (and_from _ _ h.is_seen (not_from_false _ none)))
    h.its_row (omega arith))

pub rows_are_the_shown : RowsAreTheShown
rows_are_the_shown c view table seen = (shown_from_rows c view table seen, rows_from_shown c view table seen)

-- the rows of the rest stand after the place
all_after : (fates : List Fate) (view : View) (table : TableId) (place : ℕ) (ws : List Write) → All (λ s. place < s.place) (rows_from fates view table (place + 1) ws)
all_after fates view table place ws = λ k d l.
    let rows = rows_from fates view table (place + 1) ws in
    let from = comes_from fates view table (place + 1) ws (get_or rows k d) (Contains-get_or rows k d l) in
    omega (arith, from.its_place)

follow : (fates : List Fate) (view : View) (table : TableId) (place : ℕ) (ws : List Write) → AllPairs (λ a b. a.place < b.place) (rows_from fates view table place ws)
follow fates view table place [] = λ i j d l m. absurd (omega arith)
follow fates view table place (w ∷ later) =
    AllPairs-cond (λ a b. a.place < b.place) (shows fates view table w later) (record { row = w.row; place = place }) (rows_from fates view table (place + 1) later)
    (all_after fates view table place later) (follow fates view table (place + 1) later)

pub rows_follow_the_log : RowsFollowTheLog
rows_follow_the_log c view table = subst (λ (rows : List Seen). AllPairs (λ a b. a.place < b.place) rows) (sym (rows_are c view table)) (follow c.fates view table 0 c.log)

pub each_row_once : EachRowOnce
each_row_once c view table = λ i j d l m same.
    let rows = rows_of c view table in
    let a = shown_from_rows c view table (get_or rows i d) (Contains-get_or rows i d (omega arith)) in
    let b = shown_from_rows c view table (get_or rows j d) (Contains-get_or rows j d m) in
    let after = rows_follow_the_log c view table i j d l m in
    both_ways _ (a.last (get_or rows j d).place b.write after b.there (b.its_row ∙ sym same)) b.is_seen

-- a last write that the view does not see changes nothing
any-last : {X : Type 0} (p : X → Bool) (xs : List X) (y : X) → p y ≡ false → list_any p (xs ++ y ∷ []) ≡ list_any p xs
any-last p [] y h = or_from _ _ h refl
any-last p (x ∷ xs) y h = ap (λ b. p x || b) (any-last p xs y h)

rows-last : (fates : List Fate) (view : View) (table : TableId) (place : ℕ) (ws : List Write) (w : Write) → sees fates view w ≡ false
    → rows_from fates view table place (ws ++ w ∷ []) ≡ rows_from fates view table place ws
rows-last fates view table place [] w unseen = cond-false _ _ _ (and_right _ _ (and_left _ _ unseen))
rows-last fates view table place (v ∷ later) w unseen =
    let same = ap (λ b. ((v.table.0 == table.0) && is_some v.values) && (sees fates view v && not b))
    (any-last (replaces fates view v.row) later w (and_right _ _ unseen)) in
    let rest = rows-last fates view table (place + 1) later w unseen in
    λ i. cond (same i) (record { row = v.row; place = place } ∷ rest i) (rest i)

pub rows-after_write : (c : Content) (view : View) (table : TableId) (w : Write) → sees c.fates view w ≡ false → rows_of (after_write c w) view table ≡ rows_of c view table
rows-after_write c view table w unseen = rows_are (after_write c w) view table ∙ rows-last c.fates view table 0 c.log w unseen ∙ sym (rows_are c view table)

-- the rows of a table by which writes are seen
abbrev rows_by : (Write → Bool) → List Write → TableId → List Seen
rows_by seen log table =
    map (λ (e : ℕ × Write). record { row = e.1.row; place = e.0 })
    (filter (λ e. (e.1.table.0 == table.0) && is_some e.1.values && seen e.1 && not (list_any (λ later. (later.row.0 == e.1.row.0) && seen later) (drop (e.0 + 1) log))) (enumerate_from 0 log))

-- fates under which a view sees the same writes give it the same rows
pub rows-same : (c : Content) (fates : List Fate) (view : View) (table : TableId) → ((w : Write) → sees fates view w ≡ sees c.fates view w)
    → rows_of (record c { fates = fates }) view table ≡ rows_of c view table
rows-same c fates view table h = ap (λ (seen : Write → Bool). rows_by seen c.log table) (fun_ext h)

-- and views that see the same writes have the same rows
pub views_agree : (c : Content) (view other : View) (table : TableId) → ((w : Write) → sees c.fates view w ≡ sees c.fates other w)
    → rows_of c view table ≡ rows_of c other table
views_agree c view other table h = ap (λ (seen : Write → Bool). rows_by seen c.log table) (fun_ext h)

-- a last write is the last
last_at : (ws : List Write) (w : Write) (k : ℕ) (v : Write) → slice_get (ws ++ w ∷ []) k ≡ Some v → k ≤ length ws
last_at ws w k v at = omega (arith, slice_get_within (ws ++ w ∷ []) k v at, length-append ws (w ∷ []))

-- a version of the row of a last write that the view sees is that write
alone : (c : Content) (view : View) (w : Write) (table : TableId) (seen : Seen) → sees c.fates view w ≡ true → IsShown (after_write c w) view table seen → seen.row ≡ w.row
    → (seen.place ≡ next_place c) × IsSome w.values
alone c view w table seen seen_write h its =
    let within = last_at c.log w seen.place h.write h.there in
    elim (cases_eq seen.place (next_place c)) [
      | inl there ↦
          (there, ap (λ (v : Write). is_some v.values) (same_Some w h.write (sym (get-append_last c.log w) ∙ sym (ap (slice_get (c.log ++ w ∷ [])) there) ∙ h.there)) ∙ h.has_values)
      | inr other ↦
          let before : seen.place < next_place c = omega arith in
          absurd (both_ways _ (h.last (next_place c) w before (get-append_last c.log w) (sym its)) seen_write)
    ]

-- a last write that the view sees is the one version of its row that it shows
pub shows_last : (c : Content) (view : View) (w : Write) → sees c.fates view w ≡ true → ShowsOwnWrite c view w
shows_last c view w seen_write = record {
  shown = λ has. rows_from_shown (after_write c w) view w.table (record { row = w.row; place = next_place c }) (record {
    write = w;
    there = get-append_last c.log w;
    its_row = refl;
    its_table = refl;
    has_values = has;
    is_seen = seen_write;
    last = λ later v after at its. let within = last_at c.log w later v at in absurd (omega arith);
  });
  alone = λ table seen h its. alone c view w table seen seen_write (shown_from_rows (after_write c w) view table seen h) its;
}

-- a write that the view does not see is not one of its rows
pub unseen_no_row : (c : Content) (view : View) (table : TableId) (seen : Seen) (w : Write) → Contains (rows_of c view table) seen → IsAt c seen.place w
    → sees c.fates view w ≡ false → ⊥
unseen_no_row c view table seen w h at unseen =
    let shown = shown_from_rows c view table seen h in
    both_ways _ unseen (ap (sees c.fates view) (same_Some w shown.write (sym at ∙ shown.there)) ∙ shown.is_seen)
