-- What the walks along the links find.
use Rattle.std.proofs.Common.{◌≡◌, ℕ, zero, suc, ◌+◌, ◌<◌, ◌≤◌, Bool, true, false, ◌||◌, ◌==◌, ◌⊎◌, List, [], ◌∷◌, ◌++◌, length, Some, None, is_some, slice_get, get_or, take, refl, sym, ◌∙◌, ap, subst, inl, inr, arith, All, AllPairs, Contains}
use Rattle.std.specs.List.Sorted.{IsStrictlyIncreasing, IsPermutation, IsNonDecreasingBy}
use Rattle.std.proofs.lemmas.Bool.{and_from, or_left, or_right, or_cases, ne_eqb, eqb-false, and_parts, both_ways, cases_Bool, cases_lt, cases_order, eq-eqb, eqb-true, not_from_false, false_from_ne_true}
use Rattle.std.proofs.lemmas.Option.{same_Some}
use Rattle.std.proofs.lemmas.List.Elements.{All-nil, All-push, All-contains, Contains-append_left, Contains-push}
use Rattle.std.proofs.lemmas.List.{take_more, get_or-take, length-take-le}
use Rattle.std.proofs.lemmas.List.Kept.{AllPairs-from_increasing}
use Rattle.std.proofs.Math.Seq.{take-length}
use Rattle.std.proofs.lemmas.Map.Keys.{IsDistinct-IsPermutation, IsDistinct-from_apart, apart_from_distinct}
use Rattle.std.specs.List.{IsDistinct}
use Rattle.std.proofs.lemmas.List.Quantifiers.{all_pairs_push}
use Rattle.std.proofs.lemmas.List.Sorted.{Contains-permutation, All-permutation}
use Rattle.places.specs.Noted.{noted, has_place}
use Rattle.row_versions.specs.declared.names.TxId.{TxId}
use Rattle.row_versions.specs.declared.names.RowId.{RowId}
use Rattle.row_versions.specs.declared.names.TableId.{TableId}
use Rattle.row_versions.specs.declared.write.Write.{Write}
use Rattle.row_versions.specs.declared.write.View.{View}
use Rattle.row_versions.specs.declared.write.Seen.{Seen}
use Rattle.row_versions.specs.Log.{Content, has_committed}
use Rattle.row_versions.specs.Members.{same_tx}
use Rattle.row_versions.specs.View.{sees}
use Rattle.row_versions.specs.Rows.{is_row, rows_of}
use Rattle.row_versions.specs.Newest.{newest_of}
use Rattle.row_versions.specs.Laws.{CountsFor, IsAt, IsShown}
use Rattle.row_versions.proofs.Seeing.{same_row, same_table, same_tx as same_tx_id}
use Rattle.row_versions.proofs.Shown.{rows_follow_the_log, rows_from_shown, shown_from_rows}
use Rattle.row_versions.proofs.Placed.{no_row_here, row_here}
use Rattle.row_versions.proofs.Last.{newest_is_the_last}
use Rattle.chain_store.specs.declared.links.Links.{Links}
use Rattle.chain_store.specs.declared.walk.Asker.TheVariants.{ByView, ByTx}
use Rattle.chain_store.specs.Inner.Linked.{AreLinks, HasTheShown, IsGreatest, NonePasses, Stands, counts, is_linked, passes_at, rolled_back}
use Rattle.chain_store.proofs.Fates.{counted_stands, seen_stands}
use Rattle.chain_store.proofs.Linking.{passing, passes_there}
use Rattle.chain_store.proofs.Rising.{eqb_sym, has-append, has_index}

abbrev test_of : Content → View → ℕ → Bool
test_of c view = passes_at c.log (counts c (ByView view))

-- a version that the view shows is in its row's chain
in_chain : (c : Content) (links : Links) (row place : ℕ) (w : Write) → AreLinks c links → IsAt c place w → w.row.0 ≡ row → rolled_back c.fates w.tx ≡ false → has_place (noted links.rows row) place ≡ true
in_chain c links row place w h there its stands = (h.chains row).all place ∙ passes_there c.log (is_linked c.fates row) place w there (and_from _ _ (eq-eqb _ _ its) (not_from_false _ stands))

-- what passes in a chain is of its row
of_its_row : (c : Content) (links : Links) (row place : ℕ) (w : Write) → AreLinks c links → has_place (noted links.rows row) place ≡ true → IsAt c place w → w.row ≡ record { 0 = row }
of_its_row c links row place w h there at =
    let p = passing c.log (is_linked c.fates row) place (sym ((h.chains row).all place) ∙ there) in
    same_row _ _ (ap (λ (v : Write). v.row.0) (same_Some w p.write (sym at ∙ p.there)) ∙ eqb-true _ _ (and_parts _ _ p.passes).0)

-- where nothing in the chain is seen, no version of the row is shown
pub none_shown : (c : Content) (links : Links) (view : View) (table : TableId) (row : ℕ) → AreLinks c links → Stands c view → NonePasses (test_of c view) (noted links.rows row)
    → (seen : Seen) → seen.row.0 ≡ row → IsShown c view table seen → ⊥
none_shown c links view table row h stands none seen its shown =
    let there = in_chain c links row seen.place shown.write h shown.there (ap (λ (r : RowId). r.0) shown.its_row ∙ its) (seen_stands c view shown.write stands shown.is_seen) in
    both_ways _ (none seen.place there) (passes_there c.log _ seen.place shown.write shown.there shown.is_seen)

-- the last that is seen is the one that may be shown
only_last : (c : Content) (links : Links) (view : View) (table : TableId) (row place : ℕ) → AreLinks c links → Stands c view → IsGreatest (test_of c view) (noted links.rows row) place
    → (seen : Seen) → seen.row.0 ≡ row → IsShown c view table seen → seen.place ≡ place
only_last c links view table row place h stands last seen its shown =
    let there = in_chain c links row seen.place shown.write h shown.there (ap (λ (r : RowId). r.0) shown.its_row ∙ its) (seen_stands c view shown.write stands shown.is_seen) in
    let below : seen.place ≤ place = last.last seen.place there (passes_there c.log _ seen.place shown.write shown.there shown.is_seen) in
    let p = passing c.log (counts c (ByView view)) place last.passes in
    elim (cases_lt seen.place place) [
      | inl before ↦ absurd (both_ways _ (shown.last place p.write before p.there (of_its_row c links row place p.write h last.there p.there ∙ same_row _ _ (sym its))) p.passes)
      | inr after ↦ omega arith
    ]

-- where it has no values, or is of another table, no version of the row is shown
pub last_hides : (c : Content) (links : Links) (view : View) (table : TableId) (row place : ℕ) (w : Write) → AreLinks c links → Stands c view → IsGreatest (test_of c view) (noted links.rows row) place
    → IsAt c place w → ((w.table.0 ≡ table.0 → ⊥) ⊎ (is_some w.values ≡ false)) → (seen : Seen) → seen.row.0 ≡ row → IsShown c view table seen → ⊥
last_hides c links view table row place w h stands last at hidden seen its shown =
    let where_it_is = only_last c links view table row place h stands last seen its shown in
    let is : shown.write ≡ w = same_Some _ _ (sym shown.there ∙ ap (slice_get c.log) where_it_is ∙ at) in
    elim hidden [
      | inl other ↦ other (ap (λ (v : Write). v.table.0) (sym is) ∙ ap (λ (t : TableId). t.0) shown.its_table)
      | inr gone ↦ both_ways _ gone (ap (λ (v : Write). is_some v.values) (sym is) ∙ shown.has_values)
    ]

-- and else it is shown
pub last_shown : (c : Content) (links : Links) (view : View) (table : TableId) (row place : ℕ) (w : Write) → AreLinks c links → Stands c view → IsGreatest (test_of c view) (noted links.rows row) place
    → IsAt c place w → w.table.0 ≡ table.0 → is_some w.values ≡ true → IsShown c view table (record { row = record { 0 = row }; place = place })
last_shown c links view table row place w h stands last at its_table has =
    let p = passing c.log (counts c (ByView view)) place last.passes in
    let is : p.write ≡ w = same_Some _ _ (sym p.there ∙ at) in
    record {
      write = w;
      there = at;
      its_row = of_its_row c links row place w h last.there at;
      its_table = same_table _ _ its_table;
      has_values = has;
      is_seen = ap (sees c.fates view) (sym is) ∙ p.passes;
      last = λ later v after v_at its. false_from_ne_true _ (λ seen.
          let there = in_chain c links row later v h v_at (ap (λ (r : RowId). r.0) its) (seen_stands c view v stands seen) in
          let l : later ≤ place = last.last later there (passes_there c.log _ later v v_at seen) in
          absurd (omega arith));
    }

-- what the first rows of the table leave in the list
pub record ShownOf (c : Content) (view : View) (table : TableId) (numbers : List ℕ) (i : ℕ) (rows : List Seen) : Type 0 where
  pub shown : All (IsShown c view table) rows
  pub before : All (λ seen. has_place (take i numbers) seen.row.0 ≡ true) rows
  pub complete : (seen : Seen) → IsShown c view table seen → has_place (take i numbers) seen.row.0 ≡ true → Contains rows seen
  pub once : AllPairs (λ a b. a.row.0 < b.row.0) rows

-- a row is shown once
shown_once : (c : Content) (view : View) (table : TableId) (a b : Seen) → IsShown c view table a → IsShown c view table b → a.row ≡ b.row → a ≡ b
shown_once c view table a b for_a for_b same = elim (cases_order a.place b.place) [
  | inl there ↦ λ i. record { row = same i; place = there i }
  | inr apart ↦ elim apart [
    | inl before ↦ absurd (both_ways _ (for_a.last b.place for_b.write before for_b.there (for_b.its_row ∙ sym same)) for_b.is_seen)
    | inr after ↦ absurd (both_ways _ (for_b.last a.place for_a.write after for_a.there (for_a.its_row ∙ same)) for_a.is_seen)
  ]
]

abbrev number_at : List ℕ → ℕ → ℕ
number_at numbers i = get_or numbers i 0

more_numbers : (numbers : List ℕ) (i row : ℕ) → i < length numbers → has_place (take (i + 1) numbers) row ≡ (has_place (take i numbers) row || (number_at numbers i == row))
more_numbers numbers i row l = ap (λ xs. has_place xs row) (take_more numbers i 0 l) ∙ has-append (take i numbers) (number_at numbers i) row

earlier : (numbers : List ℕ) (i row : ℕ) → IsStrictlyIncreasing numbers → i < length numbers → has_place (take i numbers) row ≡ true → row < number_at numbers i
earlier numbers i row rise l there =
    let k = has_index (take i numbers) row there in
    let len : length (take i numbers) ≡ i = length-take-le i numbers (omega arith) in
    let before : k.0 < i = omega (arith, k.1) in
    let at : get_or (take i numbers) k.0 0 ≡ get_or numbers k.0 0 = get_or-take i numbers k.0 0 before in
    omega (arith, AllPairs-from_increasing numbers rise k.0 i 0 before l, k.2)

pub shown_start : (c : Content) (view : View) (table : TableId) (numbers : List ℕ) → ShownOf c view table numbers 0 []
shown_start c view table numbers = record {
  shown = All-nil (IsShown c view table);
  before = All-nil (λ (s : Seen). has_place (take 0 numbers) s.row.0 ≡ true);
  complete = λ seen shown there. cc;
  once = λ i j d l m. absurd (omega arith);
}

pub shown_skip : (c : Content) (view : View) (table : TableId) (numbers : List ℕ) (i : ℕ) (rows : List Seen) → i < length numbers → ShownOf c view table numbers i rows
    → ((seen : Seen) → seen.row.0 ≡ number_at numbers i → IsShown c view table seen → ⊥) → ShownOf c view table numbers (i + 1) rows
shown_skip c view table numbers i rows l h none = record {
  shown = h.shown;
  before = λ k d m. more_numbers numbers i _ l ∙ or_left _ _ (h.before k d m);
  complete = λ seen shown there. elim (or_cases _ _ (sym (more_numbers numbers i seen.row.0 l) ∙ there)) [
    | inl was ↦ h.complete seen shown was
    | inr now ↦ absurd (none seen (sym (eqb-true _ _ now)) shown)
  ];
  once = h.once;
}

pub shown_push : (c : Content) (view : View) (table : TableId) (numbers : List ℕ) (i : ℕ) (rows : List Seen) (seen : Seen) → IsStrictlyIncreasing numbers → i < length numbers
    → ShownOf c view table numbers i rows → seen.row.0 ≡ number_at numbers i → IsShown c view table seen → ShownOf c view table numbers (i + 1) (rows ++ seen ∷ [])
shown_push c view table numbers i rows seen rise l h its is_shown = record {
  shown = All-push (IsShown c view table) rows seen h.shown is_shown;
  before = All-push (λ (s : Seen). has_place (take (i + 1) numbers) s.row.0 ≡ true) rows seen
      (λ k d m. more_numbers numbers i _ l ∙ or_left _ _ (h.before k d m))
      (more_numbers numbers i seen.row.0 l ∙ or_right _ _ (eq-eqb _ _ (sym its)));
  complete = λ other shown there. elim (or_cases _ _ (sym (more_numbers numbers i other.row.0 l) ∙ there)) [
    | inl was ↦ Contains-append_left rows (seen ∷ []) other (h.complete other shown was)
    | inr now ↦
        let same : seen ≡ other = shown_once c view table seen other is_shown shown (same_row _ _ (its ∙ eqb-true _ _ now)) in
        subst (λ (s : Seen). Contains (rows ++ seen ∷ []) s) same (Contains-push rows seen)
  ];
  once = all_pairs_push (λ (a b : Seen). a.row.0 < b.row.0) rows seen h.once
      (λ k d m. let e = earlier numbers i (get_or rows k d).row.0 rise l (h.before k d m) in omega (arith, e, its));
}

pub shown_all : (c : Content) (links : Links) (view : View) (table : TableId) (rows : List Seen) → AreLinks c links → Stands c view
    → ShownOf c view table (noted links.tables table.0) (length (noted links.tables table.0)) rows → HasTheShown c view table rows
shown_all c links view table rows h stands all = record {
  shown = all.shown;
  complete = λ seen shown. all.complete seen shown
      (ap (λ xs. has_place xs seen.row.0) (take-length (noted links.tables table.0))
      ∙ (λ i. has_place (noted links.tables (sym (ap (λ (t : TableId). t.0) shown.its_table) i)) (sym (ap (λ (r : RowId). r.0) shown.its_row) i))
      ∙ h.listed seen.place shown.write shown.there (seen_stands c view shown.write stands shown.is_seen));
  once = all.once;
}

-- two lists that rise by place and have the same versions are one
abbrev Rises : List Seen → Type 0
Rises = AllPairs (λ a b. a.place < b.place)

abbrev Within : List Seen → List Seen → Type 0
Within xs ys = (s : Seen) → Contains xs s → Contains ys s

after_first : (x : Seen) (xs : List Seen) (s : Seen) → Rises (x ∷ xs) → Contains xs s → x.place < s.place
after_first x xs s rise h = let l = rise 0 (suc h.0) s (omega arith) (omega (arith, h.1)) in omega (arith, l, ap (λ (t : Seen). t.place) h.2)

rest_of : (x : Seen) (xs : List Seen) → Rises (x ∷ xs) → Rises xs
rest_of x xs rise i j d l m = rise (suc i) (suc j) d (omega arith) (omega arith)

contains_cases : (x : Seen) (xs : List Seen) (s : Seen) → Contains (x ∷ xs) s → (x ≡ s) ⊎ Contains xs s
contains_cases x xs s h = by h.0 h.1 h.2 where
  by : (k : ℕ) → k < length (x ∷ xs) → get_or (x ∷ xs) k s ≡ s → (x ≡ s) ⊎ Contains xs s
  by zero l e = inl e
  by (suc k) l e = inr (k, omega arith, e)

first_same : (x y : Seen) (xs ys : List Seen) → Rises (x ∷ xs) → Rises (y ∷ ys) → Within (x ∷ xs) (y ∷ ys) → Within (y ∷ ys) (x ∷ xs) → x ≡ y
first_same x y xs ys rise_x rise_y to from = elim (contains_cases y ys x (to x (0, omega arith, refl))) [
  | inl same ↦ sym same
  | inr later ↦ elim (contains_cases x xs y (from y (0, omega arith, refl))) [
    | inl same ↦ same
    | inr too ↦ absurd (omega (arith, after_first y ys x rise_y later, after_first x xs y rise_x too))
  ]
]

rest_within : (x : Seen) (xs ys : List Seen) → Rises (x ∷ xs) → Within (x ∷ xs) (x ∷ ys) → Within xs ys
rest_within x xs ys rise to s there = elim (contains_cases x ys s (to s (suc there.0, omega (arith, there.1), there.2))) [
  | inl same ↦ absurd (omega (arith, after_first x xs s rise there, ap (λ (t : Seen). t.place) same))
  | inr later ↦ later
]

same_lists : (xs ys : List Seen) → Rises xs → Rises ys → Within xs ys → Within ys xs → xs ≡ ys
same_lists [] [] rise_x rise_y to from = refl
same_lists [] (y ∷ ys) rise_x rise_y to from = absurd (omega (arith, (from y (0, omega arith, refl)).1))
same_lists (x ∷ xs) [] rise_x rise_y to from = absurd (omega (arith, (to x (0, omega arith, refl)).1))
same_lists (x ∷ xs) (y ∷ ys) rise_x rise_y to from =
    let same : x ≡ y = first_same x y xs ys rise_x rise_y to from in
    let to_x : Within (x ∷ xs) (x ∷ ys) = subst (λ (z : Seen). Within (x ∷ xs) (z ∷ ys)) (sym same) to in
    let from_x : Within (x ∷ ys) (x ∷ xs) = subst (λ (z : Seen). Within (z ∷ ys) (x ∷ xs)) (sym same) from in
    let rise_too : Rises (x ∷ ys) = subst (λ (z : Seen). Rises (z ∷ ys)) (sym same) rise_y in
    let rest : xs ≡ ys = same_lists xs ys (rest_of x xs rise_x) (rest_of x ys rise_too) (rest_within x xs ys rise_x to_x) (rest_within x ys xs rise_too from_x) in
    λ i. same i ∷ rest i

-- what is shown, sorted by place, are the rows of the view
pub sorted_are_rows : (c : Content) (view : View) (table : TableId) (found sorted : List Seen) → HasTheShown c view table found → IsPermutation found sorted → IsNonDecreasingBy (λ (s : Seen). s.place) sorted
    → sorted ≡ rows_of c view table
sorted_are_rows c view table found sorted h moved by_place = same_lists sorted (rows_of c view table) rises (rows_follow_the_log c view table)
    (λ s there. rows_from_shown c view table s (All-contains (IsShown c view table) sorted s shown there))
    (λ s there. Contains-permutation found sorted s moved (h.complete s (shown_from_rows c view table s there))) where
      shown : All (IsShown c view table) sorted
      shown = All-permutation (IsShown c view table) found sorted moved h.shown

      apart : IsDistinct (λ (a b : Seen). a.row.0 == b.row.0) sorted
      apart = IsDistinct-IsPermutation (λ (a b : Seen). a.row.0 == b.row.0) (λ a b. eqb_sym a.row.0 b.row.0) found sorted moved
          (IsDistinct-from_apart (λ (a b : Seen). a.row.0 == b.row.0) found (λ i j d l m. let below = h.once i j d l m in ne_eqb _ _ (λ e. absurd (omega (arith, below, e)))))

      rises : Rises sorted
      rises i j d l m = elim (cases_order (get_or sorted i d).place (get_or sorted j d).place) [
        | inl same ↦
            let a = shown i d (omega arith) in
            let b = shown j d m in
            let is : a.write ≡ b.write = same_Some _ _ (sym a.there ∙ ap (slice_get c.log) same ∙ b.there) in
            absurd (eqb-false _ _ (apart_from_distinct (λ (x y : Seen). x.row.0 == y.row.0) sorted i j d apart l m)
            (ap (λ (r : RowId). r.0) (sym a.its_row ∙ ap (λ (w : Write). w.row) is ∙ b.its_row)))
        | inr other ↦ elim other [ inl before ↦ before | inr after ↦ absurd (omega (arith, by_place i j d (omega arith) m, after)) ]
      ]

-- the newest version
counts_for : (c : Content) (tx : TxId) (w : Write) → CountsFor c tx w → counts c (ByTx tx) w ≡ true
counts_for c tx w (inl by_commit) = or_left _ _ by_commit
counts_for c tx w (inr own) = or_right _ _ (eq-eqb _ _ (ap (λ (t : TxId). t.0) own))

for_counts : (c : Content) (tx : TxId) (w : Write) → counts c (ByTx tx) w ≡ true → CountsFor c tx w
for_counts c tx w h = elim (or_cases (has_committed c w.tx) (same_tx w.tx tx) h) [ inl by_commit ↦ inl by_commit | inr own ↦ inr (same_tx_id _ _ (eqb-true _ _ own)) ]

pub no_newest : (c : Content) (links : Links) (row : RowId) (tx : TxId) → AreLinks c links → rolled_back c.fates tx ≡ false → NonePasses (passes_at c.log (counts c (ByTx tx))) (noted links.rows row.0)
    → newest_of c row tx ≡ None
no_newest c links row tx h stands none = (newest_is_the_last c row tx).1.1 (λ place w at its counted.
    let passes = counts_for c tx w counted in
    let there = in_chain c links row.0 place w h at (ap (λ (r : RowId). r.0) its) (counted_stands c tx w stands passes) in
    both_ways _ (none place there) (passes_there c.log _ place w at passes))

pub newest_is : (c : Content) (links : Links) (row : RowId) (tx : TxId) (place : ℕ) → AreLinks c links → rolled_back c.fates tx ≡ false
    → IsGreatest (passes_at c.log (counts c (ByTx tx))) (noted links.rows row.0) place → newest_of c row tx ≡ Some (record { row = row; place = place })
newest_is c links row tx place h stands last =
    let p = passing c.log (counts c (ByTx tx)) place last.passes in
    ((newest_is_the_last c row tx).0 (record { row = row; place = place })).1 (record {
      write = p.write;
      there = p.there;
      its_row = of_its_row c links row.0 place p.write h last.there p.there;
      named = refl;
      counts = for_counts c tx p.write p.passes;
      last = λ later w after at its counted.
          let passes = counts_for c tx w counted in
          let there = in_chain c links row.0 later w h at (ap (λ (r : RowId). r.0) its) (counted_stands c tx w stands passes) in
          let l : later ≤ place = last.last later there (passes_there c.log _ later w at passes) in
          omega arith;
    })

-- no row stands where the log has no write
pub no_row_without : (c : Content) (view : View) (table : TableId) (place : ℕ) → slice_get c.log place ≡ None → is_row c view table place ≡ false
no_row_without c view table place none =
    no_row_here c view table place (λ seen e shown. let at : Some shown.write ≡ None = sym shown.there ∙ ap (slice_get c.log) e ∙ none in cc)

-- a version at the place is of the row of the write there
its_row_there : (c : Content) (view : View) (table : TableId) (place : ℕ) (w : Write) (seen : Seen) → IsAt c place w → seen.place ≡ place → IsShown c view table seen → seen.row ≡ w.row
its_row_there c view table place w seen at e shown =
    sym shown.its_row ∙ ap (λ (v : Write). v.row) (same_Some shown.write w (sym shown.there ∙ ap (slice_get c.log) e ∙ at))

-- nor where no version of the row of the write there is shown
pub no_row_of : (c : Content) (view : View) (table : TableId) (place : ℕ) (w : Write) → IsAt c place w
    → ((seen : Seen) → seen.row.0 ≡ w.row.0 → IsShown c view table seen → ⊥) → is_row c view table place ≡ false
no_row_of c view table place w at none =
    no_row_here c view table place (λ seen e shown. none seen (ap (λ (r : RowId). r.0) (its_row_there c view table place w seen at e shown)) shown)

-- where one is, a row stands there if it is that one
pub row_if_there : (c : Content) (view : View) (table : TableId) (place : ℕ) (w : Write) (seen : Seen) → IsAt c place w → seen.row.0 ≡ w.row.0 → IsShown c view table seen
    → (seen.place == place) ≡ is_row c view table place
row_if_there c view table place w seen at its shown = elim (cases_Bool (seen.place == place)) [
  | inl here ↦ here ∙ sym (ap (is_row c view table) (sym (eqb-true _ _ here)) ∙ row_here c view table seen shown)
  | inr other ↦ other ∙ sym (no_row_here c view table place (λ found e f.
      eqb-false _ _ other (ap (λ (s : Seen). s.place) (shown_once c view table seen found shown f (same_row _ _ its ∙ sym (its_row_there c view table place w found at e f))) ∙ e)))
]
