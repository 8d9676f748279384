-- What the links say after one more step.
use Rattle.std.proofs.Common.{◌≡◌, ℕ, zero, suc, ◌+◌, ◌<◌, Bool, true, false, cond, not, ◌&&◌, ◌||◌, ◌==◌, List, [], ◌∷◌, ◌++◌, length, Option, Some, None, slice_get, get_or, refl, sym, ◌∙◌, ap, subst, inl, inr, arith, All}
use Rattle.std.specs.Prelude.{OnOk, OnErr, Result, Ok, Err, IfSome, is_ok, is_some, unwrap_or}
use Rattle.std.specs.List.Sorted.{IsStrictlyIncreasing}
use Rattle.std.specs.Option.{option_map_or}
use Rattle.std.proofs.lemmas.Bool.{or_cases, or_left, or_right, and_parts, and_from, eqb-true, eq-eqb, ne_eqb, cases_eq, cases_Bool, not-true}
use Rattle.std.proofs.lemmas.Option.{slice_get_within, slice_get_past, slice_get_read, slice_get-get_or, get_or_from_slice_get, same_Some}
use Rattle.std.proofs.lemmas.List.{length-append, append-nil}
use Rattle.places.specs.declared.places.Places.{Places}
use Rattle.places.specs.Noted.{noted, has_place, without_last}
use Rattle.row_versions.specs.declared.names.RowId.{RowId}
use Rattle.row_versions.specs.declared.names.TxId.{TxId}
use Rattle.row_versions.specs.declared.write.Write.{Write}
use Rattle.row_versions.specs.declared.write.Fate.{Fate}
use Rattle.row_versions.specs.declared.write.Fate.TheVariants.{Open}
use Rattle.row_versions.specs.Log.{Content, empty_content, after_begin, fate_of, new_row, after_roll_back, after_write}
use Rattle.row_versions.proofs.Gets.{get-append_last}
use Rattle.chain_store.specs.declared.links.Links.{Links}
use Rattle.chain_store.specs.Inner.Linked.{AreLinks, IsAdded, IsNoted, added_for, is_linked, is_of_row, is_own, is_struck, passes_at, rolled_back}
use Rattle.chain_store.proofs.Bools.{and_swap, or_nothing, rolled_now, struck_more, struck_elsewhere}
use Rattle.chain_store.proofs.Fates.{rolled-after_begin, rolled-after_roll_back}
use Rattle.chain_store.proofs.Rising.{eqb_sym, has-added, has-struck, index_has, rise-added, rise-struck}

-- a place that passes a test is one of the log, with a write that passes
pub record HasPassing (log : List Write) (test : Write → Bool) (place : ℕ) : Type 0 where
  pub write : Write
  pub there : slice_get log place ≡ Some write
  pub passes : test write ≡ true
  pub within : place < length log

pub passing : (log : List Write) (test : Write → Bool) (place : ℕ) → passes_at log test place ≡ true → HasPassing log test place
passing log test place h = by (slice_get log place) refl h where
  by : (o : Option Write) → slice_get log place ≡ o → option_map_or test o false ≡ true → HasPassing log test place
  by None is h = cc
  by (Some w) is h = record { write = w; there = is; passes = h; within = slice_get_within log place w is }

pub passes_there : (log : List Write) (test : Write → Bool) (place : ℕ) (w : Write) → slice_get log place ≡ Some w → test w ≡ true → passes_at log test place ≡ true
passes_there log test place w there h = ap (λ o. option_map_or test o false) there ∙ h

-- a place that is read from the log
pub passes_is : (log : List Write) (test : Write → Bool) (place : ℕ) (w : Write) → slice_get log place ≡ Some w → passes_at log test place ≡ test w
passes_is log test place w there = ap (λ o. option_map_or test o false) there

pub at_place : (read log : List Write) (place : ℕ) (w : Write) → read ≡ log → place < length read → w ≡ get_or read place w → slice_get log place ≡ Some w
at_place read log place w is l e = ap (λ ws. slice_get ws place) (sym is) ∙ slice_get_read read (length read) place w refl l e

pub slice_has : (xs : List ℕ) (n place : ℕ) → slice_get xs n ≡ Some place → has_place xs place ≡ true
slice_has xs n place e = subst (λ p. has_place xs p ≡ true) (get_or_from_slice_get xs n place 0 e) (index_has xs n (slice_get_within xs n place e))

-- the places of a chain are places of the log
pub in_log : (c : Content) (links : Links) (row place : ℕ) (xs : List ℕ) → AreLinks c links → xs ≡ noted links.rows row → has_place xs place ≡ true → HasPassing c.log (is_linked c.fates row) place
in_log c links row place xs h is there = passing c.log (is_linked c.fates row) place (sym ((h.chains row).all place) ∙ ap (λ ys. has_place ys place) (sym is) ∙ there)

pub chain_within : (c : Content) (links : Links) (row : ℕ) (xs : List ℕ) → AreLinks c links → xs ≡ noted links.rows row → All (λ place. place < length c.log) xs
chain_within c links row xs h is = λ k d l. (in_log c links row (get_or xs k d) xs h is (slice_has xs k (get_or xs k d) (slice_get-get_or xs k d l))).within

pub own_within : (c : Content) (links : Links) (tx : ℕ) (xs : List ℕ) → AreLinks c links → xs ≡ noted links.own tx → All (λ place. place < length c.log) xs
own_within c links tx xs h is = λ k d l.
    let there : has_place xs (get_or xs k d) ≡ true = slice_has xs k (get_or xs k d) (slice_get-get_or xs k d l) in
    (passing c.log (is_own tx) (get_or xs k d) (sym (h.own tx (get_or xs k d)) ∙ ap (λ ys. has_place ys (get_or xs k d)) (sym is) ∙ there)).within

-- the newest version of a row says of which table it is
pub newest_is_of : (c : Content) (links : Links) (row table place : ℕ) (w : Write) → AreLinks c links → HasPassing c.log (is_linked c.fates row) place → slice_get c.log place ≡ Some w
    → (w.table.0 == table) ≡ true → has_place (noted links.tables table) row ≡ true
newest_is_of c links row table place w h p there of_table =
    let is : p.write ≡ w = same_Some _ _ (sym p.there ∙ there) in
    let parts = and_parts _ _ p.passes in
    let its_table : table ≡ p.write.table.0 = sym (ap (λ (v : Write). v.table.0) is ∙ eqb-true w.table.0 table of_table) in
    let its_row : row ≡ p.write.row.0 = sym (eqb-true _ _ parts.0) in
    (λ i. has_place (noted links.tables (its_table i)) (its_row i)) ∙ h.listed place p.write p.there (not-true _ parts.1)

passes-same : (log : List Write) (test other : Write → Bool) (place : ℕ) → ((w : Write) → test w ≡ other w) → passes_at log test place ≡ passes_at log other place
passes-same log test other place h = by (slice_get log place) where
  by : (o : Option Write) → option_map_or test o false ≡ option_map_or other o false
  by None = refl
  by (Some w) = h w

-- where nothing is noted
pub links_empty : (links : Links) → ((n : ℕ) → noted links.rows n ≡ []) → ((n : ℕ) → noted links.tables n ≡ []) → ((n : ℕ) → noted links.own n ≡ []) → AreLinks empty_content links
links_empty links rows tables own = record {
  chains = λ row. record {
    rise = subst IsStrictlyIncreasing (sym (rows row)) (λ k l. absurd (omega arith));
    all = λ place. ap (λ xs. has_place xs place) (rows row);
  };
  own = λ tx place. ap (λ xs. has_place xs place) (own tx);
  tables = λ table. subst IsStrictlyIncreasing (sym (tables table)) (λ k l. absurd (omega arith));
  within = λ table row there. let kept : false ≡ true = sym (ap (λ xs. has_place xs row) (tables table)) ∙ there in cc;
  listed = λ place w there stands. cc;
}

-- fates by which the same transactions are rolled back keep the links
pub links-fates : (c : Content) (fates : List Fate) (links : Links) → ((tx : TxId) → rolled_back fates tx ≡ rolled_back c.fates tx) → AreLinks c links → AreLinks (record c { fates = fates }) links
links-fates c fates links same h = record {
  chains = λ row. record {
    rise = (h.chains row).rise;
    all = λ place. (h.chains row).all place ∙ passes-same c.log (is_linked c.fates row) (is_linked fates row) place (λ w. ap (λ b. (w.row.0 == row) && not b) (sym (same w.tx)));
  };
  own = h.own;
  tables = h.tables;
  within = h.within;
  listed = λ place w there stands. h.listed place w there (sym (same w.tx) ∙ stands);
}

pub links-after_begin : {E : Type 0} (c after : Content) (result : Result TxId E) (links : Links) → OnOk result (after ≡ after_begin c) → OnErr result (after ≡ c) → AreLinks c links → AreLinks after links
links-after_begin c after (Ok tx) links ok err h = subst (λ (d : Content). AreLinks d links) (sym ok) (links-fates c (after_begin c).fates links (rolled-after_begin c) h)
links-after_begin c after (Err e) links ok err h = subst (λ (d : Content). AreLinks d links) (sym err) h

-- a roll-back that strikes the transaction's writes keeps the links
pub links-after_roll_back : (c : Content) (tx : TxId) (links : Links) (rows : Places) → fate_of c.fates tx ≡ Some Open → AreLinks c links
    → ((row : ℕ) → IsStrictlyIncreasing (noted rows row))
    → ((row place : ℕ) → has_place (noted rows row) place ≡ (has_place (noted links.rows row) place && not (is_struck c.log (noted links.own tx.0) row place)))
    → AreLinks (after_roll_back c tx) (record links { rows = rows })
links-after_roll_back c tx links rows is_open h rise left = record {
  chains = λ row. record { rise = rise row; all = λ place. chain row place };
  own = h.own;
  tables = h.tables;
  within = h.within;
  listed = λ place w there stands. h.listed place w there (was w.tx stands);
} where
  was : (t : TxId) → rolled_back (after_roll_back c tx).fates t ≡ false → rolled_back c.fates t ≡ false
  was t stands = by (rolled_back c.fates t) (sym (rolled-after_roll_back c tx t is_open) ∙ stands) where
    by : (b : Bool) → (b || (t.0 == tx.0)) ≡ false → b ≡ false
    by true e = e
    by false e = refl

  chain : (row place : ℕ) → has_place (noted rows row) place ≡ passes_at c.log (is_linked (after_roll_back c tx).fates row) place
  chain row place =
      left row place
      ∙ (λ i. (h.chains row).all place i && not (h.own tx.0 place i && passes_at c.log (is_of_row row) place))
      ∙ by (slice_get c.log place) where
        by : (o : Option Write) → (option_map_or (is_linked c.fates row) o false && not (option_map_or (is_own tx.0) o false && option_map_or (is_of_row row) o false))
            ≡ option_map_or (is_linked (after_roll_back c tx).fates row) o false
        by None = refl
        by (Some w) = rolled_now (w.row.0 == row) (rolled_back c.fates w.tx) (w.tx.0 == tx.0) ∙ ap (λ b. (w.row.0 == row) && not b) (sym (rolled-after_roll_back c tx w.tx is_open))

-- one more write in the log
get-append_other : (log : List Write) (w : Write) (place : ℕ) → (length log ≡ place → ⊥) → slice_get (log ++ w ∷ []) place ≡ slice_get log place
get-append_other [] w zero other = absurd (other refl)
get-append_other [] w (suc place) other = refl
get-append_other (v ∷ log) w zero other = refl
get-append_other (v ∷ log) w (suc place) other = get-append_other log w place (λ e. other (ap suc e))

passes-append : (log : List Write) (w : Write) (test : Write → Bool) (place : ℕ) → passes_at (log ++ w ∷ []) test place ≡ (passes_at log test place || ((length log == place) && test w))
passes-append log w test place = elim (cases_eq (length log) place) [
  | inl here ↦
      let is : (length log == place) ≡ true = eq-eqb (length log) place here in
      ap (λ o. option_map_or test o false) (ap (slice_get (log ++ w ∷ [])) (sym here) ∙ get-append_last log w)
      ∙ sym (λ i. option_map_or test (slice_get_past log place (omega arith) i) false || (is i && test w))
  | inr other ↦
      ap (λ o. option_map_or test o false) (get-append_other log w place other)
      ∙ sym (ap (λ b. passes_at log test place || (b && test w)) (ne_eqb (length log) place other) ∙ or_nothing (passes_at log test place))
]

-- a list of all places that pass a test, with the new place where its write passes
has-noted : (log : List Write) (w : Write) (test : Write → Bool) (xs : List ℕ) (number other : ℕ) → ((place : ℕ) → has_place xs place ≡ passes_at log test place)
    → (number == other) ≡ test w → (place : ℕ) → has_place (xs ++ added_for number (length log) other) place ≡ passes_at (log ++ w ∷ []) test place
has-noted log w test xs number other h is place =
    has-added number (length log) other xs place
    ∙ (λ i. h place i || (is i && (length log == place)))
    ∙ ap (λ b. passes_at log test place || b) (and_swap (test w) (length log == place))
    ∙ sym (passes-append log w test place)

pub links-after_write : (c : Content) (w : Write) (is_new : Bool) (before after : Links) → AreLinks c before → IsNoted before (length c.log) w.tx w.table w.row is_new after
    → rolled_back c.fates w.tx ≡ false → (is_new ≡ true → w.row.0 ≡ length c.log) → (is_new ≡ false → has_place (noted before.tables w.table.0) w.row.0 ≡ true) → AreLinks (after_write c w) after
links-after_write c w is_new before after h note stands new known = record {
  chains = λ row. record {
    rise = subst IsStrictlyIncreasing (sym (note.rows row))
        (rise-added w.row.0 (length c.log) row (noted before.rows row) (h.chains row).rise
        (λ place there. (passing c.log (is_linked c.fates row) place (sym ((h.chains row).all place) ∙ there)).within));
    all = λ place. ap (λ xs. has_place xs place) (note.rows row)
        ∙ has-noted c.log w (is_linked c.fates row) (noted before.rows row) w.row.0 row (h.chains row).all (linked row) place;
  };
  own = λ tx place. ap (λ xs. has_place xs place) (note.own tx) ∙ has-noted c.log w (is_own tx) (noted before.own tx) w.tx.0 tx (h.own tx) refl place;
  tables = λ table. elim (cases_Bool is_new) [
    | inl made ↦ subst IsStrictlyIncreasing (sym (note.new made table))
        (rise-added w.table.0 w.row.0 table (noted before.tables table) (h.tables table) (λ row there. let l = h.within table row there in let n = new made in omega arith))
    | inr kept ↦ subst IsStrictlyIncreasing (sym (note.same kept table)) (h.tables table)
  ];
  within = λ table row there. omega (arith, inside table row there, length-append c.log (w ∷ []));
  listed = λ place v there stands_too. elim (cases_eq (length c.log) place) [
    | inl here ↦
        let is : w ≡ v = same_Some w v (sym (get-append_last c.log w) ∙ ap (slice_get (c.log ++ w ∷ [])) here ∙ there) in
        subst (λ (u : Write). has_place (noted after.tables u.table.0) u.row.0 ≡ true) is last_listed
    | inr other ↦ stays v.table.0 v.row.0 (h.listed place v (sym (get-append_other c.log w place other) ∙ there) stands_too)
  ];
} where
  linked : (row : ℕ) → (w.row.0 == row) ≡ is_linked c.fates row w
  linked row = by (w.row.0 == row) (rolled_back c.fates w.tx) stands where
    by : (a b : Bool) → b ≡ false → a ≡ (a && not b)
    by true false e = refl
    by false false e = refl
    by a true e = cc

  table_has : (table row : ℕ) → is_new ≡ true → has_place (noted after.tables table) row ≡ (has_place (noted before.tables table) row || ((w.table.0 == table) && (w.row.0 == row)))
  table_has table row made = ap (λ xs. has_place xs row) (note.new made table) ∙ has-added w.table.0 w.row.0 table (noted before.tables table) row

  stays : (table row : ℕ) → has_place (noted before.tables table) row ≡ true → has_place (noted after.tables table) row ≡ true
  stays table row there = elim (cases_Bool is_new) [
    | inl made ↦ table_has table row made ∙ or_left _ _ there
    | inr kept ↦ ap (λ xs. has_place xs row) (note.same kept table) ∙ there
  ]

  last_listed : has_place (noted after.tables w.table.0) w.row.0 ≡ true
  last_listed = elim (cases_Bool is_new) [
    | inl made ↦ table_has w.table.0 w.row.0 made ∙ or_right _ _ (and_from _ _ (eq-eqb w.table.0 w.table.0 refl) (eq-eqb w.row.0 w.row.0 refl))
    | inr kept ↦ stays w.table.0 w.row.0 (known kept)
  ]

  inside : (table row : ℕ) → has_place (noted after.tables table) row ≡ true → row < length c.log + 1
  inside table row there = elim (cases_Bool is_new) [
    | inl made ↦ elim (or_cases (has_place (noted before.tables table) row) ((w.table.0 == table) && (w.row.0 == row)) (sym (table_has table row made) ∙ there)) [
      | inl was ↦ omega (arith, h.within table row was)
      | inr last ↦ omega (arith, eqb-true w.row.0 row (and_parts _ _ last).1, new made)
    ]
    | inr kept ↦ omega (arith, h.within table row (ap (λ xs. has_place xs row) (sym (note.same kept table)) ∙ there))
  ]

-- the same for a row that may be named, where none is the new row
pub links-after_step : (c : Content) (row : Option RowId) (w : Write) (is_new : Bool) (before after : Links) → AreLinks c before → IsNoted before (length c.log) w.tx w.table w.row is_new after
    → rolled_back c.fates w.tx ≡ false → is_some row ≡ not is_new → w.row ≡ unwrap_or row (new_row c) → IfSome row (λ r. has_place (noted before.tables w.table.0) r.0 ≡ true) → AreLinks (after_write c w) after
links-after_step c None w is_new before after h note stands is made known =
    links-after_write c w is_new before after h note stands (λ e. ap (λ (r : RowId). r.0) made) (λ e. let wrong : false ≡ true = is ∙ ap not e in cc)
links-after_step c (Some r) w is_new before after h note stands is made known =
    links-after_write c w is_new before after h note stands (λ e. let wrong : true ≡ false = is ∙ ap not e in cc)
    (λ e. ap (λ (s : RowId). has_place (noted before.tables w.table.0) s.0) made ∙ known)

pub ok_then : {T E : Type 0} (result : Result T E) (P : Type 0) → OnOk result P → is_ok result ≡ true → P
ok_then (Ok x) P h e = h
ok_then (Err x) P h e = cc

-- a place is added: from what the map says
pub added : (before after : Places) (number place : ℕ) → noted after number ≡ noted before number ++ place ∷ [] → ((other : ℕ) → (other == number) ≡ false → noted after other ≡ noted before other) → IsAdded before number place after
added before after number place here others other = elim (cases_Bool (number == other)) [
  | inl same ↦
      ap (noted after) (sym (eqb-true number other same)) ∙ here
      ∙ (λ i. noted before (eqb-true number other same i) ++ place ∷ []) ∙ sym (ap (λ b. noted before other ++ cond b (place ∷ []) []) same)
  | inr apart ↦ others other (eqb_sym other number ∙ apart) ∙ sym (append-nil (noted before other)) ∙ sym (ap (λ b. noted before other ++ cond b (place ∷ []) []) apart)
]

-- one more place is struck from the chain of its row
pub record IsStruck (log : List Write) (start rows : Places) (places : List ℕ) : Type 0 where
  pub rise : (row : ℕ) → IsStrictlyIncreasing (noted rows row)
  pub left : (row place : ℕ) → has_place (noted rows row) place ≡ (has_place (noted start row) place && not (is_struck log places row place))

pub struck_none : (log : List Write) (rows : Places) → ((row : ℕ) → IsStrictlyIncreasing (noted rows row)) → IsStruck log rows rows []
struck_none log rows rise = record { rise = rise; left = λ row place. sym (and_true (has_place (noted rows row) place)) } where
  and_true : (b : Bool) → (b && true) ≡ b
  and_true true = refl
  and_true false = refl

pub struck_one : (log : List Write) (start rows after : Places) (places : List ℕ) (place : ℕ) (w : Write) → slice_get log place ≡ Some w → IsStruck log start rows places
    → noted after w.row.0 ≡ without_last place (noted rows w.row.0) → ((other : ℕ) → (other == w.row.0) ≡ false → noted after other ≡ noted rows other) → IsStruck log start after (place ∷ places)
struck_one log start rows after places place w there h here others = record {
  rise = λ row. elim (cases_eq row w.row.0) [
    | inl same ↦ subst (λ n. IsStrictlyIncreasing (noted after n)) (sym same) (subst IsStrictlyIncreasing (sym here) (rise-struck (noted rows w.row.0) place (h.rise w.row.0)))
    | inr apart ↦ subst IsStrictlyIncreasing (sym (others row (ne_eqb _ _ apart))) (h.rise row)
  ];
  left = λ row q. elim (cases_eq row w.row.0) [
    | inl same ↦ subst (λ n. has_place (noted after n) q ≡ (has_place (noted start n) q && not (is_struck log (place ∷ places) n q))) (sym same) (in_its_row q)
    | inr apart ↦ ap (λ xs. has_place xs q) (others row (ne_eqb _ _ apart)) ∙ h.left row q
        ∙ struck_elsewhere (has_place (noted start row) q) (place == q) (passes_at log (is_of_row row) q) (has_place places q)
        (λ e. ap (passes_at log (is_of_row row)) (sym (eqb-true place q e)) ∙ ap (λ o. option_map_or (is_of_row row) o false) there ∙ ne_eqb _ _ (λ is. apart (sym is)))
  ];
} where
  in_its_row : (q : ℕ) → has_place (noted after w.row.0) q ≡ (has_place (noted start w.row.0) q && not (is_struck log (place ∷ places) w.row.0 q))
  in_its_row q =
      ap (λ xs. has_place xs q) here
      ∙ has-struck (noted rows w.row.0) place q (h.rise w.row.0)
      ∙ ap (λ b. b && not (place == q)) (h.left w.row.0 q)
      ∙ struck_more (has_place (noted start w.row.0) q) (place == q) (passes_at log (is_of_row w.row.0) q) (has_place places q)
      (λ e. ap (passes_at log (is_of_row w.row.0)) (sym (eqb-true place q e)) ∙ ap (λ o. option_map_or (is_of_row w.row.0) o false) there ∙ eq-eqb w.row.0 w.row.0 refl)
