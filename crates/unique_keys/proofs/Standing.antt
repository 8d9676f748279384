-- Who stands in the way, transaction after transaction.
use Rattle.std.proofs.Common.{◌≡◌, refl, sym, ◌∙◌, ap, subst, Bool, true, false, cond, not, ◌||◌, ◌&&◌, ◌==◌, ℕ, List, [], ◌∷◌, map, filter, eqb-true, eq-eqb}
use Rattle.std.specs.Prelude.{Option}
use Rattle.std.specs.List.{list_any}
use Rattle.sql_values.specs.declared.value.Value.{Value}
use Rattle.row_versions.specs.declared.names.TxId.{TxId}
use Rattle.row_versions.specs.declared.names.RowId.{RowId}
use Rattle.row_versions.specs.declared.names.TableId.{TableId}
use Rattle.row_versions.specs.Members.{has, same_tx, is_distinct, is_none_of}
use Rattle.unique_keys.specs.declared.noted.Noted.{Noted}
use Rattle.unique_keys.specs.Members.{EachOnce}
use Rattle.unique_keys.specs.Keys.{has_key}
use Rattle.unique_keys.specs.Inner.Finding.{committed_has, own_has, is_in_way, blockers_among, wrote, holds, holds_by_row, is_blocker}
use Rattle.unique_keys.specs.Inner.Slots.{at, kept}
use Rattle.unique_keys.specs.Inner.WellKept.{Leads}
use Rattle.unique_keys.proofs.Quick.{both, and, or_left, or_right, alike, has_of_row, row_is}
use Rattle.unique_keys.proofs.Listed.{same_is}
use Rattle.unique_keys.proofs.Slots.{passes_some, some_passes, exists_at, any_at, here, some_place}

abbrev row_of : ℕ → RowId
row_of n = record { 0 = n }

comm : (a b : ℕ) → (a == b) ≡ true → (b == a) ≡ true
comm a b e = eq-eqb b a (sym (eqb-true a b e))

-- whoever holds the key by what was written of a candidate row holds it, and nobody else does
pub candidates_hold : (committed : TxId → Bool) (slots : List (Option Noted)) (candidates : List ℕ) (table : TableId) (columns : List ℕ) (asked : List Value) (u : TxId)
    → Leads slots candidates table columns asked → list_any (λ r. holds_by_row committed (kept slots) table columns asked u (record { 0 = r })) candidates ≡ holds committed (kept slots) table columns asked u
candidates_hold committed slots candidates table columns asked u leads = alike _ _ there back where
  ws : List Noted
  ws = kept slots

  by_row : ℕ → Bool
  by_row r = holds_by_row committed (kept slots) table columns asked u (record { 0 = r })

  by_write : Noted → Bool
  by_write w = ((w.table.0 == table.0) && same_tx w.tx u) && (committed_has committed (kept slots) columns asked w.row || own_has (kept slots) columns asked w.row u)

  there : list_any by_row candidates ≡ true → list_any by_write (kept slots) ≡ true
  there h =
      let r = some_place by_row candidates h in
      let t = both (wrote (kept slots) table (row_of r.0) u) (committed_has committed (kept slots) columns asked (row_of r.0) || own_has (kept slots) columns asked (row_of r.0) u) r.1 in
      let q = exists_at (λ w. ((w.row.0 == r.0) && same_tx w.tx u) && (w.table.0 == table.0)) slots t.0 in
      let s = passes_some (λ w. ((w.row.0 == r.0) && same_tx w.tx u) && (w.table.0 == table.0)) (at slots q.0) q.1 in
      let k = both ((s.0.row.0 == r.0) && same_tx s.0.tx u) (s.0.table.0 == table.0) s.2 in
      let l = both (s.0.row.0 == r.0) (same_tx s.0.tx u) k.0 in
      any_at by_write slots q.0 (some_passes by_write (at slots q.0) s.0 s.1
      (and ((s.0.table.0 == table.0) && same_tx s.0.tx u) (committed_has committed (kept slots) columns asked s.0.row || own_has (kept slots) columns asked s.0.row u)
      (and (s.0.table.0 == table.0) (same_tx s.0.tx u) k.1 l.1)
      (subst (λ row. (committed_has committed (kept slots) columns asked row || own_has (kept slots) columns asked row u) ≡ true) (sym (row_is s.0.row (row_of r.0) l.0)) t.1)))

  back : list_any by_write (kept slots) ≡ true → list_any by_row candidates ≡ true
  back h =
      let p = exists_at by_write slots h in
      let s = passes_some by_write (at slots p.0) p.1 in
      let w = s.0 in
      let t = both ((w.table.0 == table.0) && same_tx w.tx u) (committed_has committed (kept slots) columns asked w.row || own_has (kept slots) columns asked w.row u) s.2 in
      let k = both (w.table.0 == table.0) (same_tx w.tx u) t.0 in
      let q = exists_at (λ v. has_key columns asked v.values && (w.row.0 == v.row.0)) slots (has_of_row committed (kept slots) columns asked w.row u t.1) in
      let v = passes_some (λ v. has_key columns asked v.values && (w.row.0 == v.row.0)) (at slots q.0) q.1 in
      let l = both (has_key columns asked v.0.values) (w.row.0 == v.0.row.0) v.2 in
      let written : wrote (kept slots) table w.row u ≡ true =
      any_at (λ x. ((x.row.0 == w.row.0) && same_tx x.tx u) && (x.table.0 == table.0)) slots p.0 (some_passes (λ x. ((x.row.0 == w.row.0) && same_tx x.tx u) && (x.table.0 == table.0)) (at slots p.0) w s.1
      (and ((w.row.0 == w.row.0) && same_tx w.tx u) (w.table.0 == table.0) (and (w.row.0 == w.row.0) (same_tx w.tx u) (eq-eqb w.row.0 w.row.0 refl) k.1) k.0)) in
      here by_row candidates w.row.0 (leads p.0 q.0 w v.0 s.1 v.1 k.0 (comm w.row.0 v.0.row.0 l.1) l.0)
      (and (wrote (kept slots) table w.row u) (committed_has committed (kept slots) columns asked w.row || own_has (kept slots) columns asked w.row u) written t.1)

-- who is found by a write that passes
has_filtered : (test : Noted → Bool) (ws : List Noted) (u : TxId) → has (map (λ (w : Noted). w.tx) (filter test ws)) u ≡ list_any (λ w. test w && same_tx w.tx u) ws
has_filtered test [] u = refl
has_filtered test (w ∷ ws) u = step (test w) (has_filtered test ws u) where
  step : (b : Bool) → has (map (λ (v : Noted). v.tx) (filter test ws)) u ≡ list_any (λ v. test v && same_tx v.tx u) ws
      → has (map (λ (v : Noted). v.tx) (cond b (w ∷ filter test ws) (filter test ws))) u ≡ ((b && same_tx w.tx u) || list_any (λ v. test v && same_tx v.tx u) ws)
  step true e = ap (λ v. same_tx w.tx u || v) e
  step false e = e

spread_one : (k l a b : Bool) → (((k && a) && l) || ((k && b) && l)) ≡ ((k && (a || b)) && l)
spread_one true true true b = refl
spread_one true true false b = refl
spread_one true false true b = and_no b where
  and_no : (x : Bool) → (x && false) ≡ false
  and_no true = refl
  and_no false = refl
spread_one true false false b = refl
spread_one false l a b = refl

-- what each write needs besides is asked once
spread : (k l : Bool) (f g : Noted → Bool) → ((w : Noted) → f w ≡ ((k && g w) && l)) → (ws : List Noted) → list_any f ws ≡ ((k && list_any g ws) && l)
spread true true f g h [] = refl
spread true false f g h [] = refl
spread false l f g h [] = refl
spread k l f g h (w ∷ ws) = ap (λ b. b || list_any f ws) (h w) ∙ ap (λ b. ((k && g w) && l) || b) (spread k l f g h ws) ∙ spread_one k l (g w) (list_any g ws)

arranged : (t n a c s : Bool) → s ≡ true → (((t && (n && a)) && c) && s) ≡ ((n && ((t && s) && c)) && a)
arranged true true true true true e = refl
arranged true true true false true e = refl
arranged true true false true true e = refl
arranged true true false false true e = refl
arranged true false a c true e = refl
arranged false true true c true e = refl
arranged false true false c true e = refl
arranged false false a c true e = refl
arranged t n a c false e = cc

apart : (t n a c m b d s : Bool) → s ≡ false → (((t && (n && a)) && c) && s) ≡ ((m && ((t && s) && d)) && b)
apart t n a c m b d true e = cc
apart true true true true true b d false e = refl
apart true true true true false b d false e = refl
apart true true true false true b d false e = refl
apart true true true false false b d false e = refl
apart true true false c true b d false e = refl
apart true true false c false b d false e = refl
apart true false a c true b d false e = refl
apart true false a c false b d false e = refl
apart false n a c true b d false e = refl
apart false n a c false b d false e = refl

-- a transaction is a blocker where it is open, another one, and holds the key
pub blocker_is : (committed active : TxId → Bool) (ws : List Noted) (table : TableId) (columns : List ℕ) (asked : List Value) (tx u : TxId)
    → has (blockers_among committed active ws table tx asked columns) u ≡ (is_blocker committed ws table columns asked tx u && active u)
blocker_is committed active ws table columns asked tx u =
    has_filtered (is_in_way committed active ws table columns asked tx) ws u
    ∙ spread (not (same_tx u tx)) (active u) (λ w. is_in_way committed active ws table columns asked tx w && same_tx w.tx u) (λ w. ((w.table.0 == table.0) && same_tx w.tx u) && (committed_has committed ws columns asked w.row || own_has ws columns asked w.row u)) one ws where
      one : (w : Noted) → (is_in_way committed active ws table columns asked tx w && same_tx w.tx u)
          ≡ ((not (same_tx u tx) && (((w.table.0 == table.0) && same_tx w.tx u) && (committed_has committed ws columns asked w.row || own_has ws columns asked w.row u))) && active u)
      one w = step (same_tx w.tx u) refl where
        step : (b : Bool) → same_tx w.tx u ≡ b → (is_in_way committed active ws table columns asked tx w && same_tx w.tx u)
            ≡ ((not (same_tx u tx) && (((w.table.0 == table.0) && same_tx w.tx u) && (committed_has committed ws columns asked w.row || own_has ws columns asked w.row u))) && active u)
        step true e =
            subst (λ v. (is_in_way committed active ws table columns asked tx w && same_tx w.tx v)
            ≡ ((not (same_tx v tx) && (((w.table.0 == table.0) && same_tx w.tx v) && (committed_has committed ws columns asked w.row || own_has ws columns asked w.row v))) && active v)) (same_is w.tx u e)
            (arranged (w.table.0 == table.0) (not (same_tx w.tx tx)) (active w.tx) (committed_has committed ws columns asked w.row || own_has ws columns asked w.row w.tx) (same_tx w.tx w.tx) (eq-eqb w.tx.0 w.tx.0 refl))
        step false e =
            apart (w.table.0 == table.0) (not (same_tx w.tx tx)) (active w.tx) (committed_has committed ws columns asked w.row || own_has ws columns asked w.row w.tx) (not (same_tx u tx)) (active u)
            (committed_has committed ws columns asked w.row || own_has ws columns asked w.row u) (same_tx w.tx u) e

-- those of a list who pass a test, each once where the list has each once
has_passing : (p : TxId → Bool) (us : List TxId) (u : TxId) → has (filter p us) u ≡ (p u && has us u)
has_passing p [] u = sym (and_no (p u)) where
  and_no : (x : Bool) → (x && false) ≡ false
  and_no true = refl
  and_no false = refl
has_passing p (t ∷ us) u = step (p t) refl (same_tx t u) refl (has_passing p us u) where
  more : (a b : Bool) → a ≡ true → (a && (true || b)) ≡ true
  more true b e = refl
  more false b e = cc

  none : (a b : Bool) → a ≡ false → (a && b) ≡ false
  none true b e = cc
  none false b e = refl

  step : (b : Bool) → p t ≡ b → (a : Bool) → same_tx t u ≡ a → has (filter p us) u ≡ (p u && has us u) → has (cond b (t ∷ filter p us) (filter p us)) u ≡ (p u && (same_tx t u || has us u))
  step true e true f so = ap (λ v. v || has (filter p us) u) f ∙ sym (ap (λ v. p u && (v || has us u)) f ∙ more (p u) (has us u) (ap p (sym (same_is t u f)) ∙ e))
  step true e false f so = ap (λ v. v || has (filter p us) u) f ∙ so ∙ sym (ap (λ v. p u && (v || has us u)) f)
  step false e true f so = so ∙ none (p u) (has us u) (ap p (sym (same_is t u f)) ∙ e) ∙ sym (none (p u) (same_tx t u || has us u) (ap p (sym (same_is t u f)) ∙ e))
  step false e false f so = so ∙ sym (ap (λ v. p u && (v || has us u)) f)

distinct_passing : (p : TxId → Bool) (us : List TxId) → is_distinct us → is_distinct (filter p us)
distinct_passing p [] d = tt
distinct_passing p (t ∷ us) d = step (p t) (distinct_passing p us d.1) where
  and_no : (a b : Bool) → b ≡ false → (a && b) ≡ false
  and_no true b e = e
  and_no false b e = refl

  step : (b : Bool) → is_distinct (filter p us) → is_distinct (cond b (t ∷ filter p us) (filter p us))
  step true so = (has_passing p us t ∙ and_no (p t) (has us t) d.0, so)
  step false so = so

pub passing_once : (p : TxId → Bool) (wanted us found : List TxId) → ((u : TxId) → has wanted u ≡ (p u && has us u)) → is_distinct us → found ≡ filter p us → EachOnce wanted found
passing_once p wanted us found h d e = record {
  each = λ u. ap (λ v. has v u) e ∙ has_passing p us u ∙ sym (h u);
  once = subst (λ v. is_distinct v) (sym e) (distinct_passing p us d);
}

-- some of a list passes where the list of those who do isn't empty
some_of : (p : TxId → Bool) (us : List TxId) → list_any p us ≡ true → (u : TxId) × ((p u && has us u) ≡ true)
some_of p [] h = cc
some_of p (t ∷ us) h = step (p t) refl h (some_of p us) where
  step : (b : Bool) → p t ≡ b → (b || list_any p us) ≡ true → (list_any p us ≡ true → (u : TxId) × ((p u && has us u) ≡ true)) → (u : TxId) × ((p u && (same_tx t u || has us u)) ≡ true)
  step true e k others = (t, and (p t) (same_tx t t || has us t) e (or_left (same_tx t t) (has us t) (eq-eqb t.0 t.0 refl)))
  step false e k others = let r = others k in let s = both (p r.0) (has us r.0) r.1 in (r.0, and (p r.0) (same_tx t r.0 || has us r.0) s.0 (or_right (same_tx t r.0) (has us r.0) s.1))

any_of : (p : TxId → Bool) (us : List TxId) (u : TxId) → p u ≡ true → has us u ≡ true → list_any p us ≡ true
any_of p [] u e h = cc
any_of p (t ∷ us) u e h = step (same_tx t u) refl h (any_of p us u e) where
  step : (b : Bool) → same_tx t u ≡ b → (b || has us u) ≡ true → (has us u ≡ true → list_any p us ≡ true) → (p t || list_any p us) ≡ true
  step true f k others = or_left (p t) (list_any p us) (ap p (same_is t u f) ∙ e)
  step false f k others = or_right (p t) (list_any p us) (others k)

some_there : (us : List TxId) (u : TxId) → has us u ≡ true → not (is_none_of us) ≡ true
some_there [] u h = cc
some_there (t ∷ us) u h = refl

first_there : (us : List TxId) → not (is_none_of us) ≡ true → (u : TxId) × (has us u ≡ true)
first_there [] h = cc
first_there (t ∷ us) h = (t, or_left (same_tx t t) (has us t) (eq-eqb t.0 t.0 refl))

pub any_is_some : (p : TxId → Bool) (wanted us : List TxId) → ((u : TxId) → has wanted u ≡ (p u && has us u)) → list_any p us ≡ not (is_none_of wanted)
any_is_some p wanted us h = alike _ _ there back where
  there : list_any p us ≡ true → not (is_none_of wanted) ≡ true
  there k = let r = some_of p us k in some_there wanted r.0 (h r.0 ∙ r.1)

  back : not (is_none_of wanted) ≡ true → list_any p us ≡ true
  back k = let r = first_there wanted k in let s = both (p r.0) (has us r.0) (sym (h r.0) ∙ r.1) in any_of p us r.0 s.0 s.1
