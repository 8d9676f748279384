-- Among the candidates are all notes that may have the key.
use Rattle.std.proofs.Common.{◌≡◌, refl, sym, ◌∙◌, ap, subst, Bool, true, false, not, ◌||◌, ◌&&◌, ◌==◌, ℕ, List, [], ◌∷◌, eqb-true, eq-eqb}
use Rattle.std.specs.Prelude.{Option, Some, None, option_and_then, nat_eq}
use Rattle.std.specs.Option.{option_map_or}
use Rattle.std.specs.List.{list_any, list_all}
use Rattle.std.specs.Cmp.Lexicographic.{pointwise}
use Rattle.std.proofs.lemmas.Slice.Eq.{bytes_eq-Decides}
use Rattle.places.specs.Noted.{has_place, noted}
use Rattle.sql_values.specs.declared.value.Value.{Value}
use Rattle.row_versions.specs.declared.names.TableId.{TableId}
use Rattle.row_versions.specs.declared.names.TxId.{TxId}
use Rattle.row_versions.specs.declared.names.RowId.{RowId}
use Rattle.unique_keys.specs.declared.noted.Noted.{Noted}
use Rattle.unique_keys.specs.declared.notes.Notes.{Notes}
use Rattle.unique_keys.specs.declared.known.KnownKey.{KnownKey}
use Rattle.unique_keys.specs.Keys.{has_key}
use Rattle.places.specs.declared.places.Places.{Places}
use Rattle.unique_keys.specs.Inner.Codes.{key_code, code_from, note_code}
use Rattle.unique_keys.specs.Inner.Finding.{takes, is_another, counts_for, newest_has}
use Rattle.unique_keys.specs.Inner.Slots.{at, kept, passes}
use Rattle.unique_keys.specs.Inner.Listing.{is_key, is_coded}
use Rattle.unique_keys.specs.Inner.WellKept.{WellKept, Leads}
use Rattle.unique_keys.proofs.Quick.{both}
use Rattle.unique_keys.proofs.Equal.{agree_is}
use Rattle.unique_keys.proofs.Slots.{not_false, none_at}
use Rattle.unique_keys.proofs.Places.{is_apart}
use Rattle.unique_keys.proofs.SameCode.{OneCode, one_code}

-- what has the key has its code
coded_alike : (table : TableId) (columns : List ℕ) (asked : List Value) (values : Option (List Value)) → has_key columns asked values ≡ true
    → OneCode (key_code table columns asked) (option_and_then (λ row. key_code table columns row) values)
coded_alike table columns asked None h = cc
coded_alike table columns asked (Some row) h = one_code table.0 columns asked row (agree_is columns asked row ∙ h)

-- a key that is among the keys passes what all pass
found_key : (s c : KnownKey → Bool) (keys : List KnownKey) → list_any s keys ≡ true → list_all c keys ≡ true → (key : KnownKey) × (s key ≡ true) × (c key ≡ true)
found_key s c [] h k = cc
found_key s c (key ∷ keys) h k = step (s key) refl h (λ t. found_key s c keys t (both (c key) (list_all c keys) k).1) where
  step : (b : Bool) → s key ≡ b → (b || list_any s keys) ≡ true → (list_any s keys ≡ true → (found : KnownKey) × (s found ≡ true) × (c found ≡ true)) → (found : KnownKey) × (s found ≡ true) × (c found ≡ true)
  step true e t others = (key, e, (both (c key) (list_all c keys) k).0)
  step false e t others = others t

pub all_lead : (n : Notes) (table : TableId) (columns : List ℕ) (asked : List Value) → WellKept n → Leads n.slots.items n.all.items table columns asked
all_lead n table columns asked well = λ p q w v e f t r h. well.rows w.row.0 p (well.listed p w e).in_row

pub none_leads : (n : Notes) (table : TableId) (columns : List ℕ) (asked : List Value) → key_code table columns asked ≡ None → Leads n.slots.items [] table columns asked
none_leads n table columns asked none = λ p q w v e f t r h. let c = coded_alike table columns asked v.values h in let clash : None ≡ Some c.0 = sym none ∙ c.1 in cc

-- of a row that is of one table
one_table : (w v : Noted) → is_apart v w ≡ false → (v.row.0 == w.row.0) ≡ true → w.table.0 ≡ v.table.0
one_table w v apart r =
    let same : w.row.0 ≡ v.row.0 = sym (eqb-true v.row.0 w.row.0 r) in
    eqb-true w.table.0 v.table.0 (not_false (w.table.0 == v.table.0) (sym (ap (λ b. b && not (w.table.0 == v.table.0)) (eq-eqb w.row.0 v.row.0 same)) ∙ apart))

listed_by_code : (w : Noted) (by_code : Places) (key : KnownKey) (code : ℕ) → w.table.0 ≡ key.table.0 → note_code key w ≡ Some code → is_coded w by_code key ≡ true
    → has_place (noted by_code code) w.row.0 ≡ true
listed_by_code w by_code key code e c h =
    sym (ap (λ b. not b || option_map_or (λ k. has_place (noted by_code k) w.row.0) (note_code key w) true) (eq-eqb w.table.0 key.table.0 e) ∙ ap (λ o. option_map_or (λ k. has_place (noted by_code k) w.row.0) o true) c) ∙ h

pub code_leads : (n : Notes) (table : TableId) (columns : List ℕ) (asked : List Value) (code : ℕ) → WellKept n → n.mixed ≡ false → list_any (is_key table columns) n.known.items ≡ true
    → key_code table columns asked ≡ Some code → Leads n.slots.items (noted n.by_code code) table columns asked
code_leads n table columns asked code well mixed known is = λ p q w v e f t r h.
    let one = one_table w v (sym (ap (passes (is_apart v)) e) ∙ none_at (is_apart v) n.slots.items ((well.listed q v f).apart mixed) p) r in
    let k = found_key (is_key table columns) (is_coded v n.by_code) n.known.items known (well.listed q v f).coded in
    let ks = both (k.0.table.0 == table.0) (pointwise nat_eq k.0.columns.items columns) k.1 in
    let of_table : k.0.table.0 ≡ table.0 = eqb-true k.0.table.0 table.0 ks.0 in
    let of_columns : k.0.columns.items ≡ columns = (bytes_eq-Decides k.0.columns.items columns).0 ks.1 in
    let c = coded_alike table columns asked v.values h in
    let same : Some c.0 ≡ Some code = sym c.1 ∙ is in
    let coded : note_code k.0 v ≡ Some code = ap (λ t'. option_and_then (λ row. code_from t' k.0.columns.items row) v.values) of_table ∙ ap (λ cs. option_and_then (λ row. code_from table.0 cs row) v.values) of_columns ∙ c.2 ∙ same in
    let listed = listed_by_code v n.by_code k.0 code (sym one ∙ eqb-true w.table.0 table.0 t ∙ sym of_table) coded k.2 in
    subst (λ r. has_place (noted n.by_code code) r ≡ true) (eqb-true v.row.0 w.row.0 r) listed

-- the row of whichever note took the key is a candidate
pub taking_row : (committed : TxId → Bool) (slots : List (Option Noted)) (candidates : List ℕ) (table : TableId) (tx : TxId) (except : Option RowId) (asked : List Value) (columns : List ℕ)
    → Leads slots candidates table columns asked → (place : ℕ) (w : Noted) → at slots place ≡ Some w → takes committed (kept slots) table tx except asked columns w ≡ true → has_place candidates w.row.0 ≡ true
taking_row committed slots candidates table tx except asked columns leads place w e h =
    let ws = kept slots in
    let t = both ((w.table.0 == table.0) && (is_another except w.row && (counts_for committed tx w && has_key columns asked w.values))) (newest_has committed ws columns asked w.row tx) h in
    let u = both (w.table.0 == table.0) (is_another except w.row && (counts_for committed tx w && has_key columns asked w.values)) t.0 in
    let v = both (is_another except w.row) (counts_for committed tx w && has_key columns asked w.values) u.1 in
    leads place place w w e e u.0 (eq-eqb w.row.0 w.row.0 refl) (both (counts_for committed tx w) (has_key columns asked w.values) v.1).1
