-- What stays true of the database from one target to the next, and which versions can be taken.
use Rattle.std.proofs.Common.{◌≡◌, ℕ, ◌<◌, ◌≤◌, suc, zero, List, [], ◌∷◌, length, get_or, refl, ap, sym, ◌∙◌, subst, arith, inl, inr, ◌⊎◌, All}
use Rattle.std.specs.Prelude.{Option, Some, None, slice_get, option_map, option_and_then, unwrap_or, filter_map}
use Rattle.std.proofs.lemmas.List.{length-map}
use Rattle.std.proofs.lemmas.List.Elements.{Contains-get_or}
use Rattle.std.proofs.lemmas.Option.{slice_get_cases, same_Some}
use Rattle.sql_values.specs.declared.value.Value.{Value}
use Rattle.row_versions.specs.declared.names.TxId.{TxId}
use Rattle.row_versions.specs.declared.names.RowId.{RowId}
use Rattle.row_versions.specs.declared.names.TableId.{TableId}
use Rattle.row_versions.specs.declared.write.Write.{Write}
use Rattle.row_versions.specs.declared.write.View.{View}
use Rattle.row_versions.specs.declared.write.Seen.{Seen}
use Rattle.row_versions.specs.Log.{Content, values_at}
use Rattle.row_versions.specs.Rows.{rows_of}
use Rattle.row_versions.specs.Newest.{newest_of}
use Rattle.row_versions.specs.Laws.{IsShown, IsNewest}
use Rattle.row_versions.proofs.Shown.{shown_from_rows}
use Rattle.row_versions.proofs.Last.{newest_is_the_last}
use Rattle.session_machine.specs.Tables.{Database, Catalog, Table}
use Rattle.session_machine.specs.Inner.Pieces.{table_columns}
use Rattle.session_machine.specs.Sound.{RowsFit, RowsStay}
use Rattle.session_machine.specs.Rows.{Work, cols_in, columns_in, newest_values}
use Rattle.session_statements.specs.Inner.Keeping.{RowIn, RowsIn, IsOrderly}

-- the columns of the table at a place
pub columns_are : (catalog : Catalog) (k : ℕ) (t : Table) → slice_get catalog.tables k ≡ Some t → length (table_columns catalog k) ≡ length t.made.columns
columns_are catalog k t at = ap (λ (o : Option Table). length (unwrap_or (option_map (λ (x : Table). x.made.columns) o) [])) at

-- a write of a row of the table is one of the table
pub in_table : (c : Content) (k : ℕ) (row : RowId) (place : ℕ) (w : Write) → RowsStay c → RowIn c k row → slice_get c.log place ≡ Some w → w.row ≡ row → w.table.0 ≡ k
in_table c k row place w stay its there is =
    let s = stay place w there in
    let same : s.0 ≡ its.0 = same_Some s.0 its.0 (sym s.1 ∙ ap (λ (r : RowId). slice_get c.log r.0) is ∙ its.1) in
    sym (ap (λ (t : TableId). t.0) s.2) ∙ ap (λ (v : Write). v.table.0) same ∙ its.2

-- values of a write of the row are as many as the columns
pub as_many : (c : Content) (catalog : Catalog) (k : ℕ) (place : ℕ) (w : Write) (values : List Value) → RowsFit c catalog → slice_get c.log place ≡ Some w → w.values ≡ Some values → w.table.0 ≡ k
    → length values ≡ length (table_columns catalog k)
as_many c catalog k place w values fit there its is =
    let f = fit place w values there its in
    f.2 ∙ sym (columns_are catalog k f.0 (ap (slice_get catalog.tables) (sym is) ∙ f.1))

-- the values of a version are those of its write
pub its_values : (c : Content) (place : ℕ) (w : Write) → slice_get c.log place ≡ Some w → values_at c place ≡ w.values
its_values c place w there = ap (option_and_then (λ (v : Write). v.values)) there

-- a row that a view shows of a table is one of the table
pub shown_in : (c : Content) (view : View) (k : ℕ) → RowsStay c → RowsIn c k (rows_of c view (record { 0 = k }))
shown_in c view k stay i d l =
    let table : TableId = record { 0 = k } in
    let s : Seen = get_or (rows_of c view table) i d in
    let h : IsShown c view table s = shown_from_rows c view table s (Contains-get_or (rows_of c view table) i d l) in
    let f = stay s.place h.write h.there in
    (f.0, ap (λ (r : RowId). slice_get c.log r.0) (sym h.its_row) ∙ f.1, ap (λ (t : TableId). t.0) (f.2 ∙ h.its_table))

found : {X : Type 0} (P : X → Type 0) (xs : List X) (p : ℕ) (x : X) → All P xs → slice_get xs p ≡ Some x
    → ((w : X) × (p < length xs) × (slice_get xs p ≡ Some w) × (get_or xs p w ≡ w)) ⊎ ((length xs ≤ p) × (slice_get xs p ≡ None)) → P x
found P xs p x h e (inl w) = subst P (w.3 ∙ same_Some w.0 x (sym w.2 ∙ e)) (h p w.0 w.1)
found P xs p x h e (inr w) = let z = w.1 in cc

first : {X : Type 0} (P : X → Type 0) (x : X) (rest : List X) → P x → All P rest → All P (x ∷ rest)
first P x rest p r zero d l = p
first P x rest p r (suc i) d l = r i d (omega (arith, l))

abbrev put : {X : Type 0} → Option X → List X → List X
put None xs = xs
put (Some x) xs = x ∷ xs

at_found : {X : Type 0} (P : X → Type 0) (rest : List X) (o : Option X) → ((x : X) → o ≡ Some x → P x) → All P rest → All P (put o rest)
at_found P rest None h r = r
at_found P rest (Some x) h r = first P x rest (h x refl) r

-- what holds of all holds of those at some places
pub picked_hold : {X : Type 0} (P : X → Type 0) (xs : List X) (places : List ℕ) → All P xs → All P (filter_map (slice_get xs) places)
picked_hold P xs [] h = λ i d l. absurd (omega (arith, l))
picked_hold P xs (p ∷ ps) h = at_found P (filter_map (slice_get xs) ps) (slice_get xs p) (λ x e. found P xs p x h e (slice_get_cases xs p).1) (picked_hold P xs ps h)

-- the newest version of a row of the table has a value for each column
pub newest_fits : (db : Database) (w : Work) (row : RowId) (tx : TxId) → IsOrderly db → RowIn db.content w.table row → (m : Seen) (values : List Value)
    → newest_of db.content row tx ≡ Some m → values_at db.content m.place ≡ Some values → length values ≡ length (cols_in db w)
newest_fits db w row tx orderly its m values is has =
    let h : IsNewest db.content row tx m = ((newest_is_the_last db.content row tx).0 m).0 is in
    as_many db.content db.catalog w.table m.place h.write values orderly.0 h.there (sym (its_values db.content m.place h.write h.there) ∙ has)
    (in_table db.content w.table row m.place h.write orderly.1 its h.there h.its_row)
    ∙ sym (length-map (columns_in db w) _)

-- the values of the newest version that a transaction finds of a row of the table, likewise
pub newest_values_fit : (db : Database) (w : Work) (row : RowId) → IsOrderly db → RowIn db.content w.table row → (values : List Value) → newest_values db w row ≡ Some values
    → length values ≡ length (columns_in db w)
newest_values_fit db w row orderly its values has = by (newest_of db.content row w.t.tx) refl has where
  by : (o : Option Seen) → newest_of db.content row w.t.tx ≡ o → option_and_then (λ (m : Seen). values_at db.content m.place) o ≡ Some values → length values ≡ length (columns_in db w)
  by None is has = cc
  by (Some m) is has = newest_fits db w row w.t.tx orderly its m values is has ∙ length-map (columns_in db w) _
