-- Rows fit their tables and stay in them; a write or a table more leaves them so.
use Rattle.std.proofs.Common.{◌≡◌, ℕ, suc, ◌+◌, Bool, true, false, List, [], ◌∷◌, ◌++◌, length, length-append, refl, ap, sym, ◌∙◌, subst, arith, inl, inr, ◌⊎◌}
use Rattle.std.specs.Prelude.{Option, Some, unwrap_or, option_map, option_and_then, slice_get, if◌then◌else◌}
use Rattle.std.proofs.lemmas.Bool.{cases_eq}
use Rattle.std.proofs.lemmas.Option.{slice_get_within, same_Some}
use Rattle.sql_trees.specs.Statements.{CreateTree}
use Rattle.sql_values.specs.declared.value.Value.{Value}
use Rattle.row_versions.specs.declared.names.TxId.{TxId}
use Rattle.row_versions.specs.declared.write.Write.{Write}
use Rattle.row_versions.specs.Log.{Content, values_at, after_write}
use Rattle.row_versions.proofs.Gets.{get-append_left, get-append_last}
use Rattle.session_machine.specs.Tables.{Database, Catalog, Table, Dropped, is_meant, find_table}
use Rattle.session_machine.specs.Inner.Pieces.{table_columns, with_table, find_from}
use Rattle.session_machine.proofs.Piecewise.{finds_by}
use Rattle.session_machine.specs.Sound.{RowsFit, RowsStay}
use Rattle.session_laws.proofs.Lists.{slice_get-append_left}

-- what the write at a place gave fits the table of that number
pub fits_at : (c : Content) (catalog : Catalog) (k : ℕ) (t : Table) → RowsFit c catalog → slice_get catalog.tables k ≡ Some t
    → (place : ℕ) (w : Write) → slice_get c.log place ≡ Some w → w.table.0 ≡ k
    → (values : List Value) → w.values ≡ Some values → length values ≡ length t.made.columns
fits_at c catalog k t fit at place w there its values e =
    let f = fit place w values there e in
    f.2 ∙ ap (λ (x : Table). length x.made.columns) (same_Some f.0 t (sym f.1 ∙ ap (slice_get catalog.tables) its ∙ at))

pub its_values : (c : Content) (place : ℕ) (w : Write) → slice_get c.log place ≡ Some w → values_at c place ≡ w.values
its_values c place w there = ap (option_and_then (λ (v : Write). v.values)) there

-- the first write of the row stands in the log, and is of that table
abbrev pub IsRowOf : Content → ℕ → ℕ → Type 0
IsRowOf c k row = (first : Write) × (slice_get c.log row ≡ Some first) × (first.table.0 ≡ k)

-- what stands in a log with a last write: a write from before, or that one
last_or_before : (c : Content) (new : Write) (place : ℕ) (w : Write) → slice_get (after_write c new).log place ≡ Some w → (slice_get c.log place ≡ Some w) ⊎ (new ≡ w)
last_or_before c new place w there =
    elim (cases_eq place (length c.log)) [
      | inl last ↦ inr (same_Some new w (sym (get-append_last c.log new) ∙ (ap (slice_get (c.log ++ new ∷ [])) (sym last) ∙ there)))
      | inr other ↦
          let within = slice_get_within (c.log ++ new ∷ []) place w there in
          let long = length-append c.log (new ∷ []) in
          inl (sym (get-append_left c.log (new ∷ []) place (omega arith)) ∙ there)
    ]

-- a write more fits if what it gives does
pub fit_written : (c : Content) (catalog : Catalog) (table : Table) (new : Write) → RowsFit c catalog → slice_get catalog.tables new.table.0 ≡ Some table
    → ((values : List Value) → new.values ≡ Some values → length values ≡ length table.made.columns) → RowsFit (after_write c new) catalog
fit_written c catalog table new fit at long place w vs there its =
    elim (last_or_before c new place w there) [
      | inl before ↦ fit place w vs before its
      | inr e ↦ (table, ap (λ (v : Write). slice_get catalog.tables v.table.0) (sym e) ∙ at, long vs (ap (λ (v : Write). v.values) e ∙ its))
    ]

-- and stays if its row is one of its table
pub stay_written : (c : Content) (new : Write) → RowsStay c → (let d = after_write c new in (first : Write) × (slice_get d.log new.row.0 ≡ Some first) × (first.table ≡ new.table))
    → RowsStay (after_write c new)
stay_written c new stay first place w there =
    elim (last_or_before c new place w there) [
      | inl before ↦ let f = stay place w before in (f.0, slice_get-append_left c.log (new ∷ []) w.row.0 f.0 f.1, f.2)
      | inr e ↦ subst (λ (v : Write). (let d = after_write c new in (f : Write) × (slice_get d.log v.row.0 ≡ Some f) × (f.table ≡ v.table))) e first
    ]

-- the table of that place, counted from a first one
abbrev pub StandsFrom : ℕ → List Table → ℕ → Type 0
StandsFrom from tables k = (i : ℕ) × (k ≡ from + i) × (t : Table) × (slice_get tables i ≡ Some t)

-- the place that a name means is that of a table
pub find_from_within : (c : Content) (own : Option TxId) (drops : List Dropped) (name : List ℕ) (from : ℕ) (tables : List Table) (k : ℕ)
    → find_from c own drops name from tables ≡ Some k → StandsFrom from tables k
find_from_within c own drops name from [] k h = cc
find_from_within c own drops name from (t ∷ ts) k h = at_test (is_meant c own drops name from t) (find_from_within c own drops name (from + 1) ts k) h where
  at_test : (b : Bool) → (find_from c own drops name (from + 1) ts ≡ Some k → StandsFrom (from + 1) ts k)
      → (if b then Some from else find_from c own drops name (from + 1) ts) ≡ Some k → StandsFrom from (t ∷ ts) k
  at_test true rest e = (0, (let z : from ≡ k = cc in omega arith), t, refl)
  at_test false rest e = let r = rest e in (suc r.0, (let z = r.1 in omega arith), r.2, r.3)

pub find_table_within : (db : Database) (own : Option TxId) (name : List ℕ) (k : ℕ) → find_table db own name ≡ Some k
    → (t : Table) × (slice_get db.catalog.tables k ≡ Some t)
find_table_within db own name k h =
    let r = find_from_within db.content own db.catalog.drops name 0 db.catalog.tables k (sym (finds_by db own name) ∙ h) in
    (r.2, ap (slice_get db.catalog.tables) (let z = r.1 in let e : k ≡ r.0 = omega arith in e) ∙ r.3)

-- a table more takes no row from another
pub fit_tables : (c : Content) (catalog : Catalog) (made : CreateTree) (by : TxId) → RowsFit c catalog → RowsFit c (with_table catalog made by)
fit_tables c catalog made by fit place w values there its =
    let f = fit place w values there its in
    (f.0, slice_get-append_left catalog.tables _ w.table.0 f.0 f.1, f.2)

-- the columns of the table at a place
pub columns_are : (catalog : Catalog) (k : ℕ) (t : Table) → slice_get catalog.tables k ≡ Some t → table_columns catalog k ≡ t.made.columns
columns_are catalog k t at = ap (λ (o : Option Table). unwrap_or (option_map (λ (x : Table). x.made.columns) o) []) at
