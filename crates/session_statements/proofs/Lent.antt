-- Rows that are lent out of a table have a value for each of its columns.
use Rattle.std.proofs.Common.{◌≡◌, refl, true, ℕ, ◌<◌, List, [], length, map, get_or, ap, sym, ◌∙◌, subst, All}
use Rattle.std.specs.Prelude.{Option, Some, None, is_some, slice_get, unwrap_or}
use Rattle.std.proofs.lemmas.List.{get_or-map, length-map}
use Rattle.std.proofs.lemmas.List.Elements.{All-map, Contains-get_or}
use Rattle.sql_values.specs.declared.value.Value.{Value}
use Rattle.row_versions.specs.declared.names.TableId.{TableId}
use Rattle.row_versions.specs.declared.write.Write.{Write}
use Rattle.row_versions.specs.declared.write.Seen.{Seen}
use Rattle.row_versions.specs.Log.{Content, values_at}
use Rattle.row_versions.specs.Rows.{rows_of}
use Rattle.row_versions.specs.Laws.{IsShown}
use Rattle.row_versions.proofs.Shown.{shown_from_rows}
use Rattle.session_machine.specs.Tables.{Catalog, Database}
use Rattle.session_machine.specs.Views.{rows_shown}
use Rattle.session_machine.specs.Rows.{Work, columns_in}
use Rattle.session_machine.specs.Inner.Pieces.{table_columns}
use Rattle.session_machine.specs.Sound.{RowsFit}
use Rattle.session_statements.specs.Inner.Keeping.{IsOrderly}
use Rattle.session_statements.proofs.Keeping.{as_many, its_values}

-- what a write gave has a value for each column of its table
fits_at : (c : Content) (catalog : Catalog) (k : ℕ) (place : ℕ) (w : Write) → RowsFit c catalog → slice_get c.log place ≡ Some w → w.table.0 ≡ k
    → (o : Option (List Value)) → w.values ≡ o → is_some o ≡ true → length (unwrap_or o []) ≡ length (table_columns catalog k)
fits_at c catalog k place w fit there its None e has = cc
fits_at c catalog k place w fit there its (Some values) e has = as_many c catalog k place w values fit there e its

-- so has each row that the statement's view shows
rows_shown_fit : (db : Database) (w : Work) → IsOrderly db → All (λ row. length row ≡ length (columns_in db w)) (rows_shown db.content w.view w.table)
rows_shown_fit db w orderly =
    All-map (λ (row : List Value). length row ≡ length (columns_in db w)) (λ (s : Seen). unwrap_or (values_at db.content s.place) []) rows
    (λ i d l. shown_fits (get_or rows i d) (shown_from_rows db.content w.view table (get_or rows i d) (Contains-get_or rows i d l))) where
      table : TableId
      table = record { 0 = w.table }

      rows : List Seen
      rows = rows_of db.content w.view table

      shown_fits : (s : Seen) → IsShown db.content w.view table s → length (unwrap_or (values_at db.content s.place) []) ≡ length (columns_in db w)
      shown_fits s h =
          ap (λ (o : Option (List Value)). length (unwrap_or o [])) (its_values db.content s.place h.write h.there)
          ∙ fits_at db.content db.catalog w.table s.place h.write orderly.0 h.there (ap (λ (x : TableId). x.0) h.its_table) h.write.values refl h.has_values

-- what holds of each image holds of each element's
all_back : {X Y : Type 0} (P : X → Type 0) (f : Y → X) (ys : List Y) → All P (map f ys) → All (λ y. P (f y)) ys
all_back P f ys h i d l = subst P (get_or-map f ys i d (f d) l) (h i (f d) (subst (λ n. i < n) (sym (length-map ys f)) l))

pub lent_fit : {R : Type 0} (row_of : R → List Value) (rows : List R) (db : Database) (w : Work) → IsOrderly db → map row_of rows ≡ rows_shown db.content w.view w.table
    → All (λ r. length (row_of r) ≡ length (columns_in db w)) rows
lent_fit row_of rows db w orderly same =
    all_back (λ (row : List Value). length row ≡ length (columns_in db w)) row_of rows
    (subst (λ (xs : List (List Value)). All (λ (row : List Value). length row ≡ length (columns_in db w)) xs) (sym same) (rows_shown_fit db w orderly))
