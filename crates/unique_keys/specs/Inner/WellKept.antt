-- What holds of the notes and of the lists by which they are found.
use Rattle.std.specs.Prelude.{◌≡◌, ◌==◌, ℕ, true, false, List, length, Option, Some}
use Rattle.std.specs.List.{list_all, list_any}
use Rattle.places.specs.declared.places.Places.{Places}
use Rattle.places.specs.Noted.{has_place, noted}
use Rattle.sql_values.specs.declared.value.Value.{Value}
use Rattle.row_versions.specs.declared.names.TableId.{TableId}
use Rattle.unique_keys.specs.declared.noted.Noted.{Noted}
use Rattle.unique_keys.specs.declared.notes.Notes.{Notes}
use Rattle.unique_keys.specs.Keys.{has_key}
use Rattle.unique_keys.specs.Inner.Slots.{at, is_elsewhere, kept}
use Rattle.unique_keys.specs.Inner.Listing.{AreOnce, Rising, is_coded}

-- the note at the place is listed: for its row and for its transaction; and its row is listed for each known key that it has
pub record IsListed (notes : Notes) (w : Noted) (place : ℕ) : Type 0 where
  pub in_row : has_place (noted notes.by_row w.row.0) place ≡ true
  pub in_tx : has_place (noted notes.by_tx w.tx.0) place ≡ true
  pub coded : list_all (is_coded w notes.by_code) notes.known.items ≡ true
  pub apart : notes.mixed ≡ false → list_any (is_elsewhere w.table w.row) (kept notes.slots.items) ≡ false

-- each row for which a place is listed is among all
abbrev pub AreAll : Places → List ℕ → Type 0
AreAll by_row all = (row place : ℕ) → has_place (noted by_row row) place ≡ true → has_place all row ≡ true

-- each note is listed, the lists of rows rise, each row is among all, and none is listed twice for a code
pub record WellKept (notes : Notes) : Type 0 where
  pub listed : (place : ℕ) (w : Noted) → at notes.slots.items place ≡ Some w → IsListed notes w place
  pub rows_rise : Rising (length notes.slots.items) notes.by_row
  pub rows : AreAll notes.by_row notes.all.items
  pub once : AreOnce notes.by_code

-- among the candidates are all rows that were noted in the table and of which a note has the key
abbrev pub Leads : List (Option Noted) → List ℕ → TableId → List ℕ → List Value → Type 0
Leads slots candidates table columns asked = (p q : ℕ) (w v : Noted) → at slots p ≡ Some w → at slots q ≡ Some v → (w.table.0 == table.0) ≡ true → (v.row.0 == w.row.0) ≡ true
    → has_key columns asked v.values ≡ true → has_place candidates w.row.0 ≡ true
