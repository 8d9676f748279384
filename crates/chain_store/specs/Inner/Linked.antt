-- What the links of a store say of its content, and what a walk along them finds.
use Rattle.std.specs.Prelude.{◌≡◌, ◌==◌, ℕ, ◌<◌, ◌≤◌, Bool, true, false, not, ◌&&◌, ◌||◌, List, [], ◌∷◌, ◌++◌, Option, Some, slice_get, length, All, AllPairs, Contains, IfSome, MatchOption, if◌then◌else◌}
use Rattle.std.specs.List.Sorted.{IsStrictlyIncreasing}
use Rattle.std.specs.Option.{option_map_or}
use Rattle.places.specs.declared.places.Places.{Places}
use Rattle.places.specs.Noted.{noted, has_place}
use Rattle.row_versions.specs.declared.names.TxId.{TxId}
use Rattle.row_versions.specs.declared.names.RowId.{RowId}
use Rattle.row_versions.specs.declared.names.TableId.{TableId}
use Rattle.row_versions.specs.declared.write.Write.{Write}
use Rattle.row_versions.specs.declared.write.View.{View}
use Rattle.row_versions.specs.declared.write.Seen.{Seen}
use Rattle.row_versions.specs.declared.write.Fate.{Fate}
use Rattle.row_versions.specs.declared.write.Fate.TheVariants.{RolledBack}
use Rattle.row_versions.specs.Members.{same_tx}
use Rattle.row_versions.specs.Log.{Content, fate_of, has_committed}
use Rattle.row_versions.specs.View.{sees}
use Rattle.row_versions.specs.Laws.{IsShown}
use Rattle.chain_store.specs.declared.links.Links.{Links}
use Rattle.chain_store.specs.declared.walk.Asker.{Asker}
use Rattle.chain_store.specs.declared.walk.Asker.TheVariants.{ByView, ByTx}

-- it is the fate of a transaction that was rolled back
abbrev pub is_roll_back : Option Fate → Bool
is_roll_back fate = elim fate [ Some RolledBack ↦ true | other ↦ false ]

-- the transaction was rolled back
abbrev pub rolled_back : List Fate → TxId → Bool
rolled_back fates tx = is_roll_back (fate_of fates tx)

-- the view is not one of a transaction that was rolled back
abbrev pub Stands : Content → View → Type 0
Stands c view = IfSome view.tx (λ tx. rolled_back c.fates tx ≡ false)

-- the place of the log has a write that passes the test
abbrev pub passes_at : List Write → (Write → Bool) → ℕ → Bool
passes_at log test place = option_map_or test (slice_get log place) false

-- it is a write of the row, and was not rolled back
abbrev pub is_linked : List Fate → ℕ → Write → Bool
is_linked fates row w = (w.row.0 == row) && not (rolled_back fates w.tx)

-- it is a write of the transaction
abbrev pub is_own : ℕ → Write → Bool
is_own tx w = w.tx.0 == tx

-- it is a write of the row
abbrev pub is_of_row : ℕ → Write → Bool
is_of_row row w = w.row.0 == row

-- the places rise, and are all those that pass the test
pub record IsChain (places : List ℕ) (test : ℕ → Bool) : Type 0 where
  pub rise : IsStrictlyIncreasing places
  pub all : (place : ℕ) → has_place places place ≡ test place

-- what the links say of the content
pub record AreLinks (c : Content) (links : Links) : Type 0 where
  pub chains : (row : ℕ) → IsChain (noted links.rows row) (passes_at c.log (is_linked c.fates row))
  pub own : (tx place : ℕ) → has_place (noted links.own tx) place ≡ passes_at c.log (is_own tx) place
  pub tables : (table : ℕ) → IsStrictlyIncreasing (noted links.tables table)
  pub within : (table row : ℕ) → has_place (noted links.tables table) row ≡ true → row < length c.log
  pub listed : (place : ℕ) (w : Write) → slice_get c.log place ≡ Some w → rolled_back c.fates w.tx ≡ false → has_place (noted links.tables w.table.0) w.row.0 ≡ true

-- what one place, added for a number, adds to the list of another
abbrev pub added_for : ℕ → ℕ → ℕ → List ℕ
added_for number place other = if number == other then place ∷ [] else []

-- the place was added for the number, and nothing else changed
abbrev pub IsAdded : Places → ℕ → ℕ → Places → Type 0
IsAdded before number place after = (other : ℕ) → noted after other ≡ noted before other ++ added_for number place other

-- the write was noted in each of the lists that it belongs to
pub record IsNoted (before : Links) (place : ℕ) (tx : TxId) (table : TableId) (row : RowId) (is_new : Bool) (after : Links) : Type 0 where
  pub rows : IsAdded before.rows row.0 place after.rows
  pub own : IsAdded before.own tx.0 place after.own
  -- a new row is noted for its table
  pub new : is_new ≡ true → IsAdded before.tables table.0 row.0 after.tables
  pub same : is_new ≡ false → (other : ℕ) → noted after.tables other ≡ noted before.tables other

-- the place is among those that are struck, and has a write of the row
abbrev pub is_struck : List Write → List ℕ → ℕ → ℕ → Bool
is_struck log places row place = has_place places place && passes_at log (is_of_row row) place

-- the write counts for who asks
abbrev pub counts : Content → Asker → Write → Bool
counts c asker w = elim asker [ ByView view ↦ sees c.fates view w | ByTx tx ↦ has_committed c w.tx || same_tx w.tx tx ]

-- none of the places passes the test
abbrev pub NonePasses : (ℕ → Bool) → List ℕ → Type 0
NonePasses test places = (place : ℕ) → has_place places place ≡ true → test place ≡ false

-- the place is the greatest of those that pass the test
pub record IsGreatest (test : ℕ → Bool) (places : List ℕ) (place : ℕ) : Type 0 where
  pub there : has_place places place ≡ true
  pub passes : test place ≡ true
  pub last : (other : ℕ) → has_place places other ≡ true → test other ≡ true → other ≤ place

-- it is the greatest of the places that pass the test, if any does
abbrev pub IsLastOf : (ℕ → Bool) → List ℕ → Option ℕ → Type 0
IsLastOf test places found = MatchOption found (NonePasses test places) (IsGreatest test places)

-- the list has each version that the view shows in the table, one for a row
pub record HasTheShown (c : Content) (view : View) (table : TableId) (rows : List Seen) : Type 0 where
  pub shown : All (IsShown c view table) rows
  pub complete : (seen : Seen) → IsShown c view table seen → Contains rows seen
  pub once : AllPairs (λ a b. a.row.0 < b.row.0) rows
