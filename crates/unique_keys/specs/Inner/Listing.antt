-- What stays where a place is listed or struck.
use Rattle.std.specs.Prelude.{◌≡◌, ◌==◌, ℕ, Bool, true, false, not, ◌&&◌, ◌||◌, List, nat_eq}
use Rattle.std.specs.Option.{option_map_or}
use Rattle.std.specs.Cmp.Lexicographic.{pointwise}
use Rattle.places.specs.declared.places.Places.{Places}
use Rattle.places.specs.Noted.{has_no_place_twice, has_place, noted}
use Rattle.row_versions.specs.declared.names.TableId.{TableId}
use Rattle.unique_keys.specs.declared.noted.Noted.{Noted}
use Rattle.unique_keys.specs.declared.known.KnownKey.{KnownKey}
use Rattle.unique_keys.specs.Inner.Codes.{note_code}
use Rattle.unique_keys.specs.Inner.Slots.{Rises}

-- all lists rise, up to the limit
abbrev pub Rising : ℕ → Places → Type 0
Rising limit places = (number : ℕ) → Rises limit (noted places number)

-- at most this place was added, which is behind all
pub record GrownList (place : ℕ) (old new : List ℕ) : Type 0 where
  pub once : has_place old place ≡ false → has_no_place_twice old → has_no_place_twice new
  pub keeps : (p : ℕ) → has_place old p ≡ true → has_place new p ≡ true
  pub rises : Rises place old → Rises place new

abbrev pub Grown : ℕ → Places → Places → Type 0
Grown place old new = (number : ℕ) → GrownList place (noted old number) (noted new number)

-- at most this place was struck
pub record ShrunkList (place : ℕ) (old new : List ℕ) : Type 0 where
  pub once : has_no_place_twice old → has_no_place_twice new
  pub keeps : (p : ℕ) → (p == place) ≡ false → has_place old p ≡ true → has_place new p ≡ true
  pub only : (p : ℕ) → has_place new p ≡ true → has_place old p ≡ true
  pub rises : (limit : ℕ) → Rises limit old → Rises limit new

abbrev pub Shrunk : ℕ → Places → Places → Type 0
Shrunk place old new = (number : ℕ) → ShrunkList place (noted old number) (noted new number)

-- it is the key of these columns of the table
abbrev pub is_key : TableId → List ℕ → KnownKey → Bool
is_key table columns key = (key.table.0 == table.0) && pointwise nat_eq key.columns.items columns

-- each row is listed once for a code
abbrev pub AreOnce : Places → Type 0
AreOnce by_code = (code : ℕ) → has_no_place_twice (noted by_code code)

-- the rows that were listed for a code still are
abbrev pub KeepsRows : Places → Places → Type 0
KeepsRows old new = (row code : ℕ) → has_place (noted old code) row ≡ true → has_place (noted new code) row ≡ true

-- if the note is of the key's table, and has values of which none in the key is NULL, its row is listed for its code
abbrev pub is_coded : Noted → Places → KnownKey → Bool
is_coded w by_code key = not (w.table.0 == key.table.0) || option_map_or (λ code. has_place (noted by_code code) w.row.0) (note_code key w) true
