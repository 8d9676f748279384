-- Notes in slots, some of which are empty, and lists of the places of slots.
use Rattle.std.specs.Prelude.{◌≡◌, ◌==◌, ◌≤◌, ◌<◌, nat_lt, cond, ℕ, Bool, true, false, not, ◌&&◌, List, [], ◌∷◌, Option, Some, None, option_and_then, slice_get}
use Rattle.std.specs.Option.{option_map_or, MatchOption}
use Rattle.places.specs.Noted.{has_place}
use Rattle.row_versions.specs.declared.names.RowId.{RowId}
use Rattle.row_versions.specs.declared.names.TableId.{TableId}
use Rattle.unique_keys.specs.declared.noted.Noted.{Noted}

-- the note at the place
abbrev pub at : List (Option Noted) → ℕ → Option Noted
at slots place = option_and_then (λ slot. slot) (slice_get slots place)

-- the notes that are there, in order
abbrev pub kept : List (Option Noted) → List Noted
kept [] = []
kept (None ∷ slots) = kept slots
kept (Some note ∷ slots) = note ∷ kept slots

-- a note is there, and it passes the test
abbrev pub passes : (Noted → Bool) → Option Noted → Bool
passes test slot = option_map_or test slot false

-- the note is of the row, and of another table
abbrev pub is_elsewhere : TableId → RowId → Noted → Bool
is_elsewhere table row w = (w.row.0 == row.0) && not (w.table.0 == table.0)

-- among the places are those of all notes that pass the test
abbrev pub Listed : List (Option Noted) → List ℕ → (Noted → Bool) → Type 0
Listed slots places test = (place : ℕ) → passes test (at slots place) ≡ true → has_place places place ≡ true

-- no place is below an earlier one, and none is above the limit
abbrev pub Rises : ℕ → List ℕ → Type 0
Rises limit [] = Unit {0}
Rises limit (place ∷ places) = (place ≤ limit) × ((later : ℕ) → has_place places later ≡ true → place ≤ later) × Rises limit places

-- the place is the first whose note passes the test
pub record IsFirstAt (test : Noted → Bool) (slots : List (Option Noted)) (place : ℕ) : Type 0 where
  pub there : passes test (at slots place) ≡ true
  pub none_before : (k : ℕ) → k < place → passes test (at slots k) ≡ false

-- if any does
abbrev pub IsFirst : (Noted → Bool) → List (Option Noted) → Option ℕ → Type 0
IsFirst test slots found = MatchOption found ((k : ℕ) → passes test (at slots k) ≡ false) (IsFirstAt test slots)

-- the smaller of two places, where there are two
abbrev pub earlier : Option ℕ → Option ℕ → Option ℕ
earlier None b = b
earlier (Some a) None = Some a
earlier (Some a) (Some b) = Some (cond (nat_lt b a) b a)
