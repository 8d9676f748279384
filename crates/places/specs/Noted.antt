-- Lists of places, and how one is struck from them.
use Rattle.std.specs.Prelude.{◌≡◌, ◌==◌, ℕ, Bool, false, not, if◌then◌else◌, List, [], ◌∷◌, filter}
use Rattle.std.specs.List.{list_any}
use Rattle.std.specs.Option.{option_map_or}
use Rattle.std.specs.HashMap.{get}
use Rattle.std.specs.Prelude.{nat_eq}
use Rattle.places.specs.declared.places.Places.{Places}

-- the places that are noted for the number, none where the map has no list for it
abbrev pub noted : Places → ℕ → List ℕ
noted places number = option_map_or (λ kept. kept.items) (get nat_eq places.map number) []

-- the place is in the list
abbrev pub has_place : List ℕ → ℕ → Bool
has_place places place = list_any (λ other. other == place) places

-- no place is in the list twice
abbrev pub has_no_place_twice : List ℕ → Type 0
has_no_place_twice [] = Unit {0}
has_no_place_twice (place ∷ rest) = (has_place rest place ≡ false) × has_no_place_twice rest

-- the list without the last of the places that are equal to this one
abbrev pub without_last : ℕ → List ℕ → List ℕ
without_last place [] = []
without_last place (first ∷ rest) = if has_place rest place then first ∷ without_last place rest else if first == place then rest else first ∷ rest

-- of a list that has no place twice, to strike a place is to keep all others
abbrev pub StrikingOneOfDistinct : Type 0
StrikingOneOfDistinct = (place : ℕ) (places : List ℕ) → has_no_place_twice places → without_last place places ≡ filter (λ other. not (other == place)) places
