-- What slots hold: pairs of a slot and its value, in the order in which the values were added.
use Rattle.std.specs.Prelude.{◌≡◌, ◌==◌, ℕ, suc, Bool, false, List, [], ◌∷◌, Option, Some, None, map}
use Rattle.std.specs.List.{list_any}
use Rattle.std.specs.Map.{lookup, remove_entry, set_value}
use Rattle.ordered_slots.specs.declared.slots.OrderedSlots.{OrderedSlots}

module _ {T : Type 0} where
  -- of slots in a row, the first of which has this number, those that have a value, each with its value
  abbrev pub filled : ℕ → List (Option T) → List (ℕ × T)
  filled slot [] = []
  filled slot (None ∷ rest) = filled (suc slot) rest
  filled slot (Some value ∷ rest) = (slot, value) ∷ filled (suc slot) rest

  -- the slots that have a value, each with its value, those first that were added first
  abbrev pub kept : OrderedSlots T → List (ℕ × T)
  kept slots = filled slots.first slots.slots.items

  -- the values, those first that were added first
  abbrev pub values : List (ℕ × T) → List T
  values pairs = map (λ pair. pair.1) pairs

  -- the slots, those first whose values were added first
  abbrev pub slots : List (ℕ × T) → List ℕ
  slots pairs = map (λ pair. pair.0) pairs

  -- the slot has a value
  abbrev pub has_slot : List (ℕ × T) → ℕ → Bool
  has_slot pairs slot = list_any (λ pair. pair.0 == slot) pairs

  -- no slot has two values
  abbrev pub has_no_slot_twice : List (ℕ × T) → Type 0
  has_no_slot_twice [] = Unit {0}
  has_no_slot_twice (pair ∷ rest) = (has_slot rest pair.0 ≡ false) × has_no_slot_twice rest

  -- the value in the slot
  abbrev pub value_in : List (ℕ × T) → ℕ → Option T
  value_in pairs slot = lookup (λ other. other == slot) pairs

  -- the pairs without the slot's
  abbrev pub without_slot : ℕ → List (ℕ × T) → List (ℕ × T)
  without_slot slot pairs = remove_entry (λ other. other == slot) pairs

  -- the pairs with another value in the slot, if it has one
  abbrev pub with_value : ℕ → T → List (ℕ × T) → List (ℕ × T)
  with_value slot value pairs = set_value (λ other. other == slot) pairs value
