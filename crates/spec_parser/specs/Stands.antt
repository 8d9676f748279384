-- To be believed. What holds of every spec: numbers, counts and places.
use Rattle.std.specs.Prelude.{◌≡◌, ◌≤◌, ◌<◌, ◌+◌, ◌-◌, ℕ, List, ◌∷◌, ◌++◌, length, map, All, slice_index_or, flat_map, option_to_list, slice_range}
use Rattle.std.specs.List.{range_with_len}
use Rattle.iso_lexer.specs.declared.limits.TheConstants.{MOST_ENTRIES, MOST_SESSIONS, MOST_STEPS}
use Rattle.iso_lexer.specs.SpecSpelling.{NameSpells}
use Rattle.spec_parser.specs.declared.tree.Marker.{Marker}
use Rattle.spec_parser.specs.declared.tree.Marker.TheVariants as markers
use Rattle.spec_parser.specs.Trees.{PartTree, StepTree, SessionTree, EntryTree, SpecTree, NameAt, StepOf, SessionOf, FileTree}
use Rattle.spec_parser.specs.IsSpec.{IsSpec}

-- ---- numbers

-- there is a session k, from 1, and it has a step j, from 0
pub record StepStands (sessions : List SessionTree) (k j : ℕ) : Type 0 where
  pub from_one : 0 < k
  pub session : k ≤ length sessions
  pub step : (s : SessionTree) → j < length (slice_index_or sessions (k - 1) s).steps

abbrev pub MarkerStands : List SessionTree → Marker → Type 0
MarkerStands sessions markers.Star = Unit {0}
MarkerStands sessions (markers.Step k j) = StepStands sessions k j

pub record EntryStands (sessions : List SessionTree) (e : EntryTree) : Type 0 where
  pub step : StepStands sessions e.session e.step
  pub markers : All (MarkerStands sessions) e.markers

-- a permutation of 1 to 1,000 entries, each of a step that is there
pub record PermStands (sessions : List SessionTree) (p : List EntryTree) : Type 0 where
  pub some : 0 < length p
  pub few : length p ≤ MOST_ENTRIES
  pub each : All (EntryStands sessions) p

-- ---- blocks

abbrev pub session_parts : SessionTree → List PartTree
session_parts s = option_to_list s.setup ++ (map (λ (x : StepTree). x.part) s.steps ++ option_to_list s.teardown)

-- all blocks, in file order
abbrev pub parts_of : SpecTree → List PartTree
parts_of s = s.setups ++ (option_to_list s.teardown ++ flat_map session_parts s.sessions)

abbrev pub session_names : SessionOf NameAt → List NameAt
session_names s = s.name ∷ map (λ (x : StepOf NameAt). x.name) s.steps

-- the names of all sessions and steps with their places, in file order
abbrev pub all_names : FileTree → List NameAt
all_names f = flat_map session_names f.sessions

-- a block's text is the slice of the text at its place
pub record PartLies (text : List ℕ) (p : PartTree) : Type 0 where
  pub within : p.at + length p.sql ≤ length text
  pub slice : slice_range text p.at (p.at + length p.sql) ≡ p.sql

-- a name is the slice of the text at its place as it is spelled, with its quotes
pub record NameLies (text : List ℕ) (n : NameAt) : Type 0 where
  pub end : ℕ
  pub within : end ≤ length text
  pub slice : NameSpells n.name (slice_range text n.at end)

-- ---- the whole

pub record Stands (s : SpecTree) : Type 0 where
  pub some_sessions : 0 < length s.sessions
  pub few_sessions : length s.sessions ≤ MOST_SESSIONS
  pub some_steps : All (λ x. 0 < length x.steps) s.sessions
  pub few_steps : length (flat_map (λ (x : SessionTree). x.steps) s.sessions) ≤ MOST_STEPS
  pub perms : All (PermStands s.sessions) s.perms
  -- the blocks have the numbers from 0, in file order
  pub numbered : map (λ (p : PartTree). p.block) (parts_of s) ≡ range_with_len 0 (length (parts_of s))

-- the text is this spec, and has its blocks and names where it says
pub record LiesIn (text : List ℕ) (s : SpecTree) : Type 0 where
  pub spec : IsSpec text s
  pub parts : All (PartLies text) (parts_of s)
  pub names : All (NameLies text) (all_names spec.file)
