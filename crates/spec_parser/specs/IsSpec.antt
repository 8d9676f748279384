-- What a spec file says (README of src/test/isolation, "Test specification"): the grammar, the limits, and what names stand for.
use Rattle.std.specs.Prelude.{◌≡◌, ◌≢◌, ◌≤◌, ℕ, List, length, map, All, AllPairs, Contains, Ok}
use Rattle.std.specs.List.{AllZip}
use Rattle.iso_lexer.specs.declared.limits.TheConstants.{MOST_ENTRIES, MOST_SESSIONS, MOST_STEPS}
use Rattle.iso_lexer.specs.declared.token.At.{At}
use Rattle.iso_lexer.specs.Names.{decoded}
use Rattle.iso_lexer.specs.SpecTokens.{SpecToken}
use Rattle.iso_lexer.specs.SpecText.{Lexes}
use Rattle.spec_parser.specs.declared.tree.Marker.{Marker}
use Rattle.spec_parser.specs.declared.tree.Marker.TheVariants as markers
use Rattle.spec_parser.specs.Trees.{EntryTree, SpecTree, NameAt, MarkerTree, star, named, NamedEntry, FileTree}
use Rattle.spec_parser.specs.Counts.{start}
use Rattle.spec_parser.specs.Grammar.{file as in_grammar}
use Rattle.spec_parser.specs.Names.{StepAt, steps_of, session_tree}

-- ---- limits

-- a permutation of at most 1,000 entries
abbrev pub IsShort : List NamedEntry → Type 0
IsShort entries = length entries ≤ MOST_ENTRIES

-- at most 64 sessions, 1,000 steps in all, and 1,000 entries a permutation; own
pub record WithinLimits (f : FileTree) : Type 0 where
  pub sessions : length f.sessions ≤ MOST_SESSIONS
  pub steps : length (steps_of f) ≤ MOST_STEPS
  pub entries : All IsShort f.perms

-- ---- names

-- names are the same where they stand for the same bytes
abbrev pub SameName : NameAt → NameAt → Type 0
SameName m n = decoded m.name ≡ decoded n.name

abbrev pub HasOtherName : StepAt → StepAt → Type 0
HasOtherName s t = decoded s.name.name ≢ decoded t.name.name

-- no two of these steps have one name
abbrev pub NamesDiffer : List StepAt → Type 0
NamesDiffer steps = AllPairs HasOtherName steps

-- the name is that of step j of session k
pub record NamesStep (steps : List StepAt) (n : NameAt) (k j : ℕ) : Type 0 where
  pub step : StepAt
  pub listed : Contains steps step
  pub same : SameName step.name n
  pub session_is : step.session ≡ k
  pub step_is : step.step ≡ j

-- what a marker stands for
abbrev pub MarkerIs : List StepAt → MarkerTree → Marker → Type 0
MarkerIs steps star markers.Star = Unit {0}
MarkerIs steps (named n) (markers.Step k j) = NamesStep steps n k j
MarkerIs steps star (markers.Step k j) = ⊥
MarkerIs steps (named n) markers.Star = ⊥

-- what an entry stands for: its step, and what its markers stand for, in order
pub record EntryIs (steps : List StepAt) (e : NamedEntry) (x : EntryTree) : Type 0 where
  pub step : NamesStep steps e.name x.session x.step
  pub markers : AllZip (MarkerIs steps) e.markers x.markers

-- entry by entry
abbrev pub PermIs : List StepAt → List NamedEntry → List EntryTree → Type 0
PermIs steps es xs = AllZip (EntryIs steps) es xs

-- ---- the whole

-- the text is a spec file, and says this
pub record IsSpec (text : List ℕ) (s : SpecTree) : Type 0 where
  pub tokens : List (At SpecToken)
  pub lexes : Lexes text (Ok tokens)
  pub file : FileTree
  pub grammar : in_grammar start tokens file
  pub limits : WithinLimits file
  pub differ : NamesDiffer (steps_of file)
  pub setups : s.setups ≡ file.setups
  pub teardown : s.teardown ≡ file.teardown
  pub sessions : s.sessions ≡ map session_tree file.sessions
  pub perms : AllZip (PermIs (steps_of file)) file.perms s.perms
