-- Which name of a file is at fault: the first step name that an earlier step has, and the first name of a permutation that no step has.
use Rattle.std.specs.Prelude.{◌≡◌, ℕ, List, [], ◌∷◌, ◌++◌, All, Contains, flat_map, Ok}
use Rattle.iso_lexer.specs.declared.token.At.{At}
use Rattle.iso_lexer.specs.SpecTokens.{SpecToken}
use Rattle.iso_lexer.specs.SpecText.{Lexes}
use Rattle.spec_parser.specs.declared.fault.SpecFault.{SpecFault}
use Rattle.spec_parser.specs.declared.fault.SpecFault.TheVariants.{UndefinedStep, UndefinedMarker}
use Rattle.spec_parser.specs.Trees.{NameAt, MarkerTree, star, named, NamedEntry, FileTree}
use Rattle.spec_parser.specs.Counts.{start}
use Rattle.spec_parser.specs.Grammar.{file as in_grammar}
use Rattle.spec_parser.specs.Names.{StepAt, steps_of}
use Rattle.spec_parser.specs.IsSpec.{WithinLimits, SameName, NamesDiffer}

-- ---- step names

-- the names before this step differ, and one of them is its name, which stands at this byte
pub record IsFirstRepeat (steps : List StepAt) (at : ℕ) : Type 0 where
  pub front : List StepAt
  pub step : StepAt
  pub back : List StepAt
  pub split : steps ≡ front ++ step ∷ back
  pub differ : NamesDiffer front
  pub earlier : StepAt
  pub listed : Contains front earlier
  pub same : SameName earlier.name step.name
  pub place : at ≡ step.name.at

-- ---- names of permutations

-- a name in a permutation: an entry's, or a marker's
pub data Mention : Type 0 where
  by_entry : NameAt → Mention
  by_marker : NameAt → Mention

abbrev pub mentioned : Mention → NameAt
mentioned (by_entry n) = n
mentioned (by_marker n) = n

abbrev pub of_marker : MarkerTree → List Mention
of_marker star = []
of_marker (named n) = by_marker n ∷ []

abbrev pub of_entry : NamedEntry → List Mention
of_entry e = by_entry e.name ∷ flat_map of_marker e.markers

-- all names of these permutations, in the order of the text
abbrev pub mentions : List (List NamedEntry) → List Mention
mentions ps = flat_map (flat_map of_entry) ps

-- some step has this name
pub record IsDefined (steps : List StepAt) (n : NameAt) : Type 0 where
  pub step : StepAt
  pub listed : Contains steps step
  pub same : SameName step.name n

abbrev pub undefined_at : Mention → SpecFault
undefined_at (by_entry n) = UndefinedStep n.at
undefined_at (by_marker n) = UndefinedMarker n.at

-- each name before this one is defined, and it isn't
pub record IsFirstUndefined (steps : List StepAt) (ms : List Mention) (f : SpecFault) : Type 0 where
  pub front : List Mention
  pub first : Mention
  pub back : List Mention
  pub split : ms ≡ front ++ first ∷ back
  pub defined : All (λ m. IsDefined steps (mentioned m)) front
  pub undefined : IsDefined steps (mentioned first) → ⊥
  pub fault : f ≡ undefined_at first

-- ---- the whole

-- a file within the limits, in which a step name stands again at this byte
pub record HasRepeat (text : List ℕ) (at : ℕ) : Type 0 where
  pub tokens : List (At SpecToken)
  pub lexes : Lexes text (Ok tokens)
  pub file : FileTree
  pub grammar : in_grammar start tokens file
  pub limits : WithinLimits file
  pub first : IsFirstRepeat (steps_of file) at

-- a file within the limits whose step names differ, and whose permutations have this undefined name
pub record HasUndefined (text : List ℕ) (f : SpecFault) : Type 0 where
  pub tokens : List (At SpecToken)
  pub lexes : Lexes text (Ok tokens)
  pub file : FileTree
  pub grammar : in_grammar start tokens file
  pub limits : WithinLimits file
  pub differ : NamesDiffer (steps_of file)
  pub first : IsFirstUndefined (steps_of file) (mentions file.perms) f
