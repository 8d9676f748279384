-- Specs whose blocks and steps are all there.
use Rattle.std.specs.Prelude.{◌≡◌, ℕ, true, List, ◌++◌, flat_map, option_to_list, All, Contains, Ok}
use Rattle.session_machine.specs.Machine.{Blocks, may_launch}
use Rattle.spec_parser.specs.Trees.{PartTree, EntryTree, SpecTree}
use Rattle.spec_parser.specs.Stands.{StepStands, session_parts}
use Rattle.permutation_lists.specs.Permutations.{permutations_of}
use Rattle.spec_files.specs.Files.{File, FileIs}

-- the blocks that the spec names are there, and each session may be given its own
pub record HasItsBlocks (spec : SpecTree) (blocks : Blocks) : Type 0 where
  pub main : All (λ (part : PartTree). may_launch blocks 0 part.block ≡ true) (spec.setups ++ option_to_list spec.teardown)
  pub own : All (λ (part : PartTree). (session : ℕ) → may_launch blocks session part.block ≡ true) (flat_map session_parts spec.sessions)

-- each entry is of a step that is there
abbrev pub HasItsSteps : SpecTree → List EntryTree → Type 0
HasItsSteps spec entries = All (λ (e : EntryTree). StepStands spec.sessions e.session e.step) entries

-- each permutation has its steps
abbrev pub EachHasItsSteps : SpecTree → Type 0
EachHasItsSteps spec = (entries : List EntryTree) → Contains (permutations_of spec) entries → HasItsSteps spec entries

-- if the bytes are a spec, its blocks and steps are there
abbrev pub IsComplete : List ℕ → Type 0
IsComplete bytes = (file : File) → FileIs bytes (Ok file) → HasItsBlocks file.spec file.blocks × EachHasItsSteps file.spec
