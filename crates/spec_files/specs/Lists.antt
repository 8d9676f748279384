-- The list of a file's permutations.
use Rattle.std.specs.Prelude.{ℕ, zero, suc, List, [], ◌∷◌, Result, Ok, Err}
use Rattle.spec_parser.specs.Trees.{EntryTree, SpecTree}
use Rattle.permutation_lists.specs.Permutations.{permutations_of}
use Rattle.permutation_lists.specs.Lines.{line_text}
use Rattle.spec_files.specs.declared.fault.RunFault.{RunFault}
use Rattle.report_text.specs.Said.{Said, only_ends, says, whole, too_many, ◌>>◌}
use Rattle.spec_files.specs.Files.{File, FileIs}

-- a line for each permutation, up to so many
unfoldable pub listed : SpecTree → ℕ → List (List EntryTree) → Said
listed spec limit [] = only_ends whole
listed spec zero (p ∷ ps) = only_ends too_many
listed spec (suc left) (p ∷ ps) = says (line_text spec p) >> listed spec left ps

-- a file is refused, or lists so many of its permutations at most
pub data FileLists (bytes : List ℕ) (limit : ℕ) : Result Said RunFault → Type 0 where
  refused : (e : RunFault) → FileIs bytes (Err e) → FileLists bytes limit (Err e)
  lists : (file : File) → FileIs bytes (Ok file) → FileLists bytes limit (Ok (listed file.spec limit (permutations_of file.spec)))
