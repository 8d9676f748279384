-- To be believed. What running a file's permutations says.
use Rattle.std.specs.Prelude.{◌≡◌, ℕ, zero, suc, List, [], ◌∷◌, Result, Ok, Err}
use Rattle.session_machine.specs.declared.reply.HistItem.{HistItem}
use Rattle.session_machine.specs.Machine.{Blocks}
use Rattle.spec_parser.specs.Trees.{EntryTree, SpecTree}
use Rattle.permutation_lists.specs.Permutations.{permutations_of}
use Rattle.permutation_plans.specs.Regular.{IsRegular}
use Rattle.report_text.specs.Said.{Said, only_ends, says, whole, invalid, too_many, ◌>>◌}
use Rattle.report_text.specs.Permutation.{permutation_says}
use Rattle.spec_files.specs.declared.fault.RunFault.{RunFault}
use Rattle.spec_files.specs.FirstLine.{first_line}
use Rattle.spec_files.specs.Files.{File, FileIs}

-- what is said of these permutations, each with its regular history, of which so many run at most: a permutation's report, and then what is said of the others; a setup that failed or
-- waits ends the run
unfoldable pub Prints : SpecTree → Blocks → ℕ → List (List EntryTree) → Said → Type 0
Prints spec blocks limit [] said = said ≡ only_ends whole
Prints spec blocks zero (p ∷ ps) said = said ≡ only_ends too_many
Prints spec blocks (suc left) (p ∷ ps) said =
    (items : List HistItem) × (rest : Said)
    × IsRegular spec blocks p items
    × (elim (permutation_says spec p items).ending [ whole ↦ Prints spec blocks left ps rest | invalid ↦ Prints spec blocks left ps rest | ending ↦ rest ≡ only_ends ending ])
    × (said ≡ (record (permutation_says spec p items) { ending = whole } >> rest))

-- A file is refused, or prints this, where so many of its permutations run at most.
pub data FileSays (bytes : List ℕ) (limit : ℕ) : Result Said RunFault → Type 0 where
  refused : (e : RunFault) → FileIs bytes (Err e) → FileSays bytes limit (Err e)
  runs : (file : File) (said : Said) → FileIs bytes (Ok file) → Prints file.spec file.blocks limit (permutations_of file.spec) said → FileSays bytes limit (Ok (says (first_line file.spec) >> said))
