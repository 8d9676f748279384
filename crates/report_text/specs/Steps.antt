-- To be believed. The line with which a permutation starts.
use Rattle.std.specs.Prelude.{ℕ, List, ◌++◌, flat_map, filter_map, codes}
use Rattle.iso_lexer.specs.Names.{decoded}
use Rattle.spec_parser.specs.Trees.{StepTree, EntryTree, SpecTree}
use Rattle.spec_parser.specs.Numbered.{step_of_entry}

-- an empty line, and the names of the entries' steps, each behind a blank
unfoldable pub starting_text : SpecTree → List EntryTree → List ℕ
starting_text spec entries = codes "\nstarting permutation:" ++ flat_map (λ (s : StepTree). codes " " ++ decoded s.name) (filter_map (step_of_entry spec) entries) ++ codes "\n"
