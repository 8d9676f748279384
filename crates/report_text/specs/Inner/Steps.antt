-- The names of steps, entry by entry.
use Rattle.std.specs.Prelude.{ℕ, List, [], ◌++◌, codes}
use Rattle.std.specs.Option.{option_map_or}
use Rattle.iso_lexer.specs.Names.{decoded}
use Rattle.spec_parser.specs.Trees.{StepTree, EntryTree, SpecTree}
use Rattle.spec_parser.specs.Numbered.{step_of_entry}

-- a blank and the name of the entry's step
abbrev pub entry_name : SpecTree → EntryTree → List ℕ
entry_name spec e = option_map_or (λ (s : StepTree). codes " " ++ decoded s.name) (step_of_entry spec e) []
