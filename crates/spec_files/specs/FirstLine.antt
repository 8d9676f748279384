-- To be believed. The first line that a run prints.
use Rattle.std.specs.Prelude.{ℕ, List, ◌++◌, length, decimal, codes}
use Rattle.spec_parser.specs.Trees.{SpecTree}

abbrev pub first_line : SpecTree → List ℕ
first_line spec = codes "Parsed test spec with " ++ decimal (length spec.sessions) ++ codes " sessions\n"
