-- The tables that a file makes.
use Rattle.std.specs.Prelude.{ℕ, List, [], ◌∷◌, flat_map, if◌then◌else◌}
use Rattle.std.specs.Str.{is_utf8}
use Rattle.sql_trees.specs.Statements.{StmtTree}
use Rattle.sql_trees.specs.Statements.{Create}
use Rattle.spec_parser.specs.Trees.{PartTree, SpecTree}
use Rattle.session_machine.specs.Machine.{Blocks, stmts_of}

-- what a name stands for: UTF-8, as all of a file is
abbrev pub as_text : List ℕ → List ℕ
as_text name = if is_utf8 name then name else []

-- the name of the table that a statement makes, if it makes one (PostgreSQL manual, CREATE TABLE)
abbrev pub made_by : StmtTree → List (List ℕ)
made_by (Create table) = as_text table.name ∷ []
made_by stmt = []

-- the names of the tables that the setups of a file make, in order
abbrev pub tables_made : SpecTree → Blocks → List (List ℕ)
tables_made spec blocks = flat_map (λ (setup : PartTree). flat_map made_by (stmts_of blocks setup.block)) spec.setups
