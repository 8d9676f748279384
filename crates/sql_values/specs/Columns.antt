-- The columns that an expression names.
use Rattle.std.specs.Prelude.{ℕ, List, map}
use Rattle.iso_lexer.specs.Names.{name_view, decoded}
use Rattle.sql_trees.specs.declared.kind.Kind.{Kind}
use Rattle.sql_trees.specs.declared.stmt.Column.{Column}

-- a column by the bytes that its name stands for, and its kind
abbrev pub known_column : Column → List ℕ × Kind
known_column c = (decoded (name_view c.name), c.kind)

abbrev pub columns_of : List Column → List (List ℕ × Kind)
columns_of cs = map known_column cs
