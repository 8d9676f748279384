-- Columns as expressions know them.
use Rattle.std.proofs.Common.{◌≡◌, List, [], ◌∷◌, length, map, refl, ap}
use Rattle.std.proofs.lemmas.List.{length-map}
use Rattle.sql_trees.specs.declared.stmt.Column.{Column}
use Rattle.sql_trees.specs.Statements.{column_of}
use Rattle.sql_values.specs.Columns as values
use Rattle.query_results.specs.Queries.{cols_of}

pub known_columns : (cs : List Column) → cols_of (map column_of cs) ≡ values.columns_of cs
known_columns [] = refl
known_columns (c ∷ cs) = ap (λ ks. values.known_column c ∷ ks) (known_columns cs)

pub as_many_columns : (cs : List Column) → length (values.columns_of cs) ≡ length cs
as_many_columns cs = length-map cs values.known_column
