-- What is asked of the items and keys of a query.
use Rattle.std.specs.Prelude.{Bool, true, false, List, []}
use Rattle.sql_trees.specs.Statements.{ItemTree, All, OrderTree}

abbrev pub is_all : ItemTree → Bool
is_all All = true
is_all _ = false

abbrev pub is_sorted : List OrderTree → Bool
is_sorted [] = false
is_sorted _ = true
