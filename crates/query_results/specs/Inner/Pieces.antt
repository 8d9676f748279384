-- What a query answers, piece by piece.
use Rattle.std.specs.Prelude.{ℤ, List, [], ◌∷◌, flat_map, Option, Some, None, Result}
use Rattle.sql_trees.specs.declared.expr.AggKind.TheVariants as agg_kind
use Rattle.sql_trees.specs.Trees.{Tree, AggTree}
use Rattle.sql_trees.specs.Trees as tree
use Rattle.sql_trees.specs.Statements.{ItemTree, OrderTree}
use Rattle.sql_trees.specs.Statements as stmt
use Rattle.sql_values.specs.declared.value.Value.{Value}
use Rattle.sql_values.specs.declared.fault.ValueFault.{ValueFault}
use Rattle.sql_values.specs.Values.{Answer, each}
use Rattle.sql_values.specs.Arithmetic.{signed}
use Rattle.sql_values.specs.Expressions.{Cols}
use Rattle.query_results.specs.declared.title.Title.{Title}
use Rattle.query_results.specs.declared.title.Title.TheVariants.{Count, Sum, Min, Max}
use Rattle.query_results.specs.Queries.{item_values, key_value}

-- the expression of an item; `*` and count(*) have none
abbrev pub item_exprs : ItemTree → List Tree
item_exprs (stmt.Value e alias) = e ∷ []
item_exprs (stmt.Aggregate (tree.Of k e) alias) = e ∷ []
item_exprs i = []

-- what the columns of the result answer at a row
abbrev pub shown : Cols → List ItemTree → List Value → List Answer
shown cols is row = flat_map (item_values cols row) is

-- the number that a key of ORDER BY is
abbrev pub key_number : Tree → Option ℤ
key_number (tree.Number negative n) = Some (signed negative n)
key_number e = None

-- the keys of a row, from the left
abbrev pub keys_of : Cols → List ItemTree → List OrderTree → List Value → Result (List Value) ValueFault
keys_of cols is order row = each (λ (k : OrderTree). key_value cols is row k.expr) order

-- the title of an aggregate by what it counts, sums or compares (9.21)
abbrev pub own_title : AggTree → Title
own_title (tree.Of agg_kind.Sum e) = Sum
own_title (tree.Of agg_kind.Min e) = Min
own_title (tree.Of agg_kind.Max e) = Max
own_title a = Count
