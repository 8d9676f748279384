-- How the parts of an item are titled.
use Rattle.std.specs.Prelude.{List, ℕ, Option}
use Rattle.std.specs.Option.{option_map_or}
use Rattle.sql_trees.specs.declared.expr.AggKind.{AggKind}
use Rattle.sql_trees.specs.Trees.{Tree, AggTree}
use Rattle.sql_trees.specs.Trees as tree
use Rattle.query_results.specs.declared.title.Title.{Title}
use Rattle.query_results.specs.declared.title.Title.TheVariants.{Column as Named, Unnamed}
use Rattle.query_results.specs.Inner.Pieces.{own_title}

-- an item without an alias has the name of the column that it is
abbrev pub title_of : Tree → Title
title_of (tree.Column name) = Named name
title_of e = Unnamed

-- the title of an expression with this alias
abbrev pub title_or : Tree → Option (List ℕ) → Title
title_or e alias = option_map_or Named alias (title_of e)

-- the title of an aggregate with this alias
abbrev pub agg_title : AggTree × Option (List ℕ) → Title
agg_title a = option_map_or Named a.1 (own_title a.0)

-- the title of an aggregate of this kind
abbrev pub kind_title : AggKind → Title
kind_title k = own_title (tree.Of k tree.Null)
