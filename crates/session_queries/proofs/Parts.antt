-- An aggregate lacks what its expression lacks, whatever it is called, and is titled by its kind; an expression has one title.
use Rattle.std.proofs.Common.{◌≡◌, ℕ, List, [], ◌∷◌, Some, None, refl}
use Rattle.std.specs.Prelude.{Option}
use Rattle.sql_trees.specs.declared.expr.AggKind.{AggKind}
use Rattle.sql_trees.specs.declared.expr.AggKind.TheVariants as agg_kind
use Rattle.sql_trees.specs.Trees.{Tree, AggTree}
use Rattle.sql_trees.specs.Trees as tree
use Rattle.sql_trees.specs.Statements.{ColumnTree}
use Rattle.sql_trees.specs.Statements as stmt
use Rattle.sql_values.specs.Expressions.{Cols}
use Rattle.query_results.specs.Queries.{item_titles}
use Rattle.query_results.specs.Inner.Pieces.{own_title}
use Rattle.session_queries.specs.Inner.Parts.{kind_title, title_or}
use Rattle.session_queries.specs.Inner.Undefined.{undefined_in_item, undefined_in_agg}

pub item_lacks : (cols : Cols) (a : AggTree) (alias : Option (List ℕ)) → undefined_in_item cols (stmt.Aggregate a alias) ≡ undefined_in_agg cols a
item_lacks cols tree.CountRows alias = refl
item_lacks cols (tree.Of k e) alias = refl

pub titled : (columns : List ColumnTree) (e : Tree) (alias : Option (List ℕ)) → item_titles columns (stmt.Value e alias) ≡ title_or e alias ∷ []
titled columns e (Some alias) = refl
titled columns (tree.Column name) None = refl
titled columns e None = refl

pub titled_by_kind : (k : AggKind) (e : Tree) → own_title (tree.Of k e) ≡ kind_title k
titled_by_kind agg_kind.Count e = refl
titled_by_kind agg_kind.Sum e = refl
titled_by_kind agg_kind.Min e = refl
titled_by_kind agg_kind.Max e = refl
