-- A SELECT of aggregates has one row, and any other one a row for each that it takes.
use Rattle.std.proofs.Common.{◌≡◌, ℕ, true, false, not, List, [], ◌∷◌, length, refl, sym, subst}
use Rattle.std.proofs.lemmas.List.Elements.{All-nil, All-cons}
use Rattle.std.specs.Prelude.{All}
use Rattle.sql_trees.specs.Trees.{AggTree}
use Rattle.sql_trees.specs.Statements.{ColumnTree, ItemTree}
use Rattle.sql_values.specs.declared.value.Value.{Value}
use Rattle.query_results.specs.declared.title.Title.{Title}
use Rattle.query_results.specs.Queries.{results_by}
use Rattle.session_queries.specs.Inner.Answers.{agg_results, has_none, row_results}

pub by_rows : (columns : List ColumnTree) (is : List ItemTree) (aggs : List (AggTree × Title)) (taken : List (List Value)) → not (has_none aggs) ≡ false → results_by columns is aggs taken ≡ row_results columns is taken
by_rows columns is [] taken h = refl
by_rows columns is (a ∷ more) taken h = cc

pub by_aggregates : (columns : List ColumnTree) (is : List ItemTree) (aggs : List (AggTree × Title)) (taken : List (List Value)) → not (has_none aggs) ≡ true → results_by columns is aggs taken ≡ agg_results columns aggs taken
by_aggregates columns is [] taken h = cc
by_aggregates columns is (a ∷ more) taken h = refl

-- one row is as long as it is
pub one_even : (n : ℕ) (row : List Value) (rows : List (List Value)) → rows ≡ row ∷ [] → length row ≡ n → All (λ r. length r ≡ n) rows
one_even n row rows one long = subst (All (λ r. length r ≡ n)) (sym one) (All-cons (λ r. length r ≡ n) row [] long (All-nil (λ r. length r ≡ n)))
