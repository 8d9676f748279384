-- The rows are taken first, and then the items are shown at them.
use Rattle.std.proofs.Common.{◌≡◌, ℕ, List, Ok, sym, ap, ◌∙◌, subst}
use Rattle.std.specs.Prelude.{Result}
use Rattle.sql_trees.specs.Statements.{ColumnTree, SelectTree}
use Rattle.sql_values.specs.declared.value.Value.{Value}
use Rattle.sql_values.specs.declared.fault.ValueFault.{ValueFault}
use Rattle.sql_values.specs.Values.{Answers, if_ok}
use Rattle.query_results.specs.Results.{Results}
use Rattle.query_results.specs.Ordering.{rows_at}
use Rattle.query_results.specs.Queries.{taken}
use Rattle.session_queries.specs.Inner.Answers.{items_answered, selected}

pub selected_from : (s : SelectTree) (columns : List ColumnTree) (rows shown : List (List Value)) (places : List ℕ) (result : Result Results ValueFault) → taken s columns rows ≡ Ok places → shown ≡ rows_at rows places → Answers result (items_answered columns s.items shown) → Answers result (selected s columns rows)
selected_from s columns rows shown places result h same fact =
    let by : selected s columns rows ≡ items_answered columns s.items shown =
    ap (λ ps. if_ok ps (λ places. items_answered columns s.items (rows_at rows places))) h ∙ ap (items_answered columns s.items) (sym same) in
    subst (λ a. Answers result a) (sym by) fact
