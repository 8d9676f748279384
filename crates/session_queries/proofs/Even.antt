-- What the items answer at a row is as long as their titles.
use Rattle.std.proofs.Common.{◌≡◌, ℕ, ◌+◌, List, [], ◌∷◌, ◌++◌, length, map, Ok, Err, refl, sym, ap, ◌∙◌, subst, arith, length-append}
use Rattle.std.proofs.lemmas.List.{length-map}
use Rattle.std.proofs.lemmas.List.Elements.{All-nil, All-tail, All-cons}
use Rattle.std.specs.Prelude.{Result, All, IfOk}
use Rattle.sql_trees.specs.declared.stmt.Column.{Column}
use Rattle.sql_trees.specs.Statements.{ColumnTree, ItemTree, column_of}
use Rattle.sql_trees.specs.Statements as item
use Rattle.sql_values.specs.declared.value.Value.{Value}
use Rattle.sql_values.specs.declared.fault.ValueFault.{ValueFault}
use Rattle.sql_values.specs.Values.{Answers, each, if_ok}
use Rattle.sql_values.specs.Expressions.{Cols, value}
use Rattle.query_results.specs.declared.title.Title.{Title}
use Rattle.query_results.specs.Queries.{cols_of, item_titles, row_values, titles_of}
use Rattle.session_queries.specs.Inner.Answers.{item_row, row_by_items}
use Rattle.session_queries.proofs.Parts.{titled}
use Rattle.session_queries.proofs.Shown.{by_items}

one : (a : Result Value ValueFault) (vs : List Value) → if_ok a (λ v. Ok (v ∷ [])) ≡ Ok vs → length vs ≡ 1
one (Ok v) vs h =
    let same : (v ∷ []) ≡ vs = cc in
    sym (ap length same)
one (Err e) vs h = absurd cc

item_even : (columns : List ColumnTree) (i : ItemTree) (row vs : List Value) → length row ≡ length columns → item_row (cols_of columns) row i ≡ Ok vs → length vs ≡ length (item_titles columns i)
item_even columns item.All row vs long h =
    let same : row ≡ vs = cc in
    sym (ap length same) ∙ long ∙ sym (length-map columns _)
item_even columns (item.Value e alias) row vs long h = one (value e (cols_of columns) row) vs h ∙ sym (ap length (titled columns e alias))
item_even columns (item.Aggregate a alias) row vs long h =
    let same : [] ≡ vs = cc in
    sym (ap length same)

both : (a b : Result (List Value) ValueFault) (vs : List Value) (m n : ℕ) → ((us : List Value) → a ≡ Ok us → length us ≡ m) → ((us : List Value) → b ≡ Ok us → length us ≡ n) → if_ok a (λ us. if_ok b (λ rest. Ok (us ++ rest))) ≡ Ok vs → length vs ≡ m + n
both (Ok us) (Ok ws) vs m n f g h =
    let same : us ++ ws ≡ vs = cc in
    let k : length us ≡ m = f us refl in
    let l : length ws ≡ n = g ws refl in
    sym (ap length same) ∙ length-append us ws ∙ cc
both (Ok us) (Err e) vs m n f g h = absurd cc
both (Err e) b vs m n f g h = absurd cc

even_by_items : (columns : List ColumnTree) (is : List ItemTree) (row vs : List Value) → length row ≡ length columns → row_by_items (cols_of columns) is row ≡ Ok vs → length vs ≡ length (titles_of columns is)
even_by_items columns [] row vs long h =
    let same : [] ≡ vs = cc in
    sym (ap length same)
even_by_items columns (i ∷ is) row vs long h =
    both (item_row (cols_of columns) row i) (row_by_items (cols_of columns) is row) vs _ _ (λ us. item_even columns i row us long) (λ us. even_by_items columns is row us long) h
    ∙ sym (length-append (item_titles columns i) (titles_of columns is))

pub row_even : (columns : List ColumnTree) (is : List ItemTree) (row vs : List Value) → length row ≡ length columns → row_values (cols_of columns) is row ≡ Ok vs → length vs ≡ length (titles_of columns is)
row_even columns is row vs long h = even_by_items columns is row vs long (sym (by_items (cols_of columns) is row) ∙ h)

in_each : (a : Result (List Value) ValueFault) (b : Result (List (List Value)) ValueFault) (shown : List (List Value)) (n : ℕ) → ((vs : List Value) → a ≡ Ok vs → length vs ≡ n) → ((rest : List (List Value)) → b ≡ Ok rest → All (λ vs. length vs ≡ n) rest) → if_ok a (λ y. if_ok b (λ ys. Ok (y ∷ ys))) ≡ Ok shown → All (λ vs. length vs ≡ n) shown
in_each (Ok vs) (Ok rest) shown n f g h =
    let same : (vs ∷ rest) ≡ shown = cc in
    subst (All (λ vs. length vs ≡ n)) same (All-cons (λ us. length us ≡ n) vs rest (f vs refl) (g rest refl))
in_each (Ok vs) (Err e) shown n f g h = absurd cc
in_each (Err e) b shown n f g h = absurd cc

rows_even : (columns : List ColumnTree) (is : List ItemTree) (rows shown : List (List Value)) → All (λ row. length row ≡ length columns) rows → each (row_values (cols_of columns) is) rows ≡ Ok shown → All (λ vs. length vs ≡ length (titles_of columns is)) shown
rows_even columns is [] shown long h =
    let same : [] ≡ shown = cc in
    subst (All (λ vs. length vs ≡ length (titles_of columns is))) same (All-nil (λ vs. length vs ≡ length (titles_of columns is)))
rows_even columns is (row ∷ rows) shown long h =
    in_each (row_values (cols_of columns) is row) (each (row_values (cols_of columns) is) rows) shown _
    (λ vs. row_even columns is row vs (long 0 row (omega arith)))
    (λ rest. rows_even columns is rows rest (All-tail (λ r. length r ≡ length columns) row rows long)) h

-- what is shown of a table is as long as its titles
pub result_even : (columns : List Column) (cols : Cols) (is : List ItemTree) (rows shown : List (List Value)) (titles : List Title) → cols ≡ cols_of (map column_of columns) → All (λ row. length row ≡ length columns) rows → each (row_values cols is) rows ≡ Ok shown → titles ≡ titles_of (map column_of columns) is → All (λ vs. length vs ≡ length titles) shown
result_even columns cols is rows shown titles known long h same =
    let seen : each (row_values (cols_of (map column_of columns)) is) rows ≡ Ok shown = sym (ap (λ cs. each (row_values cs is) rows) known) ∙ h in
    let many : All (λ row. length row ≡ length (map column_of columns)) rows = rw (length-map columns column_of) long in
    rw same (rows_even (map column_of columns) is rows shown many seen)

-- what the items answer at a row is as long as their titles
pub values_long : (columns : List Column) (cols : Cols) (is : List ItemTree) (row : List Value) (result : Result (List Value) ValueFault) → cols ≡ cols_of (map column_of columns) → length row ≡ length columns → Answers result (row_values cols is row) → IfOk result (λ values. length values ≡ length (titles_of (map column_of columns) is))
values_long columns cols is row (Ok values) known long h =
    let seen : row_values (cols_of (map column_of columns)) is row ≡ Ok values = sym (ap (λ cs. row_values cs is row) known) ∙ h in
    let wide : length row ≡ length (map column_of columns) = long ∙ sym (length-map columns column_of) in
    row_even (map column_of columns) is row values wide seen
values_long columns cols is row (Err fault) known long h = tt
