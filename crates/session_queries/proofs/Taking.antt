-- The rows that a SELECT takes are those that are found one after the other, in the order of their keys.
use Rattle.std.proofs.Common.{◌≡◌, ℕ, zero, suc, ◌+◌, ◌<◌, Bool, true, false, List, [], ◌∷◌, ◌++◌, length, map, drop, None, Ok, Err, refl, sym, ap, ◌∙◌, subst, arith, add-one, if◌then◌else◌}
use Rattle.std.specs.Prelude.{Option, Result, filter}
use Rattle.std.specs.List.{enumerate_from}
use Rattle.std.specs.Global.{Vec}
use Rattle.sql_trees.specs.declared.kind.Dir.{Dir}
use Rattle.sql_trees.specs.Trees.{Tree}
use Rattle.sql_trees.specs.Statements.{ColumnTree, ItemTree, OrderTree, SelectTree}
use Rattle.sql_values.specs.declared.value.Value.{Value}
use Rattle.sql_values.specs.declared.fault.ValueFault.{ValueFault}
use Rattle.sql_values.specs.Values.{if_ok, each}
use Rattle.sql_values.specs.Expressions.{Cols, passes}
use Rattle.query_results.specs.Ordering.{rows_at}
use Rattle.query_results.specs.Queries.{by_keys, cols_of, passing, taken}
use Rattle.query_results.specs.Inner.Pieces.{keys_of}
use Rattle.query_results.proofs.Unsorted.{unsorted}
use Rattle.session_queries.specs.Code.Fronts.{AnswersList}
use Rattle.session_queries.specs.Inner.Fronts.{in_front}
use Rattle.session_queries.specs.Inner.Ordering.{ordered, passing_from}
use Rattle.session_queries.proofs.Fronts.{longer_by}

abbrev ok_places : List ℕ → Result (List ℕ) ValueFault
ok_places places = Ok places

abbrev ok_tests : List Bool → Result (List Bool) ValueFault
ok_tests tests = Ok tests

abbrev chosen : ℕ → List Bool → List ℕ
chosen k tests = map (λ (p : ℕ × Bool). p.0) (filter (λ (p : ℕ × Bool). p.1) (enumerate_from k tests))

one_row : (a : Result Bool ValueFault) (b : Result (List Bool) ValueFault) (c : Result (List ℕ) ValueFault) (k : ℕ) → if_ok b (λ ps. ok_places (chosen (k + 1) ps)) ≡ c
    → if_ok (if_ok a (λ p. if_ok b (λ ps. ok_tests (p ∷ ps)))) (λ ps. ok_places (chosen k ps)) ≡ if_ok a (λ p. if_ok c (λ rest. ok_places (if p then k ∷ rest else rest)))
one_row (Err e) b c k h = refl
one_row (Ok true) (Ok ps) c k h = ap (λ (r : Result (List ℕ) ValueFault). if_ok r (λ rest. ok_places (k ∷ rest))) h
one_row (Ok false) (Ok ps) c k h = ap (λ (r : Result (List ℕ) ValueFault). if_ok r (λ rest. ok_places rest)) h
one_row (Ok p) (Err e) c k h = ap (λ (r : Result (List ℕ) ValueFault). if_ok r (λ rest. ok_places (if p then k ∷ rest else rest))) h

passing_by : (cols : Cols) (condition : Option Tree) (k : ℕ) (rows : List (List Value)) → if_ok (each (passes condition cols) rows) (λ ps. ok_places (chosen k ps)) ≡ passing_from cols condition k rows
passing_by cols condition k [] = refl
passing_by cols condition k (row ∷ rows) =
    one_row (passes condition cols row) (each (passes condition cols) rows) (passing_from cols condition (k + 1) rows) k (passing_by cols condition (k + 1) rows)

none_in_front : (r : Result (List ℕ) ValueFault) → r ≡ in_front [] r
none_in_front (Ok xs) = refl
none_in_front (Err e) = refl

-- the rows that pass WHERE are found one after the other
pub passing_rows : (cols : Cols) (condition : Option Tree) (rows : List (List Value)) (front : List ℕ) → front ≡ [] → passing cols condition rows ≡ in_front front (passing_from cols condition 0 rows)
passing_rows cols condition rows front none =
    passing_by cols condition 0 rows ∙ none_in_front (passing_from cols condition 0 rows) ∙ ap (λ (xs : List ℕ). in_front xs (passing_from cols condition 0 rows)) (sym none)

next_of : {R : Type 0} (view : R → List Value) (rows : List R) (n k : ℕ) → n < length rows
    → passing_from [] None k (map view (drop n rows)) ≡ if_ok (passing_from [] None (k + 1) (map view (drop (suc n) rows))) (λ rest. ok_places (k ∷ rest))
next_of view [] n k h = absurd (omega arith)
next_of view (row ∷ rows) zero k h = refl
next_of view (row ∷ rows) (suc n) k h = next_of view rows n k (omega arith)

-- without WHERE each place is one more
pub next_place : {R : Type 0} (view : R → List Value) (rows : List R) (i : ℕ) (front next : List ℕ) (whole : Result (List ℕ) ValueFault) → i < length rows → next ≡ front ++ i ∷ []
    → whole ≡ in_front front (passing_from [] None i (map view (drop i rows))) → whole ≡ in_front next (passing_from [] None (i + 1) (map view (drop (i + 1) rows)))
next_place view rows i front next whole h longer so =
    let rest : Result (List ℕ) ValueFault = passing_from [] None (i + 1) (map view (drop (suc i) rows)) in
    so ∙ ap (in_front front) (next_of view rows i i h) ∙ longer_by front (i ∷ []) rest ∙ ap (λ (xs : List ℕ). in_front xs rest) (sym longer)
    ∙ ap (λ (n : ℕ). in_front next (passing_from [] None (i + 1) (map view (drop n rows)))) (sym (add-one i))

ordered_so : (cols : Cols) (is : List ItemTree) (order : List OrderTree) (rows : List (List Value)) (places : List ℕ)
    → if_ok (each (keys_of cols is order) (rows_at rows places)) (by_keys (map (λ (k : OrderTree). k.dir) order) places) ≡ ordered cols is order rows places
ordered_so cols is [] rows places = unsorted cols is rows places
ordered_so cols is (k ∷ order) rows places = refl

-- then they are sorted, where there is a key to sort them by
taken_so : (s : SelectTree) (columns : List ColumnTree) (rows : List (List Value)) → taken s columns rows ≡ if_ok (passing (cols_of columns) s.filter rows) (ordered (cols_of columns) s.items s.order rows)
taken_so s columns rows = λ j. if_ok (passing (cols_of columns) s.filter rows) (λ places. ordered_so (cols_of columns) s.items s.order rows places j)

pub taken_answer : (s : SelectTree) (columns : List ColumnTree) (rows : List (List Value)) (cols : Cols) (places : List ℕ) (result : Result (Vec ℕ) ValueFault) → cols ≡ cols_of columns
    → passing cols s.filter rows ≡ Ok places → AnswersList result (ordered cols s.items s.order rows places) → AnswersList result (taken s columns rows)
taken_answer s columns rows cols places result known is fact =
    let due : taken s columns rows ≡ ordered cols s.items s.order rows places =
    taken_so s columns rows ∙ sym (ap (λ cs. if_ok (passing cs s.filter rows) (ordered cs s.items s.order rows)) known)
    ∙ ap (λ (r : Result (List ℕ) ValueFault). if_ok r (ordered cols s.items s.order rows)) is in
    subst (AnswersList result) (sym due) fact

pub ordered_answer : (cols : Cols) (is : List ItemTree) (order : List OrderTree) (rows : List (List Value)) (places : List ℕ) (keys : List (List Value)) (by : List Dir) (result : Result (Vec ℕ) ValueFault)
    → each (keys_of cols is order) (rows_at rows places) ≡ Ok keys → by ≡ map (λ (k : OrderTree). k.dir) order → AnswersList result (by_keys by places keys) → AnswersList result (ordered cols is order rows places)
ordered_answer cols is order rows places keys by result evaluated same fact =
    let due : ordered cols is order rows places ≡ by_keys by places keys =
    sym (ordered_so cols is order rows places) ∙ ap (λ (r : Result (List (List Value)) ValueFault). if_ok r (by_keys (map (λ (k : OrderTree). k.dir) order) places)) evaluated
    ∙ sym (ap (λ ds. by_keys ds places keys) same) in
    subst (AnswersList result) (sym due) fact
