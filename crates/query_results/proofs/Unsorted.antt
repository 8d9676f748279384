-- Without ORDER BY the rows stay as they stand.
use Rattle.std.proofs.Common.{◌≡◌, ℕ, suc, ◌+◌, List, [], ◌∷◌, ◌++◌, length, map, append-nil, append_assoc, Ok, refl, sym, ap, ◌∙◌, arith}
use Rattle.std.specs.Prelude.{Result, fold, slice_index_or}
use Rattle.std.specs.List.{range_with_len}
use Rattle.std.proofs.lemmas.List.{length-map}
use Rattle.sql_trees.specs.Statements.{ItemTree}
use Rattle.sql_values.specs.declared.value.Value.{Value}
use Rattle.sql_values.specs.declared.fault.ValueFault.{ValueFault}
use Rattle.sql_values.specs.Values.{if_ok, each}
use Rattle.sql_values.specs.Sorting.{keys_at}
use Rattle.sql_values.specs.Expressions.{Cols}
use Rattle.query_results.specs.Ordering.{rows_at}
use Rattle.query_results.specs.Inner.Insertion.{put_in}
use Rattle.query_results.proofs.Insertion.{all_inserted}
use Rattle.query_results.specs.Queries.{by_keys}
use Rattle.query_results.specs.Inner.Pieces.{keys_of}

abbrev ok_rows : List (List Value) → Result (List (List Value)) ValueFault
ok_rows rows = Ok rows

abbrev no_keys : List (List Value) → List (List Value)
no_keys rows = map (λ row. []) rows

each_none : (cols : Cols) (is : List ItemTree) (rows : List (List Value)) → each (keys_of cols is []) rows ≡ Ok (no_keys rows)
each_none cols is [] = refl
each_none cols is (row ∷ rows) = ap (λ (r : Result (List (List Value)) ValueFault). if_ok r (λ ys. ok_rows ([] ∷ ys))) (each_none cols is rows)

put_last : (keys : List (List Value)) (qs : List ℕ) (p : ℕ) → put_in [] keys qs p ≡ qs ++ p ∷ []
put_last keys [] p = refl
put_last keys (q ∷ qs) p = ap (λ (ps : List ℕ). q ∷ ps) (put_last keys qs p)

put_as_they_are : (keys : List (List Value)) (sorted ps : List ℕ) → fold (put_in [] keys) sorted ps ≡ sorted ++ ps
put_as_they_are keys sorted [] = sym (append-nil sorted)
put_as_they_are keys sorted (p ∷ ps) =
    put_as_they_are keys (put_in [] keys sorted p) ps ∙ ap (λ (qs : List ℕ). qs ++ ps) (put_last keys sorted p) ∙ append_assoc sorted (p ∷ []) ps

read_on : (all : List ℕ) (k : ℕ) (ps : List ℕ) → ((i : ℕ) → slice_index_or all (k + i) 0 ≡ slice_index_or ps i 0) → map (λ i. slice_index_or all i 0) (range_with_len k (length ps)) ≡ ps
read_on all k [] h = refl
read_on all k (p ∷ ps) h =
    let here : k + 0 ≡ k = omega arith in
    let first : slice_index_or all k 0 ≡ p = ap (λ i. slice_index_or all i 0) (sym here) ∙ h 0 in
    let rest = read_on all (k + 1) ps (λ i. let e : k + 1 + i ≡ k + suc i = omega arith in ap (λ i. slice_index_or all i 0) e ∙ h (suc i)) in
    λ i. first i ∷ rest i

read_all : (places : List ℕ) → map (λ i. slice_index_or places i 0) (range_with_len 0 (length places)) ≡ places
read_all places = read_on places 0 places (λ i. let e : 0 + i ≡ i = omega arith in ap (λ i. slice_index_or places i 0) e)

as_many : (rows : List (List Value)) (places : List ℕ) → length (no_keys (rows_at rows places)) ≡ length places
as_many rows places = length-map (rows_at rows places) (λ row. []) ∙ length-map places (keys_at rows)

-- the places are as they were
pub unsorted : (cols : Cols) (is : List ItemTree) (rows : List (List Value)) (places : List ℕ) → if_ok (each (keys_of cols is []) (rows_at rows places)) (by_keys [] places) ≡ Ok places
unsorted cols is rows places =
    let keys = no_keys (rows_at rows places) in
    ap (λ (r : Result (List (List Value)) ValueFault). if_ok r (by_keys [] places)) (each_none cols is (rows_at rows places))
    ∙ ap (λ ps. Ok (map (λ i. slice_index_or places i 0) ps)) (all_inserted [] keys ∙ put_as_they_are keys [] (range_with_len 0 (length keys)))
    ∙ ap (λ n. Ok (map (λ i. slice_index_or places i 0) (range_with_len 0 n))) (as_many rows places)
    ∙ ap Ok (read_all places)
