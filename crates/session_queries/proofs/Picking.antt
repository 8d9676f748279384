-- Rows and places that are picked by their places.
use Rattle.std.proofs.Common.{◌≡◌, ℕ, zero, suc, ◌<◌, Bool, true, false, List, [], ◌∷◌, length, map, Ok, Err, refl, sym, ap, ◌∙◌, subst, arith, if◌then◌else◌}
use Rattle.std.specs.Prelude.{Result, All, IfOk, slice_index_or}
use Rattle.std.specs.Global.{Vec}
use Rattle.std.proofs.lemmas.List.{get_or-map, length-map}
use Rattle.std.proofs.lemmas.List.Elements.{All-map}
use Rattle.sql_trees.specs.declared.kind.Dir.{Dir}
use Rattle.sql_values.specs.declared.value.Value.{Value}
use Rattle.sql_values.specs.declared.fault.ValueFault.{ValueFault}
use Rattle.sql_values.specs.declared.fault.ValueFault.TheVariants.{TypeMismatch}
use Rattle.sql_values.specs.Sorting.{can_sort, key, keys_at}
use Rattle.session_queries.specs.Code.Fronts.{AnswersList}
use Rattle.query_results.specs.Ordering.{rows_at, sorted_places}
use Rattle.query_results.specs.Queries.{by_keys}
use Rattle.query_results.proofs.Insertion.{places_within}

-- the value at a place of a row is its key of that number
pub key_read : (k : ℕ) (row : List Value) (x : Value) → k < length row → x ≡ slice_index_or row k x → key k row ≡ x
key_read k [] x less h = absurd (omega arith)
key_read zero (v ∷ row) x less h = sym h
key_read (suc k) (v ∷ row) x less h = key_read k row x (omega arith) h

-- what sorting answers, by whether the keys can be sorted
abbrev judged : Bool → List ℕ → Result (List ℕ) ValueFault
judged b picked = if b then Ok picked else Err TypeMismatch

picked_by : (b : Bool) (picked : List ℕ) → b ≡ true → judged b picked ≡ Ok picked
picked_by true picked h = refl
picked_by false picked h = absurd cc

sortable : (b : Bool) → (b ≡ false → ⊥) → b ≡ true
sortable true h = refl
sortable false h = absurd (h refl)

-- what is picked by a sorted order is what sorting answers
pub picked_in_order : (by : List Dir) (places : List ℕ) (keys : List (List Value)) (sorted picked : List ℕ) → (can_sort by keys ≡ false → ⊥) → sorted_places by keys ≡ sorted → picked ≡ map (λ i. slice_index_or places i 0) sorted → by_keys by places keys ≡ Ok picked
picked_in_order by places keys sorted picked can order is =
    picked_by (can_sort by keys) (map (λ i. slice_index_or places i 0) (sorted_places by keys)) (sortable (can_sort by keys) can)
    ∙ ap (λ ps. Ok (map (λ i. slice_index_or places i 0) ps)) order
    ∙ ap Ok (sym is)

all_picked : (P : ℕ → Type 0) (b : Bool) (these those : List ℕ) → All P these → judged b these ≡ Ok those → All P those
all_picked P true these those h is =
    let same : these ≡ those = cc in
    subst (All P) same h
all_picked P false these those h is = absurd cc

-- what sorting answers are some of the places
pub sorted_within : (n : ℕ) (by : List Dir) (places : List ℕ) (keys : List (List Value)) (result : Result (Vec ℕ) ValueFault) → length keys ≡ length places → All (λ p. p < n) places → AnswersList result (by_keys by places keys) → IfOk result (λ sorted. All (λ p. p < n) sorted.items)
sorted_within n by places keys (Ok sorted) long low h =
    all_picked (λ p. p < n) (can_sort by keys) (map (λ i. slice_index_or places i 0) (sorted_places by keys)) sorted.items
    (All-map (λ p. p < n) (λ i. slice_index_or places i 0) (sorted_places by keys)
    (λ k d less. low _ 0 (places_within by keys (length places) long k d less)))
    h
sorted_within n by places keys (Err fault) long low h = tt

-- the rows at places of rows that are all so long are so long
pub taken_long : {R : Type 0} (view : R → List Value) (n : ℕ) (rows taken : List R) (places : List ℕ) → map view taken ≡ rows_at (map view rows) places → All (λ p. p < length rows) places → All (λ row. length (view row) ≡ n) rows → All (λ row. length (view row) ≡ n) taken
taken_long view n rows taken places same low long k d less =
    let as_many : length taken ≡ length places = sym (length-map taken view) ∙ ap length same ∙ length-map places (keys_at (map view rows)) in
    let there : k < length places = omega arith in
    let at_place : slice_index_or places k 0 < length rows = low k 0 there in
    let seen : view (slice_index_or taken k d) ≡ view (slice_index_or rows (slice_index_or places k 0) d) =
    sym (get_or-map view taken k d [] less)
    ∙ ap (λ rs. slice_index_or rs k []) same
    ∙ get_or-map (keys_at (map view rows)) places k 0 [] there
    ∙ get_or-map view rows (slice_index_or places k 0) d [] at_place in
    ap length seen ∙ long (slice_index_or places k 0) d at_place
