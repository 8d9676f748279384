-- What the columns of a result answer, item by item.
use Rattle.std.proofs.Common.{◌≡◌, ℕ, zero, suc, ◌<◌, ◌-◌, ◌==◌, Bool, true, false, List, [], ◌∷◌, ◌++◌, length, map, Ok, Err, refl, sym, ap, ◌∙◌, arith, if◌then◌else◌}
use borrow.Author.Tests.{ltb-true, ltb-false}
use Rattle.std.specs.Prelude.{Result, nat_lt, slice_index_or}
use Rattle.std.proofs.lemmas.Bool.{ne_eqb}
use Rattle.std.proofs.lemmas.List.{get_or-append_right, length-map}
use Rattle.sql_trees.specs.Statements.{ItemTree}
use Rattle.sql_trees.specs.Statements as item
use Rattle.sql_values.specs.declared.value.Value.{Value}
use Rattle.sql_values.specs.declared.value.Value.TheVariants.{Null}
use Rattle.sql_values.specs.declared.fault.ValueFault.{ValueFault}
use Rattle.sql_values.specs.Values.{Answer, each, if_ok}
use Rattle.sql_values.specs.Sorting.{key}
use Rattle.sql_values.specs.Expressions.{Cols, value}
use Rattle.query_results.specs.Queries.{item_values, row_values}
use Rattle.query_results.specs.Inner.Pieces.{shown}
use Rattle.session_queries.specs.Inner.Answers.{item_row, row_by_items, shown_at}
use Rattle.session_queries.specs.Inner.Fronts.{in_front}

abbrev ok_list : {B : Type 0} → List B → Result (List B) ValueFault
ok_list xs = Ok xs

ok_again : {B : Type 0} (r : Result (List B) ValueFault) → r ≡ if_ok r (λ xs. ok_list xs)
ok_again (Ok xs) = refl
ok_again (Err e) = refl

more_by : {B : Type 0} (r : Result B ValueFault) (a b c : Result (List B) ValueFault) → c ≡ if_ok a (λ us. if_ok b (λ vs. ok_list (us ++ vs)))
    → if_ok r (λ y. if_ok c (λ zs. ok_list (y ∷ zs))) ≡ if_ok (if_ok r (λ y. if_ok a (λ us. ok_list (y ∷ us)))) (λ us. if_ok b (λ vs. ok_list (us ++ vs)))
more_by (Ok y) (Ok us) (Ok vs) c h = ap (λ z. if_ok z (λ zs. ok_list (y ∷ zs))) h
more_by (Ok y) (Ok us) (Err e) c h = ap (λ z. if_ok z (λ zs. ok_list (y ∷ zs))) h
more_by (Ok y) (Err e) b c h = ap (λ z. if_ok z (λ zs. ok_list (y ∷ zs))) h
more_by (Err e) a b c h = refl

each_more : {A B : Type 0} (f : A → Result B ValueFault) (xs ys : List A) → each f (xs ++ ys) ≡ if_ok (each f xs) (λ us. if_ok (each f ys) (λ vs. ok_list (us ++ vs)))
each_more f [] ys = ok_again (each f ys)
each_more f (x ∷ xs) ys = more_by (f x) (each f xs) (each f ys) (each f (xs ++ ys)) (each_more f xs ys)

-- what the columns answer, as they stand
abbrev all_of : List Answer → Result (List Value) ValueFault
all_of answers = each (λ (answer : Answer). answer) answers

known_row : (row : List Value) → all_of (map (λ v. Ok v) row) ≡ Ok row
known_row [] = refl
known_row (v ∷ row) = ap (λ (r : Result (List Value) ValueFault). if_ok r (λ vs. ok_list (v ∷ vs))) (known_row row)

item_is : (cols : Cols) (row : List Value) (i : ItemTree) → all_of (item_values cols row i) ≡ item_row cols row i
item_is cols row item.All = known_row row
item_is cols row (item.Value e alias) = refl
item_is cols row (item.Aggregate a alias) = refl

-- a row's values are those of its items, one behind the other
pub by_items : (cols : Cols) (is : List ItemTree) (row : List Value) → row_values cols is row ≡ row_by_items cols is row
by_items cols [] row = refl
by_items cols (i ∷ is) row =
    let this = item_is cols row i in
    let rest = by_items cols is row in
    each_more (λ (answer : Answer). answer) (item_values cols row i) (shown cols is row) ∙ λ j. if_ok (this j) (λ us. if_ok (rest j) (λ vs. ok_list (us ++ vs)))

none_in_front : (r : Result (List Value) ValueFault) → r ≡ in_front [] r
none_in_front (Ok xs) = refl
none_in_front (Err e) = refl

pub from_items : (cols : Cols) (is : List ItemTree) (row front : List Value) → front ≡ [] → row_values cols is row ≡ in_front front (row_by_items cols is row)
from_items cols is row front none =
    by_items cols is row ∙ none_in_front (row_by_items cols is row) ∙ ap (λ (xs : List Value). in_front xs (row_by_items cols is row)) (sym none)

in_row : (row : List Value) (rest : List Answer) (k : ℕ) → k < length row → slice_index_or (map (λ v. Ok v) row ++ rest) k (Ok Null) ≡ Ok (key k row)
in_row [] rest k h = absurd (omega arith)
in_row (v ∷ row) rest zero h = refl
in_row (v ∷ row) rest (suc k) h = in_row row rest k (omega arith)

all_place : (cols : Cols) (is : List ItemTree) (row : List Value) (k : ℕ) (b : Bool) → nat_lt k (length row) ≡ b
    → slice_index_or (shown cols is row) (k - length row) (Ok Null) ≡ shown_at cols is row (k - length row)
    → slice_index_or (map (λ v. Ok v) row ++ shown cols is row) k (Ok Null) ≡ (if b then Ok (key k row) else shown_at cols is row (k - length row))
all_place cols is row k true e later = in_row row (shown cols is row) k (ltb-true k (length row) e)
all_place cols is row k false e later = get_or-append_right (map (λ v. Ok v) row) (shown cols is row) (length row) k (Ok Null) (length-map row (λ v. Ok v)) (ltb-false k (length row) e) ∙ later

-- the column at a place is found by going through the items
pub by_place : (cols : Cols) (is : List ItemTree) (row : List Value) (k : ℕ) → slice_index_or (shown cols is row) k (Ok Null) ≡ shown_at cols is row k
by_place cols [] row k = refl
by_place cols (item.All ∷ is) row k = all_place cols is row k (nat_lt k (length row)) refl (by_place cols is row (k - length row))
by_place cols (item.Value e alias ∷ is) row zero = refl
by_place cols (item.Value e alias ∷ is) row (suc k) =
    let other : (suc k == 0) ≡ false = ne_eqb (suc k) 0 (λ e. let z : ⊥ = omega arith in z) in
    let less : suc k - 1 ≡ k = omega arith in
    by_place cols is row k ∙ sym (ap (λ (b : Bool). if b then value e cols row else shown_at cols is row (suc k - 1)) other ∙ ap (shown_at cols is row) less)
by_place cols (item.Aggregate a alias ∷ is) row k = by_place cols is row k
