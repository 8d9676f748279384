-- The first best of values, one value further; and the same in the words of an aggregate.
use Rattle.std.proofs.Common.{◌≡◌, ℕ, ◌+◌, ◌<◌, Bool, true, false, not, ◌||◌, List, [], ◌∷◌, ◌++◌, length, take, get_or, Some, Ok, Err, refl, sym, ap, ◌∙◌, if◌then◌else◌}
use mathlib.Core.Path.{fun_ext}
use Rattle.std.specs.Prelude.{Result, find, is_some, unwrap_or}
use Rattle.std.specs.List.{list_all, list_any}
use Rattle.std.specs.Ordering.{is_lt, is_gt, ordering_reverse}
use Rattle.std.specs.declared.cmp.Ordering.{Ordering}
use Rattle.std.specs.declared.cmp.Ordering.TheVariants.{Less, Equal, Greater}
use Rattle.std.proofs.lemmas.List.{take_more}
use Rattle.sql_values.specs.declared.value.Value.{Value}
use Rattle.sql_values.specs.declared.value.Value.TheVariants.{Null, Int, Big, Text, Bool as Boolean}
use Rattle.sql_values.specs.declared.fault.ValueFault.{ValueFault}
use Rattle.sql_values.specs.declared.fault.ValueFault.TheVariants.{TypeMismatch}
use Rattle.sql_values.specs.Values.{Answer, if_ok, compare}
use Rattle.sql_values.specs.Sorting.{full_order}
use Rattle.sql_values.specs.Aggregates.{extreme}
use Rattle.sql_values.specs.Inner.Extremes.{is_number, is_text, beats, best}
use Rattle.sql_values.specs.Inner.Extremes as inner
use Rattle.sql_values.proofs.Best.{best_of_one, best_more}
use Rattle.sql_values.proofs.Orders.{beats_rank, full_total}

pub best_first : (greatest : Bool) (v : Value) → best greatest (v ∷ []) ≡ Some v
best_first greatest v = best_of_one (beats greatest) (beats_rank greatest) v

pub best_step : (greatest : Bool) (first : Value) (others : List Value) (i : ℕ) (b v next : Value) → i < length others → v ≡ get_or others i v → next ≡ (if beats greatest v b then v else b) → best greatest (first ∷ take i others) ≡ Some b → best greatest (first ∷ take (i + 1) others) ≡ Some next
best_step greatest first others i b v next h at is so =
    let items : take (i + 1) others ≡ take i others ++ v ∷ [] = take_more others i v h ∙ ap (λ w. take i others ++ w ∷ []) (sym at) in
    ap (λ vs. best greatest (first ∷ vs)) items ∙ best_more (beats greatest) (beats_rank greatest) (first ∷ take i others) b v so ∙ ap Some (sym is)

abbrev pub asked : Bool → Ordering → Bool
asked greatest o = if greatest then is_gt o else is_lt o

reversed : (o : Ordering) → is_lt (ordering_reverse o) ≡ is_gt o
reversed Less = refl
reversed Equal = refl
reversed Greater = refl

better : (greatest : Bool) (w v : Value) → beats greatest w v ≡ asked greatest (full_order w v)
better true w v = ap is_lt (full_total.antisymm v w) ∙ reversed (full_order w v)
better false w v = refl

texts : (v : Value) → is_text v ≡ is_some (compare v (Text []))
texts Null = refl
texts (Int z) = refl
texts (Big z) = refl
texts (Text s) = refl
texts (Boolean b) = refl

abbrev of_best : (Value → Value → Bool) → (Value → Bool) → List Value → Answer
of_best beat text vs =
    if list_all is_number vs || list_all text vs then Ok (unwrap_or (find (λ v. not (list_any (λ w. beat w v) vs)) vs) Null) else Err TypeMismatch

extreme_is : (greatest : Bool) (vs : List Value) → inner.extreme greatest vs ≡ extreme (asked greatest) vs
extreme_is greatest vs =
    ap (λ (beat : Value → Value → Bool). of_best beat is_text vs) (fun_ext (λ w. fun_ext (λ v. better greatest w v)))
    ∙ ap (λ (text : Value → Bool). of_best (λ w v. asked greatest (full_order w v)) text vs) (fun_ext texts)

pub least_is : (vs : List Value) → inner.extreme false vs ≡ extreme is_lt vs
least_is = extreme_is false

pub greatest_is : (vs : List Value) → inner.extreme true vs ≡ extreme is_gt vs
greatest_is = extreme_is true

-- what follows an answer that is changed follows the answer
pub through : {A B : Type 0} (r : Result A ValueFault) (f : A → A) (g : A → Result B ValueFault) → if_ok (if_ok r (λ x. Ok (f x))) g ≡ if_ok r (λ x. g (f x))
through (Ok x) f g = refl
through (Err e) f g = refl
