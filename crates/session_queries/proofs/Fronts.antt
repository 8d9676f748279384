-- A list that is answered part by part.
use Rattle.std.proofs.Common.{◌≡◌, ℕ, ◌+◌, ◌<◌, List, [], ◌∷◌, ◌++◌, length, map, drop, get_or, Ok, Err, refl, sym, ap, ◌∙◌, subst, append_assoc}
use Rattle.std.proofs.lemmas.List.{at_drop_more}
use Rattle.std.specs.Prelude.{◌≢◌, Result}
use Rattle.std.specs.Global.{Vec}
use Rattle.sql_values.specs.declared.fault.ValueFault.{ValueFault}
use Rattle.sql_values.specs.declared.fault.ValueFault.TheVariants.{Memory}
use Rattle.sql_values.specs.Values.{if_ok, each}
use Rattle.session_queries.specs.Code.Fronts.{AnswersList}
use Rattle.session_queries.specs.Inner.Fronts.{in_front}

abbrev ok_list : {B : Type 0} → List B → Result (List B) ValueFault
ok_list xs = Ok xs

pub longer_by : {A : Type 0} (xs ys : List A) (rest : Result (List A) ValueFault) → in_front xs (if_ok rest (λ zs. Ok (ys ++ zs))) ≡ in_front (xs ++ ys) rest
longer_by xs ys (Ok zs) = ap Ok (sym (append_assoc xs ys zs))
longer_by xs ys (Err e) = refl

-- a part was answered, and stands in front of the rest
pub longer : {A : Type 0} (xs more : List A) (part rest : Result (List A) ValueFault) → in_front xs part ≡ Ok more → in_front xs (if_ok part (λ ys. if_ok rest (λ zs. Ok (ys ++ zs)))) ≡ in_front more rest
longer xs more (Ok ys) rest h =
    let same : xs ++ ys ≡ more = cc in
    longer_by xs ys rest ∙ ap (λ front. in_front front rest) same
longer xs more (Err e) rest h = absurd cc

-- one more was answered
pub one_more : {R A B : Type 0} (view : R → A) (f : A → Result B ValueFault) (rows : List R) (i : ℕ) (r : R) (y : B) (front next : List B)
    → i < length rows → r ≡ get_or rows i r → f (view r) ≡ Ok y → next ≡ front ++ y ∷ []
    → each f (map view rows) ≡ in_front front (each f (map view (drop i rows))) → each f (map view rows) ≡ in_front next (each f (map view (drop (i + 1) rows)))
one_more {R} {A} {B} view f rows i r y front next h at is longer_is so =
    let rest : Result (List B) ValueFault = each f (map view (drop (i + 1) rows)) in
    let with_rest = λ (a : Result B ValueFault). if_ok a (λ z. if_ok rest (λ zs. ok_list (z ∷ zs))) in
    let first : each f (map view (drop i rows)) ≡ with_rest (Ok y) =
    at_drop_more (λ (rs : List R). each f (map view rs)) rows i r h ∙ ap (λ (w : R). each f (map view (w ∷ drop (i + 1) rows))) (sym at) ∙ ap with_rest is in
    so ∙ ap (in_front front) first ∙ longer_by front (y ∷ []) rest ∙ ap (λ (xs : List B). in_front xs rest) (sym longer_is)

-- or one had a fault
pub one_fault : {R A B : Type 0} (view : R → A) (f : A → Result B ValueFault) (rows : List R) (i : ℕ) (r : R) (e : ValueFault) (front : List B)
    → i < length rows → r ≡ get_or rows i r → f (view r) ≡ Err e → each f (map view rows) ≡ in_front front (each f (map view (drop i rows))) → each f (map view rows) ≡ Err e
one_fault {R} {A} {B} view f rows i r e front h at is so =
    let rest : Result (List B) ValueFault = each f (map view (drop (i + 1) rows)) in
    let with_rest = λ (a : Result B ValueFault). if_ok a (λ z. if_ok rest (λ zs. ok_list (z ∷ zs))) in
    so
    ∙ ap (in_front front) (at_drop_more (λ (rs : List R). each f (map view rs)) rows i r h ∙ ap (λ (w : R). each f (map view (w ∷ drop (i + 1) rows))) (sym at) ∙ ap with_rest is)

pub fault_told : {A : Type 0} (result : Result (Vec A) ValueFault) (e : ValueFault) (answer : Result (List A) ValueFault) → result ≡ Err e → (e ≢ Memory → answer ≡ Err e) → AnswersList result answer
fault_told result e answer is told = subst (λ r. AnswersList r answer) (sym is) told
