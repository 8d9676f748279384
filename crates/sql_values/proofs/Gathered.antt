-- What an aggregate has seen of its rows, and what is to come.
use Rattle.std.proofs.Common.{◌≡◌, ℕ, ◌+◌, ◌<◌, length, drop, get_or, ℤ, pos, ◌+ℤ◌, Bool, true, false, cond, not, List, [], ◌∷◌, ◌++◌, Ok, Err, refl, sym, ap, ◌∙◌, arith, append_assoc, append-nil, if◌then◌else◌}
use Rattle.std.specs.Prelude.{Result}
use Rattle.std.proofs.lemmas.Int.{ints}
use Rattle.std.proofs.lemmas.List.{at_drop_more}
use Rattle.sql_values.specs.declared.value.Value.{Value}
use Rattle.sql_values.specs.declared.fault.ValueFault.{ValueFault}
use Rattle.sql_values.specs.declared.value.Value.TheVariants.{Int}
use Rattle.sql_values.specs.Aggregates.{total}
use Rattle.sql_values.specs.Values.{if_ok, is_null}
use Rattle.sql_values.specs.Inner.Extremes.{without_nulls}

-- the values found, and those of the rows to come
abbrev pub gathered : List Value → Result (List Value) ValueFault → Result (List Value) ValueFault
gathered found rest = if_ok rest (λ vs. Ok (found ++ vs))

pub gathered_none : (rest : Result (List Value) ValueFault) → gathered [] rest ≡ rest
gathered_none (Ok vs) = refl
gathered_none (Err e) = refl

pub gathered_all : (found : List Value) → gathered found (Ok []) ≡ Ok found
gathered_all found = ap Ok (append-nil found)

abbrev ok_values : List Value → Result (List Value) ValueFault
ok_values vs = Ok vs

pub gathered_more : (found : List Value) (v : Value) (null : Bool) (rest : Result (List Value) ValueFault) → is_null v ≡ null
    → gathered found (if_ok (if_ok rest (λ vs. ok_values (v ∷ vs))) (λ vs. ok_values (without_nulls vs))) ≡ gathered (if null then found else found ++ v ∷ []) (if_ok rest (λ vs. ok_values (without_nulls vs)))
gathered_more found v true (Ok vs) h = ap (λ b. ok_values (found ++ cond (not b) (v ∷ without_nulls vs) (without_nulls vs))) h
gathered_more found v false (Ok vs) h =
    ap (λ b. ok_values (found ++ cond (not b) (v ∷ without_nulls vs) (without_nulls vs))) h ∙ ap ok_values (sym (append_assoc found (v ∷ []) (without_nulls vs)))
gathered_more found v true (Err e) h = refl
gathered_more found v false (Err e) h = refl

-- the sum so far, and that of the values to come
abbrev pub summed : ℤ → Result ℤ ValueFault → Result ℤ ValueFault
summed z rest = if_ok rest (λ t. Ok (z +ℤ t))

pub summed_none : (rest : Result ℤ ValueFault) → summed (pos 0) rest ≡ rest
summed_none (Ok t) = let same : pos 0 +ℤ t ≡ t = omega (arith, ints) in ap Ok same
summed_none (Err e) = refl

pub summed_all : (z : ℤ) → summed z (Ok (pos 0)) ≡ Ok z
summed_all z = let same : z +ℤ pos 0 ≡ z = omega (arith, ints) in ap Ok same

pub summed_more : (z n : ℤ) (rest : Result ℤ ValueFault) → summed z (summed n rest) ≡ summed (z +ℤ n) rest
summed_more z n (Ok t) = let same : z +ℤ (n +ℤ t) ≡ (z +ℤ n) +ℤ t = omega (arith, ints) in ap Ok same
summed_more z n (Err e) = refl

pub sum_step : (vs : List Value) (i : ℕ) (z n next : ℤ) (v : Value) → i < length vs → v ≡ get_or vs i v → v ≡ Int n → next ≡ z +ℤ n → total vs ≡ summed z (total (drop i vs)) → total vs ≡ summed next (total (drop (i + 1) vs))
sum_step vs i z n next v h at is sum so =
    so ∙ ap (summed z) (at_drop_more total vs i v h ∙ ap (λ w. total (w ∷ drop (i + 1) vs)) (sym at ∙ is)) ∙ summed_more z n (total (drop (i + 1) vs)) ∙ ap (λ k. summed k (total (drop (i + 1) vs))) (sym sum)
