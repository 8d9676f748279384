-- Rows as multisets: that each row stands as often in both can be seen from the rows that are there.
use Rattle.std.proofs.Common.{◌≡◌, ◌==◌, ◌+◌, ◌∷◌, ◌∙◌, ◌⊎◌, inl, inr, ℕ, Bool, true, false, not, ◌||◌, cond, List, [], refl, sym, ap, arith}
use Rattle.std.specs.Bool.{beq, Decides}
use Rattle.std.specs.List.{list_any}
use Rattle.std.specs.Cmp.Lexicographic.{pointwise_decides, bytes_decides}
use Rattle.std.proofs.lemmas.Bool.{eqb-true, eq-eqb, not-false}
use Rattle.std.proofs.lemmas.Bool.Decides.{Decides-int_eq}
use Rattle.std.proofs.lemmas.List.Sums.{sum_by-cons}
use Rattle.sql_values.specs.declared.value.Value.{Value}
use Rattle.sql_values.specs.declared.value.Value.TheVariants.{Null, Int, Big, Text, Bool as Boolean}
use Rattle.outcome_counts.specs.Rows.{SameRows, is_row, is_value, times}
use Rattle.outcome_counts.specs.Inner.Answers.{differs}

booleans : (a b : Bool) → Decides (beq a b) (a ≡ b)
booleans true true = (λ e. refl, λ e. refl)
booleans false false = (λ e. refl, λ e. refl)
booleans true false = (λ e. absurd cc, λ e. absurd cc)
booleans false true = (λ e. absurd cc, λ e. absurd cc)

value_decides : (a b : Value) → Decides (is_value a b) (a ≡ b)
value_decides Null Null = (λ e. refl, λ e. refl)
value_decides (Int a) (Int b) = (λ e. ap Int ((Decides-int_eq a b).0 e), λ e. (Decides-int_eq a b).1 cc)
value_decides (Big a) (Big b) = (λ e. ap Big ((Decides-int_eq a b).0 e), λ e. (Decides-int_eq a b).1 cc)
value_decides (Text s) (Text t) = (λ e. ap Text ((bytes_decides s t).0 e), λ e. (bytes_decides s t).1 cc)
value_decides (Boolean a) (Boolean b) = (λ e. ap Boolean ((booleans a b).0 e), λ e. (booleans a b).1 cc)
value_decides a b = (λ e. absurd cc, λ e. absurd cc)

pub row_decides : (row other : List Value) → Decides (is_row row other) (row ≡ other)
row_decides = pointwise_decides value_decides

or_none : (s t : Bool) → (s || t) ≡ false → (s ≡ false) × (t ≡ false)
or_none false t e = (refl, e)
or_none true t e = absurd cc

pub adds_none : (b : Bool) (n : ℕ) → b ≡ false → n ≡ 0 → cond b 1 0 + n ≡ 0
adds_none false n e h = omega arith
adds_none true n e h = absurd cc

at_one : (f : List Value → Bool) (row x : List Value) (xs : List (List Value)) (t : Bool) → is_row row x ≡ t → f x ≡ false → times row xs ≡ 0
    → (times row (x ∷ xs) ≡ 0) ⊎ (f row ≡ false)
at_one f row x xs true e fails never = inr (ap f ((row_decides row x).0 e) ∙ fails)
at_one f row x xs false e fails never = inl (sum_by-cons (λ y. cond (is_row row y) 1 0) x xs ∙ adds_none (is_row row x) (times row xs) e never)

further : (f : List Value → Bool) (row x : List Value) (xs : List (List Value)) → f x ≡ false → (times row xs ≡ 0) ⊎ (f row ≡ false) → (times row (x ∷ xs) ≡ 0) ⊎ (f row ≡ false)
further f row x xs fails (inr w) = inr w
further f row x xs fails (inl w) = at_one f row x xs (is_row row x) refl fails w

-- where no row passes a test, none passes it that stands among them
stands : (f : List Value → Bool) (row : List Value) (rows : List (List Value)) → list_any f rows ≡ false → (times row rows ≡ 0) ⊎ (f row ≡ false)
stands f row [] h = inl refl
stands f row (x ∷ xs) h = let parts = or_none (f x) (list_any f xs) h in further f row x xs parts.0 (stands f row xs parts.1)

equal : (a b : List (List Value)) (row : List Value) → differs a b row ≡ false → times row a ≡ times row b
unfolding differs
equal a b row e = eqb-true (times row a) (times row b) (not-false (times row a == times row b) e)

as_often : (a b : List (List Value)) (row : List Value) → (times row a ≡ 0) ⊎ (differs a b row ≡ false) → (times row b ≡ 0) ⊎ (differs a b row ≡ false) → times row a ≡ times row b
as_often a b row (inr w) second = equal a b row w
as_often a b row (inl v) (inr w) = equal a b row w
as_often a b row (inl v) (inl w) = v ∙ sym w

pub same_from_tests : (a b : List (List Value)) → list_any (differs a b) a ≡ false → list_any (differs a b) b ≡ false → SameRows a b
same_from_tests a b first second = λ row. as_often a b row (stands (differs a b) row a first) (stands (differs a b) row b second)

or_neither : (s t : Bool) → s ≡ false → t ≡ false → (s || t) ≡ false
or_neither s t e h = ap (λ (b : Bool). b || t) e ∙ h

differs_nowhere : (a b : List (List Value)) (row : List Value) → times row a ≡ times row b → differs a b row ≡ false
unfolding differs
differs_nowhere a b row e = ap not (eq-eqb (times row a) (times row b) e)

pub tests_from_same : (a b rows : List (List Value)) → SameRows a b → list_any (differs a b) rows ≡ false
tests_from_same a b [] same = refl
tests_from_same a b (x ∷ xs) same = or_neither (differs a b x) (list_any (differs a b) xs) (differs_nowhere a b x (same x)) (tests_from_same a b xs same)
