-- What holds of each of a list, as a loop goes over it.
use Rattle.std.proofs.Common.{◌≡◌, ◌∙◌, ℕ, ◌+◌, zero, suc, List, [], ◌∷◌, ◌++◌, length, ap, sym, subst, arith}
use Rattle.std.proofs.lemmas.List.{length_push}
use Rattle.std.proofs.lemmas.List.Elements.{All-append}
use Rattle.std.specs.List.{All}
use Rattle.std.specs.Prelude.{Option, Some, None, IfSome, MatchOption}
use Rattle.session_crews.specs.Crews.{EachFrom}

pub all_first : {X : Type 0} (left rest : List X) (x : X) (P : X → Type 0) → All P left → left ≡ x ∷ rest → P x
all_first left rest x P all is = subst (All P) is all 0 x (omega arith)

pub all_rest : {X : Type 0} (left rest : List X) (x : X) (P : X → Type 0) → All P left → left ≡ x ∷ rest → All P rest
all_rest {X = X} left rest x P all is = let now : All P (x ∷ rest) = subst (All P) is all in λ k or lt. now (suc k) or (omega (arith, lt))

of_one : {X : Type 0} (P : X → Type 0) (x : X) → P x → All P (x ∷ [])
of_one P x p zero or lt = p
of_one P x p (suc k) or lt = absurd (omega (arith, lt))

pub all_more : {X : Type 0} (so_far now : List X) (x : X) (P : X → Type 0) → All P so_far → P x → now ≡ so_far ++ x ∷ [] → All P now
all_more so_far now x P all is pushed = subst (All P) (sym pushed) (All-append P so_far (x ∷ []) all (of_one P x is))

all_nothing : {X : Type 0} (P : X → Type 0) (xs : List X) → length xs ≡ 0 → All P xs
all_nothing P [] none = λ k or lt. absurd (omega (arith, lt))
all_nothing P (x ∷ xs) none = absurd (omega (arith, none))

-- the next of a list, where one is left, and those behind it
pub next_of : {X : Type 0} (P : X → Type 0) (before after : List X) (next : Option X) (nothing fewer : Type 0)
    → All P before → MatchOption next nothing (λ x. (before ≡ x ∷ after) × fewer) → (nothing → length after ≡ 0) → IfSome next P × All P after
next_of P before after None nothing fewer all steps none = (tt, all_nothing P after (none steps))
next_of P before after (Some x) nothing fewer all steps none = (all_first before after x P all steps.0, all_rest before after x P all steps.0)

-- ---- by their places

each_more : {X : Type 0} (holds : ℕ → X → Type 0) (place : ℕ) (xs : List X) (x : X) → EachFrom holds place xs → holds (place + length xs) x → EachFrom holds place (xs ++ x ∷ [])
each_more holds place [] x each is = (let n : place + 0 ≡ place = omega arith in subst (λ m. holds m x) n is, tt)
each_more holds place (y ∷ ys) x each is =
    (each.0, each_more holds (place + 1) ys x each.1 (let n : place + suc (length ys) ≡ (place + 1) + length ys = omega arith in subst (λ m. holds m x) n is))

-- the first of those that are left, and those behind it
pub each_first : {X : Type 0} (holds : ℕ → X → Type 0) (place : ℕ) (left rest : List X) (x : X) → EachFrom holds place left → left ≡ x ∷ rest → holds place x
each_first holds place left rest x each is = (subst (EachFrom holds place) is each).0

pub each_rest : {X : Type 0} (holds : ℕ → X → Type 0) (place next : ℕ) (left rest : List X) (x : X) → EachFrom holds place left → left ≡ x ∷ rest → next ≡ place + 1 → EachFrom holds next rest
each_rest holds place next left rest x each is after = subst (λ n. EachFrom holds n rest) (sym after) (subst (EachFrom holds place) is each).1

-- of lists that are equal
pub each_same : {X : Type 0} (holds : ℕ → X → Type 0) (place : ℕ) (xs ys : List X) → xs ≡ ys → EachFrom holds place ys → EachFrom holds place xs
each_same holds place xs ys same each = subst (EachFrom holds place) (sym same) each

pub each_none : {X : Type 0} (holds : ℕ → X → Type 0) (place : ℕ) (xs : List X) → xs ≡ [] → EachFrom holds place xs
each_none holds place xs none = subst (EachFrom holds place) (sym none) tt

-- one more, as a loop makes them
pub each_on : {X : Type 0} (holds : ℕ → X → Type 0) (place : ℕ) (so_far now : List X) (x : X)
    → EachFrom holds 0 so_far → length so_far ≡ place → holds place x → now ≡ so_far ++ x ∷ [] → EachFrom holds 0 now
each_on holds place so_far now x each long is pushed =
    let n : place ≡ 0 + length so_far = omega (arith, long) in
    subst (EachFrom holds 0) (sym pushed) (each_more holds 0 so_far x each (subst (λ m. holds m x) n is))

-- what holds of each so holds of each otherwise, where the one says so of the other
pub each_weaker : {X : Type 0} (one other : ℕ → X → Type 0) (place : ℕ) (xs : List X) → ((n : ℕ) (x : X) → one n x → other n x) → EachFrom one place xs → EachFrom other place xs
each_weaker one other place [] so each = tt
each_weaker one other place (x ∷ xs) so each = (so place x each.0, each_weaker one other (place + 1) xs so each.1)

-- ---- counts

-- what a loop has made and what is left are as many as there were
pub count_on : {X Y : Type 0} (made now : List X) (left rest : List Y) (x : X) (y : Y) (all : ℕ)
    → length made + length left ≡ all → left ≡ y ∷ rest → now ≡ made ++ x ∷ [] → length now + length rest ≡ all
count_on {X = X} {Y = Y} made now left rest x y all so first pushed =
    let longer : length now ≡ length made + 1 = ap length pushed ∙ length_push made x in
    let fewer : length left ≡ suc (length rest) = ap length first in
    omega (arith, so, longer, fewer)
