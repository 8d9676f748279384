-- Lists gone through pair by pair.
use Rattle.std.proofs.Common.{◌≡◌, ◌+◌, ◌<◌, ◌∙◌, ◌↔◌, ℕ, List, length, get_or, subst, arith, below_more}
use Rattle.std.proofs.lemmas.List.{get_or_default}
use Rattle.query_results.specs.Results.{Results}
use Rattle.query_results.specs.declared.title.Title.{Title}
use Rattle.sql_values.specs.declared.value.Value.{Value}
use Rattle.outcome_counts.specs.Rows.{SameRows}

-- one more pair is so
pub pair_more : {A : Type 0} (R : A → A → Type 0) (xs ys : List A) (i : ℕ) (x y : A) → i < length xs → length xs ≡ length ys → x ≡ get_or xs i x → y ≡ get_or ys i y → R x y
    → ((k : ℕ) (d : A) → k < i → R (get_or xs k d) (get_or ys k d)) → (k : ℕ) (d : A) → k < i + 1 → R (get_or xs k d) (get_or ys k d)
pair_more R xs ys i x y within long here there holds before k d below =
    let also : i < length ys = omega arith in
    let one : x ≡ get_or xs i d = here ∙ get_or_default xs i x d within in
    let other : y ≡ get_or ys i d = there ∙ get_or_default ys i y d also in
    below_more (λ (n : ℕ). R (get_or xs n d) (get_or ys n d)) i (λ n h. before n d h) (subst (λ w. R w (get_or ys i d)) one (subst (λ w. R x w) other holds)) k below

-- tables are the same by what was lent of them
pub results_same : (a b : Results) (titles others : List Title) (rows other_rows : List (List Value)) (P : Type 0) → titles ≡ a.titles → others ≡ b.titles → rows ≡ a.rows → other_rows ≡ b.rows
    → P ↔ ((titles ≡ others) × SameRows rows other_rows) → P ↔ ((a.titles ≡ b.titles) × SameRows a.rows b.rows)
results_same a b titles others rows other_rows P t o r s h =
    subst (λ (w : List (List Value)). P ↔ ((a.titles ≡ b.titles) × SameRows a.rows w)) s
    (subst (λ (w : List (List Value)). P ↔ ((a.titles ≡ b.titles) × SameRows w other_rows)) r
    (subst (λ (w : List Title). P ↔ ((a.titles ≡ w) × SameRows rows other_rows)) o
    (subst (λ (w : List Title). P ↔ ((w ≡ others) × SameRows rows other_rows)) t h)))

pub by_equals : {A : Type 0} (R : A → A → Type 0) (a b x y : A) (P : Type 0) → x ≡ a → y ≡ b → P ↔ R x y → P ↔ R a b
by_equals R a b x y P e f h = subst (λ w. P ↔ R a w) f (subst (λ w. P ↔ R w y) e h)
