-- Whether an UPDATE leaves its keys, one assignment after the other.
use Rattle.std.proofs.Common.{◌≡◌, ℕ, Bool, true, false, cond, not, ◌||◌, ◌&&◌, List, [], ◌∷◌, refl, ap, ◌∙◌}
use Rattle.std.specs.Prelude.{◌==◌, Ok, Err, filter, flat_map, zip, slice_get, unwrap_or}
use Rattle.std.specs.List.{list_all, list_any}
use Rattle.std.proofs.lemmas.List.Folds.{list_any-append}
use Rattle.sql_trees.specs.Statements.{KeyTree, SetTree}
use Rattle.sql_values.specs.declared.value.Value.{Value}
use Rattle.sql_values.specs.declared.value.Value.TheVariants.{Null}
use Rattle.sql_values.specs.Growing.{may_grow}
use Rattle.sql_values.specs.Values.{Answer, assign, if_ok}
use Rattle.sql_values.specs.Expressions.{Cols, value}
use Rattle.query_results.specs.Queries.{AssignedColumn}
use Rattle.query_results.specs.Updates.{stays, leaves, leaves_all}
use Rattle.session_queries.specs.Leaving.{some_may_grow}
use Rattle.session_queries.specs.Inner.Leaving.{is_key_column, leaves_as, leaves_each, leaves_with, one_may_grow}

pub key_step : (at : ℕ) (k : KeyTree) (ks : List KeyTree)
    → is_key_column (flat_map (λ (k : KeyTree). k.columns) (k ∷ ks)) at ≡ (list_any (λ column. column == at) k.columns || is_key_column (flat_map (λ (k : KeyTree). k.columns) ks) at)
key_step at k ks = list_any-append (λ column. column == at) k.columns (flat_map (λ (k : KeyTree). k.columns) ks)

by_answer : (row : List Value) (t : AssignedColumn) (answer : Answer)
    → (let yes : Bool = elim (if_ok answer (λ v. assign v t.kind)) [ Ok new ↦ stays (unwrap_or (slice_get row t.place) Null) new | Err fault ↦ false ] in yes)
    ≡ (elim answer [ Ok v ↦ leaves_as row t v | Err fault ↦ false ])
by_answer row t (Ok v) = refl
by_answer row t (Err fault) = refl

leaves_is : (cols : Cols) (row : List Value) (t : AssignedColumn) (s : SetTree) → leaves cols row (t, s) ≡ leaves_with cols row t s.value
leaves_is cols row t s = by_answer row t (value s.value cols row)

all_by : {A : Type 0} (test : A → Bool) (b : Bool) (x : A) (xs : List A) → list_all test (cond b (x ∷ xs) xs) ≡ ((not b || test x) && list_all test xs)
all_by test true x xs = refl
all_by test false x xs = refl

any_by : {A : Type 0} (test : A → Bool) (b : Bool) (x : A) (xs : List A) → list_any test (cond b (x ∷ xs) xs) ≡ ((b && test x) || list_any test xs)
any_by test true x xs = refl
any_by test false x xs = refl

abbrev of_keys : List ℕ → List (AssignedColumn × SetTree) → List (AssignedColumn × SetTree)
of_keys places = filter (λ (s : AssignedColumn × SetTree). list_any (λ place. place == s.0.place) places)

pub each_left : (cols : Cols) (ts : List AssignedColumn) (ss : List SetTree) (places : List ℕ) (row : List Value) → leaves_all cols ts ss places row ≡ leaves_each cols ts ss places row
each_left cols [] ss places row = refl
each_left cols (t ∷ ts) [] places row = refl
each_left cols (t ∷ ts) (s ∷ ss) places row =
    let first = is_key_column places t.place in
    all_by (leaves cols row) first (t, s) (of_keys places (zip ts ss))
    ∙ ap (λ b. (not first || b) && leaves_all cols ts ss places row) (leaves_is cols row t s)
    ∙ ap (λ b. (not first || leaves_with cols row t s.value) && b) (each_left cols ts ss places row)

pub one_grows : (ts : List AssignedColumn) (ss : List SetTree) (places : List ℕ) → some_may_grow ts ss places ≡ one_may_grow ts ss places
one_grows [] ss places = refl
one_grows (t ∷ ts) [] places = refl
one_grows (t ∷ ts) (s ∷ ss) places =
    let first = is_key_column places t.place in
    any_by (λ (p : AssignedColumn × SetTree). may_grow p.1.value) first (t, s) (of_keys places (zip ts ss))
    ∙ ap (λ b. (first && may_grow s.value) || b) (one_grows ts ss places)
