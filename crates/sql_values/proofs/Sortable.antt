-- Values of which any two compare compare with the first of them.
use Rattle.std.proofs.Common.{◌≡◌, ℕ, Bool, true, false, not, ◌||◌, ◌&&◌, List, [], ◌∷◌, length, map, refl, sym, ap, ◌∙◌, cond, arith}
use mathlib.Core.Path.{fun_ext}
use Rattle.std.specs.Prelude.{◌==◌, is_some}
use Rattle.std.specs.List.{list_all, range_with_len}
use Rattle.std.proofs.lemmas.Bool.{false≢true}
use Rattle.std.proofs.lemmas.List.Folds.{list_all-map}
use Rattle.sql_trees.specs.declared.kind.Dir.{Dir}
use Rattle.sql_values.specs.declared.value.Value.{Value}
use Rattle.sql_values.specs.declared.value.Value.TheVariants.{Null, Int, Big, Text, Bool as Boolean}
use Rattle.sql_values.specs.Values.{is_null, compare}
use Rattle.sql_values.specs.Sorting.{kind_rank, key, can_sort}
use Rattle.sql_values.specs.Inner.Extremes.{without_nulls}
use Rattle.sql_values.specs.Inner.Sortable.{all_compare, all_with_first}

-- one is NULL, or the two compare
abbrev goes : Value → Value → Bool
goes v w = is_null v || is_null w || is_some (compare v w)

abbrev tied : ℕ → ℕ → Bool
tied m n = (m == 0) || (n == 0) || (m == n)

ranks : (v w : Value) → goes v w ≡ tied (kind_rank v) (kind_rank w)
ranks Null Null = refl
ranks Null (Int b) = refl
ranks Null (Big b) = refl
ranks Null (Text b) = refl
ranks Null (Boolean b) = refl
ranks (Int a) Null = refl
ranks (Int a) (Int b) = refl
ranks (Int a) (Big b) = refl
ranks (Int a) (Text b) = refl
ranks (Int a) (Boolean b) = refl
ranks (Big a) Null = refl
ranks (Big a) (Int b) = refl
ranks (Big a) (Big b) = refl
ranks (Big a) (Text b) = refl
ranks (Big a) (Boolean b) = refl
ranks (Text a) Null = refl
ranks (Text a) (Int b) = refl
ranks (Text a) (Big b) = refl
ranks (Text a) (Text b) = refl
ranks (Text a) (Boolean b) = refl
ranks (Boolean a) Null = refl
ranks (Boolean a) (Int b) = refl
ranks (Boolean a) (Big b) = refl
ranks (Boolean a) (Text b) = refl
ranks (Boolean a) (Boolean b) = refl

tied_chain : (a b c : ℕ) → (a == 0) ≡ false → tied a b ≡ true → tied a c ≡ true → tied b c ≡ true
tied_chain a b c n h k = grind arith

null_rank : (v : Value) → (kind_rank v == 0) ≡ is_null v
null_rank Null = refl
null_rank (Int z) = refl
null_rank (Big z) = refl
null_rank (Text s) = refl
null_rank (Boolean b) = refl

chain : (z v w : Value) → is_null z ≡ false → goes z v ≡ true → goes z w ≡ true → goes v w ≡ true
chain z v w n h k =
    ranks v w ∙ tied_chain (kind_rank z) (kind_rank v) (kind_rank w) (null_rank z ∙ n) (sym (ranks z v) ∙ h) (sym (ranks z w) ∙ k)

itself : (v : Value) → goes v v ≡ true
itself Null = refl
itself (Int z) = refl
itself (Big z) = refl
itself (Text s) = refl
itself (Boolean b) = refl

with_null : (v w : Value) → is_null w ≡ true → goes v w ≡ true
with_null v w h = with_by (is_null v) (is_null w) (is_some (compare v w)) h where
  with_by : (a b c : Bool) → b ≡ true → (a || b || c) ≡ true
  with_by true b c h = refl
  with_by false b c h = rw h refl

null_with : (v w : Value) → is_null v ≡ true → goes v w ≡ true
null_with v w h = rw h refl

both : (a b : Bool) → a ≡ true → b ≡ true → (a && b) ≡ true
both a b h k = rw (h, k) refl

parts : (a b : Bool) → (a && b) ≡ true → (a ≡ true) × (b ≡ true)
parts true b h = (refl, h)
parts false b h = absurd (false≢true h)

-- what goes with z, as all of the list do, goes with all of them
each_goes : (z v : Value) → is_null z ≡ false → goes z v ≡ true → (vs : List Value) → list_all (goes z) vs ≡ true → list_all (goes v) vs ≡ true
each_goes z v n h [] k = refl
each_goes z v n h (w ∷ vs) k =
    let k' = parts (goes z w) (list_all (goes z) vs) k in both _ _ (chain z v w n h k'.0) (each_goes z v n h vs k'.1)

all_go : (z : Value) (vs : List Value) → is_null z ≡ false → list_all (goes z) vs ≡ true → (xs : List Value) → list_all (goes z) xs ≡ true → list_all (λ v. list_all (goes v) vs) xs ≡ true
all_go z vs n h [] k = refl
all_go z vs n h (v ∷ xs) k =
    let k' = parts (goes z v) (list_all (goes z) xs) k in both _ _ (each_goes z v n k'.0 vs h) (all_go z vs n h xs k'.1)

abbrev any_two : List Value → Bool
any_two vs = list_all (λ v. list_all (goes v) vs) vs

-- NULLs aside, what compares with v goes with it
compared : (v : Value) → is_null v ≡ false → (vs : List Value) → list_all (λ w. is_some (compare v w)) (without_nulls vs) ≡ list_all (goes v) vs
compared v n [] = refl
compared v n (w ∷ vs) = compared_by (compared v n vs) (is_null w) refl where
  compared_by : list_all (λ u. is_some (compare v u)) (without_nulls vs) ≡ list_all (goes v) vs → (b : Bool) → is_null w ≡ b → list_all (λ u. is_some (compare v u)) (cond (not (is_null w)) (w ∷ without_nulls vs) (without_nulls vs)) ≡ (goes v w && list_all (goes v) vs)
  compared_by so true h = rw (h, n) so
  compared_by so false h = rw (h, n) (ap (λ b. is_some (compare v w) && b) so)

nulls_go : (v : Value) → is_null v ≡ true → (vs : List Value) → list_all (goes v) vs ≡ true
nulls_go v h [] = refl
nulls_go v h (w ∷ vs) = both _ _ (null_with v w h) (nulls_go v h vs)

without_one : (v : Value) → is_null v ≡ true → (vs xs : List Value) → list_all (λ u. goes u v && list_all (goes u) vs) xs ≡ list_all (λ u. list_all (goes u) vs) xs
without_one v h vs [] = refl
without_one v h vs (x ∷ xs) = rw (with_null x v h) (ap (λ b. list_all (goes x) vs && b) (without_one v h vs xs))

pub first_is_any : (vs : List Value) → all_compare (without_nulls vs) ≡ any_two vs
first_is_any [] = refl
first_is_any (v ∷ vs) = by_null (first_is_any vs) (is_null v) refl where
  by_all : (b : Bool) → is_null v ≡ false → list_all (goes v) vs ≡ b → b ≡ any_two (v ∷ vs)
  by_all true n h =
      let whole : list_all (goes v) (v ∷ vs) ≡ true = both _ _ (itself v) h in
      sym (all_go v (v ∷ vs) n whole (v ∷ vs) whole)
  by_all false n h = rw (itself v, h) refl

  by_null : all_compare (without_nulls vs) ≡ any_two vs → (b : Bool) → is_null v ≡ b → all_compare (cond (not (is_null v)) (v ∷ without_nulls vs) (without_nulls vs)) ≡ any_two (v ∷ vs)
  by_null so true h =
      ap (λ b. all_compare (cond (not b) (v ∷ without_nulls vs) (without_nulls vs))) h ∙ so ∙ sym (without_one v h vs vs)
      ∙ sym (ap (λ b. b && list_all (λ u. goes u v && list_all (goes u) vs) vs) (nulls_go v h (v ∷ vs)))
  by_null so false h = ap (λ b. all_compare (cond (not b) (v ∷ without_nulls vs) (without_nulls vs))) h ∙ compared v h vs ∙ by_all (list_all (goes v) vs) h refl

column : (k : ℕ) (keys : List (List Value)) → all_compare (without_nulls (map (key k) keys)) ≡ list_all (λ a. list_all (λ b. goes (key k a) (key k b)) keys) keys
column k keys =
    first_is_any (map (key k) keys) ∙ list_all-map (λ v. list_all (goes v) (map (key k) keys)) (key k) keys
    ∙ ap (λ (test : List Value → Bool). list_all test keys) (fun_ext (λ a. list_all-map (goes (key k a)) (key k) keys))

pub sortable : (by : List Dir) (keys : List (List Value)) → all_with_first by keys ≡ can_sort by keys
sortable by keys = ap (λ (test : ℕ → Bool). list_all test (range_with_len 0 (length by))) (fun_ext (λ k. column k keys))
