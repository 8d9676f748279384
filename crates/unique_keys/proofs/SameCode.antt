-- Keys that are equal have one code.
use Rattle.std.proofs.Common.{◌≡◌, refl, sym, ◌∙◌, ap, Bool, true, false, ℕ, ℤ, List, [], ◌∷◌}
use Rattle.std.specs.Prelude.{Option, Some, None, option_and_then, slice_get}
use Rattle.std.specs.Ordering.{is_eq, int_cmp, bool_cmp, nat_cmp}
use Rattle.std.specs.Cmp.Lexicographic.{slice_cmp}
use Rattle.std.specs.declared.cmp.Ordering.{Ordering}
use Rattle.std.specs.declared.cmp.Ordering.TheVariants.{Less, Equal, Greater}
use Rattle.std.proofs.lemmas.Map.Lookups.{exact_signed, exact_bytes}
use Rattle.sql_values.specs.declared.value.Value.{Value}
use Rattle.sql_values.specs.declared.value.Value.TheVariants.{Null, Int, Big, Text, Bool as Boolean}
use Rattle.unique_keys.specs.Inner.Finding.{agree, are_equal}
use Rattle.unique_keys.specs.Inner.Codes.{value_code, code_from, mix}
use Rattle.unique_keys.proofs.Quick.{both}

is_equal : (o : Ordering) → is_eq o ≡ true → o ≡ Equal
is_equal Less h = cc
is_equal Equal h = refl
is_equal Greater h = cc

same_number : (a b : ℤ) → is_eq (int_cmp a b) ≡ true → a ≡ b
same_number a b h = exact_signed a b (is_equal (int_cmp a b) h)

same_text : (a b : List ℕ) → is_eq (slice_cmp nat_cmp a b) ≡ true → a ≡ b
same_text a b h = exact_bytes a b (is_equal (slice_cmp nat_cmp a b) h)

same_bool : (a b : Bool) → is_eq (bool_cmp a b) ≡ true → a ≡ b
same_bool true true h = refl
same_bool false false h = refl
same_bool true false h = cc
same_bool false true h = cc

-- the two have one code
abbrev pub OneCode : Option ℕ → Option ℕ → Type 0
OneCode a b = (code : ℕ) × (a ≡ Some code) × (b ≡ Some code)

equal_values : (a b : Option Value) → are_equal a b ≡ true → OneCode (value_code a) (value_code b)
equal_values (Some (Int x)) (Some (Int y)) h = let e = same_number x y h in (_, refl, ap (λ z. value_code (Some (Int z))) (sym e))
equal_values (Some (Int x)) (Some (Big y)) h = let e = same_number x y h in (_, refl, ap (λ z. value_code (Some (Int z))) (sym e))
equal_values (Some (Big x)) (Some (Int y)) h = let e = same_number x y h in (_, refl, ap (λ z. value_code (Some (Int z))) (sym e))
equal_values (Some (Big x)) (Some (Big y)) h = let e = same_number x y h in (_, refl, ap (λ z. value_code (Some (Int z))) (sym e))
equal_values (Some (Text x)) (Some (Text y)) h = let e = same_text x y h in (_, refl, ap (λ z. value_code (Some (Text z))) (sym e))
equal_values (Some (Boolean x)) (Some (Boolean y)) h = let e = same_bool x y h in (_, refl, ap (λ z. value_code (Some (Boolean z))) (sym e))
equal_values None b h = cc
equal_values (Some a) None h = cc
equal_values (Some Null) (Some b) h = cc
equal_values (Some (Int x)) (Some Null) h = cc
equal_values (Some (Int x)) (Some (Text y)) h = cc
equal_values (Some (Int x)) (Some (Boolean y)) h = cc
equal_values (Some (Big x)) (Some Null) h = cc
equal_values (Some (Big x)) (Some (Text y)) h = cc
equal_values (Some (Big x)) (Some (Boolean y)) h = cc
equal_values (Some (Text x)) (Some Null) h = cc
equal_values (Some (Text x)) (Some (Int y)) h = cc
equal_values (Some (Text x)) (Some (Big y)) h = cc
equal_values (Some (Text x)) (Some (Boolean y)) h = cc
equal_values (Some (Boolean x)) (Some Null) h = cc
equal_values (Some (Boolean x)) (Some (Int y)) h = cc
equal_values (Some (Boolean x)) (Some (Big y)) h = cc
equal_values (Some (Boolean x)) (Some (Text y)) h = cc

pub one_code : (code : ℕ) (columns : List ℕ) (asked values : List Value) → agree columns asked values ≡ true → OneCode (code_from code columns asked) (code_from code columns values)
one_code code [] asked values h = (code, refl, refl)
one_code code (column ∷ columns) asked values h =
    let t = both (are_equal (slice_get asked column) (slice_get values column)) (agree columns asked values) h in
    let first = equal_values (slice_get asked column) (slice_get values column) t.0 in
    let rest = one_code (mix (mix code column) first.0) columns asked values t.1 in (
      rest.0,
      ap (λ o. option_and_then (λ number. code_from (mix (mix code column) number) columns asked) o) first.1 ∙ rest.1,
      ap (λ o. option_and_then (λ number. code_from (mix (mix code column) number) columns values) o) first.2 ∙ rest.2,
    )
