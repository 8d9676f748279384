-- A number in decimal looks like a number.
use Rattle.std.proofs.Common.{◌≡◌, ℕ, zero, suc, ◌+◌, ◌-◌, ◌<◌, ◌%◌, ◌^◌, Bool, true, false, List, [], ◌∷◌, ◌++◌, length, refl, arith, ◌∙◌, length-append}
use Rattle.std.specs.Prelude.{◌&&◌, not}
use Rattle.std.specs.List.{list_all, slice_get}
use Rattle.std.specs.Option.{option_map_or}
use Rattle.std.specs.Char.{is_ascii_digit}
use Rattle.std.specs.Fmt.{decimal, signed_decimal}
use Rattle.std.proofs.lemmas.Fmt.{decimal_by_steps}
use Rattle.std.proofs.lemmas.Bool.Decides.{nat_tests}
use Rattle.std.proofs.lemmas.List.Folds.{list_all-append}
use lib.IntN.{ℤ, pos, negsuc}
use lib.Signed.{mag}
use Rattle.result_tables.specs.Numeric.{is_numeric}
use Rattle.result_tables.specs.Inner.Numeric.{is_numeric_byte, is_exponent}
use Rattle.result_tables.specs.Inner.Columns.{is_textual}

-- some digits, and nothing else
record AreDigits (ds : List ℕ) : Type 0 where
  pub all : list_all is_ascii_digit ds ≡ true
  pub some : 0 < length ds

glyph_is_digit : (d : ℕ) → d < 10 → is_ascii_digit (48 + d) ≡ true
glyph_is_digit d h = grind (arith, nat_tests)

both_true : (a b : Bool) → a ≡ true → b ≡ true → (a && b) ≡ true
both_true a b h k = cc

left_true : (a b : Bool) → (a && b) ≡ true → a ≡ true
left_true true b h = refl
left_true false b h = h

right_true : (a b : Bool) → (a && b) ≡ true → b ≡ true
right_true true b h = h
right_true false b h = absurd (cc)

and_false : (a : Bool) → (a && false) ≡ false
and_false true = refl
and_false false = refl

list_all_true-append : (p : ℕ → Bool) (xs ys : List ℕ) → list_all p xs ≡ true → list_all p ys ≡ true → list_all p (xs ++ ys) ≡ true
list_all_true-append p xs ys h k = list_all-append p xs ys ∙ both_true _ _ h k

decimal_is_digits : (n : ℕ) → n < 2 ^ 64 → AreDigits (decimal n)
decimal_is_digits n h =
    decimal_by_steps (λ _ ds. AreDigits ds)
    (λ m small. record { all = both_true _ _ (glyph_is_digit m small) refl; some = omega arith })
    (λ m ds large before. record {
      all = list_all_true-append is_ascii_digit ds _ before.all (both_true _ _ (glyph_is_digit (m % 10) (omega arith)) refl);
      some = omega (arith, length-append ds ((48 + m % 10) ∷ []));
    })
    n h

digit_at : (ds : List ℕ) (k : ℕ) → list_all is_ascii_digit ds ≡ true → k < length ds → option_map_or is_ascii_digit (slice_get ds k) false ≡ true
digit_at [] k h l = absurd (omega arith)
digit_at (d ∷ ds) zero h l = left_true _ _ h
digit_at (d ∷ ds) (suc k) h l = digit_at ds k (right_true _ _ h) (omega arith)

digit_is_numeric : (d : ℕ) → is_ascii_digit d ≡ true → is_numeric_byte d ≡ true
digit_is_numeric d h = rw h

digit_is_no_exponent : (d : ℕ) → is_ascii_digit d ≡ true → not (is_exponent d) ≡ true
digit_is_no_exponent d h = grind (arith, nat_tests)

digits_are_numeric : (ds : List ℕ) → list_all is_ascii_digit ds ≡ true → list_all is_numeric_byte ds ≡ true
digits_are_numeric [] h = refl
digits_are_numeric (d ∷ ds) h = both_true _ _ (digit_is_numeric d (left_true _ _ h)) (digits_are_numeric ds (right_true _ _ h))

starts_with_digit : (ds : List ℕ) → AreDigits ds → not (option_map_or is_exponent (slice_get ds 0) false) ≡ true
starts_with_digit [] h = refl
starts_with_digit (d ∷ ds) h = digit_is_no_exponent d (left_true _ _ h.all)

is_numeric-digits : (ds : List ℕ) → AreDigits ds → is_numeric ds ≡ true
is_numeric-digits ds h =
    let last = digit_at ds (length ds - 1) h.all (omega (arith, h.some)) in
    both_true _ _ (both_true _ _ (digits_are_numeric ds h.all) (starts_with_digit ds h)) last

is_numeric-minus : (ds : List ℕ) → AreDigits ds → is_numeric (45 ∷ ds) ≡ true
is_numeric-minus [] h = absurd (omega (arith, h.some))
is_numeric-minus (d ∷ ds) h =
    let shift : suc (length (d ∷ ds)) - 1 ≡ suc (length ds) = omega arith in
    let last : option_map_or is_ascii_digit (slice_get (45 ∷ d ∷ ds) (suc (length (d ∷ ds)) - 1)) false ≡ true =
    rw shift (digit_at (d ∷ ds) (length ds) h.all (omega arith)) in
    both_true _ _ (both_true _ _ (digits_are_numeric (d ∷ ds) h.all) refl) last

pub is_numeric-signed : (z : ℤ) → mag z < 2 ^ 63 → is_numeric (signed_decimal z) ≡ true
is_numeric-signed (pos n) h = is_numeric-digits (decimal n) (decimal_is_digits n (omega arith))
is_numeric-signed (negsuc n) h = is_numeric-minus (decimal (suc n)) (decimal_is_digits (suc n) (omega arith))

pub decimal_is_no_word : (z : ℤ) → mag z < 2 ^ 63 → is_textual (signed_decimal z) ≡ false
decimal_is_no_word z h = rw (is_numeric-signed z h) (and_false _)
