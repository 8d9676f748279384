-- The front of SQL text by its first byte, its numbers and signs, and the places between characters.
use Rattle.std.proofs.Common.{◌≡◌, ℕ, ◌+◌, ◌-◌, ◌<◌, ◌≤◌, Bool, true, false, cond, List, [], ◌∷◌, length, get_or, drop, take, sym, refl, ap, subst, ◌∙◌, arith, inl, inr, IsUtf8, Some}
use Rattle.std.specs.Prelude.{◌==◌, ◌&&◌, slice_index, nat_lt, bytes_eq}
use Rattle.std.specs.Str.{IsCharBoundary}
use Rattle.std.specs.Str.Parse.{IsNumeral, digits_value}
use Rattle.std.specs.List.{prefix_len, list_all}
use Rattle.std.specs.Int.{IsInRange}
use Rattle.std.specs.Char.{is_ascii_digit}
use Rattle.std.proofs.lemmas.Bool.{eqb-true, and_parts, le-ltb, ltb-true, cases_Bool, false≢true}
use Rattle.std.proofs.lemmas.Bool.Decides.{nat_tests}
use Rattle.std.proofs.lemmas.List.{get_or-take}
use Rattle.std.proofs.lemmas.List.Sums.{prefix_len_passes}
use Rattle.std.proofs.lemmas.List.Folds.{length-prefix_len}
use Rattle.std.proofs.lemmas.Str.{IsCharBoundary-after_ascii}
use Rattle.std.proofs.lemmas.Str.Parse.{IsNumeralModel, numerals_by_value, tells_by_index}
use Rattle.iso_lexer.specs.Bytes.{is_name_start, is_name_byte}
use Rattle.iso_lexer.specs.Inner.Runs.{run_of, after_run, spelled}
use Rattle.iso_lexer.specs.Comments.{EndsAt}
use Rattle.iso_lexer.specs.SqlTokens.{word, quoted, string, number}
use Rattle.iso_lexer.specs.Lexing.{token, fault}
use Rattle.iso_lexer.specs.SqlText.{sql_front_of, sql_front, sql_signs}
use Rattle.iso_lexer.specs.Inner.SqlFronts.{number_front, ascii_front}
use Rattle.iso_lexer.specs.declared.fault.FaultKind.TheVariants.{UnterminatedName, UnterminatedString, UnexpectedByte}
use Rattle.iso_lexer.specs.declared.sql_token.SqlSign.{SqlSign}
use Rattle.iso_lexer.proofs.Closings.{free_front}
use Rattle.iso_lexer.proofs.Spellings.{spelled_is}
use Rattle.iso_lexer.specs.declared.runs.Run.TheVariants.{Word, Digits}

pub front_is : (text : List ℕ) → 0 < length text → sql_front text ≡ cond (is_name_start (get_or text 0 0)) (token (word tt (run_of Word text)) (after_run Word text)) (ascii_front (get_or text 0 0) text (drop 1 text))
unfolding sql_front_of
front_is [] lt = absurd (omega arith)
front_is (b ∷ bs) lt = rw (spelled_is sql_signs (b ∷ slice_index bs 0 ∷ []), spelled_is sql_signs (b ∷ []), free_front quoted UnterminatedName bs 34, free_front string UnterminatedString bs 39) refl

pub front_word : (bs xs : List ℕ) → xs ≡ bs → 0 < length bs → is_name_start (get_or xs 0 0) ≡ true → sql_front bs ≡ token (word tt (run_of Word bs)) (after_run Word bs)
front_word bs xs same lt h = front_is bs lt ∙ rw (rw same at h) refl

pub front_ascii : (bs xs rest : List ℕ) → xs ≡ bs → 0 < length bs → is_name_start (get_or xs 0 0) ≡ false → rest ≡ drop 1 bs → sql_front bs ≡ ascii_front (get_or xs 0 0) bs rest
front_ascii bs xs rest same lt h e = front_is bs lt ∙ rw (rw same at h, same, e) refl

-- behind one byte of ASCII
pub behind_one : (bs : List ℕ) (b : ℕ) → IsUtf8 bs → b ≡ get_or bs 0 0 → 0 < b → b < 128 → IsCharBoundary bs 1
behind_one [] b utf8 is some small = absurd (omega (arith, is))
behind_one (x ∷ xs) b utf8 is some small = IsCharBoundary-after_ascii (x ∷ xs) 0 utf8 (omega arith) (omega (arith, is))

pub end_boundary : (bs xs : List ℕ) (n : ℕ) → IsUtf8 bs → xs ≡ bs → EndsAt xs n → IsCharBoundary bs n
end_boundary bs xs n utf8 same ends =
    let back : n - 1 + 1 ≡ n = omega (arith, ends.0) in
    let within : n ≤ length bs = omega (arith, ends.1, ap length same) in
    let slash : get_or bs (n - 1) 0 ≡ 47 = ap (λ x. get_or x (n - 1) 0) (sym same) ∙ ends.2 in
    subst (IsCharBoundary bs) back (IsCharBoundary-after_ascii bs (n - 1) utf8 (omega (arith, ends.0)) (omega (arith, slash)))

pub second_of_opening : (b c : ℕ) → (b == 47 && c == 42) ≡ true → (0 < c) × (c < 128)
second_of_opening b c h =
    let star : c ≡ 42 = eqb-true c 42 (and_parts (b == 47) (c == 42) h).1 in
    (omega arith, omega arith)

-- ---- signs of two bytes

abbrev Small : ℕ → Type 0
Small c = (0 < c) × (c < 128)

-- the bytes are as many as those of a row, and where they are two, the second is one of ASCII
abbrev is_row : List ℕ → Bool
is_row (x ∷ y ∷ []) = nat_lt 0 y && nat_lt y 128
is_row (x ∷ []) = true
is_row _ = false

second_is : (b c : ℕ) (row : List ℕ) → is_row row ≡ true → bytes_eq (b ∷ c ∷ []) row ≡ true → Small c
second_is b c [] r h = absurd (false≢true r)
second_is b c (x ∷ []) r h = absurd (false≢true (and_parts (b == x) false h).1)
second_is b c (x ∷ y ∷ []) r h =
    let same : c ≡ y = eqb-true c y (and_parts (c == y) true (and_parts (b == x) (c == y && true) h).1).0 in
    let both = and_parts (nat_lt 0 y) (nat_lt y 128) r in
    (omega (arith, ltb-true 0 y both.0), omega (arith, ltb-true y 128 both.1))
second_is b c (x ∷ y ∷ z ∷ row) r h = absurd (false≢true r)

second_in : (b c : ℕ) (rows : List (List ℕ × SqlSign)) (g : SqlSign) → list_all (λ (row : List ℕ × SqlSign). is_row row.0) rows ≡ true → spelled rows (b ∷ c ∷ []) ≡ Some g → Small c
second_in b c [] g r h = absurd cc
second_in b c (row ∷ rows) g r h =
    let parts = and_parts (is_row row.0) (list_all (λ (row : List ℕ × SqlSign). is_row row.0) rows) r in
    elim (cases_Bool (bytes_eq (b ∷ c ∷ []) row.0)) [
      | inl same ↦ second_is b c row.0 parts.0 same
      | inr other ↦ second_in b c rows g parts.1 (rw other at h)
    ]

pub second_of_two : (b c : ℕ) (g : SqlSign) → spelled sql_signs (b ∷ c ∷ []) ≡ Some g → Small c
second_of_two b c g h = second_in b c sql_signs g refl h

-- ---- numbers

digit_range : (c : ℕ) → is_ascii_digit c ≡ true → IsInRange 48 57 c
digit_range c h = (grind (arith, nat_tests), grind (arith, nat_tests))

own : IsNumeralModel (λ ds. (i : ℕ) → i < length ds → IsInRange 48 57 (get_or ds i 0)) (digits_value 10)
own = numerals_by_value _ tells_by_index

pub digits_numeral : (text : List ℕ) → is_ascii_digit (slice_index text 0) ≡ true → IsNumeral 10 (run_of Digits text)
digits_numeral [] h = absurd cc
digits_numeral (b ∷ bs) h =
    let text = b ∷ bs in
    let n = prefix_len is_ascii_digit text in
    let one : n ≡ 1 + prefix_len is_ascii_digit bs = rw h refl in
    let len : length (take n text) ≡ n = length-prefix_len is_ascii_digit text in
    (omega (arith, len, one), own.to (take n text) (λ i lt. let lt' : i < n = omega (arith, len) in rw (get_or-take n text i 0 lt') (digit_range _ (prefix_len_passes is_ascii_digit text i 0 lt'))))

module _ (text ds rest : List ℕ) (n : ℕ) (de : ds ≡ run_of Digits text) (re : rest ≡ after_run Digits text) (is : n ≡ digits_value 10 ds) (le : n ≤ 9223372036854775807) where
  fits : nat_lt 9223372036854775807 (digits_value 10 (run_of Digits text)) ≡ false
  fits = le-ltb 9223372036854775807 (digits_value 10 (run_of Digits text)) (rw (← de, ← is) le)

  pub number_cut_off : is_name_byte (slice_index rest 0) ≡ true → fault UnexpectedByte (length ds) ≡ number_front text
  number_cut_off h = sym (rw (fits, ← re, h, ← de) refl)

  pub number_whole : is_name_byte (slice_index rest 0) ≡ false → token (number n) rest ≡ number_front text
  number_whole h = sym (rw (fits, ← re, h, ← de, ← is) refl)
