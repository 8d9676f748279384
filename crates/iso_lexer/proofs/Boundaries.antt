-- A run ends between characters.
use Rattle.std.proofs.Common.{◌≡◌, ℕ, ◌+◌, ◌-◌, ◌<◌, ◌≤◌, Bool, true, false, List, length, get_or, IsUtf8, subst, arith, inl, inr}
use Rattle.std.specs.Prelude.{reverse}
use Rattle.std.specs.List.{prefix_len, suffix_len}
use Rattle.std.specs.Str.{IsCharBoundary}
use Rattle.std.specs.Char.{is_ascii_digit}
use Rattle.std.proofs.lemmas.Bool.{cases_lt}
use Rattle.std.proofs.lemmas.Bool.Decides.{nat_tests}
use Rattle.std.proofs.lemmas.Str.{IsCharBoundary-start, IsCharBoundary-after_ascii, IsCharBoundary-before_ascii, IsCharBoundary-end}
use Rattle.std.proofs.lemmas.List.{length-reverse, get_or-reverse}
use Rattle.std.proofs.lemmas.List.Sums.{suffix_len-le-length, prefix_len-le-length, prefix_len_passes, prefix_len_stops}
use Rattle.iso_lexer.specs.declared.runs.Run.{Run}
use Rattle.iso_lexer.specs.declared.runs.Run.TheVariants.{Blanks, Comment, Word, Digits}
use Rattle.iso_lexer.specs.Bytes.{is_blank, is_name_byte}
use Rattle.iso_lexer.specs.Inner.Runs.{passes}

blank_small : (b : ℕ) → is_blank b ≡ true → b < 128
blank_small b h = grind (arith, nat_tests)

line_end_small : (b : ℕ) → passes Comment b ≡ false → b < 128
line_end_small b h = grind (arith, nat_tests)

name_stop_small : (b : ℕ) → is_name_byte b ≡ false → b < 128
name_stop_small b h = grind (arith, nat_tests)

digit_small : (b : ℕ) → is_ascii_digit b ≡ true → b < 128
digit_small b h = grind (arith, nat_tests)

-- where each byte of the run is ASCII
behind_ascii : (p : ℕ → Bool) → ((b : ℕ) → p b ≡ true → b < 128) → (bs : List ℕ) → IsUtf8 bs → IsCharBoundary bs (prefix_len p bs)
behind_ascii p small bs utf8 =
    let n = prefix_len p bs in
    let le : n ≤ length bs = prefix_len-le-length p bs in
    elim (cases_lt 0 n) [
      | inl lt ↦
          let back : n - 1 + 1 ≡ n = omega arith in
          let ascii : get_or bs (n - 1) 0 < 128 = small _ (prefix_len_passes p bs (n - 1) 0 (omega arith)) in
          subst (IsCharBoundary bs) back (IsCharBoundary-after_ascii bs (n - 1) utf8 (omega arith) ascii)
      | inr le0 ↦
          let none : 0 ≡ n = omega arith in
          subst (IsCharBoundary bs) none (IsCharBoundary-start bs utf8)
    ]

-- where the byte at which it stops is ASCII
before_ascii : (p : ℕ → Bool) → ((b : ℕ) → p b ≡ false → b < 128) → (bs : List ℕ) → IsCharBoundary bs (prefix_len p bs)
before_ascii p small bs =
    let n = prefix_len p bs in
    let le : n ≤ length bs = prefix_len-le-length p bs in
    elim (cases_lt n (length bs)) [
      | inl lt ↦ IsCharBoundary-before_ascii bs n lt (small _ (prefix_len_stops p bs 0 lt))
      | inr ge ↦
          let whole : length bs ≡ n = omega arith in
          subst (IsCharBoundary bs) whole (IsCharBoundary-end bs)
    ]

pub run_boundary : (run : Run) (bs : List ℕ) → IsUtf8 bs → IsCharBoundary bs (prefix_len (passes run) bs)
run_boundary Blanks bs utf8 = behind_ascii is_blank blank_small bs utf8
run_boundary Comment bs utf8 = before_ascii (passes Comment) line_end_small bs
run_boundary Word bs utf8 = before_ascii is_name_byte name_stop_small bs
run_boundary Digits bs utf8 = behind_ascii is_ascii_digit digit_small bs utf8

-- where the blanks at the end begin
pub suffix_boundary : (bs : List ℕ) → IsCharBoundary bs (length bs - suffix_len is_blank bs)
suffix_boundary bs =
    let n = suffix_len is_blank bs in
    let le : n ≤ length bs = suffix_len-le-length is_blank bs in
    elim (cases_lt 0 n) [
      | inl lt ↦
          let there : n - 1 < length (reverse bs) = omega (arith, length-reverse bs) in
          let same : get_or (reverse bs) (n - 1) 0 ≡ get_or bs (length bs - 1 - (n - 1)) 0 = get_or-reverse bs (n - 1) 0 (omega arith) in
          let place : length bs - 1 - (n - 1) ≡ length bs - n = omega arith in
          let ascii : get_or bs (length bs - n) 0 < 128 = blank_small _ (rw (← place, ← same) (prefix_len_passes is_blank (reverse bs) (n - 1) 0 (omega arith))) in
          IsCharBoundary-before_ascii bs (length bs - n) (omega arith) ascii
      | inr le0 ↦
          let none : length bs ≡ length bs - n = omega arith in
          subst (IsCharBoundary bs) none (IsCharBoundary-end bs)
    ]
