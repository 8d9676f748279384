-- Where blocks end, and the front of a spec file by its first byte.
use Rattle.std.proofs.Common.{◌≡◌, ℕ, ◌+◌, ◌<◌, true, false, cond, eqb, List, [], ◌∷◌, length, get_or, drop, take, refl, ap, ◌∙◌, arith, eq-eqb, IsUtf8, Some, None, inl, inr}
use Rattle.std.specs.Prelude.{◌==◌, ◌||◌, ◌≤◌, position, bytes_eq}
use Rattle.std.specs.Char.{is_ascii_digit}
use Rattle.std.specs.Str.{IsCharBoundary}
use Rattle.std.specs.List.{position_or_len}
use Rattle.std.specs.Option.{option_map_or}
use Rattle.std.proofs.lemmas.Bool.{ne_eqb, eqb-true, cases_eq, le-ltb, lt-ltb}
use Rattle.std.proofs.lemmas.List.Sums.{position_or_len_is, prefix_len-le-length}
use Rattle.std.proofs.lemmas.Bool.Decides.{nat_tests}
use Rattle.std.proofs.lemmas.Str.{IsCharBoundary-after_ascii, IsCharBoundary-before_ascii}
use Rattle.memchr.specs.Find.{IsFirstByte, is_byte}
use Rattle.iso_lexer.specs.Names.{plain, quoted}
use Rattle.iso_lexer.specs.SpecTokens.{SpecToken, keyword, name, digits, sign}
use Rattle.iso_lexer.specs.Lexing.{Front, gap, token, fault, of_run}
use Rattle.iso_lexer.proofs.Closings.{line_front}
use Rattle.iso_lexer.proofs.Spellings.{spelled_is}
use Rattle.iso_lexer.specs.Inner.Runs.{run_of, after_run, spelled}
use Rattle.iso_lexer.specs.declared.runs.Run.TheVariants.{Comment, Word, Digits}
use Rattle.iso_lexer.specs.SpecText.{spec_keywords, spec_signs, block_token, spec_front}
use Rattle.iso_lexer.specs.Inner.SpecFronts.{word_front, ascii_front, block_front}
use Rattle.iso_lexer.specs.declared.fault.FaultKind.TheVariants.{UnterminatedBlock, UnterminatedName, UnexpectedByte}
use Rattle.iso_lexer.specs.Bytes.{is_blank, is_name_start, is_name_byte, row_of}

differs : (a c : ℕ) → (eqb a c ≡ true → ⊥) → eqb a c ≡ false
differs a c h = ne_eqb a c (λ e. h (eq-eqb a c e))

pub first_none : (c : ℕ) (bs : List ℕ) → IsFirstByte (is_byte c) bs None → position_or_len (λ b. b == c) bs ≡ length bs
first_none c bs h = position_or_len_is (λ b. b == c) bs (length bs) 0 (omega arith) (λ k lt. differs _ c (h k (omega arith) lt)) (λ lt. absurd (omega arith))

pub never : (c : ℕ) (bs : List ℕ) → IsFirstByte (is_byte c) bs None → (k : ℕ) → k < length bs → eqb (get_or bs k 0) c ≡ false
never c bs h k lt = differs _ c (h k (omega arith) lt)

pub before_first : (c : ℕ) (bs : List ℕ) (n : ℕ) → IsFirstByte (is_byte c) bs (Some n) → (k : ℕ) → k < n → eqb (get_or bs k 0) c ≡ false
before_first c bs n h k lt = differs _ c (h.0.before k (omega arith) lt)

pub record FirstAt (c : ℕ) (bs : List ℕ) (n : ℕ) : Type 0 where
  pub lt : n < length bs
  pub place : position_or_len (λ b. b == c) bs ≡ n
  pub is : get_or bs n 0 ≡ c

pub first_some : (c : ℕ) (bs : List ℕ) (n : ℕ) → IsFirstByte (is_byte c) bs (Some n) → FirstAt c bs n
first_some c bs n h = record {
  lt = h.0.high;
  place = position_or_len_is (λ b. b == c) bs n 0 (omega (arith, h.0.high)) (λ k lt. differs _ c (h.0.before k (omega arith) lt)) (λ lt. h.1);
  is = eqb-true _ c h.1;
}

block_is : (bs : List ℕ) → option_map_or (λ n. token (block_token (take n bs)) (drop (n + 1) bs)) (position (λ c. c == 125) bs) (fault UnterminatedBlock 0) ≡ block_front bs
block_is bs =
    let n = position_or_len (λ c. c == 125) bs in
    let le : n ≤ length bs = prefix_len-le-length _ bs in
    elim (cases_eq n (length bs)) [
      | inl is ↦ rw (eq-eqb n (length bs) is, le-ltb n (length bs) (omega arith)) refl
      | inr ne ↦ rw (ne_eqb n (length bs) ne, lt-ltb n (length bs) (omega (arith, ne))) refl
    ]

word_is : (text : List ℕ) → of_run is_name_byte (λ w. option_map_or keyword (row_of bytes_eq spec_keywords w) (name (plain w))) text ≡ word_front text
word_is text = ap (λ k. token (option_map_or keyword k (name (plain (run_of Word text)))) (after_run Word text)) (spelled_is spec_keywords (run_of Word text))

sign_is : (b : ℕ) (bs : List ℕ) → option_map_or (λ s. token (sign s) bs) (row_of bytes_eq spec_signs (b ∷ [])) (fault UnexpectedByte 0) ≡ option_map_or (λ s. token (sign s) bs) (spelled spec_signs (b ∷ [])) (fault UnexpectedByte 0)
sign_is b bs = ap (λ s. option_map_or (λ s. token (sign s) bs) s (fault UnexpectedByte 0)) (spelled_is spec_signs (b ∷ []))

-- the front by its first byte, with these for words, quoted names, blocks and signs
abbrev by_first : ℕ → List ℕ → Front SpecToken → Front SpecToken → Front SpecToken → Front SpecToken → Front SpecToken
by_first b bs word quote block signs =
    cond (is_name_start b) word
    (cond (is_blank b || b == 10) (gap bs)
    (cond (b == 35) (gap (after_run Comment (b ∷ bs)))
    (cond (is_ascii_digit b) (token (digits (run_of Digits (b ∷ bs))) (after_run Digits (b ∷ bs)))
    (cond (b == 34) quote (cond (b == 123) block signs)))))

pub front_is : (text : List ℕ) → 0 < length text → spec_front text ≡ cond (is_name_start (get_or text 0 0)) (word_front text) (ascii_front (get_or text 0 0) text (drop 1 text))
unfolding spec_front
front_is [] lt = absurd (omega arith)
front_is (b ∷ bs) lt = (λ i. by_first b bs (word_is (b ∷ bs) i) (line_front (λ s. name (quoted s)) UnterminatedName bs i) (block_is bs i) (sign_is b bs i))

pub no_name_small : (b : ℕ) → is_name_start b ≡ false → b < 128
no_name_small b h = grind (arith, nat_tests)

block_some : (bs : List ℕ) (n : ℕ) → FirstAt 125 bs n → block_front bs ≡ token (block_token (take n bs)) (drop (n + 1) bs)
block_some bs n at = rw (at.place, ne_eqb n (length bs) (λ e. absurd (omega (arith, at.lt)))) refl

-- the answers of a search for the brace, of a text seen as bytes
pub no_brace : (bs xs : List ℕ) → xs ≡ bs → IsFirstByte (is_byte 125) xs None → block_front bs ≡ fault UnterminatedBlock 0
no_brace bs xs same h = rw (first_none 125 bs (rw same at h), eq-eqb (length bs) (length bs) refl) refl

pub record Brace (bs : List ℕ) (n : ℕ) : Type 0 where
  pub lt : n < length bs
  pub before : IsCharBoundary bs n
  pub behind : IsCharBoundary bs (n + 1)
  pub front : block_front bs ≡ token (block_token (take n bs)) (drop (n + 1) bs)

pub brace : (bs xs : List ℕ) (n : ℕ) → IsUtf8 bs → xs ≡ bs → IsFirstByte (is_byte 125) xs (Some n) → Brace bs n
brace bs xs n utf8 same h =
    let at = first_some 125 bs n (rw same at h) in
    let small : get_or bs n 0 < 128 = omega (arith, at.is) in
    record { lt = at.lt; before = IsCharBoundary-before_ascii bs n at.lt small; behind = IsCharBoundary-after_ascii bs n utf8 at.lt small; front = block_some bs n at }

pub front_boundary : (bs xs : List ℕ) → IsUtf8 bs → xs ≡ bs → 0 < length bs → is_name_start (get_or xs 0 0) ≡ false → IsCharBoundary bs 1
front_boundary bs xs utf8 same lt h = IsCharBoundary-after_ascii bs 0 utf8 lt (no_name_small _ (rw same at h))

pub front_word : (bs xs : List ℕ) → xs ≡ bs → 0 < length bs → is_name_start (get_or xs 0 0) ≡ true → spec_front bs ≡ word_front bs
front_word bs xs same lt h = front_is bs lt ∙ rw (rw same at h) refl

pub front_ascii : (bs xs rest : List ℕ) → xs ≡ bs → 0 < length bs → is_name_start (get_or xs 0 0) ≡ false → rest ≡ drop 1 bs → spec_front bs ≡ ascii_front (get_or xs 0 0) bs rest
front_ascii bs xs rest same lt h e = front_is bs lt ∙ rw (rw same at h, same, e) refl
