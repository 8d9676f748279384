-- The rules of spec files: each piece takes something, and the whole file.
use Rattle.std.proofs.Common.{◌≡◌, ℕ, suc, ◌+◌, ◌<◌, ◌≤◌, length, drop, take, List, [], ◌∷◌, Result, Ok, Err, Bool, true, false, cond, eqb, refl, sym, subst, ◌∙◌, arith, length-drop, Option, Some, None}
use Rattle.std.specs.Prelude.{MatchBool, nat_lt, ◌==◌, ◌||◌}
use Rattle.std.specs.List.{prefix_len, position_or_len}
use Rattle.std.specs.Char.{is_ascii_digit}
use Rattle.std.specs.Option.{option_map_or}
use Rattle.std.specs.Global.{Vec}
use Rattle.std.proofs.lemmas.Bool.{le-ltb, eqb-true}
use Rattle.iso_lexer.specs.declared.limits.TheConstants.{LONGEST_FILE}
use Rattle.iso_lexer.specs.Bytes.{is_blank, is_name_start, is_name_byte}
use Rattle.iso_lexer.specs.Inner.Runs.{passes, spelled}
use Rattle.iso_lexer.specs.SpecTokens.{SpecToken, name, sign, token_view, at_views}
use Rattle.iso_lexer.specs.Names.{quoted}
use Rattle.iso_lexer.specs.Lexing.{Front, gap, token, fault, Reads, ReadsBy}
use Rattle.iso_lexer.specs.Inner.Quotes.{quoted_from, quoted_front}
use Rattle.iso_lexer.specs.SpecText.{block_token, spec_front, spec_signs, LexAnswers, Lexes}
use Rattle.iso_lexer.specs.Inner.SpecFronts.{block_front, word_front, ascii_front}
use Rattle.iso_lexer.specs.declared.fault.Fault.{Fault}
use Rattle.iso_lexer.specs.declared.fault.LexFault.{LexFault}
use Rattle.iso_lexer.specs.declared.fault.LexFault.TheVariants as errors
use Rattle.iso_lexer.specs.declared.spec_token.SpecTok.{SpecTok}
use Rattle.iso_lexer.specs.declared.fault.FaultKind.TheVariants.{UnterminatedBlock, UnterminatedName, UnexpectedByte}
use Rattle.iso_lexer.specs.declared.token.At.{At}
use Rattle.iso_lexer.specs.declared.spec_token.Sign.{Sign}
use Rattle.iso_lexer.specs.declared.runs.Run.TheVariants.{Comment}
use Rattle.iso_lexer.specs.Inner.Rules.{Shorter, Rules}
use Rattle.iso_lexer.proofs.Lexing.{either, one_reading}
use Rattle.iso_lexer.proofs.QuoteEnds.{quoted_shorter}
use Rattle.iso_lexer.proofs.SpecFronts.{front_is}

pub after_shorter : (p : ℕ → Bool) (b : ℕ) (bs : List ℕ) → p b ≡ true → length (drop (prefix_len p (b ∷ bs)) (b ∷ bs)) < suc (length bs)
after_shorter p b bs h =
    let one : prefix_len p (b ∷ bs) ≡ 1 + prefix_len p bs = rw h refl in
    omega (arith, one, length-drop (prefix_len p (b ∷ bs)) (b ∷ bs))

name_shorter : (bs : List ℕ) → Shorter (suc (length bs)) (quoted_front (λ s. name (quoted s)) UnterminatedName (quoted_from 34 true false bs) bs)
name_shorter bs = quoted_shorter (λ s. name (quoted s)) 34 true UnterminatedName (quoted_from 34 true false bs) bs refl

abbrev sign_front : Option Sign → List ℕ → Front SpecToken
sign_front o bs = option_map_or (λ s. token (sign s) bs) o (fault UnexpectedByte 0)

sign_shorter : (s : Option Sign) (bs : List ℕ) → Shorter (suc (length bs)) (sign_front s bs)
sign_shorter (Some s) bs = omega arith
sign_shorter None bs = omega arith

block_shorter : (bs : List ℕ) → Shorter (suc (length bs)) (block_front bs)
block_shorter bs =
    let n = position_or_len (λ b. b == 125) bs in
    either (Shorter (suc (length bs))) (n == length bs) (fault UnterminatedBlock 0) (token (block_token (take n bs)) (drop (n + 1) bs)) (λ h. omega arith) (λ h. omega (arith, length-drop (n + 1) bs))

pub gap_shorter : (bs : List ℕ) → length bs < suc (length bs)
gap_shorter bs = omega arith

pub name_byte : (b : ℕ) → is_name_start b ≡ true → is_name_byte b ≡ true
name_byte b h = rw h refl

comment_byte : (b : ℕ) → eqb b 35 ≡ true → passes Comment b ≡ true
comment_byte b h = rw (eqb-true b 35 h) refl

front_shorter : (text : List ℕ) → 0 < length text → Shorter (length text) (spec_front text)
front_shorter [] lt = absurd (omega arith)
front_shorter (b ∷ bs) lt =
    let P : Front SpecToken → Type 0 = Shorter (suc (length bs)) in
    subst P (sym (front_is (b ∷ bs) lt)) (either P (is_name_start b) (word_front (b ∷ bs)) (ascii_front b (b ∷ bs) bs)
    (λ h. after_shorter is_name_byte b bs (name_byte b h))
    (λ h0. either P (is_blank b || b == 10) (gap bs) _
    (λ h. gap_shorter bs)
    (λ h1. either P _ _ _
    (λ h. after_shorter (passes Comment) b bs (comment_byte b h))
    (λ h2. either P _ _ _
    (λ h. after_shorter is_ascii_digit b bs h)
    (λ h3. either P (b == 34) (quoted_front (λ s. name (quoted s)) UnterminatedName (quoted_from 34 true false bs) bs) (cond (b == 123) (block_front bs) (sign_front (spelled spec_signs (b ∷ [])) bs))
    (λ h. name_shorter bs)
    (λ h4. either P (b == 123) (block_front bs) (sign_front (spelled spec_signs (b ∷ [])) bs) (λ h. block_shorter bs) (λ h5. sign_shorter (spelled spec_signs (b ∷ [])) bs)))))))

pub spec_rules : Rules spec_front
unfolding spec_front
spec_rules = record { nothing = refl; shorter = front_shorter }

-- ---- the whole file

pub lexes : (text : List ℕ) (answer : Result (List (At SpecToken)) Fault) → length text ≤ LONGEST_FILE → Reads spec_front (length text) text answer → Lexes text answer
lexes text answer le h = rw (le-ltb LONGEST_FILE (length text) le) h

-- what is read of a file that is no longer than the longest
pub read_whole : (text : List ℕ) (answer : Result (Vec (At SpecTok)) LexFault) → length text ≤ LONGEST_FILE → ReadsBy token_view spec_front text answer → LexAnswers text answer
read_whole text (Ok ts) le h = lexes text (Ok (at_views ts.items)) le h
read_whole text (Err errors.Memory) le h = record { short = le; token = h }
read_whole text (Err (errors.Fault f)) le h = lexes text (Err f) le h

one_of_two : (b : Bool) (text : List ℕ) (f : Fault) (x y : Result (List (At SpecToken)) Fault) → MatchBool b (x ≡ Err f) (Reads spec_front (length text) text x) → MatchBool b (y ≡ Err f) (Reads spec_front (length text) text y) → x ≡ y
one_of_two true text f x y p q = p ∙ sym q
one_of_two false text f x y p q = one_reading spec_front (length text) text x y spec_rules.nothing p q

pub one_lexing : (text : List ℕ) (x y : Result (List (At SpecToken)) Fault) → Lexes text x → Lexes text y → x ≡ y
one_lexing text x y p q = one_of_two (nat_lt LONGEST_FILE (length text)) text _ x y p q
