-- Each token of a spec file is the slice at its span.
use Rattle.std.proofs.Common.{◌≡◌, ℕ, suc, ◌+◌, ◌<◌, ◌≤◌, ◌++◌, length, drop, take, List, [], ◌∷◌, Result, Ok, Err, Bool, true, false, cond, refl, sym, ap, subst, ◌∙◌, arith, Option, Some, None, add-one}
use Rattle.std.specs.Prelude.{MatchBool, nat_lt, ◌==◌, ◌||◌}
use Rattle.std.specs.List.{prefix_len, position_or_len, AllByRecursion}
use Rattle.std.specs.Char.{is_ascii_digit}
use Rattle.std.specs.Option.{option_map_or}
use Rattle.std.proofs.Math.Seq.{take-suc}
use Rattle.std.proofs.lemmas.Bool.{eqb-true, eqb-false}
use Rattle.std.proofs.lemmas.List.Sums.{prefix_len-le-length, passes_at_first}
use Rattle.iso_lexer.specs.declared.limits.TheConstants.{LONGEST_FILE}
use Rattle.iso_lexer.specs.Bytes.{is_blank, is_name_start}
use Rattle.iso_lexer.specs.Inner.Runs.{passes, run_of, after_run, spelled}
use Rattle.iso_lexer.specs.declared.fault.Fault.{Fault}
use Rattle.iso_lexer.specs.declared.fault.FaultKind.TheVariants.{UnterminatedBlock, UnterminatedName, UnexpectedByte}
use Rattle.iso_lexer.specs.declared.token.At.{At}
use Rattle.iso_lexer.specs.declared.spec_token.Keyword.{Keyword}
use Rattle.iso_lexer.specs.declared.spec_token.Sign.{Sign}
use Rattle.iso_lexer.specs.declared.runs.Run.TheVariants.{Comment, Word, Digits}
use Rattle.iso_lexer.specs.Names.{plain, quoted}
use Rattle.iso_lexer.specs.SpecTokens.{SpecToken, keyword, name, digits, sign}
use Rattle.iso_lexer.specs.Lexing.{Front, gap, token, fault, Reads}
use Rattle.iso_lexer.specs.Inner.Quotes.{quoted_from, quoted_front}
use Rattle.iso_lexer.specs.SpecText.{block_token, spec_keywords, spec_front, spec_signs, Lexes}
use Rattle.iso_lexer.specs.Inner.SpecFronts.{block_front, word_front, ascii_front}
use Rattle.iso_lexer.specs.SpecSpelling.{Spells, LiesAt}
use Rattle.iso_lexer.proofs.Lexing.{either, CutBy, reads_slices}
use Rattle.iso_lexer.proofs.QuoteEnds.{quoted_cut}
use Rattle.iso_lexer.proofs.Spellings.{spelled_is}
use Rattle.iso_lexer.proofs.SpecFronts.{front_is}

abbrev Spelling : List ℕ → Front SpecToken → Type 0
Spelling text f = CutBy Spells text f

named_spells : (o : Option Keyword) (w : List ℕ) → spelled spec_keywords w ≡ o → Spells (option_map_or keyword o (name (plain w))) w
named_spells (Some k) w e = spelled_is spec_keywords w ∙ e
named_spells None w e = refl

word_cut : (text : List ℕ) → Spelling text (word_front text)
word_cut text = record { len = prefix_len (passes Word) text; within = prefix_len-le-length (passes Word) text; after = refl; spells = named_spells (spelled spec_keywords (run_of Word text)) (run_of Word text) refl }

name_cut : (b : ℕ) (bs : List ℕ) → b ≡ 34 → Spelling (b ∷ bs) (quoted_front (λ s. name (quoted s)) UnterminatedName (quoted_from 34 true false bs) bs)
name_cut b bs is = quoted_cut Spells (λ s. name (quoted s)) 34 true UnterminatedName b bs (quoted_from 34 true false bs) (λ w. refl) is refl

block_cut : (b : ℕ) (bs : List ℕ) → b ≡ 123 → Spelling (b ∷ bs) (block_front bs)
block_cut b bs is =
    let n = position_or_len (λ c. c == 125) bs in
    either (Spelling (b ∷ bs)) (n == length bs) (fault UnterminatedBlock 0) (token (block_token (take n bs)) (drop (n + 1) bs)) (λ h. tt) (λ h.
    let le : n ≤ length bs = prefix_len-le-length _ bs in
    let ne = eqb-false n (length bs) h in
    let lt : n < length bs = omega (arith, ne, le) in
    let last : take (suc n) bs ≡ take n bs ++ 125 ∷ [] = take-suc bs n 0 lt ∙ ap (λ c. take n bs ++ c ∷ []) (eqb-true _ 125 (passes_at_first (λ c. c == 125) bs 0 lt)) in
    record { len = suc (suc n); within = omega arith; after = rw add-one refl; spells = (take n bs, (λ i. is i ∷ last i), refl) })

abbrev sign_front : Option Sign → List ℕ → Front SpecToken
sign_front o bs = option_map_or (λ s. token (sign s) bs) o (fault UnexpectedByte 0)

sign_cut : (b : ℕ) (bs : List ℕ) (o : Option Sign) → spelled spec_signs (b ∷ []) ≡ o → Spelling (b ∷ bs) (sign_front o bs)
sign_cut b bs None e = tt
sign_cut b bs (Some s) e = record { len = 1; within = omega arith; after = refl; spells = spelled_is spec_signs (b ∷ []) ∙ e }

one_off : (b : ℕ) (bs : List ℕ) → Spelling (b ∷ bs) (gap bs)
one_off b bs = (1, omega arith, refl)

front_cut : (text : List ℕ) → Spelling text (spec_front text)
unfolding spec_front
front_cut [] = (0, omega arith, refl)
front_cut (b ∷ bs) =
    let P : Front SpecToken → Type 0 = Spelling (b ∷ bs) in
    subst P (sym (front_is (b ∷ bs) (omega arith))) (either P (is_name_start b) (word_front (b ∷ bs)) (ascii_front b (b ∷ bs) bs) (λ h. word_cut (b ∷ bs))
    (λ h0. either P (is_blank b || b == 10) (gap bs) _ (λ h. one_off b bs)
    (λ h1. either P (b == 35) (gap (after_run Comment (b ∷ bs))) _ (λ h. (prefix_len (passes Comment) (b ∷ bs), prefix_len-le-length (passes Comment) (b ∷ bs), refl))
    (λ h2. either P (is_ascii_digit b) (token (digits (run_of Digits (b ∷ bs))) (after_run Digits (b ∷ bs))) _ (λ h. record { len = prefix_len (passes Digits) (b ∷ bs); within = prefix_len-le-length (passes Digits) (b ∷ bs); after = refl; spells = refl })
    (λ h3. either P (b == 34) (quoted_front (λ s. name (quoted s)) UnterminatedName (quoted_from 34 true false bs) bs) (cond (b == 123) (block_front bs) (sign_front (spelled spec_signs (b ∷ [])) bs))
    (λ h. name_cut b bs (eqb-true b 34 h))
    (λ h4. either P (b == 123) (block_front bs) (sign_front (spelled spec_signs (b ∷ [])) bs) (λ h. block_cut b bs (eqb-true b 123 h)) (λ h5. sign_cut b bs (spelled spec_signs (b ∷ [])) refl)))))))

of_two : (b : Bool) (text : List ℕ) (f : Fault) (ts : List (At SpecToken)) → MatchBool b (◌≡◌ {A = Result (List (At SpecToken)) Fault} (Ok ts) (Err f)) (Reads spec_front (length text) text (Ok ts)) → AllByRecursion (LiesAt text) ts
of_two true text f ts h = absurd cc
of_two false text f ts h = reads_slices Spells spec_front front_cut text ts h

pub are_slices : (text : List ℕ) (ts : List (At SpecToken)) → Lexes text (Ok ts) → AllByRecursion (LiesAt text) ts
are_slices text ts h = of_two (nat_lt LONGEST_FILE (length text)) text _ ts h
