-- The rules of SQL text: each piece takes something.
use Rattle.std.proofs.Common.{◌≡◌, ℕ, suc, ◌<◌, length, drop, List, [], ◌∷◌, true, false, refl, sym, ap, subst, arith, length-drop, Option, Some, None}
use Rattle.std.specs.Prelude.{◌==◌, ◌||◌, ◌&&◌, nat_lt, slice_index}
use Rattle.std.specs.List.{prefix_len}
use Rattle.std.specs.Char.{is_ascii_digit}
use Rattle.std.specs.Option.{option_map_or}
use Rattle.std.specs.Str.Parse.{digits_value}
use Rattle.std.proofs.lemmas.Bool.{eqb-true, and_parts}
use Rattle.std.proofs.lemmas.List.Folds.{length-prefix_len}
use Rattle.iso_lexer.specs.Bytes.{is_blank, is_name_start, is_name_byte}
use Rattle.iso_lexer.specs.Inner.Runs.{passes, after_run, run_of, spelled}
use Rattle.iso_lexer.specs.SqlTokens.{SqlToken, word, quoted, string, number, sign}
use Rattle.iso_lexer.specs.Lexing.{Front, gap, token, fault}
use Rattle.iso_lexer.specs.Inner.Quotes.{quoted_from, quoted_front}
use Rattle.iso_lexer.specs.Comments.{after_comment}
use Rattle.iso_lexer.specs.SqlText.{sql_front_of, sql_front, sql_signs}
use Rattle.iso_lexer.specs.Inner.SqlFronts.{number_front, pair_front, ascii_front}
use Rattle.iso_lexer.specs.declared.fault.FaultKind.TheVariants.{NumberTooLarge, UnexpectedByte, UnterminatedName, UnterminatedString, UnterminatedComment}
use Rattle.iso_lexer.specs.declared.sql_token.SqlSign.{SqlSign}
use Rattle.iso_lexer.specs.declared.runs.Run.TheVariants.{Comment, Word, Digits}
use Rattle.iso_lexer.specs.Inner.Rules.{Shorter, Rules}
use Rattle.iso_lexer.proofs.Lexing.{either}
use Rattle.iso_lexer.proofs.QuoteEnds.{quoted_shorter}
use Rattle.iso_lexer.proofs.Comments.{behind, comment_further}
use Rattle.iso_lexer.proofs.SqlFronts.{front_is}
use Rattle.iso_lexer.proofs.SpecRules.{after_shorter, gap_shorter, name_byte}

some_byte : (xs : List ℕ) → is_name_byte (slice_index xs 0) ≡ true → 0 < length xs
some_byte [] h = absurd cc
some_byte (x ∷ xs) h = omega arith

number_shorter : (b : ℕ) (bs : List ℕ) → is_ascii_digit b ≡ true → Shorter (suc (length bs)) (number_front (b ∷ bs))
number_shorter b bs h =
    let P : Front SqlToken → Type 0 = Shorter (suc (length bs)) in
    let text = b ∷ bs in
    let n = prefix_len is_ascii_digit text in
    either P (nat_lt 9223372036854775807 (digits_value 10 (run_of Digits text))) (fault NumberTooLarge 0) _ (λ h0. omega arith)
    (λ h0. either P (is_name_byte (slice_index (after_run Digits text) 0)) (fault UnexpectedByte (length (run_of Digits text))) (token (number (digits_value 10 (run_of Digits text))) (after_run Digits text))
    (λ h1. omega (arith, length-prefix_len is_ascii_digit text, length-drop n text, some_byte (after_run Digits text) h1))
    (λ h1. after_shorter is_ascii_digit b bs h))

name_shorter : (bs : List ℕ) → Shorter {T = SqlToken} (suc (length bs)) (quoted_front quoted UnterminatedName (quoted_from 34 false false bs) bs)
name_shorter bs = quoted_shorter quoted 34 false UnterminatedName (quoted_from 34 false false bs) bs refl

string_shorter : (bs : List ℕ) → Shorter {T = SqlToken} (suc (length bs)) (quoted_front string UnterminatedString (quoted_from 39 false false bs) bs)
string_shorter bs = quoted_shorter string 39 false UnterminatedString (quoted_from 39 false false bs) bs refl

abbrev comment_front : Option (List ℕ) → Front SqlToken
comment_front o = option_map_or gap o (fault UnterminatedComment 0)

comment_shorter : (bs : List ℕ) (o : Option (List ℕ)) → after_comment 0 (drop 1 bs) ≡ o → Shorter (suc (length bs)) (comment_front o)
comment_shorter bs None e = omega arith
comment_shorter bs (Some rest) e =
    let f = comment_further (drop 1 bs) rest (behind 0 (drop 1 bs) rest e) in
    omega (arith, ap length f.is, length-drop f.n (drop 1 bs), length-drop 1 bs)

abbrev by_signs : Option SqlSign → Option SqlSign → List ℕ → Front SqlToken
by_signs two one bs = option_map_or (λ s. token (sign s) (drop 1 bs)) two (option_map_or (λ s. token (sign s) bs) one (fault UnexpectedByte 0))

sign_shorter : (two one : Option SqlSign) (bs : List ℕ) → Shorter (suc (length bs)) (by_signs two one bs)
sign_shorter (Some s) one bs = omega (arith, length-drop 1 bs)
sign_shorter None (Some s) bs = omega arith
sign_shorter None None bs = omega arith

dash : (b c : ℕ) → (b == 45 && c == 45) ≡ true → passes Comment b ≡ true
dash b c h = rw (eqb-true b 45 (and_parts (b == 45) (c == 45) h).0) refl

pair_shorter : (b c : ℕ) (bs : List ℕ) → Shorter (suc (length bs)) (pair_front b c (b ∷ bs) bs)
pair_shorter b c bs =
    let P : Front SqlToken → Type 0 = Shorter (suc (length bs)) in
    either P (b == 45 && c == 45) (gap (after_run Comment (b ∷ bs))) _ (λ h. after_shorter (passes Comment) b bs (dash b c h))
    (λ h0. either P (b == 47 && c == 42) (comment_front (after_comment 0 (drop 1 bs))) _ (λ h. comment_shorter bs _ refl)
    (λ h1. sign_shorter (spelled sql_signs (b ∷ c ∷ [])) (spelled sql_signs (b ∷ [])) bs))

front_shorter : (text : List ℕ) → 0 < length text → Shorter (length text) (sql_front text)
front_shorter [] lt = absurd (omega arith)
front_shorter (b ∷ bs) lt =
    let P : Front SqlToken → Type 0 = Shorter (suc (length bs)) in
    subst P (sym (front_is (b ∷ bs) lt)) (either P (is_name_start b) (token (word tt (run_of Word (b ∷ bs))) (after_run Word (b ∷ bs))) (ascii_front b (b ∷ bs) bs)
    (λ h. after_shorter is_name_byte b bs (name_byte b h))
    (λ h0. either P (is_blank b || b == 10) (gap bs) _ (λ h. gap_shorter bs)
    (λ h1. either P (is_ascii_digit b) (number_front (b ∷ bs)) _ (λ h. number_shorter b bs h)
    (λ h2. either P (b == 34) (quoted_front quoted UnterminatedName (quoted_from 34 false false bs) bs) _ (λ h. name_shorter bs)
    (λ h3. either P (b == 39) (quoted_front string UnterminatedString (quoted_from 39 false false bs) bs) _ (λ h. string_shorter bs)
    (λ h4. pair_shorter b (slice_index bs 0) bs))))))

pub sql_rules : Rules sql_front
unfolding sql_front_of
sql_rules = record { nothing = refl; shorter = front_shorter }
