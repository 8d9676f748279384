-- Each token of SQL text is the slice at its span.
use Rattle.std.proofs.Common.{◌≡◌, ℕ, suc, ◌<◌, length, drop, List, [], ◌∷◌, Ok, true, false, refl, sym, subst, ◌∙◌, arith, Option, Some, None}
use Rattle.std.specs.Prelude.{◌==◌, ◌||◌, ◌&&◌, nat_lt, slice_index}
use Rattle.std.specs.List.{prefix_len, AllByRecursion}
use Rattle.std.specs.Char.{is_ascii_digit}
use Rattle.std.specs.Option.{option_map_or}
use Rattle.std.specs.Str.Parse.{digits_value}
use Rattle.std.proofs.lemmas.Bool.{eqb-true}
use Rattle.std.proofs.lemmas.List.Sums.{prefix_len-le-length}
use Rattle.iso_lexer.specs.Bytes.{is_blank, is_name_start, is_name_byte}
use Rattle.iso_lexer.specs.Inner.Runs.{passes, run_of, after_run, spelled}
use Rattle.iso_lexer.specs.declared.fault.FaultKind.TheVariants.{NumberTooLarge, UnexpectedByte, UnterminatedName, UnterminatedString, UnterminatedComment}
use Rattle.iso_lexer.specs.declared.sql_token.SqlSign.{SqlSign}
use Rattle.iso_lexer.specs.declared.token.At.{At}
use Rattle.iso_lexer.specs.declared.runs.Run.TheVariants.{Comment, Word, Digits}
use Rattle.iso_lexer.specs.SqlTokens.{SqlToken, word, quoted, string, number, sign}
use Rattle.iso_lexer.specs.Lexing.{Front, gap, token, fault}
use Rattle.iso_lexer.specs.Inner.Quotes.{quoted_from, quoted_front}
use Rattle.iso_lexer.specs.Comments.{after_comment}
use Rattle.iso_lexer.specs.SqlText.{sql_front_of, sql_front, sql_signs, SqlLexes}
use Rattle.iso_lexer.specs.Inner.SqlFronts.{number_front, pair_front, ascii_front}
use Rattle.iso_lexer.specs.SqlSpelling.{SqlSpells, SqlLiesAt}
use Rattle.iso_lexer.proofs.Lexing.{either, CutBy, reads_slices}
use Rattle.iso_lexer.proofs.QuoteEnds.{quoted_cut}
use Rattle.iso_lexer.proofs.Spellings.{spelled_is}
use Rattle.iso_lexer.proofs.Comments.{behind, comment_further}
use Rattle.iso_lexer.proofs.SqlFronts.{front_is, digits_numeral, second_of_two, second_of_opening}

abbrev Spelling : List ℕ → Front SqlToken → Type 0
Spelling text f = CutBy SqlSpells text f

word_cut : (text : List ℕ) → Spelling text (token (word tt (run_of Word text)) (after_run Word text))
word_cut text = record { len = prefix_len (passes Word) text; within = prefix_len-le-length (passes Word) text; after = refl; spells = refl }

number_cut : (text : List ℕ) → is_ascii_digit (slice_index text 0) ≡ true → Spelling text (number_front text)
number_cut text h =
    let P : Front SqlToken → Type 0 = Spelling text in
    either P (nat_lt 9223372036854775807 (digits_value 10 (run_of Digits text))) (fault NumberTooLarge 0) _ (λ h0. tt)
    (λ h0. either P (is_name_byte (slice_index (after_run Digits text) 0)) (fault UnexpectedByte (length (run_of Digits text))) (token (number (digits_value 10 (run_of Digits text))) (after_run Digits text)) (λ h1. tt)
    (λ h1. record { len = prefix_len (passes Digits) text; within = prefix_len-le-length (passes Digits) text; after = refl; spells = (digits_numeral text h, refl) }))

name_cut : (b : ℕ) (bs : List ℕ) → b ≡ 34 → Spelling (b ∷ bs) (quoted_front quoted UnterminatedName (quoted_from 34 false false bs) bs)
name_cut b bs is = quoted_cut SqlSpells quoted 34 false UnterminatedName b bs (quoted_from 34 false false bs) (λ w. refl) is refl

string_cut : (b : ℕ) (bs : List ℕ) → b ≡ 39 → Spelling (b ∷ bs) (quoted_front string UnterminatedString (quoted_from 39 false false bs) bs)
string_cut b bs is = quoted_cut SqlSpells string 39 false UnterminatedString b bs (quoted_from 39 false false bs) (λ w. refl) is refl

abbrev comment_front : Option (List ℕ) → Front SqlToken
comment_front o = option_map_or gap o (fault UnterminatedComment 0)

comment_cut : (b : ℕ) (bs : List ℕ) (o : Option (List ℕ)) → 0 < slice_index bs 0 → after_comment 0 (drop 1 bs) ≡ o → Spelling (b ∷ bs) (comment_front o)
comment_cut b bs None lt e = tt
comment_cut b [] (Some rest) lt e = absurd (omega arith)
comment_cut b (c ∷ cs) (Some rest) lt e =
    let f = comment_further cs rest (behind 0 cs rest e) in
    (suc (suc f.n), omega (arith, f.within), f.is)

abbrev by_signs : Option SqlSign → Option SqlSign → List ℕ → Front SqlToken
by_signs two one bs = option_map_or (λ s. token (sign s) (drop 1 bs)) two (option_map_or (λ s. token (sign s) bs) one (fault UnexpectedByte 0))

sign_cut : (b : ℕ) (bs : List ℕ) (two one : Option SqlSign) → spelled sql_signs (b ∷ slice_index bs 0 ∷ []) ≡ two → spelled sql_signs (b ∷ []) ≡ one → Spelling (b ∷ bs) (by_signs two one bs)
sign_cut b [] (Some s) one e f = absurd (omega (arith, (second_of_two b 0 s e).0))
sign_cut b (c ∷ cs) (Some s) one e f = record { len = 2; within = omega arith; after = refl; spells = spelled_is sql_signs (b ∷ c ∷ []) ∙ e }
sign_cut b bs None (Some s) e f = record { len = 1; within = omega arith; after = refl; spells = spelled_is sql_signs (b ∷ []) ∙ f }
sign_cut b bs None None e f = tt

opening : (b c : ℕ) → (b == 47 && c == 42) ≡ true → 0 < c
opening b c h = (second_of_opening b c h).0

pair_cut : (b : ℕ) (bs : List ℕ) → Spelling (b ∷ bs) (pair_front b (slice_index bs 0) (b ∷ bs) bs)
pair_cut b bs =
    let P : Front SqlToken → Type 0 = Spelling (b ∷ bs) in
    let c = slice_index bs 0 in
    either P (b == 45 && c == 45) (gap (after_run Comment (b ∷ bs))) _ (λ h. (prefix_len (passes Comment) (b ∷ bs), prefix_len-le-length (passes Comment) (b ∷ bs), refl))
    (λ h0. either P (b == 47 && c == 42) (comment_front (after_comment 0 (drop 1 bs))) _ (λ h. comment_cut b bs _ (opening b c h) refl)
    (λ h1. sign_cut b bs (spelled sql_signs (b ∷ c ∷ [])) (spelled sql_signs (b ∷ [])) refl refl))

one_off : (b : ℕ) (bs : List ℕ) → Spelling (b ∷ bs) (gap bs)
one_off b bs = (1, omega arith, refl)

front_cut : (text : List ℕ) → Spelling text (sql_front text)
unfolding sql_front_of
front_cut [] = (0, omega arith, refl)
front_cut (b ∷ bs) =
    let P : Front SqlToken → Type 0 = Spelling (b ∷ bs) in
    subst P (sym (front_is (b ∷ bs) (omega arith))) (either P (is_name_start b) (token (word tt (run_of Word (b ∷ bs))) (after_run Word (b ∷ bs))) (ascii_front b (b ∷ bs) bs) (λ h. word_cut (b ∷ bs))
    (λ h0. either P (is_blank b || b == 10) (gap bs) _ (λ h. one_off b bs)
    (λ h1. either P (is_ascii_digit b) (number_front (b ∷ bs)) _ (λ h. number_cut (b ∷ bs) h)
    (λ h2. either P (b == 34) (quoted_front quoted UnterminatedName (quoted_from 34 false false bs) bs) _ (λ h. name_cut b bs (eqb-true b 34 h))
    (λ h3. either P (b == 39) (quoted_front string UnterminatedString (quoted_from 39 false false bs) bs) _ (λ h. string_cut b bs (eqb-true b 39 h))
    (λ h4. pair_cut b bs))))))

pub are_sql_slices : (text : List ℕ) (ts : List (At SqlToken)) → SqlLexes text (Ok ts) → AllByRecursion (SqlLiesAt text) ts
are_sql_slices text ts h = reads_slices SqlSpells sql_front front_cut text ts h
