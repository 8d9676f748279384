-- To be believed. The tokens of SQL text, or its first fault. Words, quoted names, strings, numbers, signs and comments are those of
-- PostgreSQL's manual, section "Lexical Structure".
use Rattle.std.specs.Prelude.{ℕ, not, ◌||◌, ◌&&◌, ◌==◌, List, [], ◌∷◌, ◌++◌, length, take_while, drop, zip, bytes_eq, Result, if◌then◌else◌, codes, nat_lt, slice_index}
use Rattle.std.specs.Global.{Vec}
use Rattle.std.specs.Char.{is_ascii_digit}
use Rattle.std.specs.Option.{option_map_or}
use Rattle.std.specs.Str.Parse.{digits_value}
use Rattle.iso_lexer.specs.declared.fault.FaultKind.TheVariants.{UnterminatedName, UnterminatedString, UnterminatedComment, UnexpectedByte, NumberTooLarge}
use Rattle.iso_lexer.specs.declared.fault.Fault.{Fault}
use Rattle.iso_lexer.specs.declared.fault.LexFault.{LexFault}
use Rattle.iso_lexer.specs.declared.sql_token.SqlSign.{SqlSign}
use Rattle.iso_lexer.specs.declared.sql_token.SqlSign.TheVariants.{NotEqual, AtMost, AtLeast, Concat, Cast, Open, Close, Comma, Semicolon, Plus, Minus, Star, Slash, Percent, Equal, Less, Greater, Dot}
use Rattle.iso_lexer.specs.declared.sql_token.SqlTok.{SqlTok}
use Rattle.iso_lexer.specs.declared.token.At.{At}
use Rattle.iso_lexer.specs.Bytes.{is_blank, is_name_start, is_name_byte, drop_while, words_of, row_of}
use Rattle.iso_lexer.specs.SqlTokens.{SqlTokenOf, SqlToken, sql_view, word, quoted, string, number, sign}
use Rattle.iso_lexer.specs.Lexing.{Front, gap, token, fault, of_run, Reads, ReadsBy}
use Rattle.iso_lexer.specs.Quotes.{quoted_front}
use Rattle.iso_lexer.specs.Comments.{after_comment}

-- the signs, as they are spelled
abbrev pub sql_signs : List (List ℕ × SqlSign)
sql_signs =
    zip (words_of (codes "<> != <= >= || ::")) (NotEqual ∷ NotEqual ∷ AtMost ∷ AtLeast ∷ Concat ∷ Cast ∷ [])
    ++ zip (words_of (codes "( ) , ; + - * / % = < > .")) (Open ∷ Close ∷ Comma ∷ Semicolon ∷ Plus ∷ Minus ∷ Star ∷ Slash ∷ Percent ∷ Equal ∷ Less ∷ Greater ∷ Dot ∷ [])

-- a number by its digits and what follows them: nothing of a name, directly
abbrev pub number_front : {W : Type 0} → List ℕ → List ℕ → Front (SqlTokenOf W)
number_front digits rest =
    if nat_lt 9223372036854775807 (digits_value 10 digits) then fault NumberTooLarge 0
    else (if is_name_byte (slice_index rest 0) then fault UnexpectedByte (length digits) else token (number (digits_value 10 digits)) rest)

-- A rule for each first byte b, and the byte c behind it, where this is told of a word. Newlines may stand in quoted names and strings; two dashes begin
-- a comment up to the line's end, a slash and a star one that nests; a sign of two bytes comes before one of one byte.
unfoldable pub sql_front_of : {W : Type 0} → (List ℕ → W) → List ℕ → Front (SqlTokenOf W)
sql_front_of told [] = gap []
sql_front_of {W} told (b ∷ bs) =
    let c = slice_index bs 0 in
    let one_byte : Front (SqlTokenOf W) = option_map_or (λ s. token (sign s) bs) (row_of bytes_eq sql_signs (b ∷ [])) (fault UnexpectedByte 0) in
    if is_name_start b then of_run is_name_byte (λ w. word (told w) w) (b ∷ bs)
    else (if is_blank b || b == 10 then gap bs
    else (if is_ascii_digit b then number_front (take_while is_ascii_digit (b ∷ bs)) (drop_while is_ascii_digit (b ∷ bs))
    else (if b == 34 then quoted_front 34 quoted bs bs (fault UnterminatedName 0)
    else (if b == 39 then quoted_front 39 string bs bs (fault UnterminatedString 0)
    else (if b == 45 && c == 45 then gap (drop_while (λ a. not (a == 10 || a == 13)) (b ∷ bs))
    else (if b == 47 && c == 42 then option_map_or gap (after_comment 0 (drop 1 bs)) (fault UnterminatedComment 0)
    else option_map_or (λ s. token (sign s) (drop 1 bs)) (row_of bytes_eq sql_signs (b ∷ c ∷ [])) one_byte))))))

-- the rules of the lexer, which tells nothing of a word
abbrev pub sql_front : List ℕ → Front SqlToken
sql_front = sql_front_of (λ w. tt)

-- The text reads as these tokens, or as this first fault.
abbrev pub SqlLexes : List ℕ → Result (List (At SqlToken)) Fault → Type 0
SqlLexes text answer = Reads sql_front (length text) text answer

-- What was returned is so, unless memory ran out, which is wanted only of a text that has a token before any fault.
abbrev pub SqlAnswers : List ℕ → Result (Vec (At SqlTok)) LexFault → Type 0
SqlAnswers text answer = ReadsBy sql_view sql_front text answer
