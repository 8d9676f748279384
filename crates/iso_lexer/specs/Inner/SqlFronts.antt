-- What stands at the front of SQL text, as the code finds it.
use Rattle.std.specs.Prelude.{ℕ, false, ◌||◌, ◌&&◌, ◌==◌, List, [], ◌∷◌, drop, slice_index, if◌then◌else◌}
use Rattle.std.specs.Option.{option_map_or}
use Rattle.std.specs.Char.{is_ascii_digit}
use Rattle.iso_lexer.specs.declared.fault.FaultKind.TheVariants.{UnterminatedName, UnterminatedString, UnterminatedComment, UnexpectedByte}
use Rattle.iso_lexer.specs.declared.runs.Run.TheVariants.{Comment, Digits}
use Rattle.iso_lexer.specs.Bytes.{is_blank}
use Rattle.iso_lexer.specs.Comments.{after_comment}
use Rattle.iso_lexer.specs.SqlTokens.{SqlToken, quoted, string, sign}
use Rattle.iso_lexer.specs.Lexing.{Front, gap, token, fault}
use Rattle.iso_lexer.specs.SqlText.{sql_signs}
use Rattle.iso_lexer.specs.SqlText.{number_front as front_of_digits}
use Rattle.iso_lexer.specs.Inner.Runs.{run_of, after_run, spelled}
use Rattle.iso_lexer.specs.Inner.Quotes.{quoted_from, quoted_front}

-- digits, with nothing of a name directly behind them
abbrev pub number_front : List ℕ → Front SqlToken
number_front text = front_of_digits (run_of Digits text) (after_run Digits text)

-- a sign of two bytes, else one of one byte; b stands first, c behind it
abbrev pub sign_front : ℕ → ℕ → List ℕ → Front SqlToken
sign_front b c rest =
    let one = option_map_or (λ s. token (sign s) rest) (spelled sql_signs (b ∷ [])) (fault UnexpectedByte 0) in
    option_map_or (λ s. token (sign s) (drop 1 rest)) (spelled sql_signs (b ∷ c ∷ [])) one

-- two dashes begin a comment up to the line's end, a slash and a star one that nests
abbrev pub pair_front : ℕ → ℕ → List ℕ → List ℕ → Front SqlToken
pair_front b c text rest =
    if b == 45 && c == 45 then gap (after_run Comment text)
    else (if b == 47 && c == 42 then option_map_or gap (after_comment 0 (drop 1 rest)) (fault UnterminatedComment 0)
    else sign_front b c rest)

-- a rule for each first byte b of ASCII that begins no word; rest is what follows it. Newlines may stand in quoted names and strings.
abbrev pub ascii_front : ℕ → List ℕ → List ℕ → Front SqlToken
ascii_front b text rest =
    if is_blank b || b == 10 then gap rest
    else (if is_ascii_digit b then number_front text
    else (if b == 34 then quoted_front quoted UnterminatedName (quoted_from 34 false false rest) rest
    else (if b == 39 then quoted_front string UnterminatedString (quoted_from 39 false false rest) rest
    else pair_front b (slice_index rest 0) text rest)))
