-- To be believed. The tokens of a spec file, or the first fault of one.
use Rattle.std.specs.Prelude.{◌≡◌, ◌≤◌, ℕ, ◌+◌, ◌-◌, not, ◌||◌, ◌==◌, List, [], ◌∷◌, length, take, take_while, drop, zip, position, bytes_eq, Result, Ok, Err, if◌then◌else◌, codes, nat_lt, MatchBool}
use Rattle.std.specs.Global.{Vec}
use Rattle.std.specs.List.{before_first, suffix_len}
use Rattle.std.specs.Option.{option_map_or}
use Rattle.std.specs.Char.{is_ascii_digit}
use Rattle.iso_lexer.specs.declared.limits.TheConstants.{LONGEST_FILE}
use Rattle.iso_lexer.specs.declared.fault.FaultKind.TheVariants.{UnterminatedBlock, UnterminatedName, NewlineInName, UnexpectedByte, FileTooLong}
use Rattle.iso_lexer.specs.declared.fault.Fault.{Fault}
use Rattle.iso_lexer.specs.declared.fault.LexFault.{LexFault}
use Rattle.iso_lexer.specs.declared.fault.LexFault.TheVariants as errors
use Rattle.iso_lexer.specs.declared.spec_token.Keyword.{Keyword}
use Rattle.iso_lexer.specs.declared.spec_token.Keyword.TheVariants.{Permutation, Session, Setup, Step, Teardown, Notices}
use Rattle.iso_lexer.specs.declared.spec_token.Sign.{Sign}
use Rattle.iso_lexer.specs.declared.spec_token.Sign.TheVariants.{Open, Close, Comma, Star}
use Rattle.iso_lexer.specs.declared.spec_token.SpecTok.{SpecTok}
use Rattle.iso_lexer.specs.declared.token.At.{At}
use Rattle.iso_lexer.specs.Bytes.{is_blank, is_name_start, is_name_byte, drop_while, words_of, row_of}
use Rattle.iso_lexer.specs.Names.{plain, quoted}
use Rattle.iso_lexer.specs.SpecTokens.{SpecToken, keyword, name, digits, sign, block, at_views}
use Rattle.iso_lexer.specs.Lexing.{Front, gap, token, fault, of_run, Reads, HasToken}
use Rattle.iso_lexer.specs.Quotes.{quoted_front}

-- the keywords and the signs, as they are spelled
abbrev pub spec_keywords : List (List ℕ × Keyword)
spec_keywords = zip (words_of (codes "permutation session setup step teardown notices")) (Permutation ∷ Session ∷ Setup ∷ Step ∷ Teardown ∷ Notices ∷ [])

abbrev pub spec_signs : List (List ℕ × Sign)
spec_signs = zip (words_of (codes "( ) , *")) (Open ∷ Close ∷ Comma ∷ Star ∷ [])

-- the token of a block, by what stands between its braces: so many blanks, and then the text without the blanks at its end
abbrev pub block_token : List ℕ → SpecToken
block_token inner = let text = drop_while is_blank inner in block (length (take_while is_blank inner)) (take (length text - suffix_len is_blank text) text)

-- A rule for each first byte b. A word is a keyword, or else a plain name; a quoted name is closed on its line; the first closing brace ends a block.
unfoldable pub spec_front : List ℕ → Front SpecToken
spec_front [] = gap []
spec_front (b ∷ bs) =
    let unclosed : Front SpecToken = option_map_or (λ n. fault NewlineInName (n + 1)) (position (λ c. c == 10) bs) (fault UnterminatedName 0) in
    if is_name_start b then of_run is_name_byte (λ w. option_map_or keyword (row_of bytes_eq spec_keywords w) (name (plain w))) (b ∷ bs)
    else (if is_blank b || b == 10 then gap bs
    else (if b == 35 then gap (drop_while (λ c. not (c == 10 || c == 13)) (b ∷ bs))
    else (if is_ascii_digit b then of_run is_ascii_digit digits (b ∷ bs)
    else (if b == 34 then quoted_front 34 (λ s. name (quoted s)) (before_first (λ c. c == 10) bs) bs unclosed
    else (if b == 123 then option_map_or (λ n. token (block_token (take n bs)) (drop (n + 1) bs)) (position (λ c. c == 125) bs) (fault UnterminatedBlock 0)
    else option_map_or (λ s. token (sign s) bs) (row_of bytes_eq spec_signs (b ∷ [])) (fault UnexpectedByte 0))))))

-- ---- whole texts

-- A file that is too long has that fault alone.
abbrev pub Lexes : List ℕ → Result (List (At SpecToken)) Fault → Type 0
Lexes text answer = MatchBool (nat_lt LONGEST_FILE (length text)) (answer ≡ Err (record { kind = FileTooLong; at = LONGEST_FILE })) (Reads spec_front (length text) text answer)

-- room is wanted only of a file that isn't too long, and has a token before any fault
pub record WantsRoom (text : List ℕ) : Type 0 where
  pub short : length text ≤ LONGEST_FILE
  pub token : HasToken spec_front text

-- What was returned is so, unless memory ran out.
abbrev pub LexAnswers : List ℕ → Result (Vec (At SpecTok)) LexFault → Type 0
LexAnswers text (Ok ts) = Lexes text (Ok (at_views ts.items))
LexAnswers text (Err errors.Memory) = WantsRoom text
LexAnswers text (Err (errors.Fault f)) = Lexes text (Err f)
