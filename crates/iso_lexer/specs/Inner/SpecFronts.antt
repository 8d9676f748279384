-- What stands at the front of a spec file, as the code finds it.
use Rattle.std.specs.Prelude.{ℕ, ◌+◌, true, false, ◌||◌, ◌==◌, List, [], ◌∷◌, length, take, drop, if◌then◌else◌}
use Rattle.std.specs.List.{position_or_len}
use Rattle.std.specs.Option.{option_map_or}
use Rattle.std.specs.Char.{is_ascii_digit}
use Rattle.iso_lexer.specs.declared.fault.FaultKind.TheVariants.{UnterminatedBlock, UnterminatedName, UnexpectedByte}
use Rattle.iso_lexer.specs.declared.runs.Run.TheVariants.{Comment, Word, Digits}
use Rattle.iso_lexer.specs.Bytes.{is_blank}
use Rattle.iso_lexer.specs.Names.{plain, quoted}
use Rattle.iso_lexer.specs.SpecTokens.{SpecToken, keyword, name, digits, sign}
use Rattle.iso_lexer.specs.Lexing.{Front, gap, token, fault}
use Rattle.iso_lexer.specs.SpecText.{spec_keywords, spec_signs, block_token}
use Rattle.iso_lexer.specs.Inner.Runs.{run_of, after_run, spelled}
use Rattle.iso_lexer.specs.Inner.Quotes.{quoted_from, quoted_front}

-- the first closing brace ends a block
abbrev pub block_front : List ℕ → Front SpecToken
block_front bs =
    let n = position_or_len (λ b. b == 125) bs in
    if n == length bs then fault UnterminatedBlock 0 else token (block_token (take n bs)) (drop (n + 1) bs)

-- a keyword, or else a plain name
abbrev pub word_front : List ℕ → Front SpecToken
word_front text = let w = run_of Word text in token (option_map_or keyword (spelled spec_keywords w) (name (plain w))) (after_run Word text)

-- a rule for each first byte b of ASCII that begins no word; rest is what follows it. A quoted name stays on its line.
abbrev pub ascii_front : ℕ → List ℕ → List ℕ → Front SpecToken
ascii_front b text rest =
    if is_blank b || b == 10 then gap rest
    else (if b == 35 then gap (after_run Comment text)
    else (if is_ascii_digit b then token (digits (run_of Digits text)) (after_run Digits text)
    else (if b == 34 then quoted_front (λ s. name (quoted s)) UnterminatedName (quoted_from 34 true false rest) rest
    else (if b == 123 then block_front rest
    else option_map_or (λ s. token (sign s) rest) (spelled spec_signs (b ∷ [])) (fault UnexpectedByte 0)))))
