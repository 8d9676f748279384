-- Each text has its tokens, or a first fault of them.
use Rattle.std.proofs.Common.{◌≡◌, refl, ℕ, zero, suc, ◌+◌, ◌-◌, ◌<◌, ◌≤◌, List, [], ◌∷◌, length, Result, Ok, Err, arith}
use Rattle.std.specs.Result.{result_map_both}
use Rattle.iso_lexer.specs.declared.fault.Fault.{Fault}
use Rattle.iso_lexer.specs.declared.token.At.{At}
use Rattle.iso_lexer.specs.SqlTokens.{SqlToken}
use Rattle.iso_lexer.specs.SqlText.{sql_front, SqlLexes}
use Rattle.iso_lexer.specs.Lexing.{Front, gap, token, fault, Reads, ends, takes, fails}
use Rattle.iso_lexer.specs.Lexing.{passes as skips}
use Rattle.iso_lexer.specs.Inner.Rules.{Shorter, Rules}
use Rattle.iso_lexer.proofs.SqlRules.{sql_rules}

abbrev HasReading : {T : Type 0} → (List ℕ → Front T) → ℕ → List ℕ → Type 0
HasReading {T} front total text = (answer : Result (List (At T)) Fault) × Reads front total text answer

by_front : {T : Type 0} (front : List ℕ → Front T) (total b : ℕ) (bs : List ℕ) (f : Front T) → front (b ∷ bs) ≡ f → Shorter (length (b ∷ bs)) f
    → ((rest : List ℕ) → length rest < length (b ∷ bs) → HasReading front total rest) → HasReading front total (b ∷ bs)
by_front front total b bs (gap rest) e less more = let r = more rest less in (r.0, skips rest (omega arith) e r.1)
by_front front total b bs (token t rest) e less more =
    let r = more rest less in
    (result_map_both (λ ts. record { tok = t; span = record { start = total - length (b ∷ bs); end = total - length rest } } ∷ ts) (λ f. f) r.0, takes t rest e r.1 refl)
by_front front total b bs (fault kind n) e less more = (Err (record { kind = kind; at = total - length (b ∷ bs) + n }), fails kind n e refl)

-- by rules that take something at each turn a text of so many bytes, or fewer, reads as something
pub reads_some : {T : Type 0} (front : List ℕ → Front T) → Rules front → (total n : ℕ) (text : List ℕ) → length text ≤ n → HasReading front total text
reads_some front rules total n [] le = (Ok [], ends)
reads_some front rules total zero (b ∷ bs) le = absurd (omega (arith, le))
reads_some front rules total (suc n) (b ∷ bs) le =
    by_front front total b bs (front (b ∷ bs)) refl (rules.shorter (b ∷ bs) (omega arith)) (λ rest less. reads_some front rules total n rest (omega (arith, less, le)))

pub sql_tokens_of : (text : List ℕ) → (answer : Result (List (At SqlToken)) Fault) × SqlLexes text answer
sql_tokens_of text = reads_some sql_front sql_rules (length text) (length text) text (omega arith)
