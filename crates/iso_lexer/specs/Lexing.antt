-- To be believed. How a text splits into tokens, by rules for what it begins with.
use Rattle.std.specs.Prelude.{◌≡◌, ℕ, ◌+◌, ◌-◌, ◌<◌, ◌≤◌, Bool, List, [], ◌∷◌, length, map, take_while, Result, Ok, Err, slice_range}
use Rattle.std.specs.Result.{result_map_both}
use Rattle.std.specs.Global.{Vec}
use Rattle.iso_lexer.specs.declared.fault.FaultKind.{FaultKind}
use Rattle.iso_lexer.specs.declared.fault.Fault.{Fault}
use Rattle.iso_lexer.specs.declared.fault.LexFault.{LexFault}
use Rattle.iso_lexer.specs.declared.fault.LexFault.TheVariants as errors
use Rattle.iso_lexer.specs.declared.token.At.{At}
use Rattle.iso_lexer.specs.Bytes.{drop_while}

-- What a text begins with: nothing that counts, a token, or a fault so many bytes on.
pub data Front (T : Type 0) : Type 0 where
  gap : List ℕ → Front T
  token : T → List ℕ → Front T
  fault : FaultKind → ℕ → Front T

-- the token made of the longest prefix whose bytes all pass
abbrev pub of_run : {T : Type 0} → (ℕ → Bool) → (List ℕ → T) → List ℕ → Front T
of_run p make text = token (make (take_while p text)) (drop_while p text)

-- What is left of a text of this many bytes reads, by these rules, as these tokens or as this first fault.
pub data Reads {T : Type 0} (front : List ℕ → Front T) (total : ℕ) : List ℕ → Result (List (At T)) Fault → Type 0 where
  ends : Reads front total [] (Ok [])
  passes : {text : List ℕ} (rest : List ℕ) {answer : Result (List (At T)) Fault} → 0 < length text → front text ≡ gap rest → Reads front total rest answer → Reads front total text answer
  takes : {text : List ℕ} (t : T) (rest : List ℕ) {more answer : Result (List (At T)) Fault} → front text ≡ token t rest → Reads front total rest more
      → answer ≡ result_map_both (λ ts. record { tok = t; span = record { start = total - length text; end = total - length rest } } ∷ ts) (λ f. f) more
      → Reads front total text answer
  fails : {text : List ℕ} (kind : FaultKind) (n : ℕ) {answer : Result (List (At T)) Fault} → front text ≡ fault kind n
      → answer ≡ Err (record { kind = kind; at = total - length text + n }) → Reads front total text answer

-- A token stands in the text, and before it nothing but what doesn't count.
pub data HasToken {T : Type 0} (front : List ℕ → Front T) : List ℕ → Type 0 where
  here : {text : List ℕ} (t : T) (rest : List ℕ) → front text ≡ token t rest → HasToken front text
  behind : {text : List ℕ} (rest : List ℕ) → 0 < length text → front text ≡ gap rest → HasToken front rest → HasToken front text

-- the slice of the text at the token's span is the token as it is spelled
abbrev pub SpelledAt : {T : Type 0} → (T → List ℕ → Type 0) → List ℕ → At T → Type 0
SpelledAt Spells text t = (t.span.end ≤ length text) × Spells t.tok (slice_range text t.span.start t.span.end)

-- a token at its place, without where it lies in memory
abbrev pub plain_at : {A T : Type 0} → (A → T) → At A → At T
plain_at plain t = record { tok = plain t.tok; span = t.span }

-- What was returned is what the text reads as by the rules, unless memory ran out, which is wanted only of a text that has a token before any fault.
abbrev pub ReadsBy : {A T : Type 0} → (A → T) → (List ℕ → Front T) → List ℕ → Result (Vec (At A)) LexFault → Type 0
ReadsBy plain front text (Ok ts) = Reads front (length text) text (Ok (map (plain_at plain) ts.items))
ReadsBy plain front text (Err errors.Memory) = HasToken front text
ReadsBy plain front text (Err (errors.Fault f)) = Reads front (length text) text (Err f)
