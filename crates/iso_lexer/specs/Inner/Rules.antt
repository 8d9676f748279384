-- What the rules of a language keep, and what is read so far.
use Rattle.std.specs.Prelude.{◌≡◌, ℕ, ◌-◌, ◌<◌, List, [], ◌++◌, length, Result, Ok, Err}
use Rattle.iso_lexer.specs.declared.fault.Fault.{Fault}
use Rattle.iso_lexer.specs.declared.token.At.{At}
use Rattle.iso_lexer.specs.Lexing.{Front, gap, token, fault}

-- a piece takes something of a text of this length
abbrev pub Shorter : {T : Type 0} → ℕ → Front T → Type 0
Shorter n (gap rest) = length rest < n
Shorter n (token t rest) = length rest < n
Shorter n (fault kind m) = m < n

-- what rules have to keep: nothing begins nothing, and each piece takes something
pub record Rules {T : Type 0} (front : List ℕ → Front T) : Type 0 where
  pub nothing : front [] ≡ gap []
  pub shorter : (text : List ℕ) → 0 < length text → Shorter (length text) (front text)

-- the token between two rests of a text of this many bytes
abbrev pub between : {T : Type 0} → ℕ → List ℕ → T → List ℕ → At T
between total text t rest = record { tok = t; span = record { start = total - length text; end = total - length rest } }

-- an answer with tokens before it
abbrev pub in_front : {T : Type 0} → List (At T) → Result (List (At T)) Fault → Result (List (At T)) Fault
in_front ts (Ok us) = Ok (ts ++ us)
in_front ts (Err f) = Err f
