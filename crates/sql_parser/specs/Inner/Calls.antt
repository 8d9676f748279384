-- What calls answer: their values seen otherwise, and a list that is read by calls.
use Rattle.std.specs.Prelude.{◌≡◌, ◌≤◌, length, Some, None, Result, Ok, Err}
use Rattle.iso_lexer.specs.declared.sql_token.SqlSign.TheVariants as signs
use Rattle.sql_trees.specs.declared.fault.SqlFault.{SqlFault}
use Rattle.sql_trees.specs.Tokens.{Tokens}
use Rattle.sql_expressions.specs.Readers.{after, is_sign}

-- an answer of a call, with another view of its value
abbrev pub seen : {X Y : Type 0} → (X → Y) → Result X SqlFault → Result Y SqlFault
seen view (Ok x) = Ok (view x)
seen view (Err f) = Err f

-- What a list read by calls is: an item that a call added, and more behind a comma, or the fault of the first call that answered one.
pub data Listed {S : Type 0} (adds : S → Tokens → Result (S × Tokens) SqlFault → Type 0) : S → Tokens → Result (S × Tokens) SqlFault → Type 0 where
  ends : {s t : S} {ts rest : Tokens} {answer : Result (S × Tokens) SqlFault} →
      adds s ts (Ok (t, rest)) → after (is_sign signs.Comma) rest ≡ None → answer ≡ Ok (t, rest) →
      Listed adds s ts answer
  goes_on : {s t : S} {ts rest us : Tokens} {answer : Result (S × Tokens) SqlFault} →
      adds s ts (Ok (t, rest)) → length rest ≤ length ts → after (is_sign signs.Comma) rest ≡ Some us → Listed adds t us answer →
      Listed adds s ts answer
  stops : {s : S} {ts : Tokens} {f : SqlFault} {answer : Result (S × Tokens) SqlFault} → adds s ts (Err f) → answer ≡ Err f → Listed adds s ts answer
