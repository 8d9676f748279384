-- What reading answers: a value, or the first fault.
use Rattle.std.specs.Prelude.{◌≡◌, Result, Ok, Err}
use Rattle.iso_lexer.specs.Results.{if_ok}
use Rattle.sql_trees.specs.declared.fault.SqlFault.{SqlFault}
use Rattle.sql_trees.specs.declared.fault.SqlFault.TheVariants.{Memory}

infixl 10 ◌>>=◌
-- what is made of the value, as proofs write it
abbrev pub ◌>>=◌ : {A B : Type 0} → Result A SqlFault → (A → Result B SqlFault) → Result B SqlFault
answer >>= f = if_ok answer f

-- What a function returned, seen by view, is what reading gives, unless a growth of memory was refused.
abbrev pub Fails : {Y : Type 0} → SqlFault → Result Y SqlFault → Type 0
Fails Memory read = Unit {0}
Fails f read = read ≡ Err f

abbrev pub Gives : {X Y : Type 0} → (X → Y) → Result X SqlFault → Result Y SqlFault → Type 0
Gives view (Ok x) read = read ≡ Ok (view x)
Gives view (Err e) read = Fails e read
