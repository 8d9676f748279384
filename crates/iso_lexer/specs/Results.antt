-- To be believed. What is made of a value, unless there is a fault.
use Rattle.std.specs.Prelude.{List, [], ◌∷◌, Result, Ok, Err}

-- what is made of the value; a fault stays
abbrev pub if_ok : {F A B : Type 0} → Result A F → (A → Result B F) → Result B F
if_ok (Ok x) f = f x
if_ok (Err e) f = Err e

-- what is made of each, or the first fault
abbrev pub each : {F A B : Type 0} → (A → Result B F) → List A → Result (List B) F
each f [] = Ok []
each f (x ∷ xs) = if_ok (f x) (λ y. if_ok (each f xs) (λ ys. Ok (y ∷ ys)))
