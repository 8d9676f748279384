-- Lists that are answered part by part.
use Rattle.std.specs.Prelude.{List, ◌++◌, Result, Ok, Err}

-- what is answered behind a list, with the list in front of it
abbrev pub in_front : {A E : Type 0} → List A → Result (List A) E → Result (List A) E
in_front xs (Ok ys) = Ok (xs ++ ys)
in_front xs (Err e) = Err e
