-- What holds wherever a call is refused.
use Rattle.std.specs.Prelude.{Result, Ok, Err, OnErr}

-- what holds anyway holds where there is an error
pub on_any_err : {A E P : Type 0} (r : Result A E) → P → OnErr r P
on_any_err (Ok a) p = tt
on_any_err (Err e) p = p
