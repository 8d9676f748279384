-- Lists that are answered part by part.
use Rattle.std.specs.Prelude.{◌≡◌, ◌≢◌, List, Result, Ok, Err}
use Rattle.std.specs.Global.{Vec}
use Rattle.sql_values.specs.declared.fault.ValueFault.{ValueFault}
use Rattle.sql_values.specs.declared.fault.ValueFault.TheVariants.{Memory}

-- the call answers this list, unless it was refused memory
abbrev pub AnswersList : {A : Type 0} → Result (Vec A) ValueFault → Result (List A) ValueFault → Type 0
AnswersList (Ok v) answer = answer ≡ Ok v.items
AnswersList (Err e) answer = e ≢ Memory → answer ≡ Err e
