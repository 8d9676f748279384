-- Answers of steps and rows, as the code goes through them.
use Rattle.std.specs.Prelude.{◌==◌, Bool, not, List, map}
use Rattle.std.specs.Global.{Vec}
use Rattle.sql_values.specs.declared.value.Value.{Value}
use Rattle.session_machine.specs.declared.reply.Outcome.{Outcome}
use Rattle.outcome_counts.specs.Rows.{times}

abbrev pub lists_of : List (Vec Outcome) → List (List Outcome)
lists_of vs = map (λ (v : Vec Outcome). v.items) vs

-- the row stands more often in the one than in the other
unfoldable pub differs : List (List Value) → List (List Value) → List Value → Bool
differs a b row = not (times row a == times row b)
