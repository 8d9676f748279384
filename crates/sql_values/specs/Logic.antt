-- To be believed. Three-valued logic (PostgreSQL manual, 9.1, and 9.2 on IS).
use Rattle.std.specs.Prelude.{Bool, false, not, Option, Some, None, is_none, unwrap_or, Result, Ok, Err, if◌then◌else◌}
use Rattle.std.specs.Bool.{beq}
use Rattle.std.specs.Option.{option_map_or}
use Rattle.sql_trees.specs.declared.expr.Truth.{Truth}
use Rattle.sql_trees.specs.declared.expr.Truth.TheVariants as asked
use Rattle.sql_values.specs.declared.value.Value.{Value}
use Rattle.sql_values.specs.declared.value.Value.TheVariants.{Null, Bool as Boolean}
use Rattle.sql_values.specs.declared.fault.ValueFault.{ValueFault}
use Rattle.sql_values.specs.declared.fault.ValueFault.TheVariants.{TypeMismatch}
use Rattle.sql_values.specs.Values.{Answer, if_ok, is_null}

-- what is known of a condition: that it is true, that it is false, or nothing, which is NULL
abbrev pub Known : Type 0
Known = Result (Option Bool) ValueFault

-- a condition is a boolean or NULL
abbrev pub truth : Value → Known
truth v = elim v [ Null ↦ Ok None | Boolean b ↦ Ok (Some b) | other ↦ Err TypeMismatch ]

-- a condition as a value, with NOT before it or as it is; the negation of NULL is NULL
abbrev pub condition : Bool → Known → Answer
condition negated k = if_ok k (λ known. Ok (option_map_or (λ b. Boolean (if negated then not b else b)) known Null))

-- true decides an OR, and false an AND: a side that is so is the result; else it is NULL where a side is NULL, and else the right side.
-- The right side isn't evaluated after a left one that decides or has a fault
abbrev pub decided_by : Bool → Known → Known → Known
decided_by x (Ok (Some a)) b = if beq a x then Ok (Some a) else b
decided_by x (Ok None) (Ok (Some b)) = Ok (if beq b x then Some b else None)
decided_by x (Ok None) b = b
decided_by x (Err e) b = Err e

-- IS NULL asks of any value, the others of a condition
abbrev pub is_test : Truth → Value → Known
is_test asked.Null v = Ok (Some (is_null v))
is_test asked.Unknown v = if_ok (truth v) (λ k. Ok (Some (is_none k)))
is_test asked.True v = if_ok (truth v) (λ k. Ok (Some (unwrap_or k false)))
is_test asked.False v = if_ok (truth v) (λ k. Ok (Some (option_map_or not k false)))
