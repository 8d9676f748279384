use Rattle.std.proofs.Common.{◌≡◌, replicate}
use Rattle.sql_values.specs.declared.value.Value.TheVariants.{Null}
use Rattle.session_queries.proofs.new_row.nulls.Given as goal

abbrev pub invariant-loop : goal.invariant-loop
invariant-loop l = l.row.items ≡ replicate l.counter Null
