use Rattle.std.proofs.Common.{◌≡◌, drop}
use Rattle.std.specs.List.{list_all}
use Rattle.sql_values.specs.Inner.Extremes.{is_text}
use Rattle.sql_values.proofs.aggregation.are_texts.Given as goal

abbrev pub invariant-loop-value : goal.invariant-loop-value
invariant-loop-value l = list_all is_text l.values ≡ list_all is_text (drop l.value-index l.values)
