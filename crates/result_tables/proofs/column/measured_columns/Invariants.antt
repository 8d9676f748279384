use Rattle.std.proofs.Common.{◌≡◌, map, take}
use Rattle.result_tables.specs.Printed.{printed}
use Rattle.result_tables.specs.Titles.{title_text}
use Rattle.result_tables.specs.Inner.Lines.{layouts_of}
use Rattle.result_tables.proofs.column.measured_columns.Given as goal

abbrev pub invariant-loop-k : goal.invariant-loop-k
invariant-loop-k l = l.columns.items ≡ take l.k (layouts_of (map title_text l.set.titles) (map (map printed) l.set.rows))
