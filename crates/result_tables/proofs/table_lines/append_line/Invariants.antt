use Rattle.std.proofs.Common.{◌≡◌, ◌++◌, map, take}
use Rattle.std.specs.List.{join_with_byte}
use Rattle.result_tables.proofs.Joins.{padded_cells}
use Rattle.result_tables.proofs.table_lines.append_line.Given as goal

abbrev pub invariant-loop-k : goal.invariant-loop-k
invariant-loop-k g l = l.line.items ≡ l.initial.line.items ++ join_with_byte 124 (take l.k (padded_cells l.columns (map g.C.Shown.shown l.cells)))
