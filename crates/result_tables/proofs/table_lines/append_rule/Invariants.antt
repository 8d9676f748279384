use Rattle.std.proofs.Common.{◌≡◌, ◌++◌, map, take, replicate}
use Rattle.std.specs.List.{join_with_byte}
use Rattle.result_tables.specs.declared.column.ColumnLayout.{ColumnLayout}
use Rattle.result_tables.proofs.table_lines.append_rule.Given as goal

abbrev pub invariant-loop-k : goal.invariant-loop-k
invariant-loop-k l =
    l.line.items ≡ l.initial.line.items ++ join_with_byte 43 (take l.k (map (λ (c : ColumnLayout). replicate c.width 45) l.columns))
