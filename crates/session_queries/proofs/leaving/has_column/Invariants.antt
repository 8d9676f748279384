use Rattle.std.proofs.Common.{◌≡◌, ◌==◌, drop}
use Rattle.std.specs.List.{list_any}
use Rattle.session_queries.proofs.leaving.has_column.Given as goal

abbrev pub invariant-loop-column : goal.invariant-loop-column
invariant-loop-column l = list_any (λ column. column == l.place) l.key.columns.items ≡ list_any (λ column. column == l.place) (drop l.column-index l.key.columns.items)
