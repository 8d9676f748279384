use Rattle.std.proofs.Common.{◌≡◌, drop, length}
use Rattle.query_results.specs.Queries.{filled}
use Rattle.session_queries.proofs.new_row.filled.Given as goal

abbrev pub invariant-loop-column : goal.invariant-loop-column
invariant-loop-column l = record {
  goes_on : filled l.to l.values l.fn.row.items ≡ filled (drop l.column-index l.to) l.rest l.row.items;
  long : length l.row.items ≡ length l.fn.row.items;
}
