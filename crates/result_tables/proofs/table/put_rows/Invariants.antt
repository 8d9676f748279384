use Rattle.std.proofs.Common.{◌≡◌, map, take, flat_map}
use Rattle.std.specs.Io.KnownBytes.{Appends}
use Rattle.result_tables.specs.Printed.{printed}
use Rattle.result_tables.specs.TableText.{table_line}
use Rattle.result_tables.proofs.table.put_rows.Given as goal

abbrev pub invariant-loop-row : goal.invariant-loop-row
invariant-loop-row g l =
    let sink = g.W.Sink in
    record {
      bytes : Appends (sink.put_so_far l.fn.out) (sink.put_so_far l.out) (flat_map (table_line l.columns) (map (map printed) (take l.row-index l.rows)));
      same : sink.failed l.out ≡ sink.failed l.fn.out;
    }
