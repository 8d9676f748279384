use Rattle.std.proofs.Common.{◌≡◌, map, take}
use Rattle.result_tables.specs.Printed.{printed}
use Rattle.result_tables.specs.Titles.{title_text}
use Rattle.result_tables.specs.TableText.{layout_of}
use Rattle.result_tables.specs.Inner.Columns.{cells}
use Rattle.result_tables.proofs.column.measured.Given as goal

abbrev pub invariant-loop-row : goal.invariant-loop-row
invariant-loop-row l =
    l.column ≡ layout_of (title_text l.title) (cells (map (map printed) (take l.row-index l.rows)) l.k)
