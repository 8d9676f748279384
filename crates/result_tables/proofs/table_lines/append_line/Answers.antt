use Rattle.std.proofs.Common.{arith, false, ◌≡◌, ◌∙◌, length, map, slice_index_or}
use Rattle.std.proofs.lemmas.List.{length-map, get_or_default}
use Rattle.result_tables.specs.declared.column.ColumnLayout.{ColumnLayout}
use Rattle.result_tables.proofs.Joins.{joined_more, padded_cells, padded_cells_at, length-padded_cells, joined_all}
use Rattle.result_tables.proofs.table_lines.append_line.Goals as goal

pub loop-k-preserved : goal.loop-k-preserved
loop-k-preserved g c =
    let columns = c.args.columns.now in
    let shown = g.C.Shown.shown in
    let cells = c.args.cells.now in
    let k = c.loop-k.k in
    let none : ColumnLayout = record { width = 0; left = false } in
    let column : ColumnLayout = slice_index_or columns k none in
    let long : length (padded_cells columns (map shown cells)) ≡ length columns = length-padded_cells columns (map shown cells) (length-map cells shown ∙ c.requires) in
    let here = padded_cells_at shown columns cells k column c.index-cells-k.result c.requires c.loop-k-test.true
    (get_or_default columns k none column c.loop-k-test.true) c.index-cells-k.is in
    joined_more 124 _ (padded_cells columns (map shown cells)) k _ _ _ _ (omega arith) here c.loop-k.invariant c.in_ok-append_separator.ensures.text c.in_ok-append_cell.ensures

pub returns : goal.returns
returns g c =
    let columns = c.args.columns.now in
    let shown = g.C.Shown.shown in
    let cells = c.args.cells.now in
    let long : length (padded_cells columns (map shown cells)) ≡ length columns = length-padded_cells columns (map shown cells) (length-map cells shown ∙ c.requires) in
    joined_all 124 _ (padded_cells columns (map shown cells)) c.loop-k.k _ _ (omega arith) c.loop-k.invariant c.in_ok-push.ensures.items
