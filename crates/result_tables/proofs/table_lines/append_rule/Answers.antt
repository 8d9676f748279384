use Rattle.std.proofs.Common.{arith, false, ◌<◌, length, map, replicate, List, [], ℕ}
use Rattle.std.proofs.lemmas.List.{length-map, get_or-map}
use Rattle.result_tables.specs.declared.column.ColumnLayout.{ColumnLayout}
use Rattle.result_tables.proofs.Joins.{joined_more}
use Rattle.result_tables.proofs.table_lines.append_rule.Goals as goal

pub loop-k-preserved : goal.loop-k-preserved
loop-k-preserved c =
    let columns = c.args.columns.now in
    let k = c.loop-k.k in
    let dashes : ColumnLayout → List ℕ = λ x. replicate x.width 45 in
    let none : ColumnLayout = record { width = 0; left = false } in
    let within : k < length (map dashes columns) = omega (arith, length-map columns dashes) in
    joined_more 43 _ (map dashes columns) k _ _ _ _ within (get_or-map dashes columns k none [] c.loop-k-test.true) c.loop-k.invariant c.in_ok-append_separator.ensures.text c.in_ok-append_run.ensures
