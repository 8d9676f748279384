use Rattle.std.proofs.Common.{◌∙◌, sym, ap, length}
use Rattle.result_tables.proofs.ColumnLemmas.{length-columns_of}
use Rattle.result_tables.proofs.table.write_table.Goals as goal

pub put_head-requires : goal.put_head-requires
put_head-requires g c =
    ap length c.titles.ensures ∙ sym (ap length (c.as_slice-columns.ensures.value ∙ c.in_ok-measured.ensures.columns) ∙ length-columns_of c.args.set.now)

pub put_rows-requires : goal.put_rows-requires
put_rows-requires g c =
    λ k d h. c.rows.ensures.even k d h ∙ sym (ap length (c.as_slice-columns.ensures.value ∙ c.in_ok-measured.ensures.columns) ∙ length-columns_of c.args.set.now)
