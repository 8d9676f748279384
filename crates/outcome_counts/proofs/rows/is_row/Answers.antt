use Rattle.std.proofs.lemmas.Bool.Decides.{same_from_decides}
use Rattle.outcome_counts.specs.Rows.{is_row}
use Rattle.outcome_counts.proofs.Multisets.{row_decides}
use Rattle.outcome_counts.proofs.rows.is_row.Goals as goal

pub returns : goal.returns
returns c = same_from_decides c.same.result (is_row c.args.row.now c.args.other.now) c.same.ensures (row_decides c.args.row.now c.args.other.now)
