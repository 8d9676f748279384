use Rattle.row_versions.proofs.Shown.{rows_follow_the_log}
use Rattle.row_versions.proofs.laws.rows_follow_the_log.Goals as goal

pub returns : goal.returns
returns c = rows_follow_the_log
