use Rattle.row_versions.proofs.Shown.{rows_are_the_shown}
use Rattle.row_versions.proofs.laws.rows_are_the_shown.Goals as goal

pub returns : goal.returns
returns c = rows_are_the_shown
