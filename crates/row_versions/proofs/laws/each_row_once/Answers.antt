use Rattle.row_versions.proofs.Shown.{each_row_once}
use Rattle.row_versions.proofs.laws.each_row_once.Goals as goal

pub returns : goal.returns
returns c = each_row_once
