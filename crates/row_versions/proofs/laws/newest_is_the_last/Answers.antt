use Rattle.row_versions.proofs.Last.{newest_is_the_last}
use Rattle.row_versions.proofs.laws.newest_is_the_last.Goals as goal

pub returns : goal.returns
returns c = newest_is_the_last
