use Rattle.row_versions.proofs.Seeing.{count-after_commit, commit_seen}
use Rattle.row_versions.proofs.laws.later_views_see_a_commit.Goals as goal

pub returns : goal.returns
returns c = λ content tx is_open. (count-after_commit content tx is_open, commit_seen content tx is_open)
