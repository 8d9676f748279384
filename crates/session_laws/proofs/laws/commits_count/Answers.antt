use Rattle.session_laws.proofs.Positive.{commits_count}
use Rattle.session_laws.proofs.laws.commits_count.Goals as goal

pub returns : goal.returns
returns c = commits_count
