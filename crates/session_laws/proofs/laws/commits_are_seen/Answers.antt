use Rattle.session_laws.proofs.Positive.{commits_are_seen}
use Rattle.session_laws.proofs.laws.commits_are_seen.Goals as goal

pub returns : goal.returns
returns c = commits_are_seen
