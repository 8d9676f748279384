use Rattle.outcome_counts.proofs.Counting.{stays_counted}
use Rattle.outcome_counts.proofs.laws.stay_counted.Goals as goal

pub returns : goal.returns
returns c = stays_counted
