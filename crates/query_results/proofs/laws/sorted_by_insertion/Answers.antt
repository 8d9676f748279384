use Rattle.query_results.proofs.Insertion.{insertion_sorts}
use Rattle.query_results.proofs.laws.sorted_by_insertion.Goals as goal

pub returns : goal.returns
returns c = insertion_sorts c.rows_turned.ensures
