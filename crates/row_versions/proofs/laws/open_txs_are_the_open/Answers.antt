use Rattle.row_versions.proofs.OpenTxs.{has_open, open_once}
use Rattle.row_versions.proofs.laws.open_txs_are_the_open.Goals as goal

pub returns : goal.returns
returns c = λ fates. (open_once fates, has_open fates)
