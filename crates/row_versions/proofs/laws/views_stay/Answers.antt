use Rattle.row_versions.specs.Log.{after_begin, after_roll_back, after_commit}
use Rattle.row_versions.proofs.Seeing.{sees-after_begin, sees-after_roll_back, sees-after_commit}
use Rattle.row_versions.proofs.Shown.{rows-same}
use Rattle.row_versions.proofs.laws.views_stay.Goals as goal

pub returns : goal.returns
returns c = λ content view table tx is_open. record {
  begins = rows-same content (after_begin content).fates view table (sees-after_begin content view);
  rolls_back = rows-same content (after_roll_back content tx).fates view table (sees-after_roll_back content view tx is_open);
  commits = λ earlier. rows-same content (after_commit content tx).fates view table (sees-after_commit content view tx is_open earlier);
}
