use Rattle.std.proofs.Common.{refl}
use Rattle.row_versions.specs.declared.write.Fate.TheVariants.{Open}
use Rattle.row_versions.proofs.Seeing.{other_unseen}
use Rattle.row_versions.proofs.Shown.{rows-after_write}
use Rattle.row_versions.proofs.laws.open_writes_of_others_unseen.Goals as goal

pub returns : goal.returns
returns c = λ content view table w is_open other. rows-after_write content view table w (other_unseen content.fates view w Open is_open refl other)
