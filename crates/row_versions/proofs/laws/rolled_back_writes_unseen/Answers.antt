use Rattle.std.proofs.Common.{refl}
use Rattle.row_versions.specs.declared.write.Fate.TheVariants.{RolledBack}
use Rattle.row_versions.proofs.Seeing.{other_unseen}
use Rattle.row_versions.proofs.Shown.{unseen_no_row}
use Rattle.row_versions.proofs.laws.rolled_back_writes_unseen.Goals as goal

pub returns : goal.returns
returns c = λ content view table seen w h at other gone. unseen_no_row content view table seen w h at (other_unseen content.fates view w RolledBack gone refl other)
