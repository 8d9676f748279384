use Rattle.row_versions.proofs.Seeing.{own_seen}
use Rattle.row_versions.proofs.Shown.{shows_last}
use Rattle.row_versions.proofs.laws.own_writes_seen.Goals as goal

pub returns : goal.returns
returns c = λ content view w own earlier. shows_last content view w (own_seen content.fates view w own earlier)
