use Rattle.spec_files.proofs.OneFile.{one_list}
use Rattle.spec_files.proofs.laws.one_list.Goals as goal

pub returns : goal.returns
returns c = one_list c.one_file.ensures
