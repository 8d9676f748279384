use Rattle.spec_files.proofs.OneText.{one_text}
use Rattle.spec_files.proofs.laws.one_text.Goals as goal

pub returns : goal.returns
returns c = one_text c.each_has_one_history.ensures c.one_file.ensures
