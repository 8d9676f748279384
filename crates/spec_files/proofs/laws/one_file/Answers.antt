use Rattle.spec_files.proofs.OneFile.{one_file}
use Rattle.spec_files.proofs.laws.one_file.Goals as goal

pub returns : goal.returns
returns c = one_file c.one_answer.ensures c.one_sql_reading.ensures
