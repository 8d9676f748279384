use Rattle.sql_parser.proofs.Limits.{too_many_is_refused}
use Rattle.sql_parser.proofs.laws.too_many_is_refused.Goals as goal

pub returns : goal.returns
returns c = too_many_is_refused
