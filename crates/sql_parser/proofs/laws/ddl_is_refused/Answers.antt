use Rattle.sql_parser.proofs.Limits.{ddl_is_refused}
use Rattle.sql_parser.proofs.laws.ddl_is_refused.Goals as goal

pub returns : goal.returns
returns c = ddl_is_refused
