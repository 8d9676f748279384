use Rattle.iso_lexer.proofs.SqlSlices.{are_sql_slices}
use Rattle.iso_lexer.proofs.sql_text.sql_tokens_are_slices.Goals as goal

pub returns : goal.returns
returns c = are_sql_slices
