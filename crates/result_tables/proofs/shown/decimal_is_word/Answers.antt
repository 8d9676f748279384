use Rattle.std.proofs.Common.{sym}
use Rattle.result_tables.proofs.Decimals.{decimal_is_no_word}
use Rattle.result_tables.proofs.shown.decimal_is_word.Goals as goal

pub returns : goal.returns
returns c = sym (decimal_is_no_word c.args.number c.ranges.number.sfits)
