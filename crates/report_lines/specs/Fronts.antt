-- A history that goes on.
use Rattle.std.specs.Prelude.{List, ◌++◌}
use Rattle.session_machine.specs.declared.reply.HistItem.{HistItem}
use Rattle.report_lines.specs.History.{PermutationRun}

-- the same with more items behind its own
abbrev pub with_more : PermutationRun → List HistItem → PermutationRun
with_more c more = record { entries = c.entries; items = c.items ++ more; setups = c.setups }
