-- What is due behind the sessions' teardowns.
use Rattle.std.specs.Prelude.{ℕ, ◌+◌, ◌-◌, nat_lt, List, unwrap_or, if◌then◌else◌}
use Rattle.session_machine.specs.declared.reply.HistItem.{HistItem}
use Rattle.session_machine.specs.declared.event.Order.{Order}
use Rattle.session_machine.specs.declared.event.Order.TheVariants.{Leave, Stop}
use Rattle.report_lines.specs.declared.history.TeardownsSoFar.{TeardownsSoFar}
use Rattle.report_lines.specs.Due.{Launches, teardowns_so_far}

-- sessions 1 to the last leave, then the main teardown, then nothing
abbrev pub due_last : Launches → List HistItem → ℕ → TeardownsSoFar → Order
due_last l items count w =
    unwrap_or w.due
    (if nat_lt count (w.orders + l.sessions) then Leave (count - w.orders + 1) else unwrap_or (teardowns_so_far items count (w.orders + l.sessions) l.last).due Stop)
