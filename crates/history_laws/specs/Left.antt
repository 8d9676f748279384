-- How much a run still has before it: orders, statements, and sessions that can step.
use Rattle.std.specs.Prelude.{ℕ, ◌+◌, ◌-◌, ◌*◌, List, length, sum_by}
use Rattle.session_machine.specs.declared.reply.HistItem.{HistItem}
use Rattle.session_machine.specs.Machine.{Machine, Blocks}
use Rattle.report_lines.specs.Due.{Launches, orders}
use Rattle.wait_laws.specs.Laws.{statements_left, able}

-- no history of these launches has more orders: a Leave may come behind each teardown, and each session leaves
abbrev pub most_orders : Launches → ℕ
most_orders l = length l.setups + length l.steps + (length l.teardowns + length l.teardowns) + l.sessions + (length l.last + length l.last)

-- no state of so many sessions has as many steps before it: each session may be before all statements of the blocks
abbrev pub most_steps : Blocks → ℕ → ℕ
most_steps blocks sessions = (sessions + 1) * (sessions * sum_by length blocks + 1)

-- so many steps may follow one another at most
abbrev pub steps_left : Blocks → ℕ → Machine → ℕ
steps_left blocks sessions m = statements_left blocks m * (sessions + 1) + able m

-- so many events may follow a history at most that leads to this state, beside the control session with so many sessions
abbrev pub events_left : Launches → Blocks → ℕ → List HistItem → Machine → ℕ
events_left l blocks count items m = (most_orders l - orders items) * most_steps blocks (count + 1) + steps_left blocks (count + 1) m
