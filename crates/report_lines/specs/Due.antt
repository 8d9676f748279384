-- To be believed. The next order of a permutation: setups, entries, teardowns.
use Rattle.std.specs.Prelude.{ℕ, ◌+◌, ◌-◌, nat_lt, nat_le, Bool, not, ◌&&◌, List, [], ◌∷◌, length, Option, Some, None, is_some, unwrap_or, slice_range, slice_get, if◌then◌else◌}
use Rattle.std.specs.List.{list_any, filter}
use Rattle.std.specs.Option.{option_map_or}
use Rattle.session_machine.specs.declared.reply.HistItem.{HistItem}
use Rattle.session_machine.specs.declared.event.Order.{Order}
use Rattle.session_machine.specs.declared.event.Order.TheVariants.{Launch, Leave, Stop}
use Rattle.session_machine.specs.Machine.{is_failed}
use Rattle.report_lines.specs.declared.history.PlannedLaunch.{PlannedLaunch}
use Rattle.report_lines.specs.declared.history.TeardownsSoFar.{TeardownsSoFar}
use Rattle.report_lines.specs.declared.history.RunState.{RunState}
use Rattle.report_lines.specs.declared.history.RunState.TheVariants.{Due, Whole, Invalid}
use Rattle.report_lines.specs.Starts.{order_of, segment_start, ends_in}
use Rattle.report_lines.specs.History.{PermutationRun}
use Rattle.report_lines.specs.Code.Walk.{walked}

-- the blocks of a permutation, each with its session: of the setups, of the entries, of the sessions' teardowns, of the main teardown; and how many sessions there are
pub record Launches : Type 0 where
  pub setups : List PlannedLaunch
  pub steps : List PlannedLaunch
  pub teardowns : List PlannedLaunch
  pub sessions : ℕ
  pub last : List PlannedLaunch

-- the segment of this number
abbrev pub segment : List HistItem → ℕ → List HistItem
segment items k = slice_range items (segment_start items k) (segment_start items (k + 1))

-- the segment's block ended
abbrev pub is_over : List HistItem → ℕ → ℕ → Bool
is_over items k session = list_any (ends_in session) (segment items k)

-- it ended, and nothing in the segment failed
abbrev pub went_well : List HistItem → ℕ → ℕ → Bool
went_well items k session = is_over items k session && not (list_any (λ item. is_failed item.reply.outcome) (segment items k))

-- how many orders a history has
abbrev pub orders : List HistItem → ℕ
orders items = length (filter (λ item. is_some (order_of item.event)) items)

abbrev pub launch : PlannedLaunch → Order
launch t = Launch t.session t.block

-- the first setup that is not there yet, or Stop after one that failed or waits
abbrev pub due_setup : List HistItem → ℕ → ℕ → List PlannedLaunch → Option Order
due_setup items count k [] = None
due_setup items count k (t ∷ ts) =
    if nat_le count k then Some (launch t) else if went_well items k t.session then due_setup items count (k + 1) ts else Some Stop

-- how many orders the teardowns have taken, and the one of them that is due; one that waits takes a Leave as well
abbrev pub teardowns_so_far : List HistItem → ℕ → ℕ → List PlannedLaunch → TeardownsSoFar
teardowns_so_far items count k [] = record { orders = k; due = None }
teardowns_so_far items count k (t ∷ ts) =
    if nat_le count k then record { orders = k; due = Some (launch t) }
    else if is_over items k t.session then teardowns_so_far items count (k + 1) ts
    else if nat_le count (k + 1) then record { orders = k; due = Some (Leave t.session) } else teardowns_so_far items count (k + 2) ts

-- the next order behind the setups: an entry's block; behind the entries the sessions' teardowns, then sessions 1 to the last leave, then the main teardown, then nothing
abbrev pub due_entry : Launches → List HistItem → ℕ → RunState → Order
due_entry l items count (Due e) = option_map_or launch (slice_get l.steps e) Stop
due_entry l items count Invalid = Stop
due_entry l items count Whole =
    let w = teardowns_so_far items count (length l.setups + length l.steps) l.teardowns in
    let left = w.orders + l.sessions in
    unwrap_or w.due (if nat_lt count left then Leave (count - w.orders + 1) else unwrap_or (teardowns_so_far items count left l.last).due Stop)

-- the next order where so many orders of the history are there
abbrev pub due : Launches → PermutationRun → ℕ → Order
due l c count = unwrap_or (due_setup c.items count 0 l.setups) (due_entry l c.items count (walked c (count - length l.setups)).state)

-- what a permutation launches, and its entries with a history of theirs
pub record Planned : Type 0 where
  pub launches : Launches
  pub run : PermutationRun
