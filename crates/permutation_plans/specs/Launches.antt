-- What a permutation of a spec launches, and in which order.
use Rattle.std.specs.Prelude.{ℕ, List, ◌++◌, length, map, filter_map, Option, option_map, option_to_list}
use Rattle.std.specs.List.{enumerate_from}
use Rattle.std.specs.Option.{option_map_or}
use Rattle.session_machine.specs.declared.event.Order.{Order}
use Rattle.session_machine.specs.declared.reply.HistItem.{HistItem}
use Rattle.spec_parser.specs.Trees.{PartTree, StepTree, SessionTree, EntryTree, SpecTree}
use Rattle.spec_parser.specs.Numbered.{step_of_entry}
use Rattle.report_lines.specs.declared.history.PlannedLaunch.{PlannedLaunch}
use Rattle.report_lines.specs.History.{PermutationRun}
use Rattle.report_lines.specs.Due.{Launches, orders, due}

abbrev pub launch_in : ℕ → PartTree → PlannedLaunch
launch_in session part = record { session = session; block = part.block }

-- each session's part of one kind, if it has one, in its session, in file order
abbrev pub own_launches : (SessionTree → Option PartTree) → List SessionTree → List PlannedLaunch
own_launches part sessions = filter_map (λ (p : ℕ × SessionTree). option_map (launch_in p.0) (part p.1)) (enumerate_from 1 sessions)

-- the block of an entry's step, in its session; a spec that was read has a step for each entry
abbrev pub launch_of_entry : SpecTree → EntryTree → PlannedLaunch
launch_of_entry spec e = record { session = e.session; block = option_map_or (λ (s : StepTree). s.part.block) (step_of_entry spec e) 0 }

-- the main setups in the control session, each session's setup, the steps, each session's teardown, the main teardown in the control session
abbrev pub launches : SpecTree → List EntryTree → Launches
launches spec entries = record {
  setups = map (launch_in 0) spec.setups ++ own_launches (λ s. s.setup) spec.sessions;
  steps = map (launch_of_entry spec) entries;
  teardowns = own_launches (λ s. s.teardown) spec.sessions;
  sessions = length spec.sessions;
  last = map (launch_in 0) (option_to_list spec.teardown);
}

-- a history of these launches
abbrev pub run_of : Launches → List EntryTree → List HistItem → PermutationRun
run_of l entries items = record { entries = entries; items = items; setups = length l.setups }

-- the next order after these items
abbrev pub due_after : Launches → List EntryTree → List HistItem → Order
due_after l entries items = due l (run_of l entries items) (orders items)

-- the next order after these items of the permutation of a spec that has these entries
abbrev pub due_in : SpecTree → List EntryTree → List HistItem → Order
due_in spec entries items = let l = launches spec entries in due l (record { entries = entries; items = items; setups = length l.setups }) (orders items)
