-- To be believed. The orders of a permutation, in their turn.
use Rattle.std.specs.Prelude.{ℕ, ◌+◌, List, [], ◌∷◌, ◌++◌, length, map, filter_map, Option, option_map, option_to_list, if◌then◌else◌}
use Rattle.std.specs.List.{enumerate_from, range_with_len}
use Rattle.std.specs.Option.{option_map_or}
use Rattle.session_machine.specs.declared.event.Order.{Order}
use Rattle.session_machine.specs.declared.event.Order.TheVariants.{Launch, Leave}
use Rattle.session_machine.specs.declared.reply.HistItem.{HistItem}
use Rattle.spec_parser.specs.Trees.{PartTree, StepTree, SessionTree, EntryTree, SpecTree}
use Rattle.spec_parser.specs.Numbered.{step_of_entry}
use Rattle.report_lines.specs.Due.{is_over}

abbrev pub launch_in : ℕ → PartTree → Order
launch_in session part = Launch session part.block

-- each session's part of one kind, if it has one, in its session
abbrev pub own_launches : (SessionTree → Option PartTree) → SpecTree → List Order
own_launches part spec = filter_map (λ (p : ℕ × SessionTree). option_map (launch_in p.0) (part p.1)) (enumerate_from 1 spec.sessions)

-- the setups of the file, in the control session, and then each session's setup
abbrev pub setups_of : SpecTree → List Order
setups_of spec = map (launch_in 0) spec.setups ++ own_launches (λ s. s.setup) spec

-- the block of an entry's step, in its session; a spec that was read has a step for each entry
abbrev pub launch_of_entry : SpecTree → EntryTree → Order
launch_of_entry spec e = Launch e.session (option_map_or (λ (s : StepTree). s.part.block) (step_of_entry spec e) 0)

-- what comes behind the entries: each session's teardown, a Leave of each session, and the teardown of the file in the control session
abbrev pub closing_of : SpecTree → List Order
closing_of spec = own_launches (λ s. s.teardown) spec ++ map (λ s. Leave s) (range_with_len 1 (length spec.sessions)) ++ map (launch_in 0) (option_to_list spec.teardown)

-- these orders, from the one of this number on, with a Leave behind each block that does not end in its segment
abbrev pub with_leaves : List HistItem → ℕ → List Order → List Order
with_leaves items k [] = []
with_leaves items k (Launch session block ∷ orders) =
    Launch session block ∷ (if is_over items k session then with_leaves items (k + 1) orders else Leave session ∷ with_leaves items (k + 2) orders)
with_leaves items k (order ∷ orders) = order ∷ with_leaves items (k + 1) orders

-- the setups, the entries' steps, and what comes behind them, as far as the history tells
abbrev pub orders_of : SpecTree → List EntryTree → List HistItem → List Order
orders_of spec entries items = let first = setups_of spec ++ map (launch_of_entry spec) entries in first ++ with_leaves items (length first) (closing_of spec)
