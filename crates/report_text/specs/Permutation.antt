-- To be believed. The report of a permutation with its history.
use Rattle.std.specs.Prelude.{◌+◌, ◌-◌, List, [], ◌∷◌, ◌++◌, length, map, flat_map, take, drop, codes}
use Rattle.std.specs.List.{enumerate_from, fold}
use Rattle.spec_parser.specs.Trees.{EntryTree, SpecTree}
use Rattle.session_machine.specs.declared.reply.HistItem.{HistItem}
use Rattle.report_lines.specs.declared.history.RunState.TheVariants.{Invalid}
use Rattle.report_lines.specs.History.{PermutationRun}
use Rattle.report_lines.specs.Report.{report}
use Rattle.report_lines.specs.Due.{orders}
use Rattle.report_lines.specs.Orders.{setups_of, orders_of}
use Rattle.report_text.specs.Steps.{starting_text}
use Rattle.report_text.specs.LineText.{line_text}
use Rattle.report_text.specs.Said.{Said, says, invalid, ◌>>◌}
use Rattle.report_text.specs.Setups.{setup_says}
use Rattle.report_text.specs.Teardowns.{teardown_says}

-- a permutation of a spec with its history, as far as that has come: the starting line, the setups, the entries' lines, that it is invalid if it is, and the teardowns; of the orders
-- those that are there, by their numbers
unfoldable pub permutation_says : SpecTree → List EntryTree → List HistItem → Said
permutation_says spec entries items =
    let setups = length (setups_of spec) in
    let there = enumerate_from 0 (take (orders items) (orders_of spec entries items)) in
    let c : PermutationRun = record { entries = entries; items = items; setups = setups } in
    let told = report c (orders items - setups) in
    fold (λ a b. a >> b) (says (starting_text spec entries))
    (map (λ p. setup_says items p.0 p.1) (take setups there)
    ++ says (flat_map (line_text spec c) told.lines)
    ∷ (elim told.state [ Invalid ↦ record (says (codes "invalid permutation detected\n")) { ending = invalid } | _ ↦ says [] ])
    ∷ map (λ p. teardown_says spec.sessions items p.0 p.1) (drop (setups + length entries) there))
