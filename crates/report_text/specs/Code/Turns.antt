-- The same by the sessions of setups and teardowns, one block after another, as the code goes through them.
use Rattle.std.specs.Prelude.{ℕ, ◌+◌, ◌-◌, nat_le, Bool, true, false, List, [], ◌∷◌, ◌++◌, length, map, flat_map, replicate, codes, Option, Some, None, is_some, if◌then◌else◌}
use Rattle.std.specs.List.{enumerate_from, filter}
use Rattle.std.specs.Str.Lossy.{utf8_lossy}
use Rattle.spec_parser.specs.Trees.{PartTree, SessionTree, EntryTree, SpecTree}
use Rattle.session_machine.specs.declared.reply.HistItem.{HistItem}
use Rattle.session_machine.specs.declared.reply.Outcome.{Outcome}
use Rattle.session_machine.specs.declared.reply.Outcome.TheVariants.{Failed}
use Rattle.report_lines.specs.declared.history.RunState.{RunState}
use Rattle.report_lines.specs.declared.history.RunState.TheVariants.{Invalid}
use Rattle.report_lines.specs.History.{PermutationRun}
use Rattle.report_lines.specs.Report.{report}
use Rattle.report_lines.specs.Due.{segment, is_over, went_well, orders}
use Rattle.report_text.specs.FaultText.{fault_text}
use Rattle.report_text.specs.Replies.{rows_text, last_outcome}
use Rattle.report_text.specs.Steps.{starting_text}
use Rattle.report_text.specs.LineText.{line_text}
use Rattle.report_text.specs.Said.{Ending, whole, invalid, setup_failed, setup_waits, Said, only_ends, says, ◌>>◌}
use Rattle.report_text.specs.Teardowns.{note, failure_note}

abbrev pub is_whole : Ending → Bool
is_whole whole = true
is_whole _ = false

-- blocks one after another, from a segment on, of which so many segments are there: each has what it says of its segment, and how many segments it takes
abbrev pub in_turn : ℕ → ℕ → List (ℕ → Said × ℕ) → Said
in_turn count k [] = says []
in_turn count k (block ∷ blocks) = if nat_le count k then says [] else (block k).0 >> in_turn count (k + (block k).1) blocks

-- ---- whose they are, in their order: a session of the file by its number from 1, and 0 for those of the whole file

-- the numbers of the sessions that have this part
abbrev pub session_numbers : (SessionTree → Option PartTree) → List SessionTree → List ℕ
session_numbers part sessions = map (λ (p : ℕ × SessionTree). p.0) (filter (λ (p : ℕ × SessionTree). is_some (part p.1)) (enumerate_from 1 sessions))

abbrev pub setup_numbers : SpecTree → List ℕ
setup_numbers spec = replicate (length spec.setups) 0 ++ session_numbers (λ s. s.setup) spec.sessions

-- the teardowns of sessions; a Leave of each session, for which None stands; and with 0 the teardown of the whole file
abbrev pub teardown_numbers : SpecTree → List (Option ℕ)
teardown_numbers spec = map Some (session_numbers (λ s. s.teardown) spec.sessions) ++ replicate (length spec.sessions) None ++ (if is_some spec.teardown then Some 0 ∷ [] else [])

-- ---- what they say

-- a setup that did not go well failed, with its text, or it waits; what is no UTF-8 in a text stands as U+FFFD
abbrev pub setup_ending : Outcome → Ending
setup_ending (Failed fault) = setup_failed (utf8_lossy (fault_text fault))
setup_ending _ = setup_waits

-- a setup says the table of its last reply, or ends the report where it did not go well; it takes one segment
abbrev pub setup_turn : List HistItem → ℕ → ℕ → Said × ℕ
setup_turn items session k =
    let last = last_outcome (segment items k) in
    (if went_well items k session then says (rows_text last) else only_ends (setup_ending last), 1)

-- a Leave says nothing; a teardown that is over says the table of its last reply, with a note if that is a failure; of one that isn't there is a note that it would wait,
-- and behind it a Leave of its own
abbrev pub teardown_turn : List SessionTree → List HistItem → Option ℕ → ℕ → Said × ℕ
teardown_turn sessions items None k = (says [], 1)
teardown_turn sessions items (Some session) k =
    let last = last_outcome (segment items k) in
    if is_over items k session then (record (says (rows_text last)) { notes = failure_note sessions session last }, 1)
    else (record (says []) { notes = note sessions session (codes "would wait") }, 2)

-- what the state after the entries says
abbrev pub state_says : RunState → Said
state_says Invalid = record (says (codes "invalid permutation detected\n")) { ending = invalid }
state_says _ = says []

-- the starting line, the setups, the entries' lines with what their state says, and the teardowns
unfoldable pub permutation_in_turn : SpecTree → List EntryTree → List HistItem → Said
permutation_in_turn spec entries items =
    let c : PermutationRun = record { entries = entries; items = items; setups = length (setup_numbers spec) } in
    let told = report c (orders items - c.setups) in
    says (starting_text spec entries) >> in_turn (orders items) 0 (map (setup_turn items) (setup_numbers spec))
    >> (says (flat_map (line_text spec c) told.lines) >> state_says told.state)
    >> in_turn (orders items) (c.setups + length entries) (map (teardown_turn spec.sessions items) (teardown_numbers spec))
