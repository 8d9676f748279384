-- What is said of a permutation, piece by piece, as the code goes through it.
use Rattle.std.specs.Prelude.{ℕ, ◌+◌, ◌-◌, nat_le, List, [], ◌∷◌, length, flat_map, if◌then◌else◌}
use Rattle.spec_parser.specs.Trees.{SpecTree}
use Rattle.session_machine.specs.declared.reply.HistItem.{HistItem}
use Rattle.report_lines.specs.History.{PermutationRun}
use Rattle.report_lines.specs.Report.{report}
use Rattle.report_lines.specs.Due.{segment, went_well, orders}
use Rattle.report_text.specs.Steps.{starting_text}
use Rattle.report_text.specs.LineText.{line_text}
use Rattle.report_text.specs.Replies.{rows_text, last_outcome}
use Rattle.report_text.specs.Said.{Said, only_ends, says, ◌>>◌}
use Rattle.report_text.specs.Code.Turns.{setup_numbers, setup_ending}
use Rattle.report_text.specs.Code.Turns.{teardown_numbers}
use Rattle.report_text.specs.Code.Turns.{state_says}
use Rattle.report_text.specs.Inner.Teardowns.{teardowns_say}

-- the setups from a segment on, of which so many segments are there: the table of each one's last reply, up to one that did not go well
abbrev pub setups_say : List HistItem → ℕ → ℕ → List ℕ → Said
setups_say items count k [] = says []
setups_say items count k (session ∷ sessions) =
    if nat_le count k then says []
    else if went_well items k session then says (rows_text (last_outcome (segment items k))) >> setups_say items count (k + 1) sessions
    else only_ends (setup_ending (last_outcome (segment items k)))

-- the entries' lines, of which so many segments are there, and that the permutation is invalid
abbrev pub entries_say : SpecTree → PermutationRun → ℕ → Said
entries_say spec c count = says (flat_map (line_text spec c) (report c count).lines) >> state_says (report c count).state

-- the entries' lines and the teardowns, where so many segments are there
abbrev pub rest_says : SpecTree → PermutationRun → ℕ → Said
rest_says spec c count = entries_say spec c (count - c.setups) >> teardowns_say spec.sessions c.items count (c.setups + length c.entries) (teardown_numbers spec)

-- the starting line, the setups, the entries' lines and the teardowns
unfoldable pub all_says : SpecTree → PermutationRun → Said
all_says spec c = says (starting_text spec c.entries) >> setups_say c.items (orders c.items) 0 (setup_numbers spec) >> rest_says spec c (orders c.items)
