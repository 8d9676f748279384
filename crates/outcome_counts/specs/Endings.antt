-- How the entries of a permutation end, by its history.
use Rattle.std.specs.Prelude.{ℕ, ◌+◌, ◌-◌, nat_lt, Bool, List, length, take, if◌then◌else◌}
use Rattle.session_machine.specs.declared.reply.HistItem.{HistItem}
use Rattle.spec_parser.specs.Trees.{EntryTree, SpecTree}
use Rattle.report_lines.specs.declared.history.RunState.{RunState}
use Rattle.report_lines.specs.declared.history.RunState.TheVariants.{Due as EntryDue, Whole as WholeState, Invalid}
use Rattle.report_lines.specs.Starts.{segment_start}
use Rattle.report_lines.specs.Due.{orders}
use Rattle.report_lines.specs.History.{PermutationRun}
use Rattle.report_lines.specs.Report.{report}
use Rattle.report_text.specs.Code.Turns.{setup_numbers}
use Rattle.outcome_counts.specs.declared.ending.Ending.{Ending}
use Rattle.outcome_counts.specs.declared.ending.Ending.TheVariants.{Whole, Blocked, Waits, NotSetUp}

-- so many segments a history has up to the end of the permutation's entries: one for each setup, and one for each entry
abbrev pub wanted : SpecTree → List EntryTree → ℕ
wanted spec entries = length (setup_numbers spec) + length entries

abbrev pub run_of : SpecTree → List EntryTree → List HistItem → PermutationRun
run_of spec entries items = record { entries = entries; items = items; setups = length (setup_numbers spec) }

-- how far the entries came
abbrev pub state_in : SpecTree → List EntryTree → List HistItem → RunState
state_in spec entries items = (report (run_of spec entries items) (orders items - length (setup_numbers spec))).state

-- each step was reported; or the permutation is invalid, with a step that was not started or not; or it never came to its entries, since a setup failed or waits
abbrev pub ending : RunState → Bool → Ending
ending WholeState early = Whole
ending (EntryDue entry) early = NotSetUp
ending Invalid early = if early then Blocked else Waits

abbrev pub ending_in : SpecTree → List EntryTree → List HistItem → Ending
ending_in spec entries items = ending (state_in spec entries items) (nat_lt (orders items) (wanted spec entries))

-- the history up to the end of the entries, before any teardown
abbrev pub front_of : SpecTree → List EntryTree → List HistItem → List HistItem
front_of spec entries items = take (segment_start items (wanted spec entries)) items
