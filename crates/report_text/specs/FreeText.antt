-- What a free run prints and notes, by its history.
use Rattle.std.specs.Prelude.{ℕ, ◌+◌, ◌==◌, Bool, false, List, [], ◌∷◌, ◌++◌, find, map, codes, decimal, Option, Some, None, option_map, option_and_then, if◌then◌else◌}
use Rattle.std.specs.List.{fold}
use Rattle.std.specs.Option.{option_map_or}
use Rattle.spec_parser.specs.Trees.{PartTree, StepTree, SessionTree, SpecTree}
use Rattle.spec_parser.specs.Numbered.{session_numbered}
use Rattle.session_machine.specs.declared.event.Event.{Event}
use Rattle.session_machine.specs.declared.event.Event.TheVariants.{Launch, Step, Leave}
use Rattle.session_machine.specs.declared.reply.HistItem.{HistItem}
use Rattle.session_machine.specs.declared.reply.Outcome.{Outcome}
use Rattle.session_machine.specs.declared.reply.Outcome.TheVariants.{Waits}
use Rattle.session_machine.specs.Machine.{session_of}
use Rattle.report_lines.specs.Due.{orders}
use Rattle.report_text.specs.declared.standing.Standing.{Standing}
use Rattle.report_text.specs.Replies.{outcome_text}
use Rattle.report_text.specs.LineText.{step_name, step_sql}
use Rattle.report_text.specs.Said.{Said}
use Rattle.report_text.specs.Code.Turns.{in_turn}
use Rattle.report_text.specs.Code.Turns.{setup_numbers, setup_turn}
use Rattle.report_text.specs.Teardowns.{failure_note}

-- ---- where a session stands: its block, and which of that block's statements comes next, from 1

-- a statement that waits comes again
abbrev pub past : Outcome → Standing → Standing
past Waits at = at
past outcome at = record { block = at.block; statement = at.statement + 1 }

abbrev pub moved : Event → Outcome → Option Standing → Option Standing
moved (Launch session block) outcome at = Some (record { block = block; statement = 1 })
moved (Step session) outcome at = option_map (past outcome) at
moved (Leave session) outcome at = None

-- an item moves its own session alone
abbrev pub moves : ℕ → Option Standing → HistItem → Option Standing
moves session at item = if session_of item.event == session then moved item.event item.reply.outcome at else at

-- where the session stands after these items
abbrev pub standing : ℕ → List HistItem → Option Standing
standing session items = fold (moves session) None items

-- what each item says, by where its session stands before it
abbrev pub each_says : (Option Standing → HistItem → List ℕ) → List HistItem → List HistItem → List ℕ
each_says says before [] = []
each_says says before (item ∷ items) = says (standing (session_of item.event) before) item ++ each_says says (before ++ item ∷ []) items

-- ---- lines

abbrev pub has_block : ℕ → StepTree → Bool
has_block block step = step.part.block == block

-- the session's step that has this block
abbrev pub step_with : SessionTree → ℕ → Option StepTree
step_with session block = find (has_block block) session.steps

abbrev pub launch_text : StepTree → List ℕ
launch_text step = step_sql step ++ codes "\n"

abbrev pub statement_name : StepTree → ℕ → List ℕ
statement_name step k = step_name step ++ codes "statement " ++ decimal k

-- a statement waits, or its table or the ERROR line follows
abbrev pub statement_text : StepTree → ℕ → Outcome → List ℕ
statement_text step k Waits = statement_name step k ++ codes " <waiting ...>\n"
statement_text step k outcome = statement_name step k ++ codes "\n" ++ outcome_text outcome

abbrev pub step_text : SessionTree → Outcome → Standing → List ℕ
step_text session outcome at = option_map_or (λ (step : StepTree). statement_text step at.statement outcome) (step_with session at.block) []

-- what an event of the session prints; setups, teardowns and a Leave print nothing
abbrev pub event_text : Event → Outcome → Option Standing → SessionTree → List ℕ
event_text (Launch number block) outcome at session = option_map_or launch_text (step_with session block) []
event_text (Step number) outcome at session = option_map_or (step_text session outcome) at []
event_text (Leave number) outcome at session = []

abbrev pub item_text : List SessionTree → Option Standing → HistItem → List ℕ
item_text sessions at item = option_map_or (event_text item.event item.reply.outcome at) (session_numbered sessions (session_of item.event)) []

-- ---- notes

abbrev pub own_teardown : SessionTree → Option PartTree
own_teardown s = s.teardown

-- the teardown of a session, and with 0 that of the whole file
abbrev pub teardown_of : SpecTree → ℕ → Option PartTree
teardown_of spec session = if session == 0 then spec.teardown else option_and_then own_teardown (session_numbered spec.sessions session)

abbrev pub has_its_block : PartTree → Standing → Bool
has_its_block part at = at.block == part.block

abbrev pub stands_in : Option Standing → PartTree → Bool
stands_in at part = option_map_or (has_its_block part) at false

-- a note where a teardown fails
abbrev pub item_note : SpecTree → Option Standing → HistItem → List ℕ
item_note spec at item =
    if option_map_or (stands_in at) (teardown_of spec (session_of item.event)) false
    then failure_note spec.sessions (session_of item.event) item.reply.outcome else []

-- ---- the whole

-- an empty line and the starting line, what each item prints and notes, and how the setups ended
unfoldable pub free_says : SpecTree → List HistItem → Said
free_says spec items = record {
  text = codes "\nstarting free run\n" ++ each_says (item_text spec.sessions) [] items;
  notes = each_says (item_note spec) [] items;
  ending = (in_turn (orders items) 0 (map (setup_turn items) (setup_numbers spec))).ending;
}
