-- To be believed. What replies print.
use Rattle.std.specs.Prelude.{ℕ, ◌-◌, ◌==◌, List, [], ◌∷◌, ◌++◌, length, codes, slice_get, if◌then◌else◌}
use Rattle.std.specs.Option.{option_map_or}
use Rattle.result_tables.specs.TableText.{table_text}
use Rattle.session_machine.specs.declared.reply.HistItem.{HistItem}
use Rattle.session_machine.specs.declared.reply.Outcome.{Outcome}
use Rattle.session_machine.specs.declared.reply.Outcome.TheVariants.{Launched, Rows, Failed}
use Rattle.session_machine.specs.Machine.{session_of}
use Rattle.report_lines.specs.Starts.{ends_in}
use Rattle.report_text.specs.FaultText.{fault_text}

-- a result set prints its table
abbrev pub rows_text : Outcome → List ℕ
rows_text outcome = elim outcome [ Rows set ↦ table_text set | other ↦ [] ]

-- a statement prints the table of its result set, or why it failed
abbrev pub outcome_text : Outcome → List ℕ
outcome_text outcome = elim outcome [ Failed fault ↦ codes "ERROR:  " ++ fault_text fault ++ codes "\n" | other ↦ rows_text other ]

-- what the session's statements print, up to the one with which its block is over; a reply to another session prints nothing
abbrev pub replies_text : ℕ → List HistItem → List ℕ
replies_text session [] = []
replies_text session (item ∷ items) =
    (if session_of item.event == session then outcome_text item.reply.outcome else []) ++ (if ends_in session item then [] else replies_text session items)

-- what came last
abbrev pub last_outcome : List HistItem → Outcome
last_outcome items = option_map_or (λ (item : HistItem). item.reply.outcome) (slice_get items (length items - 1)) Launched
