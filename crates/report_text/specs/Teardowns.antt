-- To be believed. What teardowns say.
use Rattle.std.specs.Prelude.{ℕ, List, [], ◌++◌, codes, if◌then◌else◌}
use Rattle.std.specs.Option.{option_map_or}
use Rattle.iso_lexer.specs.Names.{decoded}
use Rattle.spec_parser.specs.Trees.{SessionTree}
use Rattle.spec_parser.specs.Numbered.{session_numbered}
use Rattle.session_machine.specs.declared.event.Order.{Order}
use Rattle.session_machine.specs.declared.event.Order.TheVariants.{Launch}
use Rattle.session_machine.specs.declared.reply.HistItem.{HistItem}
use Rattle.session_machine.specs.declared.reply.Outcome.{Outcome}
use Rattle.session_machine.specs.declared.reply.Outcome.TheVariants.{Failed}
use Rattle.report_lines.specs.Due.{segment, is_over}
use Rattle.report_text.specs.FaultText.{fault_text}
use Rattle.report_text.specs.Replies.{rows_text, last_outcome}
use Rattle.report_text.specs.Said.{Said, says}

abbrev pub of_session : SessionTree → List ℕ
of_session s = codes " of session " ++ decoded s.name

-- a note that the teardown failed, with this text: of a session by its number from 1, and with 0 of the whole file
abbrev pub note : List SessionTree → ℕ → List ℕ → List ℕ
note sessions session text = codes "isolationtester: teardown" ++ option_map_or of_session (session_numbered sessions session) [] ++ codes " failed: " ++ text ++ codes "\n"

-- The order of this number is a teardown's, or a Leave, which says nothing. A teardown that is over says the table of its last reply, with a note if that is a failure; of one that
-- isn't there is a note that it would wait.
abbrev pub teardown_says : List SessionTree → List HistItem → ℕ → Order → Said
teardown_says sessions items k (Launch session block) =
    let last = last_outcome (segment items k) in
    if is_over items k session then record (says (rows_text last)) { notes = elim last [ Failed fault ↦ note sessions session (fault_text fault) | _ ↦ [] ] }
    else record (says []) { notes = note sessions session (codes "would wait") }
teardown_says sessions items k _ = says []

-- ---- for inner clauses and free runs

abbrev pub failure_note : List SessionTree → ℕ → Outcome → List ℕ
failure_note sessions session outcome = elim outcome [ Failed fault ↦ note sessions session (fault_text fault) | _ ↦ [] ]
