-- Teardowns as the code goes through them: first those of the sessions, then that of the whole file. Inner clauses alone have them.
use Rattle.std.specs.Prelude.{ℕ, ◌+◌, nat_le, List, [], ◌∷◌, ◌++◌, length, codes, Option, Some, None, is_some, if◌then◌else◌}
use Rattle.session_machine.specs.declared.reply.HistItem.{HistItem}
use Rattle.spec_parser.specs.Trees.{SessionTree, SpecTree}
use Rattle.report_lines.specs.Due.{segment, is_over}
use Rattle.report_text.specs.Replies.{rows_text, last_outcome}
use Rattle.report_text.specs.Said.{whole, Said, says, ◌>>◌}
use Rattle.report_text.specs.Code.Turns.{session_numbers}
use Rattle.report_text.specs.Teardowns.{note, failure_note}

-- what a teardown says of its segment
abbrev pub teardown_said : List SessionTree → List HistItem → ℕ → ℕ → Said
teardown_said sessions items k session =
    let last = last_outcome (segment items k) in
    if is_over items k session then record (says (rows_text last)) { notes = failure_note sessions session last }
    else record (says []) { notes = note sessions session (codes "would wait") }

-- what teardowns and Leaves say from a segment on, of which so many segments are there
abbrev pub teardowns_say : List SessionTree → List HistItem → ℕ → ℕ → List (Option ℕ) → Said
teardowns_say sessions items count k [] = says []
teardowns_say sessions items count k (None ∷ ts) = teardowns_say sessions items count (k + 1) ts
teardowns_say sessions items count k (Some session ∷ ts) =
    if nat_le count k then says []
    else teardown_said sessions items k session >> teardowns_say sessions items count (if is_over items k session then k + 1 else k + 2) ts

abbrev pub last_teardown_of : SpecTree → List ℕ
last_teardown_of spec = if is_some spec.teardown then 0 ∷ [] else []

-- the segment behind a teardown's own
abbrev pub behind : List HistItem → ℕ → ℕ → ℕ
behind items k session = if is_over items k session then k + 1 else k + 2

-- what teardowns say, and the segment behind theirs
pub record TeardownsSaid : Type 0 where
  pub text : List ℕ
  pub notes : List ℕ
  pub next : ℕ

abbrev pub teardown_first : Said → TeardownsSaid → TeardownsSaid
teardown_first said t = record t { text = said.text ++ t.text; notes = said.notes ++ t.notes }

-- the teardowns from a segment on, of which so many segments are there
abbrev pub teardowns_from : List SessionTree → List HistItem → ℕ → ℕ → List ℕ → TeardownsSaid
teardowns_from sessions items count k [] = record { text = []; notes = []; next = k }
teardowns_from sessions items count k (t ∷ ts) =
    if nat_le count k then record { text = []; notes = []; next = k }
    else teardown_first (teardown_said sessions items k t) (teardowns_from sessions items count (behind items k t) ts)

-- the sessions' teardowns, and behind the sessions' leaves that of the whole file
abbrev pub teardowns_in_turn : SpecTree → List HistItem → ℕ → ℕ → Said
teardowns_in_turn spec items count k =
    let first = teardowns_from spec.sessions items count k (session_numbers (λ s. s.teardown) spec.sessions) in
    let last = teardowns_from spec.sessions items count (first.next + length spec.sessions) (last_teardown_of spec) in
    record { text = first.text ++ last.text; notes = first.notes ++ last.notes; ending = whole }
