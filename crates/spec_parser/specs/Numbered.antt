-- To be believed. The sessions and steps that numbers name.
use Rattle.std.specs.Prelude.{ℕ, ◌-◌, ◌==◌, List, Option, None, option_and_then, slice_get, if◌then◌else◌}
use Rattle.spec_parser.specs.Trees.{StepTree, SessionTree, EntryTree, SpecTree}

-- the session of this number, from 1
abbrev pub session_numbered : List SessionTree → ℕ → Option SessionTree
session_numbered sessions number = if number == 0 then None else slice_get sessions (number - 1)

-- a step of this number, from 0, of the session of that number
abbrev pub step_numbered : SpecTree → ℕ → ℕ → Option StepTree
step_numbered spec session step = option_and_then (λ (s : SessionTree). slice_get s.steps step) (session_numbered spec.sessions session)

abbrev pub step_of_entry : SpecTree → EntryTree → Option StepTree
step_of_entry spec e = step_numbered spec e.session e.step
