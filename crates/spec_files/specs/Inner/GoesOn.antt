-- What is said after a permutation's report.
use Rattle.std.specs.Prelude.{◌≡◌}
use Rattle.report_text.specs.Said.{Said, Ending, whole, invalid, only_ends}

-- a setup that failed or waits ends the run
abbrev pub GoesOn : Ending → (Said → Type 0) → Said → Type 0
GoesOn ending Others said = elim ending [ whole ↦ Others said | invalid ↦ Others said | ending ↦ said ≡ only_ends ending ]
