use Rattle.std.proofs.Common.{◌≡◌, ◌++◌, drop}
use Rattle.report_lines.specs.Code.Places.{starts_from}
use Rattle.report_lines.proofs.segments.starts.Given as goal

abbrev pub invariant-loop-place : goal.invariant-loop-place
invariant-loop-place l = l.starts.items ++ starts_from l.place (drop l.place l.items) ≡ starts_from 0 l.items
