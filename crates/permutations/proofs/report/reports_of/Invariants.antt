use Rattle.std.specs.Prelude.{map}
use Rattle.spec_files.specs.Plans.{order_after}
use Rattle.permutations.proofs.Running.{orders_at}
use Rattle.permutations.proofs.report.reports_of.Given as goal

abbrev pub ghosts-reports_placed : goal.ghosts-reports_placed
ghosts-reports_placed g a = record { orders = orders_at (map (λ run. order_after run.driver) a.runs.items) }
