-- Runs of permutations by their plans.
use Rattle.std.specs.Prelude.{◌≡◌, List, [], ◌∷◌, length, Result, IfOk, IfErr}
use Rattle.std.specs.Global.{Vec}
use Rattle.session_machine.specs.Machine.{Blocks}
use Rattle.session_seats.specs.declared.fault.ThreadFault.{ThreadFault}
use Rattle.session_seats.specs.Refusals.{MayStop}
use Rattle.session_threads.specs.Closing.{ClosedOf}
use Rattle.session_threads.specs.Crews.{RanBy}
use Rattle.spec_parser.specs.declared.tree.Entry.{Entry}
use Rattle.spec_parser.specs.Trees.{EntryTree, SpecTree, perm_view}
use Rattle.permutation_plans.specs.Launches.{launches, due_in}
use Rattle.spec_files.specs.Plans.{Planning, order_after}

-- it is a plan of the permutation with these entries
pub record IsPlanOf (spec : SpecTree) (entries : List EntryTree) (plan : Planning) : Type 0 where
  pub launches : plan.launches ≡ launches spec entries
  pub own : plan.entries ≡ entries

-- these are plans of these permutations, in the same order; there may be fewer
abbrev pub ArePlans : SpecTree → List (Vec Entry) → List Planning → Type 0
ArePlans spec taken [] = Unit {0}
ArePlans spec [] (plan ∷ plans) = ⊥
ArePlans spec (entries ∷ taken) (plan ∷ plans) = IsPlanOf spec (perm_view entries) plan × ArePlans spec taken plans

-- a plan of the permutation with these entries has driven the closed run
pub record RanAs (spec : SpecTree) (blocks : Blocks) (entries : List EntryTree) (closed : ClosedOf) : Type 0 where
  pub plan : Planning
  pub planned : IsPlanOf spec entries plan
  pub ran : RanBy blocks (length spec.sessions) (order_after plan) closed

-- a run of the permutation with these entries: a plan of it has driven it to its end, or it was stopped by what may stop it
pub record RanSo (spec : SpecTree) (blocks : Blocks) (entries : List EntryTree) (run : Result ClosedOf ThreadFault) : Type 0 where
  pub ran : IfOk run (RanAs spec blocks entries)
  pub stopped : IfErr run (MayStop (due_in spec entries) blocks (length spec.sessions))

-- each of these reports is one of the permutation at its place; there may be fewer reports
abbrev pub AreReports : {R : Type 0} → (Vec Entry → R → Type 0) → List (Vec Entry) → List R → Type 0
AreReports reports taken [] = Unit {0}
AreReports reports [] (report ∷ behind) = ⊥
AreReports reports (entries ∷ taken) (report ∷ behind) = reports entries report × AreReports reports taken behind
