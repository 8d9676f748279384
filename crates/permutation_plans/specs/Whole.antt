-- The orders of a permutation in which no block fails or waits, and that the next of them is due.
use Rattle.std.specs.Prelude.{◌≡◌, ◌≢◌, ℕ, zero, suc, ◌+◌, ◌-◌, ◌<◌, true, List, [], ◌∷◌, ◌++◌, length, map, unwrap_or, slice_get}
use Rattle.session_machine.specs.declared.event.Order.{Order}
use Rattle.session_machine.specs.declared.event.Order.TheVariants.{Leave, Stop}
use Rattle.session_machine.specs.declared.reply.HistItem.{HistItem}
use Rattle.spec_parser.specs.Trees.{EntryTree, SpecTree}
use Rattle.report_lines.specs.declared.history.PlannedLaunch.{PlannedLaunch}
use Rattle.report_lines.specs.declared.history.RunState.TheVariants.{Invalid}
use Rattle.report_lines.specs.Report.{report}
use Rattle.report_lines.specs.Due.{Launches, Planned, orders, went_well, is_over, launch}
use Rattle.permutation_plans.specs.Launches.{launches, run_of}
use Rattle.permutation_plans.specs.Regular.{next_order}
use Rattle.permutation_plans.specs.Worked.{worked_spec, worked_entries, worked_items}

-- so many sessions leave, from this one on
abbrev pub leaves : ℕ → ℕ → List Order
leaves session zero = []
leaves session (suc n) = Leave session ∷ leaves (session + 1) n

-- the setups of the file and of its sessions, the entries' steps, the sessions' teardowns, each session leaves, the teardown of the file
abbrev pub whole_orders : Launches → List Order
whole_orders l = map launch l.setups ++ (map launch l.steps ++ (map launch l.teardowns ++ (leaves 1 l.sessions ++ map launch l.last)))

-- the order of this number, from 0; behind the last one a Stop
abbrev pub order_at : List Order → ℕ → Order
order_at os k = unwrap_or (slice_get os k) Stop

-- of these setups, the first of which has this number, each that is there ended, and nothing in it failed
abbrev pub AreWell : List HistItem → ℕ → ℕ → List PlannedLaunch → Type 0
AreWell items count k [] = Unit {0}
AreWell items count k (t ∷ ts) = (k < count → went_well items k t.session ≡ true) × AreWell items count (k + 1) ts

-- of these teardowns each that is there ended
abbrev pub AreOver : List HistItem → ℕ → ℕ → List PlannedLaunch → Type 0
AreOver items count k [] = Unit {0}
AreOver items count k (t ∷ ts) = (k < count → is_over items k t.session ≡ true) × AreOver items count (k + 1) ts

-- so far no setup failed or waits, no teardown waits, and the permutation is not invalid
pub record GoesWell (p : Planned) : Type 0 where
  pub setups : AreWell p.run.items (orders p.run.items) 0 p.launches.setups
  pub entries : (report p.run (orders p.run.items - length p.launches.setups)).state ≢ Invalid
  pub teardowns : AreOver p.run.items (orders p.run.items) (length p.launches.setups + length p.launches.steps) p.launches.teardowns
  pub last : AreOver p.run.items (orders p.run.items) (length p.launches.setups + length p.launches.steps + length p.launches.teardowns + p.launches.sessions) p.launches.last

-- the permutation of a spec that has these entries, with a history of its
abbrev pub planned : SpecTree → List EntryTree → List HistItem → Planned
planned spec entries items = let l = launches spec entries in record { launches = l; run = run_of l entries items }

-- as long as all goes well, the next order after a history is the next of those
abbrev pub NextIsDue : Type 0
NextIsDue = (spec : SpecTree) (entries : List EntryTree) (items : List HistItem) → GoesWell (planned spec entries items)
    → next_order spec entries items ≡ order_at (whole_orders (launches spec entries)) (orders items)

-- in the worked history all goes well
abbrev pub WorkedGoesWell : Type 0
WorkedGoesWell = GoesWell (planned worked_spec worked_entries worked_items)
