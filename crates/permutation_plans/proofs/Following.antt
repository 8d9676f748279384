-- What is kept of a front of a history is kept of a longer one.
use Rattle.std.proofs.Common.{◌≡◌, ℕ, ◌+◌, ◌≤◌, List, length, length-take, take, take-take, sym, ◌∙◌, subst, arith}
use Rattle.std.proofs.Common.{◌↔◌, [], Bool, IsTrue, drop, take_all}
use Rattle.std.proofs.lemmas.List.{drop_all}
use Rattle.session_machine.specs.declared.event.Order.{Order}
use Rattle.session_machine.specs.declared.event.Order.TheVariants.{Stop}
use Rattle.session_machine.specs.declared.reply.HistItem.{HistItem}
use Rattle.report_lines.specs.declared.progress.PlanProgress.{PlanProgress}
use Rattle.report_lines.specs.History.{PermutationRun}
use Rattle.report_lines.specs.Code.Progress.{Keeps, KeepsFront, first_items}
use Rattle.permutation_plans.specs.Code.Fits.{FitsAfter}

pub further : (c : PermutationRun) (k : ℕ) (p : PlanProgress) → KeepsFront (first_items c k) p → KeepsFront (first_items c (k + 1)) p
further c k p follows =
    let few = follows.few in
    let short = length-take k c.items in
    let long = length-take (k + 1) c.items in
    let within : p.seen ≤ k = omega arith in
    record {
      few = omega arith;
      kept = subst (λ (w : List HistItem). Keeps (record { entries = c.entries; items = w; setups = c.setups }) p)
          (take-take p.seen k c.items within ∙ sym (take-take p.seen (k + 1) c.items (omega (arith, within)))) follows.kept;
    }

-- where all items have been gone through it remains that nothing is due
pub at_the_end : (due : List HistItem → Order) (items : List HistItem) (place : ℕ) (b : Bool) → length items ≤ place
    → FitsAfter due (take place items) (drop place items) ↔ FitsAfter due [] items → IsTrue b ↔ (due items ≡ Stop) → IsTrue b ↔ FitsAfter due [] items
at_the_end due items place b over fit h =
    let all : FitsAfter due items [] ↔ FitsAfter due [] items =
    subst (λ (w : List HistItem). FitsAfter due items w ↔ FitsAfter due [] items) (drop_all place items over)
    (subst (λ (w : List HistItem). FitsAfter due w (drop place items) ↔ FitsAfter due [] items) (take_all place items over) fit) in
    (λ yes. all.0 (h.0 yes), λ fits. h.1 (all.1 fits))
