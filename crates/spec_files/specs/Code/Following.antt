-- That what a plan keeps of a prefix of a history it keeps of each history that goes on from it: what a `Driver` has to say of itself.
use Rattle.std.proofs.Common.{List, length-append, sym, subst, arith}
use Rattle.std.proofs.lemmas.List.{take-append-le}
use Rattle.session_machine.specs.declared.reply.HistItem.{HistItem}
use Rattle.report_lines.specs.declared.progress.PlanProgress.{PlanProgress}
use Rattle.report_lines.specs.History.{PermutationRun}
use Rattle.report_lines.specs.Code.Progress.{Keeps, KeepsFront}
use Rattle.report_lines.specs.Fronts.{with_more}

pub follows_longer : (c : PermutationRun) (more : List HistItem) (p : PlanProgress) → KeepsFront c p → KeepsFront (with_more c more) p
follows_longer c more p follows =
    let few = follows.few in
    let long = length-append c.items more in
    record {
      few = omega arith;
      kept = subst (λ (w : List HistItem). Keeps (record { entries = c.entries; items = w; setups = c.setups }) p) (sym (take-append-le _ c.items more few)) follows.kept;
    }
