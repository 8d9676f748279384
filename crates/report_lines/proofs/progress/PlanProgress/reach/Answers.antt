use Rattle.std.proofs.Common.{◌≤◌, ◌∙◌, sym, ap, subst, arith, length, map}
use Rattle.std.proofs.lemmas.Result.{on_err_weaker}
use Rattle.spec_parser.specs.Trees.{entry_view}
use Rattle.report_lines.specs.declared.progress.PlanProgress.{PlanProgress}
use Rattle.report_lines.specs.History.{PermutationRun}
use Rattle.report_lines.specs.Code.Progress.{IsSettled}
use Rattle.report_lines.proofs.Keeping.{on_err}
use Rattle.report_lines.proofs.progress.PlanProgress.reach.Goals as goal

none_left : (c : PermutationRun) (p : PlanProgress) → IsSettled c p → length c.items ≤ p.seen
none_left c p settled = let seen = settled.kept.seen_are in omega arith

pub returns-in_err-forget_if_grown-clause-memory : goal.returns-in_err-forget_if_grown-clause-memory
returns-in_err-forget_if_grown-clause-memory c = on_err c.from_residual.result
    (λ settled.
    let run : PermutationRun = record { entries = map entry_view c.args.entries.now; items = c.args.items.now; setups = c.args.setups } in
    let none = none_left run c.args.self.now settled in
    let some = c.in_err-forget_if_grown.ensures.memory in
    omega arith)

pub returns-in_err-see_all-clause-memory : goal.returns-in_err-see_all-clause-memory
returns-in_err-see_all-clause-memory c = on_err c.from_residual-in_err-see_all.result
    (λ settled.
    let run : PermutationRun = record { entries = map entry_view c.args.entries.now; items = c.args.items.now; setups = c.args.setups } in
    let none = none_left run c.args.self.now settled in
    let same = ap (λ (p : PlanProgress). p.seen) (c.in_ok-forget_if_grown.ensures.same none) in
    let some = c.in_err-see_all.ensures.memory in
    omega arith)

pub returns-clause-memory : goal.returns-clause-memory
returns-clause-memory c =
    let run : PermutationRun = record { entries = map entry_view c.args.entries.now; items = c.args.items.now; setups = c.args.setups } in
    on_err_weaker c.settle.result
    (λ unsettled settled.
    let none = none_left run c.args.self.now settled in
    let first = c.in_ok-forget_if_grown.ensures.same none in
    let still : length c.args.items.now ≤ c.forget_if_grown.new.self.seen = let same = ap (λ (p : PlanProgress). p.seen) first in omega arith in
    unsettled (subst (IsSettled run) (sym (c.in_ok-see_all.ensures.same still ∙ first)) settled))
    c.settle.ensures.memory
