use Rattle.std.proofs.Common.{◌≡◌, ◌+◌, sym, subst, arith, map, refl}
use Rattle.spec_parser.specs.Trees.{entry_view}
use Rattle.report_lines.specs.Due.{orders}
use Rattle.report_lines.specs.History.{PermutationRun}
use Rattle.report_lines.specs.Code.SoFar.{IsReportSoFar}
use Rattle.report_lines.proofs.Keeping.{settled_already, settled_next, one_behind, room_to_tell, on_err}
use Rattle.report_lines.proofs.progress.PlanProgress.settle.Goals as goal

pub returns-then-saturating_sub-self-clause-settled : goal.returns-then-saturating_sub-self-clause-settled
returns-then-saturating_sub-self-clause-settled c =
    settled_already (record { entries = map entry_view c.args.entries.now; items = c.args.items.now; setups = c.args.setups }) c.args.self.now c.requires
    (let long = c.len.ensures in let test = c.if-saturating_sub-self.true in let left = c.saturating_sub.ensures in omega arith)

pub go_on-requires-clause-orders : goal.go_on-requires-clause-orders
go_on-requires-clause-orders c =
    let behind = one_behind (record { entries = map entry_view c.args.entries.now; items = c.args.items.now; setups = c.args.setups }) c.args.self.now c.requires
    (λ same. c.if-saturating_sub-self.false (let long = c.len.ensures in let left = c.saturating_sub.ensures in omega arith)) in
    subst (λ (s : PermutationRun). orders s.items ≡ s.setups + c.args.self.now.segments_done + 1) (sym c.new-run.ensures) behind

pub overflow_add-self : goal.overflow_add-self
overflow_add-self c =
    let behind = one_behind (record { entries = map entry_view c.args.entries.now; items = c.args.items.now; setups = c.args.setups }) c.args.self.now c.requires
    (λ same. c.if-saturating_sub-self.false (let long = c.len.ensures in let left = c.saturating_sub.ensures in omega arith)) in
    let room = room_to_tell (record { entries = map entry_view c.args.entries.now; items = c.args.items.now; setups = c.args.setups }) c.args.self.now c.requires behind in
    let long = c.len.ensures in
    let bound = c.len.type_inv in
    omega arith

pub returns-clause-settled : goal.returns-clause-settled
returns-clause-settled c =
    let run : PermutationRun = record { entries = map entry_view c.args.entries.now; items = c.args.items.now; setups = c.args.setups } in
    let behind = one_behind run c.args.self.now c.requires
    (λ same. c.if-saturating_sub-self.false (let long = c.len.ensures in let left = c.saturating_sub.ensures in omega arith)) in
    settled_next run c.args.self.now _ c.requires behind refl refl refl refl
    (subst (λ (s : PermutationRun). IsReportSoFar s (c.args.self.now.segments_done + 1) c.go_on.new.self c.in_ok-self.field-0) c.new-run.ensures c.in_ok-self.ensures.report)

pub returns-in_err-self-clause-memory : goal.returns-in_err-self-clause-memory
returns-in_err-self-clause-memory c = on_err c.from_residual.result
    (λ settled.
    let behind = one_behind (record { entries = map entry_view c.args.entries.now; items = c.args.items.now; setups = c.args.setups }) c.args.self.now c.requires
    (λ same. c.if-saturating_sub-self.false (let long = c.len.ensures in let left = c.saturating_sub.ensures in omega arith)) in
    let all = settled.all in
    omega arith)
