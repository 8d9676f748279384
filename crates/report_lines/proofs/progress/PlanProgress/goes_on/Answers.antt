use Rattle.std.proofs.Common.{◌≤◌, ◌∙◌, ap, sym, inl, inr, arith, length, map}
use Rattle.session_machine.specs.declared.reply.HistItem.{HistItem}
use Rattle.spec_parser.specs.Trees.{entry_view}
use Rattle.report_lines.specs.Starts.{is_order}
use Rattle.report_lines.proofs.Keeping.{lags_so, order_next, none_next}
use Rattle.report_lines.proofs.progress.PlanProgress.goes_on.Goals as goal

pub returns-then-saturating_sub-self-clause-next : goal.returns-then-saturating_sub-self-clause-next
returns-then-saturating_sub-self-clause-next c = λ yes item h.
    inr (lags_so (record { entries = map entry_view c.args.entries.now; items = c.args.items.now; setups = c.args.setups }) c.args.self.now c.requires.follows
    (let long = c.len.ensures in let left = c.saturating_sub.ensures in let test = c.if-saturating_sub-self.true in omega arith))

pub returns-in-None-clause-next : goal.returns-in-None-clause-next
returns-in-None-clause-next c = λ yes item h.
    let past = c.in-None.ensures.lookup in
    let over : length c.args.items.now ≤ c.args.self.now.seen = grind arith in
    absurd (none_next (record { entries = map entry_view c.args.entries.now; items = c.args.items.now; setups = c.args.setups }) c.args.self.now item over h)

pub returns-in-Some-clause-next : goal.returns-in-Some-clause-next
returns-in-Some-clause-next c = λ yes item h.
    inl (ap (λ (x : HistItem). is_order x.event) (sym (order_next c.args.items.now c.args.self.now.seen c.in-Some.item.now item c.in-Some.ensures.lookup.0 c.in-Some.ensures.lookup.1 h))
    ∙ sym c.is_order.ensures ∙ yes)
