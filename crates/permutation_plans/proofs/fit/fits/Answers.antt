use Rattle.std.proofs.Common.{◌≡◌, ◌≤◌, ◌↔◌, List, [], IsTrue, length, map, arith}
use Rattle.std.proofs.lemmas.Result.{IfOk-weaker}
use Rattle.session_machine.specs.declared.event.Order.{Order}
use Rattle.session_machine.specs.declared.event.Order.TheVariants.{Stop}
use Rattle.session_machine.specs.declared.reply.HistItem.{HistItem}
use Rattle.spec_parser.specs.Trees.{entry_view}
use Rattle.permutation_plans.specs.Launches.{due_after}
use Rattle.permutation_plans.specs.Code.Fits.{FitsAfter}
use Rattle.permutation_plans.proofs.Following.{at_the_end}
use Rattle.permutation_plans.proofs.fit.fits.Goals as goal

pub returns : goal.returns
returns c =
    let due : List HistItem → Order = due_after c.args.launches.now (map entry_view c.args.entries.now) in
    let over : length c.args.items.now ≤ c.loop-place.place = grind arith in
    IfOk-weaker c.is_due.result (λ b. IsTrue b ↔ (due c.args.items.now ≡ Stop)) (λ b. IsTrue b ↔ FitsAfter due [] c.args.items.now)
    (λ b h. at_the_end due c.args.items.now c.loop-place.place b over c.loop-place.invariant.fit h) c.is_due.ensures.due
