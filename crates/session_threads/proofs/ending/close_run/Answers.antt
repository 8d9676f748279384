use Rattle.std.proofs.Common.{◌≡◌, ◌∙◌, refl, true, rules, subst, sym}
use Rattle.std.specs.Prelude.{IfSome}
use Rattle.sql_blocks.specs.Blocks.{blocks_of}
use Rattle.session_machine.specs.declared.event.Mode.TheVariants.{Directed}
use Rattle.session_seats.specs.Refusals.{MayStop}
use Rattle.session_core.specs.Engines.{IsOf}
use Rattle.session_threads.proofs.Stopping.{stopped_by, told_may, told_of_own}
use Rattle.session_threads.proofs.ending.close_run.Goals as goal

pub returns-clause-stopped : goal.returns-clause-stopped
returns-clause-stopped g c =
    let blocks = blocks_of c.args.blocks.now in
    let count = c.args.sessions in
    let orders = g.O.Orderings.orders c.args.place in
    let was = c.args.left.engine.state in
    let is_own = c.is_of-is_own.result in
    let met = c.args.left.met in
    let of_it : is_own ≡ true → (orders ≡ orders) × IsOf was blocks count Directed = λ yes. (refl, search rules) in
    let may = told_may orders orders blocks count was is_own met of_it c.history.ensures.leads c.requires.over.may in
    let told = subst (λ m. IfSome m (MayStop orders blocks count)) (sym c.told_of-run.ensures) may in
    let owned : IsOf was blocks count Directed → is_own ≡ true = λ it. search rules in
    stopped_by orders blocks count was c.args.left.seats.items c.told_of-run.result c.args.left.late c.end_of.result told
    (λ none. (of_it (told_of_own is_own met (sym c.told_of-run.ensures ∙ none))).1) c.requires.over.seen c.end_of.ensures.met
    (λ none it. c.end_of.ensures.late none (owned it)) (λ none it. c.end_of.ensures.seats none (owned it))
