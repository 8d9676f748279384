use Rattle.std.proofs.Common.{◌≡◌, ◌∙◌, ◌↔◌, refl, sym, ap, subst, Bool, true, false}
use Rattle.std.proofs.lemmas.Result.{IfOk-weaker}
use Rattle.row_locks.specs.Laws.{SamePairs}
use Rattle.row_locks.specs.Cycles.{closes}
use Rattle.session_machine.specs.Waits.{waits_in}
use Rattle.session_machine.specs.Rows.{Work}
use Rattle.session_database.proofs.database.Database.closes_cycle.Goals as goal

-- two tests of the same are one
same_test : (P : Type 0) (a b : Bool) → ((a ≡ true) ↔ P) → ((b ≡ true) ↔ P) → a ≡ b
same_test P true b h k = sym (k.1 (h.0 refl))
same_test P false true h k = h.1 (k.0 refl)
same_test P false false h k = refl

pub returns : goal.returns
returns g c =
    let w = c.args.work.now in
    let waits = c.in_ok-waits.waits in
    let now = waits_in c.args.self.now w.around.sessions in
    let tx = c.work.inside.by.tx in
    let by = c.args.by.now in
    let pairs : SamePairs waits now = subst (λ (x : Work). SamePairs waits (waits_in c.args.self.now x.around.sessions)) c.work.view_is c.in_ok-waits.ensures in
    IfOk-weaker c.closes.result _ _ (λ yes h others each.
    same_test _ yes (closes waits tx by) h (c.cycle_test_is_exact.ensures waits tx by)
    ∙ c.cycles_by_who_blocks.ensures waits now pairs tx by others each ∙ ap (λ t. closes now t others) (ap (λ (x : Work). x.t.tx) c.work.view_is)) c.closes.ensures.cycle
