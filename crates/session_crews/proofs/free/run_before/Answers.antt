use Rattle.std.proofs.Common.{◌≡◌, ◌∙◌, ◌<◌, refl, sym, subst, rules, ℕ, List, take, get_or, length}
use Rattle.std.proofs.lemmas.List.{take_more}
use Rattle.std.proofs.lemmas.Option.{slice_get-get_or}
use Rattle.session_seats.specs.declared.free.BlockState.{BlockState}
use Rattle.session_seats.specs.declared.free.BlockState.TheVariants.{Ended, Stopped}
use Rattle.session_crews.specs.Inner.FreeRuns.{IsSetUp, RanBlock}
use Rattle.session_crews.proofs.Going.{of_on}
use Rattle.session_crews.proofs.Whole.{none_set_up, set_up_on, cut_short}
use Rattle.session_crews.proofs.free.run_before.Goals as goal

pub loop-setup-init : goal.loop-setup-init
loop-setup-init g c = record { none = c.requires.well; of = (refl, refl, refl); set_up = none_set_up (g.E.Engine.engine c.args.run.now.engine) }

pub loop-setup-preserved : goal.loop-setup-preserved
loop-setup-preserved g c =
    let first = g.E.Engine.engine c.args.run.now.engine in
    let before = g.E.Engine.engine c.loop-setup.run.engine in
    let after = g.E.Engine.engine c.run_block.new.run.engine in
    let setups = c.args.plan.now.before.items in
    let lent = c.deref-setup-items.result.now in
    let place = c.loop-setup.setup-index in
    let setup = get_or setups place (0, 0) in
    let within : place < length setups = search rules in
    let own : (g.S.SeatAt.seat c.in-Some.seat.now).session ≡ (get_or lent place (0, 0)).0 = sym c.session.ensures ∙ c.if-session.false in
    let ended : RanBlock (g.S.SeatAt.seat c.in-Some.seat.now).session (get_or lent place (0, 0)).1 before after Ended =
    subst (λ (s : BlockState). RanBlock (g.S.SeatAt.seat c.in-Some.seat.now).session (get_or lent place (0, 0)).1 before after s) c.in-Some-Ended.field-0-is c.in-Some-Ended.ensures.done.0 in
    let there : RanBlock (get_or lent place (0, 0)).0 (get_or lent place (0, 0)).1 before after Ended = subst (λ (n : ℕ). RanBlock n (get_or lent place (0, 0)).1 before after Ended) own ended in
    let ran : RanBlock setup.0 setup.1 before after Ended =
    subst (λ (w : List (ℕ × ℕ)). RanBlock (get_or w place (0, 0)).0 (get_or w place (0, 0)).1 before after Ended) c.deref-setup-items.ensures.value there in
    record {
      none = c.in-Some-Ended.ensures.done.1;
      of = of_on first before after c.loop-setup.invariant.of c.run_block.ensures.of;
      set_up = subst (λ (w : List (ℕ × ℕ)). IsSetUp w first after) (sym (take_more setups place (0, 0) within)) (set_up_on (take place setups) setup first before after c.loop-setup.invariant.set_up ran);
    }

pub returns-in-Some-Stopped-clause-cut : goal.returns-in-Some-Stopped-clause-cut
returns-in-Some-Stopped-clause-cut g c _ none =
    let first = g.E.Engine.engine c.args.run.now.engine in
    let before = g.E.Engine.engine c.loop-setup.run.engine in
    let after = g.E.Engine.engine c.run_block.new.run.engine in
    let setups = c.args.plan.now.before.items in
    let lent = c.deref-setup-items.result.now in
    let place = c.loop-setup.setup-index in
    let setup = get_or setups place (0, 0) in
    let ended = c.in-Some-Stopped._ended in
    let within : place < length setups = search rules in
    let own : (g.S.SeatAt.seat c.in-Some.seat.now).session ≡ (get_or lent place (0, 0)).0 = sym c.session.ensures ∙ c.if-session.false in
    let stopped : RanBlock (g.S.SeatAt.seat c.in-Some.seat.now).session (get_or lent place (0, 0)).1 before after (Stopped ended) =
    subst (λ (s : BlockState). RanBlock (g.S.SeatAt.seat c.in-Some.seat.now).session (get_or lent place (0, 0)).1 before after s) c.in-Some-Stopped.field-0-is c.in-Some-Stopped.ensures.done.0 in
    let there : RanBlock (get_or lent place (0, 0)).0 (get_or lent place (0, 0)).1 before after (Stopped ended) = subst (λ (n : ℕ). RanBlock n (get_or lent place (0, 0)).1 before after (Stopped ended)) own stopped in
    let ran : RanBlock setup.0 setup.1 before after (Stopped ended) =
    subst (λ (w : List (ℕ × ℕ)). RanBlock (get_or w place (0, 0)).0 (get_or w place (0, 0)).1 before after (Stopped ended)) c.deref-setup-items.ensures.value there in
    cut_short c.args.plan.now place setup ended first before after c.requires.new c.loop-setup.invariant.set_up (slice_get-get_or setups place (0, 0) within) ran
