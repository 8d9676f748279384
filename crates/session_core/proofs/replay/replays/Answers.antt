use Rattle.std.proofs.Common.{◌≡◌, ◌↔◌, ◌+◌, [], refl, ap, ◌∙◌, subst, drop}
use Rattle.std.proofs.lemmas.List.{drop_all}
use Rattle.sql_blocks.specs.Blocks.{blocks_of}
use Rattle.session_machine.specs.Machine.{opening}
use Rattle.session_core.proofs.Replaying.{LeadsOn, legal_step, legal_not, from_place, reaches_on}
use Rattle.session_core.proofs.Blocking.{blockers_opening}
use Rattle.session_core.proofs.Holding.{kept_opening}
use Rattle.session_core.proofs.replay.replays.Goals as goal

pub loop-item-init : goal.loop-item-init
loop-item-init c =
    rw c.in_ok-live.ensures (record {
      sound = c.stays_sound.ensures.opens c.args.count c.requires.few;
      counted = refl;
      reached = ([], refl);
      kept = kept_opening (blocks_of c.args.blocks.now) c.args.count (opening c.args.count) c.in_ok-kept.kept refl c.in_ok-kept.ensures;
      blockers = blockers_opening c.args.count (opening c.args.count) c.in_ok-blockers.blockers refl c.in_ok-blockers.ensures;
      legal = (λ h. h, λ h. h);
    })

pub returns-then-not-branch : goal.returns-then-not-branch
returns-then-not-branch c =
    let i = c.loop-item.item-index in
    let blocks = blocks_of c.args.blocks.now in
    let from = from_place c.args.history.now i c.item-item.result c.loop-item-test.true c.item-item.is in
    let legal = subst (λ items. LeadsOn blocks c.args.mode c.loop-item.live items ↔ LeadsOn blocks c.args.mode (opening c.args.count) c.args.history.now) from c.loop-item.invariant.legal in
    let refused = c.in_ok-agrees.ensures.no c.if-not-branch.true in
    (λ h. absurd (let z : ⊥ = cc in z), λ h. absurd (legal_not blocks c.args.mode c.loop-item.live c.item-item.result (drop (i + 1) c.args.history.now) _ _ refused legal h))

pub loop-item-preserved : goal.loop-item-preserved
loop-item-preserved c =
    let i = c.loop-item.item-index in
    let blocks = blocks_of c.args.blocks.now in
    let from = from_place c.args.history.now i c.item-item.result c.loop-item-test.true c.item-item.is in
    let legal = subst (λ items. LeadsOn blocks c.args.mode c.loop-item.live items ↔ LeadsOn blocks c.args.mode (opening c.args.count) c.args.history.now) from c.loop-item.invariant.legal in
    let follows = c.in_ok-agrees.ensures.yes c.if-not-branch.false in
    let after = c.stays_sound.ensures.goes_on blocks c.args.mode c.loop-item.live c.item-item.result.event _ c.loop-item.invariant.sound follows in
    record {
      sound = after.0;
      counted = after.1 ∙ ap (λ k. k + 1) c.loop-item.invariant.counted;
      reached = reaches_on blocks c.args.mode c.args.count c.loop-item.live c.agrees.new.live c.item-item.result c.loop-item.invariant.reached follows;
      kept = c.in_ok-agrees.ensures.kept c.args.count c.loop-item.invariant.reached;
      blockers = c.in_ok-agrees.ensures.blockers c.args.count c.loop-item.invariant.reached;
      legal = legal_step _ _ c.loop-item.live c.agrees.new.live c.item-item.result (drop (i + 1) c.args.history.now) _ _ follows legal;
    }

pub returns : goal.returns
returns c =
    let blocks = blocks_of c.args.blocks.now in
    let ended : drop c.loop-item.item-index c.args.history.now ≡ [] = drop_all c.loop-item.item-index c.args.history.now c.loop-item-test.false in
    let legal = subst (λ items. LeadsOn blocks c.args.mode c.loop-item.live items ↔ LeadsOn blocks c.args.mode (opening c.args.count) c.args.history.now) ended c.loop-item.invariant.legal in
    (λ h. legal.0 (c.loop-item.live, refl), λ h. refl)
