use Rattle.std.proofs.Common.{rules, ◌≡◌, ◌∙◌, ap, subst}
use Rattle.std.specs.Prelude.{option_map, IfOk, OnOk}
use Rattle.sql_trees.specs.Trees.{tree_of}
use Rattle.update_recheck.specs.Asked.{Asked}
use Rattle.update_recheck.specs.Outcome.{Outcome, is_target_locked, target_outcome}
use Rattle.update_recheck.specs.Settling.{lock_of, locks_after, outcome_of}
use Rattle.session_machine.specs.Waits.{waits_in}
use Rattle.session_machine.specs.Tables.{Database}
use Rattle.session_machine.specs.Inner.Statements.{settled}
use Rattle.session_statements.specs.Inner.Acting.{asked_at}
use Rattle.session_statements.proofs.Waited.{waited}
use Rattle.session_statements.proofs.settle.settle_target.Goals as goal

pub returns-clause-outcome : goal.returns-clause-outcome
returns-clause-outcome g c =
    let db = c.args.db.now in
    let w = c.args.work.now in
    let waits = c.in_ok-waits.waits in
    let ask : Asked = asked_at db w c.args.act.now c.args.strength c.args.seen.now in
    let law = waited db.content db.held waits (waits_in db w.around.sessions) ask c.outcomes_by_what_is_held.ensures c.waits_matter_to_the_blocked.ensures (λ blocked waits_there. c.in_ok-waits.ensures.told blocked (c.policy-policy.ensures ∙ waits_there)) in
    let had : Asked = record {
      tx = c.work.inside.by.tx;
      level = c.work.inside.by.level;
      seen = c.args.seen.now;
      strength = c.args.strength;
      policy = c.policy-policy.result;
      condition = option_map (λ e. tree_of e.now) c.filter.result;
      cols = c.known-columns.result;
    } in
    let same : had ≡ ask = search rules in
    subst (λ (o : Outcome). IfOk c.settle_ask.result (λ s. outcome_of s ≡ o)) (ap (target_outcome db.content db.held waits) same ∙ law.0) c.settle_ask.ensures.outcome

pub returns-clause-locks : goal.returns-clause-locks
returns-clause-locks g c =
    let db = c.args.db.now in
    let w = c.args.work.now in
    let waits = c.in_ok-waits.waits in
    let ask : Asked = asked_at db w c.args.act.now c.args.strength c.args.seen.now in
    let law = waited db.content db.held waits (waits_in db w.around.sessions) ask c.outcomes_by_what_is_held.ensures c.waits_matter_to_the_blocked.ensures (λ blocked waits_there. c.in_ok-waits.ensures.told blocked (c.policy-policy.ensures ∙ waits_there)) in
    let had : Asked = record {
      tx = c.work.inside.by.tx;
      level = c.work.inside.by.level;
      seen = c.args.seen.now;
      strength = c.args.strength;
      policy = c.policy-policy.result;
      condition = option_map (λ e. tree_of e.now) c.filter.result;
      cols = c.known-columns.result;
    } in
    let same : had ≡ ask = search rules in
    let taken : is_target_locked db.content db.held waits had ≡ is_target_locked db.content db.held (waits_in db w.around.sessions) ask =
    ap (is_target_locked db.content db.held waits) same ∙ law.1 in
    let before : Database = record db { held = locks_after (is_target_locked db.content db.held waits had) db.held (lock_of had) } in
    let after : before ≡ settled db w ask = λ i. record db { held = locks_after (taken i) db.held (lock_of (same i)) } in
    subst (λ (d : Database). OnOk c.settle_ask.result (c.settle_ask.new.self ≡ d)) after c.settle_ask.ensures.locks
