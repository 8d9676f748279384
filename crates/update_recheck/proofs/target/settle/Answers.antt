use Rattle.std.proofs.Common.{◌≡◌, sym, subst, IfOk, OnOk}
use Rattle.update_recheck.specs.Asked.{asked}
use Rattle.update_recheck.specs.Settling.{LocksAfter, locks_after, lock_of, outcome_of}
use Rattle.update_recheck.proofs.Cases.{outcome_at, locked_at}
use Rattle.update_recheck.proofs.target.settle.Goals as goal

pub returns-in-ReadCommitted-clause-outcome : goal.returns-in-ReadCommitted-clause-outcome
returns-in-ReadCommitted-clause-outcome g c =
    let is = outcome_at (g.V.Versions.content c.args.store.now) c.args.locks.now c.args.waits.now (asked c.args.ask.now) _ _ c.in-ReadCommitted.is c.newest_version-newest.ensures.version in
    subst (λ o. IfOk c.settle_read_committed.result (λ s. outcome_of s ≡ o)) (sym is) c.settle_read_committed.ensures.outcome

pub returns-in-ReadCommitted-clause-locks : goal.returns-in-ReadCommitted-clause-locks
returns-in-ReadCommitted-clause-locks g c =
    let ask = asked c.args.ask.now in
    let is = locked_at (g.V.Versions.content c.args.store.now) c.args.locks.now c.args.waits.now ask _ _ c.in-ReadCommitted.is c.newest_version-newest.ensures.version in
    subst (λ b. OnOk c.settle_read_committed.result (LocksAfter b c.args.locks.now (lock_of ask) c.settle_read_committed.new.locks)) (sym is) c.settle_read_committed.ensures.locks

pub returns-in-ReadCommitted-clause-last : goal.returns-in-ReadCommitted-clause-last
returns-in-ReadCommitted-clause-last g c =
    let ask = asked c.args.ask.now in
    let is = locked_at (g.V.Versions.content c.args.store.now) c.args.locks.now c.args.waits.now ask _ _ c.in-ReadCommitted.is c.newest_version-newest.ensures.version in
    subst (λ b. OnOk c.settle_read_committed.result (c.settle_read_committed.new.locks ≡ locks_after b c.args.locks.now (lock_of ask))) (sym is) c.settle_read_committed.ensures.last
