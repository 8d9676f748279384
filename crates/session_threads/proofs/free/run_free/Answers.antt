use denote.Param.Send.{sendable}
use Rattle.std.proofs.Common.{◌≡◌, sym, subst}
use Rattle.std.specs.Prelude.{Result, Ok, Err, IfOk, is_some, true}
use Rattle.session_seats.specs.FreeRuns.{FitsPlan}
use Rattle.session_threads.proofs.Sending.{held_send}
use Rattle.session_threads.proofs.free.run_free.Goals as goal

-- what a call answers well has what follows from what it says of it
implied : {A E : Type 0} {P Q : A → Type 0} (r : Result A E) → ((a : A) → P a → Q a) → IfOk r P → IfOk r Q
implied (Ok a) f p = f a p
implied (Err e) f p = tt

-- the engine may cross to the threads
pub run_scripts-run-requires-send-E : goal.run_scripts-run-requires-send-E
run_scripts-run-requires-send-E g c κs within = search (sendable, held_send) depth 60 fits 10000

pub returns-clause-fits : goal.returns-clause-fits
returns-clause-fits g c =
    implied c.end_of.result (λ closed is. subst (λ it. FitsPlan c.args.plan.now it.state.history) (sym is.3) (c.run_scripts-run.ensures.fits is.1 is.2)) c.end_of.ensures.ok

pub returns-clause-unspent : goal.returns-clause-unspent
returns-clause-unspent g c =
    implied c.end_of.result (λ closed is. subst (λ it. is_some it.state.machine ≡ true) (sym is.3) (c.run_scripts-run.ensures.unspent is.1 is.2)) c.end_of.ensures.ok
