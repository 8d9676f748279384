-- `deadlock detected` and waits, as replies.
use Rattle.std.proofs.Common.{◌≡◌, ◌≢◌, ◌↔◌, refl, sym, ◌∙◌, ap, false, ℕ, List, [], ◌∷◌, ◌++◌}
use Rattle.std.specs.Prelude.{Option, Some, None, Ok}
use Rattle.row_versions.specs.declared.names.TxId.{TxId}
use Rattle.row_versions.specs.Members.{is_none_of}
use Rattle.row_locks.specs.Cycles.{blocks, Closes}
use Rattle.update_recheck.specs.Outcome.Outcome.{Takes, Skips, Waits as WaitsThere, Deadlocks, NotFree, Serializes, Faults}
use Rattle.update_recheck.specs.Outcome.{Outcome as TargetOutcome}
use Rattle.update_recheck.specs.Asked.{Asked}
use Rattle.session_machine.specs.declared.session.Request.{Request}
use Rattle.session_machine.specs.declared.session.Request.TheVariants.{Row, Key}
use Rattle.session_machine.specs.declared.session.Session.{Session}
use Rattle.session_machine.specs.declared.event.Event.{Event}
use Rattle.session_machine.specs.declared.event.Mode.{Mode}
use Rattle.session_machine.specs.declared.fault.StmtFault.{StmtFault}
use Rattle.session_machine.specs.declared.fault.StmtFault.TheVariants.{Deadlock}
use Rattle.session_machine.specs.declared.reply.Outcome.TheVariants.{Waits, Failed}
use Rattle.session_machine.specs.declared.reply.HistItem.{HistItem}
use Rattle.session_machine.specs.Tables.{Database}
use Rattle.session_machine.specs.Waits.{blockers, waits_in}
use Rattle.session_machine.specs.Walks.{Stop, Blocked, Fails}
use Rattle.session_machine.specs.Rows.{Meets, Stops, PassesOver, meet_key}
use Rattle.session_machine.specs.Targets.{asked_key}
use Rattle.session_machine.specs.Machine.{Machine, Blocks, Next, next, opening, Run}
use Rattle.wait_laws.specs.Replies.{DeadlockIsAnswered, IsAnsweredSo}
use Rattle.wait_laws.proofs.Deadlocks.{deadlock_is_exact}
use Rattle.wait_laws.proofs.KeyStops.{key_is_exact, waits_for_it}
use Rattle.wait_laws.proofs.Stops.{Tells, none_some, outcome_at, stop_met, stop_of}
use Rattle.wait_laws.proofs.Answering.{Shows, events}

-- ---- deadlocks

abbrev Closing : TxId → List Session → Database → Request → Type 0
Closing tx ss db r = Closes (blocks (waits_in db ss)) tx (blockers db r tx)

-- a row meets what stops the statement
met_so : (o : Option Meets) (stop : Stop) → (stop_met o ≡ Some stop) ↔ (o ≡ Some (Stops stop))
met_so None stop = (λ h. cc, λ h. cc)
met_so (Some PassesOver) stop = (λ h. cc, λ h. cc)
met_so (Some (Stops s)) stop = (λ h. cc, λ h. cc)

stops_deadlocked : (name : List ℕ) (ask : Asked) (o : TargetOutcome) → (stop_of name ask o ≡ Some (Fails Deadlock)) ↔ (o ≡ Deadlocks)
stops_deadlocked name ask (Takes version) = (λ h. cc, λ h. cc)
stops_deadlocked name ask Skips = (λ h. cc, λ h. cc)
stops_deadlocked name ask WaitsThere = (λ h. cc, λ h. cc)
stops_deadlocked name ask Deadlocks = (λ h. refl, λ h. refl)
stops_deadlocked name ask NotFree = (λ h. cc, λ h. cc)
stops_deadlocked name ask Serializes = (λ h. cc, λ h. cc)
stops_deadlocked name ask (Faults fault) = (λ h. cc, λ h. cc)

tells_deadlocks : Tells (λ o. o ≡ Some (Fails Deadlock)) Closing
tells_deadlocks = record {
  none = none_some (Fails Deadlock);
  other = λ fault ne h. ne (its fault h);
  row = λ db w name ask.
      let stops = stops_deadlocked name ask (outcome_at db w ask) in
      let exact = (deadlock_is_exact db.content db.held (waits_in db w.around.sessions) ask).deadlocks in
      (λ h. exact.0 (stops.0 h), λ h. stops.1 (exact.1 h));
  key = λ db w name do_nothing values except key.
      let met = met_so (meet_key db w name do_nothing values except key) (Fails Deadlock) in
      let exact = (key_is_exact db w name do_nothing values except key).deadlocks in
      (λ h. exact.0 (met.0 h), λ h. met.1 (exact.1 h));
} where
  its : (fault : StmtFault) → Some (Fails fault) ≡ Some (Fails Deadlock) → fault ≡ Deadlock
  its fault h = cc

shows_deadlocks : Shows (λ o. o ≡ Some (Fails Deadlock)) (λ o. o ≡ Failed Deadlock)
shows_deadlocks = record {
  launched = λ h. cc;
  left = λ h. cc;
  done = λ h. cc;
  rows = λ set h. cc;
  fault = λ f. (λ h. its f h, λ h. back f h);
  waits = λ r. (λ h. cc, λ h. cc);
} where
  its : (f : StmtFault) → Failed f ≡ Failed Deadlock → Some (Fails f) ≡ Some (Fails Deadlock)
  its f h = cc

  back : (f : StmtFault) → Some (Fails f) ≡ Some (Fails Deadlock) → Failed f ≡ Failed Deadlock
  back f h = cc

-- ---- waits

abbrev Waiting_for : TxId → List Session → Database → Request → Type 0
Waiting_for tx ss db r = (blockers db r tx ≢ []) × ¬ Closes (blocks (waits_in db ss)) tx (blockers db r tx)

abbrev Blocks_it : Option Stop → Type 0
Blocks_it o = (r : Request) × (o ≡ Some (Blocked r))

stops_waiting : (name : List ℕ) (ask : Asked) (o : TargetOutcome) → Blocks_it (stop_of name ask o) ↔ (o ≡ WaitsThere)
stops_waiting name ask (Takes version) = (λ h. let k = h.1 in cc, λ h. cc)
stops_waiting name ask Skips = (λ h. let k = h.1 in cc, λ h. cc)
stops_waiting name ask WaitsThere = (λ h. refl, λ h. (Row ask.seen.row ask.strength, refl))
stops_waiting name ask Deadlocks = (λ h. let k = h.1 in cc, λ h. cc)
stops_waiting name ask NotFree = (λ h. let k = h.1 in cc, λ h. cc)
stops_waiting name ask Serializes = (λ h. let k = h.1 in cc, λ h. cc)
stops_waiting name ask (Faults fault) = (λ h. let k = h.1 in cc, λ h. cc)

-- some are in a list
some_in : (bs : List TxId) → (is_none_of bs ≡ false) ↔ (bs ≢ [])
some_in [] = (λ h. cc, λ h. absurd (h refl))
some_in (b ∷ bs) = (λ h. λ e. cc, λ h. refl)

tells_waits : Tells Blocks_it Waiting_for
tells_waits = record {
  none = λ h. none_some (Blocked h.0) h.1;
  other = λ fault ne h. let k = h.1 in cc;
  row = λ db w name ask.
      let stops = stops_waiting name ask (outcome_at db w ask) in
      let exact = (deadlock_is_exact db.content db.held (waits_in db w.around.sessions) ask).waits_else in
      let some = some_in (blockers db (Row ask.seen.row ask.strength) ask.tx) in
      (λ h. let c = exact.0 (stops.0 h) in (c.0, c.1, (some.0 c.2, c.3)), λ h. stops.1 (exact.1 (h.0, h.1, some.1 h.2.0, h.2.1)));
  key = λ db w name do_nothing values except key.
      let met : (r : Request) → (stop_met (meet_key db w name do_nothing values except key) ≡ Some (Blocked r)) ↔ (meet_key db w name do_nothing values except key ≡ Some (Stops (Blocked r))) =
      λ r. met_so (meet_key db w name do_nothing values except key) (Blocked r) in
      let exact = (key_is_exact db w name do_nothing values except key).waits_else in (
        λ h. let m = (met h.0).0 h.1 in exact.0 (m ∙ ap (λ (r : Request). Some (Stops (Blocked r))) (sym (waits_for_it db w name do_nothing values except key h.0 m))),
        λ h. (Key (asked_key w values key), (met (Key (asked_key w values key))).1 (exact.1 h)),
      );
}

shows_waits : Shows Blocks_it (λ o. o ≡ Waits)
shows_waits = record {
  launched = λ h. cc;
  left = λ h. cc;
  done = λ h. cc;
  rows = λ set h. cc;
  fault = λ f. (λ h. cc, λ h. let k = h.1 in cc);
  waits = λ r. (λ h. (r, refl), λ h. refl);
}

-- ---- in a history

answered_so : (given : Blocks) (mode : Mode) (m : Machine) (event : Event) (n : Next) → next given mode m event ≡ Ok n → IsAnsweredSo given m event n.reply.outcome
answered_so given mode m event n h =
    let waits = events Blocks_it Waiting_for (λ o. o ≡ Waits) tells_waits shows_waits given mode m event n h in
    record {
      deadlock = events (λ o. o ≡ Some (Fails Deadlock)) Closing (λ o. o ≡ Failed Deadlock) tells_deadlocks shows_deadlocks given mode m event n h;
      waits = (λ o. let c = waits.0 o in (c.0, c.1.0, c.1.1), λ c. waits.1 (c.0, (c.1, c.2)));
    }

-- a run comes by the state to which its first part leads
pub parts : (given : Blocks) (mode : Mode) (before later : List HistItem) (m after : Machine) → Run given mode m (before ++ later) after
    → (mid : Machine) × Run given mode m before mid × Run given mode mid later after
parts given mode [] later m after run = (m, refl, run)
parts given mode (item ∷ before) later m after run =
    let rest = parts given mode before later run.0 after run.2 in
    (rest.0, (run.0, run.1, rest.1), rest.2)

pub deadlock_is_answered : DeadlockIsAnswered
deadlock_is_answered = record {
  next = answered_so;
  told = λ given mode count before item later legal.
      let at = parts given mode before (item ∷ later) (opening count) legal.0 legal.1 in
      (at.0, at.1, answered_so given mode at.0 item.event _ at.2.1);
}
