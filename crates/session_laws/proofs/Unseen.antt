-- What a session sees while another one goes on.
use Rattle.std.proofs.Common.{◌≡◌, ℕ, ◌≤◌, ◌+◌, Bool, true, false, refl, ap, sym, ◌∙◌, subst}
use Rattle.std.specs.Prelude.{Option, Some, None, is_some, option_map, unwrap_or, slice_get, nat_lt, Ok, if◌then◌else◌}
use Rattle.sql_trees.specs.declared.stmt.Level.{Level}
use Rattle.sql_trees.specs.declared.stmt.Level.TheVariants.{ReadCommitted, RepeatableRead}
use Rattle.row_versions.specs.declared.names.TxId.{TxId}
use Rattle.row_versions.specs.declared.write.View.{View}
use Rattle.row_versions.specs.Log.{Content, commit_count}
use Rattle.session_machine.specs.declared.session.Place.{Place}
use Rattle.session_machine.specs.declared.session.OpenTransaction.{OpenTransaction}
use Rattle.session_machine.specs.declared.session.Transaction.{Transaction}
use Rattle.session_machine.specs.declared.session.Transaction.TheVariants.{Closed, Open, Aborted}
use Rattle.session_machine.specs.declared.session.Session.{Session}
use Rattle.session_machine.specs.declared.event.Event.{Event}
use Rattle.session_machine.specs.declared.event.Mode.{Mode}
use Rattle.session_machine.specs.declared.fault.StmtFault.{StmtFault}
use Rattle.session_machine.specs.declared.reply.Outcome.TheVariants.{Failed}
use Rattle.session_machine.specs.Tables.{Database}
use Rattle.session_machine.specs.Transactions.{committed, view_of, view_now}
use Rattle.session_machine.specs.Inner.Statements.{commits_seen}
use Rattle.session_machine.specs.Views.{rows_shown}
use Rattle.session_machine.specs.declared.session.Progress.{Progress}
use Rattle.session_machine.specs.Statements.{Effect}
use Rattle.session_machine.specs.Machine.{Machine, Blocks, Next, next, opening, is_failed, after_stmt, closed_at_end, session_of}
use Rattle.session_machine.specs.Inner.Steps.{waits_there, after_block_end, finished, around}
use Rattle.session_machine.specs.Sound.{IsSoundMachine, tx_in}
use Rattle.session_laws.specs.Laws.{SnapshotsStay, FailuresAreUnseen}
use Rattle.session_laws.proofs.Sound.{sound_live, sound_firm, sound_within, ran}
use Rattle.session_laws.proofs.Events.{event_cases, after_cases}
use Rattle.session_laws.proofs.Staying.{Hides, IsApart, hides-run, stays-next, shown_stays, apart_sessions}
use Rattle.session_laws.proofs.Snapshots.{snap_of, snap_in, sound_run, sound_first}

-- a snapshot is the same whatever has committed since
snapshot_is : (t : OpenTransaction) (commits : ℕ) (c : Content) → t.level ≡ RepeatableRead → t.snapshot ≡ Some commits → commits_seen t.level c t ≡ commits
snapshot_is t commits c level snapshot = ap (λ (l : Level). commits_seen l c t) level ∙ ap (λ (o : Option ℕ). unwrap_or o (commit_count c)) snapshot

same_view : (t : OpenTransaction) (c d : Content) → commits_seen t.level d t ≡ commits_seen t.level c t → view_of d t ≡ view_of c t
same_view t c d h = ap (λ (k : ℕ). let v : View = record { tx = Some t.tx; commits = k; command = t.command } in v) h

-- the view of an open transaction is its own
own_number : (t : OpenTransaction) (tx : TxId) → Some t.tx ≡ Some tx → Some t.tx.0 ≡ Some tx.0
own_number t tx e = ap (option_map (λ (x : TxId). x.0)) e

pub snapshots_stay : SnapshotsStay
snapshots_stay blocks count mode items m item after i s t commits few run follows other at is level snapshot k =
    let sound = sound_run blocks mode (opening count) items m (sound_first count few) run in
    let n : Next = record { machine = after; reply = item.reply } in
    let view = view_of m.db.content t in
    let here = snapshot_is t commits m.db.content level snapshot in
    let there = snapshot_is t commits after.db.content level snapshot in
    let snap : snap_of (slice_get m.sessions i) ≡ commits = ap snap_of at ∙ (ap snap_in is ∙ ap (λ (o : Option ℕ). unwrap_or o 0) snapshot) in
    let earlier : view.commits ≤ commit_count m.db.content = subst (λ x. x ≤ commit_count m.db.content) (snap ∙ sym here) (sound.1 i) in
    let stays = stays-next view blocks mode m item.event n sound.0 follows
    (λ u there. apart_sessions m i (session_of item.event) s u view sound.0 at there (λ e. other (sym e)) (λ tx e. ap tx_in is ∙ own_number t tx e)) earlier in
    ap (λ (v : View). rows_shown after.db.content v k) (same_view t m.db.content after.db.content (there ∙ sym here))
    ∙ shown_stays view m.db.content after.db.content k stays

-- a view that is taken now, where nothing more has committed
seen_same : (l : Level) (c d : Content) (t : OpenTransaction) → commit_count d ≡ commit_count c → commits_seen l d t ≡ commits_seen l c t
seen_same ReadCommitted c d t h = h
seen_same RepeatableRead c d t h = ap (unwrap_or t.snapshot) h

now_same : (c d : Content) (t : Transaction) (p : Option Progress) → commit_count d ≡ commit_count c → view_now d t p ≡ view_now c t p
now_same c d Closed p h = ap (λ (k : ℕ). let v : View = record { tx = None; commits = k; command = 0 } in v) h
now_same c d Aborted p h = ap (λ (k : ℕ). let v : View = record { tx = None; commits = k; command = 0 } in v) h
now_same c d (Open t) None h = same_view t c d (seen_same t.level c d t h)
now_same c d (Open t) (Some p) h = let u : OpenTransaction = record t { command = t.command + 1 } in same_view u c d (seen_same t.level c d u h)

now_own : (c : Content) (t : Transaction) (p : Option Progress) (tx : TxId) → (view_now c t p).tx ≡ Some tx → tx_in t ≡ Some tx.0
now_own c Closed p tx h = cc
now_own c Aborted p tx h = cc
now_own c (Open t) None tx h = own_number t tx h
now_own c (Open t) (Some p) tx h = own_number t tx h

-- a statement's outcome is the reply's
end_outcome : (d : Effect) (u : Transaction) → (closed_at_end d u).outcome ≡ d.outcome
end_outcome d Closed = refl
end_outcome d Aborted = refl
end_outcome d (Open t) = at_explicit t.explicit where
  at_explicit : (b : Bool) → (let e : Effect = if b then d else record { db = committed d.db t.tx; transaction = Closed; statement = None; outcome = d.outcome } in e.outcome ≡ d.outcome)
  at_explicit true = refl
  at_explicit false = refl

pub after_outcome : (m : Machine) (i : ℕ) (place : Place) (count : ℕ) (d : Effect) → (after_stmt m i place count d).reply.outcome ≡ d.outcome
after_outcome m i place count d = after_cases m i place count d (λ n. n.reply.outcome ≡ d.outcome) refl (λ p. refl) (end_outcome d d.transaction)

failed_is : (m : Machine) (i : ℕ) (place : Place) (count : ℕ) (d : Effect) → is_failed d.outcome ≡ true → after_block_end m i place count d ≡ finished m i d None
failed_is m i place count d h =
    ap (λ (b : Bool). let n : Next = if b then finished m i d None else
    if nat_lt (place.next + 1) count then finished m i d (Some (record { block = place.block; next = place.next + 1 })) else finished m i (closed_at_end d d.transaction) None in n) h

-- where a statement failed, what it left is the database
failed_db : (m : Machine) (i : ℕ) (place : Place) (count : ℕ) (d : Effect) → is_failed d.outcome ≡ true → (after_stmt m i place count d).machine.db ≡ d.db
failed_db m i place count d h = at_test (is_some d.statement) where
  at_test : (b : Bool) → (let n : Next = if b then waits_there m i place d else after_block_end m i place count d in n.machine.db ≡ d.db)
  at_test true = refl
  at_test false = ap (λ (n : Next). n.machine.db) (failed_is m i place count d h)

-- a failed event hides all that it did
failed-hides : (view : View) (blocks : Blocks) (mode : Mode) (m : Machine) (event : Event) (n : Next) (fault : StmtFault) → IsSoundMachine m
    → next blocks mode m event ≡ Ok n → n.reply.outcome ≡ Failed fault
    → ((s : Session) → slice_get m.sessions (session_of event) ≡ Some s → IsApart view m.db.content s.transaction) → Hides view m.db.content n.machine.db.content
failed-hides view blocks mode m event n fault sound h failed apart =
    event_cases blocks mode m event n (λ x. x.reply.outcome ≡ Failed fault → Hides view m.db.content x.machine.db.content) h
    (λ s place at idle e. absurd (let z : ⊥ = cc in z))
    (λ s place count stmt at due e.
    let i = session_of event in
    let d = ran m i s stmt in
    let its : is_failed d.outcome ≡ true = ap is_failed (sym (after_outcome m i place count d) ∙ e) in
    subst (λ (x : Database). Hides view m.db.content x.content) (sym (failed_db m i place count d its))
    (hides-run view m.db s.transaction s.statement (around m i s) stmt (sound_live m.db m.sessions m.events i s sound at) (sound_firm m.db m.sessions m.events sound)
    (sound_within m.db m.sessions m.events i s sound at) (apart s at) its))
    (λ s at e. absurd (let z : ⊥ = cc in z))
    failed

pub failures_are_unseen : FailuresAreUnseen
failures_are_unseen blocks count mode items m item after i s fault few run follows failed other at k =
    let sound = sound_run blocks mode (opening count) items m (sound_first count few) run in
    let n : Next = record { machine = after; reply = item.reply } in
    let view = view_now m.db.content s.transaction s.statement in
    let hides = failed-hides view blocks mode m item.event n fault sound.0 follows failed
    (λ u there. apart_sessions m i (session_of item.event) s u view sound.0 at there (λ e. other (sym e)) (now_own m.db.content s.transaction s.statement)) in
    ap (λ (v : View). rows_shown after.db.content v k) (now_same m.db.content after.db.content s.transaction s.statement hides.same_count)
    ∙ shown_stays view m.db.content after.db.content k hides.stays
