-- What an event makes of the machine: one session changes, as a statement may change it.
use Rattle.std.proofs.Common.{◌≡◌, refl, sym, ◌∙◌, ap, subst, ◌⊎◌, inl, inr, Bool, true, false, ℕ, ◌+◌, List, [], ◌∷◌, length}
use Rattle.std.specs.Prelude.{Option, Some, None, is_some, nat_lt, slice_get, Result, Ok, Err, if◌then◌else◌}
use Rattle.sql_trees.specs.Statements.{StmtTree}
use Rattle.row_versions.specs.Log.{IsOpen}
use Rattle.row_versions.specs.declared.write.View.{View}
use Rattle.session_machine.specs.declared.session.OpenTransaction.{OpenTransaction}
use Rattle.session_machine.specs.declared.session.Place.{Place}
use Rattle.session_machine.specs.declared.session.Transaction.{Transaction}
use Rattle.session_machine.specs.declared.session.Transaction.TheVariants.{Closed, Open, Aborted}
use Rattle.session_machine.specs.declared.session.Progress.{Progress}
use Rattle.session_machine.specs.declared.session.Session.{Session}
use Rattle.session_machine.specs.declared.event.Event.{Event}
use Rattle.session_machine.specs.declared.event.Event.TheVariants.{Launch, Step, Leave}
use Rattle.session_machine.specs.declared.event.Mode.{Mode}
use Rattle.session_machine.specs.declared.reply.HistItem.{HistItem}
use Rattle.session_machine.specs.declared.reply.Outcome.TheVariants.{Done}
use Rattle.session_machine.specs.declared.fault.Refusal.{Refusal}
use Rattle.session_machine.specs.declared.fault.Refusal.TheVariants.{Busy, NotYourTurn, StillBlocked, Idle, NoSession, BlockNotAllowed}
use Rattle.session_machine.specs.Tables.{Database}
use Rattle.session_machine.specs.Transactions.{committed}
use Rattle.session_machine.specs.Statements.{Effect}
use Rattle.session_machine.specs.Running.{run_stmt}
use Rattle.session_machine.specs.Machine.{Machine, Blocks, Next, next, stmts_of, is_failed, with_session, closed_at_end, after_stmt, at_rest, session_of, Run}
use Rattle.session_machine.specs.Waits.{is_still_blocked}
use Rattle.session_machine.specs.Inner.Steps.{launch_of, step_stmt, step_from_place, step_of, leave_of, finished, waits_there, after_block_end, around, left_behind, first_place}
use Rattle.session_machine.specs.Sound.{command_in}
use Rattle.wait_laws.proofs.Doing.{Keeps, Refused, Ran, Idles, doer, start, Allows, does_stmt, ended_committed, ended_rolled_back}

err_not : (f : Refusal) (n : Next) → (let y : Result Next Refusal = Err f in y ≡ Ok n) → ⊥
err_not f n h = cc

pub ok_is : (a n : Next) → (let y : Result Next Refusal = Ok a in y ≡ Ok n) → n ≡ a
ok_is a n h = cc

pub ok_else : (f : Refusal) (b : Bool) (r : Result Next Refusal) (n : Next) → (let y : Result Next Refusal = if b then Err f else r in y ≡ Ok n) → (b ≡ false) × (r ≡ Ok n)
ok_else f true r n h = absurd (err_not f n h)
ok_else f false r n h = (refl, h)

-- an event that is accepted is of a session that is there
pub session_there : (blocks : Blocks) (mode : Mode) (m : Machine) (event : Event) (n : Next) → next blocks mode m event ≡ Ok n → (s : Session) × (slice_get m.sessions (session_of event) ≡ Some s)
session_there blocks mode m (Launch session block) n h = by (slice_get m.sessions session) h where
  by : (o : Option Session) → launch_of blocks mode m session block o ≡ Ok n → (s : Session) × (o ≡ Some s)
  by None k = absurd (err_not NoSession n k)
  by (Some s) k = (s, refl)
session_there blocks mode m (Step session) n h = by (slice_get m.sessions session) h where
  by : (o : Option Session) → step_of blocks mode m session o ≡ Ok n → (s : Session) × (o ≡ Some s)
  by None k = absurd (err_not NoSession n k)
  by (Some s) k = (s, refl)
session_there blocks mode m (Leave session) n h = by (slice_get m.sessions session) h where
  by : (o : Option Session) → leave_of mode m session o ≡ Ok n → (s : Session) × (o ≡ Some s)
  by None k = absurd (err_not NoSession n k)
  by (Some s) k = (s, refl)

-- a step that is accepted runs the session's statement
pub record Stepped (blocks : Blocks) (m : Machine) (i : ℕ) (s : Session) (n : Next) : Type 0 where
  pub place : Place
  pub stmt : StmtTree
  pub there : s.place ≡ Some place
  pub found : slice_get (stmts_of blocks place.block) place.next ≡ Some stmt
  pub free : is_still_blocked m.db s ≡ false
  pub is : n ≡ after_stmt m i place (length (stmts_of blocks place.block)) (run_stmt m.db s.transaction s.statement (around m i s) stmt)

pub stepped : (blocks : Blocks) (mode : Mode) (m : Machine) (i : ℕ) (s : Session) (n : Next) → step_of blocks mode m i (Some s) ≡ Ok n → Stepped blocks m i s n
stepped blocks mode m i s n h = at_place s.place refl h where
  at_stmt : (p : Place) → s.place ≡ Some p → (o : Option StmtTree) → slice_get (stmts_of blocks p.block) p.next ≡ o
      → step_stmt mode m i s p (length (stmts_of blocks p.block)) o ≡ Ok n → Stepped blocks m i s n
  at_stmt p e None f k = absurd (err_not Idle n k)
  at_stmt p e (Some stmt) f k =
      let a = ok_else NotYourTurn _ _ n k in
      let b = ok_else StillBlocked _ _ n a.1 in
      record { place = p; stmt = stmt; there = e; found = f; free = b.0; is = ok_is _ n b.1 }

  at_place : (o : Option Place) → s.place ≡ o → step_from_place blocks mode m i s o ≡ Ok n → Stepped blocks m i s n
  at_place None e k = absurd (err_not Idle n k)
  at_place (Some p) e k = at_stmt p e (slice_get (stmts_of blocks p.block) p.next) refl k

-- what is left of the database and of the session
abbrev pub left_as : Database → Session → Effect
left_as e u = record { db = e; transaction = u.transaction; statement = u.statement; outcome = Done }

-- nothing but the session's place changed, and it doesn't wait
pub record Rests (m : Machine) (s : Session) (e : Database) (u : Session) : Type 0 where
  pub same : e ≡ m.db
  pub over : u.statement ≡ None
  pub its : (t : OpenTransaction) → u.transaction ≡ Open t → s.transaction ≡ Open t
  pub stays : (t : OpenTransaction) → s.transaction ≡ Open t → u.transaction ≡ Open t

-- the session and what is shared afterwards
pub record Moved (P Q : Database → Type 0) (V : View → Type 0) (m : Machine) (i : ℕ) (s : Session) (after : Machine) : Type 0 where
  pub e : Database
  pub u : Session
  pub is : after ≡ with_session m e i u
  pub did : Rests m s e u ⊎ Ran (doer m.db s.transaction) (command_in s.transaction) P Q V (around m i s).sessions (left_as e u)

moved_launch : (P Q : Database → Type 0) (V : View → Type 0) (blocks : Blocks) (mode : Mode) (m : Machine) (i block : ℕ) (s : Session) (n : Next)
    → launch_of blocks mode m i block (Some s) ≡ Ok n → Moved P Q V m i s n.machine
moved_launch P Q V blocks mode m i block s n h =
    let a = ok_else BlockNotAllowed _ _ n h in
    let b = ok_else Busy _ _ n a.1 in
    let c = ok_else NotYourTurn _ _ n b.1 in
    record {
      e = m.db;
      u = record { place = first_place block (stmts_of blocks block); transaction = s.transaction; statement = None };
      is = ap (λ (x : Next). x.machine) (ok_is _ n c.1);
      did = inl (record { same = refl; over = refl; its = λ t k. k; stays = λ t k. k });
    }

open_is : (t u : OpenTransaction) → Open t ≡ Open u → t ≡ u
open_is t u h = cc

moved_leave : (P Q : Database → Type 0) (V : View → Type 0) (mode : Mode) (m : Machine) (i : ℕ) (s : Session) (n : Next)
    → Keeps (doer m.db s.transaction) (command_in s.transaction) P Q → P (start m.db s.transaction) → leave_of mode m i (Some s) ≡ Ok n → Moved P Q V m i s n.machine
moved_leave P Q V mode m i s n keeps p h =
    let c = ok_else NotYourTurn _ _ n h in
    record {
      e = left_behind m.db s.transaction;
      u = at_rest;
      is = ap (λ (x : Next). x.machine) (ok_is _ n c.1);
      did = by s.transaction refl keeps p;
    } where
      no_tx : (t : OpenTransaction) → Closed ≡ Open t → ⊥
      no_tx t k = cc

      aborted_not : (t : OpenTransaction) → Aborted ≡ Open t → ⊥
      aborted_not t k = cc

      no_wait : (q : Progress) → None ≡ Some q → ⊥
      no_wait q k = cc

      by : (tr : Transaction) → s.transaction ≡ tr → Keeps (doer m.db tr) (command_in tr) P Q → P (start m.db tr)
          → Rests m s (left_behind m.db tr) at_rest ⊎ Ran (doer m.db tr) (command_in tr) P Q V (around m i s).sessions (left_as (left_behind m.db tr) at_rest)
      by Closed is k q = inl (record { same = refl; over = refl; its = λ t f. absurd (no_tx t f); stays = λ t f. absurd (no_tx t (sym is ∙ f)) })
      by Aborted is k q = inl (record { same = refl; over = refl; its = λ t f. absurd (no_tx t f); stays = λ t f. absurd (aborted_not t (sym is ∙ f)) })
      by (Open t) is k q = inr (record { db = k.roll_back m.db q; own = λ u f. absurd (no_tx u f); over = λ shut. ended_rolled_back m.db t.tx; waits = λ g f. absurd (no_wait g f) })

no_statement : (p : Progress) → None ≡ Some p → ⊥
no_statement p h = cc

-- how the session goes on after its statement: where it waits, at the same place
pub record After (m : Machine) (i : ℕ) (place : Place) (d : Effect) (n : Next) : Type 0 where
  pub e : Database
  pub u : Session
  pub is : n.machine ≡ with_session m e i u
  pub how : ((e ≡ d.db) × (u.transaction ≡ d.transaction) × ((u.statement ≡ d.statement) ⊎ (u.statement ≡ None)))
      ⊎ ((t : OpenTransaction) × (d.transaction ≡ Open t) × (e ≡ committed d.db t.tx) × (u.transaction ≡ Closed) × (u.statement ≡ None))
  pub stays : (q : Progress) → u.statement ≡ Some q → u.place ≡ Some place

pub after : (m : Machine) (i : ℕ) (place : Place) (count : ℕ) (d : Effect) → After m i place d (after_stmt m i place count d)
after m i place count d = at (is_some d.statement) where
  ends : (tr : Transaction) → d.transaction ≡ tr → After m i place d (finished m i (closed_at_end d tr) None)
  ends Closed f = record { e = d.db; u = record { place = None; transaction = d.transaction; statement = None }; is = refl; how = inl (refl, refl, inr refl); stays = λ q h. absurd (no_statement q h) }
  ends Aborted f = record { e = d.db; u = record { place = None; transaction = d.transaction; statement = None }; is = refl; how = inl (refl, refl, inr refl); stays = λ q h. absurd (no_statement q h) }
  ends (Open t) f = explicit t.explicit where
    explicit : (b : Bool) → (let c : Effect = if b then d else record { db = committed d.db t.tx; transaction = Closed; statement = None; outcome = d.outcome } in After m i place d (finished m i c None))
    explicit true = record { e = d.db; u = record { place = None; transaction = d.transaction; statement = None }; is = refl; how = inl (refl, refl, inr refl); stays = λ q h. absurd (no_statement q h) }
    explicit false = record { e = committed d.db t.tx; u = record { place = None; transaction = Closed; statement = None }; is = refl; how = inr (t, f, refl, refl, refl); stays = λ q h. absurd (no_statement q h) }

  goes : (b : Bool) → (let y : Next = if b then finished m i d (Some (record { block = place.block; next = place.next + 1 })) else finished m i (closed_at_end d d.transaction) None in After m i place d y)
  goes true = record {
    e = d.db;
    u = record { place = Some (record { block = place.block; next = place.next + 1 }); transaction = d.transaction; statement = None };
    is = refl;
    how = inl (refl, refl, inr refl);
    stays = λ q h. absurd (no_statement q h);
  }
  goes false = ends d.transaction refl

  fails : (b : Bool) → (let y : Next = if b then finished m i d None else if nat_lt (place.next + 1) count then finished m i d (Some (record { block = place.block; next = place.next + 1 }))
      else finished m i (closed_at_end d d.transaction) None in After m i place d y)
  fails true = record { e = d.db; u = record { place = None; transaction = d.transaction; statement = None }; is = refl; how = inl (refl, refl, inr refl); stays = λ q h. absurd (no_statement q h) }
  fails false = goes (nat_lt (place.next + 1) count)

  at : (b : Bool) → (let y : Next = if b then waits_there m i place d else after_block_end m i place count d in After m i place d y)
  at true = record { e = d.db; u = record { place = Some place; transaction = d.transaction; statement = d.statement }; is = refl; how = inl (refl, refl, inl refl); stays = λ q h. refl }
  at false = fails (is_failed d.outcome)

not_closed : (t : OpenTransaction) → Closed ≡ Open t → ⊥
not_closed t h = cc

moved_after : (P Q : Database → Type 0) (V : View → Type 0) (m : Machine) (i : ℕ) (s : Session) (place : Place) (d : Effect) (n : Next)
    → Keeps (doer m.db s.transaction) (command_in s.transaction) P Q → Idles m.db s.transaction d ⊎ Ran (doer m.db s.transaction) (command_in s.transaction) P Q V (around m i s).sessions d → After m i place d n → Moved P Q V m i s n.machine
moved_after P Q V m i s place d n keeps did a = record { e = a.e; u = a.u; is = a.is; did = by did a.how } where
  idle : Idles m.db s.transaction d
      → ((a.e ≡ d.db) × (a.u.transaction ≡ d.transaction) × ((a.u.statement ≡ d.statement) ⊎ (a.u.statement ≡ None)))
      ⊎ ((t : OpenTransaction) × (d.transaction ≡ Open t) × (a.e ≡ committed d.db t.tx) × (a.u.transaction ≡ Closed) × (a.u.statement ≡ None)) → Rests m s a.e a.u
  idle h (inl k) = record {
    same = k.0 ∙ h.same;
    over = elim k.2 [ inl f ↦ f ∙ h.over | inr f ↦ f ];
    its = λ t f. absurd (h.shut t (sym k.1 ∙ f));
    stays = λ t f. absurd (h.was t f);
  }
  idle h (inr k) = absurd (h.shut k.0 k.1)

  ran : Ran (doer m.db s.transaction) (command_in s.transaction) P Q V (around m i s).sessions d
      → ((a.e ≡ d.db) × (a.u.transaction ≡ d.transaction) × ((a.u.statement ≡ d.statement) ⊎ (a.u.statement ≡ None)))
      ⊎ ((t : OpenTransaction) × (d.transaction ≡ Open t) × (a.e ≡ committed d.db t.tx) × (a.u.transaction ≡ Closed) × (a.u.statement ≡ None))
      → Ran (doer m.db s.transaction) (command_in s.transaction) P Q V (around m i s).sessions (left_as a.e a.u)
  ran r (inl k) = record {
    db = subst Q (sym k.0) r.db;
    own = λ t f. let o = r.own t (sym k.1 ∙ f) in (o.0, subst P (sym k.0) o.1);
    over = λ shut o. r.over (λ u f. shut u (k.1 ∙ f)) (subst (λ (y : Database). IsOpen y.content (doer m.db s.transaction)) k.0 o);
    waits = λ p f. elim k.2 [
      | inl g ↦
          let w = r.waits p (sym g ∙ f) in
          (subst (λ (x : Database). Refused (doer m.db s.transaction) (around m i s).sessions x p.wait.request) (sym k.0) w.0, w.1, (w.2.0, k.1 ∙ w.2.1, w.2.2))
      | inr g ↦ absurd (no_statement p (sym g ∙ f))
    ];
  }
  ran r (inr k) =
      let o = r.own k.0 k.1 in
      record {
        db = subst Q (ap (committed d.db) (sym o.0) ∙ sym k.2) (keeps.commit d.db o.1);
        own = λ t f. absurd (not_closed t (sym k.3 ∙ f));
        over = λ shut q. ended_committed d.db (doer m.db s.transaction)
            (subst (λ (y : Database). IsOpen y.content (doer m.db s.transaction)) (k.2 ∙ ap (committed d.db) o.0) q);
        waits = λ p f. absurd (no_statement p (sym k.4 ∙ f));
      }

  by : Idles m.db s.transaction d ⊎ Ran (doer m.db s.transaction) (command_in s.transaction) P Q V (around m i s).sessions d
      → ((a.e ≡ d.db) × (a.u.transaction ≡ d.transaction) × ((a.u.statement ≡ d.statement) ⊎ (a.u.statement ≡ None)))
      ⊎ ((t : OpenTransaction) × (d.transaction ≡ Open t) × (a.e ≡ committed d.db t.tx) × (a.u.transaction ≡ Closed) × (a.u.statement ≡ None))
      → Rests m s a.e a.u ⊎ Ran (doer m.db s.transaction) (command_in s.transaction) P Q V (around m i s).sessions (left_as a.e a.u)
  by (inl h) how = inl (idle h how)
  by (inr r) how = inr (ran r how)

pub moved_step : (P Q : Database → Type 0) (V : View → Type 0) (blocks : Blocks) (m : Machine) (i : ℕ) (s : Session) (n : Next)
    → Keeps (doer m.db s.transaction) (command_in s.transaction) P Q → Allows V m.db s.transaction s.statement → P (start m.db s.transaction) → Stepped blocks m i s n → Moved P Q V m i s n.machine
moved_step P Q V blocks m i s n keeps view p k =
    let d = run_stmt m.db s.transaction s.statement (around m i s) k.stmt in
    subst (λ (x : Next). Moved P Q V m i s x.machine) (sym k.is)
    (moved_after P Q V m i s k.place d _ keeps (does_stmt P Q V m.db s.transaction s.statement (around m i s) k.stmt keeps view p) (after m i k.place (length (stmts_of blocks k.place.block)) d))

-- what an event does: all of the session's own doing
pub moved : (P Q : Database → Type 0) (V : View → Type 0) (blocks : Blocks) (mode : Mode) (m : Machine) (event : Event) (s : Session) (n : Next)
    → slice_get m.sessions (session_of event) ≡ Some s
    → Keeps (doer m.db s.transaction) (command_in s.transaction) P Q → Allows V m.db s.transaction s.statement → P (start m.db s.transaction)
    → next blocks mode m event ≡ Ok n → Moved P Q V m (session_of event) s n.machine
moved P Q V blocks mode m (Launch session block) s n at keeps view p h =
    moved_launch P Q V blocks mode m session block s n (subst (λ o. launch_of blocks mode m session block o ≡ Ok n) at h)
moved P Q V blocks mode m (Step session) s n at keeps view p h =
    moved_step P Q V blocks m session s n keeps view p (stepped blocks mode m session s n (subst (λ o. step_of blocks mode m session o ≡ Ok n) at h))
moved P Q V blocks mode m (Leave session) s n at keeps view p h =
    moved_leave P Q V mode m session s n keeps p (subst (λ o. leave_of mode m session o ≡ Ok n) at h)

-- what holds at the opening, and goes on by each event, holds of every state reached
pub always : (I : Machine → Type 0) (blocks : Blocks) (mode : Mode)
    → ((m : Machine) (event : Event) (n : Next) → I m → next blocks mode m event ≡ Ok n → I n.machine)
    → (items : List HistItem) (m after : Machine) → I m → Run blocks mode m items after → I after
always I blocks mode on [] m after i run = subst I (sym run) i
always I blocks mode on (item ∷ items) m after i run = always I blocks mode on items run.0 after (on m item.event _ i run.1) run.2
