-- The writes and commits of every state that the machine comes to are in order.
use Rattle.std.proofs.Common.{◌≡◌, ℕ, zero, suc, ◌≤◌, ◌+◌, Bool, true, false, List, [], ◌∷◌, set, replicate, refl, ap, sym, ◌∙◌, subst, arith, inl, ⊎_elim}
use Rattle.std.specs.Prelude.{Option, Some, None, is_some, unwrap_or, slice_get, Ok, if◌then◌else◌, not, ◌&&◌}
use Rattle.std.proofs.lemmas.Bool.{cases_eq}
use Rattle.std.proofs.lemmas.Option.{slice_get_within, same_Some}
use Rattle.iso_lexer.specs.declared.limits.TheConstants.{MOST_SESSIONS}
use Rattle.sql_trees.specs.declared.stmt.Level.{Level}
use Rattle.sql_trees.specs.Statements.{StmtTree, Begin, Commit, Rollback, SetTransaction, SetDeadlockTimeout}
use Rattle.row_versions.specs.declared.write.Write.{Write}
use Rattle.row_versions.specs.declared.write.Fate.TheVariants.{Committed, Open as OpenFate}
use Rattle.row_versions.specs.Log.{Content}
use Rattle.session_machine.specs.declared.session.Place.{Place}
use Rattle.session_machine.specs.declared.session.OpenTransaction.{OpenTransaction}
use Rattle.session_machine.specs.declared.session.Transaction.{Transaction}
use Rattle.session_machine.specs.declared.session.Transaction.TheVariants.{Closed, Open, Aborted}
use Rattle.session_machine.specs.declared.session.Progress.{Progress}
use Rattle.session_machine.specs.declared.session.Session.{Session}
use Rattle.session_machine.specs.declared.event.Event.{Event}
use Rattle.session_machine.specs.declared.event.Mode.{Mode}
use Rattle.session_machine.specs.declared.reply.HistItem.{HistItem}
use Rattle.session_machine.specs.declared.fault.StmtFault.TheVariants.{LevelTooLate}
use Rattle.session_machine.specs.Tables.{Database}
use Rattle.session_machine.specs.Statements.{Surroundings, Effect, fails, turns, level_set}
use Rattle.session_machine.specs.Running.{run_stmt}
use Rattle.session_machine.specs.Inner.Statements.{run_open, run_on, run_closed, run_piecewise, is_level, begin_in}
use Rattle.session_machine.proofs.ByKind.{runs_by_kind}
use Rattle.session_machine.specs.Machine.{Machine, Blocks, Next, next, with_session, at_rest, opening, stmts_of, closed_at_end, session_of}
use Rattle.session_machine.specs.Inner.Steps.{around, left_behind}
use Rattle.session_machine.specs.Machine.{Run}
use Rattle.session_machine.specs.Sound.{IsSoundMachine, tx_in, tx_of}
use Rattle.session_laws.proofs.Lists.{slice_get-set_same, slice_get-set_other}
use Rattle.session_laws.proofs.Effects.{may_turn, after_aborted}
use Rattle.session_laws.proofs.Keeping.{IsLive}
use Rattle.session_laws.proofs.Events.{due_at, event_cases, after_over}
use Rattle.session_laws.proofs.Sound.{sound_live, sound_firm, sound_within, sound_ran, sound_next, sound_opening, ran}
use Rattle.session_laws.proofs.Growing.{grows_roll_back}
use Rattle.session_laws.proofs.Orderly.{IsKnown, IsBehind, IsTurning, Adds, adds_run, adds_none, adds_closes, known_grows, none_is}

-- a statement that may change its transaction alone doesn't stop in the middle
level_over : (db : Database) (t : OpenTransaction) (explicit : Bool) (level : Level) → (level_set db t explicit level).statement ≡ None
level_over db t explicit level = at_test (is_some t.snapshot && not (is_level t.level level)) where
  at_test : (b : Bool) → (let d : Effect = if b then fails db t LevelTooLate else turns db (Open (record t { explicit = explicit; level = level })) in d.statement ≡ None)
  at_test true = refl
  at_test false = refl

begin_over : (db : Database) (t : OpenTransaction) (level : Option Level) → (begin_in db t level).statement ≡ None
begin_over db t level = at_test t.explicit where
  at_test : (b : Bool) → (let d : Effect = if b then turns db (Open t) else level_set db t true (unwrap_or level t.level) in d.statement ≡ None)
  at_test true = refl
  at_test false = level_over db t true (unwrap_or level t.level)

open_over : (db : Database) (t : OpenTransaction) (around : Surroundings) (stmt : StmtTree) → may_turn stmt ≡ true → (run_open db t around stmt).statement ≡ None
open_over db t around (Begin level) h = begin_over db t level
open_over db t around Commit h = refl
open_over db t around Rollback h = refl
open_over db t around (SetTransaction level) h = level_over db t t.explicit level
open_over db t around SetDeadlockTimeout h = refl
open_over db t around _ h = cc

on_over : (db : Database) (t : OpenTransaction) (around : Surroundings) (p : Progress) (stmt : StmtTree) → may_turn stmt ≡ true → (run_on db t around p stmt).statement ≡ None
on_over db t around p (Begin level) h = begin_over db t level
on_over db t around p Commit h = refl
on_over db t around p Rollback h = refl
on_over db t around p (SetTransaction level) h = level_over db t t.explicit level
on_over db t around p SetDeadlockTimeout h = refl
on_over db t around p _ h = cc

closed_over : (db : Database) (around : Surroundings) (stmt : StmtTree) → may_turn stmt ≡ true → (run_closed db around stmt).statement ≡ None
closed_over db around (Begin level) h = refl
closed_over db around Commit h = refl
closed_over db around Rollback h = refl
closed_over db around (SetTransaction level) h = refl
closed_over db around SetDeadlockTimeout h = refl
closed_over db around _ h = cc

over_by_kind : (db : Database) (t : Transaction) (statement : Option Progress) (around : Surroundings) (stmt : StmtTree) → may_turn stmt ≡ true → (run_piecewise db t statement around stmt).statement ≡ None
over_by_kind db Closed statement around stmt h = closed_over db around stmt h
over_by_kind db (Open t) None around stmt h = open_over db t around stmt h
over_by_kind db (Open t) (Some p) around stmt h = on_over db t around p stmt h
over_by_kind db Aborted statement around stmt h = after_aborted db (λ d. d.statement ≡ None) refl refl stmt

turning_over : (db : Database) (t : Transaction) (statement : Option Progress) (around : Surroundings) (stmt : StmtTree) → may_turn stmt ≡ true → (run_stmt db t statement around stmt).statement ≡ None
turning_over db t statement around stmt h = subst (λ d. d.statement ≡ None) (sym (runs_by_kind db t statement around stmt)) (over_by_kind db t statement around stmt h)

-- all sessions are behind, all is known, and no statement that may change its transaction alone is in the middle of its targets
pub record IsOrderly (blocks : Blocks) (m : Machine) : Type 0 where
  pub known : IsKnown m.db
  pub behind : (i : ℕ) (s : Session) → slice_get m.sessions i ≡ Some s → IsBehind m.db.content s.transaction s.statement
  pub idle : (i : ℕ) (s : Session) → slice_get m.sessions i ≡ Some s → s.place ≡ None → s.statement ≡ None
  pub turning : (i : ℕ) (s : Session) (place : Place) (stmt : StmtTree) → slice_get m.sessions i ≡ Some s → due_at blocks s place stmt → IsTurning s.statement stmt

orderly_set : (blocks : Blocks) (m : Machine) (e : Database) (i : ℕ) (s u : Session) → IsSoundMachine m → IsOrderly blocks m → slice_get m.sessions i ≡ Some s
    → Adds m.db s.transaction e u.transaction u.statement → ((place : Place) (stmt : StmtTree) → due_at blocks u place stmt → IsTurning u.statement stmt) → (u.place ≡ None → u.statement ≡ None)
    → IsOrderly blocks (with_session m e i u)
orderly_set blocks m e i s u sound orderly at adds turns_ok idles = record { known = adds.known; behind = behind; idle = idle; turning = turning } where
  here : slice_get (set m.sessions i u) i ≡ Some u
  here = slice_get-set_same m.sessions i u (slice_get_within m.sessions i s at)

  is_u : (j : ℕ) (x : Session) → j ≡ i → slice_get (set m.sessions i u) j ≡ Some x → u ≡ x
  is_u j x e h = same_Some u x (sym here ∙ (ap (slice_get (set m.sessions i u)) (sym e) ∙ h))

  other : (j : ℕ) (x : Session) → (j ≡ i → ⊥) → slice_get (set m.sessions i u) j ≡ Some x → slice_get m.sessions j ≡ Some x
  other j x ne h = sym (slice_get-set_other m.sessions i j u ne) ∙ h

  mine : (j : ℕ) (x : Session) → (j ≡ i → ⊥) → slice_get m.sessions j ≡ Some x → (place : ℕ) (w : Write) → slice_get e.content.log place ≡ Some w → tx_in x.transaction ≡ Some w.tx.0
      → slice_get m.db.content.log place ≡ Some w
  mine j x ne h place w there its =
      let has : tx_of (slice_get m.sessions j) ≡ Some w.tx.0 = ap tx_of h ∙ its in
      ⊎_elim (λ old. old)
      (λ new. ⊎_elim
      (λ his. absurd (ne (sound.apart j i w.tx.0 has (ap tx_of at ∙ his))))
      (λ late. let l = slice_get_within m.db.content.fates w.tx.0 OpenFate (sound.opened j w.tx.0 has) in absurd (let z : ⊥ = omega arith in z))
      new)
      (adds.writes place w there)

  behind : (j : ℕ) (x : Session) → slice_get (set m.sessions i u) j ≡ Some x → IsBehind e.content x.transaction x.statement
  behind j x h =
      ⊎_elim (λ y. subst (λ (z : Session). IsBehind e.content z.transaction z.statement) (is_u j x y h) adds.behind)
      (λ ne place w there its. orderly.behind j x (other j x ne h) place w (mine j x ne (other j x ne h) place w there its) its)
      (cases_eq j i)

  idle : (j : ℕ) (x : Session) → slice_get (set m.sessions i u) j ≡ Some x → x.place ≡ None → x.statement ≡ None
  idle j x h =
      ⊎_elim (λ y. subst (λ (z : Session). z.place ≡ None → z.statement ≡ None) (is_u j x y h) idles) (λ ne. orderly.idle j x (other j x ne h)) (cases_eq j i)

  turning : (j : ℕ) (x : Session) (place : Place) (stmt : StmtTree) → slice_get (set m.sessions i u) j ≡ Some x → due_at blocks x place stmt → IsTurning x.statement stmt
  turning j x place stmt h =
      ⊎_elim (λ y. subst (λ (z : Session). due_at blocks z place stmt → IsTurning z.statement stmt) (is_u j x y h) (turns_ok place stmt))
      (λ ne. orderly.turning j x place stmt (other j x ne h))
      (cases_eq j i)

adds_left : (db : Database) (t : Transaction) → IsLive db.content t → IsKnown db → Adds db t (left_behind db t) Closed None
adds_left db Closed live known = adds_none db Closed Closed refl known
adds_left db Aborted live known = adds_none db Aborted Closed refl known
adds_left db (Open t) live known =
    let is_open = live t.tx.0 refl in
    record { known = known_grows t db _ is_open known (grows_roll_back t db is_open); behind = λ p w at its. absurd (none_is its); writes = λ p w at. inl at }

-- a launched session was in no statement, or its writes are counted as before
launched_behind : (c : Content) (t : Transaction) (p : Option Progress) → p ≡ None → IsBehind c t p → IsBehind c t None
launched_behind c t p e h = subst (IsBehind c t) e h

abbrev NextOrderly : Blocks → Next → Type 0
NextOrderly blocks n = IsOrderly blocks n.machine

pub orderly_step : (blocks : Blocks) (m : Machine) (i : ℕ) (s : Session) (place : Place) (count : ℕ) (stmt : StmtTree) → IsSoundMachine m → IsOrderly blocks m → slice_get m.sessions i ≡ Some s
    → due_at blocks s place stmt → Adds m.db s.transaction (ran m i s stmt).db (ran m i s stmt).transaction (ran m i s stmt).statement
orderly_step blocks m i s place count stmt sound orderly at due =
    adds_run m.db s.transaction s.statement (around m i s) stmt (sound_live m.db m.sessions m.events i s sound at) (sound_firm m.db m.sessions m.events sound)
    (sound_within m.db m.sessions m.events i s sound at) orderly.known (orderly.behind i s at) (orderly.turning i s place stmt at due)

same_place : {a b : Place} → Some a ≡ Some b → a ≡ b
same_place h = cc

no_place : {A : Type 0} (place : Place) → Some place ≡ None → A
no_place place h = absurd (let z : ⊥ = cc in z)

orderly_next : (blocks : Blocks) (mode : Mode) (m : Machine) (event : Event) (n : Next) → IsSoundMachine m → IsOrderly blocks m → next blocks mode m event ≡ Ok n → NextOrderly blocks n
orderly_next blocks mode m event n sound orderly h =
    let i = session_of event in
    event_cases blocks mode m event n (NextOrderly blocks) h
    (λ s place at idle.
    orderly_set blocks m m.db i s (record { place = place; transaction = s.transaction; statement = None }) sound orderly at
    (record { known = orderly.known; behind = launched_behind m.db.content s.transaction s.statement (orderly.idle i s at idle) (orderly.behind i s at); writes = λ p w there. inl there })
    (λ p x due ok. refl) (λ e. refl))
    (λ s place count stmt at due.
    let d = ran m i s stmt in
    let adds = orderly_step blocks m i s place count stmt sound orderly at due in
    let live = (sound_ran m i s stmt sound at).0.own in
    after_over m i place count d (NextOrderly blocks)
    (orderly_set blocks m d.db i s (record { place = Some place; transaction = d.transaction; statement = d.statement }) sound orderly at adds
    (λ p x its ok.
    let one : place ≡ p = same_place its.0 in
    let two : stmt ≡ x = same_Some stmt x (sym due.1 ∙ (ap (λ (q : Place). slice_get (stmts_of blocks q.block) q.next) one ∙ its.1)) in
    turning_over m.db s.transaction s.statement (around m i s) stmt (ap may_turn two ∙ ok))
    (λ e. no_place place e))
    (λ over p.
    orderly_set blocks m d.db i s (record { place = p; transaction = d.transaction; statement = None }) sound orderly at (subst (Adds m.db s.transaction d.db d.transaction) over adds)
    (λ q x its ok. refl) (λ e. refl))
    (λ over.
    let e = closed_at_end d d.transaction in
    orderly_set blocks m e.db i s (record { place = None; transaction = e.transaction; statement = None }) sound orderly at
    (adds_closes m.db s.transaction d d.transaction refl over live adds) (λ q x its ok. refl) (λ z. refl)))
    (λ s at.
    orderly_set blocks m (left_behind m.db s.transaction) i s at_rest sound orderly at
    (adds_left m.db s.transaction (sound_live m.db m.sessions m.events i s sound at) orderly.known) (λ q x its ok. refl) (λ z. refl))

-- so of each state that a run leads to
abbrev pub SoundAndOrderly : Blocks → Machine → Type 0
SoundAndOrderly blocks m = IsSoundMachine m × IsOrderly blocks m

orderly_on : (blocks : Blocks) (mode : Mode) (m : Machine) (items : List HistItem) (after : Machine) → SoundAndOrderly blocks m → Run blocks mode m items after → SoundAndOrderly blocks after
orderly_on blocks mode m [] after h run = subst (SoundAndOrderly blocks) (sym run) h
orderly_on blocks mode m (item ∷ items) after h run =
    let n : Next = record { machine = run.0; reply = item.reply } in
    orderly_on blocks mode run.0 items after ((sound_next blocks mode m item.event n h.0 run.1).0, orderly_next blocks mode m item.event n h.0 h.1 run.1) run.2

nothing_at : {A : Type 0} (k : ℕ) (x : A) → slice_get [] k ≡ Some x → ⊥
nothing_at k x h = cc

rests : (n i : ℕ) (s : Session) → slice_get (replicate n at_rest) i ≡ Some s → at_rest ≡ s
rests zero i s h = cc
rests (suc n) zero s h = same_Some at_rest s h
rests (suc n) (suc i) s h = rests n i s h

orderly_opening : (blocks : Blocks) (count : ℕ) → IsOrderly blocks (opening count)
orderly_opening blocks count =
    record {
      known = record {
        numbered = λ n k at. absurd (nothing_at n (Committed k) at);
        writes = λ p w at. absurd (nothing_at p w at);
        tables = λ k x at. absurd (nothing_at k x at);
        drops = λ k x at. absurd (nothing_at k x at);
      };
      behind = λ i s at p w there its. absurd (nothing_at p w there);
      idle = λ i s at e. ap (λ (x : Session). x.statement) (sym (rests (count + 1) i s at));
      turning = λ i s place stmt at due ok. ap (λ (x : Session). x.statement) (sym (rests (count + 1) i s at));
    }

pub orderly_run : (blocks : Blocks) (count : ℕ) (mode : Mode) (items : List HistItem) (m : Machine) → count ≤ MOST_SESSIONS → Run blocks mode (opening count) items m → SoundAndOrderly blocks m
orderly_run blocks count mode items m few run = orderly_on blocks mode (opening count) items m (sound_opening count few, orderly_opening blocks count) run
