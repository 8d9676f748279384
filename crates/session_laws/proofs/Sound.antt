-- What holds of every state keeps holding.
use Rattle.std.proofs.Common.{◌≡◌, ℕ, zero, suc, ◌≤◌, ◌<◌, ◌+◌, Bool, true, false, List, [], length, length-set, set, replicate, refl, ap, sym, le_refl, ◌∙◌, subst, arith, ⊎_elim, inl}
use Rattle.std.specs.Prelude.{Option, Some, None, is_some, slice_get, Result, Ok, Err, not, ◌&&◌, if◌then◌else◌, nat_lt}
use Rattle.std.proofs.lemmas.Bool.{cases_eq}
use Rattle.std.proofs.lemmas.List.{length-replicate}
use Rattle.std.proofs.lemmas.Option.{slice_get_within}
use Rattle.iso_lexer.specs.declared.limits.TheConstants.{MOST_SESSIONS}
use Rattle.sql_trees.specs.Statements.{StmtTree}
use Rattle.row_versions.specs.declared.write.Write.{Write}
use Rattle.row_versions.specs.declared.write.Fate.TheVariants.{RolledBack, Open as OpenFate}
use Rattle.row_versions.specs.Log.{Content, IsOpen, after_commit}
use Rattle.session_machine.specs.declared.session.Place.{Place}
use Rattle.session_machine.specs.declared.session.OpenTransaction.{OpenTransaction}
use Rattle.session_machine.specs.declared.session.Transaction.{Transaction}
use Rattle.session_machine.specs.declared.session.Transaction.TheVariants.{Closed, Open, Aborted}
use Rattle.session_machine.specs.declared.session.Progress.{Progress}
use Rattle.session_machine.specs.declared.session.Session.{Session}
use Rattle.session_machine.specs.declared.event.Event.{Event}
use Rattle.session_machine.specs.declared.event.Event.TheVariants.{Launch, Step, Leave}
use Rattle.session_machine.specs.declared.event.Mode.{Mode}
use Rattle.session_machine.specs.declared.reply.Outcome.TheVariants.{Left}
use Rattle.session_machine.specs.declared.fault.Refusal.{Refusal}
use Rattle.session_machine.specs.declared.fault.Refusal.TheVariants.{Busy, NotYourTurn, StillBlocked, BlockNotAllowed}
use Rattle.session_machine.specs.Tables.{Database}
use Rattle.session_machine.specs.Transactions.{committed}
use Rattle.session_machine.specs.Statements.{Effect}
use Rattle.session_machine.specs.Running.{run_stmt}
use Rattle.session_machine.specs.Machine.{Machine, Blocks, Next, next, with_session, at_rest, opening, stmts_of, may_launch, is_directed, is_quiet, turn_in, is_failed, after_stmt, closed_at_end}
use Rattle.session_machine.specs.Waits.{is_still_blocked}
use Rattle.session_machine.specs.Inner.Steps.{after_launch, launch_of, step_of, step_from_place, step_stmt, leave_of, after_block_end, waits_there, finished, around, is_turn, left_behind, first_place, is_busy}
use Rattle.session_machine.specs.Sound.{IsSound, IsSoundMachine, StaysSound, tx_in, tx_of, command_in, command_of, progress_of}
use Rattle.session_laws.proofs.Lists.{slice_get-set_same, slice_get-set_other}
use Rattle.session_laws.proofs.Effects.{IsFirm}
use Rattle.session_laws.proofs.Keeping.{IsLive, Leaves, Leaving, leaves, leaving-run, keeps-ended, kept-none, none_some}

-- the transaction of a session is open
pub sound_open : (db : Database) (ss : List Session) (events i : ℕ) (s : Session) (t : OpenTransaction) → IsSound db ss events → slice_get ss i ≡ Some s → s.transaction ≡ Open t
    → IsOpen db.content t.tx
sound_open db ss events i s t sound at is = sound.opened i t.tx.0 (ap tx_of at ∙ ap tx_in is)

-- and has had at most as many queries as there were events
pub sound_few : (db : Database) (ss : List Session) (events i : ℕ) (s : Session) (t : OpenTransaction) → IsSound db ss events → slice_get ss i ≡ Some s → s.transaction ≡ Open t
    → t.command ≤ events
sound_few db ss events i s t sound at is = subst (λ n. n ≤ events) (ap command_of at ∙ ap command_in is) (sound.few i)

pub sound_live : (db : Database) (ss : List Session) (events i : ℕ) (s : Session) → IsSound db ss events → slice_get ss i ≡ Some s → IsLive db.content s.transaction
sound_live db ss events i s sound at n h = sound.opened i n (ap tx_of at ∙ h)

pub sound_firm : (db : Database) (ss : List Session) (events : ℕ) → IsSound db ss events → IsFirm db
sound_firm db ss events sound = record { fit = sound.fit; stay = sound.stay }

pub sound_within : (db : Database) (ss : List Session) (events i : ℕ) (s : Session) → IsSound db ss events → slice_get ss i ≡ Some s
    → (p : Progress) → s.statement ≡ Some p → p.table.0 < length db.catalog.tables
sound_within db ss events i s sound at p e = sound.within i p (ap progress_of at ∙ e)

-- a session changes as a statement may change it
pub sound_set : (db e : Database) (ss : List Session) (events i : ℕ) (s u : Session) → IsSound db ss events → slice_get ss i ≡ Some s
    → Leaves db.content s.transaction e.content u.transaction → IsFirm e → length db.catalog.tables ≤ length e.catalog.tables
    → ((p : Progress) → u.statement ≡ Some p → p.table.0 < length e.catalog.tables) → ((p : Progress) → u.statement ≡ Some p → p.wait.number < events + 1) → IsSound e (set ss i u) (events + 1)
sound_set db e ss events i s u sound at left firm longer there_in now_before =
    record { opened = opened; apart = apart; small = rw length-set sound.small; few = few; fit = firm.fit; stay = firm.stay; within = within; before = before } where
      here : slice_get (set ss i u) i ≡ Some u
      here = slice_get-set_same ss i u (slice_get_within ss i s at)

      there : (j : ℕ) → (j ≡ i → ⊥) → slice_get (set ss i u) j ≡ slice_get ss j
      there j ne = slice_get-set_other ss i j u ne

      at_i : (n : ℕ) → tx_of (slice_get (set ss i u) i) ≡ Some n → tx_in u.transaction ≡ Some n
      at_i n h = ap tx_of (sym here) ∙ h

      not_mine : (j n : ℕ) → (j ≡ i → ⊥) → tx_of (slice_get ss j) ≡ Some n → tx_in s.transaction ≡ Some n → ⊥
      not_mine j n ne h k = ne (sound.apart j i n h (ap tx_of at ∙ k))

      opened : (j n : ℕ) → tx_of (slice_get (set ss i u) j) ≡ Some n → slice_get e.content.fates n ≡ Some OpenFate
      opened j n h =
          ⊎_elim
          (λ x. left.own n (at_i n (subst (λ k. tx_of (slice_get (set ss i u) k) ≡ Some n) x h)))
          (λ ne. let k : tx_of (slice_get ss j) ≡ Some n = ap tx_of (sym (there j ne)) ∙ h in left.others n (not_mine j n ne k) (sound.opened j n k))
          (cases_eq j i)

      mixed : (j n : ℕ) → (j ≡ i → ⊥) → tx_in u.transaction ≡ Some n → tx_of (slice_get (set ss i u) j) ≡ Some n → ⊥
      mixed j n ne h k =
          let o : tx_of (slice_get ss j) ≡ Some n = ap tx_of (sym (there j ne)) ∙ k in
          ⊎_elim (not_mine j n ne o)
          (λ (x : n ≡ length db.content.fates). let w = slice_get_within db.content.fates n OpenFate (sound.opened j n o) in let z : ⊥ = omega arith in z) (left.same_or_new n h)

      apart : (j k n : ℕ) → tx_of (slice_get (set ss i u) j) ≡ Some n → tx_of (slice_get (set ss i u) k) ≡ Some n → j ≡ k
      apart j k n h l =
          ⊎_elim
          (λ x. ⊎_elim (λ f. x ∙ sym f)
          (λ nf. absurd (mixed k n nf (at_i n (subst (λ y. tx_of (slice_get (set ss i u) y) ≡ Some n) x h)) l))
          (cases_eq k i))
          (λ ne. ⊎_elim
          (λ f. absurd (mixed j n ne (at_i n (subst (λ y. tx_of (slice_get (set ss i u) y) ≡ Some n) f l)) h))
          (λ nf. sound.apart j k n (ap tx_of (sym (there j ne)) ∙ h) (ap tx_of (sym (there k nf)) ∙ l))
          (cases_eq k i))
          (cases_eq j i)

      few : (j : ℕ) → command_of (slice_get (set ss i u) j) ≤ events + 1
      few j =
          ⊎_elim
          (λ x. let f : command_in s.transaction ≤ events = subst (λ n. n ≤ events) (ap command_of at) (sound.few i) in
          let g : command_of (slice_get (set ss i u) j) ≡ command_in u.transaction = ap (λ y. command_of (slice_get (set ss i u) y)) x ∙ ap command_of here in
          let k = left.command in omega arith)
          (λ ne. let g : command_of (slice_get (set ss i u) j) ≡ command_of (slice_get ss j) = ap command_of (there j ne) in
          let k = sound.few j in omega arith)
          (cases_eq j i)

      of_u : (j : ℕ) (p : Progress) → j ≡ i → progress_of (slice_get (set ss i u) j) ≡ Some p → u.statement ≡ Some p
      of_u j p x h = ap progress_of (sym here) ∙ (ap (λ y. progress_of (slice_get (set ss i u) y)) (sym x) ∙ h)

      within : (j : ℕ) (p : Progress) → progress_of (slice_get (set ss i u) j) ≡ Some p → p.table.0 < length e.catalog.tables
      within j p h =
          ⊎_elim (λ x. there_in p (of_u j p x h))
          (λ ne. let l = sound.within j p (ap progress_of (sym (there j ne)) ∙ h) in omega arith)
          (cases_eq j i)

      before : (j : ℕ) (p : Progress) → progress_of (slice_get (set ss i u) j) ≡ Some p → p.wait.number < events + 1
      before j p h =
          ⊎_elim (λ x. now_before p (of_u j p x h))
          (λ ne. let l = sound.before j p (ap progress_of (sym (there j ne)) ∙ h) in omega arith)
          (cases_eq j i)

no_progress : {A : Type 0} (p : Progress) → None ≡ Some p → A
no_progress p h = absurd (let z : ⊥ = cc in z)

same : (c : Content) (t : Transaction) → IsLive c t → Leaves c t c t
same c t live = record { own = live; others = λ n ne h. h; same_or_new = λ n h. inl h; command = omega arith }

-- what is left after a statement ends with its block
then_ended : (c : Content) (t : Transaction) (d : Content) (u : OpenTransaction) → Leaves c t d (Open u) → Leaves c t (after_commit d u.tx) Closed
then_ended c t d u left =
    record {
      own = λ n h. absurd (none_some h);
      others = λ n ne h. slice_get-set_other d.fates u.tx.0 n _ (apart n ne h) ∙ left.others n ne h;
      same_or_new = λ n h. absurd (none_some h);
      command = omega arith;
    } where
      apart : (n : ℕ) → (tx_in t ≡ Some n → ⊥) → slice_get c.fates n ≡ Some OpenFate → n ≡ u.tx.0 → ⊥
      apart n ne h e =
          ⊎_elim ne (λ (f : n ≡ length c.fates). let w = slice_get_within c.fates n OpenFate h in let z : ⊥ = omega arith in z)
          (left.same_or_new n (ap Some (sym e)))

-- the end of a block leaves what its last statement left
pub left-ended : (db : Database) (t : Transaction) (number : ℕ) (d : Effect) (u : Transaction) → d.transaction ≡ u → Leaving db t number d → Leaving db t number (closed_at_end d u)
left-ended db t number d Closed e h = h
left-ended db t number d Aborted e h = h
left-ended db t number d (Open u) e h = at_test u.explicit where
  closes : Effect
  closes = record { db = committed d.db u.tx; transaction = Closed; statement = None; outcome = d.outcome }

  at_test : (b : Bool) → Leaving db t number (if b then d else closes)
  at_test true = h
  at_test false = (
    then_ended db.content t d.db.content u (subst (Leaves db.content t d.db.content) e h.0),
    record { firm = record { fit = h.1.firm.fit; stay = h.1.firm.stay }; longer = h.1.longer; within = λ p e. no_progress p e; now = λ p e. no_progress p e },
  )

-- an answer that is no refusal
pub if_ok : (b : Bool) (f : Refusal) (r : Result Next Refusal) (n : Next) → (if b then Err f else r) ≡ Ok n → r ≡ Ok n
if_ok true f r n h = cc
if_ok false f r n h = h

abbrev ok_next : Next → Result Next Refusal
ok_next n = Ok n

ok_at : {n m : Next} → ok_next n ≡ ok_next m → n ≡ m
ok_at h = cc

-- an event leads to a state that is sound, with one event more
abbrev SoundNext : Machine → Next → Type 0
SoundNext m n = IsSoundMachine n.machine × (n.machine.events ≡ m.events + 1)

sound_if : (m : Machine) (b : Bool) (x y : Next) → SoundNext m x → SoundNext m y → SoundNext m (if b then x else y)
sound_if m true x y h k = h
sound_if m false x y h k = k

-- a statement is over, and its session stands at the place
sound_finished : (m : Machine) (i : ℕ) (s : Session) (d : Effect) (place : Option Place) → IsSoundMachine m → slice_get m.sessions i ≡ Some s
    → Leaving m.db s.transaction m.events d → SoundNext m (finished m i d place)
sound_finished m i s d place sound at left = (
  sound_set m.db d.db m.sessions m.events i s (record { place = place; transaction = d.transaction; statement = None }) sound at left.0 left.1.firm left.1.longer
      (λ p e. no_progress p e) (λ p e. no_progress p e),
  refl,
)

sound_waits : (m : Machine) (i : ℕ) (s : Session) (place : Place) (d : Effect) → IsSoundMachine m → slice_get m.sessions i ≡ Some s
    → Leaving m.db s.transaction m.events d → SoundNext m (waits_there m i place d)
sound_waits m i s place d sound at left = (
  sound_set m.db d.db m.sessions m.events i s (record { place = Some place; transaction = d.transaction; statement = d.statement }) sound at left.0 left.1.firm left.1.longer
      left.1.within (λ p e. let z = left.1.now p e in omega arith),
  refl,
)

sound_end : (m : Machine) (i : ℕ) (s : Session) (place : Place) (count : ℕ) (d : Effect) → IsSoundMachine m → slice_get m.sessions i ≡ Some s
    → Leaving m.db s.transaction m.events d → SoundNext m (after_block_end m i place count d)
sound_end m i s place count d sound at left =
    sound_if m (is_failed d.outcome) (finished m i d None) _
    (sound_finished m i s d None sound at left)
    (sound_if m (nat_lt (place.next + 1) count) (finished m i d (Some (record { block = place.block; next = place.next + 1 }))) (finished m i (closed_at_end d d.transaction) None)
    (sound_finished m i s d (Some (record { block = place.block; next = place.next + 1 })) sound at left)
    (sound_finished m i s (closed_at_end d d.transaction) None sound at (left-ended m.db s.transaction m.events d d.transaction refl left)))

sound_after : (m : Machine) (i : ℕ) (s : Session) (place : Place) (count : ℕ) (d : Effect) → IsSoundMachine m → slice_get m.sessions i ≡ Some s
    → Leaving m.db s.transaction m.events d → SoundNext m (after_stmt m i place count d)
sound_after m i s place count d sound at left =
    sound_if m (is_some d.statement) (waits_there m i place d) (after_block_end m i place count d) (sound_waits m i s place d sound at left) (sound_end m i s place count d sound at left)

leaves_left : (db : Database) (t : Transaction) → Leaves db.content t (left_behind db t).content Closed
leaves_left db Closed = leaves _ _ _ _ (kept-none db.content Closed Closed refl refl)
leaves_left db Aborted = leaves _ _ _ _ (kept-none db.content Aborted Closed refl refl)
leaves_left db (Open t) = leaves _ _ _ _ (keeps-ended db.content t RolledBack Closed refl refl)

firm_left : (db : Database) (t : Transaction) → IsFirm db → IsFirm (left_behind db t)
firm_left db Closed f = f
firm_left db Aborted f = f
firm_left db (Open t) f = record { fit = f.fit; stay = f.stay }

longer_left : (db : Database) (t : Transaction) → length db.catalog.tables ≤ length (left_behind db t).catalog.tables
longer_left db Closed = le_refl _
longer_left db Aborted = le_refl _
longer_left db (Open t) = le_refl _

-- what an event that isn't refused leads to
pub ok_launch : (blocks : Blocks) (mode : Mode) (m : Machine) (i block : ℕ) (s : Session) (n : Next) → launch_of blocks mode m i block (Some s) ≡ Ok n
    → after_launch m i s (first_place block (stmts_of blocks block)) ≡ n
ok_launch blocks mode m i block s n h =
    ok_at (if_ok (is_directed mode && not (is_quiet m)) NotYourTurn (ok_next (after_launch m i s (first_place block (stmts_of blocks block)))) n
    (if_ok (is_busy s) Busy _ n (if_ok (not (may_launch blocks i block)) BlockNotAllowed _ n h)))

-- what the session's next statement, which begins or goes on, does
abbrev pub ran : Machine → ℕ → Session → StmtTree → Effect
ran m i s stmt = run_stmt m.db s.transaction s.statement (around m i s) stmt

pub ok_step : (mode : Mode) (m : Machine) (i : ℕ) (s : Session) (place : Place) (count : ℕ) (stmt : StmtTree) (n : Next) → step_stmt mode m i s place count (Some stmt) ≡ Ok n
    → after_stmt m i place count (ran m i s stmt) ≡ n
ok_step mode m i s place count stmt n h =
    ok_at (if_ok (is_still_blocked m.db s) StillBlocked (ok_next (after_stmt m i place count (ran m i s stmt))) n
    (if_ok (is_directed mode && not (is_turn (turn_in m) i)) NotYourTurn _ n h))

abbrev pub left_by : Machine → ℕ → Session → Next
left_by m i s = record { machine = with_session m (left_behind m.db s.transaction) i at_rest; reply = record { outcome = Left; ended = true } }

pub ok_leave : (mode : Mode) (m : Machine) (i : ℕ) (s : Session) (n : Next) → leave_of mode m i (Some s) ≡ Ok n → left_by m i s ≡ n
ok_leave mode m i s n h = ok_at (if_ok (is_directed mode && not (is_quiet m)) NotYourTurn (ok_next (left_by m i s)) n h)

-- what a session's statement leaves
pub sound_ran : (m : Machine) (i : ℕ) (s : Session) (stmt : StmtTree) → IsSoundMachine m → slice_get m.sessions i ≡ Some s → Leaving m.db s.transaction m.events (ran m i s stmt)
sound_ran m i s stmt sound at =
    leaving-run m.db s.transaction s.statement (around m i s) stmt (sound_live m.db m.sessions m.events i s sound at) (sound_firm m.db m.sessions m.events sound)
    (sound_within m.db m.sessions m.events i s sound at)

-- what holds of a machine holds after each event that isn't refused
pub sound_next : (blocks : Blocks) (mode : Mode) (m : Machine) (event : Event) (n : Next) → IsSoundMachine m → next blocks mode m event ≡ Ok n → SoundNext m n
sound_next blocks mode m (Launch i block) n sound h = at_launch (slice_get m.sessions i) refl h where
  at_launch : (o : Option Session) → slice_get m.sessions i ≡ o → launch_of blocks mode m i block o ≡ Ok n → SoundNext m n
  at_launch None e h = cc
  at_launch (Some s) e h =
      let place = first_place block (stmts_of blocks block) in
      subst (SoundNext m) (ok_launch blocks mode m i block s n h) (
        sound_set m.db m.db m.sessions m.events i s (record { place = place; transaction = s.transaction; statement = None }) sound e
            (same m.db.content s.transaction (sound_live _ _ m.events i s sound e)) (sound_firm _ _ m.events sound) (le_refl _) (λ p e. no_progress p e) (λ p e. no_progress p e),
        refl,
      )
sound_next blocks mode m (Step i) n sound h = at_step (slice_get m.sessions i) refl h where
  at_stmt : (s : Session) (place : Place) (count : ℕ) (o : Option StmtTree) → slice_get m.sessions i ≡ Some s → step_stmt mode m i s place count o ≡ Ok n → SoundNext m n
  at_stmt s place count None e h = cc
  at_stmt s place count (Some stmt) e h =
      subst (SoundNext m) (ok_step mode m i s place count stmt n h) (sound_after m i s place count (ran m i s stmt) sound e (sound_ran m i s stmt sound e))

  at_place : (s : Session) (o : Option Place) → slice_get m.sessions i ≡ Some s → step_from_place blocks mode m i s o ≡ Ok n → SoundNext m n
  at_place s None e h = cc
  at_place s (Some place) e h = at_stmt s place (length (stmts_of blocks place.block)) (slice_get (stmts_of blocks place.block) place.next) e h

  at_step : (o : Option Session) → slice_get m.sessions i ≡ o → step_of blocks mode m i o ≡ Ok n → SoundNext m n
  at_step None e h = cc
  at_step (Some s) e h = at_place s s.place e h
sound_next blocks mode m (Leave i) n sound h = at_leave (slice_get m.sessions i) refl h where
  at_leave : (o : Option Session) → slice_get m.sessions i ≡ o → leave_of mode m i o ≡ Ok n → SoundNext m n
  at_leave None e h = cc
  at_leave (Some s) e h =
      subst (SoundNext m) (ok_leave mode m i s n h) (
        sound_set m.db (left_behind m.db s.transaction) m.sessions m.events i s at_rest sound e (leaves_left m.db s.transaction) (firm_left m.db s.transaction (sound_firm _ _ m.events sound))
            (longer_left m.db s.transaction) (λ p e. no_progress p e) (λ p e. no_progress p e),
        refl,
      )

-- the state that is first
no_tx : (n i : ℕ) → tx_of (slice_get (replicate n at_rest) i) ≡ None
no_tx zero i = refl
no_tx (suc n) zero = refl
no_tx (suc n) (suc i) = no_tx n i

no_command : (n i : ℕ) → command_of (slice_get (replicate n at_rest) i) ≡ 0
no_command zero i = refl
no_command (suc n) zero = refl
no_command (suc n) (suc i) = no_command n i

no_statement : (n i : ℕ) → progress_of (slice_get (replicate n at_rest) i) ≡ None
no_statement zero i = refl
no_statement (suc n) zero = refl
no_statement (suc n) (suc i) = no_statement n i

no_write : (place : ℕ) (w : Write) → slice_get [] place ≡ Some w → ⊥
no_write place w h = cc

pub sound_opening : (count : ℕ) → count ≤ MOST_SESSIONS → IsSoundMachine (opening count)
sound_opening count few =
    record {
      opened = λ i n h. absurd (none_some (sym (no_tx (count + 1) i) ∙ h));
      apart = λ i j n h k. absurd (none_some (sym (no_tx (count + 1) i) ∙ h));
      small = let long : length (replicate (count + 1) at_rest) ≡ count + 1 = length-replicate (count + 1) at_rest in omega arith;
      few = λ i. omega (arith, no_command (count + 1) i);
      fit = λ place w values there its. absurd (no_write place w there);
      stay = λ place w there. absurd (no_write place w there);
      within = λ i p e. no_progress p (sym (no_statement (count + 1) i) ∙ e);
      before = λ i p e. no_progress p (sym (no_statement (count + 1) i) ∙ e);
    }

pub stays_sound : StaysSound
stays_sound = record { opens = sound_opening; goes_on = sound_next }
