-- A session that is in a block was given it, and no item since ended it.
use Rattle.std.proofs.Common.{◌≡◌, ◌≢◌, refl, sym, ◌∙◌, ap, subst, ⊎_elim, Bool, true, false, ◌&&◌, ◌||◌, ◌==◌, ℕ, zero, suc, ◌+◌, List, [], ◌∷◌, ◌++◌, length, set, replicate, append_assoc, append-nil}
use Rattle.std.specs.Prelude.{Option, Some, None, is_some, is_none, nat_lt, slice_get, Ok, if◌then◌else◌}
use Rattle.std.specs.List.{list_any}
use Rattle.std.proofs.lemmas.Bool.{cases_eq, eqb-true}
use Rattle.std.proofs.lemmas.Option.{slice_get_within}
use Rattle.std.proofs.lemmas.List.Folds.{list_any-append}
use Rattle.session_machine.specs.declared.session.Place.{Place}
use Rattle.session_machine.specs.declared.session.Progress.{Progress}
use Rattle.session_machine.specs.declared.session.Session.{Session}
use Rattle.session_machine.specs.declared.event.Event.{Event}
use Rattle.session_machine.specs.declared.event.Event.TheVariants.{Launch, Step, Leave}
use Rattle.session_machine.specs.declared.event.Mode.{Mode}
use Rattle.session_machine.specs.declared.fault.Refusal.TheVariants.{Busy, NotYourTurn, BlockNotAllowed}
use Rattle.session_machine.specs.declared.reply.HistItem.{HistItem}
use Rattle.session_machine.specs.Statements.{Effect}
use Rattle.session_machine.specs.Running.{run_stmt}
use Rattle.session_machine.specs.Machine.{Machine, Blocks, Next, next, opening, at_rest, stmts_of, leaves, is_failed, closed_at_end, after_stmt, session_of, Run}
use Rattle.session_machine.specs.Inner.Steps.{launch_of, step_of, leave_of, around, first_place}
use Rattle.session_laws.proofs.Lists.{slice_get-set_same, slice_get-set_other}
use Rattle.wait_laws.proofs.Events.{session_there, ok_is, ok_else, stepped}
use Rattle.report_lines.specs.Starts.{ends_in}
use Rattle.history_laws.specs.Unfinished.{IsUnfinished}
use Rattle.history_laws.specs.Laws.{BusySessionsWereLaunched}

-- what an event makes of its session, and whether that ends its block
pub record Turned (m : Machine) (i : ℕ) (n : Next) : Type 0 where
  pub u : Session
  pub is : n.machine.sessions ≡ set m.sessions i u
  pub ended : n.reply.ended ≡ is_none u.place

turned_leaves : (m : Machine) (i : ℕ) (d : Effect) (statement : Option Progress) (place : Option Place) → Turned m i (leaves m i d statement place)
turned_leaves m i d statement place = record { u = record { place = place; transaction = d.transaction; statement = statement }; is = refl; ended = refl }

turned_stmt : (m : Machine) (i : ℕ) (place : Place) (count : ℕ) (d : Effect) → Turned m i (after_stmt m i place count d)
turned_stmt m i place count d = at (is_some d.statement) where
  goes : (b : Bool) → (let y : Next = if b then leaves m i d None (Some (record { block = place.block; next = place.next + 1 })) else leaves m i (closed_at_end d d.transaction) None None in Turned m i y)
  goes true = turned_leaves m i d None (Some (record { block = place.block; next = place.next + 1 }))
  goes false = turned_leaves m i (closed_at_end d d.transaction) None None

  fails : (b : Bool) → (let y : Next = if b then leaves m i d None None else if nat_lt (place.next + 1) count then leaves m i d None (Some (record { block = place.block; next = place.next + 1 }))
      else leaves m i (closed_at_end d d.transaction) None None in Turned m i y)
  fails true = turned_leaves m i d None None
  fails false = goes (nat_lt (place.next + 1) count)

  at : (b : Bool) → (let y : Next = if b then leaves m i d d.statement (Some place) else if is_failed d.outcome then leaves m i d None None
      else if nat_lt (place.next + 1) count then leaves m i d None (Some (record { block = place.block; next = place.next + 1 })) else leaves m i (closed_at_end d d.transaction) None None in Turned m i y)
  at true = turned_leaves m i d d.statement (Some place)
  at false = fails (is_failed d.outcome)

pub turned : (given : Blocks) (mode : Mode) (m : Machine) (event : Event) (s : Session) (n : Next) → slice_get m.sessions (session_of event) ≡ Some s → next given mode m event ≡ Ok n → Turned m (session_of event) n
turned given mode m (Launch i block) s n at h =
    let f = subst (λ o. launch_of given mode m i block o ≡ Ok n) at h in
    let a = ok_else BlockNotAllowed _ _ n f in
    let b = ok_else Busy _ _ n a.1 in
    let c = ok_else NotYourTurn _ _ n b.1 in
    let is = ok_is _ n c.1 in
    record {
      u = record { place = first_place block (stmts_of given block); transaction = s.transaction; statement = None };
      is = ap (λ (y : Next). y.machine.sessions) is;
      ended = ap (λ (y : Next). y.reply.ended) is;
    }
turned given mode m (Leave i) s n at h =
    let f = subst (λ o. leave_of mode m i o ≡ Ok n) at h in
    let c = ok_else NotYourTurn _ _ n f in
    let is = ok_is _ n c.1 in
    record { u = at_rest; is = ap (λ (y : Next). y.machine.sessions) is; ended = ap (λ (y : Next). y.reply.ended) is }
turned given mode m (Step i) s n at h =
    let k = stepped given mode m i s n (subst (λ o. step_of given mode m i o ≡ Ok n) at h) in
    subst (Turned m i) (sym k.is) (turned_stmt m i k.place (length (stmts_of given k.place.block)) (run_stmt m.db s.transaction s.statement (around m i s) k.stmt))

same_session : (s u : Session) → Some s ≡ Some u → s ≡ u
same_session s u h = cc

-- the session afterwards, and whether its block ended
its_end : (m : Machine) (i : ℕ) (s v : Session) (n : Next) → slice_get m.sessions i ≡ Some s → (t : Turned m i n) → slice_get n.machine.sessions i ≡ Some v → t.u ≡ v
its_end m i s v n at t there =
    same_session t.u v (sym (ap (λ (ss : List Session). slice_get ss i) t.is ∙ slice_get-set_same m.sessions i t.u (slice_get_within m.sessions i s at)) ∙ there)

others_stay : (m : Machine) (i k : ℕ) (v : Session) (n : Next) → Turned m i n → k ≢ i → slice_get n.machine.sessions k ≡ Some v → slice_get m.sessions k ≡ Some v
others_stay m i k v n t ne there = sym (ap (λ (ss : List Session). slice_get ss k) t.is ∙ slice_get-set_other m.sessions i k t.u ne) ∙ there

not_same : (a b : ℕ) → (a ≡ b → ⊥) → (a == b) ≡ false
not_same a b h = by (a == b) refl where
  by : (c : Bool) → (a == b) ≡ c → c ≡ false
  by true e = absurd (h (eqb-true a b e))
  by false e = refl

-- ---- items

or_none : (b c : Bool) → b ≡ false → c ≡ false → (b || (c || false)) ≡ false
or_none true c h k = h
or_none false true h k = k
or_none false false h k = refl

goes_on : (front : List HistItem) (item : HistItem) (k : ℕ) → ends_in k item ≡ false → IsUnfinished front k → IsUnfinished (front ++ item ∷ []) k
goes_on front item k no_end u = record {
  before = u.before;
  launched = u.launched;
  behind = u.behind ++ item ∷ [];
  parts = ap (λ (w : List HistItem). w ++ item ∷ []) u.parts ∙ append_assoc u.before (u.launched ∷ u.behind) (item ∷ []);
  block = u.block;
  given = u.given;
  since = list_any-append (ends_in k) (u.launched ∷ u.behind) (item ∷ []) ∙ or_none (list_any (ends_in k) (u.launched ∷ u.behind)) (ends_in k item) u.since no_end;
}

begins : (front : List HistItem) (item : HistItem) (k block : ℕ) → item.event ≡ Launch k block → ends_in k item ≡ false → IsUnfinished (front ++ item ∷ []) k
begins front item k block is no_end = record {
  before = front;
  launched = item;
  behind = [];
  parts = refl;
  block = block;
  given = is;
  since = or_none false (ends_in k item) refl no_end;
}

and_none : (b c : Bool) → c ≡ false → (b && c) ≡ false
and_none true c h = h
and_none false c h = refl

busy_not_none : (o : Option Place) → is_some o ≡ true → is_none o ≡ false
busy_not_none None h = cc
busy_not_none (Some p) h = refl

-- ---- events

leave_ends : (mode : Mode) (m : Machine) (i : ℕ) (s : Session) (n : Next) → leave_of mode m i (Some s) ≡ Ok n → n.reply.ended ≡ true
leave_ends mode m i s n f =
    let c = ok_else NotYourTurn _ _ n f in
    let is = ok_is _ n c.1 in
    ap (λ (y : Next). y.reply.ended) is

-- of each session that is in a block
abbrev Holds : Machine → List HistItem → Type 0
Holds m front = (k : ℕ) (s : Session) → slice_get m.sessions k ≡ Some s → is_some s.place ≡ true → IsUnfinished front k

-- it is in a block after its event
mine : (given : Blocks) (mode : Mode) (m : Machine) (event : Event) (s v : Session) (n : Next) (front : List HistItem) → slice_get m.sessions (session_of event) ≡ Some s → next given mode m event ≡ Ok n
    → (t : Turned m (session_of event) n) → t.u ≡ v → is_some v.place ≡ true → Holds m front → IsUnfinished (front ++ record { event = event; reply = n.reply } ∷ []) (session_of event)
mine given mode m event s v n front at h t is busy old = by event at h (and_none (session_of event == session_of event) n.reply.ended ended) where
  ended : n.reply.ended ≡ false
  ended = t.ended ∙ (ap (λ (u : Session). is_none u.place) is ∙ busy_not_none v.place busy)

  rests : (i : ℕ) → leave_of mode m i (Some s) ≡ Ok n → ⊥
  rests i f = neither (sym (leave_ends mode m i s n f) ∙ ended) where
    neither : true ≡ false → ⊥
    neither x = cc

  by : (e : Event) → slice_get m.sessions (session_of e) ≡ Some s → next given mode m e ≡ Ok n → ends_in (session_of e) (record { event = e; reply = n.reply }) ≡ false
      → IsUnfinished (front ++ record { event = e; reply = n.reply } ∷ []) (session_of e)
  by (Launch i block) at h no_end = begins front (record { event = Launch i block; reply = n.reply }) i block refl no_end
  by (Step i) at h no_end =
      let k = stepped given mode m i s n (subst (λ o. step_of given mode m i o ≡ Ok n) at h) in
      goes_on front (record { event = Step i; reply = n.reply }) i no_end (old i s at (ap (λ (o : Option Place). is_some o) k.there))
  by (Leave i) at h no_end = absurd (rests i (subst (λ o. leave_of mode m i o ≡ Ok n) at h))

busy_next : (given : Blocks) (mode : Mode) (m : Machine) (event : Event) (n : Next) (front : List HistItem) → next given mode m event ≡ Ok n → Holds m front
    → Holds n.machine (front ++ record { event = event; reply = n.reply } ∷ [])
busy_next given mode m event n front h old k v there busy =
    let i = session_of event in
    let found = session_there given mode m event n h in
    let t = turned given mode m event found.0 n found.1 h in
    let item : HistItem = record { event = event; reply = n.reply } in
    ⊎_elim
    (λ (same : k ≡ i).
    let there' : slice_get n.machine.sessions i ≡ Some v = subst (λ j. slice_get n.machine.sessions j ≡ Some v) same there in
    subst (IsUnfinished (front ++ item ∷ [])) (sym same)
    (mine given mode m event found.0 v n front found.1 h t (its_end m i found.0 v n found.1 t there') busy old))
    (λ (ne : k ≢ i).
    goes_on front item k (ap (λ b. b && n.reply.ended) (not_same i k (λ e. ne (sym e)))) (old k v (others_stay m i k v n t ne there) busy))
    (cases_eq k i)

busy_run : (given : Blocks) (mode : Mode) (items : List HistItem) (m after : Machine) (front : List HistItem) → Holds m front → Run given mode m items after → Holds after (front ++ items)
busy_run given mode [] m after front old run k v there busy =
    subst (λ (w : List HistItem). IsUnfinished w k) (sym (append-nil front)) (old k v (subst (λ (x : Machine). slice_get x.sessions k ≡ Some v) run there) busy)
busy_run given mode (item ∷ items) m after front old run k v there busy =
    subst (λ (w : List HistItem). IsUnfinished w k) (append_assoc front (item ∷ []) items)
    (busy_run given mode items run.0 after (front ++ item ∷ []) (busy_next given mode m item.event (record { machine = run.0; reply = item.reply }) front run.1 old) run.2 k v there busy)

-- nobody is in a block at the opening
rest_at : (count k : ℕ) (s : Session) → slice_get (replicate count at_rest) k ≡ Some s → is_some s.place ≡ true → ⊥
rest_at zero k s h busy = none s h where
  none : (u : Session) → None ≡ Some u → ⊥
  none u e = cc
rest_at (suc count) zero s h busy = idle (ap (λ (u : Session). is_some u.place) (same_session at_rest s h) ∙ busy) where
  idle : false ≡ true → ⊥
  idle e = cc
rest_at (suc count) (suc k) s h busy = rest_at count k s h busy

pub busy_sessions_were_launched : BusySessionsWereLaunched
busy_sessions_were_launched given mode count items m run =
    busy_run given mode items (opening count) m [] (λ k s h busy. absurd (rest_at (count + 1) k s h busy)) run
