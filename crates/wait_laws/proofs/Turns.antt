-- The step of the session whose turn it is is taken.
use Rattle.std.proofs.Common.{◌≡◌, refl, sym, ◌∙◌, ap, subst, ◌⊎◌, inl, inr, ⊎_elim, Bool, true, false, not, ◌&&◌, ℕ, zero, suc, ◌+◌, ◌<◌, List, [], ◌∷◌, length, set, replicate, arith}
use Rattle.std.specs.Prelude.{Option, Some, None, is_some, is_none, nat_le, nat_lt, option_map, slice_get, Result, Ok, Err, if◌then◌else◌}
use Rattle.std.specs.List.{list_all, position_from}
use Rattle.std.specs.Option.{option_map_or, option_or}
use Rattle.std.proofs.lemmas.Bool.{cases_eq, eq-eqb, ltb-true}
use Rattle.std.proofs.lemmas.Option.{slice_get_within}
use Rattle.row_locks.proofs.Cases.{and_both}
use Rattle.sql_trees.specs.Statements.{StmtTree}
use Rattle.session_machine.specs.declared.session.Place.{Place}
use Rattle.session_machine.specs.declared.session.Progress.{Progress}
use Rattle.session_machine.specs.declared.session.Session.{Session}
use Rattle.session_machine.specs.declared.session.Transaction.{Transaction}
use Rattle.session_machine.specs.declared.session.Transaction.TheVariants.{Closed, Open, Aborted}
use Rattle.session_machine.specs.declared.session.Waiting.{Waiting}
use Rattle.session_machine.specs.declared.event.Event.{Event}
use Rattle.session_machine.specs.declared.event.Event.TheVariants.{Launch, Step, Leave}
use Rattle.session_machine.specs.declared.event.Mode.{Mode}
use Rattle.session_machine.specs.declared.event.Mode.TheVariants.{Directed, Free}
use Rattle.session_machine.specs.declared.fault.Refusal.{Refusal}
use Rattle.session_machine.specs.declared.fault.Refusal.TheVariants.{Busy, NotYourTurn, StillBlocked, BlockNotAllowed}
use Rattle.session_machine.specs.Tables.{Database}
use Rattle.session_machine.specs.Waits.{wait_of, is_still_blocked}
use Rattle.session_machine.specs.Statements.{Effect}
use Rattle.session_machine.specs.Running.{run_stmt}
use Rattle.session_machine.specs.Machine.{Machine, Blocks, Next, next, opening, at_rest, stmts_of, free_wait, is_first_free, turn_in, is_directed, is_failed, closed_at_end, after_stmt, session_of}
use Rattle.session_machine.specs.Inner.Steps.{launch_of, step_stmt, step_from_place, step_of, leave_of, is_stopped, finished, waits_there, after_block_end, is_ready, is_turn, around, first_place, is_busy}
use Rattle.wait_laws.specs.Laws.{Reaches}
use Rattle.session_laws.proofs.Lists.{slice_get-set_same, slice_get-set_other}
use Rattle.wait_laws.proofs.Events.{session_there, ok_is, ok_else, stepped, always}

-- the session stands at a statement of its block, if it has one, and has one where it waits
pub record IsPlaced (given : Blocks) (s : Session) : Type 0 where
  pub within : (p : Place) → s.place ≡ Some p → p.next < length (stmts_of given p.block)
  pub busy : (g : Progress) → s.statement ≡ Some g → is_busy s ≡ true

abbrev pub ArePlaced : Blocks → Machine → Type 0
ArePlaced given m = (i : ℕ) (s : Session) → slice_get m.sessions i ≡ Some s → IsPlaced given s

no_place : (p : Place) → None ≡ Some p → ⊥
no_place p h = cc

no_progress : (p : Progress) → None ≡ Some p → ⊥
no_progress p h = cc

same_place : (p q : Place) → Some p ≡ Some q → p ≡ q
same_place p q h = cc

same_session : (s u : Session) → Some s ≡ Some u → s ≡ u
same_session s u h = cc

-- how one session is placed after an event
record Becomes (given : Blocks) (m : Machine) (i : ℕ) (n : Next) : Type 0 where
  pub u : Session
  pub is : n.machine.sessions ≡ set m.sessions i u
  pub placed : IsPlaced given u

placed_over : (given : Blocks) (place : Option Place) (tr : Transaction) → ((p : Place) → place ≡ Some p → p.next < length (stmts_of given p.block))
    → IsPlaced given (record { place = place; transaction = tr; statement = None })
placed_over given place tr h = record { within = h; busy = λ g k. absurd (no_progress g k) }

at_place : (given : Blocks) (p : Place) → p.next < length (stmts_of given p.block) → (q : Place) → Some p ≡ Some q → q.next < length (stmts_of given q.block)
at_place given p h q e = subst (λ (y : Place). y.next < length (stmts_of given y.block)) (same_place p q e) h

becomes_after : (given : Blocks) (m : Machine) (i : ℕ) (place : Place) (d : Effect) → place.next < length (stmts_of given place.block)
    → Becomes given m i (after_stmt m i place (length (stmts_of given place.block)) d)
becomes_after given m i place d within = by (is_some d.statement) where
  none : (e : Effect) → Becomes given m i (finished m i e None)
  none e = record { u = record { place = None; transaction = e.transaction; statement = None }; is = refl; placed = placed_over given None e.transaction (λ p k. absurd (no_place p k)) }

  goes : (b : Bool) → nat_lt (place.next + 1) (length (stmts_of given place.block)) ≡ b
      → (let y : Next = if b then finished m i d (Some (record { block = place.block; next = place.next + 1 })) else finished m i (closed_at_end d d.transaction) None in Becomes given m i y)
  goes true e =
      let on : Place = record { block = place.block; next = place.next + 1 } in
      record { u = record { place = Some on; transaction = d.transaction; statement = None }; is = refl; placed = placed_over given (Some on) d.transaction (at_place given on (ltb-true _ _ e)) }
  goes false e = none (closed_at_end d d.transaction)

  failed : (b : Bool) → (let y : Next = if b then finished m i d None else if nat_lt (place.next + 1) (length (stmts_of given place.block)) then finished m i d (Some (record { block = place.block; next = place.next + 1 }))
      else finished m i (closed_at_end d d.transaction) None in Becomes given m i y)
  failed true = none d
  failed false = goes (nat_lt (place.next + 1) (length (stmts_of given place.block))) refl

  by : (b : Bool) → (let y : Next = if b then waits_there m i place d else after_block_end m i place (length (stmts_of given place.block)) d in Becomes given m i y)
  by true = record {
    u = record { place = Some place; transaction = d.transaction; statement = d.statement };
    is = refl;
    placed = record { within = at_place given place within; busy = λ g k. refl };
  }
  by false = failed (is_failed d.outcome)

first_within : (given : Blocks) (block : ℕ) (stmts : List StmtTree) → stmts_of given block ≡ stmts → (p : Place) → first_place block stmts ≡ Some p → p.next < length (stmts_of given p.block)
first_within given block [] e p h = absurd (no_place p h)
first_within given block (x ∷ xs) e p h =
    at_place given (record { block = block; next = 0 }) (subst (λ (ss : List StmtTree). 0 < length ss) (sym e) (omega arith)) p h

becomes : (given : Blocks) (mode : Mode) (m : Machine) (event : Event) (s : Session) (n : Next) → slice_get m.sessions (session_of event) ≡ Some s → next given mode m event ≡ Ok n
    → Becomes given m (session_of event) n
becomes given mode m (Launch i block) s n at h =
    let f = subst (λ o. launch_of given mode m i block o ≡ Ok n) at h in
    let a = ok_else BlockNotAllowed _ _ n f in
    let b = ok_else Busy _ _ n a.1 in
    let c = ok_else NotYourTurn _ _ n b.1 in
    record {
      u = record { place = first_place block (stmts_of given block); transaction = s.transaction; statement = None };
      is = ap (λ (y : Next). y.machine.sessions) (ok_is _ n c.1);
      placed = placed_over given (first_place block (stmts_of given block)) s.transaction (first_within given block (stmts_of given block) refl);
    }
becomes given mode m (Leave i) s n at h =
    let f = subst (λ o. leave_of mode m i o ≡ Ok n) at h in
    let c = ok_else NotYourTurn _ _ n f in
    record {
      u = at_rest;
      is = ap (λ (y : Next). y.machine.sessions) (ok_is _ n c.1);
      placed = placed_over given None at_rest.transaction (λ p k. absurd (no_place p k));
    }
becomes given mode m (Step i) s n at h =
    let k = stepped given mode m i s n (subst (λ o. step_of given mode m i o ≡ Ok n) at h) in
    subst (λ (y : Next). Becomes given m i y) (sym k.is)
    (becomes_after given m i k.place (run_stmt m.db s.transaction s.statement (around m i s) k.stmt) (slice_get_within (stmts_of given k.place.block) k.place.next k.stmt k.found))

placed_next : (given : Blocks) (mode : Mode) (m : Machine) (event : Event) (n : Next) → ArePlaced given m → next given mode m event ≡ Ok n → ArePlaced given n.machine
placed_next given mode m event n old h j v at =
    let there = session_there given mode m event n h in
    let i = session_of event in
    let b = becomes given mode m event there.0 n there.1 h in
    let at' : slice_get (set m.sessions i b.u) j ≡ Some v = subst (λ (ss : List Session). slice_get ss j ≡ Some v) b.is at in
    ⊎_elim
    (λ is. subst (IsPlaced given)
    (same_session b.u v (sym (ap (slice_get (set m.sessions i b.u)) is ∙ slice_get-set_same m.sessions i b.u (slice_get_within m.sessions i there.0 there.1)) ∙ at')) b.placed)
    (λ ne. old j v (sym (slice_get-set_other m.sessions i j b.u ne) ∙ at'))
    (cases_eq j i)

placed_rest : (given : Blocks) (count i : ℕ) (s : Session) → slice_get (replicate count at_rest) i ≡ Some s → IsPlaced given s
placed_rest given zero i s h = absurd (none s h) where
  none : (u : Session) → None ≡ Some u → ⊥
  none u k = cc
placed_rest given (suc count) zero s h = subst (IsPlaced given) (same_session at_rest s h) (placed_over given None at_rest.transaction (λ p k. absurd (no_place p k)))
placed_rest given (suc count) (suc i) s h = placed_rest given count i s h

-- whose turn it is can go on
record Able (db : Database) (ss : List Session) (j k : ℕ) : Type 0 where
  pub i : ℕ
  pub s : Session
  pub at : slice_get ss i ≡ Some s
  pub its : k ≡ j + i
  pub ready : (is_ready s ≡ true) ⊎ ((n : ℕ) × (free_wait db s ≡ Some n))

able_later : (db : Database) (s : Session) (ss : List Session) (j k : ℕ) → Able db ss (j + 1) k → Able db (s ∷ ss) j k
able_later db s ss j k a = let e = a.its in record { i = suc a.i; s = a.s; at = a.at; its = omega arith; ready = a.ready }

same_number : (a b : ℕ) → Some a ≡ Some b → a ≡ b
same_number a b h = cc

no_number : (a : ℕ) → None ≡ Some a → ⊥
no_number a h = cc

able_at : (db : Database) (p : Session → Bool) → ((s : Session) → p s ≡ true → (is_ready s ≡ true) ⊎ ((n : ℕ) × (free_wait db s ≡ Some n)))
    → (j : ℕ) (ss : List Session) (k : ℕ) → position_from p j ss ≡ Some k → Able db ss j k
able_at db p can j [] k h = absurd (no_number k h)
able_at db p can j (s ∷ ss) k h = by (p s) refl (λ f. able_at db p can (j + 1) ss k f) h where
  by : (b : Bool) → p s ≡ b → (position_from p (j + 1) ss ≡ Some k → Able db ss (j + 1) k) → (let o : Option ℕ = if b then Some j else position_from p (j + 1) ss in o ≡ Some k)
      → Able db (s ∷ ss) j k
  by true e on f = let same = same_number j k f in record { i = 0; s = s; at = refl; its = omega arith; ready = can s e }
  by false e on f = able_later db s ss j k (on f)

has_free : (db : Database) (ss : List Session) (s : Session) → is_first_free db ss s ≡ true → (n : ℕ) × (free_wait db s ≡ Some n)
has_free db ss s h = by (free_wait db s) refl h where
  by : (o : Option ℕ) → free_wait db s ≡ o → option_map_or (λ n. list_all (λ (u : Session). option_map_or (nat_le n) (free_wait db u) true) ss) o false ≡ true
      → (n : ℕ) × (free_wait db s ≡ Some n)
  by None e f = cc
  by (Some n) e f = (n, e)

able_turn : (m : Machine) (k : ℕ) → turn_in m ≡ Some k → Able m.db m.sessions 0 k
able_turn m k h = by (position_from is_ready 0 m.sessions) refl h where
  by : (o : Option ℕ) → position_from is_ready 0 m.sessions ≡ o → option_or o (position_from (is_first_free m.db m.sessions) 0 m.sessions) ≡ Some k → Able m.db m.sessions 0 k
  by None e f = able_at m.db (is_first_free m.db m.sessions) (λ s t. inr (has_free m.db m.sessions s t)) 0 m.sessions k f
  by (Some r) e f = able_at m.db is_ready (λ s t. inl t) 0 m.sessions k (e ∙ f)

-- it stands in its block, and isn't blocked
record CanGoOn (db : Database) (s : Session) : Type 0 where
  pub busy : is_busy s ≡ true
  pub free : is_still_blocked db s ≡ false

not_stopped : (db : Database) (tr : Transaction) (o : Option Waiting) → is_none o ≡ true → is_stopped db tr o ≡ false
not_stopped db Closed o h = refl
not_stopped db Aborted o h = refl
not_stopped db (Open t) None h = refl
not_stopped db (Open t) (Some w) h = cc

can_go_on : (given : Blocks) (db : Database) (s : Session) → IsPlaced given s → (is_ready s ≡ true) ⊎ ((n : ℕ) × (free_wait db s ≡ Some n)) → CanGoOn db s
can_go_on given db s placed (inl r) =
    let p = and_both (is_busy s) (is_none (wait_of s)) r in
    record { busy = p.0; free = not_stopped db s.transaction (wait_of s) p.1 }
can_go_on given db s placed (inr f) = by (is_still_blocked db s) refl f.1 where
  at : (o : Option Progress) → s.statement ≡ o → option_map (λ (w : Waiting). w.number) (option_map (λ (g : Progress). g.wait) o) ≡ Some f.0 → is_busy s ≡ true
  at None e k = absurd (no_number f.0 k)
  at (Some g) e k = placed.busy g e

  by : (b : Bool) → is_still_blocked db s ≡ b → (let o : Option ℕ = if b then None else option_map (λ (w : Waiting). w.number) (wait_of s) in o ≡ Some f.0) → CanGoOn db s
  by true e k = absurd (no_number f.0 k)
  by false e k = record { busy = at s.statement refl k; free = e }

get_there : (xs : List StmtTree) (i : ℕ) → i < length xs → (x : StmtTree) × (slice_get xs i ≡ Some x)
get_there [] i h = absurd (omega arith)
get_there (x ∷ xs) zero h = (x, refl)
get_there (x ∷ xs) (suc i) h = get_there xs i (omega arith)

ok_taken : (b c : Bool) (n : Next) → b ≡ false → c ≡ false → (let y : Result Next Refusal = if b then Err NotYourTurn else if c then Err StillBlocked else Ok n in y ≡ Ok n)
ok_taken true c n h k = cc
ok_taken false true n h k = cc
ok_taken false false n h k = refl

its_turn : (mode : Mode) (o : Option ℕ) (k : ℕ) → o ≡ Some k → (is_directed mode && not (is_turn o k)) ≡ false
its_turn Free o k h = refl
its_turn Directed o k h = ap (λ (y : Option ℕ). not (is_turn y k)) h ∙ ap not (eq-eqb k k refl)

pub in_turn : (given : Blocks) (mode : Mode) (count : ℕ) (m : Machine) → Reaches given mode count m → (k : ℕ) → turn_in m ≡ Some k → (n : Next) × (next given mode m (Step k) ≡ Ok n)
in_turn given mode count m reached k turn =
    let placed = always (ArePlaced given) given mode (placed_next given mode) reached.0 (opening count) m (λ i s h. placed_rest given (count + 1) i s h) reached.1 in
    let a = able_turn m k turn in
    let its = a.its in
    let same : a.i ≡ k = omega arith in
    let at : slice_get m.sessions k ≡ Some a.s = subst (λ i. slice_get m.sessions i ≡ Some a.s) same a.at in
    let p = placed k a.s at in
    let go = can_go_on given m.db a.s p a.ready in
    by a.s at p go a.s.place refl where
      by : (s : Session) → slice_get m.sessions k ≡ Some s → IsPlaced given s → CanGoOn m.db s → (o : Option Place) → s.place ≡ o → (n : Next) × (next given mode m (Step k) ≡ Ok n)
      by s at p go None e = absurd (idle (ap (λ (y : Option Place). is_some y) (sym e) ∙ go.busy)) where
        idle : false ≡ true → ⊥
        idle f = cc
      by s at p go (Some place) e =
          let found = get_there (stmts_of given place.block) place.next (p.within place e) in
          let many = length (stmts_of given place.block) in
          let n = after_stmt m k place many (run_stmt m.db s.transaction s.statement (around m k s) found.0) in
          let taken : step_stmt mode m k s place many (Some found.0) ≡ Ok n =
          ok_taken (is_directed mode && not (is_turn (turn_in m) k)) (is_still_blocked m.db s) n (its_turn mode (turn_in m) k turn) go.free in
          (n, ap (λ o. step_of given mode m k o) at ∙ (ap (λ o. step_from_place given mode m k s o) e ∙ (ap (λ o. step_stmt mode m k s place many o) found.1 ∙ taken)))
