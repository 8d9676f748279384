-- Each step comes nearer to rest.
use Rattle.std.proofs.Common.{◌≡◌, refl, sym, ◌∙◌, ap, subst, ◌⊎◌, inl, inr, Bool, true, false, not, ◌&&◌, ℕ, ◌+◌, ◌-◌, ◌*◌, ◌<◌, ◌≤◌, List, [], ◌∷◌, length, length-set, set, sum_by, arith}
use Rattle.std.specs.Prelude.{Option, Some, None, is_some, nat_lt, option_map, slice_get, Ok, if◌then◌else◌}
use Rattle.std.proofs.lemmas.Bool.{ltb-true}
use Rattle.std.proofs.lemmas.Option.{slice_get_within}
use Rattle.std.proofs.lemmas.Nat.{mul-add-lt}
use Rattle.std.proofs.Math.Nat.{mul_comm}
use Rattle.sql_trees.specs.declared.stmt.Strength.TheVariants.{Update}
use Rattle.row_versions.specs.declared.names.TxId.{TxId}
use Rattle.row_versions.specs.declared.write.Write.{Write}
use Rattle.row_versions.specs.declared.write.Fate.TheVariants.{Open as OpenFate}
use Rattle.row_versions.specs.Log.{IsOpen, after_begin, after_write}
use Rattle.row_versions.proofs.Gets.{get-append_last}
use Rattle.row_locks.specs.declared.held.Held.{Held}
use Rattle.row_versions.specs.Members.{has, is_none_of}
use Rattle.row_locks.specs.Held.{with_lock}
use Rattle.row_locks.specs.Inner.Searching.{is_against}
use Rattle.row_locks.proofs.Against.{some_are_against}
use Rattle.row_locks.proofs.Cases.{or_left, and_both, both_and}
use Rattle.std.specs.List.{list_any}
use Rattle.std.proofs.lemmas.List.Folds.{list_any-append}
use Rattle.session_machine.specs.declared.session.OpenTransaction.{OpenTransaction}
use Rattle.session_machine.specs.declared.session.Place.{Place}
use Rattle.session_machine.specs.declared.session.Request.{Request}
use Rattle.session_machine.specs.declared.session.Request.TheVariants.{Row, Key}
use Rattle.session_machine.specs.declared.session.Transaction.{Transaction}
use Rattle.session_machine.specs.declared.session.Transaction.TheVariants.{Closed, Open, Aborted}
use Rattle.session_machine.specs.declared.session.Progress.{Progress}
use Rattle.session_machine.specs.declared.session.Session.{Session}
use Rattle.session_machine.specs.declared.session.Waiting.{Waiting as Wait}
use Rattle.session_machine.specs.declared.event.Event.{Event}
use Rattle.session_machine.specs.declared.event.Event.TheVariants.{Step}
use Rattle.session_machine.specs.declared.event.Mode.{Mode}
use Rattle.session_machine.specs.declared.reply.HistItem.{HistItem}
use Rattle.session_machine.specs.Tables.{Catalog, Database}
use Rattle.session_machine.specs.Inner.Statements.{begun}
use Rattle.session_machine.specs.Waits.{is_blocked, wait_of, is_still_blocked}
use Rattle.session_machine.specs.Statements.{Effect}
use Rattle.session_machine.specs.Inner.Pieces.{with_table, with_drop}
use Rattle.session_machine.specs.Running.{run_stmt}
use Rattle.session_machine.specs.Machine.{Machine, Blocks, Next, next, stmts_of, is_failed, closed_at_end, after_stmt, session_of, Run}
use Rattle.session_machine.specs.Inner.Steps.{step_of, is_stopped, finished, waits_there, after_block_end, around, is_busy}
use Rattle.session_machine.specs.Sound.{command_in, tx_in, tx_of}
use Rattle.wait_laws.specs.Laws.{lock_of_write, left_from, left_of, statements_left, can_step, able, IsNearerRest, AreSteps, RestIsReached}
use Rattle.wait_laws.proofs.Counting.{sum_set, count_set, count_most}
use Rattle.wait_laws.proofs.Doing.{Keeps, Ran, Idles, doer, start, does_stmt}
use Rattle.wait_laws.proofs.Events.{session_there, Stepped, stepped, moved}
use Rattle.wait_laws.proofs.KeyBlockers.{AllBegun, blocking, more_begun, more_written, some_has, some_of}
use Rattle.wait_laws.proofs.Cycles.{IsOrderly, allows_all, orderly_next, orderly_there}
use Rattle.wait_laws.proofs.Turns.{in_turn}

-- what was blocked is blocked
abbrev Blocked_still : Database → Database → Type 0
Blocked_still db e = (r : Request) (tx : TxId) → is_blocked db r tx ≡ true → is_blocked e r tx ≡ true

-- while the transaction is at work it is open
record BlockedBy (x : TxId) (db e : Database) : Type 0 where
  pub mine : IsOpen e.content x
  pub still : Blocked_still db e

blocked_more : (d : Database) (h : Held) (r : Request) (tx : TxId) → is_blocked d r tx ≡ true → is_blocked (record d { held = with_lock d.held h }) r tx ≡ true
blocked_more d h (Row row strength) tx e =
    sym (some_are_against (with_lock d.held h) row tx strength)
    ∙ (list_any-append (is_against row tx strength) d.held (h ∷ [])
    ∙ or_left (list_any (is_against row tx strength) d.held) (list_any (is_against row tx strength) (h ∷ [])) (some_are_against d.held row tx strength ∙ e))
blocked_more d h (Key k) tx e = e

-- a list of blockers that has all of another's has some where that has
blocked_has : (bs cs : List TxId) → ((u : TxId) → has bs u ≡ true → has cs u ≡ true) → not (is_none_of bs) ≡ true → not (is_none_of cs) ≡ true
blocked_has bs cs more h = let u = some_has bs h in some_of cs u.0 (more u.0 u.1)

blocked_written : (d : Database) (w : Write) → IsOpen d.content w.tx → (r : Request) (tx : TxId) → is_blocked d r tx ≡ true → is_blocked (record d { content = after_write d.content w }) r tx ≡ true
blocked_written d w is_open (Row row strength) tx e = e
blocked_written d w is_open (Key k) tx e = blocked_has (blocking d.content k tx) (blocking (after_write d.content w) k tx) (λ u h. more_written d.content w k tx u is_open h) e

blocked_begun : (d : Database) → AllBegun d.content → (r : Request) (tx : TxId) → is_blocked d r tx ≡ true → is_blocked (begun d) r tx ≡ true
blocked_begun d known (Row row strength) tx e = e
blocked_begun d known (Key k) tx e = blocked_has (blocking d.content k tx) (blocking (after_begin d.content) k tx) (λ u h. more_begun d.content k tx u known h) e

blocked_same : (d : Database) (catalog : Catalog) → Blocked_still d (record d { catalog = catalog })
blocked_same d catalog (Row row strength) tx h = h
blocked_same d catalog (Key k) tx h = h

still_keeps : (x : TxId) (n : ℕ) (db : Database) → Keeps x n (BlockedBy x db) (λ d. Unit {0})
still_keeps x n db = record {
  lock = λ d h own may p. record { mine = p.mine; still = λ r tx e. blocked_more d h r tx (p.still r tx e) };
  insert = λ d w own now made p. record {
    mine = p.mine;
    still = λ r tx e. blocked_more (record d { content = after_write d.content w }) (lock_of_write Update w) r tx (blocked_written d w (subst (IsOpen d.content) (sym own) p.mine) r tx (p.still r tx e));
  };
  write = λ d w strength own now enough held p. record { mine = p.mine; still = λ r tx e. blocked_written d w (subst (IsOpen d.content) (sym own) p.mine) r tx (p.still r tx e) };
  create = λ d made p. record { mine = p.mine; still = λ r tx e. blocked_same d (with_table d.catalog made x) r tx (p.still r tx e) };
  drop = λ d k p. record { mine = p.mine; still = λ r tx e. blocked_same d (with_drop d.catalog k x) r tx (p.still r tx e) };
  commit = λ d p. tt;
  roll_back = λ d p. tt;
  rest = λ d p. tt;
}

still_start : (db : Database) (tr : Transaction) → AllBegun db.content → ((n : ℕ) → tx_in tr ≡ Some n → slice_get db.content.fates n ≡ Some OpenFate) → BlockedBy (doer db tr) db (start db tr)
still_start db Closed known opened = record { mine = get-append_last db.content.fates OpenFate; still = blocked_begun db known }
still_start db Aborted known opened = record { mine = get-append_last db.content.fates OpenFate; still = blocked_begun db known }
still_start db (Open t) known opened = record { mine = opened t.tx.0 refl; still = λ r tx e. e }

-- a session that can step could before
could : (db e : Database) → Blocked_still db e → (v : Session) → can_step e v ≡ true → can_step db v ≡ true
could db e still v h =
    let p = and_both (is_busy v) (not (is_still_blocked e v)) h in
    both_and (is_busy v) (not (is_still_blocked db v)) p.0 (back v.transaction (wait_of v) p.1) where
      flip : (b c : Bool) → (c ≡ true → b ≡ true) → not b ≡ true → not c ≡ true
      flip true c f k = cc
      flip false true f k = let z = f refl in cc
      flip false false f k = refl

      back : (tr : Transaction) (o : Option Wait) → not (is_stopped e tr o) ≡ true → not (is_stopped db tr o) ≡ true
      back Closed o k = refl
      back Aborted o k = refl
      back (Open t) None k = refl
      back (Open t) (Some w) k = flip (is_blocked e w.request t.tx) (is_blocked db w.request t.tx) (still w.request t.tx) k

-- after a statement that is over fewer are left to the session
record Ends (given : Blocks) (m : Machine) (i : ℕ) (left : ℕ) (n : Next) : Type 0 where
  pub u : Session
  pub is : n.machine.sessions ≡ set m.sessions i u
  pub fewer : left_of given u < left

ends : (given : Blocks) (m : Machine) (i : ℕ) (place : Place) (d : Effect) → place.next < length (stmts_of given place.block)
    → Ends given m i (length (stmts_of given place.block) - place.next) (after_block_end m i place (length (stmts_of given place.block)) d)
ends given m i place d within = failed (is_failed d.outcome) where
  none : (e : Effect) → Ends given m i (length (stmts_of given place.block) - place.next) (finished m i e None)
  none e = record { u = record { place = None; transaction = e.transaction; statement = None }; is = refl; fewer = omega arith }

  goes : (b : Bool) → nat_lt (place.next + 1) (length (stmts_of given place.block)) ≡ b
      → (let y : Next = if b then finished m i d (Some (record { block = place.block; next = place.next + 1 })) else finished m i (closed_at_end d d.transaction) None in
      Ends given m i (length (stmts_of given place.block) - place.next) y)
  goes true e = let l = ltb-true _ _ e in
      record { u = record { place = Some (record { block = place.block; next = place.next + 1 }); transaction = d.transaction; statement = None }; is = refl; fewer = omega arith }
  goes false e = none (closed_at_end d d.transaction)

  failed : (b : Bool) → (let y : Next = if b then finished m i d None else if nat_lt (place.next + 1) (length (stmts_of given place.block)) then finished m i d (Some (record { block = place.block; next = place.next + 1 }))
      else finished m i (closed_at_end d d.transaction) None in Ends given m i (length (stmts_of given place.block) - place.next) y)
  failed true = none d
  failed false = goes (nat_lt (place.next + 1) (length (stmts_of given place.block))) refl

no_progress : (p : Progress) → None ≡ Some p → ⊥
no_progress p h = cc

not_true : (b : Bool) → b ≡ true → not b ≡ false
not_true true h = refl
not_true false h = cc

true_not : (b : Bool) → b ≡ false → not b ≡ true
true_not true h = cc
true_not false h = refl

-- who waits can't step
stuck : (e : Database) (u : Session) (t : OpenTransaction) (p : Progress) → u.transaction ≡ Open t → u.statement ≡ Some p → is_blocked e p.wait.request t.tx ≡ true → can_step e u ≡ false
stuck e u t p is at h =
    let k : is_still_blocked e u ≡ true = subst (λ (tr : Transaction). is_stopped e tr (wait_of u) ≡ true) (sym is)
    (subst (λ (o : Option Progress). is_stopped e (Open t) (option_map (λ (q : Progress). q.wait) o) ≡ true) (sym at) h) in
    never (is_busy u) (not (is_still_blocked e u)) (not_true (is_still_blocked e u) k) where
      never : (b c : Bool) → c ≡ false → (b && c) ≡ false
      never true c f = f
      never false c f = refl

nearer : (given : Blocks) (mode : Mode) (m : Machine) (i : ℕ) (n : Next) → IsOrderly m → next given mode m (Step i) ≡ Ok n → IsNearerRest given m n.machine
nearer given mode m i n old h =
    let there = session_there given mode m (Step i) n h in
    let s = there.0 in
    let k = stepped given mode m i s n (subst (λ o. step_of given mode m i o ≡ Ok n) there.1 h) in
    subst (λ (y : Next). IsNearerRest given m y.machine) (sym k.is) (by s there.1 k (run_stmt m.db s.transaction s.statement (around m i s) k.stmt)
    (does_stmt (BlockedBy (doer m.db s.transaction) m.db) (λ d. Unit {0}) (λ v. Unit {0}) m.db s.transaction s.statement (around m i s) k.stmt
    (still_keeps (doer m.db s.transaction) (command_in s.transaction) m.db) (allows_all m.db s.transaction s.statement) (still_start m.db s.transaction old.rows.known (λ q f. old.opened i q (ap tx_of there.1 ∙ f))))) where
      by : (s : Session) → slice_get m.sessions i ≡ Some s → (k : Stepped given m i s n) → (d : Effect)
          → Idles m.db s.transaction d ⊎ Ran (doer m.db s.transaction) (command_in s.transaction) (BlockedBy (doer m.db s.transaction) m.db) (λ d. Unit {0}) (λ v. Unit {0}) (around m i s).sessions d
          → IsNearerRest given m (after_stmt m i k.place (length (stmts_of given k.place.block)) d).machine
      by s at k d did = on d.statement refl where
        count : ℕ
        count = length (stmts_of given k.place.block)

        within : k.place.next < count
        within = slice_get_within (stmts_of given k.place.block) k.place.next k.stmt k.found

        left : left_of given s ≡ count - k.place.next
        left = ap (left_from given) k.there

        could_before : can_step m.db s ≡ true
        could_before = both_and (is_busy s) (not (is_still_blocked m.db s)) (ap (λ (o : Option Place). is_some o) k.there) (true_not (is_still_blocked m.db s) k.free)

        waited : (p : Progress) → d.statement ≡ Some p → IsNearerRest given m (waits_there m i k.place d).machine
        waited p is = elim did [
          | inl idle ↦ absurd (no_progress p (sym idle.over ∙ is))
          | inr r ↦
              let u : Session = record { place = Some k.place; transaction = d.transaction; statement = d.statement } in
              let w = r.waits p is in
              let own = r.own w.2.0 w.2.1 in
              let sums = sum_set (left_of given) m.sessions i s u at in
              let same : left_of given u ≡ left_of given s = sym left in
              inr (
                omega arith,
                count_set (can_step d.db) (can_step m.db) m.sessions i s u at (could m.db d.db own.1.still) could_before
                    (stuck d.db u w.2.0 p w.2.1 is (subst (λ (x : TxId). is_blocked d.db p.wait.request x ≡ true) (sym own.0) w.0.stopped)),
              )
        ]

        over : IsNearerRest given m (after_block_end m i k.place count d).machine
        over =
            let e = ends given m i k.place d within in
            let sums = sum_set (left_of given) m.sessions i s e.u at in
            let less = e.fewer in
            let l = left in
            let same : statements_left given (after_block_end m i k.place count d).machine ≡ sum_by (left_of given) (set m.sessions i e.u) = ap (λ (ss : List Session). sum_by (left_of given) ss) e.is in
            inl (omega arith)

        on : (o : Option Progress) → d.statement ≡ o → IsNearerRest given m (after_stmt m i k.place count d).machine
        on None is = subst (λ (o : Option Progress). IsNearerRest given m (let y : Next = if is_some o then waits_there m i k.place d else after_block_end m i k.place count d in y).machine) (sym is) over
        on (Some p) is = subst (λ (o : Option Progress). IsNearerRest given m (let y : Next = if is_some o then waits_there m i k.place d else after_block_end m i k.place count d in y).machine) (sym is) (waited p is)

-- no session comes or goes
same_sessions : (given : Blocks) (mode : Mode) (m : Machine) (event : Event) (n : Next) → next given mode m event ≡ Ok n → length n.machine.sessions ≡ length m.sessions
same_sessions given mode m event n h =
    let there = session_there given mode m event n h in
    let s = there.0 in
    let x = doer m.db s.transaction in
    let k = moved (λ d. Unit {0}) (λ d. Unit {0}) (λ v. Unit {0}) given mode m event s n there.1
    (record { lock = λ d h own may p. tt; insert = λ d w own now made p. tt; write = λ d w strength own now enough held p. tt; create = λ d made p. tt; drop = λ d k p. tt; commit = λ d p. tt; roll_back = λ d p. tt; rest = λ d p. tt })
    (allows_all m.db s.transaction s.statement) tt h in
    ap (λ (y : Machine). length y.sessions) k.is ∙ length-set m.sessions (session_of event) k.u

bounded : (given : Blocks) (mode : Mode) (m after : Machine) (items : List HistItem) → IsOrderly m → Run given mode m items after → AreSteps items
    → length items ≤ statements_left given m * (length m.sessions + 1) + able m
bounded given mode m after [] old run steps = omega arith
bounded given mode m after (item ∷ items) old run steps =
    let mid = run.0 in
    let n : Next = record { machine = mid; reply = item.reply } in
    let step : next given mode m (Step steps.0.0) ≡ Ok n = subst (λ (e : Event). next given mode m e ≡ Ok n) steps.0.1 run.1 in
    let long = same_sessions given mode m (Step steps.0.0) n step in
    let more = bounded given mode mid after items (orderly_next given mode m (Step steps.0.0) n old step) run.2 steps.1 in
    let rest : length items ≤ statements_left given mid * (length m.sessions + 1) + able mid = subst (λ k. length items ≤ statements_left given mid * (k + 1) + able mid) long more in
    let few : able mid ≤ length mid.sessions = count_most (can_step mid.db) mid.sessions in
    elim (nearer given mode m steps.0.0 n old step) [
      | inl less ↦
          let a = mul-add-lt (statements_left given mid) (length m.sessions + 1) (able mid) (statements_left given m) less (omega arith) in
          let b = mul_comm (length m.sessions + 1) (statements_left given m) in
          omega arith
      | inr same ↦
          let a : length items ≤ statements_left given m * (length m.sessions + 1) + able mid = subst (λ k. length items ≤ k * (length m.sessions + 1) + able mid) same.0 rest in
          let b = same.1 in
          omega arith
    ]

pub rest_is_reached : RestIsReached
rest_is_reached = record {
  nearer = λ given mode count m reached i n h. nearer given mode m i n (orderly_there given mode count m reached) h;
  bounded = λ given mode count m after items reached run steps. bounded given mode m after items (orderly_there given mode count m reached) run steps;
  in_turn = in_turn;
}
