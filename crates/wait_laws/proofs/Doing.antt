-- What a statement does, step by step: it takes locks, writes rows that it holds, makes and drops tables, and ends; and where it waits, its wait closes no cycle.
use Rattle.std.proofs.Common.{◌≡◌, refl, sym, ◌∙◌, ap, subst, ◌⊎◌, inl, inr, Bool, true, false, not, ◌||◌, ◌==◌, ℕ, zero, suc, ◌+◌, List, [], ◌∷◌, ◌++◌, set}
use Rattle.std.specs.Prelude.{ℤ, flat_map, Option, Some, None, drop, slice_get, unwrap_or, Result, Ok, Err, if◌then◌else◌}
use Rattle.std.specs.Option.{option_or}
use Rattle.std.proofs.lemmas.Bool.{eqb-true}
use Rattle.sql_trees.specs.declared.stmt.Level.{Level}
use Rattle.sql_trees.specs.declared.stmt.Level.TheVariants.{ReadCommitted, RepeatableRead}
use Rattle.sql_trees.specs.declared.stmt.Lock.{Lock}
use Rattle.sql_trees.specs.declared.stmt.Policy.{Policy}
use Rattle.sql_trees.specs.declared.stmt.Policy.TheVariants.{Wait, NoWait, SkipLocked}
use Rattle.sql_trees.specs.declared.stmt.Strength.{Strength}
use Rattle.sql_trees.specs.declared.stmt.Strength.TheVariants.{NoKeyUpdate, Update}
use Rattle.sql_trees.specs.Trees.{Tree}
use Rattle.sql_trees.specs.Statements.{StmtTree, ItemTree, KeyTree, CreateTree, InsertTree, UpdateTree, DeleteTree, SelectTree, Begin, Commit, Rollback, SetTransaction, SetDeadlockTimeout}
use Rattle.sql_values.specs.declared.value.Value.{Value}
use Rattle.sql_values.specs.declared.fault.ValueFault.{ValueFault}
use Rattle.query_results.specs.Results.{Results}
use Rattle.query_results.specs.Queries.{AssignedColumn, cols_of, new_values, returned_exprs, row_values, columns_assigned, undefined_among}
use Rattle.query_results.specs.Updates.{columns_set, update_exprs, updated}
use Rattle.row_versions.specs.declared.names.TxId.{TxId}
use Rattle.row_versions.specs.declared.names.RowId.{RowId}
use Rattle.row_versions.specs.declared.write.Write.{Write}
use Rattle.row_versions.specs.declared.write.View.{View}
use Rattle.row_versions.specs.declared.write.Seen.{Seen}
use Rattle.row_versions.specs.declared.write.Fate.{Fate}
use Rattle.row_versions.specs.declared.write.Fate.TheVariants.{RolledBack, Committed, Open as OpenFate}
use Rattle.row_versions.specs.Log.{Content, IsOpen, commit_count, next_tx, new_row, values_at, after_write, fate_of}
use Rattle.row_versions.specs.Newest.{newest_of}
use Rattle.row_versions.specs.Inner.Searching.{is_committed, is_version, newest_from}
use Rattle.row_versions.proofs.Last.{newest_is}
use Rattle.row_locks.specs.declared.held.Held.{Held}
use Rattle.row_locks.specs.Held.{holders_against, holds, with_lock}
use Rattle.row_versions.specs.Members.{is_none_of}
use Rattle.row_locks.specs.Cycles.{closes}
use Rattle.row_locks.proofs.Cases.{and_both}
use Rattle.unique_keys.specs.Checks.{KeyFound, KeyIsFree, KeyIsTaken, KeyIsHeld, found_by, key_found}
use Rattle.update_recheck.specs.Asked.{Asked}
use Rattle.update_recheck.specs.Outcome.{Version, Same, Gone, Newer, newest_version, version_at}
use Rattle.update_recheck.specs.Inner.Cases.{Holders, Nobody, Others, OthersInACycle, OthersAtNoWait, OthersSkipped, holders, is_locked, outcome}
use Rattle.update_recheck.proofs.Cases.{outcome_is, locked_is}
use Rattle.update_recheck.specs.Inner.Stopping.{holders_of, version_of}
use Rattle.update_recheck.specs.Settling.{lock_of, locks_after}
use Rattle.session_machine.specs.declared.session.OpenTransaction.{OpenTransaction}
use Rattle.session_machine.specs.declared.session.Transaction.{Transaction}
use Rattle.session_machine.specs.declared.session.Transaction.TheVariants.{Closed, Open, Aborted}
use Rattle.session_machine.specs.declared.session.Progress.{Progress}
use Rattle.session_machine.specs.declared.session.Session.{Session}
use Rattle.session_machine.specs.declared.session.Request.{Request}
use Rattle.session_machine.specs.declared.session.Request.TheVariants.{Row, Key}
use Rattle.session_machine.specs.declared.fault.StmtFault.{StmtFault}
use Rattle.session_machine.specs.declared.reply.Outcome.{Outcome as Reply}
use Rattle.session_machine.specs.declared.reply.Outcome.TheVariants.{Failed}
use Rattle.session_machine.specs.declared.fault.StmtFault.TheVariants.{Aborted as AbortedFault, Deadlock}
use Rattle.session_machine.specs.Tables.{Database, find_table}
use Rattle.session_machine.specs.Transactions.{committed, fresh, rolled_back, view_of}
use Rattle.session_machine.specs.Waits.{blockers, is_blocked, waits_in}
use Rattle.session_machine.specs.Sound.{command_in}
use Rattle.session_machine.specs.Statements.{Surroundings, Effect, fails, turns, level_set}
use Rattle.session_machine.specs.Walks.{Stop, Walk, Blocked, Fails}
use Rattle.session_machine.specs.AskedKeys.{AskedKey}
use Rattle.session_machine.specs.Rows.{Work, Meets, Stops, PassesOver, Putting, columns_in, cols_in, meet_key, inserted, update_strength, written, values_of}
use Rattle.session_machine.specs.Running.{run_stmt}
use Rattle.session_machine.specs.Inner.Statements.{run_piecewise, is_end, walked_from, keys_in, meet_keys, shows, put_insert, put_update, insert_one, ask, at_outcome, at_target, update_with, update_one, delete_with, delete_one, lock_with, lock_one, beginning, comes_to, after_walk, answer, insert_from, insert, assigned_to, update_from, update, delete_from, delete, lock_from, answered, select_rows, unless_wrong, select, run_open, run_closed, run_on, begun, Visit, goes_on, walked, create}
use Rattle.session_machine.specs.Targets.{asked_key, passing_targets, taken_targets, going_on}
use Rattle.session_machine.specs.Inner.Pieces.{drop_ended, unless_stopped, unless_met, unless_null, insert_made, update_made, shown_made, insert_fitting, insert_to, update_fitting, update_to, delete_fitting, select_in, select_found, run_first, with_table, with_drop, DroppedUpTo, dropped, dropped_at, meet_by}
use Rattle.session_machine.proofs.Piecewise.{meets_by, drops_by}
use Rattle.session_machine.proofs.ByKind.{runs_by_kind}
use Rattle.wait_laws.specs.Laws.{lets_write, lock_of_write}
use Rattle.wait_laws.proofs.KeyStops.{wait_not}
use Rattle.wait_laws.proofs.ByKind.{AtOnce, FromStart, FromPlace, by_kind, on_kind}
use Rattle.wait_laws.proofs.Lists.{holds_last}

-- a lock may be taken: nobody stands against it, and its row was written
pub record MayTake (d : Database) (h : Held) : Type 0 where
  pub free : is_none_of (holders_against d.held h.row h.tx h.strength) ≡ true
  pub place : ℕ
  pub write : Write
  pub there : slice_get d.content.log place ≡ Some write
  pub its : write.row.0 ≡ h.row.0

-- what a transaction may do, at this command of its, keeps the one while it runs, and leads to the other where it ends
pub record Keeps (x : TxId) (n : ℕ) (P Q : Database → Type 0) : Type 0 where
  pub lock : (d : Database) (h : Held) → h.tx ≡ x → MayTake d h → P d → P (record d { held = with_lock d.held h })
  pub insert : (d : Database) (w : Write) → w.tx ≡ x → w.command ≡ n → w.row ≡ new_row d.content → P d → P (record d { content = after_write d.content w; held = with_lock d.held (lock_of_write Update w) })
  pub write : (d : Database) (w : Write) (strength : Strength) → w.tx ≡ x → w.command ≡ n → lets_write strength w.values ≡ true → holds d.held (lock_of_write strength w) ≡ true → P d
      → P (record d { content = after_write d.content w })
  pub create : (d : Database) (made : CreateTree) → P d → P (record d { catalog = with_table d.catalog made x })
  pub drop : (d : Database) (k : ℕ) → P d → P (record d { catalog = with_drop d.catalog k x })
  pub commit : (d : Database) → P d → Q (committed d x)
  pub roll_back : (d : Database) → P d → Q (rolled_back d x)
  pub rest : (d : Database) → P d → Q d

-- the request is blocked, and a wait for its blockers closes no cycle
pub record Refused (x : TxId) (ss : List Session) (db : Database) (r : Request) : Type 0 where
  pub free : closes (waits_in db ss) x (blockers db r x) ≡ false
  pub stopped : is_blocked db r x ≡ true

-- where a walk has come to
pub record Comes (x : TxId) (P : Database → Type 0) (ss : List Session) (db : Database) (stop : Option Stop) : Type 0 where
  pub kept : P db
  pub blocked : (r : Request) → stop ≡ Some (Blocked r) → Refused x ss db r

-- what a statement left; where its session is in no transaction afterwards, its own is over
pub record Ran (x : TxId) (n : ℕ) (P Q : Database → Type 0) (V : View → Type 0) (ss : List Session) (d : Effect) : Type 0 where
  pub db : Q d.db
  pub own : (u : OpenTransaction) → d.transaction ≡ Open u → (u.tx ≡ x) × P d.db
  pub over : ((u : OpenTransaction) → d.transaction ≡ Open u → ⊥) → IsOpen d.db.content x → ⊥
  pub waits : (p : Progress) → d.statement ≡ Some p → Refused x ss d.db p.wait.request × V p.view × ((u : OpenTransaction) × (d.transaction ≡ Open u) × (u.command ≡ n))

goes_not : (s : StmtFault) (r : Request) → Some (Fails s) ≡ Some (Blocked r) → ⊥
goes_not s r h = cc

none_not : {A : Type 0} (a : A) → None ≡ Some a → ⊥
none_not a h = cc

same_request : (r q : Request) → Some (Blocked r) ≡ Some (Blocked q) → r ≡ q
same_request r q h = cc

comes_on : (x : TxId) (P : Database → Type 0) (ss : List Session) (db : Database) (rows : List (List Value)) → P db → Comes x P ss (goes_on db rows).db (goes_on db rows).stop
comes_on x P ss db rows p = record { kept = p; blocked = λ r h. absurd (none_not (Blocked r) h) }

comes_fails : (x : TxId) (P : Database → Type 0) (ss : List Session) (db : Database) (fault : StmtFault) → P db → Comes x P ss db (Some (Fails fault))
comes_fails x P ss db fault p = record { kept = p; blocked = λ r h. absurd (goes_not fault r h) }

comes_blocked : (x : TxId) (P : Database → Type 0) (ss : List Session) (db : Database) (request : Request) → P db → Refused x ss db request
    → Comes x P ss db (Some (Blocked request))
comes_blocked x P ss db request p k = record { kept = p; blocked = λ r h. subst (λ q. Refused x ss db q) (same_request request r h) k }

-- a walk keeps what each visit keeps
pub comes_walked : {A : Type 0} (x : TxId) (P : Database → Type 0) (ss : List Session) (visit : Database → A → Visit)
    → ((d : Database) (a : A) → P d → Comes x P ss (visit d a).db (visit d a).stop)
    → (db : Database) (place : ℕ) (rows : List (List Value)) (xs : List A) → P db
    → Comes x P ss (walked visit db place rows xs).db (walked visit db place rows xs).stop
comes_walked x P ss visit each db place rows [] p = record { kept = p; blocked = λ r h. absurd (none_not (Blocked r) h) }
comes_walked x P ss visit each db place rows (a ∷ more) p =
    let v = visit db a in
    let c = each db a p in
    behind v.stop refl (comes_walked x P ss visit each v.db (place + 1) (rows ++ v.rows) more c.kept) where
      behind : (o : Option Stop) → o ≡ (visit db a).stop → (let w = walked visit (visit db a).db (place + 1) (rows ++ (visit db a).rows) more in Comes x P ss w.db w.stop)
          → (let w = unless_stopped (visit db a) place rows o (walked visit (visit db a).db (place + 1) (rows ++ (visit db a).rows) more) in Comes x P ss w.db w.stop)
      behind None e k = k
      behind (Some stop) e k = subst (λ o. Comes x P ss (visit db a).db o) (sym e) (each db a p)

comes_from : {A : Type 0} (x : TxId) (P : Database → Type 0) (ss : List Session) (visit : Database → A → Visit)
    → ((d : Database) (a : A) → P d → Comes x P ss (visit d a).db (visit d a).stop)
    → (db : Database) (place : ℕ) (rows : List (List Value)) (targets : Result (List A) ValueFault) → P db
    → Comes x P ss (walked_from visit db place rows targets).db (walked_from visit db place rows targets).stop
comes_from x P ss visit each db place rows (Err fault) p = comes_fails x P ss db _ p
comes_from x P ss visit each db place rows (Ok targets) p = comes_walked x P ss visit each db place rows (drop place targets) p

-- who waits has blockers, and closes no cycle
others_say : (policy : Policy) (bs : List TxId) (closing : Bool) → holders_of policy bs closing ≡ Others → (closing ≡ false) × (not (is_none_of bs) ≡ true)
others_say policy [] closing h = cc
others_say Wait (b ∷ bs) true h = cc
others_say Wait (b ∷ bs) false h = (refl, refl)
others_say NoWait (b ∷ bs) closing h = cc
others_say SkipLocked (b ∷ bs) closing h = cc

-- where nobody holds a target none stands against it
nobody_says : (policy : Policy) (bs : List TxId) (closing : Bool) → holders_of policy bs closing ≡ Nobody → is_none_of bs ≡ true
nobody_says policy [] closing h = refl
nobody_says Wait (b ∷ bs) true h = cc
nobody_says Wait (b ∷ bs) false h = cc
nobody_says NoWait (b ∷ bs) closing h = cc
nobody_says SkipLocked (b ∷ bs) closing h = cc

-- where a row has a version it was written
record IsWritten (log : List Write) (row : RowId) : Type 0 where
  pub place : ℕ
  pub write : Write
  pub there : slice_get log place ≡ Some write
  pub its : write.row.0 ≡ row.0

newest_there : (c : Content) (row : RowId) (tx : TxId) (m : Seen) (place : ℕ) (log : List Write) → newest_from c.fates row tx place log ≡ Some m → IsWritten log row
newest_there c row tx m place [] h = absurd (none_not m h)
newest_there c row tx m place (w ∷ later) h = at (λ n. newest_there c row tx n (place + 1) later) (newest_from c.fates row tx (place + 1) later) refl (is_version c.fates row tx w) refl h where
  at : ((n : Seen) → newest_from c.fates row tx (place + 1) later ≡ Some n → IsWritten later row) → (o : Option Seen) → newest_from c.fates row tx (place + 1) later ≡ o
      → (b : Bool) → is_version c.fates row tx w ≡ b
      → (let last : Option Seen = if b then Some (record { row = row; place = place }) else None in option_or o last ≡ Some m) → IsWritten (w ∷ later) row
  at on (Some n) e b f k =
      let r = on n e in
      record { place = suc r.place; write = r.write; there = r.there; its = r.its }
  at on None e true f k =
      record { place = zero; write = w; there = refl; its = eqb-true w.row.0 row.0 (and_both (w.row.0 == row.0) (is_committed (fate_of c.fates w.tx) || (w.tx.0 == tx.0)) f).0 }
  at on None e false f k = absurd (none_not m k)

version_there : (c : Content) (a : Asked) → (newest_version c a ≡ Gone → ⊥) → IsWritten c.log a.seen.row
version_there c a is = by (newest_of c a.seen.row a.tx) refl is where
  by : (o : Option Seen) → newest_of c a.seen.row a.tx ≡ o → (version_of c a o ≡ Gone → ⊥) → IsWritten c.log a.seen.row
  by None e k = absurd (k refl)
  by (Some m) e k = newest_there c a.seen.row a.tx m 0 c.log (sym (newest_is c a.seen.row a.tx) ∙ e)

-- the newest version of a row is of the row
newest_row : (c : Content) (row : RowId) (tx : TxId) (m : Seen) → newest_of c row tx ≡ Some m → m.row ≡ row
newest_row c row tx m h = from 0 c.log (sym (newest_is c row tx) ∙ h) where
  at : (o : Option Seen) (b : Bool) (place : ℕ) → (o ≡ Some m → m.row ≡ row)
      → (let later : Option Seen = if b then Some (record { row = row; place = place }) else None in option_or o later ≡ Some m) → m.row ≡ row
  at (Some n) b place k e = k e
  at None true place k e = ap (λ (o : Option Seen). (unwrap_or o m).row) (sym e)
  at None false place k e = absurd (none_not m e)

  from : (place : ℕ) (log : List Write) → newest_from c.fates row tx place log ≡ Some m → m.row ≡ row
  from place [] e = absurd (none_not m e)
  from place (w ∷ later) e = at (newest_from c.fates row tx (place + 1) later) (is_version c.fates row tx w) place (from (place + 1) later) e

newer_row : (c : Content) (a : Asked) (m : Seen) (r : Result Bool ValueFault) → newest_version c a ≡ Newer m r → m.row ≡ a.seen.row
newer_row c a m r h = by (newest_of c a.seen.row a.tx) refl h where
  same_newer : (n : Seen) (s : Result Bool ValueFault) → Newer n s ≡ Newer m r → n ≡ m
  same_newer n s e = cc

  gone_not : Gone ≡ Newer m r → ⊥
  gone_not e = cc

  same_not : Same ≡ Newer m r → ⊥
  same_not e = cc

  by_place : (n : Seen) (b : Bool) (s : Result Bool ValueFault) → (let v : Version = if b then Same else Newer n s in v ≡ Newer m r) → n ≡ m
  by_place n true s e = absurd (same_not e)
  by_place n false s e = same_newer n s e

  by_values : (n : Seen) (o : Option (List Value)) → version_at a n o ≡ Newer m r → n ≡ m
  by_values n None e = absurd (gone_not e)
  by_values n (Some values) e = by_place n _ _ e

  by : (o : Option Seen) → o ≡ newest_of c a.seen.row a.tx → version_of c a o ≡ Newer m r → m.row ≡ a.seen.row
  by None e k = absurd (gone_not k)
  by (Some n) e k = newest_row c a.seen.row a.tx m (sym e ∙ ap Some (by_values n (values_at c n.place) k))

-- a target: what is done with a version of the row once its lock is held
at_case : (x : TxId) (P : Database → Type 0) (ss : List Session) (name : List ℕ) (act : Database → Seen → Visit) (db : Database) (a : Asked) (l : Level) (hs : Holders) (v : Version)
    → P db → (hs ≡ Nobody → (v ≡ Gone → ⊥) → P (record db { held = with_lock db.held (lock_of a) }))
    → ((d : Database) (seen : Seen) → P d → holds d.held (lock_of a) ≡ true → seen.row ≡ a.seen.row → Comes x P ss (act d seen).db (act d seen).stop)
    → (hs ≡ Others → Refused x ss db (Row a.seen.row a.strength))
    → ((m : Seen) (r : Result Bool ValueFault) → v ≡ Newer m r → m.row ≡ a.seen.row)
    → (let y = at_outcome name act (record db { held = locks_after (is_locked l hs v) db.held (lock_of a) }) a (outcome l a.seen hs v) in Comes x P ss y.db y.stop)
at_case x P ss name act db a ReadCommitted OthersInACycle v p q does refused named = comes_fails x P ss db _ p
at_case x P ss name act db a ReadCommitted Others v p q does refused named = comes_blocked x P ss db _ p (refused refl)
at_case x P ss name act db a ReadCommitted OthersAtNoWait v p q does refused named = comes_fails x P ss db _ p
at_case x P ss name act db a ReadCommitted OthersSkipped v p q does refused named = comes_on x P ss db [] p
at_case x P ss name act db a ReadCommitted Nobody Gone p q does refused named = comes_on x P ss db [] p
at_case x P ss name act db a ReadCommitted Nobody Same p q does refused named =
    does (record db { held = with_lock db.held (lock_of a) }) a.seen (q refl (λ e. cc)) (holds_last db.held (lock_of a)) refl
at_case x P ss name act db a ReadCommitted Nobody (Newer m (Ok true)) p q does refused named =
    does (record db { held = with_lock db.held (lock_of a) }) m (q refl (λ e. cc)) (holds_last db.held (lock_of a)) (named m (Ok true) refl)
at_case x P ss name act db a ReadCommitted Nobody (Newer m (Ok false)) p q does refused named = comes_on x P ss _ [] (q refl (λ e. cc))
at_case x P ss name act db a ReadCommitted Nobody (Newer m (Err fault)) p q does refused named = comes_fails x P ss _ _ (q refl (λ e. cc))
at_case x P ss name act db a RepeatableRead hs Gone p q does refused named = at_gone hs where
  at_gone : (h : Holders) → (let y = at_outcome name act (record db { held = locks_after (is_locked RepeatableRead h Gone) db.held (lock_of a) }) a (outcome RepeatableRead a.seen h Gone) in Comes x P ss y.db y.stop)
  at_gone Nobody = comes_fails x P ss db _ p
  at_gone Others = comes_fails x P ss db _ p
  at_gone OthersInACycle = comes_fails x P ss db _ p
  at_gone OthersAtNoWait = comes_fails x P ss db _ p
  at_gone OthersSkipped = comes_fails x P ss db _ p
at_case x P ss name act db a RepeatableRead hs (Newer m r) p q does refused named = at_newer hs where
  at_newer : (h : Holders) → (let y = at_outcome name act (record db { held = locks_after (is_locked RepeatableRead h (Newer m r)) db.held (lock_of a) }) a (outcome RepeatableRead a.seen h (Newer m r)) in Comes x P ss y.db y.stop)
  at_newer Nobody = comes_fails x P ss db _ p
  at_newer Others = comes_fails x P ss db _ p
  at_newer OthersInACycle = comes_fails x P ss db _ p
  at_newer OthersAtNoWait = comes_fails x P ss db _ p
  at_newer OthersSkipped = comes_fails x P ss db _ p
at_case x P ss name act db a RepeatableRead OthersInACycle Same p q does refused named = comes_fails x P ss db _ p
at_case x P ss name act db a RepeatableRead Others Same p q does refused named = comes_blocked x P ss db _ p (refused refl)
at_case x P ss name act db a RepeatableRead OthersAtNoWait Same p q does refused named = comes_fails x P ss db _ p
at_case x P ss name act db a RepeatableRead OthersSkipped Same p q does refused named = comes_on x P ss db [] p
at_case x P ss name act db a RepeatableRead Nobody Same p q does refused named =
    does (record db { held = with_lock db.held (lock_of a) }) a.seen (q refl (λ e. cc)) (holds_last db.held (lock_of a)) refl

comes_target : (P Q : Database → Type 0) (name : List ℕ) (act : Database → Seen → Visit) (db : Database) (w : Work) (a : Asked) → a.tx ≡ w.t.tx → Keeps w.t.tx w.t.command P Q → P db
    → ((d : Database) (seen : Seen) → P d → holds d.held (lock_of a) ≡ true → seen.row ≡ a.seen.row → Comes w.t.tx P w.around.sessions (act d seen).db (act d seen).stop)
    → Comes w.t.tx P w.around.sessions (at_target name act db w a).db (at_target name act db w a).stop
comes_target P Q name act db w a own keeps p does =
    let waits = waits_in db w.around.sessions in
    let who = holders db.held waits a in
    let v = newest_version db.content a in
    let by_case : at_outcome name act (record db { held = locks_after (is_locked a.level who v) db.held (lock_of a) }) a (outcome a.level a.seen who v) ≡ at_target name act db w a =
    λ i. at_outcome name act (record db { held = locks_after (sym (locked_is db.content db.held waits a) i) db.held (lock_of a) }) a (sym (outcome_is db.content db.held waits a) i) in
    subst (λ (y : Visit). Comes w.t.tx P w.around.sessions y.db y.stop) by_case
    (at_case w.t.tx P w.around.sessions name act db a a.level who v p
    (λ none is. let t = version_there db.content a is in
    keeps.lock db (lock_of a) own (record { free = nobody_says a.policy _ _ none; place = t.place; write = t.write; there = t.there; its = t.its }) p) does
    (λ e. let o = others_say a.policy _ _ e in subst (λ t. Refused t w.around.sessions db (Row a.seen.row a.strength)) own (record { free = o.0; stopped = o.1 }))
    (newer_row db.content a))

-- a write of a row that is held strongly enough
writes : (P Q : Database → Type 0) (d : Database) (w : Work) (a : Asked) (row : RowId) (values : Option (List Value)) → a.tx ≡ w.t.tx → lets_write a.strength values ≡ true → Keeps w.t.tx w.t.command P Q
    → P d → holds d.held (lock_of a) ≡ true → row ≡ a.seen.row → P (written d w row values)
writes P Q d w a row values own enough keeps p held named =
    keeps.write d (record { tx = w.t.tx; command = w.t.command; table = record { 0 = w.table }; row = row; values = values }) a.strength refl refl enough
    (subst (λ h. holds d.held h ≡ true) (same_lock_of a w.t.tx row own named) held) p where
      same_lock_of : (b : Asked) (tx : TxId) (r : RowId) → b.tx ≡ tx → r ≡ b.seen.row → lock_of b ≡ record { row = r; tx = tx; strength = b.strength }
      same_lock_of b tx r e g =
          let mk : RowId → TxId → Held = λ r t. record { row = r; tx = t; strength = b.strength } in
          ap (λ y. mk y b.tx) (sym g) ∙ ap (λ y. mk r y) e

-- each strength that an UPDATE takes lets it write
lets_update : (leaves : Bool) (values : List Value) → (let s : Strength = if leaves then NoKeyUpdate else Update in lets_write s (Some values)) ≡ true
lets_update true values = refl
lets_update false values = refl

comes_unless_null : (x : TxId) (P : Database → Type 0) (ss : List Session) (name : List ℕ) (db : Database) (due : Visit) (o : Option (List ℕ)) → P db → Comes x P ss due.db due.stop
    → Comes x P ss (unless_null name db due o).db (unless_null name db due o).stop
comes_unless_null x P ss name db due (Some column) p k = comes_fails x P ss db _ p
comes_unless_null x P ss name db due None p k = k

comes_unless_met : (x : TxId) (P : Database → Type 0) (ss : List Session) (db : Database) (due : Visit) (o : Option Meets) → P db → Comes x P ss due.db due.stop
    → ((r : Request) → o ≡ Some (Stops (Blocked r)) → Refused x ss db r) → Comes x P ss (unless_met db due o).db (unless_met db due o).stop
comes_unless_met x P ss db due (Some (Stops (Fails fault))) p k refused = comes_fails x P ss db fault p
comes_unless_met x P ss db due (Some (Stops (Blocked r))) p k refused = comes_blocked x P ss db r p (refused r refl)
comes_unless_met x P ss db due (Some PassesOver) p k refused = comes_on x P ss db [] p
comes_unless_met x P ss db due None p k refused = k

-- what is answered for a row leaves the database as it is
comes_shown : (x : TxId) (P : Database → Type 0) (ss : List Session) (w : Work) (items : Option (List ItemTree)) (db : Database) (row : List Value) → P db
    → Comes x P ss (shows w items db row).db (shows w items db row).stop
comes_shown x P ss w None db row p = comes_on x P ss db [] p
comes_shown x P ss w (Some items) db row p = made (row_values (cols_in db w) items row) where
  made : (r : Result (List Value) ValueFault) → Comes x P ss (shown_made db r).db (shown_made db r).stop
  made (Err fault) = comes_fails x P ss db _ p
  made (Ok shown) = comes_on x P ss db (shown ∷ []) p

-- who waits for a key has blockers, and closes no cycle
held_some : (bs : List TxId) (taken : Option Seen) → found_by bs taken ≡ KeyIsHeld → not (is_none_of bs) ≡ true
held_some [] (Some version) h = cc
held_some [] None h = cc
held_some (b ∷ bs) taken h = refl

key_refuses : (db : Database) (w : Work) (name : List ℕ) (do_nothing : Bool) (values : List Value) (except : Option RowId) (key : KeyTree) (r : Request)
    → meet_key db w name do_nothing values except key ≡ Some (Stops (Blocked r)) → Refused w.t.tx w.around.sessions db r
key_refuses db w name do_nothing values except key r h =
    by (key_found db.content (record { 0 = w.table }) w.t.tx except values key.columns) refl (sym (meets_by db w name do_nothing values except key) ∙ h) where
      asked : AskedKey
      asked = asked_key w values key

      same_met : (a b : Meets) → Some a ≡ Some b → a ≡ b
      same_met a b k = cc

      same_stop : (a b : Stop) → Stops a ≡ Stops b → a ≡ b
      same_stop a b k = cc

      held : (b : Bool) → closes (waits_in db w.around.sessions) w.t.tx (blockers db (Key asked) w.t.tx) ≡ b → not (is_none_of (blockers db (Key asked) w.t.tx)) ≡ true
          → (let y : Stop = if b then Fails Deadlock else Blocked (Key asked) in y ≡ Blocked r) → Refused w.t.tx w.around.sessions db r
      held true e some k = absurd (goes_not Deadlock r (ap Some k))
      held false e some k = subst (λ (q : Request). Refused w.t.tx w.around.sessions db q) (same_request (Key asked) r (ap Some k)) (record { free = e; stopped = some })

      by : (f : KeyFound) → key_found db.content (record { 0 = w.table }) w.t.tx except values key.columns ≡ f → meet_by db w name do_nothing values key f ≡ Some (Stops (Blocked r))
          → Refused w.t.tx w.around.sessions db r
      by KeyIsFree e k = absurd (none_not (Stops (Blocked r)) k)
      by (KeyIsTaken version) e k = absurd (wait_not db w name do_nothing key version r (same_met _ _ k))
      by KeyIsHeld e k = held (closes (waits_in db w.around.sessions) w.t.tx (blockers db (Key asked) w.t.tx)) refl (held_some _ _ e) (same_stop _ _ (same_met _ _ k))

keys_refuse : (db : Database) (w : Work) (put : Putting) (values : List Value) (except : Option RowId) (keys : List KeyTree) (r : Request)
    → meet_keys db w put values except keys ≡ Some (Stops (Blocked r)) → Refused w.t.tx w.around.sessions db r
keys_refuse db w put values except [] r h = absurd (none_not (Stops (Blocked r)) h)
keys_refuse db w put values except (key ∷ keys) r h = by (meet_key db w put.table put.do_nothing values except key) refl (keys_refuse db w put values except keys r) h where
  by : (o : Option Meets) → meet_key db w put.table put.do_nothing values except key ≡ o
      → (meet_keys db w put values except keys ≡ Some (Stops (Blocked r)) → Refused w.t.tx w.around.sessions db r)
      → option_or o (meet_keys db w put values except keys) ≡ Some (Stops (Blocked r)) → Refused w.t.tx w.around.sessions db r
  by (Some met) e later k = key_refuses db w put.table put.do_nothing values except key r (e ∙ k)
  by None e later k = later k

comes_update_at : (P Q : Database → Type 0) (w : Work) (u : UpdateTree) (targets : List AssignedColumn) → Keeps w.t.tx w.t.command P Q → (db : Database) (seen : Seen) → P db
    → Comes w.t.tx P w.around.sessions (update_one w u targets db seen).db (update_one w u targets db seen).stop
comes_update_at P Q w u targets keeps db seen p = comes_target P Q u.table (update_with w u targets) db w a refl keeps p (λ d s q held named. made d s q held named (updated (cols_in d w) targets u.sets (values_of d s))) where
  a : Asked
  a = ask db w (update_strength db w targets u seen.row) Wait u.filter seen

  made : (d : Database) (s : Seen) → P d → holds d.held (lock_of a) ≡ true → s.row ≡ a.seen.row → (r : Result (List Value) ValueFault)
      → Comes w.t.tx P w.around.sessions (update_made w (put_update u) d s.row r).db (update_made w (put_update u) d s.row r).stop
  made d s q held named (Err fault) = comes_fails w.t.tx P w.around.sessions d _ q
  made d s q held named (Ok values) =
      comes_unless_null w.t.tx P w.around.sessions u.table d _ _ q
      (comes_unless_met w.t.tx P w.around.sessions d _ _ q
      (comes_shown w.t.tx P w.around.sessions w u.returning _ values (writes P Q d w a s.row (Some values) refl (lets_update _ values) keeps q held named))
      (keys_refuse d w (put_update u) values (Some s.row) (keys_in d w)))

comes_delete_at : (P Q : Database → Type 0) (w : Work) (e : DeleteTree) → Keeps w.t.tx w.t.command P Q → (db : Database) (seen : Seen) → P db
    → Comes w.t.tx P w.around.sessions (delete_one w e db seen).db (delete_one w e db seen).stop
comes_delete_at P Q w e keeps db seen p =
    comes_target P Q e.table (delete_with w e) db w (ask db w Update Wait e.filter seen) refl keeps p
    (λ d s q held named. comes_shown w.t.tx P w.around.sessions w e.returning _ (values_of d s) (writes P Q d w (ask db w Update Wait e.filter seen) s.row None refl refl keeps q held named))

comes_lock_at : (P Q : Database → Type 0) (w : Work) (s : SelectTree) (l : Lock) → Keeps w.t.tx w.t.command P Q → (db : Database) (seen : Seen) → P db
    → Comes w.t.tx P w.around.sessions (lock_one w s l db seen).db (lock_one w s l db seen).stop
comes_lock_at P Q w s l keeps db seen p =
    comes_target P Q (unwrap_or s.table []) (lock_with w s) db w (ask db w l.strength l.policy s.filter seen) refl keeps p
    (λ d v q held named. comes_shown w.t.tx P w.around.sessions w (Some s.items) d (values_of d v) q)

comes_insert_at : (P Q : Database → Type 0) (w : Work) (put : Putting) (targets : List AssignedColumn) → Keeps w.t.tx w.t.command P Q → (db : Database) (row : List Tree) → P db
    → Comes w.t.tx P w.around.sessions (insert_one w put targets db row).db (insert_one w put targets db row).stop
comes_insert_at P Q w put targets keeps db row p = made (new_values _ targets row) where
  made : (r : Result (List Value) ValueFault) → Comes w.t.tx P w.around.sessions (insert_made w put db r).db (insert_made w put db r).stop
  made (Err fault) = comes_fails w.t.tx P w.around.sessions db _ p
  made (Ok values) =
      comes_unless_null w.t.tx P w.around.sessions put.table db _ _ p
      (comes_unless_met w.t.tx P w.around.sessions db _ _ p
      (comes_shown w.t.tx P w.around.sessions w put.returning (inserted db w values) values
      (keeps.insert db (record { tx = w.t.tx; command = w.t.command; table = record { 0 = w.table }; row = new_row db.content; values = Some values }) refl refl refl p))
      (keys_refuse db w put values None (keys_in db w)))

-- a transaction that has ended isn't open
pub ended : (fates : List Fate) (i : ℕ) (f : Fate) → (f ≡ OpenFate → ⊥) → slice_get (set fates i f) i ≡ Some OpenFate → ⊥
ended [] i f ne h = none_not OpenFate h
ended (g ∷ gs) zero f ne h = ne (same_fate f h) where
  same_fate : (a : Fate) → Some a ≡ Some OpenFate → a ≡ OpenFate
  same_fate a k = cc
ended (g ∷ gs) (suc i) f ne h = ended gs i f ne h

pub ended_committed : (db : Database) (x : TxId) → IsOpen (committed db x).content x → ⊥
ended_committed db x = ended db.content.fates x.0 (Committed (commit_count db.content)) (λ k. cc)

pub ended_rolled_back : (db : Database) (x : TxId) → IsOpen (rolled_back db x).content x → ⊥
ended_rolled_back db x = ended db.content.fates x.0 RolledBack (λ k. cc)

same_open : (t u : OpenTransaction) → Open t ≡ Open u → t ≡ u
same_open t u h = cc

ran_fails : (P Q : Database → Type 0) (V : View → Type 0) (ss : List Session) (e : Database) (t : OpenTransaction) (fault : StmtFault) → Keeps t.tx t.command P Q → P e
    → Ran t.tx t.command P Q V ss (fails e t fault)
ran_fails P Q V ss e t fault keeps p =
    record { db = keeps.roll_back e p; own = λ u h. absurd (never t.explicit u h); over = λ shut. ended_rolled_back e t.tx; waits = λ q h. absurd (none_not q h) } where
      never : (b : Bool) (u : OpenTransaction) → (if b then Aborted else Closed) ≡ Open u → ⊥
      never true u h = cc
      never false u h = cc

ran_open : (P Q : Database → Type 0) (V : View → Type 0) (ss : List Session) (e : Database) (t v : OpenTransaction) (outcome : Reply) → v.tx ≡ t.tx → Keeps t.tx t.command P Q → P e
    → Ran t.tx t.command P Q V ss (record { db = e; transaction = Open v; statement = None; outcome = outcome })
ran_open P Q V ss e t v outcome same keeps p =
    record { db = keeps.rest e p; own = λ u h. (ap (λ (y : OpenTransaction). y.tx) (sym (same_open v u h)) ∙ same, p); over = λ shut o. shut v refl; waits = λ q h. absurd (none_not q h) }

ran_closed : (P Q : Database → Type 0) (V : View → Type 0) (ss : List Session) (x : TxId) (n : ℕ) (e : Database) → Q e → (IsOpen e.content x → ⊥) → Ran x n P Q V ss (turns e Closed)
ran_closed P Q V ss x n e q over = record { db = q; own = λ u h. absurd (never u h); over = λ shut. over; waits = λ q h. absurd (none_not q h) } where
  never : (u : OpenTransaction) → Closed ≡ Open u → ⊥
  never u h = cc

ran_if : (P Q : Database → Type 0) (V : View → Type 0) (ss : List Session) (x : TxId) (n : ℕ) (b : Bool) (d e : Effect) → Ran x n P Q V ss d → Ran x n P Q V ss e → Ran x n P Q V ss (if b then d else e)
ran_if P Q V ss x n true d e h k = h
ran_if P Q V ss x n false d e h k = k

-- a statement at work comes to its end, waits, or fails
ran_ended : (P Q : Database → Type 0) (V : View → Type 0) (before : Content) (w : Work) (f : List (List Value) → Reply) (k : Walk) → Keeps w.t.tx w.t.command P Q → V w.view
    → Comes w.t.tx P w.around.sessions k.db k.stop → Ran w.t.tx w.t.command P Q V w.around.sessions (after_walk before w f k)
ran_ended P Q V before w f k keeps view c = by k.stop c.blocked where
  same_progress : (p q : Progress) → Some p ≡ Some q → p ≡ q
  same_progress p q h = cc

  by : (o : Option Stop) → ((r : Request) → o ≡ Some (Blocked r) → Refused w.t.tx w.around.sessions k.db r) → Ran w.t.tx w.t.command P Q V w.around.sessions (comes_to before w f k o)
  by None blocked = ran_open P Q V w.around.sessions k.db w.t _ (f k.rows) refl keeps c.kept
  by (Some (Fails fault)) blocked = ran_fails P Q V w.around.sessions k.db w.t fault keeps c.kept
  by (Some (Blocked r)) blocked = record {
    db = keeps.rest k.db c.kept;
    own = λ u h. (ap (λ (y : OpenTransaction). y.tx) (sym (same_open _ u h)), c.kept);
    over = λ shut o. shut _ refl;
    waits = λ q h.
        let same = same_progress _ q h in
        (subst (λ (y : Progress). Refused w.t.tx w.around.sessions k.db y.wait.request) same (blocked r refl), subst (λ (y : Progress). V y.view) same view, (_, refl, refl));
  }

ran_insert_from : (P Q : Database → Type 0) (V : View → Type 0) (db : Database) (w : Work) (i : InsertTree) (place : ℕ) (rows : List (List Value)) → Keeps w.t.tx w.t.command P Q → V w.view → P db
    → Ran w.t.tx w.t.command P Q V w.around.sessions (insert_from db w i place rows)
ran_insert_from P Q V db w i place rows keeps view p =
    ran_ended P Q V db.content w (answer (columns_in db w) i.returning) _ keeps view
    (comes_walked w.t.tx P w.around.sessions _ (comes_insert_at P Q w (put_insert i) (assigned_to (columns_assigned (columns_in db w) i.columns)) keeps) db place rows (drop place i.rows) p)

ran_insert_to : (P Q : Database → Type 0) (V : View → Type 0) (db : Database) (w : Work) (i : InsertTree) (r : Result (List AssignedColumn) (List ℕ)) → Keeps w.t.tx w.t.command P Q → V w.view → P db
    → Ran w.t.tx w.t.command P Q V w.around.sessions (insert_to db w i r)
ran_insert_to P Q V db w i (Err column) keeps view p = ran_fails P Q V w.around.sessions db w.t _ keeps p
ran_insert_to P Q V db w i (Ok targets) keeps view p = fitting (undefined_among [] (flat_map (λ row. row) i.rows)) (undefined_among (cols_of (columns_in db w)) (returned_exprs i.returning)) where
  fitting : (in_values in_returning : Option (List ℕ)) → Ran w.t.tx w.t.command P Q V w.around.sessions (insert_fitting db w i targets in_values in_returning)
  fitting (Some name) in_returning = ran_fails P Q V w.around.sessions db w.t _ keeps p
  fitting None (Some name) = ran_fails P Q V w.around.sessions db w.t _ keeps p
  fitting None None =
      ran_if P Q V w.around.sessions w.t.tx w.t.command _ _ _ (ran_fails P Q V w.around.sessions db w.t _ keeps p) (ran_insert_from P Q V db w i 0 [] keeps view p)

ran_update_from : (P Q : Database → Type 0) (V : View → Type 0) (db : Database) (w : Work) (u : UpdateTree) (place : ℕ) (rows : List (List Value)) → Keeps w.t.tx w.t.command P Q → V w.view → P db
    → Ran w.t.tx w.t.command P Q V w.around.sessions (update_from db w u place rows)
ran_update_from P Q V db w u place rows keeps view p =
    ran_ended P Q V db.content w (answer (columns_in db w) u.returning) _ keeps view
    (comes_from w.t.tx P w.around.sessions _ (comes_update_at P Q w u (assigned_to (columns_set (columns_in db w) u.sets)) keeps) db place rows (passing_targets db w u.filter) p)

ran_update_to : (P Q : Database → Type 0) (V : View → Type 0) (db : Database) (w : Work) (u : UpdateTree) (r : Result (List AssignedColumn) (List ℕ)) → Keeps w.t.tx w.t.command P Q → V w.view → P db
    → Ran w.t.tx w.t.command P Q V w.around.sessions (update_to db w u r)
ran_update_to P Q V db w u (Err column) keeps view p = ran_fails P Q V w.around.sessions db w.t _ keeps p
ran_update_to P Q V db w u (Ok targets) keeps view p = fitting (undefined_among (cols_of (columns_in db w)) (update_exprs u)) where
  fitting : (o : Option (List ℕ)) → Ran w.t.tx w.t.command P Q V w.around.sessions (update_fitting db w u o)
  fitting (Some name) = ran_fails P Q V w.around.sessions db w.t _ keeps p
  fitting None = ran_update_from P Q V db w u 0 [] keeps view p

ran_delete_from : (P Q : Database → Type 0) (V : View → Type 0) (db : Database) (w : Work) (e : DeleteTree) (place : ℕ) (rows : List (List Value)) → Keeps w.t.tx w.t.command P Q → V w.view → P db
    → Ran w.t.tx w.t.command P Q V w.around.sessions (delete_from db w e place rows)
ran_delete_from P Q V db w e place rows keeps view p =
    ran_ended P Q V db.content w (answer (columns_in db w) e.returning) _ keeps view
    (comes_from w.t.tx P w.around.sessions _ (comes_delete_at P Q w e keeps) db place rows (passing_targets db w e.filter) p)

ran_delete_fitting : (P Q : Database → Type 0) (V : View → Type 0) (db : Database) (w : Work) (e : DeleteTree) (o : Option (List ℕ)) → Keeps w.t.tx w.t.command P Q → V w.view → P db
    → Ran w.t.tx w.t.command P Q V w.around.sessions (delete_fitting db w e o)
ran_delete_fitting P Q V db w e (Some name) keeps view p = ran_fails P Q V w.around.sessions db w.t _ keeps p
ran_delete_fitting P Q V db w e None keeps view p = ran_delete_from P Q V db w e 0 [] keeps view p

ran_lock_from : (P Q : Database → Type 0) (V : View → Type 0) (db : Database) (w : Work) (s : SelectTree) (l : Lock) (place : ℕ) (rows : List (List Value)) → Keeps w.t.tx w.t.command P Q → V w.view → P db
    → Ran w.t.tx w.t.command P Q V w.around.sessions (lock_from db w s l place rows)
ran_lock_from P Q V db w s l place rows keeps view p =
    ran_ended P Q V db.content w (answer (columns_in db w) (Some s.items)) (walked_from (lock_one w s l) db place rows (taken_targets db w s)) keeps view
    (comes_from w.t.tx P w.around.sessions _ (comes_lock_at P Q w s l keeps) db place rows (taken_targets db w s) p)

ran_answered : (P Q : Database → Type 0) (V : View → Type 0) (ss : List Session) (db : Database) (t : OpenTransaction) (r : Result Results ValueFault) → Keeps t.tx t.command P Q → P db
    → Ran t.tx t.command P Q V ss (answered db t r)
ran_answered P Q V ss db t (Ok set) keeps p = ran_open P Q V ss db t _ _ refl keeps p
ran_answered P Q V ss db t (Err fault) keeps p = ran_fails P Q V ss db t _ keeps p

ran_unless_wrong : (P Q : Database → Type 0) (V : View → Type 0) (ss : List Session) (db : Database) (t : OpenTransaction) (o : Option (List ℕ)) (n : Option ℤ) (due : Effect) → Keeps t.tx t.command P Q → P db
    → Ran t.tx t.command P Q V ss due → Ran t.tx t.command P Q V ss (unless_wrong db t o n due)
ran_unless_wrong P Q V ss db t (Some name) n due keeps p k = ran_fails P Q V ss db t _ keeps p
ran_unless_wrong P Q V ss db t None (Some n) due keeps p k = ran_fails P Q V ss db t _ keeps p
ran_unless_wrong P Q V ss db t None None due keeps p k = k

ran_select_rows : (P Q : Database → Type 0) (V : View → Type 0) (db : Database) (w : Work) (s : SelectTree) (o : Option Lock) → Keeps w.t.tx w.t.command P Q → V w.view → P db
    → Ran w.t.tx w.t.command P Q V w.around.sessions (select_rows db w s o)
ran_select_rows P Q V db w s None keeps view p = ran_answered P Q V w.around.sessions db w.t _ keeps p
ran_select_rows P Q V db w s (Some l) keeps view p = ran_lock_from P Q V db w s l 0 [] keeps view p

ran_select_in : (P Q : Database → Type 0) (V : View → Type 0) (db : Database) (w : Work) (s : SelectTree) → Keeps w.t.tx w.t.command P Q → V w.view → P db
    → Ran w.t.tx w.t.command P Q V w.around.sessions (select_in db w s)
ran_select_in P Q V db w s keeps view p = ran_unless_wrong P Q V w.around.sessions db w.t _ _ _ keeps p (ran_select_rows P Q V db w s s.lock keeps view p)

ran_select : (P Q : Database → Type 0) (V : View → Type 0) (db : Database) (t : OpenTransaction) (around : Surroundings) (s : SelectTree) (o : Option (List ℕ))
    → Keeps t.tx t.command P Q → V (view_of db.content t) → P db → Ran t.tx t.command P Q V around.sessions (select db t around s o)
ran_select P Q V db t around s None keeps view p = ran_unless_wrong P Q V around.sessions db t _ _ _ keeps p (ran_answered P Q V around.sessions db t _ keeps p)
ran_select P Q V db t around s (Some name) keeps view p = at (find_table db (Some t.tx) name) where
  at : (k : Option ℕ) → Ran t.tx t.command P Q V around.sessions (select_found db t around s name k)
  at None = ran_fails P Q V around.sessions db t _ keeps p
  at (Some k) = ran_select_in P Q V db (beginning db t around k) s keeps view p

kept_dropped : (P Q : Database → Type 0) (t : OpenTransaction) (if_exists : Bool) (names : List (List ℕ)) → Keeps t.tx t.command P Q → (db : Database) → P db → P (dropped db t if_exists names).db
kept_dropped P Q t if_exists [] keeps db p = p
kept_dropped P Q t if_exists (name ∷ names) keeps db p = at (λ d. kept_dropped P Q t if_exists names keeps d) (find_table db (Some t.tx) name) where
  missing : (b : Bool) → P (dropped db t if_exists names).db → (let e : DroppedUpTo = if b then dropped db t if_exists names else record { db = db; missing = Some name } in P e.db)
  missing true q = q
  missing false q = p

  at : ((d : Database) → P d → P (dropped d t if_exists names).db) → (o : Option ℕ) → P (dropped_at db t if_exists name (λ d. dropped d t if_exists names) o).db
  at on (Some k) = on _ (keeps.drop db k p)
  at on None = missing if_exists (on db p)

ran_drop : (P Q : Database → Type 0) (V : View → Type 0) (ss : List Session) (before : Content) (t : OpenTransaction) (e : Database) (o : Option (List ℕ)) → Keeps t.tx t.command P Q → P e
    → Ran t.tx t.command P Q V ss (drop_ended before t e o)
ran_drop P Q V ss before t e None keeps p = ran_open P Q V ss e t _ _ refl keeps p
ran_drop P Q V ss before t e (Some name) keeps p = ran_fails P Q V ss e t _ keeps p

ran_level : (P Q : Database → Type 0) (V : View → Type 0) (ss : List Session) (db : Database) (t : OpenTransaction) (explicit : Bool) (level : Level) → Keeps t.tx t.command P Q → P db
    → Ran t.tx t.command P Q V ss (level_set db t explicit level)
ran_level P Q V ss db t explicit level keeps p =
    ran_if P Q V ss t.tx t.command _ _ _ (ran_fails P Q V ss db t _ keeps p) (ran_open P Q V ss db t (record t { explicit = explicit; level = level }) _ refl keeps p)

ran_create : (P Q : Database → Type 0) (V : View → Type 0) (ss : List Session) (db : Database) (t : OpenTransaction) (c : CreateTree) (o : Option ℕ)
    → Keeps t.tx t.command P Q → P db → Ran t.tx t.command P Q V ss (create db t c o)
ran_create P Q V ss db t c (Some k) keeps p = ran_fails P Q V ss db t _ keeps p
ran_create P Q V ss db t c None keeps p = ran_open P Q V ss _ t _ _ refl keeps (keeps.create db c p)

ran_insert : (P Q : Database → Type 0) (V : View → Type 0) (db : Database) (t : OpenTransaction) (around : Surroundings) (i : InsertTree) (o : Option ℕ)
    → Keeps t.tx t.command P Q → V (view_of db.content t) → P db → Ran t.tx t.command P Q V around.sessions (insert db t around i o)
ran_insert P Q V db t around i None keeps view p = ran_fails P Q V around.sessions db t _ keeps p
ran_insert P Q V db t around i (Some k) keeps view p = ran_insert_to P Q V db (beginning db t around k) i _ keeps view p

ran_update : (P Q : Database → Type 0) (V : View → Type 0) (db : Database) (t : OpenTransaction) (around : Surroundings) (u : UpdateTree) (o : Option ℕ)
    → Keeps t.tx t.command P Q → V (view_of db.content t) → P db → Ran t.tx t.command P Q V around.sessions (update db t around u o)
ran_update P Q V db t around u None keeps view p = ran_fails P Q V around.sessions db t _ keeps p
ran_update P Q V db t around u (Some k) keeps view p = ran_update_to P Q V db (beginning db t around k) u _ keeps view p

ran_delete : (P Q : Database → Type 0) (V : View → Type 0) (db : Database) (t : OpenTransaction) (around : Surroundings) (d : DeleteTree) (o : Option ℕ)
    → Keeps t.tx t.command P Q → V (view_of db.content t) → P db → Ran t.tx t.command P Q V around.sessions (delete db t around d o)
ran_delete P Q V db t around d None keeps view p = ran_fails P Q V around.sessions db t _ keeps p
ran_delete P Q V db t around d (Some k) keeps view p = ran_delete_fitting P Q V db (beginning db t around k) d _ keeps view p

ran_once : (P Q : Database → Type 0) (V : View → Type 0) (db : Database) (t : OpenTransaction) (around : Surroundings)
    → Keeps t.tx t.command P Q → V (view_of db.content t) → P db → AtOnce db t around (Ran t.tx t.command P Q V around.sessions)
ran_once P Q V db t around keeps view p = record {
  begins = λ level. ran_if P Q V around.sessions t.tx t.command t.explicit _ _ (ran_open P Q V around.sessions db t t _ refl keeps p) (ran_level P Q V around.sessions db t true (unwrap_or level t.level) keeps p);
  sets = λ level. ran_level P Q V around.sessions db t t.explicit level keeps p;
  stays = ran_open P Q V around.sessions db t t _ refl keeps p;
  commits = ran_closed P Q V around.sessions t.tx t.command _ (keeps.commit db p) (ended_committed db t.tx);
  rolls_back = ran_closed P Q V around.sessions t.tx t.command _ (keeps.roll_back db p) (ended_rolled_back db t.tx);
  creates = λ c. ran_create P Q V around.sessions db t c _ keeps p;
  drops = λ d. let e = dropped db t d.if_exists d.names in subst (Ran t.tx t.command P Q V around.sessions) (sym (drops_by db t d.if_exists d.names))
      (ran_drop P Q V around.sessions db.content t e.db e.missing keeps (kept_dropped P Q t d.if_exists d.names keeps db p));
  shows = λ s e. ran_select P Q V db t around s s.table keeps view p;
}

-- a statement that begins in an open transaction
pub ran_begins : (P Q : Database → Type 0) (V : View → Type 0) (db : Database) (t : OpenTransaction) (around : Surroundings) (stmt : StmtTree)
    → Keeps t.tx t.command P Q → V (view_of db.content t) → P db → Ran t.tx t.command P Q V around.sessions (run_open db t around stmt)
ran_begins P Q V db t around stmt keeps view p = by_kind db t around (Ran t.tx t.command P Q V around.sessions) (ran_once P Q V db t around keeps view p) start stmt where
  start : FromStart db t around (Ran t.tx t.command P Q V around.sessions)
  start = record {
    inserts = λ i. ran_insert P Q V db t around i _ keeps view p;
    updates = λ u. ran_update P Q V db t around u _ keeps view p;
    deletes = λ d. ran_delete P Q V db t around d _ keeps view p;
    locks = λ s l e. ran_select P Q V db t around s s.table keeps view p;
  }

-- one that goes on
pub ran_on : (P Q : Database → Type 0) (V : View → Type 0) (db : Database) (t : OpenTransaction) (around : Surroundings) (g : Progress) (stmt : StmtTree)
    → Keeps t.tx t.command P Q → V (view_of db.content t) → V g.view → P db → Ran t.tx t.command P Q V around.sessions (run_on db t around g stmt)
ran_on P Q V db t around g stmt keeps view own p = on_kind db t around (Ran t.tx t.command P Q V around.sessions) (ran_once P Q V db t around keeps view p) g place stmt where
  place : FromPlace db t around g (Ran t.tx t.command P Q V around.sessions)
  place = record {
    inserts = λ i. ran_insert_from P Q V db (going_on t around g) i g.place g.rows keeps own p;
    updates = λ u. ran_update_from P Q V db (going_on t around g) u g.place g.rows keeps own p;
    deletes = λ d. ran_delete_from P Q V db (going_on t around g) d g.place g.rows keeps own p;
    locks = λ s l e. ran_lock_from P Q V db (going_on t around g) s l g.place g.rows keeps own p;
  }

-- who does what a statement of the session does: its transaction, or the one that begins
abbrev pub doer : Database → Transaction → TxId
doer db Closed = next_tx db.content
doer db (Open t) = t.tx
doer db Aborted = next_tx db.content

-- where it does it
abbrev pub start : Database → Transaction → Database
start db Closed = begun db
start db (Open t) = db
start db Aborted = begun db

-- the views that it may have
abbrev pub Allows : (View → Type 0) → Database → Transaction → Option Progress → Type 0
Allows V db Closed statement = V (view_of (begun db).content (fresh db.content ReadCommitted false))
Allows V db (Open t) None = V (view_of db.content t)
Allows V db (Open t) (Some g) = V (view_of db.content t) × V g.view
Allows V db Aborted statement = Unit {0}

-- nothing was done, and no transaction is open, as before
pub record Idles (db : Database) (tr : Transaction) (d : Effect) : Type 0 where
  pub same : d.db ≡ db
  pub over : d.statement ≡ None
  pub was : (u : OpenTransaction) → tr ≡ Open u → ⊥
  pub shut : (u : OpenTransaction) → d.transaction ≡ Open u → ⊥

does_stmt_by_kind : (P Q : Database → Type 0) (V : View → Type 0) (db : Database) (tr : Transaction) (statement : Option Progress) (around : Surroundings) (stmt : StmtTree)
    → Keeps (doer db tr) (command_in tr) P Q → Allows V db tr statement → P (start db tr)
    → Idles db tr (run_piecewise db tr statement around stmt) ⊎ Ran (doer db tr) (command_in tr) P Q V around.sessions (run_piecewise db tr statement around stmt)
does_stmt_by_kind P Q V db Aborted statement around stmt keeps view p = inl (by (is_end stmt)) where
  by : (b : Bool) → (let d : Effect = if b then turns db Closed else record { db = db; transaction = Aborted; statement = None; outcome = Failed AbortedFault } in Idles db Aborted d)
  by true = record { same = refl; over = refl; was = λ u h. cc; shut = λ u h. cc }
  by false = record { same = refl; over = refl; was = λ u h. cc; shut = λ u h. cc }
does_stmt_by_kind P Q V db (Open t) None around stmt keeps view p = inr (ran_begins P Q V db t around stmt keeps view p)
does_stmt_by_kind P Q V db (Open t) (Some g) around stmt keeps view p = inr (ran_on P Q V db t around g stmt keeps view.0 view.1 p)
does_stmt_by_kind P Q V db Closed statement around stmt keeps view p = by stmt where
  first : OpenTransaction
  first = fresh db.content ReadCommitted false

  idles : Idles db Closed (turns db Closed)
  idles = record { same = refl; over = refl; was = λ u h. cc; shut = λ u h. cc }

  run : (s : StmtTree) → Idles db Closed (run_first db around s) ⊎ Ran first.tx first.command P Q V around.sessions (run_first db around s)
  run s = inr (ran_begins P Q V (begun db) first around s keeps view p)

  by : (s : StmtTree) → Idles db Closed (run_closed db around s) ⊎ Ran first.tx first.command P Q V around.sessions (run_closed db around s)
  by (Begin level) = inr (ran_open P Q V around.sessions (begun db) first (fresh db.content (unwrap_or level ReadCommitted) true) _ refl keeps p)
  by Commit = inl idles
  by Rollback = inl idles
  by (SetTransaction level) = inr (ran_open P Q V around.sessions (begun db) first (fresh db.content level false) _ refl keeps p)
  by SetDeadlockTimeout = inl idles
  by s = run s

-- a statement did nothing, or what its transaction may do
pub does_stmt : (P Q : Database → Type 0) (V : View → Type 0) (db : Database) (tr : Transaction) (statement : Option Progress) (around : Surroundings) (stmt : StmtTree)
    → Keeps (doer db tr) (command_in tr) P Q → Allows V db tr statement → P (start db tr)
    → Idles db tr (run_stmt db tr statement around stmt) ⊎ Ran (doer db tr) (command_in tr) P Q V around.sessions (run_stmt db tr statement around stmt)
does_stmt P Q V db tr statement around stmt keeps view p = subst (λ (d : Effect). Idles db tr d ⊎ Ran (doer db tr) (command_in tr) P Q V around.sessions d) (sym (runs_by_kind db tr statement around stmt)) (does_stmt_by_kind P Q V db tr statement around stmt keeps view p)
