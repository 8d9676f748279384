-- How a statement stops, by what it asks for. It is told once for the stops that are spoken of (S), which come exactly where something is so of a request (C).
use Rattle.std.proofs.Common.{◌≡◌, ◌↔◌, refl, sym, ◌∙◌, ap, subst, inl, inr, Bool, true, false, ℕ, List, [], ◌∷◌, ◌++◌, length}
use Rattle.std.specs.Prelude.{Option, Some, None, option_map, unwrap_or, slice_get, filter_map, drop, is_some, Result, Ok, Err, IsTrue, if◌then◌else◌}
use Rattle.std.specs.Option.{option_map_or, option_or}
use Rattle.std.specs.Result.{result_unwrap_or}
use Rattle.std.specs.List.{cons_option}
use Rattle.sql_trees.specs.declared.stmt.Level.{Level}
use Rattle.sql_trees.specs.declared.stmt.Level.TheVariants.{ReadCommitted, RepeatableRead}
use Rattle.sql_trees.specs.declared.stmt.Policy.TheVariants.{Wait}
use Rattle.sql_trees.specs.Trees.{Tree}
use Rattle.sql_trees.specs.Statements.{ItemTree, KeyTree, StmtTree, InsertTree, UpdateTree, Begin, Commit, Rollback, SetTransaction, SetDeadlockTimeout, Create, DropTables, Inserts, Updates, Deletes, Selects}
use Rattle.sql_values.specs.declared.value.Value.{Value}
use Rattle.sql_values.specs.declared.fault.ValueFault.{ValueFault}
use Rattle.query_results.specs.Queries.{columns_assigned, new_values, null_in, row_values}
use Rattle.query_results.specs.Updates.{columns_set, updated}
use Rattle.row_versions.specs.declared.names.TxId.{TxId}
use Rattle.row_versions.specs.declared.names.RowId.{RowId}
use Rattle.row_versions.specs.declared.write.Seen.{Seen}
use Rattle.row_locks.specs.declared.held.Held.{Held}
use Rattle.update_recheck.specs.Asked.{Asked}
use Rattle.update_recheck.specs.Outcome.{Version, Same, Gone, Newer, newest_version, target_outcome, is_target_locked}
use Rattle.update_recheck.specs.Outcome.Outcome.{Takes, Skips, Waits, Deadlocks, NotFree as IsNotFree, Serializes, Faults}
use Rattle.update_recheck.specs.Outcome.{Outcome as TargetOutcome}
use Rattle.update_recheck.specs.Inner.Cases.{Holders, Nobody, Others, OthersInACycle, OthersAtNoWait, OthersSkipped, holders, is_locked, outcome}
use Rattle.update_recheck.specs.Settling.{lock_of}
use Rattle.update_recheck.proofs.Cases.{outcome_is, locked_is}
use Rattle.session_machine.specs.declared.session.Request.{Request}
use Rattle.session_machine.specs.declared.session.Request.TheVariants.{Row, Key}
use Rattle.session_machine.specs.declared.session.Session.{Session}
use Rattle.session_machine.specs.declared.fault.StmtFault.{StmtFault}
use Rattle.session_machine.specs.declared.fault.StmtFault.TheVariants.{Value as OfValue, NullValue, NotSerializable, Deadlock, NotFree}
use Rattle.session_machine.specs.Tables.{Database}
use Rattle.session_machine.specs.Waits.{waits_in}
use Rattle.session_machine.specs.Walks.{Stop, Walk, Blocked, Fails, over, passed, stopped}
use Rattle.session_machine.specs.Rows.{Work, Meets, Stops, PassesOver, Putting, columns_in, cols_in, values_of, inserted, written, meet_key, meets, returned, put_row, act_on, policy_of, table_named, target_asked, visit_target, insert_row, over_targets}
use Rattle.session_machine.specs.Inner.Statements.{put_insert, put_update}
use Rattle.session_machine.specs.Targets.{asked_key, at_places, seen_by}
use Rattle.wait_laws.specs.Laws.{is_worth_a_wait}
use Rattle.wait_laws.specs.Replies.{ComesTo, AsksForKeyOf, AsksForKey, AsksToUpdate, AsksAtTarget, AsksOverTargets, AsksOver, keys_of, with_target}
use Rattle.wait_laws.proofs.KeyStops.{key_is_exact}

pub none_some : {A : Type 0} (a : A) → None ≡ Some a → ⊥
none_some a h = cc

-- neither of the two
pub neither : {A B : Type 0} → (A → ⊥) → (B → ⊥) → A ↔ B
neither f g = (λ a. absurd (f a), λ b. absurd (g b))

-- what a target's outcome stops a statement by, at the table of this name
abbrev pub stop_of : List ℕ → Asked → TargetOutcome → Option Stop
stop_of name ask (Takes version) = None
stop_of name ask Skips = None
stop_of name ask Waits = Some (Blocked (Row ask.seen.row ask.strength))
stop_of name ask Deadlocks = Some (Fails Deadlock)
stop_of name ask IsNotFree = Some (Fails (NotFree name))
stop_of name ask Serializes = Some (Fails NotSerializable)
stop_of name ask (Faults fault) = Some (Fails (OfValue fault))

-- and what a row meets at a key
abbrev pub stop_met : Option Meets → Option Stop
stop_met None = None
stop_met (Some (Stops stop)) = Some stop
stop_met (Some PassesOver) = None

abbrev pub outcome_at : Database → Work → Asked → TargetOutcome
outcome_at db w ask = target_outcome db.content db.held (waits_in db w.around.sessions) ask

-- the stops that are spoken of come exactly where it is so of a request that is made, and are none of another fault
pub record Tells (S : Option Stop → Type 0) (C : TxId → List Session → Database → Request → Type 0) : Type 0 where
  pub none : S None → ⊥
  pub other : (fault : StmtFault) → (fault ≡ Deadlock → ⊥) → S (Some (Fails fault)) → ⊥
  pub row : (db : Database) (w : Work) (name : List ℕ) (ask : Asked) → S (stop_of name ask (outcome_at db w ask))
      ↔ (IsTrue (is_worth_a_wait ask.level (newest_version db.content ask)) × (ask.policy ≡ Wait) × C ask.tx w.around.sessions db (Row ask.seen.row ask.strength))
  pub key : (db : Database) (w : Work) (name : List ℕ) (do_nothing : Bool) (values : List Value) (except : Option RowId) (key : KeyTree)
      → S (stop_met (meet_key db w name do_nothing values except key)) ↔ C w.t.tx w.around.sessions db (Key (asked_key w values key))

-- a walk that is stopped visits nothing more
rests : {A : Type 0} (visit : Walk → A → Walk) (walk : Walk) (stop : Stop) → walk.stop ≡ Some stop → (xs : List A) → over visit walk xs ≡ walk
rests visit walk stop h [] = refl
rests visit walk stop h (x ∷ xs) = ap (λ (v : Walk). over visit v xs) (stays walk.stop h) ∙ rests visit walk stop h xs where
  stays : (o : Option Stop) → o ≡ Some stop → (let v : Walk = if is_some o then walk else visit walk x in v) ≡ walk
  stays None e = absurd (none_some stop e)
  stays (Some s) e = refl

goes : {A : Type 0} (visit : Walk → A → Walk) (walk : Walk) → walk.stop ≡ None → (x : A) (xs : List A) → over visit walk (x ∷ xs) ≡ over visit (visit walk x) xs
goes visit walk h x xs = ap (λ (v : Walk). over visit v xs) (on walk.stop h) where
  on : (o : Option Stop) → o ≡ None → (let v : Walk = if is_some o then walk else visit walk x in v) ≡ visit walk x
  on None e = refl
  on (Some s) e = absurd (none_some s (sym e))

takes_locked : (level : Level) (found version : Seen) (h : Holders) (v : Version) → outcome level found h v ≡ Takes version → is_locked level h v ≡ true
takes_locked ReadCommitted found version OthersInACycle v e = cc
takes_locked ReadCommitted found version Others v e = cc
takes_locked ReadCommitted found version OthersAtNoWait v e = cc
takes_locked ReadCommitted found version OthersSkipped v e = cc
takes_locked ReadCommitted found version Nobody Gone e = cc
takes_locked ReadCommitted found version Nobody Same e = refl
takes_locked ReadCommitted found version Nobody (Newer m r) e = refl
takes_locked RepeatableRead found version h Gone e = cc
takes_locked RepeatableRead found version h (Newer m r) e = cc
takes_locked RepeatableRead found version OthersInACycle Same e = cc
takes_locked RepeatableRead found version Others Same e = cc
takes_locked RepeatableRead found version OthersAtNoWait Same e = cc
takes_locked RepeatableRead found version OthersSkipped Same e = cc
takes_locked RepeatableRead found version Nobody Same e = refl

-- the target that is taken is locked
locks : (db : Database) (w : Work) (a : Asked) (version : Seen) → outcome_at db w a ≡ Takes version → is_target_locked db.content db.held (waits_in db w.around.sessions) a ≡ true
locks db w a version h =
    let waits = waits_in db w.around.sessions in
    locked_is db.content db.held waits a
    ∙ takes_locked a.level a.seen version (holders db.held waits a) (newest_version db.content a) (sym (outcome_is db.content db.held waits a) ∙ h)

same_outcome : (a b : Seen) → Takes a ≡ Takes b → a ≡ b
same_outcome a b h = cc

same_update : (u v : UpdateTree) → Updates u ≡ Updates v → u ≡ v
same_update u v h = cc

same_values : (a b : List Value) → (let r : Result (List Value) ValueFault = Ok a in r ≡ Ok b) → a ≡ b
same_values a b h = cc

same_seen : (a b : List Seen) → (let r : Result (List Seen) ValueFault = Ok a in r ≡ Ok b) → a ≡ b
same_seen a b h = cc

err_values : (fault : ValueFault) (b : List Value) → (let r : Result (List Value) ValueFault = Err fault in r ≡ Ok b) → ⊥
err_values fault b h = cc

err_seen : (fault : ValueFault) (b : List Seen) → (let r : Result (List Seen) ValueFault = Err fault in r ≡ Ok b) → ⊥
err_seen fault b h = cc

module _ (S : Option Stop → Type 0) (C : TxId → List Session → Database → Request → Type 0) (tells : Tells S C) where
  -- of walks over targets
  pub walks : {A : Type 0} (visit : Walk → A → Walk) (xs : List A) (walk : Walk) → walk.stop ≡ None
      → S (over visit walk xs).stop ↔ ((before : Walk) × (target : A) × ComesTo visit walk xs before target × S (visit before target).stop)
  walks {A = A} visit [] walk h = neither (λ s. tells.none (subst S h s)) (λ c. c.2)
  walks {A = A} visit (x ∷ xs) walk h =
      let first = ap (λ (v : Walk). v.stop) (goes visit walk h x xs) in
      let rest = by (visit walk x).stop refl (walks visit xs (visit walk x)) in
      (λ s. rest.0 (subst S first s), λ c. subst S (sym first) (rest.1 c)) where
        by : (o : Option Stop) → (visit walk x).stop ≡ o
            → ((visit walk x).stop ≡ None → S (over visit (visit walk x) xs).stop ↔ ((before : Walk) × (target : A) × ComesTo visit (visit walk x) xs before target × S (visit before target).stop))
            → S (over visit (visit walk x) xs).stop ↔ ((before : Walk) × (target : A) × ComesTo visit walk (x ∷ xs) before target × S (visit before target).stop)
        by None e on = (
          λ s. let c = (on e).0 s in (c.0, c.1, inr (e, c.2), c.3),
          λ c. elim c.2 [
            | inl first ↦ absurd (tells.none (subst S e (subst (λ (y : A). S (visit walk y).stop) first.1 (subst (λ (v : Walk). S (visit v c.1).stop) first.0 c.3))))
            | inr later ↦ (on e).1 (c.0, c.1, later.1, c.3)
          ],
        )
        by (Some stop) e on =
            let same = rests visit (visit walk x) stop e xs in (
              λ s. (walk, x, inl (refl, refl), subst (λ (v : Walk). S v.stop) same s),
              λ c. elim c.2 [
                | inl first ↦ subst (λ (v : Walk). S v.stop) (sym same) (subst (λ (y : A). S (visit walk y).stop) first.1 (subst (λ (v : Walk). S (visit v c.1).stop) first.0 c.3))
                | inr later ↦ absurd (none_some stop (sym later.0 ∙ e))
              ],
            )

  -- of the first key that isn't free
  keys_stop : (db : Database) (w : Work) (name : List ℕ) (do_nothing : Bool) (values : List Value) (except : Option RowId) (keys : List KeyTree)
      → S (stop_met (slice_get (filter_map (meet_key db w name do_nothing values except) keys) 0))
      ↔ ((request : Request) × AsksForKeyOf db w values except keys request × C w.t.tx w.around.sessions db request)
  keys_stop db w name do_nothing values except [] = neither tells.none (λ c. c.1)
  keys_stop db w name do_nothing values except (key ∷ keys) = by (meet_key db w name do_nothing values except key) refl (keys_stop db w name do_nothing values except keys) where
    others : List Meets
    others = filter_map (meet_key db w name do_nothing values except) keys

    Asked : List KeyTree → Type 0
    Asked ks = (request : Request) × AsksForKeyOf db w values except ks request × C w.t.tx w.around.sessions db request

    by : (o : Option Meets) → meet_key db w name do_nothing values except key ≡ o → S (stop_met (slice_get others 0)) ↔ Asked keys
        → S (stop_met (slice_get (cons_option o others) 0)) ↔ Asked (key ∷ keys)
    by None e on = (
      λ s. let c = on.0 s in let free = (key_is_exact db w name do_nothing values except key).free.0 e in (c.0, inr (free.0, free.1, c.1), c.2),
      λ c. elim c.1 [
        | inl its ↦
            absurd (tells.none (subst (λ (o : Option Meets). S (stop_met o)) e ((tells.key db w name do_nothing values except key).1 (subst (C w.t.tx w.around.sessions db) its c.2))))
        | inr later ↦ on.1 (c.0, later.2, c.2)
      ],
    )
    by (Some met) e on = (
      λ s. (Key (asked_key w values key), inl refl, (tells.key db w name do_nothing values except key).0 (subst (λ (o : Option Meets). S (stop_met o)) (sym e) s)),
      λ c. elim c.1 [
        | inl its ↦ subst (λ (o : Option Meets). S (stop_met o)) e ((tells.key db w name do_nothing values except key).1 (subst (C w.t.tx w.around.sessions db) its c.2))
        | inr later ↦ absurd (none_some met (sym ((key_is_exact db w name do_nothing values except key).free.1 (later.0, later.1)) ∙ e))
      ],
    )

  -- what is answered for a row stops a statement by nothing that is spoken of
  shown_not : (w : Work) (items : Option (List ItemTree)) (walk : Walk) (db : Database) (row : List Value) → S (returned w items walk db row).stop → ⊥
  shown_not w None walk db row = tells.none
  shown_not w (Some items) walk db row = by (row_values (cols_in db w) items row) where
    by : (r : Result (List Value) ValueFault)
        → (let v : Walk = elim r [ Ok shown ↦ passed walk db (shown ∷ []) | Err fault ↦ stopped (record walk { db = db }) (Fails (OfValue fault)) ] in S v.stop) → ⊥
    by (Ok shown) = tells.none
    by (Err fault) = tells.other (OfValue fault) (λ e. cc)

  -- of a row that is about to be written
  puts : (w : Work) (put : Putting) (except : Option RowId) (made : Result (List Value) ValueFault) (walk : Walk)
      → S (put_row w put except made walk).stop ↔ ((request : Request) × AsksForKey walk.db w except made request × C w.t.tx w.around.sessions walk.db request)
  puts w put except (Err fault) walk = neither (tells.other (OfValue fault) (λ e. cc)) (λ c. err_values fault c.1.0 c.1.1)
  puts w put except (Ok values) walk = by (null_in (columns_in walk.db w) values) refl where
    first : Option Meets
    first = slice_get (filter_map (meet_key walk.db w put.table put.do_nothing values except) (keys_of walk.db w)) 0

    written_so : Database
    written_so = option_map_or (λ place. written walk.db w place (Some values)) except (inserted walk.db w values)

    after : Walk
    after = returned w put.returning walk written_so values

    Asked : Type 0
    Asked = (request : Request) × AsksForKey walk.db w except (Ok values) request × C w.t.tx w.around.sessions walk.db request

    its : (o : Option Meets) → S (option_map_or (meets walk) o after).stop ↔ S (stop_met o)
    its None = neither (shown_not w put.returning walk written_so values) tells.none
    its (Some (Stops stop)) = (λ s. s, λ s. s)
    its (Some PassesOver) = (λ s. s, λ s. s)

    by : (null : Option (List ℕ)) → null_in (columns_in walk.db w) values ≡ null
        → S (option_map_or (meets walk) (option_or (option_map (λ column. Stops (Fails (NullValue column put.table))) null) first) after).stop ↔ Asked
    by (Some column) e = neither (tells.other (NullValue column put.table) (λ f. cc))
        (λ c. none_some column (sym (subst (λ (vs : List Value). null_in (columns_in walk.db w) vs ≡ None) (sym (same_values values c.1.0 c.1.1)) c.1.2) ∙ e))
    by None e =
        let on = keys_stop walk.db w put.table put.do_nothing values except (keys_of walk.db w) in (
          λ s. let c = on.0 ((its first).0 s) in (c.0, (values, refl, e, c.1), c.2),
          λ c. (its first).1 (on.1 (c.0, subst (λ (vs : List Value). AsksForKeyOf walk.db w vs except (keys_of walk.db w) c.0) (sym (same_values values c.1.0 c.1.1)) c.1.3, c.2)),
        )

  abbrev Updates_at : Work → StmtTree → Database → Seen → Type 0
  Updates_at w stmt db version = (request : Request) × ((u : UpdateTree) × (stmt ≡ Updates u) × AsksToUpdate db w u version request) × C w.t.tx w.around.sessions db request

  -- of what is done once a target is locked
  acts : (w : Work) (stmt : StmtTree) (at : Walk) (version : Seen) → S (act_on w stmt at version).stop ↔ Updates_at w stmt at.db version
  acts w (Updates u) at version =
      let on = puts w (put_update u) (Some version.row) (updated (cols_in at.db w) (result_unwrap_or (columns_set (columns_in at.db w) u.sets) []) u.sets (values_of at.db version)) at in (
        λ s. let c = on.0 s in (c.0, (u, refl, c.1), c.2),
        λ c. on.1 (c.0, subst (λ (v : UpdateTree). AsksToUpdate at.db w v version c.0) (sym (same_update u c.1.0 c.1.1)) c.1.2, c.2),
      )
  acts w (Selects s) at version = neither (shown_not w (Some s.items) at at.db (values_of at.db version)) (λ c. let k = c.1.1 in cc)
  acts w (Deletes d) at version = neither (shown_not w d.returning at (written at.db w version.row None) (values_of at.db version)) (λ c. let k = c.1.1 in cc)
  acts w (Inserts i) at version = neither tells.none (λ c. let k = c.1.1 in cc)
  acts w (Begin level) at version = neither tells.none (λ c. let k = c.1.1 in cc)
  acts w Commit at version = neither tells.none (λ c. let k = c.1.1 in cc)
  acts w Rollback at version = neither tells.none (λ c. let k = c.1.1 in cc)
  acts w (SetTransaction level) at version = neither tells.none (λ c. let k = c.1.1 in cc)
  acts w SetDeadlockTimeout at version = neither tells.none (λ c. let k = c.1.1 in cc)
  acts w (Create c) at version = neither tells.none (λ c. let k = c.1.1 in cc)
  acts w (DropTables d) at version = neither tells.none (λ c. let k = c.1.1 in cc)

  -- of a target
  visits : (w : Work) (stmt : StmtTree) (walk : Walk) (seen : Seen) → S (visit_target w stmt walk seen).stop
      ↔ ((db : Database) × (request : Request) × AsksAtTarget w stmt walk.db seen db request × C w.t.tx w.around.sessions db request)
  visits w stmt walk seen = by (outcome_at walk.db w ask) refl (is_target_locked walk.db.content walk.db.held (waits_in walk.db w.around.sessions) ask) refl where
    ask : Asked
    ask = target_asked walk.db w stmt seen

    name : List ℕ
    name = unwrap_or (table_named stmt) []

    lock : Held
    lock = lock_of ask

    at : Bool → Walk
    at b = record walk { db = record walk.db { held = if b then walk.db.held ++ lock ∷ [] else walk.db.held } }

    settled : Bool → TargetOutcome → Walk
    settled b (Takes version) = act_on w stmt (at b) version
    settled b Skips = passed (at b) (at b).db []
    settled b Waits = stopped (at b) (Blocked (Row seen.row ask.strength))
    settled b Deadlocks = stopped (at b) (Fails Deadlock)
    settled b IsNotFree = stopped (at b) (Fails (NotFree name))
    settled b Serializes = stopped (at b) (Fails NotSerializable)
    settled b (Faults fault) = stopped (at b) (Fails (OfValue fault))

    Asked_here : Type 0
    Asked_here = (db : Database) × (request : Request) × AsksAtTarget w stmt walk.db seen db request × C w.t.tx w.around.sessions db request

    row : S (stop_of name ask (outcome_at walk.db w ask))
        ↔ (IsTrue (is_worth_a_wait w.t.level (newest_version walk.db.content ask)) × (policy_of stmt ≡ Wait) × C w.t.tx w.around.sessions walk.db (Row seen.row ask.strength))
    row = tells.row walk.db w name ask

    -- where the outcome isn't that a version is taken
    stops : (o : TargetOutcome) → outcome_at walk.db w ask ≡ o → ((version : Seen) → o ≡ Takes version → ⊥) → S (stop_of name ask o) ↔ Asked_here
    stops o e never = (
      λ s. let c = row.0 (subst (λ (y : TargetOutcome). S (stop_of name ask y)) (sym e) s) in (walk.db, Row seen.row ask.strength, inl (refl, (refl, c.1, c.0)), c.2),
      λ c. elim c.2 [
        | inl k ↦ subst (λ (y : TargetOutcome). S (stop_of name ask y)) e
            (row.1 (k.1.2, k.1.1, subst (C w.t.tx w.around.sessions walk.db) k.1.0 (subst (λ (d : Database). C w.t.tx w.around.sessions d c.1) k.0 c.3)))
        | inr k ↦ absurd (never k.2 (sym e ∙ k.3))
      ],
    )

    takes : (version : Seen) → outcome_at walk.db w ask ≡ Takes version → S (act_on w stmt (at true) version).stop ↔ Asked_here
    takes version e =
        let on = acts w stmt (at true) version in (
          λ s. let c = on.0 s in (with_target walk.db w stmt seen, c.0, inr (c.1.0, c.1.1, version, e, refl, c.1.2), c.2),
          λ c. elim c.2 [
            | inl k ↦ absurd (tells.none (subst (λ (y : TargetOutcome). S (stop_of name ask y)) e
                (row.1 (k.1.2, k.1.1, subst (C w.t.tx w.around.sessions walk.db) k.1.0 (subst (λ (d : Database). C w.t.tx w.around.sessions d c.1) k.0 c.3)))))
            | inr k ↦
                let same = same_outcome k.2 version (sym k.3 ∙ e) in
                on.1 (
                  c.1,
                  (k.0, k.1, subst (λ (v : Seen). AsksToUpdate (with_target walk.db w stmt seen) w k.0 v c.1) same (subst (λ (d : Database). AsksToUpdate d w k.0 k.2 c.1) k.4 k.5)),
                  subst (λ (d : Database). C w.t.tx w.around.sessions d c.1) k.4 c.3,
                )
          ],
        )

    by : (o : TargetOutcome) → outcome_at walk.db w ask ≡ o → (b : Bool) → is_target_locked walk.db.content walk.db.held (waits_in walk.db w.around.sessions) ask ≡ b
        → S (settled b o).stop ↔ Asked_here
    by (Takes version) e true f = takes version e
    by (Takes version) e false f = absurd (not_both (sym (locks walk.db w ask version e) ∙ f)) where
      not_both : true ≡ false → ⊥
      not_both k = cc
    by Skips e b f = stops Skips e (λ v k. cc)
    by Waits e b f = stops Waits e (λ v k. cc)
    by Deadlocks e b f = stops Deadlocks e (λ v k. cc)
    by IsNotFree e b f = stops IsNotFree e (λ v k. cc)
    by Serializes e b f = stops Serializes e (λ v k. cc)
    by (Faults fault) e b f = stops (Faults fault) e (λ v k. cc)

  -- of all targets
  pub over_all : (w : Work) (stmt : StmtTree) (walk : Walk) → walk.stop ≡ None → (r : Result (List ℕ) ValueFault)
      → S (over_targets w stmt walk r).stop
      ↔ ((db : Database) × (request : Request) × AsksOverTargets w stmt walk (at_places (seen_by walk.db w) r) db request × C w.t.tx w.around.sessions db request)
  over_all w stmt walk h (Err fault) = neither (tells.other (OfValue fault) (λ e. cc)) (λ c. err_seen fault c.2.0 c.2.1)
  over_all w stmt walk h (Ok places) =
      let seen = filter_map (slice_get (seen_by walk.db w)) places in
      let on = walks (visit_target w stmt) (drop walk.place seen) walk h in (
        λ s.
            let c = on.0 s in
            let v = (visits w stmt c.0 c.1).0 c.3 in
            (v.0, v.1, (seen, refl, c.0, c.1, c.2, v.2), v.3),
        λ c.
            let k = c.2 in
            on.1 (
              k.2,
              k.3,
              subst (λ (xs : List Seen). ComesTo (visit_target w stmt) walk (drop walk.place xs) k.2 k.3) (sym (same_seen seen k.0 k.1)) k.4,
              (visits w stmt k.2 k.3).1 (c.0, c.1, k.5, c.3),
            ),
      )

  -- of an INSERT
  pub inserts : (w : Work) (i : InsertTree) (walk : Walk) → walk.stop ≡ None
      → S (over (insert_row w i) walk (drop walk.place i.rows)).stop
      ↔ ((db : Database) × (request : Request) × AsksOver w (Inserts i) walk db request × C w.t.tx w.around.sessions db request)
  inserts w i walk h =
      let on = walks (insert_row w i) (drop walk.place i.rows) walk h in (
        λ s.
            let c = on.0 s in
            let v = (put c.0.db c.0 c.1).0 c.3 in
            (c.0.db, v.0, (c.0, c.1, c.2, refl, v.1), v.2),
        λ c.
            let k = c.2 in
            let at : Database → Type 0 = λ d. AsksForKey d w None (made d k.1) c.1 × C w.t.tx w.around.sessions d c.1 in
            let v = subst at k.3 (k.4, c.3) in
            on.1 (k.0, k.1, k.2, (put k.0.db k.0 k.1).1 (c.1, v.0, v.1)),
      ) where
        made : Database → List Tree → Result (List Value) ValueFault
        made d row = new_values (length (columns_in d w)) (result_unwrap_or (columns_assigned (columns_in d w) i.columns) []) row

        put : (d : Database) (before : Walk) (row : List Tree) → S (insert_row w i before row).stop
            ↔ ((request : Request) × AsksForKey before.db w None (made before.db row) request × C w.t.tx w.around.sessions before.db request)
        put d before row = puts w (put_insert i) None (made before.db row) before
