-- What a visit keeps true of the database, and which versions a target can take.
use Rattle.std.proofs.Common.{◌≡◌, ℕ, suc, ◌<◌, ◌≤◌, ◌+◌, ◌==◌, Bool, true, false, List, [], ◌∷◌, ◌++◌, get_or, zero, length, length-append, drop, refl, ap, sym, ◌∙◌, subst, arith, inl, inr, ◌⊎◌}
use Rattle.std.specs.Prelude.{Option, Some, None, slice_get, unwrap_or, Result, Ok, Err, if◌then◌else◌}
use Rattle.std.specs.Option.{option_map_or}
use Rattle.std.proofs.lemmas.Bool.{cases_eq, eqb-true}
use Rattle.std.proofs.lemmas.List.{length-map}
use Rattle.std.proofs.lemmas.Option.{slice_get_cases, slice_get_within, same_Some}
use Rattle.sql_trees.specs.Statements.{ItemTree, UpdateTree, update_of, delete_of, select_of}
use Rattle.sql_trees.specs.declared.stmt.Level.{Level}
use Rattle.sql_trees.specs.declared.stmt.Level.TheVariants.{ReadCommitted, RepeatableRead}
use Rattle.sql_trees.specs.declared.stmt.Strength.{Strength}
use Rattle.sql_trees.specs.declared.stmt.Policy.{Policy}
use Rattle.sql_trees.specs.declared.stmt.Policy.TheVariants.{Wait, NoWait, SkipLocked}
use Rattle.sql_values.specs.declared.value.Value.{Value}
use Rattle.sql_values.specs.declared.row.Row.{Row}
use Rattle.sql_values.specs.declared.fault.ValueFault.{ValueFault}
use Rattle.row_versions.specs.declared.names.RowId.{RowId}
use Rattle.row_versions.specs.declared.names.TableId.{TableId}
use Rattle.row_versions.specs.declared.write.Write.{Write}
use Rattle.row_versions.specs.declared.write.Seen.{Seen}
use Rattle.row_versions.specs.declared.write.Fate.{Fate}
use Rattle.row_versions.specs.Log.{Content, values_at, after_write, fate_of, new_row}
use Rattle.row_versions.specs.Newest.{newest_of}
use Rattle.row_versions.specs.Members.{is_none_of}
use Rattle.row_versions.specs.Laws.{IsNewest}
use Rattle.row_versions.proofs.Last.{newest_is_the_last}
use Rattle.row_versions.proofs.Gets.{get-append_left, get-append_last}
use Rattle.row_locks.specs.declared.held.Held.{Held}
use Rattle.row_locks.specs.Waiting.{Waiting}
use Rattle.row_locks.specs.Cycles.{closes}
use Rattle.sql_trees.specs.Trees.{Tree}
use Rattle.query_results.specs.Queries.{AssignedColumn, new_values, null_in, row_values}
use Rattle.query_results.specs.Updates.{updated}
use Rattle.query_results.proofs.Placing.{length-new_values, length-updated}
use Rattle.update_recheck.specs.Asked.{Asked}
use Rattle.update_recheck.specs.Outcome.{Version, Outcome, outcome, row_blockers, held_by, stop, version_at, newest_version, target_outcome}
use Rattle.update_recheck.specs.Outcome.Version.{Same, Gone, Newer}
use Rattle.update_recheck.specs.Outcome.Outcome.{Takes, Skips, Waits, Deadlocks, NotFree, Serializes, Faults}
use Rattle.session_machine.specs.Tables.{Database, Catalog, Table}
use Rattle.session_machine.specs.Walks.{Walk}
use Rattle.session_machine.specs.Waits.{waits_in}
use Rattle.session_machine.specs.Rows.{Work, Meets, PassesOver, Putting, columns_in, cols_in, inserted, values_of, written}
use Rattle.session_machine.specs.Rows as meet
use Rattle.session_machine.specs.Inner.Statements.{keys_in, meet_keys, put_update, settled, shows, at_outcome, at_target, checked, insert_one, Visit, goes_on, walked}
use Rattle.session_machine.specs.Inner.Pieces.{unless_stopped, unless_null, unless_met, insert_made, update_made, shown_made}
use Rattle.session_machine.specs.Sound.{RowsFit, RowsStay}
use Rattle.session_statements.specs.declared.act.Act.{Act}
use Rattle.session_statements.specs.declared.act.Act.TheVariants.{Update, Delete, Lock}
use Rattle.session_statements.specs.declared.act.Visited.{Visited}
use Rattle.session_statements.specs.declared.act.Visited.TheVariants.{Passes, Shows, Stops}
use Rattle.session_statements.specs.Inner.Acting.{act_with, asked_at, asks, strength_in, table_in, visit_at, visit_of}
use Rattle.session_statements.specs.Inner.Keeping.{RowIn, RowsIn, IsOrderly, IsKept, IsAtWork, CanTake}
use Rattle.session_statements.proofs.Keeping.{columns_are, newest_fits}
use Rattle.session_statements.proofs.Lists.{drop_at}

-- of whatever is taken this holds
abbrev pub Comes : (Seen → Type 0) → Outcome → Type 0
Comes P (Takes seen) = P seen
Comes P o = Unit {0}

-- of the version that the outcome may take this holds
abbrev pub OfVersion : (Seen → Type 0) → Seen → Version → Type 0
OfVersion P found Same = P found
OfVersion P found Gone = Unit {0}
OfVersion P found (Newer m condition) = P m

-- what stops a target takes no version
held_comes : (P : Seen → Type 0) (policy : Policy) (closing : Bool)
    → Comes P (elim policy [ Wait ↦ if closing then Deadlocks else Waits | NoWait ↦ NotFree | SkipLocked ↦ Skips ])
held_comes P Wait true = tt
held_comes P Wait false = tt
held_comes P NoWait closing = tt
held_comes P SkipLocked closing = tt

stop_comes : (P : Seen → Type 0) (nobody : Bool) (held : Outcome) (o : Outcome) → Comes P held → (if nobody then None else Some held) ≡ Some o → Comes P o
stop_comes P true held o h e = cc
stop_comes P false held o h e = subst (Comes P) (same_Some held o e) h

outcome_comes : (P : Seen → Type 0) (level : Level) (found : Seen) (s : Option Outcome) (v : Version) → ((o : Outcome) → s ≡ Some o → Comes P o) → OfVersion P found v
    → Comes P (outcome level found s v)
outcome_comes P level found (Some o) Same h p = h o refl
outcome_comes P level found None Same h p = p
outcome_comes P RepeatableRead found s Gone h p = tt
outcome_comes P RepeatableRead found s (Newer m r) h p = tt
outcome_comes P ReadCommitted found (Some o) Gone h p = h o refl
outcome_comes P ReadCommitted found None Gone h p = tt
outcome_comes P ReadCommitted found (Some o) (Newer m (Ok true)) h p = h o refl
outcome_comes P ReadCommitted found None (Newer m (Ok true)) h p = p
outcome_comes P ReadCommitted found (Some o) (Newer m (Ok false)) h p = h o refl
outcome_comes P ReadCommitted found None (Newer m (Ok false)) h p = tt
outcome_comes P ReadCommitted found (Some o) (Newer m (Err fault)) h p = h o refl
outcome_comes P ReadCommitted found None (Newer m (Err fault)) h p = tt

at_place : (P : Seen → Type 0) (found m : Seen) (r : Result Bool ValueFault) (b : Bool) → (m.place == found.place) ≡ b → P m → (m.place ≡ found.place → P found)
    → OfVersion P found (if b then Same else Newer m r)
at_place P found m r true e p q = q (eqb-true m.place found.place e)
at_place P found m r false e p q = p

version_comes : (P : Seen → Type 0) (c : Content) (a : Asked) (m : Seen) (o : Option (List Value)) → values_at c m.place ≡ o
    → ((values : List Value) → values_at c m.place ≡ Some values → P m × (m.place ≡ a.seen.place → P a.seen)) → OfVersion P a.seen (version_at a m o)
version_comes P c a m None e h = tt
version_comes P c a m (Some values) e h = at_place P a.seen m _ (m.place == a.seen.place) refl (h values e).0 (h values e).1

newest_comes : (P : Seen → Type 0) (c : Content) (a : Asked) (o : Option Seen)
    → ((m : Seen) → o ≡ Some m → (values : List Value) → values_at c m.place ≡ Some values → P m × (m.place ≡ a.seen.place → P a.seen)) → OfVersion P a.seen (option_map_or (λ (m : Seen). version_at a m (values_at c m.place)) o Gone)
newest_comes P c a None h = tt
newest_comes P c a (Some m) h = version_comes P c a m (values_at c m.place) refl (h m refl)

-- the version is one of a row of the table, and has a value for each column
abbrev pub IsFit : Database → Work → Seen → Type 0
IsFit db w seen = RowIn db.content w.table seen.row × (length (values_of db seen) ≡ length (columns_in db w))

pub outcome_fits : (db : Database) (w : Work) (act : Act) (strength : Strength) (seen : Seen) (waits : List Waiting) → IsOrderly db → RowIn db.content w.table seen.row
    → Comes (IsFit db w) (target_outcome db.content db.held waits (asked_at db w act strength seen))
outcome_fits db w act strength seen waits orderly its =
    let a = asked_at db w act strength seen in
    let by = row_blockers db.held a in
    outcome_comes (IsFit db w) w.t.level seen (stop db.held waits a) (newest_version db.content a)
    (λ o e. stop_comes (IsFit db w) (is_none_of by) (held_by waits a by) o (held_comes (IsFit db w) a.policy (closes waits a.tx by)) e)
    (newest_comes (IsFit db w) db.content a (newest_of db.content seen.row w.t.tx) newest) where
      long : (m : Seen) (values : List Value) → newest_of db.content seen.row w.t.tx ≡ Some m → values_at db.content m.place ≡ Some values → length (values_of db m) ≡ length (columns_in db w)
      long m values e has =
          ap (λ (o : Option (List Value)). length (unwrap_or o [])) has
          ∙ newest_fits db w seen.row w.t.tx orderly its m values e has
          ∙ length-map (columns_in db w) _

      row_of : (m : Seen) → newest_of db.content seen.row w.t.tx ≡ Some m → m.row ≡ seen.row
      row_of m e = let h : IsNewest db.content seen.row w.t.tx m = ((newest_is_the_last db.content seen.row w.t.tx).0 m).0 e in h.named

      newest : (m : Seen) → newest_of db.content seen.row w.t.tx ≡ Some m → (values : List Value) → values_at db.content m.place ≡ Some values
          → IsFit db w m × (m.place ≡ seen.place → IsFit db w seen)
      newest m e values has = (
        (subst (λ r. RowIn db.content w.table r) (sym (row_of m e)) its, long m values e has),
        λ same. (its, ap (λ (p : ℕ). length (unwrap_or (values_at db.content p) [])) (sym same) ∙ long m values e has),
      )

can_take_of : (db : Database) (held : List Held) (w : Work) (o : Outcome) → Comes (IsFit db w) o → CanTake (record db { held = held }) w o
can_take_of db held w (Takes seen) h = h.1
can_take_of db held w Skips h = tt
can_take_of db held w Waits h = tt
can_take_of db held w Deadlocks h = tt
can_take_of db held w NotFree h = tt
can_take_of db held w Serializes h = tt
can_take_of db held w (Faults fault) h = tt

-- the version that a target takes has a value for each column
pub can_take : (db e : Database) (w : Work) (act : Act) (strength : Strength) (seen : Seen) (o : Outcome) → IsAtWork db w → RowIn db.content w.table seen.row
    → e ≡ settled db w (asked_at db w act strength seen) → o ≡ target_outcome db.content db.held (waits_in db w.around.sessions) (asked_at db w act strength seen) → CanTake e w o
can_take db e w act strength seen o work its same is =
    subst (λ d. CanTake d w o) (sym same)
    (can_take_of db (settled db w (asked_at db w act strength seen)).held w o
    (subst (Comes (IsFit db w)) (sym is) (outcome_fits db w act strength seen (waits_in db w.around.sessions) work.running.orderly its)))

-- a target that was settled as it was wanted is visited
pub visited : (db e : Database) (w : Work) (act : Act) (strength : Strength) (seen : Seen) (o : Outcome) → strength ≡ strength_in db w act seen.row
    → e ≡ settled db w (asked_at db w act strength seen) → o ≡ target_outcome db.content db.held (waits_in db w.around.sessions) (asked_at db w act strength seen)
    → at_outcome (table_in act) (act_with w act) e (asked_at e w act strength seen) o ≡ visit_at w act db seen
visited db e w act strength seen o wanted same is =
    let name = table_in act in
    let does = act_with w act in
    ap (λ (d : Database). at_outcome name does d (asked_at d w act strength seen) o) same
    ∙ ap (at_outcome name does (settled db w (asked_at db w act strength seen)) (asked_at db w act strength seen)) is
    ∙ ap (λ (x : Strength). at_target name does db w (asked_at db w act x seen)) wanted

get-append_at : {A : Type 0} (xs ys : List A) (i : ℕ) (x : A) → slice_get xs i ≡ Some x → slice_get (xs ++ ys) i ≡ Some x
get-append_at [] ys i x h = cc
get-append_at (y ∷ xs) ys zero x h = h
get-append_at (y ∷ xs) ys (suc i) x h = get-append_at xs ys i x h

-- what stands in a log with a last write: a write from before, or that one
last_or_before : (c : Content) (new : Write) (place : ℕ) (w : Write) → slice_get (after_write c new).log place ≡ Some w → (slice_get c.log place ≡ Some w) ⊎ (new ≡ w)
last_or_before c new place w there =
    elim (cases_eq place (length c.log)) [
      | inl last ↦ inr (same_Some new w (sym (get-append_last c.log new) ∙ (ap (slice_get (c.log ++ new ∷ [])) (sym last) ∙ there)))
      | inr other ↦
          let within = slice_get_within (c.log ++ new ∷ []) place w there in
          let long = length-append c.log (new ∷ []) in
          inl (sym (get-append_left c.log (new ∷ []) place (omega arith)) ∙ there)
    ]

-- a row of a table is one of it after another write
row_in_written : (c : Content) (new : Write) (row : RowId) (k : ℕ) → RowIn c k row → RowIn (after_write c new) k row
row_in_written c new row k its = (its.0, get-append_at c.log (new ∷ []) row.0 its.0 its.1, its.2)

abbrev Found : List Table → ℕ → Type 0
Found tables k = (t : Table) × (slice_get tables k ≡ Some t)

table_at : (tables : List Table) (k : ℕ) → k < length tables → Found tables k
table_at tables k within = by (slice_get_cases tables k).1 where
  by : ((t : Table) × (k < length tables) × (slice_get tables k ≡ Some t) × (get_or tables k t ≡ t)) ⊎ ((length tables ≤ k) × (slice_get tables k ≡ None)) → Found tables k
  by (inl w) = (w.0, w.2)
  by (inr w) = let past : length tables ≤ k = w.0 in absurd (omega arith)

-- a write more fits if what it gives does
fit_written : (c : Content) (catalog : Catalog) (table : Table) (new : Write) → RowsFit c catalog → slice_get catalog.tables new.table.0 ≡ Some table
    → ((values : List Value) → new.values ≡ Some values → length values ≡ length table.made.columns) → RowsFit (after_write c new) catalog
fit_written c catalog table new fit at long place w vs there its =
    elim (last_or_before c new place w there) [
      | inl before ↦ fit place w vs before its
      | inr e ↦ (table, ap (λ (v : Write). slice_get catalog.tables v.table.0) (sym e) ∙ at, long vs (ap (λ (v : Write). v.values) e ∙ its))
    ]

-- and stays if its row is one of its table
stay_written : (c : Content) (new : Write) → RowsStay c → (let d = after_write c new in (first : Write) × (slice_get d.log new.row.0 ≡ Some first) × (first.table ≡ new.table))
    → RowsStay (after_write c new)
stay_written c new stay first place w there =
    elim (last_or_before c new place w there) [
      | inl before ↦ let f = stay place w before in (f.0, get-append_at c.log (new ∷ []) w.row.0 f.0 f.1, f.2)
      | inr e ↦ subst (λ (v : Write). (let d = after_write c new in (f : Write) × (slice_get d.log v.row.0 ≡ Some f) × (f.table ≡ v.table))) e first
    ]

-- nothing is written
pub kept_here : (db : Database) → IsOrderly db → IsKept db db
kept_here db orderly = record { fates = refl; catalog = refl; orderly = orderly; rows = λ row k h. h }

-- one after the other
pub kept_on : (a b c : Database) → IsKept a b → IsKept b c → IsKept a c
kept_on a b c h k = record { fates = k.fates ∙ h.fates; catalog = k.catalog ∙ h.catalog; orderly = k.orderly; rows = λ row n i. k.rows row n (h.rows row n i) }

same_table : (a b : TableId) → a.0 ≡ b.0 → a ≡ b
same_table a b h = let of : ℕ → TableId = λ n. record { 0 = n } in ap of h

-- more locks
kept_held : (db : Database) (held : List Held) → IsOrderly db → IsKept db (record db { held = held })
kept_held db held orderly = record { fates = refl; catalog = refl; orderly = orderly; rows = λ row k h. h }

-- a statement stays at work
pub still_at_work : (before after : Database) (w : Work) → IsKept before after → IsAtWork before w → IsAtWork after w
still_at_work before after w kept work = record {
  running = record {
    opened = ap (λ (fates : List Fate). fate_of fates w.t.tx) kept.fates ∙ work.running.opened;
    room = work.running.room;
    orderly = kept.orderly;
  };
  within = subst (λ (x : Catalog). w.table < length x.tables) (sym kept.catalog) work.within;
}

held_at_work : (db : Database) (held : List Held) (w : Work) → IsAtWork db w → IsAtWork (record db { held = held }) w
held_at_work db held w work = still_at_work db (record db { held = held }) w (kept_held db held work.running.orderly) work

-- also once a target is settled
pub settled_at_work : (db e : Database) (w : Work) (act : Act) (strength : Strength) (seen : Seen) → e ≡ settled db w (asked_at db w act strength seen) → IsAtWork db w → IsAtWork e w
settled_at_work db e w act strength seen same work =
    subst (λ d. IsAtWork d w) (sym same) (held_at_work db (settled db w (asked_at db w act strength seen)).held w work)

abbrev write_in : Work → RowId → Option (List Value) → Write
write_in w row values = record { tx = w.t.tx; command = w.t.command; table = record { 0 = w.table }; row = row; values = values }

-- a row is written that then is one of the table
kept_written : (db : Database) (w : Work) (row : RowId) (values : Option (List Value)) → IsAtWork db w → RowIn (after_write db.content (write_in w row values)) w.table row
    → ((vs : List Value) → values ≡ Some vs → length vs ≡ length (columns_in db w)) → IsKept db (written db w row values)
kept_written db w row values work its long =
    let new = write_in w row values in
    let t = table_at db.catalog.tables w.table work.within in
    record {
      fates = refl;
      catalog = refl;
      orderly = (
        fit_written db.content db.catalog t.0 new work.running.orderly.0 t.1 (λ vs h. long vs h ∙ columns_are db.catalog w.table t.0 t.1),
        stay_written db.content new work.running.orderly.1 (its.0, its.1, same_table its.0.table new.table its.2),
      );
      rows = λ r k h. row_in_written db.content new r k h;
    }

-- one that was
kept_again : (db : Database) (w : Work) (row : RowId) (values : Option (List Value)) → IsAtWork db w → RowIn db.content w.table row
    → ((vs : List Value) → values ≡ Some vs → length vs ≡ length (columns_in db w)) → IsKept db (written db w row values)
kept_again db w row values work its = kept_written db w row values work (row_in_written db.content (write_in w row values) row w.table its)

-- and a new one, which its transaction holds
kept_inserted : (db : Database) (w : Work) (values : List Value) → IsAtWork db w → length values ≡ length (columns_in db w) → IsKept db (inserted db w values)
kept_inserted db w values work long =
    let row = new_row db.content in
    let new = write_in w row (Some values) in
    let after = written db w row (Some values) in
    let kept = kept_written db w row (Some values) work (new, get-append_last db.content.log new, refl) (λ vs is. ap length (sym (same_Some values vs is)) ∙ long) in
    kept_on db after (inserted db w values) kept (kept_held after (inserted db w values).held kept.orderly)

-- what may come of a version that is taken
abbrev CanAct : Database → Work → Seen → Type 0
CanAct db w seen = IsAtWork db w × IsFit db w seen

unless_null_keeps : (name : List ℕ) (db : Database) (due : Visit) (o : Option (List ℕ)) → IsOrderly db → IsKept db due.db → IsKept db (unless_null name db due o).db
unless_null_keeps name db due (Some column) h k = kept_here db h
unless_null_keeps name db due None h k = k

-- a row that isn't written leaves all as it is
met_keeps : (db : Database) (due : Visit) (o : Option Meets) → IsOrderly db → IsKept db due.db → IsKept db (unless_met db due o).db
met_keeps db due (Some (meet.Stops stop)) h k = kept_here db h
met_keeps db due (Some PassesOver) h k = kept_here db h
met_keeps db due None h k = k

shown_keeps : (before db : Database) (r : Result (List Value) ValueFault) → IsKept before db → IsKept before (shown_made db r).db
shown_keeps before db (Err fault) k = k
shown_keeps before db (Ok row) k = k

-- so does what is answered for a row
shows_keeps : (w : Work) (items : Option (List ItemTree)) (before db : Database) (row : List Value) → IsKept before db → IsKept before (shows w items db row).db
shows_keeps w None before db row k = k
shows_keeps w (Some items) before db row k = shown_keeps before db (row_values (cols_in db w) items row) k

-- nor does a row that is put where it may be
put_keeps : (w : Work) (put : Putting) (db : Database) (except : Option RowId) (values : List Value) (after : Database) → IsOrderly db → IsKept db after
    → IsKept db (checked w put db except values after).db
put_keeps w put db except values after orderly kept =
    unless_null_keeps put.table db _ (null_in (columns_in db w) values) orderly
    (met_keeps db (shows w put.returning after values) (meet_keys db w put values except (keys_in db w)) orderly (shows_keeps w put.returning db after values kept))

update_keeps : (w : Work) (u : UpdateTree) (targets : List AssignedColumn) (db : Database) (seen : Seen) (r : Result (List Value) ValueFault)
    → updated (cols_in db w) targets u.sets (values_of db seen) ≡ r → CanAct db w seen → IsKept db (update_made w (put_update u) db seen.row r).db
update_keeps w u targets db seen (Err fault) e h = kept_here db h.0.running.orderly
update_keeps w u targets db seen (Ok values) e h =
    put_keeps w (put_update u) db (Some seen.row) values (written db w seen.row (Some values)) h.0.running.orderly
    (kept_again db w seen.row (Some values) h.0 h.1.0
    (λ vs is. ap length (sym (same_Some values vs is)) ∙ length-updated (cols_in db w) targets u.sets (values_of db seen) values e ∙ h.1.1))

insert_keeps : (w : Work) (put : Putting) (to : List AssignedColumn) (db : Database) (row : List Tree) (r : Result (List Value) ValueFault)
    → new_values (length (columns_in db w)) to row ≡ r → IsAtWork db w → IsKept db (insert_made w put db r).db
insert_keeps w put to db row (Err fault) e work = kept_here db work.running.orderly
insert_keeps w put to db row (Ok values) e work =
    put_keeps w put db None values (inserted db w values) work.running.orderly (kept_inserted db w values work (length-new_values (length (columns_in db w)) to row values e))

none_some : {A : Type 0} (x : A) → None ≡ Some x → ⊥
none_some x h = cc

act_keeps : (w : Work) (act : Act) (db : Database) (seen : Seen) → CanAct db w seen → IsKept db (act_with w act db seen).db
act_keeps w (Update u targets) db seen h = update_keeps w (update_of u.now) targets.now db seen _ refl h
act_keeps w (Delete d) db seen h =
    shows_keeps w (delete_of d.now).returning db (written db w seen.row None) (values_of db seen)
    (kept_again db w seen.row None h.0 h.1.0 (λ vs is. absurd (none_some vs is)))
act_keeps w (Lock s l) db seen h = shows_keeps w (Some (select_of s.now).items) db db (values_of db seen) (kept_here db h.0.running.orderly)

outcome_keeps : (w : Work) (act : Act) (db : Database) (a : Asked) (o : Outcome) → IsAtWork db w → Comes (IsFit db w) o → IsKept db (at_outcome (table_in act) (act_with w act) db a o).db
outcome_keeps w act db a (Takes seen) work h = act_keeps w act db seen (work, h)
outcome_keeps w act db a Skips work h = kept_here db work.running.orderly
outcome_keeps w act db a Waits work h = kept_here db work.running.orderly
outcome_keeps w act db a Deadlocks work h = kept_here db work.running.orderly
outcome_keeps w act db a NotFree work h = kept_here db work.running.orderly
outcome_keeps w act db a Serializes work h = kept_here db work.running.orderly
outcome_keeps w act db a (Faults fault) work h = kept_here db work.running.orderly

-- a target is visited
visit_keeps : (db : Database) (w : Work) (act : Act) (seen : Seen) → IsAtWork db w → RowIn db.content w.table seen.row → IsKept db (visit_at w act db seen).db
visit_keeps db w act seen work its =
    let a = asks db w act seen in
    let held = (settled db w a).held in
    let waits = waits_in db w.around.sessions in
    kept_on db (record db { held = held }) _ (kept_held db held work.running.orderly)
    (outcome_keeps w act (record db { held = held }) a (target_outcome db.content db.held waits a) (held_at_work db held w work)
    (outcome_fits db w act (strength_in db w act seen.row) seen waits work.running.orderly its))

visit_db : (db : Database) (v : Visited) → (visit_of db v).db ≡ db
visit_db db Passes = refl
visit_db db (Shows row) = refl
visit_db db (Stops stop) = refl

-- the same, by what came of it
kept_by : (db e : Database) (visit : Visit) (v : Visited) → visit ≡ visit_of e v → IsKept db visit.db → IsKept db e
kept_by db e visit v same = subst (IsKept db) (ap (λ (x : Visit). x.db) same ∙ visit_db e v)

pub get_or_any : {A : Type 0} (xs : List A) (i : ℕ) (a b : A) → i < length xs → get_or xs i a ≡ get_or xs i b
get_or_any [] i a b l = absurd (omega (arith, l))
get_or_any (x ∷ xs) zero a b l = refl
get_or_any (x ∷ xs) (suc i) a b l = get_or_any xs i a b (omega (arith, l))

-- the same from the beginning of a walk on
pub kept_step : (db d e : Database) (w : Work) (act : Act) (targets : List Seen) (at : ℕ) (other : Seen) (v : Visited) → IsAtWork db w → RowsIn db.content w.table targets
    → IsKept db d → at < length targets → visit_at w act d (get_or targets at other) ≡ visit_of e v → IsKept db e
kept_step db d e w act targets at other v work its kept below same =
    let seen = get_or targets at other in
    kept_on db d e kept
    (kept_by d e (visit_at w act d seen) v same (visit_keeps d w act seen (still_at_work db d w kept work) (kept.rows seen.row w.table (its at other below))))

-- and at a row of VALUES
pub kept_row : (db d e : Database) (w : Work) (put : Putting) (to : List AssignedColumn) (row : List Tree) (v : Visited) → IsAtWork db w
    → IsKept db d → insert_one w put to d row ≡ visit_of e v → IsKept db e
kept_row db d e w put to row v work kept same =
    kept_on db d e kept (kept_by d e (insert_one w put to d row) v same (insert_keeps w put to d row _ refl (still_at_work db d w kept work)))

pub append_none : {A : Type 0} (xs : List A) → xs ++ [] ≡ xs
append_none [] = refl
append_none (x ∷ xs) = ap (λ ys. x ∷ ys) (append_none xs)

abbrev pub stepped : {A : Type 0} → (Database → A → Visit) → ℕ → List (List Value) → List A → Visit → Walk
stepped visit at rows rest v = unless_stopped v at rows v.stop (walked visit v.db (at + 1) (rows ++ v.rows) rest)

-- a walk goes on behind a target that doesn't stop it
pub walk_step : {A : Type 0} (visit : Database → A → Visit) (db e : Database) (targets : List A) (at : ℕ) (other : A) (rows more : List (List Value)) → at < length targets
    → visit db (get_or targets at other) ≡ goes_on e more → walked visit e (at + 1) (rows ++ more) (drop (at + 1) targets) ≡ walked visit db at rows (drop at targets)
walk_step visit db e targets at other rows more below same =
    let seen = get_or targets at other in
    sym (ap (walked visit db at rows) (drop_at targets at seen below (get_or_any targets at other seen below)) ∙ ap (stepped visit at rows (drop (at + 1) targets)) same)

pub walk_passes : (w : Work) (act : Act) (db e : Database) (targets : List Seen) (at : ℕ) (other : Seen) (rows after : List (List Value)) (v : Visited) → at < length targets
    → visit_at w act db (get_or targets at other) ≡ visit_of e v → v ≡ Passes → rows ≡ after
    → walked (visit_at w act) e (at + 1) after (drop (at + 1) targets) ≡ walked (visit_at w act) db at rows (drop at targets)
walk_passes w act db e targets at other rows after v below same is rows_are =
    ap (λ rs. walked (visit_at w act) e (at + 1) rs (drop (at + 1) targets)) (sym rows_are ∙ sym (append_none rows))
    ∙ walk_step (visit_at w act) db e targets at other rows [] below (same ∙ ap (visit_of e) is)

pub walk_shows : (w : Work) (act : Act) (db e : Database) (targets : List Seen) (at : ℕ) (other : Seen) (rows after : List (List Value)) (v : Visited) (row : Row) → at < length targets
    → visit_at w act db (get_or targets at other) ≡ visit_of e v → v ≡ Shows row → after ≡ rows ++ row ∷ []
    → walked (visit_at w act) e (at + 1) after (drop (at + 1) targets) ≡ walked (visit_at w act) db at rows (drop at targets)
walk_shows w act db e targets at other rows after v row below same is rows_are =
    ap (λ rs. walked (visit_at w act) e (at + 1) rs (drop (at + 1) targets)) rows_are
    ∙ walk_step (visit_at w act) db e targets at other rows (row ∷ []) below (same ∙ ap (visit_of e) is)
