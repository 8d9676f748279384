-- What a statement at work keeps, from one of its targets to the next.
use Rattle.std.proofs.Common.{◌≡◌, ℕ, ◌+◌, List, [], ◌∷◌, ◌++◌, length, drop, zero, suc, refl, ap, sym, ◌∙◌, subst}
use Rattle.std.specs.Prelude.{Option, Some, None, unwrap_or, slice_get, filter_map, Result, Ok, Err}
use Rattle.std.proofs.lemmas.Option.{slice_get_within, same_Some, get_or_from_slice_get}
use Rattle.std.specs.List.{cons_option}
use Rattle.sql_trees.specs.declared.stmt.Lock.{Lock}
use Rattle.sql_trees.specs.declared.stmt.Strength.TheVariants.{Update}
use Rattle.sql_trees.specs.declared.stmt.Policy.TheVariants.{Wait}
use Rattle.sql_trees.specs.Trees.{Tree}
use Rattle.sql_trees.specs.Statements.{CreateTree, ItemTree, UpdateTree, DeleteTree, SelectTree}
use Rattle.sql_values.specs.declared.value.Value.{Value}
use Rattle.sql_values.specs.declared.fault.ValueFault.{ValueFault}
use Rattle.query_results.specs.Queries.{AssignedColumn, new_values, null_in, row_values}
use Rattle.query_results.specs.Updates.{updated}
use Rattle.row_versions.specs.declared.names.RowId.{RowId}
use Rattle.row_versions.specs.declared.names.TableId.{TableId}
use Rattle.row_versions.specs.declared.write.Write.{Write}
use Rattle.row_versions.specs.declared.write.Seen.{Seen}
use Rattle.row_versions.specs.declared.write.View.{View}
use Rattle.row_versions.specs.Log.{Content, new_row, after_write}
use Rattle.row_versions.specs.Laws.{IsShown}
use Rattle.row_versions.specs.Rows.{rows_of}
use Rattle.row_versions.proofs.Gets.{get-append_last}
use Rattle.row_versions.proofs.Seeing.{same_table}
use Rattle.row_versions.proofs.Shown.{shown_from_rows}
use Rattle.row_locks.specs.declared.held.Held.{Held}
use Rattle.update_recheck.specs.Asked.{Asked}
use Rattle.update_recheck.specs.Outcome.{Outcome, target_outcome}
use Rattle.update_recheck.specs.Outcome.Outcome.{Takes, Skips, Waits, Deadlocks, NotFree, Serializes, Faults}
use Rattle.session_machine.specs.declared.session.OpenTransaction.{OpenTransaction}
use Rattle.session_machine.specs.Tables.{Database, Table}
use Rattle.session_machine.specs.Waits.{waits_in}
use Rattle.session_machine.specs.Walks.{Stop}
use Rattle.session_machine.specs.Rows.{Work, Meets, Stops, PassesOver, Putting, columns_in, cols_in, written, inserted, values_of, update_strength}
use Rattle.session_machine.specs.Inner.Statements.{walked_from, keys_in, meet_keys, shows, put_update, insert_one, ask, settled, at_outcome, at_target, update_with, update_one, delete_with, delete_one, lock_with, lock_one, Visit, walked}
use Rattle.session_machine.specs.Targets.{seen_by, at_places, passing_targets, taken_targets}
use Rattle.session_machine.specs.Inner.Pieces.{unless_stopped, unless_met, unless_null, insert_made, update_made, shown_made, with_table, with_drop}
use Rattle.session_machine.specs.Sound.{RowsFit, RowsStay}
use Rattle.session_laws.proofs.Lists.{slice_get-append_left}
use Rattle.session_laws.proofs.Fitting.{IsRowOf, fits_at, its_values, fit_written, stay_written, columns_are}
use Rattle.query_results.proofs.Placing.{length-new_values, length-updated}
use Rattle.session_laws.proofs.Taking.{IsVersion, takes_version}

-- a write of a transaction
abbrev pub write_by : OpenTransaction → ℕ → RowId → Option (List Value) → Write
write_by t k row values = record { tx = t.tx; command = t.command; table = record { 0 = k }; row = row; values = values }

-- what holds of a database whatever the transaction locks, writes, makes or drops in it
pub record Lasts (t : OpenTransaction) (P : Database → Type 0) : Type 0 where
  pub lock : (db : Database) (held : List Held) → P db → P (record db { held = held })
  pub write : (db : Database) (k : ℕ) (row : RowId) (values : Option (List Value)) → P db → P (record db { content = after_write db.content (write_by t k row values) })
  pub made : (db : Database) (made : CreateTree) → P db → P (record db { catalog = with_table db.catalog made t.tx })
  pub dropped : (db : Database) (k : ℕ) → P db → P (record db { catalog = with_drop db.catalog k t.tx })

-- a database in which a statement is at work at the table, since this content
pub record Works (start : Content) (k : ℕ) (table : Table) (P : Database → Type 0) (db : Database) : Type 0 where
  pub fit : RowsFit db.content db.catalog
  pub stay : RowsStay db.content
  pub there : slice_get db.catalog.tables k ≡ Some table
  pub rows : (row : ℕ) → IsRowOf start k row → IsRowOf db.content k row
  pub holds : P db

-- each element is so
abbrev pub Each : {A : Type 0} → (A → Type 0) → List A → Type 0
Each R [] = Unit {0}
Each R (x ∷ xs) = R x × Each R xs

-- what each visit keeps the walk keeps
pub walked_keeps : {A : Type 0} (Q : Database → Type 0) (R : A → Type 0) (visit : Database → A → Visit) → ((db : Database) (x : A) → R x → Q db → Q (visit db x).db)
    → (xs : List A) → Each R xs → (db : Database) (place : ℕ) (rows : List (List Value)) → Q db → Q (walked visit db place rows xs).db
walked_keeps Q R visit keeps [] each db place rows h = h
walked_keeps Q R visit keeps (x ∷ xs) each db place rows h =
    at_stop (visit db x).stop (walked_keeps Q R visit keeps xs each.1 (visit db x).db (place + 1) (rows ++ (visit db x).rows) (keeps db x each.0 h)) where
      at_stop : (o : Option Stop) → Q (walked visit (visit db x).db (place + 1) (rows ++ (visit db x).rows) xs).db
          → Q (unless_stopped (visit db x) place rows o (walked visit (visit db x).db (place + 1) (rows ++ (visit db x).rows) xs)).db
      at_stop (Some stop) behind = keeps db x each.0 h
      at_stop None behind = behind

each_drop : {A : Type 0} (R : A → Type 0) (n : ℕ) (xs : List A) → Each R xs → Each R (drop n xs)
each_drop R zero xs h = h
each_drop R (suc n) [] h = h
each_drop R (suc n) (x ∷ xs) h = each_drop R n xs h.1

abbrev pub EachOk : {A : Type 0} → (A → Type 0) → Result (List A) ValueFault → Type 0
EachOk R (Ok xs) = Each R xs
EachOk R (Err fault) = Unit {0}

pub walked_from_keeps : {A : Type 0} (Q : Database → Type 0) (R : A → Type 0) (visit : Database → A → Visit) → ((db : Database) (x : A) → R x → Q db → Q (visit db x).db)
    → (r : Result (List A) ValueFault) → EachOk R r → (db : Database) (place : ℕ) (rows : List (List Value)) → Q db → Q (walked_from visit db place rows r).db
walked_from_keeps Q R visit keeps (Ok xs) each db place rows h = walked_keeps Q R visit keeps (drop place xs) (each_drop R place xs each) db place rows h
walked_from_keeps Q R visit keeps (Err fault) each db place rows h = h

-- what is found at places is of the list
each_found : {A : Type 0} (R : A → Type 0) (all : List A) → ((i : ℕ) (x : A) → slice_get all i ≡ Some x → R x) → (places : List ℕ) → Each R (filter_map (slice_get all) places)
each_found {A = A} R all h [] = tt
each_found {A = A} R all h (p ∷ places) = put (slice_get all p) refl (each_found R all h places) where
  put : (o : Option A) → slice_get all p ≡ o → Each R (filter_map (slice_get all) places) → Each R (cons_option o (filter_map (slice_get all) places))
  put None e rest = rest
  put (Some x) e rest = (h p x e, rest)

-- a version whose row is of the table
abbrev pub SeenOf : Content → ℕ → Seen → Type 0
SeenOf c k s = IsRowOf c k s.row.0

seen_of : (c : Content) (view : View) (k : ℕ) → RowsStay c → (i : ℕ) (s : Seen) → slice_get (rows_of c view (record { 0 = k })) i ≡ Some s → SeenOf c k s
seen_of c view k stay i s at =
    let table : TableId = record { 0 = k } in
    let shown : IsShown c view table s = shown_from_rows c view table s (i, slice_get_within (rows_of c view table) i s at, get_or_from_slice_get (rows_of c view table) i s s at) in
    let first = stay s.place shown.write shown.there in
    (first.0, ap (λ (r : RowId). slice_get c.log r.0) (sym shown.its_row) ∙ first.1, ap (λ (x : TableId). x.0) (first.2 ∙ shown.its_table))

each_at : (c : Content) (k : ℕ) (all : List Seen) → ((i : ℕ) (s : Seen) → slice_get all i ≡ Some s → SeenOf c k s) → (r : Result (List ℕ) ValueFault) → EachOk (SeenOf c k) (at_places all r)
each_at c k all h (Ok places) = each_found (SeenOf c k) all h places
each_at c k all h (Err fault) = tt

pub passing_of : (db : Database) (w : Work) (filter : Option Tree) → RowsStay db.content → EachOk (SeenOf db.content w.table) (passing_targets db w filter)
passing_of db w filter stay = each_at db.content w.table (seen_by db w) (seen_of db.content w.view w.table stay) _

pub taken_of : (db : Database) (w : Work) (s : SelectTree) → RowsStay db.content → EachOk (SeenOf db.content w.table) (taken_targets db w s)
taken_of db w s stay = each_at db.content w.table (seen_by db w) (seen_of db.content w.view w.table stay) _

module _ (start : Content) (w : Work) (table : Table) (P : Database → Type 0) (lasts : Lasts w.t P) where
  abbrev W : Database → Type 0
  W db = Works start w.table table P db

  works_lock : (db : Database) (held : List Held) → W db → W (record db { held = held })
  works_lock db held h = record { fit = h.fit; stay = h.stay; there = h.there; rows = h.rows; holds = lasts.lock db held h.holds }

  works_write : (db : Database) (row : RowId) (values : Option (List Value)) → W db → IsRowOf (after_write db.content (write_by w.t w.table row values)) w.table row.0
      → ((vs : List Value) → values ≡ Some vs → length vs ≡ length table.made.columns) → W (written db w row values)
  works_write db row values h its long =
      let new = write_by w.t w.table row values in
      record {
        fit = fit_written db.content db.catalog table new h.fit h.there long;
        stay = stay_written db.content new h.stay (its.0, its.1, same_table its.0.table (record { 0 = w.table }) its.2);
        there = h.there;
        rows = λ r of. let x = h.rows r of in (x.0, slice_get-append_left db.content.log (new ∷ []) r x.0 x.1, x.2);
        holds = lasts.write db w.table row values h.holds;
      }

  -- what is answered for a row leaves the database as it is
  works_shown : (items : Option (List ItemTree)) (db : Database) (row : List Value) → W db → W (shows w items db row).db
  works_shown None db row h = h
  works_shown (Some items) db row h = at_row (row_values (cols_in db w) items row) where
    at_row : (r : Result (List Value) ValueFault) → W (shown_made db r).db
    at_row (Err fault) = h
    at_row (Ok shown) = h

  -- a row that is about to be written: its NULLs and its keys are checked
  works_checked : (name : List ℕ) (db : Database) (due : Visit) (met : Option Meets) (null : Option (List ℕ)) → W db → W due.db → W (unless_null name db (unless_met db due met) null).db
  works_checked name db due met (Some column) h k = h
  works_checked name db due (Some (Stops stop)) None h k = h
  works_checked name db due (Some PassesOver) None h k = h
  works_checked name db due None None h k = k

  works_insert : (put : Putting) (targets : List AssignedColumn) (db : Database) (row : List Tree) → W db → W (insert_one w put targets db row).db
  works_insert put targets db row h = at_values (new_values (length (columns_in db w)) targets row) refl where
    long : (values : List Value) → new_values (length (columns_in db w)) targets row ≡ Ok values → length values ≡ length table.made.columns
    long values e = length-new_values (length (columns_in db w)) targets row values e ∙ ap length (columns_are db.catalog w.table table h.there)

    writes : (values : List Value) → length values ≡ length table.made.columns → W (inserted db w values)
    writes values l =
        let new = write_by w.t w.table (new_row db.content) (Some values) in
        works_lock (written db w (new_row db.content) (Some values)) _
        (works_write db (new_row db.content) (Some values) h (new, get-append_last db.content.log new, refl) (λ vs e. ap length (sym (same_Some values vs e)) ∙ l))

    at_values : (r : Result (List Value) ValueFault) → new_values (length (columns_in db w)) targets row ≡ r → W (insert_made w put db r).db
    at_values (Err fault) e = h
    at_values (Ok values) e =
        let after = inserted db w values in
        works_checked put.table db (shows w put.returning after values) (meet_keys db w put values None (keys_in db w)) (null_in (columns_in db w) values) h
        (works_shown put.returning after values (writes values (long values e)))

  -- a row that is of the table, with a version that has a value for each column
  abbrev Acts : (Database → Seen → Visit) → Type 0
  Acts act = (db : Database) (s : Seen) → W db → IsRowOf db.content w.table s.row.0 → length (values_of db s) ≡ length table.made.columns → W (act db s).db

  works_target : (name : List ℕ) (act : Database → Seen → Visit) → Acts act → (db : Database) (a : Asked) → SeenOf start w.table a.seen → W db → W (at_target name act db w a).db
  works_target name act acts db a of h = at_case (target_outcome db.content db.held (waits_in db w.around.sessions) a) refl where
    is_settled : W (settled db w a)
    is_settled = works_lock db _ h

    its_row : IsRowOf db.content w.table a.seen.row.0
    its_row = h.rows a.seen.row.0 of

    at_version : (s : Seen) → IsVersion db.content a.seen.row s → W (act (settled db w a) s).db
    at_version s v =
        let first = h.stay s.place v.write v.there in
        let one : first.0 ≡ its_row.0 = same_Some first.0 its_row.0 (sym first.1 ∙ (ap (λ (r : RowId). slice_get db.content.log r.0) v.its_row ∙ its_row.1)) in
        let table_is : v.write.table.0 ≡ w.table = ap (λ (x : TableId). x.0) (sym first.2) ∙ (ap (λ (x : Write). x.table.0) one ∙ its_row.2) in
        let long = fits_at db.content db.catalog w.table table h.fit h.there s.place v.write v.there table_is v.values v.gave in
        acts (settled db w a) s is_settled
        (subst (λ (r : RowId). IsRowOf db.content w.table r.0) (sym v.row_is) its_row)
        (ap (λ (o : Option (List Value)). length (unwrap_or o [])) (its_values db.content s.place v.write v.there ∙ v.gave) ∙ long)

    at_case : (o : Outcome) → target_outcome db.content db.held (waits_in db w.around.sessions) a ≡ o → W (at_outcome name act (settled db w a) a o).db
    at_case (Takes s) e = at_version s (takes_version db.content db.held (waits_in db w.around.sessions) a s e)
    at_case Skips e = is_settled
    at_case Waits e = is_settled
    at_case Deadlocks e = is_settled
    at_case NotFree e = is_settled
    at_case Serializes e = is_settled
    at_case (Faults fault) e = is_settled

  -- the row stays of the table with a write more
  still_of : (db : Database) (new : Write) (row : ℕ) → IsRowOf db.content w.table row → IsRowOf (after_write db.content new) w.table row
  still_of db new row of = (of.0, slice_get-append_left db.content.log (new ∷ []) row of.0 of.1, of.2)

  acts_update : (u : UpdateTree) (targets : List AssignedColumn) → Acts (update_with w u targets)
  acts_update u targets db s h of long = at_values (updated (cols_in db w) targets u.sets (values_of db s)) refl where
    writes : (values : List Value) → length values ≡ length table.made.columns → W (written db w s.row (Some values))
    writes values l = works_write db s.row (Some values) h (still_of db _ s.row.0 of) (λ vs e. ap length (sym (same_Some values vs e)) ∙ l)

    at_values : (r : Result (List Value) ValueFault) → updated (cols_in db w) targets u.sets (values_of db s) ≡ r → W (update_made w (put_update u) db s.row r).db
    at_values (Err fault) e = h
    at_values (Ok values) e =
        let after = written db w s.row (Some values) in
        works_checked u.table db (shows w u.returning after values) (meet_keys db w (put_update u) values (Some s.row) (keys_in db w)) (null_in (columns_in db w) values) h
        (works_shown u.returning after values (writes values (length-updated (cols_in db w) targets u.sets (values_of db s) values e ∙ long)))

  none_given : (vs : List Value) → (let o : Option (List Value) = None in o ≡ Some vs) → length vs ≡ length table.made.columns
  none_given vs e = cc

  acts_delete : (d : DeleteTree) → Acts (delete_with w d)
  acts_delete d db s h of long = works_shown d.returning (written db w s.row None) (values_of db s) (works_write db s.row None h (still_of db _ s.row.0 of) none_given)

  acts_lock : (q : SelectTree) → Acts (lock_with w q)
  acts_lock q db s h of long = works_shown (Some q.items) db (values_of db s) h

  pub works_inserts : (put : Putting) (targets : List AssignedColumn) (given : List (List Tree)) (db : Database) (place : ℕ) (rows : List (List Value)) → W db
      → W (walked (insert_one w put targets) db place rows given).db
  works_inserts put targets given db place rows h =
      walked_keeps W (λ row. Unit {0}) (insert_one w put targets) (λ d row of k. works_insert put targets d row k) given (any given) db place rows h where
        any : (xs : List (List Tree)) → Each (λ row. Unit {0}) xs
        any [] = tt
        any (x ∷ xs) = (tt, any xs)

  pub works_updates : (u : UpdateTree) (targets : List AssignedColumn) (r : Result (List Seen) ValueFault) → EachOk (SeenOf start w.table) r → (db : Database) (place : ℕ) (rows : List (List Value)) → W db
      → W (walked_from (update_one w u targets) db place rows r).db
  works_updates u targets r of db place rows h =
      walked_from_keeps W (SeenOf start w.table) (update_one w u targets) (λ d s its k. works_target u.table (update_with w u targets) (acts_update u targets) d (ask d w (update_strength d w targets u s.row) Wait u.filter s) its k) r of db place rows h

  pub works_deletes : (q : DeleteTree) (r : Result (List Seen) ValueFault) → EachOk (SeenOf start w.table) r → (db : Database) (place : ℕ) (rows : List (List Value)) → W db
      → W (walked_from (delete_one w q) db place rows r).db
  works_deletes q r of db place rows h =
      walked_from_keeps W (SeenOf start w.table) (delete_one w q) (λ d s its k. works_target q.table (delete_with w q) (acts_delete q) d (ask d w Update Wait q.filter s) its k) r of db place rows h

  pub works_locks : (q : SelectTree) (l : Lock) (r : Result (List Seen) ValueFault) → EachOk (SeenOf start w.table) r → (db : Database) (place : ℕ) (rows : List (List Value)) → W db
      → W (walked_from (lock_one w q l) db place rows r).db
  works_locks q l r of db place rows h =
      walked_from_keeps W (SeenOf start w.table) (lock_one w q l) (λ d s its k. works_target (unwrap_or q.table []) (lock_with w q) (acts_lock q) d (ask d w l.strength l.policy q.filter s) its k) r of db place rows h
