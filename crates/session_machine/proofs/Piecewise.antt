-- Statements do the same piece by piece.
use Rattle.std.proofs.Common.{◌≡◌, refl, Bool, true, false, cond, ℕ, ◌+◌, List, ◌∷◌, []}
use Rattle.std.specs.Prelude.{Option, Some, None, not, find, option_map, if◌then◌else◌}
use Rattle.std.specs.List.{enumerate_from}
use Rattle.std.specs.Option.{option_map_or}
use Rattle.sql_trees.specs.Statements.{KeyTree, key_name}
use Rattle.sql_values.specs.declared.value.Value.{Value}
use Rattle.row_versions.specs.declared.names.TxId.{TxId}
use Rattle.row_versions.specs.declared.names.RowId.{RowId}
use Rattle.row_versions.specs.Members.{is_none_of}
use Rattle.row_versions.specs.Log.{Content}
use Rattle.row_versions.specs.declared.write.Seen.{Seen}
use Rattle.unique_keys.specs.Checks.{found_by, taken_by, key_found}
use Rattle.session_machine.specs.declared.session.OpenTransaction.{OpenTransaction}
use Rattle.session_machine.specs.declared.session.Request.TheVariants.{Key}
use Rattle.session_machine.specs.declared.fault.StmtFault.TheVariants.{KeyTaken, NoTableToDrop}
use Rattle.session_machine.specs.Tables.{Database, Dropped, Table, find_table, is_meant}
use Rattle.session_machine.specs.Waits.{blockers}
use Rattle.session_machine.specs.Statements.{Effect, drop_tables, fails}
use Rattle.session_machine.specs.Walks.{Fails}
use Rattle.session_machine.specs.Rows.{Work, Meets, Stops, columns_in, does_nothing, meet_key}
use Rattle.session_machine.specs.Targets.{asked_key, names_at}
use Rattle.session_machine.specs.Inner.Pieces.{DroppedUpTo, drop_ended, dropped, dropped_at, find_from, held_by_others, meet_by, with_drop}

-- the table that a name means, by looking at one after the other
finds_from : (c : Content) (own : Option TxId) (drops : List Dropped) (name : List ℕ) (k : ℕ) (tables : List Table)
    → option_map (λ (e : ℕ × Table). e.0) (find (λ e. is_meant c own drops name e.0 e.1) (enumerate_from k tables)) ≡ find_from c own drops name k tables
finds_from c own drops name k [] = refl
finds_from c own drops name k (t ∷ ts) = by (is_meant c own drops name k t) (finds_from c own drops name (k + 1) ts) where
  others : Option (ℕ × Table)
  others = find (λ e. is_meant c own drops name e.0 e.1) (enumerate_from (k + 1) ts)

  by : (b : Bool) → option_map (λ (e : ℕ × Table). e.0) others ≡ find_from c own drops name (k + 1) ts
      → (let o : Option ℕ = if b then Some k else find_from c own drops name (k + 1) ts in option_map (λ (e : ℕ × Table). e.0) (cond b (Some (k, t)) others) ≡ o)
  by true rest = refl
  by false rest = rest

pub finds_by : (db : Database) (own : Option TxId) (name : List ℕ) → find_table db own name ≡ find_from db.content own db.catalog.drops name 0 db.catalog.tables
finds_by db own name = finds_from db.content own db.catalog.drops name 0 db.catalog.tables

-- what a row meets at a key, by what is found of the key
pub meets_by : (db : Database) (w : Work) (name : List ℕ) (do_nothing : Bool) (values : List Value) (except : Option RowId) (key : KeyTree)
    → meet_key db w name do_nothing values except key ≡ meet_by db w name do_nothing values key (key_found db.content (record { 0 = w.table }) w.t.tx except values key.columns)
meets_by db w name do_nothing values except key = by (blockers db (Key (asked_key w values key)) w.t.tx) (taken_by db.content (record { 0 = w.table }) w.t.tx except values key.columns) where
  at_version : Seen → Meets
  at_version version = if do_nothing then does_nothing db w version else Stops (Fails (KeyTaken (key_name name key.primary (names_at (columns_in db w) key.columns))))

  by : (bs : List TxId) (taken : Option Seen)
      → (let o : Option Meets = if not (is_none_of bs) then Some (Stops (held_by_others db w (asked_key w values key))) else option_map at_version taken in
      o ≡ meet_by db w name do_nothing values key (found_by bs taken))
  by [] (Some version) = refl
  by [] None = refl
  by (tx ∷ rest) taken = refl

-- what a DROP comes to, by the tables that were dropped and the one that is missing
pub drops_by : (db : Database) (t : OpenTransaction) (if_exists : Bool) (names : List (List ℕ))
    → drop_tables db t if_exists names ≡ drop_ended db.content t (dropped db t if_exists names).db (dropped db t if_exists names).missing
drops_by db t if_exists [] = refl
drops_by db t if_exists (name ∷ names) = at (λ d. drops_by d t if_exists names) (find_table db (Some t.tx) name) where
  missing : (b : Bool) → drop_tables db t if_exists names ≡ drop_ended db.content t (dropped db t if_exists names).db (dropped db t if_exists names).missing
      → (let e : DroppedUpTo = if b then dropped db t if_exists names else record { db = db; missing = Some name } in
      let f : Effect = if b then drop_tables db t if_exists names else fails db t (NoTableToDrop name) in f ≡ drop_ended db.content t e.db e.missing)
  missing true on = on
  missing false on = refl

  at : ((d : Database) → drop_tables d t if_exists names ≡ drop_ended d.content t (dropped d t if_exists names).db (dropped d t if_exists names).missing) → (o : Option ℕ)
      → (let e : DroppedUpTo = dropped_at db t if_exists name (λ d. dropped d t if_exists names) o in
      option_map_or (λ k. drop_tables (record db { catalog = with_drop db.catalog k t.tx }) t if_exists names) o
      (if if_exists then drop_tables db t if_exists names else fails db t (NoTableToDrop name)) ≡ drop_ended db.content t e.db e.missing)
  at on (Some k) = on (record db { catalog = with_drop db.catalog k t.tx })
  at on None = missing if_exists (on db)
