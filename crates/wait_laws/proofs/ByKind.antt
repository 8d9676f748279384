-- What is so of all that statements may do is so of each kind of statement.
use Rattle.std.proofs.Common.{◌≡◌, refl}
use Rattle.std.specs.Prelude.{Option, Some, None}
use Rattle.sql_trees.specs.declared.stmt.Level.{Level}
use Rattle.sql_trees.specs.declared.stmt.Lock.{Lock}
use Rattle.sql_trees.specs.Statements.{StmtTree, CreateTree, DropTree, InsertTree, UpdateTree, DeleteTree, SelectTree, Begin, Commit, Rollback, SetTransaction, SetDeadlockTimeout, Create, DropTables, Inserts, Updates, Deletes, Selects}
use Rattle.session_machine.specs.declared.session.OpenTransaction.{OpenTransaction}
use Rattle.session_machine.specs.declared.session.Transaction.TheVariants.{Closed, Open}
use Rattle.session_machine.specs.declared.session.Progress.{Progress}
use Rattle.session_machine.specs.Tables.{Database, find_table}
use Rattle.session_machine.specs.Transactions.{committed, rolled_back}
use Rattle.session_machine.specs.Statements.{Surroundings, Effect, turns, drop_tables, level_set}
use Rattle.session_machine.specs.Inner.Statements.{insert_from, update_from, delete_from, lock_from, insert, update, delete, select, run_open, run_on, begin_in, create}
use Rattle.session_machine.specs.Targets.{going_on}
use Rattle.session_machine.specs.Inner.Pieces.{lock_again}

-- of statements that are never in the middle of targets
pub record AtOnce (db : Database) (t : OpenTransaction) (around : Surroundings) (M : Effect → Type 0) : Type 0 where
  pub begins : (level : Option Level) → M (begin_in db t level)
  pub sets : (level : Level) → M (level_set db t t.explicit level)
  pub stays : M (turns db (Open t))
  pub commits : M (turns (committed db t.tx) Closed)
  pub rolls_back : M (turns (rolled_back db t.tx) Closed)
  pub creates : (c : CreateTree) → M (create db t c (find_table db (Some t.tx) c.name))
  pub drops : (d : DropTree) → M (drop_tables db t d.if_exists d.names)
  pub shows : (s : SelectTree) → s.lock ≡ None → M (select db t around s s.table)

-- of the others, where they begin
pub record FromStart (db : Database) (t : OpenTransaction) (around : Surroundings) (M : Effect → Type 0) : Type 0 where
  pub inserts : (i : InsertTree) → M (insert db t around i (find_table db (Some t.tx) i.table))
  pub updates : (u : UpdateTree) → M (update db t around u (find_table db (Some t.tx) u.table))
  pub deletes : (d : DeleteTree) → M (delete db t around d (find_table db (Some t.tx) d.table))
  pub locks : (s : SelectTree) (l : Lock) → s.lock ≡ Some l → M (select db t around s s.table)

-- and where they go on
pub record FromPlace (db : Database) (t : OpenTransaction) (around : Surroundings) (p : Progress) (M : Effect → Type 0) : Type 0 where
  pub inserts : (i : InsertTree) → M (insert_from db (going_on t around p) i p.place p.rows)
  pub updates : (u : UpdateTree) → M (update_from db (going_on t around p) u p.place p.rows)
  pub deletes : (d : DeleteTree) → M (delete_from db (going_on t around p) d p.place p.rows)
  pub locks : (s : SelectTree) (l : Lock) → s.lock ≡ Some l → M (lock_from db (going_on t around p) s l p.place p.rows)

module _ (db : Database) (t : OpenTransaction) (around : Surroundings) (M : Effect → Type 0) (once : AtOnce db t around M) where
  pub by_kind : FromStart db t around M → (stmt : StmtTree) → M (run_open db t around stmt)
  by_kind start (Begin level) = once.begins level
  by_kind start Commit = once.commits
  by_kind start Rollback = once.rolls_back
  by_kind start (SetTransaction level) = once.sets level
  by_kind start SetDeadlockTimeout = once.stays
  by_kind start (Create c) = once.creates c
  by_kind start (DropTables d) = once.drops d
  by_kind start (Inserts i) = start.inserts i
  by_kind start (Updates u) = start.updates u
  by_kind start (Deletes d) = start.deletes d
  by_kind start (Selects s) = at_lock s.lock refl where
    at_lock : (o : Option Lock) → s.lock ≡ o → M (select db t around s s.table)
    at_lock None e = once.shows s e
    at_lock (Some l) e = start.locks s l e

  pub on_kind : (p : Progress) → FromPlace db t around p M → (stmt : StmtTree) → M (run_on db t around p stmt)
  on_kind p place (Begin level) = once.begins level
  on_kind p place Commit = once.commits
  on_kind p place Rollback = once.rolls_back
  on_kind p place (SetTransaction level) = once.sets level
  on_kind p place SetDeadlockTimeout = once.stays
  on_kind p place (Create c) = once.creates c
  on_kind p place (DropTables d) = once.drops d
  on_kind p place (Inserts i) = place.inserts i
  on_kind p place (Updates u) = place.updates u
  on_kind p place (Deletes d) = place.deletes d
  on_kind p place (Selects s) = at_lock s.lock refl where
    at_lock : (o : Option Lock) → s.lock ≡ o → M (lock_again db t around s p o)
    at_lock None e = once.shows s e
    at_lock (Some l) e = place.locks s l e
