-- To be believed. Tables, and which of them a name means: what was made or dropped counts once committed, and for its own transaction at once (PostgreSQL manual, 13.2).
use Rattle.std.specs.Prelude.{ℕ, ◌==◌, Bool, false, not, ◌&&◌, ◌||◌, List, Option, option_map, find, bytes_eq}
use Rattle.std.specs.List.{enumerate_from, list_any}
use Rattle.std.specs.Option.{option_map_or}
use Rattle.sql_trees.specs.Statements.{CreateTree}
use Rattle.row_versions.specs.declared.names.TxId.{TxId}
use Rattle.row_versions.specs.Members.{same_tx}
use Rattle.row_versions.specs.Log.{Content, has_committed}
use Rattle.row_locks.specs.declared.held.Held.{Held}

-- a table: its CREATE, and the transaction that made it
pub record Table : Type 0 where
  pub made : CreateTree
  pub by : TxId

-- a DROP of the table at that place
pub record Dropped : Type 0 where
  pub table : ℕ
  pub by : TxId

-- every CREATE and DROP so far, in the order done
pub record Catalog : Type 0 where
  pub tables : List Table
  pub drops : List Dropped

-- what all sessions share: writes and fates, tables, and the locks that are held: those of targets that were settled, and of rows that were made (13.3.2)
pub record Database : Type 0 where
  pub content : Content
  pub catalog : Catalog
  pub held : List Held

-- what the transaction did counts: it is committed, or one's own
abbrev pub counts : Content → Option TxId → TxId → Bool
counts c own tx = has_committed c tx || option_map_or (λ one. same_tx one tx) own false

-- the name is that of the table, whose CREATE counts and whose DROP doesn't
abbrev pub is_meant : Content → Option TxId → List Dropped → List ℕ → ℕ → Table → Bool
is_meant c own drops name k t = bytes_eq t.made.name name && (counts c own t.by && not (list_any (λ (d : Dropped). (d.table == k) && counts c own d.by) drops))

-- the place of the first such table, which the name means
abbrev pub find_table : Database → Option TxId → List ℕ → Option ℕ
find_table db own name = option_map (λ (e : ℕ × Table). e.0) (find (λ e. is_meant db.content own db.catalog.drops name e.0 e.1) (enumerate_from 0 db.catalog.tables))
