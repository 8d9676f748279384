-- To be believed. Transactions of sessions: how they begin, what their statements see, and how they end (PostgreSQL manual, 13.2).
use Rattle.std.specs.Prelude.{◌+◌, Bool, Option, Some, None, unwrap_or}
use Rattle.sql_trees.specs.declared.stmt.Level.{Level}
use Rattle.sql_trees.specs.declared.stmt.Level.TheVariants.{ReadCommitted, RepeatableRead}
use Rattle.row_versions.specs.declared.names.TxId.{TxId}
use Rattle.row_versions.specs.declared.write.View.{View}
use Rattle.row_locks.specs.Held.{released}
use Rattle.row_versions.specs.Log.{Content, commit_count, next_tx, after_commit, after_roll_back}
use Rattle.session_machine.specs.declared.session.OpenTransaction.{OpenTransaction}
use Rattle.session_machine.specs.declared.session.Transaction.{Transaction}
use Rattle.session_machine.specs.declared.session.Transaction.TheVariants.{Open}
use Rattle.session_machine.specs.declared.session.Progress.{Progress}
use Rattle.session_machine.specs.Tables.{Database}

-- the transaction that begins next, of which nothing was asked yet
abbrev pub fresh : Content → Level → Bool → OpenTransaction
fresh c level explicit = record { tx = next_tx c; explicit = explicit; level = level; snapshot = None; command = 0 }

abbrev pub committed : Database → TxId → Database
committed db tx = record db { content = after_commit db.content tx; held = released tx db.held }

abbrev pub rolled_back : Database → TxId → Database
rolled_back db tx = record db { content = after_roll_back db.content tx; held = released tx db.held }

-- what the transaction's next query sees: also what its own queries before wrote. In Read Committed it sees what was committed when it began, in Repeatable Read
-- what was when the transaction's first query began, which is the present one if there was none (13.2.1, 13.2.2)
abbrev pub view_of : Content → OpenTransaction → View
view_of c t = record { tx = Some t.tx; commits = elim t.level [ ReadCommitted ↦ commit_count c | RepeatableRead ↦ unwrap_or t.snapshot (commit_count c) ]; command = t.command }

-- the transaction once a query has begun: its snapshot is taken
abbrev pub started : Content → OpenTransaction → OpenTransaction
started c t = record t { snapshot = Some (unwrap_or t.snapshot (commit_count c)) }

-- who sees, and what, in a query that begins now: without a transaction what is committed
abbrev pub own_of : Transaction → Option TxId
own_of (Open t) = Some t.tx
own_of transaction = None

-- in the middle of a statement also what that has written so far
abbrev pub view_now : Content → Transaction → Option Progress → View
view_now c (Open t) None = view_of c t
view_now c (Open t) (Some p) = view_of c (record t { command = t.command + 1 })
view_now c transaction statement = record { tx = None; commits = commit_count c; command = 0 }
