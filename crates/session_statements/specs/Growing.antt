-- Which statements may want room.
use Rattle.std.specs.Prelude.{Bool, true, false}
use Rattle.sql_trees.specs.Statements.{StmtTree, Begin, Commit, Rollback, SetTransaction, SetDeadlockTimeout}
use Rattle.session_machine.specs.declared.session.Transaction.{Transaction}
use Rattle.session_machine.specs.declared.session.Transaction.TheVariants.{Closed, Open, Aborted}

-- a query: all but what begins, ends or sets something alone
abbrev pub is_query : StmtTree → Bool
is_query (Begin level) = false
is_query Commit = false
is_query Rollback = false
is_query (SetTransaction level) = false
is_query SetDeadlockTimeout = false
is_query stmt = true

-- where no transaction is open, a statement that begins one
abbrev pub begins : StmtTree → Bool
begins (Begin level) = true
begins (SetTransaction level) = true
begins stmt = is_query stmt

-- the statement may want room in a transaction; one that ends it, or fails in it, never does
abbrev pub may_grow : Transaction → StmtTree → Bool
may_grow Closed stmt = begins stmt
may_grow (Open t) stmt = is_query stmt
may_grow Aborted stmt = false
