-- To be believed. What a statement leaves and answers that is no query of rows: how transactions begin and end, how tables are made and dropped
-- (PostgreSQL manual, the pages of the statements, and 13.2).
use Rattle.std.specs.Prelude.{ℕ, ◌+◌, Bool, not, ◌&&◌, List, ◌∷◌, ◌++◌, Option, Some, None, is_some, if◌then◌else◌, []}
use Rattle.std.specs.Option.{option_map_or}
use denote.Enum.Bare.{sameb}
use Rattle.sql_trees.specs.declared.stmt.Level.{Level}
use Rattle.sql_trees.specs.contracts.stmt.Level.{the_type as the_level}
use Rattle.row_versions.specs.Log.{Content}
use Rattle.session_machine.specs.declared.session.OpenTransaction.{OpenTransaction}
use Rattle.session_machine.specs.declared.session.Transaction.{Transaction}
use Rattle.session_machine.specs.declared.session.Transaction.TheVariants.{Closed, Open, Aborted}
use Rattle.session_machine.specs.declared.session.Progress.{Progress}
use Rattle.session_machine.specs.declared.session.Session.{Session}
use Rattle.session_machine.specs.declared.fault.StmtFault.{StmtFault}
use Rattle.session_machine.specs.declared.fault.StmtFault.TheVariants.{NoTableToDrop, LevelTooLate}
use Rattle.session_machine.specs.declared.reply.Outcome.{Outcome}
use Rattle.session_machine.specs.declared.reply.Outcome.TheVariants.{Done, Failed}
use Rattle.session_machine.specs.Tables.{Database, find_table}
use Rattle.session_machine.specs.Transactions.{rolled_back, started}

-- what a statement leaves of the database and of its session's transaction, where it is in the middle of its targets, and what came of it
pub record Effect : Type 0 where
  pub db : Database
  pub transaction : Transaction
  pub statement : Option Progress
  pub outcome : Outcome

-- what a statement finds around it: the sessions, of which others may wait, and the number of a wait that begins now
pub record Surroundings : Type 0 where
  pub sessions : List Session
  pub number : ℕ

-- a failed statement undoes its transaction, and its locks are free at once
abbrev pub fails : Database → OpenTransaction → StmtFault → Effect
fails db t fault = record { db = rolled_back db t.tx; transaction = if t.explicit then Aborted else Closed; statement = None; outcome = Failed fault }

-- a query did this; it began at the content that is given
abbrev pub answers : Content → Database → OpenTransaction → Outcome → Effect
answers before db t outcome = record { db = db; transaction = Open (record (started before t) { command = t.command + 1 }); statement = None; outcome = outcome }

-- nothing but the transaction changes
abbrev pub turns : Database → Transaction → Effect
turns db t = record { db = db; transaction = t; statement = None; outcome = Done }

-- tables are dropped one after the other, up to the first that isn't there, at which the statement fails; with IF EXISTS it is passed over
abbrev pub drop_tables : Database → OpenTransaction → Bool → List (List ℕ) → Effect
drop_tables db t if_exists [] = answers db.content db t Done
drop_tables db t if_exists (name ∷ names) =
    option_map_or (λ k. drop_tables (record db { catalog = record db.catalog { drops = db.catalog.drops ++ record { table = k; by = t.tx } ∷ [] } }) t if_exists names)
    (find_table db (Some t.tx) name) (if if_exists then drop_tables db t if_exists names else fails db t (NoTableToDrop name))

-- the level is set before the transaction's first query, or stays
abbrev pub level_set : Database → OpenTransaction → Bool → Level → Effect
level_set db t explicit level =
    if is_some t.snapshot && not (sameb the_level t.level level) then fails db t LevelTooLate else turns db (Open (record t { explicit = explicit; level = level }))
