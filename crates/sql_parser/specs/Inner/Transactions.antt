-- Statements on transactions as the code reads them.
use Rattle.std.specs.Prelude.{ℕ, Some, None, Err}
use Rattle.sql_trees.specs.declared.word.Word.TheVariants as words
use Rattle.sql_trees.specs.declared.stmt.Level.{Level}
use Rattle.sql_trees.specs.declared.stmt.Level.TheVariants.{ReadCommitted, RepeatableRead}
use Rattle.sql_trees.specs.Statements.{StmtTree, Begin, SetTransaction, SetDeadlockTimeout}
use Rattle.sql_expressions.specs.Readers.{expect, is_word, Reader, gives, made, either, keyword, ◌>>◌}
use Rattle.sql_parser.specs.Grammar.{is_scope, is_to, is_setting}
use Rattle.sql_parser.specs.Inner.Parts.{past, misplaced_word}

module _ (last : ℕ) where
  -- what stands behind ISOLATION: LEVEL and READ UNCOMMITTED, READ COMMITTED or REPEATABLE READ
  unfoldable pub level_at : Reader Level
  level_at = keyword last words.Level >> either (is_word words.Read)
      (either (is_word words.Committed) (gives ReadCommitted) (keyword last words.Uncommitted >> gives ReadCommitted))
      (keyword last words.Repeatable >> keyword last words.Read >> gives RepeatableRead)

  -- what stands behind BEGIN and WORK or TRANSACTION
  unfoldable pub begin_at : Reader StmtTree
  begin_at = either (is_word words.Isolation) (made (λ l. Begin (Some l)) level_at) (gives (Begin None))

  -- what stands behind START
  unfoldable pub start_at : Reader StmtTree
  start_at = keyword last words.Transaction >> begin_at

  -- the name of the only parameter that is known, and its value
  unfoldable pub parameter_at : Reader StmtTree
  parameter_at = either (is_word words.DeadlockTimeout) (expect last is_to >> expect last is_setting >> gives SetDeadlockTimeout) (λ ts. Err (misplaced_word last ts))

  -- what stands behind SET
  unfoldable pub set_at : Reader StmtTree
  set_at = either (is_word words.Transaction) (keyword last words.Isolation >> made SetTransaction level_at) (λ ts. parameter_at (past is_scope ts))
