-- To be believed. Statements on transactions (PostgreSQL manual: BEGIN, START TRANSACTION, COMMIT, ROLLBACK, SET TRANSACTION, SET).
use Rattle.std.specs.Prelude.{ℕ, Bool, true, false, ◌||◌, [], ◌∷◌}
use Rattle.iso_lexer.specs.declared.sql_token.SqlSign.TheVariants as signs
use Rattle.sql_trees.specs.declared.word.Word.TheVariants as words
use Rattle.sql_trees.specs.declared.stmt.Level.{Level}
use Rattle.sql_trees.specs.declared.stmt.Level.TheVariants.{ReadCommitted, RepeatableRead}
use Rattle.sql_trees.specs.Statements.{StmtTree, Begin, SetTransaction, SetDeadlockTimeout}
use Rattle.sql_trees.specs.Tokens.{Token}
use Rattle.sql_trees.specs.Tokens as tok
use Rattle.sql_expressions.specs.Readers.{expect, is_sign, is_word, Reader, gives, made, either, keyword, ◌>>=◌, ◌>>◌}
use Rattle.sql_parser.specs.Readers.{maybe, past, one_of, known_of}

-- the word that may stand behind BEGIN, COMMIT and ROLLBACK
abbrev pub is_work : Token → Bool
is_work t = is_word words.Work t || is_word words.Transaction t

module _ (last : ℕ) where
  -- what stands behind ISOLATION: LEVEL and READ UNCOMMITTED, READ COMMITTED or REPEATABLE READ
  unfoldable pub level_at : Reader Level
  level_at = keyword last words.Level >> either (is_word words.Read) (one_of last ((words.Committed, ReadCommitted) ∷ (words.Uncommitted, ReadCommitted) ∷ []))
      (keyword last words.Repeatable >> keyword last words.Read >> gives RepeatableRead)

  -- what stands behind BEGIN and WORK or TRANSACTION, and behind START TRANSACTION
  unfoldable pub begin_at : Reader StmtTree
  begin_at = made Begin (maybe (is_word words.Isolation) level_at)

  -- what stands behind SET: TRANSACTION and a level, or the only parameter that is known, and its value
  unfoldable pub set_at : Reader StmtTree
  set_at = either (is_word words.Transaction) (keyword last words.Isolation >> made SetTransaction level_at)
      (past (λ t. is_word words.Session t || is_word words.Local t) (do
        set ← known_of last ((words.DeadlockTimeout, SetDeadlockTimeout) ∷ [])
        expect last (λ t. is_sign signs.Equal t || is_word words.To t)
        expect last (λ t. elim t [ tok.number n ↦ true | tok.string s ↦ true | _ ↦ false ])
        gives set))
