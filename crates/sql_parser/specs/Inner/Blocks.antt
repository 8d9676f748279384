-- Statements and blocks as the code reads them.
use Rattle.std.specs.Prelude.{ℕ, ◌&&◌, List, [], ◌∷◌, ◌++◌, length, Result, Ok, Err, nat_lt, if◌then◌else◌}
use Rattle.std.specs.Option.{option_map_or}
use Rattle.iso_lexer.specs.declared.limits.TheConstants.{MAX_STMTS}
use Rattle.iso_lexer.specs.declared.token.At.{At}
use Rattle.iso_lexer.specs.declared.sql_token.SqlSign.TheVariants as signs
use Rattle.sql_trees.specs.declared.fault.SqlFault.{SqlFault}
use Rattle.sql_trees.specs.declared.fault.SqlFault.TheVariants.{TooMany, DdlInSession}
use Rattle.sql_trees.specs.declared.word.Word.{Word}
use Rattle.sql_trees.specs.declared.word.Word.TheVariants as words
use Rattle.iso_lexer.specs.Bytes.{row_of}
use Rattle.sql_trees.specs.Statements.{StmtTree, Commit, Rollback}
use Rattle.sql_trees.specs.Tokens.{Token, Tokens}
use Rattle.sql_trees.specs.Tokens as tok
use Rattle.sql_expressions.specs.Results.{◌>>=◌}
use Rattle.sql_expressions.specs.Readers.{is_sign, is_word, misplaced, Reader, made}
use Rattle.sql_blocks.specs.declared.block.Role.{Role}
use Rattle.sql_blocks.specs.Parts.{is_session}
use Rattle.sql_parser.specs.Grammar.{is_ddl}
use Rattle.sql_parser.specs.Transactions.{is_work}
use Rattle.sql_parser.specs.Inner.Parts.{past}
use Rattle.sql_parser.specs.Inner.Transactions.{begin_at, start_at, set_at}
use Rattle.sql_parser.specs.Inner.Tables.{create_at}
use Rattle.sql_parser.specs.Tables.{drop_at}
use Rattle.sql_parser.specs.Inner.Changes.{delete_at, insert_at, update_at}
use Rattle.sql_parser.specs.Inner.Queries.{select_at}

module _ (last : ℕ) where
  -- the statements of which nothing has to hold as a whole: the first word of each, and what is read behind it
  abbrev pub simple : List (Word × Reader StmtTree)
  simple =
      (words.Begin, λ ts. begin_at last (past is_work ts)) ∷ (words.Start, start_at last) ∷ (words.Set, set_at last) ∷
      (words.Commit, λ ts. Ok (Commit, past is_work ts)) ∷ (words.End, λ ts. Ok (Commit, past is_work ts)) ∷
      (words.Rollback, λ ts. Ok (Rollback, past is_work ts)) ∷ (words.Abort, λ ts. Ok (Rollback, past is_work ts)) ∷
      (words.Drop, drop_at last) ∷ (words.Insert, insert_at last) ∷ (words.Update, update_at last) ∷ (words.Delete, delete_at last) ∷ []

  unfoldable pub simple_of : Token → At Token → Reader StmtTree
  simple_of first t ts = option_map_or (λ read. read ts) (row_of is_word simple first) (Err (misplaced last (t ∷ ts)))

  -- a statement by its first token, or what is wrong with the whole of it
  abbrev pub begun_of : Token → At Token → Reader (Result StmtTree SqlFault)
  begun_of (tok.word words.Create s) t ts = create_at last ts
  begun_of (tok.word words.Select s) t ts = select_at last t.span.start ts
  begun_of _ t ts = made (λ s. Ok s) (simple_of t.tok t) ts

  -- a statement, which makes and drops no table in a session's block
  unfoldable pub stmt_at : Role → Reader (Result StmtTree SqlFault)
  stmt_at role [] = Err (misplaced last [])
  stmt_at role (t ∷ ts) = if is_session role && is_ddl t.tok then Err (DdlInSession t.span.start) else begun_of t.tok t ts

  -- the tokens have all been read
  abbrev pub at_end : {A : Type 0} → Result A SqlFault → Tokens → Result A SqlFault
  at_end answer [] = answer
  at_end answer (t ∷ ts) = Err (misplaced last (t ∷ ts))

  -- a statement behind which nothing stands
  unfoldable pub whole_at : Role → Tokens → Result StmtTree SqlFault
  whole_at role ts = stmt_at role ts >>= λ x. at_end x.0 x.1

  -- what stands between two semicolons, the second of them or the text's end at last: nothing or one more statement, of which a block has at most 256
  unfoldable pub piece_at : Role → List StmtTree → Tokens → Result (List StmtTree) SqlFault
  piece_at role ss [] = Ok ss
  piece_at role ss (t ∷ ts) = if nat_lt (length ss) MAX_STMTS then (whole_at role (t ∷ ts) >>= λ s. Ok (ss ++ s ∷ [])) else Err (TooMany t.span.start)

-- the statements of a block behind these, where piece is what has passed since the last semicolon
unfoldable pub stmts_at : ℕ → Role → List StmtTree → Tokens → Tokens → Result (List StmtTree) SqlFault
stmts_at last role ss piece [] = piece_at last role ss piece
stmts_at last role ss piece (t ∷ ts) =
    if is_sign signs.Semicolon t.tok then (piece_at t.span.start role ss piece >>= λ more. stmts_at last role more [] ts) else stmts_at last role ss (piece ++ t ∷ []) ts

-- the statements of a block
abbrev pub block_at : ℕ → Role → Tokens → Result (List StmtTree) SqlFault
block_at last role ts = stmts_at last role [] [] ts
