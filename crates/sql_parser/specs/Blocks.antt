-- To be believed. Statements and blocks.
use Rattle.std.specs.Prelude.{ℕ, zero, suc, ◌&&◌, ◌||◌, List, [], ◌∷◌, ◌++◌, map, filter, None, Result, Ok, Err}
use Rattle.std.specs.List.{slice_split, zip}
use Rattle.iso_lexer.specs.declared.limits.TheConstants.{MAX_STMTS}
use Rattle.iso_lexer.specs.declared.sql_token.SqlSign.TheVariants as signs
use Rattle.sql_trees.specs.declared.fault.SqlFault.{SqlFault}
use Rattle.sql_trees.specs.declared.fault.SqlFault.TheVariants.{TooMany, DdlInSession}
use Rattle.sql_trees.specs.declared.word.Word.{Word}
use Rattle.sql_trees.specs.declared.word.Word.TheVariants as words
use Rattle.sql_trees.specs.Statements.{StmtTree, Commit, Rollback}
use Rattle.sql_trees.specs.Tokens.{Tokens}
use Rattle.iso_lexer.specs.Results.{if_ok}
use Rattle.sql_expressions.specs.Readers.{is_sign, is_word, place_of, Reader, gives, either, keyword, ◌>>=◌, ◌>>◌}
use Rattle.sql_blocks.specs.declared.block.Role.{Role}
use Rattle.sql_blocks.specs.Parts.{is_session}
use Rattle.sql_parser.specs.Readers.{past, one_of, whole}
use Rattle.sql_parser.specs.Transactions.{is_work, begin_at, set_at}
use Rattle.sql_parser.specs.Tables.{create_at, drop_at}
use Rattle.sql_parser.specs.Changes.{insert_at, update_at, delete_at}
use Rattle.sql_parser.specs.Queries.{select_at}

module _ (last : ℕ) where
  -- what is read behind each first word, which stands at this place
  abbrev pub statements : ℕ → List (Word × Reader StmtTree)
  statements place =
      (words.Begin, past is_work (begin_at last)) ∷ (words.Start, keyword last words.Transaction >> begin_at last) ∷ (words.Set, set_at last) ∷
      (words.Commit, past is_work (gives Commit)) ∷ (words.End, past is_work (gives Commit)) ∷
      (words.Rollback, past is_work (gives Rollback)) ∷ (words.Abort, past is_work (gives Rollback)) ∷ (words.Create, create_at last) ∷ (words.Drop, drop_at last) ∷
      (words.Insert, insert_at last) ∷ (words.Update, update_at last) ∷ (words.Delete, delete_at last) ∷ (words.Select, select_at last place) ∷ []

  -- a statement behind which nothing stands; one that makes or drops a table is none of a session
  unfoldable pub whole_at : Role → Reader StmtTree
  whole_at role ts = either (λ t. is_session role && (is_word words.Create t || is_word words.Drop t)) (λ us. Err (DdlInSession (place_of last ts))) (do
    behind ← one_of last (statements (place_of last ts))
    statement ← behind
    whole last None
    gives statement) ts

-- the tokens between semicolons, each with the place of the semicolon behind it, or of the text's end
abbrev pub pieces : ℕ → Tokens → List (Tokens × ℕ)
pieces last ts = zip (slice_split (λ t. is_sign signs.Semicolon t.tok) ts) (map (λ t. t.span.start) (filter (λ t. is_sign signs.Semicolon t.tok) ts) ++ last ∷ [])

-- the statements of these pieces, of which there may be so many: an empty piece has none
unfoldable pub stmts_at : Role → ℕ → List (Tokens × ℕ) → Result (List StmtTree) SqlFault
stmts_at role n [] = Ok []
stmts_at role n (([], end) ∷ ps) = stmts_at role n ps
stmts_at role zero ((t ∷ ts, end) ∷ ps) = Err (TooMany t.span.start)
stmts_at role (suc n) ((t ∷ ts, end) ∷ ps) = if_ok (whole_at end role (t ∷ ts)) (λ x. if_ok (stmts_at role n ps) (λ ss. Ok (x.0 ∷ ss)))

-- the statements of a block, 256 at most
abbrev pub block_at : ℕ → Role → Tokens → Result (List StmtTree) SqlFault
block_at last role ts = stmts_at role MAX_STMTS (pieces last ts)
