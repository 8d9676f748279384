-- What is read of statements by their first words, and of blocks, is what the code reads.
use Rattle.std.proofs.Common.{◌≡◌, ℕ, zero, suc, ◌+◌, Bool, true, false, List, [], ◌∷◌, ◌++◌, length, map, None, refl, sym, ap, ◌∙◌, append_assoc, append-nil, length-append, arith, rules}
use Rattle.std.proofs.lemmas.Bool.{lt-ltb}
use Rattle.std.specs.List.{filter, zip, slice_split, onto_first}
use Rattle.std.specs.Prelude.{Result, Ok, Err, nat_lt, if◌then◌else◌, ◌&&◌}
use Rattle.iso_lexer.specs.declared.limits.TheConstants.{MAX_STMTS}
use Rattle.iso_lexer.specs.declared.token.At.{At}
use Rattle.iso_lexer.specs.declared.sql_token.SqlSign.TheVariants as signs
use Rattle.sql_trees.specs.declared.fault.SqlFault.{SqlFault}
use Rattle.sql_trees.specs.declared.word.Word.TheVariants as words
use Rattle.sql_trees.specs.Statements.{StmtTree, Commit, Rollback}
use Rattle.sql_trees.specs.Tokens.{Token, Tokens}
use Rattle.sql_trees.specs.Tokens as tok
use Rattle.sql_expressions.specs.Results.{◌>>=◌}
use Rattle.sql_expressions.specs.Readers.{Reader, is_sign}
use Rattle.sql_blocks.specs.declared.block.Role.{Role}
use Rattle.sql_blocks.specs.Parts.{is_session}
use Rattle.sql_parser.specs.Grammar.{is_ddl}
use Rattle.sql_parser.specs.Readers.{one_of, past, whole}
use Rattle.sql_parser.specs.Transactions.{is_work, begin_at}
use Rattle.sql_parser.specs.Blocks.{statements, whole_at, pieces, stmts_at, block_at}
use Rattle.sql_parser.specs.Inner.Parts as parts
use Rattle.sql_parser.specs.Inner.Transactions as transactions
use Rattle.sql_parser.specs.Inner.Tables as tables
use Rattle.sql_parser.specs.Inner.Queries as queries
use Rattle.sql_parser.specs.Inner.Blocks as blocks
use Rattle.sql_parser.proofs.Readings.{begin_same, start_same, set_same}
use Rattle.sql_parser.proofs.StmtReadings.{insert_same, update_same, delete_same}
use Rattle.sql_parser.proofs.TableReadings.{ended, stated, create_same}
use Rattle.sql_parser.proofs.QueryReadings.{select_same}

-- a statement, of which all tokens have been read
abbrev pub all_read : StmtTree → Result (StmtTree × Tokens) SqlFault
all_read s = Ok (s, [])

module _ (last : ℕ) where
  -- nothing stands behind a statement
  abbrev closes : StmtTree × Tokens → Result (StmtTree × Tokens) SqlFault
  closes x = whole last None x.1 >>= stated last x.0

  abbrev simply : StmtTree × Tokens → Result (Result StmtTree SqlFault × Tokens) SqlFault
  simply y = Ok (Ok y.0, y.1)

  abbrev wholly : Result (Result StmtTree SqlFault × Tokens) SqlFault → Result StmtTree SqlFault
  wholly r = r >>= λ x. blocks.at_end last x.0 x.1

  simple_same : (r q : Result (StmtTree × Tokens) SqlFault) → r ≡ q → (r >>= closes) ≡ (wholly (q >>= simply) >>= all_read)
  simple_same r q same = ap (λ (p : Result (StmtTree × Tokens) SqlFault). p >>= closes) same ∙ of_answer q
    where
      of_rest : (s : StmtTree) (ts : Tokens) → closes (s, ts) ≡ (blocks.at_end last (Ok s) ts >>= all_read)
      of_rest s [] = refl
      of_rest s (t ∷ ts) = refl

      of_answer : (p : Result (StmtTree × Tokens) SqlFault) → (p >>= closes) ≡ (wholly (p >>= simply) >>= all_read)
      of_answer (Ok x) = of_rest x.0 x.1
      of_answer (Err e) = refl

  ended_same : (r : Result (StmtTree × Tokens) SqlFault) (q : Result (Result StmtTree SqlFault × Tokens) SqlFault) → r ≡ (q >>= ended last) → (r >>= closes) ≡ (wholly q >>= all_read)
  ended_same r q same = ap (λ (p : Result (StmtTree × Tokens) SqlFault). p >>= closes) same ∙ of_answer q
    where
      of_stmt : (p : Result StmtTree SqlFault) → ((p >>= all_read) >>= closes) ≡ (p >>= all_read)
      of_stmt (Ok s) = refl
      of_stmt (Err e) = refl

      of_answer : (p : Result (Result StmtTree SqlFault × Tokens) SqlFault) → ((p >>= ended last) >>= closes) ≡ (wholly p >>= all_read)
      of_answer (Ok x) = of_stmt (blocks.at_end last x.0 x.1)
      of_answer (Err e) = refl

  past_same : (read inner_read : Reader StmtTree) → ((ts : Tokens) → read ts ≡ inner_read ts) → (ts : Tokens) → past is_work read ts ≡ inner_read (parts.past is_work ts)
  past_same read inner_read same [] = same []
  past_same read inner_read same (t ∷ ts) = of_test (is_work t.tok) refl
    where
      of_test : (b : Bool) → is_work t.tok ≡ b → past is_work read (t ∷ ts) ≡ inner_read (parts.past is_work (t ∷ ts))
      of_test true h = rw h (same ts)
      of_test false h = rw h (same (t ∷ ts))

  abbrev begun : At Token → Tokens → Result (StmtTree × Tokens) SqlFault
  begun t ts = one_of last (statements last t.span.start) (t ∷ ts) >>= λ x. x.0 x.1 >>= closes

  begun_same : (t : At Token) (ts : Tokens) (x : Token) → t.tok ≡ x → begun t ts ≡ (wholly (blocks.begun_of last t.tok t ts) >>= all_read)
  unfolding blocks.simple_of
  begun_same t ts (tok.word words.Begin s) h = rw h (simple_same _ _ (past_same (begin_at last) (transactions.begin_at last) (begin_same last) ts))
  begun_same t ts (tok.word words.Start s) h = rw h (simple_same _ _ (start_same last ts))
  begun_same t ts (tok.word words.Set s) h = rw h (simple_same _ _ (set_same last ts))
  begun_same t ts (tok.word words.Commit s) h = rw h (simple_same _ _ (past_same (stated last Commit) (stated last Commit) (λ us. refl) ts))
  begun_same t ts (tok.word words.End s) h = rw h (simple_same _ _ (past_same (stated last Commit) (stated last Commit) (λ us. refl) ts))
  begun_same t ts (tok.word words.Rollback s) h = rw h (simple_same _ _ (past_same (stated last Rollback) (stated last Rollback) (λ us. refl) ts))
  begun_same t ts (tok.word words.Abort s) h = rw h (simple_same _ _ (past_same (stated last Rollback) (stated last Rollback) (λ us. refl) ts))
  begun_same t ts (tok.word words.Drop s) h = rw h (simple_same _ _ refl)
  begun_same t ts (tok.word words.Insert s) h = rw h (simple_same _ _ (insert_same last ts))
  begun_same t ts (tok.word words.Update s) h = rw h (simple_same _ _ (update_same last ts))
  begun_same t ts (tok.word words.Delete s) h = rw h (simple_same _ _ (delete_same last ts))
  begun_same t ts (tok.word words.Create s) h = rw h (ended_same _ (tables.create_at last ts) (create_same last ts))
  begun_same t ts (tok.word words.Select s) h = rw h (ended_same _ (queries.select_at last t.span.start ts) (select_same last t.span.start ts))
  begun_same t ts _ h = rw h refl

  pub whole_same : (role : Role) (ts : Tokens) → whole_at last role ts ≡ (blocks.whole_at last role ts >>= all_read)
  unfolding whole_at blocks.whole_at blocks.stmt_at
  whole_same role [] = refl
  whole_same role (t ∷ ts) = of_test (is_session role && is_ddl t.tok) refl
    where
      of_test : (b : Bool) → (is_session role && is_ddl t.tok) ≡ b → whole_at last role (t ∷ ts) ≡ (blocks.whole_at last role (t ∷ ts) >>= all_read)
      of_test true h = rw h refl
      of_test false h = rw h (begun_same t ts t.tok refl)

  pub whole_stops : (role : Role) (ts : Tokens) (f : SqlFault) → blocks.whole_at last role ts ≡ Err f → whole_at last role ts ≡ Err f
  whole_stops role ts f e = whole_same role ts ∙ ap (λ (r : Result StmtTree SqlFault). r >>= all_read) e

  pub whole_stopped : (role : Role) (ts : Tokens) (f : SqlFault) → whole_at last role ts ≡ Err f → blocks.whole_at last role ts ≡ Err f
  whole_stopped role ts f e = of_answer (blocks.whole_at last role ts) (sym (whole_same role ts) ∙ e)
    where
      of_answer : (r : Result StmtTree SqlFault) → (r >>= all_read) ≡ Err f → r ≡ Err f
      of_answer (Ok s) h = absurd cc
      of_answer (Err g) h = let same : g ≡ f = cc in ap Err same

-- ---- blocks

-- the tokens before the first of the pieces
abbrev onto : Tokens → List Tokens → List Tokens
onto [] ps = ps
onto (t ∷ ts) ps = onto_first t (onto ts ps)

onto_none : (piece : Tokens) (ps : List Tokens) → onto piece ([] ∷ ps) ≡ piece ∷ ps
onto_none [] ps = refl
onto_none (t ∷ ts) ps = ap (onto_first t) (onto_none ts ps)

onto_one : (piece : Tokens) (t : At Token) (ps : List Tokens) → onto (piece ++ t ∷ []) ps ≡ onto piece (onto_first t ps)
onto_one [] t ps = refl
onto_one (u ∷ us) t ps = ap (onto_first u) (onto_one us t ps)

abbrev is_end : At Token → Bool
is_end t = is_sign signs.Semicolon t.tok

-- the pieces of tokens behind those that have passed since the last semicolon
abbrev pieces_from : ℕ → Tokens → Tokens → List (Tokens × ℕ)
pieces_from last piece ts = zip (onto piece (slice_split is_end ts)) (map (λ (t : At Token). t.span.start) (filter is_end ts) ++ last ∷ [])

module _ (role : Role) where
  -- the statements of these pieces, behind those that have been read
  abbrev rest_of : List StmtTree → ℕ → List (Tokens × ℕ) → Result (List StmtTree) SqlFault
  rest_of ss n ps = stmts_at role n ps >>= λ more. Ok (ss ++ more)

  rest_behind : (ss : List StmtTree) (s : StmtTree) (n : ℕ) (ps : List (Tokens × ℕ)) → rest_of (ss ++ s ∷ []) n ps ≡ ((stmts_at role n ps >>= λ more. Ok (s ∷ more)) >>= λ more. Ok (ss ++ more))
  rest_behind ss s n ps = of_rest (stmts_at role n ps)
    where
      of_rest : (r : Result (List StmtTree) SqlFault) → (r >>= λ more. Ok ((ss ++ s ∷ []) ++ more)) ≡ ((r >>= λ more. Ok (s ∷ more)) >>= λ more. Ok (ss ++ more))
      of_rest (Ok more) = ap Ok (append_assoc ss (s ∷ []) more)
      of_rest (Err e) = refl

  module _ (ps : List (Tokens × ℕ)) (next : List StmtTree → Result (List StmtTree) SqlFault) (place : ℕ) where
    abbrev Goes : Type 0
    Goes = (n : ℕ) (us : List StmtTree) → n + length us ≡ MAX_STMTS → next us ≡ rest_of us n ps

    read_one : Goes → (ss : List StmtTree) (n : ℕ) → suc n + length ss ≡ MAX_STMTS → (r : Result StmtTree SqlFault) → ((r >>= λ s. Ok (ss ++ s ∷ [])) >>= next) ≡ (((r >>= all_read) >>= λ x. stmts_at role n ps >>= λ more. Ok (x.0 ∷ more)) >>= λ more. Ok (ss ++ more))
    read_one go ss n e (Ok s) = go n (ss ++ s ∷ []) (omega (arith, length-append ss (s ∷ []))) ∙ rest_behind ss s n ps
    read_one go ss n e (Err f) = refl

    piece_same : Goes → (piece : Tokens) (ss : List StmtTree) (n : ℕ) → n + length ss ≡ MAX_STMTS → (blocks.piece_at place role ss piece >>= next) ≡ rest_of ss n ((piece, place) ∷ ps)
    unfolding stmts_at blocks.piece_at
    piece_same go [] ss n e = go n ss e
    piece_same go (t ∷ ts) ss zero e =
        let many : nat_lt (length ss) MAX_STMTS ≡ false = search (arith, rules) in
        rw many refl
    piece_same go (t ∷ ts) ss (suc n) e =
        let few : nat_lt (length ss) MAX_STMTS ≡ true = lt-ltb (length ss) MAX_STMTS (omega arith) in
        rw (few, whole_same place role (t ∷ ts)) (read_one go ss n e (blocks.whole_at place role (t ∷ ts)))

  only_same : (r : Result (List StmtTree) SqlFault) → r ≡ (r >>= λ us. Ok us)
  only_same (Ok us) = refl
  only_same (Err e) = refl

  stmts_same : (last : ℕ) (ts piece : Tokens) (ss : List StmtTree) (n : ℕ) → n + length ss ≡ MAX_STMTS → blocks.stmts_at last role ss piece ts ≡ rest_of ss n (pieces_from last piece ts)
  unfolding blocks.stmts_at stmts_at
  stmts_same last [] piece ss n e =
      only_same (blocks.piece_at last role ss piece)
      ∙ (piece_same [] (λ us. Ok us) last none_left piece ss n e ∙ ap (λ (qs : List Tokens). rest_of ss n (zip qs (last ∷ []))) (sym (onto_none piece [])))
    where
      none_left : (m : ℕ) (us : List StmtTree) → m + length us ≡ MAX_STMTS → Ok us ≡ rest_of us m []
      none_left m us h = ap Ok (sym (append-nil us))
  stmts_same last (t ∷ ts) piece ss n e = of_test (is_end t) refl (λ m us ps h. stmts_same last ts ps us m h)
    where
      of_test : (b : Bool) → is_end t ≡ b → ((m : ℕ) (us : List StmtTree) (ps : Tokens) → m + length us ≡ MAX_STMTS → blocks.stmts_at last role us ps ts ≡ rest_of us m (pieces_from last ps ts)) → (if b then (blocks.piece_at t.span.start role ss piece >>= λ more. blocks.stmts_at last role more [] ts) else blocks.stmts_at last role ss (piece ++ t ∷ []) ts) ≡ rest_of ss n (pieces_from last piece (t ∷ ts))
      of_test true h go =
          piece_same (pieces_from last [] ts) (λ us. blocks.stmts_at last role us [] ts) t.span.start (λ m us k. go m us [] k) piece ss n e
          ∙ rw (h, onto_none) refl
      of_test false h go = go n ss (piece ++ t ∷ []) e ∙ rw (h, onto_one) refl

pub block_same : (last : ℕ) (role : Role) (ts : Tokens) → block_at last role ts ≡ blocks.block_at last role ts
block_same last role ts = sym (stmts_same role last ts [] [] MAX_STMTS refl ∙ of_rest (stmts_at role MAX_STMTS (pieces last ts)))
  where
    of_rest : (r : Result (List StmtTree) SqlFault) → (r >>= λ more. Ok ([] ++ more)) ≡ r
    of_rest (Ok us) = refl
    of_rest (Err e) = refl
