-- The statements of a block are kept.
use Rattle.std.proofs.Common.{◌≡◌, ℕ, ◌+◌, ◌<◌, ◌^◌, List, [], ◌∷◌, ◌++◌, length, Option, Some, None, refl, ap, subst, ◌∙◌, arith, length-append}
use Rattle.std.proofs.lemmas.Bool.{and_from, not_from_false}
use Rattle.std.specs.List.{list_all}
use Rattle.std.specs.Prelude.{Result, Ok, Err, Bool, true, false, not, ◌&&◌, nat_lt, if◌then◌else◌}
use Rattle.std.specs.Option.{option_map_or}
use Rattle.iso_lexer.specs.declared.limits.TheConstants.{MAX_STMTS}
use Rattle.iso_lexer.specs.declared.token.At.{At}
use Rattle.iso_lexer.specs.declared.sql_token.SqlSign.TheVariants as signs
use Rattle.sql_trees.specs.declared.fault.SqlFault.{SqlFault}
use Rattle.sql_trees.specs.declared.fault.SqlFault.TheVariants.{TooMany, DdlInSession}
use Rattle.sql_trees.specs.declared.word.Word.TheVariants as words
use Rattle.sql_trees.specs.Statements.{StmtTree, Begin, Commit, Rollback, SetTransaction, SetDeadlockTimeout, DropTables}
use Rattle.sql_trees.specs.Tokens.{Token, Tokens}
use Rattle.sql_trees.specs.Tokens as tok
use Rattle.sql_expressions.specs.Results.{◌>>=◌}
use Rattle.sql_expressions.specs.Readers.{is_sign, after, expect, is_word, items_at, keyword, name_at, added}
use Rattle.sql_blocks.specs.declared.block.Role.{Role}
use Rattle.sql_blocks.specs.Parts.{is_session}
use Rattle.sql_blocks.specs.Kept.{is_kept, is_kept_in, makes_or_drops}
use Rattle.sql_parser.specs.Inner.Parts.{past, misplaced_word}
use Rattle.sql_parser.specs.Transactions.{is_work}
use Rattle.sql_parser.specs.Grammar.{is_scope, is_to, is_setting, is_ddl}
use Rattle.sql_parser.specs.Inner.Transactions.{level_at, begin_at, start_at, parameter_at, set_at}
use Rattle.sql_parser.specs.Inner.Tables.{after_if}
use Rattle.sql_parser.specs.Tables.{dropped_at, drop_at}
use Rattle.sql_parser.specs.Inner.Blocks.{simple_of, begun_of, stmt_at, at_end, whole_at, piece_at, stmts_at, block_at}
use Rattle.sql_parser.specs.Inner.Pieces.{simple_at, begun_at}
use Rattle.sql_parser.proofs.Keeping.{Fine, FineOrNot, insert_fine, update_fine, delete_fine, select_fine}
use Rattle.sql_parser.proofs.KeysKept.{create_fine}
use Rattle.sql_parser.proofs.Steps.{bind_ok, ok_same, unless_ok, when_ok, push_all}

module _ (last : ℕ) where
  begin_fine : (ts : Tokens) (x : StmtTree × Tokens) → begin_at last ts ≡ Ok x → Fine false x.0
  unfolding begin_at
  begin_fine ts x e = of_level (after (is_word words.Isolation) ts) e
    where
      of_level : (o : Option Tokens) → option_map_or (λ us. level_at last us >>= λ y. Ok (Begin (Some y.0), y.1)) o (Ok (Begin None, ts)) ≡ Ok x → Fine false x.0
      of_level None h = subst (λ (y : StmtTree × Tokens). Fine false y.0) (ok_same (Begin None, ts) x h) (record { kept = refl; made = refl })
      of_level (Some us) h =
          let a = bind_ok (level_at last us) (λ y. Ok (Begin (Some y.0), y.1)) x h in
          subst (λ (y : StmtTree × Tokens). Fine false y.0) (ok_same (Begin (Some a.0.0), a.0.1) x a.2) (record { kept = refl; made = refl })

  start_fine : (ts : Tokens) (x : StmtTree × Tokens) → start_at last ts ≡ Ok x → Fine false x.0
  unfolding start_at
  start_fine ts x e =
      let a = bind_ok (keyword last words.Transaction ts) (λ us. begin_at last us) x e in
      begin_fine a.0 x a.2

  parameter_fine : (ts : Tokens) (x : StmtTree × Tokens) → parameter_at last ts ≡ Ok x → Fine false x.0
  unfolding parameter_at
  parameter_fine ts x e = of_name (after (is_word words.DeadlockTimeout) ts) e
    where
      of_name : (o : Option Tokens) → option_map_or (λ us. expect last is_to us >>= λ vs. expect last is_setting vs >>= λ rest. Ok (SetDeadlockTimeout, rest)) o (Err (misplaced_word last ts)) ≡ Ok x → Fine false x.0
      of_name None h = absurd cc
      of_name (Some us) h =
          let a = bind_ok (expect last is_to us) (λ vs. expect last is_setting vs >>= λ rest. Ok (SetDeadlockTimeout, rest)) x h in
          let b = bind_ok (expect last is_setting a.0) (λ rest. Ok (SetDeadlockTimeout, rest)) x a.2 in
          subst (λ (y : StmtTree × Tokens). Fine false y.0) (ok_same (SetDeadlockTimeout, b.0) x b.2) (record { kept = refl; made = refl })

  set_fine : (ts : Tokens) (x : StmtTree × Tokens) → set_at last ts ≡ Ok x → Fine false x.0
  unfolding set_at
  set_fine ts x e = of_transaction (after (is_word words.Transaction) ts) e
    where
      of_transaction : (o : Option Tokens) → option_map_or (λ us. keyword last words.Isolation us >>= λ vs. level_at last vs >>= λ y. Ok (SetTransaction y.0, y.1)) o (parameter_at last (past is_scope ts)) ≡ Ok x → Fine false x.0
      of_transaction (Some us) h =
          let a = bind_ok (keyword last words.Isolation us) (λ vs. level_at last vs >>= λ y. Ok (SetTransaction y.0, y.1)) x h in
          let b = bind_ok (level_at last a.0) (λ y. Ok (SetTransaction y.0, y.1)) x a.2 in
          subst (λ (y : StmtTree × Tokens). Fine false y.0) (ok_same (SetTransaction b.0.0, b.0.1) x b.2) (record { kept = refl; made = refl })
      of_transaction None h = parameter_fine (past is_scope ts) x h

  drop_of_fine : (if_exists : Bool) (ts : Tokens) (x : StmtTree × Tokens) → dropped_at last if_exists ts ≡ Ok x → Fine true x.0
  drop_of_fine if_exists ts x e =
      let a = bind_ok (items_at (added (name_at last)) [] ts) (λ y. Ok (DropTables (record { if_exists = if_exists; names = y.0 }), y.1)) x e in
      subst (λ (y : StmtTree × Tokens). Fine true y.0) (ok_same (DropTables (record { if_exists = if_exists; names = a.0.0 }), a.0.1) x a.2) (record { kept = refl; made = refl })

  drop_fine : (ts : Tokens) (x : StmtTree × Tokens) → drop_at last ts ≡ Ok x → Fine true x.0
  unfolding drop_at
  drop_fine ts x e =
      let a = bind_ok (keyword last words.Table ts) (λ us. option_map_or (dropped_at last true) (after_if us) (dropped_at last false us)) x e in
      of_if a.0 (after_if a.0) a.2
    where
      of_if : (us : Tokens) (o : Option Tokens) → option_map_or (dropped_at last true) o (dropped_at last false us) ≡ Ok x → Fine true x.0
      of_if us None h = drop_of_fine false us x h
      of_if us (Some vs) h = drop_of_fine true vs x h

  done : (s : StmtTree) (ts : Tokens) (x : StmtTree × Tokens) → Fine false s → (let r : Result (StmtTree × Tokens) SqlFault = Ok (s, ts) in r ≡ Ok x) → Fine false x.0
  done s ts x f h = subst (λ (y : StmtTree × Tokens). Fine false y.0) (ok_same (s, ts) x h) f

  simple_fine : (w : Token) (t : At Token) (ts : Tokens) (x : StmtTree × Tokens) → simple_of last w t ts ≡ Ok x → Fine (is_ddl w) x.0
  unfolding simple_of
  simple_fine (tok.word words.Begin s) t ts x e = begin_fine (past is_work ts) x e
  simple_fine (tok.word words.Start s) t ts x e = start_fine ts x e
  simple_fine (tok.word words.Commit s) t ts x e = done Commit (past is_work ts) x (record { kept = refl; made = refl }) e
  simple_fine (tok.word words.End s) t ts x e = done Commit (past is_work ts) x (record { kept = refl; made = refl }) e
  simple_fine (tok.word words.Rollback s) t ts x e = done Rollback (past is_work ts) x (record { kept = refl; made = refl }) e
  simple_fine (tok.word words.Abort s) t ts x e = done Rollback (past is_work ts) x (record { kept = refl; made = refl }) e
  simple_fine (tok.word words.Set s) t ts x e = set_fine ts x e
  simple_fine (tok.word words.Drop s) t ts x e = drop_fine ts x e
  simple_fine (tok.word words.Insert s) t ts x e = insert_fine last ts x e
  simple_fine (tok.word words.Update s) t ts x e = update_fine last ts x e
  simple_fine (tok.word words.Delete s) t ts x e = delete_fine last ts x e
  simple_fine _ t ts x e = absurd cc

  whole_fine : (t : At Token) (ts : Tokens) (x : Result StmtTree SqlFault × Tokens) → (simple_at last (t ∷ ts) >>= λ y. Ok (Ok y.0, y.1)) ≡ Ok x → FineOrNot (is_ddl t.tok) x.0
  whole_fine t ts x e =
      let a = bind_ok (simple_at last (t ∷ ts)) (λ y. Ok (Ok y.0, y.1)) x e in
      subst (λ (y : Result StmtTree SqlFault × Tokens). FineOrNot (is_ddl t.tok) y.0) (ok_same (Ok a.0.0, a.0.1) x a.2) (simple_fine t.tok t ts a.0 a.1)

  begun_fine : (t : At Token) (ts : Tokens) (x : Result StmtTree SqlFault × Tokens) → length ts < 2 ^ 32 → (w : Token) → w ≡ t.tok → begun_of last w t ts ≡ Ok x → FineOrNot (is_ddl t.tok) x.0
  begun_fine t ts x less (tok.word words.Create s) same e = subst (λ v. FineOrNot (is_ddl v) x.0) same (create_fine last ts x e less)
  begun_fine t ts x less (tok.word words.Select s) same e = subst (λ v. FineOrNot (is_ddl v) x.0) same (select_fine last t.span.start ts x e)
  begun_fine t ts x less _ same e = whole_fine t ts x e

  fine_kept : (role : Role) (ddl : Bool) (r : Result StmtTree SqlFault) (s : StmtTree) → FineOrNot ddl r → r ≡ Ok s → (is_session role && ddl) ≡ false → is_kept_in role s ≡ true
  fine_kept role ddl (Ok t) s f e h =
      let p : Fine ddl s = subst (Fine ddl) (ok_same t s e) f in
      and_from (is_kept s) (not (is_session role && makes_or_drops s)) p.kept (not_from_false (is_session role && makes_or_drops s) (ap (λ b. is_session role && b) p.made ∙ h))
  fine_kept role ddl (Err g) s f e h = absurd cc

  stmt_kept : (role : Role) (ts : Tokens) (x : Result StmtTree SqlFault × Tokens) → stmt_at last role ts ≡ Ok x → length ts < 2 ^ 32 → (s : StmtTree) → x.0 ≡ Ok s → is_kept_in role s ≡ true
  unfolding stmt_at
  stmt_kept role [] x e less s h = absurd cc
  stmt_kept role (t ∷ ts) x e less s h =
      let a = unless_ok (is_session role && is_ddl t.tok) (DdlInSession t.span.start) (begun_at last (t ∷ ts)) x e in
      fine_kept role (is_ddl t.tok) x.0 s (begun_fine t ts x (omega arith) t.tok refl a.1) h a.0

  at_end_ok : (r : Result StmtTree SqlFault) (ts : Tokens) (s : StmtTree) → at_end last r ts ≡ Ok s → r ≡ Ok s
  at_end_ok r [] s e = e
  at_end_ok r (t ∷ ts) s e = absurd cc

  pub whole_kept : (role : Role) (ts : Tokens) (s : StmtTree) → whole_at last role ts ≡ Ok s → length ts < 2 ^ 32 → is_kept_in role s ≡ true
  unfolding whole_at
  whole_kept role ts s e less =
      let x = bind_ok (stmt_at last role ts) (λ x. at_end last x.0 x.1) s e in
      stmt_kept role ts x.0 x.1 less s (at_end_ok x.0.0 x.0.1 s x.2)

  piece_kept : (role : Role) (ss : List StmtTree) (ts : Tokens) (more : List StmtTree) → piece_at last role ss ts ≡ Ok more → length ts < 2 ^ 32 → list_all (is_kept_in role) ss ≡ true → list_all (is_kept_in role) more ≡ true
  unfolding piece_at
  piece_kept role ss [] more e less h = subst (λ ts. list_all (is_kept_in role) ts ≡ true) (ok_same ss more e) h
  piece_kept role ss (t ∷ ts) more e less h =
      let a = when_ok (nat_lt (length ss) MAX_STMTS) (TooMany t.span.start) (whole_at last role (t ∷ ts) >>= λ s. Ok (ss ++ s ∷ [])) more e in
      let s = bind_ok (whole_at last role (t ∷ ts)) (λ s. Ok (ss ++ s ∷ [])) more a.1 in
      subst (λ us. list_all (is_kept_in role) us ≡ true) (ok_same (ss ++ s.0 ∷ []) more s.2) (push_all (is_kept_in role) ss s.0 h (whole_kept role (t ∷ ts) s.0 s.1 less))

stmts_kept : (last : ℕ) (role : Role) (ss : List StmtTree) (piece ts : Tokens) (more : List StmtTree) → stmts_at last role ss piece ts ≡ Ok more → length piece + length ts < 2 ^ 32 → list_all (is_kept_in role) ss ≡ true → list_all (is_kept_in role) more ≡ true
unfolding stmts_at
stmts_kept last role ss piece [] more e less h = piece_kept last role ss piece more e (omega arith) h
stmts_kept last role ss piece (t ∷ ts) more e less h = of_test (is_sign signs.Semicolon t.tok) (λ us ps. stmts_kept last role us ps ts more) e
  where
    of_test : (b : Bool) → ((us : List StmtTree) (ps : Tokens) → stmts_at last role us ps ts ≡ Ok more → length ps + length ts < 2 ^ 32 → list_all (is_kept_in role) us ≡ true → list_all (is_kept_in role) more ≡ true) → (if b then (piece_at t.span.start role ss piece >>= λ us. stmts_at last role us [] ts) else stmts_at last role ss (piece ++ t ∷ []) ts) ≡ Ok more → list_all (is_kept_in role) more ≡ true
    of_test true go k =
        let p = bind_ok (piece_at t.span.start role ss piece) (λ us. stmts_at last role us [] ts) more k in
        go p.0 [] p.2 (omega arith) (piece_kept t.span.start role ss piece p.0 p.1 (omega arith) h)
    of_test false go k = go ss (piece ++ t ∷ []) k (omega (arith, length-append piece (t ∷ []))) h

pub block_kept : (last : ℕ) (role : Role) (ts : Tokens) (ss : List StmtTree) → block_at last role ts ≡ Ok ss → length ts < 2 ^ 32 → list_all (is_kept_in role) ss ≡ true
block_kept last role ts ss e less = stmts_kept last role [] [] ts ss e (omega arith) refl
