-- Blocks are read exactly where their tokens spell them.
use Rattle.std.proofs.Common.{◌≡◌, ℕ, ◌+◌, ◌<◌, ◌≤◌, Bool, true, false, List, [], ◌∷◌, ◌++◌, length, refl, sym, ap, subst, ◌∙◌, append_assoc, append-nil, length-append, arith, rules}
use Rattle.std.proofs.lemmas.Bool.{and_parts, lt-ltb}
use Rattle.std.proofs.lemmas.List.Folds.{list_all-append}
use Rattle.std.specs.List.{list_all}
use Rattle.std.specs.Prelude.{Result, Ok, Err, not, ◌&&◌, nat_lt, option_map, if◌then◌else◌}
use Rattle.iso_lexer.specs.declared.limits.TheConstants.{MAX_STMTS}
use Rattle.iso_lexer.specs.declared.token.At.{At}
use Rattle.iso_lexer.specs.declared.sql_token.SqlSign.TheVariants as signs
use Rattle.sql_trees.specs.declared.fault.SqlFault.{SqlFault}
use Rattle.sql_trees.specs.declared.fault.SqlFault.TheVariants.{TooMany, DdlInSession}
use Rattle.sql_trees.specs.declared.word.Word.TheVariants as words
use Rattle.sql_trees.specs.Statements.{StmtTree, SetTree, OrderTree, DropTables, Inserts, Updates, Selects}
use Rattle.sql_trees.specs.Tokens.{Token, Tokens}
use Rattle.sql_trees.specs.Tokens as tok
use Rattle.sql_trees.specs.Trees.{Tree}
use Rattle.sql_expressions.specs.Results.{◌>>=◌}
use Rattle.sql_expressions.specs.Readers.{is_sign, misplaced}
use Rattle.sql_blocks.specs.declared.block.Role.{Role}
use Rattle.sql_blocks.specs.Parts.{is_session, set_columns, is_allowed}
use Rattle.sql_blocks.specs.Kept.{is_shallow, maybe_shallow, item_shallow, all_differ, columns_differ, rows_fit, returning_kept, is_kept, makes_or_drops, is_kept_in}
use Rattle.sql_parser.specs.Grammar.{is_ddl, Is, Spells, begin, start, commit, end, rollback, abort, set_transaction, set_timeout, create, drop, drop_if, insert, update, delete, select, PieceIs, no_stmt, a_stmt, BlockIs, last_piece, next_piece, Shallow}
use Rattle.sql_parser.specs.Inner.Blocks.{simple_of, begun_of, stmt_at, at_end, whole_at, piece_at, stmts_at, block_at}
use Rattle.sql_parser.specs.Inner.Pieces.{begun_at}
use Rattle.sql_parser.specs.Laws.{BlocksAreRead}
use Rattle.sql_parser.specs.Tables.{created}
use Rattle.sql_parser.proofs.BlocksKept.{block_kept}
use Rattle.sql_parser.proofs.Created.{created_is}
use Rattle.sql_parser.proofs.BlockReadings.{block_same}
use Rattle.sql_parser.proofs.Steps.{bind_ok, ok_same, when_ok}
use Rattle.sql_parser.proofs.Locals.{Local, took, stopped}
use Rattle.sql_parser.proofs.ExprLocals.{some_shallow, shallow_starts, shallow_local, one_name}
use Rattle.sql_parser.proofs.StmtLocals.{word_is}
use Rattle.sql_parser.proofs.QueryLocals.{Shown, shown, no_columns, no_query, Whole}
use Rattle.sql_parser.proofs.BlockLocals.{barred, barred_is, stmt_local}
use Rattle.sql_parser.proofs.CompleteStmts.{begun_reads, start_reads, work_reads, set_transaction_reads, set_timeout_reads, drop_reads, drop_if_reads, insert_reads, update_reads, delete_reads}
use Rattle.sql_parser.proofs.CompleteQueries.{select_reads}
use Rattle.sql_parser.proofs.CompleteTables.{table_fits, create_reads}
use Rattle.sql_parser.proofs.Frees.{is_free, Free, stmt_free}

no_both : {A : Type 0} (x : A) (e : SqlFault) → ◌≡◌ {A = Result A SqlFault} (Ok x) (Err e) → ⊥
no_both x e h = cc

-- ---- what is read is spelled

shown_ok : (us : Tokens) (r : Result StmtTree SqlFault) (s t : StmtTree) → Shown us r t → r ≡ Ok s → t ≡ s
shown_ok us _ s _ (shown t) h = ok_same t s h
shown_ok us _ s _ (no_columns place name t k) h = absurd (no_both s _ (sym h))
shown_ok us _ s _ (no_query t ts q n k) h = absurd (no_both s _ (sym h))

module _ (last : ℕ) where
  at_end_ok : (r : Result StmtTree SqlFault) (ts : Tokens) (s : StmtTree) → at_end last r ts ≡ Ok s → (r ≡ Ok s) × (ts ≡ [])
  at_end_ok r [] s e = (e, refl)
  at_end_ok r (t ∷ ts) s e = absurd cc

  pub whole_taken : (E : Tokens → Tree → Type 0) (W Any : Type 0) (role : Role) (ts : Tokens) (s : StmtTree) → Local last E W Any (Whole E) (stmt_at last role) ts → whole_at last role ts ≡ Ok s → Spells E ts s
  unfolding whole_at
  whole_taken E W Any role ts s l e = of_local l
    where
      x : (y : Result StmtTree SqlFault × Tokens) × (stmt_at last role ts ≡ Ok y) × (at_end last y.0 y.1 ≡ Ok s)
      x = bind_ok (stmt_at last role ts) (λ y. at_end last y.0 y.1) s e

      z : (x.0.0 ≡ Ok s) × (x.0.1 ≡ [])
      z = at_end_ok x.0.0 x.0.1 s x.2

      of_local : Local last E W Any (Whole E) (stmt_at last role) ts → Spells E ts s
      of_local (took v front rest split local q) =
          let same : (v, rest) ≡ x.0 = ok_same (v, rest) x.0 (sym (ap (stmt_at last role) split ∙ local rest refl) ∙ x.1) in
          let stmt : q.stmt ≡ s = shown_ok front v s q.stmt q.shows (ap (λ (y : Result StmtTree SqlFault × Tokens). y.0) same ∙ z.0) in
          let all : ts ≡ front = split ∙ (ap (λ r. front ++ r) (ap (λ (y : Result StmtTree SqlFault × Tokens). y.1) same ∙ z.1) ∙ append-nil front) in
          subst (λ us. Spells E us s) (sym all) (subst (Spells E front) stmt q.spells)
      of_local (stopped f front rest split local b) = absurd (no_both x.0 f (sym x.1 ∙ (ap (stmt_at last role) split ∙ local rest refl)))

  pub free_of : (role : Role) (ts : Tokens) (s : StmtTree) → whole_at last role ts ≡ Ok s → barred role ts ≡ false
  free_of role [] s e = refl
  free_of role (t ∷ ts) s e = of_test (barred role (t ∷ ts)) refl
    where
      of_test : (b : Bool) → barred role (t ∷ ts) ≡ b → barred role (t ∷ ts) ≡ false
      of_test true h = absurd (no_both s (DdlInSession t.span.start) (sym e ∙ barred_is last role t ts h))
      of_test false h = h

  pub whole_sound : (role : Role) (ts : Tokens) (s : StmtTree) → whole_at last role ts ≡ Ok s → Spells Shallow ts s
  whole_sound role ts s e = whole_taken Shallow (Unit {0}) ⊥ role ts s (stmt_local last Shallow (Unit {0}) ⊥ some_shallow (shallow_local last) shallow_starts (one_name last) role ts (free_of role ts s e) (λ w. tt)) e

  -- what a piece adds is spelled by it
  record Added (ss more : List StmtTree) (ts : Tokens) (P : Tokens → List StmtTree → Type 0) : Type 0 where
    rest : List StmtTree
    same : more ≡ ss ++ rest
    spells : P ts rest
    few : length ss ≤ MAX_STMTS → length more ≤ MAX_STMTS

  piece_sound : (role : Role) (ss more : List StmtTree) (ts : Tokens) → piece_at last role ss ts ≡ Ok more → Added ss more ts (PieceIs Shallow)
  unfolding piece_at
  piece_sound role ss more [] e =
      let same : ss ≡ more = ok_same ss more e in
      record { rest = []; same = sym same ∙ sym (append-nil ss); spells = no_stmt; few = λ h. subst (λ (us : List StmtTree). length us ≤ MAX_STMTS) same h }
  piece_sound role ss more (t ∷ ts) e =
      let a = when_ok (nat_lt (length ss) MAX_STMTS) (TooMany t.span.start) (whole_at last role (t ∷ ts) >>= λ s. Ok (ss ++ s ∷ [])) more e in
      let s = bind_ok (whole_at last role (t ∷ ts)) (λ s. Ok (ss ++ s ∷ [])) more a.1 in
      let same : ss ++ s.0 ∷ [] ≡ more = ok_same (ss ++ s.0 ∷ []) more s.2 in
      let less : length ss < MAX_STMTS = below (length ss) a.0 in
      record { rest = s.0 ∷ []; same = sym same; spells = a_stmt (t ∷ ts) s.0 (whole_sound role (t ∷ ts) s.0 s.1); few = λ h. subst (λ (us : List StmtTree). length us ≤ MAX_STMTS) same (omega (arith, less, length-append ss (s.0 ∷ []))) }
    where
      below : (n : ℕ) → nat_lt n MAX_STMTS ≡ true → n < MAX_STMTS
      below n h = search rules

  -- ---- what is spelled is read

  whole_one : (role : Role) (t : At Token) (ts : Tokens) (s : StmtTree) → (is_session role && is_ddl t.tok) ≡ false → begun_at last (t ∷ ts) ≡ Ok (Ok s, []) → whole_at last role (t ∷ ts) ≡ Ok s
  unfolding whole_at stmt_at
  whole_one role t ts s h e = rw (h, e) refl

  begun_simple : (t : At Token) (ts : Tokens) (s : StmtTree) (x : Token) → t.tok ≡ x → begun_of last x t ts ≡ Ok (Ok s, []) → begun_at last (t ∷ ts) ≡ Ok (Ok s, [])
  begun_simple t ts s x h e = ap (λ y. begun_of last y t ts) h ∙ e

  not_ddl : (role : Role) (b : Bool) → b ≡ false → (is_session role && b) ≡ false
  not_ddl role b h = rw h (of_role (is_session role))
    where
      of_role : (c : Bool) → (c && false) ≡ false
      of_role true = refl
      of_role false = refl

  -- what a kept statement says of its role
  role_of : (role : Role) (s : StmtTree) → is_kept_in role s ≡ true → (is_kept s ≡ true) × ((is_session role && makes_or_drops s) ≡ false)
  role_of role s h =
      let p = and_parts (is_kept s) (not (is_session role && makes_or_drops s)) h in
      (p.0, not_not (is_session role && makes_or_drops s) p.1)
    where
      not_not : (b : Bool) → not b ≡ true → b ≡ false
      not_not true e = absurd cc
      not_not false e = refl

  pub whole_reads : (role : Role) (ts : Tokens) (s : StmtTree) → Spells Shallow ts s → is_kept_in role s ≡ true → whole_at last role ts ≡ Ok s
  unfolding simple_of
  whole_reads role _ _ (begin b ws is level hb p m) k = let w = word_is words.Begin b.tok hb in whole_one role b (ws ++ is) _ (not_ddl role (is_ddl b.tok) (rw w.1 refl)) (begun_simple b (ws ++ is) _ (tok.word words.Begin w.0) w.1 (rw (w.1, begun_reads last ws is level p m) refl))
  whole_reads role _ _ (start s t is level hs ht m) k = let w = word_is words.Start s.tok hs in whole_one role s (t ∷ is) _ (not_ddl role (is_ddl s.tok) (rw w.1 refl)) (begun_simple s (t ∷ is) _ (tok.word words.Start w.0) w.1 (rw (w.1, start_reads last t is level ht m) refl))
  whole_reads role _ _ (commit c ws h p) k = let w = word_is words.Commit c.tok h in whole_one role c ws _ (not_ddl role (is_ddl c.tok) (rw w.1 refl)) (begun_simple c ws _ (tok.word words.Commit w.0) w.1 (rw (w.1, work_reads ws p) refl))
  whole_reads role _ _ (end c ws h p) k = let w = word_is words.End c.tok h in whole_one role c ws _ (not_ddl role (is_ddl c.tok) (rw w.1 refl)) (begun_simple c ws _ (tok.word words.End w.0) w.1 (rw (w.1, work_reads ws p) refl))
  whole_reads role _ _ (rollback c ws h p) k = let w = word_is words.Rollback c.tok h in whole_one role c ws _ (not_ddl role (is_ddl c.tok) (rw w.1 refl)) (begun_simple c ws _ (tok.word words.Rollback w.0) w.1 (rw (w.1, work_reads ws p) refl))
  whole_reads role _ _ (abort c ws h p) k = let w = word_is words.Abort c.tok h in whole_one role c ws _ (not_ddl role (is_ddl c.tok) (rw w.1 refl)) (begun_simple c ws _ (tok.word words.Abort w.0) w.1 (rw (w.1, work_reads ws p) refl))
  whole_reads role _ _ (set_transaction s t is level hs ht m) k = let w = word_is words.Set s.tok hs in whole_one role s (t ∷ is) _ (not_ddl role (is_ddl s.tok) (rw w.1 refl)) (begun_simple s (t ∷ is) _ (tok.word words.Set w.0) w.1 (rw (w.1, set_transaction_reads last t is level ht m) refl))
  whole_reads role _ _ (set_timeout s d q v ws hs p hd hq hv) k = let w = word_is words.Set s.tok hs in whole_one role s (ws ++ d ∷ q ∷ v ∷ []) _ (not_ddl role (is_ddl s.tok) (rw w.1 refl)) (begun_simple s (ws ++ d ∷ q ∷ v ∷ []) _ (tok.word words.Set w.0) w.1 (rw (w.1, set_timeout_reads last d q v ws p hd hq hv) refl))
  whole_reads role _ _ (create c t n o z name ts parts hc ht hn ho q hz) k =
      let w = word_is words.Create c.tok hc in
      let r = role_of role (created name parts) k in
      whole_one role c (t ∷ n ∷ o ∷ (ts ++ z ∷ [])) _ (rw w.1 r.1) (begun_simple c (t ∷ n ∷ o ∷ (ts ++ z ∷ [])) _ (tok.word words.Create w.0) w.1 (create_reads last t n o z name ts parts ht hn ho q hz (table_fits name parts (subst (λ x. is_kept x ≡ true) (created_is name parts) r.0))))
  whole_reads role _ _ (drop d t ts ns hd ht q) k =
      let w = word_is words.Drop d.tok hd in
      whole_one role d (t ∷ ts) _ (rw w.1 (role_of role (DropTables (record { if_exists = false; names = ns })) k).1) (begun_simple d (t ∷ ts) _ (tok.word words.Drop w.0) w.1 (rw (w.1, drop_reads last t ts ns ht q) refl))
  whole_reads role _ _ (drop_if d t i e ts ns hd ht hi he q) k =
      let w = word_is words.Drop d.tok hd in
      whole_one role d (t ∷ i ∷ e ∷ ts) _ (rw w.1 (role_of role (DropTables (record { if_exists = true; names = ns })) k).1) (begun_simple d (t ∷ i ∷ e ∷ ts) _ (tok.word words.Drop w.0) w.1 (rw (w.1, drop_if_reads last t i e ts ns ht hi he q) refl))
  whole_reads role _ _ (insert i o n v name cs ts ds vs columns rows b t hi ho hn q hv r d m) k =
      let w = word_is words.Insert i.tok hi in
      let behind = o ∷ n ∷ (cs ++ v ∷ (ts ++ (ds ++ vs))) in
      let a = and_parts (columns_differ columns) (rows_fit (option_map length columns) rows.rows && (list_all (list_all is_shallow) rows.rows && returning_kept t)) (role_of role (Inserts (record { table = name; columns = columns; rows = rows.rows; do_nothing = b; returning = t })) k).0 in
      let c = and_parts (rows_fit (option_map length columns) rows.rows) (list_all (list_all is_shallow) rows.rows && returning_kept t) a.1 in
      whole_one role i behind _ (not_ddl role (is_ddl i.tok) (rw w.1 refl)) (begun_simple i behind _ (tok.word words.Insert w.0) w.1 (rw (w.1, insert_reads last o n v name cs ts ds vs columns rows b t ho hn q hv r d m a.0 c.0) refl))
  whole_reads role _ _ (update u n s name ts ws vs sets f t hu hn hs q x m) k =
      let w = word_is words.Update u.tok hu in
      let behind = n ∷ s ∷ (ts ++ (ws ++ vs)) in
      let a = and_parts (all_differ (set_columns sets)) (list_all (λ (y : SetTree). is_shallow y.value) sets && (maybe_shallow f && returning_kept t)) (role_of role (Updates (record { table = name; sets = sets; filter = f; returning = t })) k).0 in
      whole_one role u behind _ (not_ddl role (is_ddl u.tok) (rw w.1 refl)) (begun_simple u behind _ (tok.word words.Update w.0) w.1 (rw (w.1, update_reads last n s name ts ws vs sets f t hn hs q x m a.0) refl))
  whole_reads role _ _ (delete d f n name ws vs filter t hd hf hn x m) k =
      let w = word_is words.Delete d.tok hd in
      let behind = f ∷ n ∷ (ws ++ vs) in
      whole_one role d behind _ (not_ddl role (is_ddl d.tok) (rw w.1 refl)) (begun_simple d behind _ (tok.word words.Delete w.0) w.1 (rw (w.1, delete_reads last f n name ws vs filter t hf hn x m) refl))
  whole_reads role _ _ (select s is fs ws os ls i t f o l hs a b c d e) k =
      let w = word_is words.Select s.tok hs in
      let allowed : is_allowed (record { items = i; table = t; filter = f; order = o; lock = l }) ≡ true = (and_parts (is_allowed (record { items = i; table = t; filter = f; order = o; lock = l })) (list_all item_shallow i && (maybe_shallow f && list_all (λ (y : OrderTree). is_shallow y.expr) o)) (role_of role (Selects (record { items = i; table = t; filter = f; order = o; lock = l })) k).0).0 in
      whole_one role s (is ++ (fs ++ (ws ++ (os ++ ls)))) _ (not_ddl role (is_ddl s.tok) (rw w.1 refl)) (begun_simple s (is ++ (fs ++ (ws ++ (os ++ ls)))) _ (tok.word words.Select w.0) w.1 (select_reads last s.span.start is fs ws os ls i t f o l a b c d e allowed))

  no_tokens : (role : Role) → whole_at last role [] ≡ Err (misplaced last [])
  unfolding whole_at stmt_at
  no_tokens role = refl

  pub piece_reads : (role : Role) (ss rs : List StmtTree) (ts : Tokens) → PieceIs Shallow ts rs → list_all (is_kept_in role) rs ≡ true → length ss + length rs ≤ MAX_STMTS → piece_at last role ss ts ≡ Ok (ss ++ rs)
  unfolding piece_at
  piece_reads role ss _ _ no_stmt h le = ap Ok (sym (append-nil ss))
  piece_reads role ss _ _ (a_stmt ts s q) h le = of_tokens ts (whole_reads role ts s q (and_parts (is_kept_in role s) true h).0)
    where
      few : nat_lt (length ss) MAX_STMTS ≡ true
      few = lt-ltb (length ss) MAX_STMTS (omega (arith, le))

      of_tokens : (us : Tokens) → whole_at last role us ≡ Ok s → piece_at last role ss us ≡ Ok (ss ++ s ∷ [])
      of_tokens [] e = absurd (no_both s (misplaced last []) (sym e ∙ no_tokens role))
      of_tokens (t ∷ us) e = rw (few, e) refl

pub piece_of : (last : ℕ) (role : Role) (ss : List StmtTree) (piece ts us : Tokens) (c : At Token) → Free ts → Is (is_sign signs.Semicolon) c → stmts_at last role ss piece (ts ++ c ∷ us) ≡ (piece_at c.span.start role ss (piece ++ ts) >>= λ more. stmts_at last role more [] us)
unfolding stmts_at
piece_of last role ss piece [] us c f h = rw (h, append-nil piece) refl
piece_of last role ss piece (t ∷ ts) us c f h =
    let p = and_parts (is_free t) (list_all is_free ts) f in
    rw (not_not (is_sign signs.Semicolon t.tok) p.0) (piece_of last role ss (piece ++ t ∷ []) ts us c p.1 h ∙ rw append_assoc refl)
  where
    not_not : (b : Bool) → not b ≡ true → b ≡ false
    not_not true e = absurd cc
    not_not false e = refl

pub last_of : (last : ℕ) (role : Role) (ss : List StmtTree) (piece ts : Tokens) → Free ts → stmts_at last role ss piece ts ≡ piece_at last role ss (piece ++ ts)
unfolding stmts_at
last_of last role ss piece [] f = ap (piece_at last role ss) (sym (append-nil piece))
last_of last role ss piece (t ∷ ts) f =
    let p = and_parts (is_free t) (list_all is_free ts) f in
    rw (not_not (is_sign signs.Semicolon t.tok) p.0) (last_of last role ss (piece ++ t ∷ []) ts p.1 ∙ rw append_assoc refl)
  where
    not_not : (b : Bool) → not b ≡ true → b ≡ false
    not_not true e = absurd cc
    not_not false e = refl

pub piece_free : (ts : Tokens) (ss : List StmtTree) → PieceIs Shallow ts ss → Free ts
piece_free _ _ no_stmt = refl
piece_free _ _ (a_stmt ts s q) = stmt_free ts s q

block_reads : (last : ℕ) (role : Role) {ts : Tokens} {rs : List StmtTree} → BlockIs Shallow ts rs → (ss : List StmtTree) → list_all (is_kept_in role) rs ≡ true → length ss + length rs ≤ MAX_STMTS → stmts_at last role ss [] ts ≡ Ok (ss ++ rs)
block_reads last role (last_piece ts rs p) ss h le = last_of last role ss [] ts (piece_free ts rs p) ∙ piece_reads last role ss rs ts p h le
block_reads last role (next_piece ts us ps rs c p hc k) ss h le =
    let q = and_parts (list_all (is_kept_in role) ps) (list_all (is_kept_in role) rs) (sym (list_all-append (is_kept_in role) ps rs) ∙ h) in
    let few : length ss + (length ps + length rs) ≤ MAX_STMTS = omega (arith, le, length-append ps rs) in
    let first = piece_reads c.span.start role ss ps ts p q.0 (omega (arith, few)) in
    piece_of last role ss [] ts us c (piece_free ts ps p) hc ∙ rw first (block_reads last role k (ss ++ ps) q.1 (omega (arith, few, length-append ss ps)) ∙ ap Ok (append_assoc ss ps rs))

block_sound : (last : ℕ) (role : Role) (ss more : List StmtTree) (piece ts : Tokens) → stmts_at last role ss piece ts ≡ Ok more → Added last ss more (piece ++ ts) (BlockIs Shallow)
unfolding stmts_at
block_sound last role ss more piece [] e =
    let a = piece_sound last role ss more piece e in
    record { rest = a.rest; same = a.same; spells = subst (λ us. BlockIs Shallow us a.rest) (sym (append-nil piece)) (last_piece piece a.rest a.spells); few = a.few }
block_sound last role ss more piece (t ∷ ts) e = of_test (is_sign signs.Semicolon t.tok) refl (λ us ps. block_sound last role us more ps ts) e
  where
    of_test : (b : Bool) → is_sign signs.Semicolon t.tok ≡ b → ((us : List StmtTree) (ps : Tokens) → stmts_at last role us ps ts ≡ Ok more → Added last us more (ps ++ ts) (BlockIs Shallow)) → (if b then (piece_at t.span.start role ss piece >>= λ us. stmts_at last role us [] ts) else stmts_at last role ss (piece ++ t ∷ []) ts) ≡ Ok more → Added last ss more (piece ++ t ∷ ts) (BlockIs Shallow)
    of_test true h go k =
        let p = bind_ok (piece_at t.span.start role ss piece) (λ us. stmts_at last role us [] ts) more k in
        let a = piece_sound t.span.start role ss p.0 piece p.1 in
        let b = go p.0 [] p.2 in
        record {
          rest = a.rest ++ b.rest;
          same = b.same ∙ (ap (λ us. us ++ b.rest) a.same ∙ append_assoc ss a.rest b.rest);
          spells = next_piece piece ts a.rest b.rest t a.spells h b.spells;
          few = λ n. b.few (a.few n);
        }
    of_test false h go k = subst (λ us. Added last ss more us (BlockIs Shallow)) (append_assoc piece (t ∷ []) ts) (go ss (piece ++ t ∷ []) k)

pub blocks_are_read : BlocksAreRead
blocks_are_read last role ts ss less = (λ e. sound (sym (block_same last role ts) ∙ e), λ b. block_same last role ts ∙ complete b)
  where
    sound : block_at last role ts ≡ Ok ss → BlockIs Shallow ts ss × (length ss ≤ MAX_STMTS) × (list_all (is_kept_in role) ss ≡ true)
    sound e =
        let a = block_sound last role [] ss [] ts e in
        (subst (BlockIs Shallow ts) (sym a.same) a.spells, a.few (omega arith), block_kept last role ts ss e less)

    complete : BlockIs Shallow ts ss × (length ss ≤ MAX_STMTS) × (list_all (is_kept_in role) ss ≡ true) → block_at last role ts ≡ Ok ss
    complete (b, few, kept) = block_reads last role b [] kept (omega (arith, few))
