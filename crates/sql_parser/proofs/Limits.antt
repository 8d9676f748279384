-- Where a statement is refused as DdlInSession, and a block as TooMany.
use Rattle.std.proofs.Common.{◌≡◌, ℕ, zero, suc, ◌+◌, ◌<◌, ◌≤◌, ◌^◌, Bool, true, false, List, [], ◌∷◌, ◌++◌, length, refl, sym, ap, subst, ◌∙◌, append_assoc, append-nil, length-append, arith, rules}
use Rattle.std.proofs.lemmas.Bool.{and_parts, and_from}
use Rattle.std.proofs.lemmas.List.Folds.{list_all-append}
use Rattle.std.specs.List.{list_all}
use Rattle.std.specs.Prelude.{Result, Ok, Err, not, nat_lt, if◌then◌else◌}
use Rattle.iso_lexer.specs.declared.limits.TheConstants.{MAX_STMTS}
use Rattle.iso_lexer.specs.declared.token.At.{At}
use Rattle.iso_lexer.specs.declared.sql_token.SqlSign.TheVariants as signs
use Rattle.sql_trees.specs.declared.fault.SqlFault.{SqlFault}
use Rattle.sql_trees.specs.declared.fault.SqlFault.TheVariants.{Syntax, LeftOut, TooDeep, TooMany, BadColumns, DdlInSession}
use Rattle.sql_trees.specs.Statements.{StmtTree}
use Rattle.sql_trees.specs.Tokens.{Token, Tokens}
use Rattle.sql_expressions.specs.Results.{◌>>=◌}
use Rattle.sql_expressions.specs.Readers.{is_sign, misplaced}
use Rattle.sql_expressions.specs.Laws as expr
use Rattle.sql_blocks.specs.declared.block.Role.{Role}
use Rattle.sql_blocks.specs.Parts.{is_session}
use Rattle.sql_blocks.specs.Kept.{is_kept_in}
use Rattle.sql_parser.specs.Grammar.{is_ddl, Is, PieceIs, no_stmt, a_stmt, EndedAre, no_pieces, ended_piece, Shallow, OfAnyDepth}
use Rattle.sql_parser.specs.Inner.Blocks.{stmt_at, at_end, whole_at, piece_at, stmts_at, block_at}
use Rattle.sql_parser.specs.Stops.{Refuses, at_next, at_word, at_conflict, at_name, at_row, in_expression, too_deep}
use Rattle.sql_parser.specs.Laws.{BeginsDdl, DdlIsRefused, BeginsOneMore, TooManyIsRefused}
use Rattle.sql_parser.proofs.BlockReadings.{whole_stops, whole_stopped, block_same}
use Rattle.sql_parser.proofs.Steps.{bind_ok, when_ok, ok_same}
use Rattle.sql_parser.proofs.Locals.{Local, took, stopped}
use Rattle.sql_parser.proofs.ExprLocals.{some_of_any_depth, of_any_depth_starts, any_depth_local, one_name}
use Rattle.sql_parser.proofs.ExprFaults.{IsExprFault, misplaced_told}
use Rattle.sql_parser.proofs.QueryLocals.{Shown, shown, no_columns, no_query, Whole}
use Rattle.sql_parser.proofs.BlockLocals.{barred, barred_is, stmt_local}
use Rattle.sql_parser.proofs.BlocksKept.{whole_kept}
use Rattle.sql_parser.proofs.BlocksRead.{whole_sound, piece_of, last_of, piece_free, piece_reads}
use Rattle.sql_parser.proofs.BlockFaults.{Split, whole, ended, split}
use Rattle.sql_parser.proofs.Frees.{is_free, Free}

no_both : {A : Type 0} (x : A) (e : SqlFault) → ◌≡◌ {A = Result A SqlFault} (Ok x) (Err e) → ⊥
no_both x e h = cc

err_same : {A : Type 0} (e f : SqlFault) → ◌≡◌ {A = Result A SqlFault} (Err e) (Err f) → e ≡ f
err_same e f h = cc

-- ---- the faults of a statement that may stand in its block

abbrev IsStmtFault : SqlFault → Type 0
IsStmtFault (Syntax n) = Unit {0}
IsStmtFault (LeftOut n) = Unit {0}
IsStmtFault (TooDeep n) = Unit {0}
IsStmtFault (BadColumns n) = Unit {0}
IsStmtFault _ = ⊥

of_expr : (e : SqlFault) → IsExprFault e → IsStmtFault e
of_expr (Syntax n) h = tt
of_expr (LeftOut n) h = tt
of_expr (TooDeep n) h = tt
of_expr _ h = absurd h

module _ (last : ℕ) (role : Role) (ts : Tokens) (f : SqlFault) where
  of_expression : (front rest : Tokens) (e : SqlFault) → expr.Refuses last front rest e → IsStmtFault e
  of_expression _ _ _ (expr.ended front) = tt
  of_expression _ _ _ (expr.misplaced front rest t h) = tt
  of_expression _ _ _ (expr.excluded front rest t h) = tt
  of_expression _ _ _ (expr.called before rest name open' n h g) = tt

  of_refuses : {W : Type 0} {G : Tokens → Type 0} (front rest : Tokens) (e : SqlFault) → Refuses last OfAnyDepth W G front rest e → IsStmtFault e
  of_refuses _ _ _ (at_next front rest) = of_expr (misplaced last rest) (misplaced_told last rest)
  of_refuses _ _ _ (at_word front rest t w h) = tt
  of_refuses _ _ _ (at_conflict front rest b t h) = tt
  of_refuses _ _ _ (at_name front rest t n h g) = tt
  of_refuses _ _ _ (at_row before row rest es r) = tt
  of_refuses _ _ _ (in_expression before here rest e r) = of_expression here rest e r
  of_refuses _ _ _ (too_deep before here rest place m) = tt

  of_shown : (us : Tokens) (r : Result StmtTree SqlFault) (s : StmtTree) → Shown us r s → r ≡ Err f → IsStmtFault f
  of_shown us _ _ (shown s) h = absurd (no_both s f h)
  of_shown us _ _ (no_columns place name t k) h = subst IsStmtFault (err_same (BadColumns place) f h) tt
  of_shown us _ _ (no_query s vs q n k) h = subst IsStmtFault (err_same (LeftOut s.span.start) f h) tt

  of_end : (v : Result StmtTree SqlFault) (front rest : Tokens) → Whole OfAnyDepth front v → at_end last v rest ≡ Err f → IsStmtFault f
  of_end v front [] q h = of_shown front v q.stmt q.shows h
  of_end v front (t ∷ us) q h = subst IsStmtFault (err_same (misplaced last (t ∷ us)) f h) (of_expr (misplaced last (t ∷ us)) (misplaced_told last (t ∷ us)))

  whole_is : (us : Tokens) (r : Result (Result StmtTree SqlFault × Tokens) SqlFault) → stmt_at last role us ≡ r → whole_at last role us ≡ (r >>= λ x. at_end last x.0 x.1)
  unfolding whole_at
  whole_is us r e = rw e refl

  of_local : whole_at last role ts ≡ Err f → Local last OfAnyDepth (Unit {0}) (Unit {0}) (Whole OfAnyDepth) (stmt_at last role) ts → IsStmtFault f
  of_local e (took v front rest split local q) = of_end v front rest q (sym (whole_is ts (Ok (v, rest)) (ap (stmt_at last role) split ∙ local rest refl)) ∙ e)
  of_local e (stopped g front rest split local b) =
      let c = b tt in
      subst IsStmtFault (err_same g f (sym (whole_is ts (Err g) (ap (stmt_at last role) split ∙ local rest refl)) ∙ e)) (of_refuses front rest g c.stands)

  stmt_fault : barred role ts ≡ false → whole_at last role ts ≡ Err f → IsStmtFault f
  stmt_fault free e = of_local e (stmt_local last OfAnyDepth (Unit {0}) (Unit {0}) some_of_any_depth (any_depth_local last (Unit {0})) of_any_depth_starts (one_name last) role ts free (λ w. tt))

-- ---- DdlInSession

ddl_place : (m n : ℕ) → ◌≡◌ {A = SqlFault} (DdlInSession m) (DdlInSession n) → n ≡ m
ddl_place m n h = cc

pub ddl_is_refused : DdlIsRefused
ddl_is_refused last place role ts = (λ e. there ts (whole_stopped last role ts (DdlInSession place) e), λ b. whole_stops last role ts (DdlInSession place) (back ts b))
  where
    there : (us : Tokens) → whole_at last role us ≡ Err (DdlInSession place) → BeginsDdl role us place
    there [] e = stmt_fault last role [] (DdlInSession place) refl e
    there (t ∷ us) e = of_test (barred role (t ∷ us)) refl
      where
        of_test : (b : Bool) → barred role (t ∷ us) ≡ b → BeginsDdl role (t ∷ us) place
        of_test true h =
            let p = and_parts (is_session role) (is_ddl t.tok) h in
            (p.0, p.1, ddl_place t.span.start place (err_same (DdlInSession t.span.start) (DdlInSession place) (sym (barred_is last role t us h) ∙ e)))
        of_test false h = absurd (stmt_fault last role (t ∷ us) (DdlInSession place) h e)

    back : (us : Tokens) → BeginsDdl role us place → whole_at last role us ≡ Err (DdlInSession place)
    back [] b = absurd b
    back (t ∷ us) b = barred_is last role t us (and_from (is_session role) (is_ddl t.tok) b.0 b.1) ∙ ap (λ n. Err (DdlInSession n)) (sym b.2)

-- ---- TooMany

never_many : (last : ℕ) (role : Role) (ts : Tokens) (n : ℕ) → whole_at last role ts ≡ Err (TooMany n) → ⊥
never_many last role [] n e = stmt_fault last role [] (TooMany n) refl e
never_many last role (t ∷ us) n e = of_test (barred role (t ∷ us)) refl
  where
    other : (m k : ℕ) → ◌≡◌ {A = SqlFault} (DdlInSession m) (TooMany k) → ⊥
    other m k h = cc

    of_test : (b : Bool) → barred role (t ∷ us) ≡ b → ⊥
    of_test true h = other t.span.start n (err_same (DdlInSession t.span.start) (TooMany n) (sym (barred_is last role t us h) ∙ e))
    of_test false h = stmt_fault last role (t ∷ us) (TooMany n) h e

ended_reads : (last : ℕ) (role : Role) {ts : Tokens} {rs : List StmtTree} → EndedAre Shallow ts rs → (ss : List StmtTree) (us : Tokens) → list_all (is_kept_in role) rs ≡ true → length ss + length rs ≤ MAX_STMTS → stmts_at last role ss [] (ts ++ us) ≡ stmts_at last role (ss ++ rs) [] us
ended_reads last role no_pieces ss us h le = ap (λ xs. stmts_at last role xs [] us) (sym (append-nil ss))
ended_reads last role (ended_piece ts vs ps rs c p hc k) ss us h le =
    let q = and_parts (list_all (is_kept_in role) ps) (list_all (is_kept_in role) rs) (sym (list_all-append (is_kept_in role) ps rs) ∙ h) in
    let few : length ss + (length ps + length rs) ≤ MAX_STMTS = omega (arith, le, length-append ps rs) in
    let first = piece_reads c.span.start role ss ps ts p q.0 (omega (arith, few)) in
    ap (stmts_at last role ss []) (append_assoc ts (c ∷ vs) us)
    ∙ (piece_of last role ss [] ts (vs ++ us) c (piece_free ts ps p) hc ∙ rw first (ended_reads last role k (ss ++ ps) us q.1 (omega (arith, few, length-append ss ps)) ∙ ap (λ xs. stmts_at last role xs [] us) (append_assoc ss ps rs)))

piece_full : (last : ℕ) (role : Role) (ss : List StmtTree) (t : At Token) (us : Tokens) → nat_lt (length ss) MAX_STMTS ≡ false → piece_at last role ss (t ∷ us) ≡ Err (TooMany t.span.start)
unfolding piece_at
piece_full last role ss t us h = rw h refl

full_is : (n : ℕ) → n ≡ MAX_STMTS → nat_lt n MAX_STMTS ≡ false
full_is n h = rw h refl

below : (n : ℕ) → nat_lt n MAX_STMTS ≡ false → n ≤ MAX_STMTS → n ≡ MAX_STMTS
below n h le = of_test (nat_lt n MAX_STMTS) refl
  where
    least : nat_lt n MAX_STMTS ≡ false → MAX_STMTS ≤ n
    least g = search rules

    of_test : (b : Bool) → nat_lt n MAX_STMTS ≡ b → n ≡ MAX_STMTS
    of_test b g = let k = least h in omega (arith, le, k)

full_stops : (last : ℕ) (role : Role) (ss : List StmtTree) (t : At Token) (us : Tokens) → length ss ≡ MAX_STMTS → is_sign signs.Semicolon t.tok ≡ false → stmts_at last role ss [] (t ∷ us) ≡ Err (TooMany t.span.start)
full_stops last role ss t us full plain = of_split (t ∷ us) refl (split (t ∷ us))
  where
    of_split : (xs : Tokens) → xs ≡ t ∷ us → Split xs → stmts_at last role ss [] (t ∷ us) ≡ Err (TooMany t.span.start)
    of_split _ e (whole xs free) = ap (stmts_at last role ss []) (sym e) ∙ (last_of last role ss [] xs free ∙ (ap (piece_at last role ss) e ∙ piece_full last role ss t us (full_is (length ss) full)))
    of_split _ e (ended [] vs c free hc) = absurd (of_first c vs e hc)
      where
        of_first : (d : At Token) (ws : Tokens) → d ∷ ws ≡ t ∷ us → Is (is_sign signs.Semicolon) d → ⊥
        of_first d ws g k =
            let same : d ≡ t = cc in
            let marked : is_sign signs.Semicolon t.tok ≡ true = subst (λ (y : At Token). is_sign signs.Semicolon y.tok ≡ true) same k in
            cc
    of_split _ e (ended (x ∷ xs) vs c free hc) =
        let same : x ≡ t = cc in
        ap (stmts_at last role ss []) (sym e) ∙ (piece_of last role ss [] (x ∷ xs) vs c free hc ∙ rw (piece_full c.span.start role ss x xs (full_is (length ss) full)) (ap (λ (y : At Token). Err (TooMany y.span.start)) same))

-- what stands where a block is too long, behind some statements
record After (role : Role) (ss : List StmtTree) (ts : Tokens) (place : ℕ) : Type 0 where
  front : Tokens
  first : At Token
  rest : Tokens
  split : ts ≡ front ++ first ∷ rest
  here : place ≡ first.span.start
  begins : is_sign signs.Semicolon first.tok ≡ false
  stmts : List StmtTree
  spells : EndedAre Shallow front stmts
  full : length ss + length stmts ≡ MAX_STMTS
  kept : list_all (is_kept_in role) stmts ≡ true

many_place : (m n : ℕ) → ◌≡◌ {A = SqlFault} (TooMany m) (TooMany n) → n ≡ m
many_place m n h = cc

-- a piece that is refused so begins one statement more
piece_many : (last : ℕ) (role : Role) (ss : List StmtTree) (piece behind : Tokens) (place : ℕ) → Free piece → length ss ≤ MAX_STMTS → piece_at last role ss piece ≡ Err (TooMany place) → After role ss (piece ++ behind) place
unfolding piece_at
piece_many last role ss [] behind place free le e = absurd (no_both ss (TooMany place) e)
piece_many last role ss (t ∷ us) behind place free le e = of_test (nat_lt (length ss) MAX_STMTS) refl e
  where
    of_whole : (r : Result StmtTree SqlFault) → (r >>= λ s. Ok (ss ++ s ∷ [])) ≡ Err (TooMany place) → r ≡ Err (TooMany place)
    of_whole (Ok s) h = absurd (no_both (ss ++ s ∷ []) (TooMany place) h)
    of_whole (Err g) h = ap Err (err_same g (TooMany place) h)

    no_mark : not (is_sign signs.Semicolon t.tok) ≡ true → is_sign signs.Semicolon t.tok ≡ false
    no_mark h = of_bool (is_sign signs.Semicolon t.tok) h
      where
        of_bool : (b : Bool) → not b ≡ true → b ≡ false
        of_bool true g = absurd cc
        of_bool false g = refl

    of_test : (b : Bool) → nat_lt (length ss) MAX_STMTS ≡ b → (if b then (whole_at last role (t ∷ us) >>= λ s. Ok (ss ++ s ∷ [])) else Err (TooMany t.span.start)) ≡ Err (TooMany place) → After role ss ((t ∷ us) ++ behind) place
    of_test true h g = absurd (never_many last role (t ∷ us) place (of_whole (whole_at last role (t ∷ us)) g))
    of_test false h g = record {
      front = [];
      first = t;
      rest = us ++ behind;
      split = refl;
      here = many_place t.span.start place (err_same (TooMany t.span.start) (TooMany place) g);
      begins = no_mark (and_parts (is_free t) (list_all is_free us) free).0;
      stmts = [];
      spells = no_pieces;
      full = omega (arith, below (length ss) h le);
      kept = refl;
    }

-- what a piece that is read adds
record Adds (role : Role) (ss more : List StmtTree) (piece : Tokens) : Type 0 where
  added : List StmtTree
  same : more ≡ ss ++ added
  spells : PieceIs Shallow piece added
  few : length more ≤ MAX_STMTS
  kept : list_all (is_kept_in role) added ≡ true

piece_adds : (last : ℕ) (role : Role) (ss more : List StmtTree) (piece : Tokens) → length piece < 2 ^ 32 → length ss ≤ MAX_STMTS → piece_at last role ss piece ≡ Ok more → Adds role ss more piece
unfolding piece_at
piece_adds last role ss more [] less le e =
    let same : ss ≡ more = ok_same ss more e in
    record { added = []; same = sym same ∙ sym (append-nil ss); spells = no_stmt; few = subst (λ (us : List StmtTree). length us ≤ MAX_STMTS) same le; kept = refl }
piece_adds last role ss more (t ∷ ts) less le e =
    let a = when_ok (nat_lt (length ss) MAX_STMTS) (TooMany t.span.start) (whole_at last role (t ∷ ts) >>= λ s. Ok (ss ++ s ∷ [])) more e in
    let s = bind_ok (whole_at last role (t ∷ ts)) (λ s. Ok (ss ++ s ∷ [])) more a.1 in
    let same : ss ++ s.0 ∷ [] ≡ more = ok_same (ss ++ s.0 ∷ []) more s.2 in
    let lower : length ss < MAX_STMTS = lower_than (length ss) a.0 in
    record {
      added = s.0 ∷ [];
      same = sym same;
      spells = a_stmt (t ∷ ts) s.0 (whole_sound last role (t ∷ ts) s.0 s.1);
      few = subst (λ (us : List StmtTree). length us ≤ MAX_STMTS) same (omega (arith, lower, length-append ss (s.0 ∷ [])));
      kept = and_from (is_kept_in role s.0) true (whole_kept last role (t ∷ ts) s.0 s.1 less) refl;
    }
  where
    lower_than : (n : ℕ) → nat_lt n MAX_STMTS ≡ true → n < MAX_STMTS
    lower_than n h = search rules

many_from : (m last : ℕ) (role : Role) (ss : List StmtTree) (ts : Tokens) (place : ℕ) → Split ts → length ts ≤ m → length ts < 2 ^ 32 → length ss ≤ MAX_STMTS → stmts_at last role ss [] ts ≡ Err (TooMany place) → After role ss ts place
many_from m last role ss _ place (whole ts free) le less few e =
    subst (λ us. After role ss us place) (append-nil ts) (piece_many last role ss ts [] place free few (sym (last_of last role ss [] ts free) ∙ e))
many_from zero last role ss _ place (ended ts us c free hc) le less few e = absurd (omega (arith, le, length-append ts (c ∷ us)))
many_from (suc m) last role ss _ place (ended ts us c free hc) le less few e =
    of_piece (piece_at c.span.start role ss ts) refl (sym (piece_of last role ss [] ts us c free hc) ∙ e) (λ more n g. many_from m last role more us place (split us) (omega (arith, le, length-append ts (c ∷ us))) (omega (arith, less, length-append ts (c ∷ us))) n g)
  where
    behind : (more : List StmtTree) → Adds role ss more ts → After role more us place → After role ss (ts ++ c ∷ us) place
    behind more a b = record {
      front = ts ++ c ∷ b.front;
      first = b.first;
      rest = b.rest;
      split = ap (λ xs. ts ++ c ∷ xs) b.split ∙ sym (append_assoc ts (c ∷ b.front) (b.first ∷ b.rest));
      here = b.here;
      begins = b.begins;
      stmts = a.added ++ b.stmts;
      spells = ended_piece ts b.front a.added b.stmts c a.spells hc b.spells;
      full = omega (arith, b.full, ap length a.same, length-append ss a.added, length-append a.added b.stmts);
      kept = list_all-append (is_kept_in role) a.added b.stmts ∙ and_from (list_all (is_kept_in role) a.added) (list_all (is_kept_in role) b.stmts) a.kept b.kept;
    }

    of_piece : (r : Result (List StmtTree) SqlFault) → piece_at c.span.start role ss ts ≡ r → (r >>= λ more. stmts_at last role more [] us) ≡ Err (TooMany place) → ((more : List StmtTree) → length more ≤ MAX_STMTS → stmts_at last role more [] us ≡ Err (TooMany place) → After role more us place) → After role ss (ts ++ c ∷ us) place
    of_piece (Ok more) is h go =
        let a = piece_adds c.span.start role ss more ts (omega (arith, less, length-append ts (c ∷ us))) few is in
        behind more a (go more a.few h)
    of_piece (Err g) is h go = piece_many c.span.start role ss ts (c ∷ us) place free few (is ∙ h)

pub too_many_is_refused : TooManyIsRefused
too_many_is_refused last place role ts less = (λ e. there (sym (block_same last role ts) ∙ e), λ b. block_same last role ts ∙ back b)
  where
    there : block_at last role ts ≡ Err (TooMany place) → BeginsOneMore role ts place
    there e =
        let a = many_from (length ts) last role [] ts place (split ts) (omega arith) less (omega arith) e in
        record { front = a.front; first = a.first; rest = a.rest; split = a.split; here = a.here; begins = a.begins; stmts = a.stmts; spells = a.spells; full = omega (arith, a.full); kept = a.kept }

    back : BeginsOneMore role ts place → block_at last role ts ≡ Err (TooMany place)
    back b =
        ap (stmts_at last role [] []) b.split
        ∙ (ended_reads last role b.spells [] (b.first ∷ b.rest) b.kept (omega (arith, b.full))
        ∙ (full_stops last role b.stmts b.first b.rest b.full b.begins ∙ ap (λ n. Err (TooMany n)) (sym b.here)))
