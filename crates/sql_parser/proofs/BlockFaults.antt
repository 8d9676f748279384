-- The law of where reading a block stops.
use Rattle.std.proofs.Common.{◌≡◌, ℕ, zero, suc, ◌<◌, ◌≤◌, ◌^◌, Bool, true, false, List, [], ◌∷◌, ◌++◌, length, Option, Some, refl, sym, ap, subst, ◌∙◌, append_assoc, append-nil, length-append, arith}
use Rattle.std.proofs.lemmas.Bool.{and_parts, and_from}
use Rattle.std.proofs.lemmas.List.Folds.{list_all-append}
use Rattle.std.specs.List.{list_all}
use Rattle.std.specs.Prelude.{Result, Ok, Err, not, nat_lt, if◌then◌else◌}
use Rattle.iso_lexer.specs.declared.limits.TheConstants.{MAX_STMTS}
use Rattle.iso_lexer.specs.declared.token.At.{At}
use Rattle.sql_trees.specs.declared.fault.SqlFault.{SqlFault}
use Rattle.sql_trees.specs.declared.fault.SqlFault.TheVariants.{Syntax, LeftOut, TooMany}
use Rattle.sql_trees.specs.Statements.{StmtTree}
use Rattle.sql_trees.specs.Tokens.{Token, Tokens}
use Rattle.sql_trees.specs.Tokens as tok
use Rattle.iso_lexer.specs.declared.sql_token.SqlSign.TheVariants as signs
use Rattle.sql_trees.specs.Trees.{Tree}
use Rattle.sql_expressions.specs.Results.{◌>>=◌}
use Rattle.sql_expressions.specs.Readers.{is_sign, misplaced, place_of}
use Rattle.sql_expressions.specs.Reading.{is_call}
use Rattle.sql_expressions.specs.Laws.{head, Makes, first}
use Rattle.sql_expressions.specs.Laws as expr
use Rattle.sql_blocks.specs.declared.block.Role.{Role}
use Rattle.sql_blocks.specs.Kept.{is_kept_in}
use Rattle.sql_parser.specs.Inner.Blocks.{whole_at, piece_at, stmts_at}
use Rattle.sql_parser.specs.Grammar.{Is, RowIs, is_row, Spells, PieceIs, no_stmt, a_stmt, BlockIs, last_piece, next_piece, EndedAre, no_pieces, ended_piece, Shallow, OfAnyDepth}
use Rattle.sql_parser.specs.Stops.{Refuses, at_next, at_word, at_conflict, at_name, at_row, in_expression, too_deep, WantsWords, IsStop}
use Rattle.sql_parser.specs.Laws.{BeginsStatement, Excepted, Stops, BlockStops, at_block_token, in_a_statement, BlockFaultsAreFirst, at_token, elsewhere}
use Rattle.sql_parser.proofs.Steps.{bind_ok, when_ok}
use Rattle.sql_parser.proofs.ExprLocals.{some_of_any_depth, of_any_depth_starts, any_depth_local, one_name}
use Rattle.sql_parser.proofs.BlockLocals.{stmt_local}
use Rattle.sql_parser.proofs.BlocksKept.{whole_kept}
use Rattle.sql_parser.proofs.BlocksRead.{free_of, whole_taken, whole_sound, piece_of, last_of}
use Rattle.sql_parser.proofs.Frees.{is_free, Free}
use Rattle.sql_parser.proofs.BlockReadings.{block_same}
use Rattle.sql_parser.proofs.FirstFaults.{stops_first}

no_both : {A : Type 0} (x : A) (e : SqlFault) → ◌≡◌ {A = Result A SqlFault} (Ok x) (Err e) → ⊥
no_both x e h = cc

err_same : {A : Type 0} (e f : SqlFault) → ◌≡◌ {A = Result A SqlFault} (Err e) (Err f) → e ≡ f
err_same e f h = cc

some_same : (s t : At Token) → ◌≡◌ {A = Option (At Token)} (Some s) (Some t) → s ≡ t
some_same s t e = cc

first_same : (c d : At Token) (us vs : Tokens) → ◌≡◌ {A = Tokens} (c ∷ us) (d ∷ vs) → c ≡ d
first_same c d us vs e = cc

free_parts : (xs ys : Tokens) → Free (xs ++ ys) → Free xs × Free ys
free_parts xs ys f = and_parts (list_all is_free xs) (list_all is_free ys) (sym (list_all-append is_free xs ys) ∙ f)

-- a list up to its first semicolon
pub data Split : Tokens → Type 0 where
  whole : (ts : Tokens) → Free ts → Split ts
  ended : (ts us : Tokens) (c : At Token) → Free ts → Is (is_sign signs.Semicolon) c → Split (ts ++ c ∷ us)

pub split : (ts : Tokens) → Split ts
split [] = whole [] refl
split (t ∷ ts) = of_test (is_sign signs.Semicolon t.tok) refl (split ts)
  where
    of_split : (us : Tokens) → is_sign signs.Semicolon t.tok ≡ false → Split us → Split (t ∷ us)
    of_split _ h (whole us f) = whole (t ∷ us) (and_from (is_free t) (list_all is_free us) (ap not h) f)
    of_split _ h (ended us vs c f g) = ended (t ∷ us) vs c (and_from (is_free t) (list_all is_free us) (ap not h) f) g

    of_test : (b : Bool) → is_sign signs.Semicolon t.tok ≡ b → Split ts → Split (t ∷ ts)
    of_test true h s = ended [] ts t refl h
    of_test false h s = of_split ts h s

-- a semicolon is refused as Syntax
semicolon_next : (last : ℕ) (c : At Token) (us : Tokens) → Is (is_sign signs.Semicolon) c → misplaced last (c ∷ us) ≡ Syntax c.span.start
semicolon_next last c us h = of_tok c.tok refl h
  where
    of_tok : (x : Token) → c.tok ≡ x → is_sign signs.Semicolon x ≡ true → misplaced last (c ∷ us) ≡ Syntax c.span.start
    of_tok (tok.sign signs.Semicolon) e g = rw e refl
    of_tok _ e g = absurd cc

-- what is refused at a piece's end is refused where what is behind it begins
module _ (last : ℕ) (behind : Tokens) (first_behind : (c : At Token) (us : Tokens) → behind ≡ c ∷ us → Is (is_sign signs.Semicolon) c) (W V : Type 0) (up : W → V) where
  of_rest : (us : Tokens) → place_of last (us ++ behind) ≡ place_of (place_of last behind) us
  of_rest [] = refl
  of_rest (u ∷ us) = refl

  of_row : (xs : Tokens) (es : List Tree) → RowIs OfAnyDepth xs es → place_of last xs ≡ place_of (place_of last behind) xs
  of_row _ _ (is_row o c ts es ho q hc) = refl

  of_next : (us bs : Tokens) → behind ≡ bs → misplaced last (us ++ bs) ≡ misplaced (place_of last bs) us
  of_next [] [] e = refl
  of_next [] (c ∷ bs) e = semicolon_next last c bs (first_behind c bs e)
  of_next (u ∷ us) bs e = refl

  of_refuses : (before here rest : Tokens) (f : SqlFault) → expr.Refuses (place_of last behind) here rest f → Refuses last OfAnyDepth V BeginsStatement (before ++ here) (rest ++ behind) f
  of_refuses before _ _ _ (expr.ended here) = subst (Refuses last OfAnyDepth V BeginsStatement (before ++ here) behind) (of_next [] behind refl) (at_next (before ++ here) behind)
  of_refuses before _ _ _ (expr.misplaced here rest t h) = in_expression before here (t ∷ (rest ++ behind)) (Syntax t.span.start) (expr.misplaced here (rest ++ behind) t h)
  of_refuses before _ _ _ (expr.excluded here rest t h) = in_expression before here (t ∷ (rest ++ behind)) (LeftOut t.span.start) (expr.excluded here (rest ++ behind) t h)
  of_refuses before _ _ _ (expr.called first' rest name open' n h g) = in_expression before (first' ++ name ∷ []) (open' ∷ (rest ++ behind)) (LeftOut (if is_call name.tok then name.span.start else open'.span.start)) (expr.called first' (rest ++ behind) name open' n h g)

  makes_more : (place : ℕ) (xs ys : Tokens) → Makes place xs → Makes place (xs ++ ys)
  makes_more place xs ys m = (m.0, m.1 ++ ys, m.2, ap (λ zs. zs ++ ys) m.3 ∙ append_assoc m.0 (m.2 ∷ m.1) ys, m.4, m.5)

  makes_on : (place : ℕ) (here rest : Tokens) → Makes place (here ++ first rest) → Makes place (here ++ first (rest ++ behind))
  makes_on place here [] m = makes_more place here (first behind) (subst (Makes place) (append-nil here) m)
  makes_on place here (t ∷ us) m = m

  stands_on : (front rest : Tokens) (f : SqlFault) → Refuses (place_of last behind) OfAnyDepth W BeginsStatement front rest f → Refuses last OfAnyDepth V BeginsStatement front (rest ++ behind) f
  stands_on _ _ _ (at_next front rest) = subst (Refuses last OfAnyDepth V BeginsStatement front (rest ++ behind)) (of_next rest behind refl) (at_next front (rest ++ behind))
  stands_on _ _ _ (at_word front rest t w h) = at_word front (rest ++ behind) t (up w) h
  stands_on _ _ _ (at_conflict front rest b t h) = at_conflict front (rest ++ behind) b t h
  stands_on _ _ _ (at_name front rest t n h g) = at_name front (rest ++ behind) t n h g
  stands_on _ _ _ (at_row before row rest es r) = subst (λ q. Refuses last OfAnyDepth V BeginsStatement (before ++ row) (rest ++ behind) (Syntax q)) (of_row row es r) (at_row before row (rest ++ behind) es r)
  stands_on _ _ _ (in_expression before here rest f r) = of_refuses before here rest f r
  stands_on _ _ _ (too_deep before here rest place m) = too_deep before here (rest ++ behind) place (makes_on place here rest m)

wants_on : (xs ys : Tokens) → WantsWords xs → WantsWords (xs ++ ys)
wants_on [] ys w = absurd w
wants_on (x ∷ xs) ys w = w

-- a piece that is read, and is none
piece_whole : (last : ℕ) (role : Role) (ss more : List StmtTree) (ts : Tokens) → 0 < length ts → piece_at last role ss ts ≡ Ok more → (s : StmtTree) × (whole_at last role ts ≡ Ok s)
unfolding piece_at
piece_whole last role ss more [] h e = absurd (omega arith)
piece_whole last role ss more (t ∷ ts) h e =
    let a = when_ok (nat_lt (length ss) MAX_STMTS) (TooMany t.span.start) (whole_at last role (t ∷ ts) >>= λ s. Ok (ss ++ s ∷ [])) more e in
    let s = bind_ok (whole_at last role (t ∷ ts)) (λ s. Ok (ss ++ s ∷ [])) more a.1 in
    (s.0, s.1)

piece_any : (last : ℕ) (role : Role) (ss more : List StmtTree) (ts : Tokens) → piece_at last role ss ts ≡ Ok more → (ps : List StmtTree) × PieceIs OfAnyDepth ts ps
unfolding piece_at
piece_any last role ss more [] e = ([], no_stmt)
piece_any last role ss more (t ∷ ts) e =
    let a = when_ok (nat_lt (length ss) MAX_STMTS) (TooMany t.span.start) (whole_at last role (t ∷ ts) >>= λ s. Ok (ss ++ s ∷ [])) more e in
    let s = bind_ok (whole_at last role (t ∷ ts)) (λ s. Ok (ss ++ s ∷ [])) more a.1 in
    (s.0 ∷ [], a_stmt (t ∷ ts) s.0 (whole_taken last OfAnyDepth (Unit {0}) (Unit {0}) role (t ∷ ts) s.0 (stmt_local last OfAnyDepth (Unit {0}) (Unit {0}) some_of_any_depth (any_depth_local last (Unit {0})) of_any_depth_starts (one_name last) role (t ∷ ts) (free_of last role (t ∷ ts) s.0 s.1) (λ w. tt)) s.1))

module _ (role : Role) (f : SqlFault) (stops : IsStop f) where
  -- the same, behind whatever statements
  pub record Halts (last : ℕ) (ts : Tokens) : Type 0 where
    pub front : Tokens
    pub rest : Tokens
    pub parts : ts ≡ front ++ rest
    pub refuses : (before here : Tokens) × (ended : List StmtTree) × (front ≡ before ++ here) × EndedAre OfAnyDepth before ended × Refuses last OfAnyDepth (WantsWords (here ++ rest)) BeginsStatement here rest f
    pub begins : (more : Tokens) × (ss : List StmtTree) × BlockIs OfAnyDepth (front ++ more) ss
    pub none : (n : ℕ) (ss more : List StmtTree) (others : Tokens) → head others ≡ head rest → length (front ++ others) < 2 ^ 32 → stmts_at n role ss [] (front ++ others) ≡ Ok more → ⊥

  pub data Ends (last : ℕ) (ts : Tokens) : Type 0 where
    halts : Halts last ts → Ends last ts
    leaves : (before stmt behind : Tokens) → ts ≡ before ++ (stmt ++ behind) → Excepted (place_of last behind) stmt f → Ends last ts

  -- ---- in a piece

  some_free : (t : At Token) (xs ys : Tokens) → Free (xs ++ t ∷ ys) → is_sign signs.Semicolon t.tok ≡ true → ⊥
  some_free t xs ys f h =
      let p = and_parts (is_free t) (list_all is_free ys) (free_parts xs (t ∷ ys) f).1 in
      let e : not (is_sign signs.Semicolon t.tok) ≡ true = p.0 in
      let g : not (is_sign signs.Semicolon t.tok) ≡ false = ap not h in
      cc

  module _ (last : ℕ) (behind : Tokens) (first_behind : (c : At Token) (us : Tokens) → behind ≡ c ∷ us → Is (is_sign signs.Semicolon) c) where
    -- a statement that is read goes on otherwise
    wrong : (piece front rest : Tokens) → 0 < length piece → piece ≡ front ++ rest → ((others : Tokens) (s : StmtTree) → head others ≡ head rest → Spells Shallow (front ++ others) s → is_kept_in role s ≡ true → ⊥)
        → (n : ℕ) (ss more : List StmtTree) (us : Tokens) → head us ≡ head rest → length (front ++ us) < 2 ^ 32 → piece_at n role ss (front ++ us) ≡ Ok more → ⊥
    wrong piece front rest some parts none n ss more us h less e =
        let w = piece_whole n role ss more (front ++ us) (longer front rest us h (subst (λ xs. 0 < length xs) parts some)) e in
        none us w.0 h (whole_sound n role (front ++ us) w.0 w.1) (whole_kept n role (front ++ us) w.0 w.1 less)
      where
        longer : (xs ys zs : Tokens) → head zs ≡ head ys → 0 < length (xs ++ ys) → 0 < length (xs ++ zs)
        longer [] [] zs g l = absurd (omega arith)
        longer [] (y ∷ ys) [] g l = absurd cc
        longer [] (y ∷ ys) (z ∷ zs) g l = omega arith
        longer (x ∷ xs) ys zs g l = omega arith

    -- the first token behind what is read is the fault's, or stands behind the piece
    heads : (rest us : Tokens) → Free rest → Free us → (tail : Tokens) → ((c : At Token) (vs : Tokens) → tail ≡ c ∷ vs → Is (is_sign signs.Semicolon) c) → head (us ++ tail) ≡ head (rest ++ behind) → head us ≡ head rest
    heads [] [] f g tail k h = refl
    heads [] (u ∷ us) f g tail k h = of_behind behind first_behind h
      where
        of_behind : (bs : Tokens) → ((c : At Token) (vs : Tokens) → bs ≡ c ∷ vs → Is (is_sign signs.Semicolon) c) → Some u ≡ head bs → head (u ∷ us) ≡ head []
        of_behind [] j e = absurd cc
        of_behind (c ∷ vs) j e =
            let same : c ≡ u = some_same c u (sym e) in
            absurd (some_free u [] us g (subst (λ (x : At Token). is_sign signs.Semicolon x.tok ≡ true) same (j c vs refl)))
    heads (r ∷ rs) (u ∷ us) f g tail k h = h
    heads (r ∷ rs) [] f g tail k h = of_tail tail k h
      where
        of_tail : (bs : Tokens) → ((c : At Token) (vs : Tokens) → bs ≡ c ∷ vs → Is (is_sign signs.Semicolon) c) → head bs ≡ Some r → head [] ≡ head (r ∷ rs)
        of_tail [] j e = absurd cc
        of_tail (c ∷ vs) j e =
            let same : c ≡ r = some_same c r e in
            absurd (some_free r [] rs f (subst (λ (x : At Token). is_sign signs.Semicolon x.tok ≡ true) same (j c vs refl)))

    not_read : (piece front rest : Tokens) → Free piece → piece ≡ front ++ rest → 0 < length piece → ((others : Tokens) (s : StmtTree) → head others ≡ head rest → Spells Shallow (front ++ others) s → is_kept_in role s ≡ true → ⊥)
        → (n : ℕ) (ss more : List StmtTree) (others : Tokens) → Split others → head others ≡ head (rest ++ behind) → length (front ++ others) < 2 ^ 32 → stmts_at n role ss [] (front ++ others) ≡ Ok more → ⊥
    not_read piece front rest free parts some none n ss more _ (whole us f) h less e =
        let p = free_parts front rest (subst Free parts free) in
        let g = heads rest us p.1 f [] (λ c vs k. absurd cc) (ap head (append-nil us) ∙ h) in
        wrong piece front rest some parts none n ss more us g less (sym (last_of n role ss [] (front ++ us) (list_all-append is_free front us ∙ and_from (list_all is_free front) (list_all is_free us) p.0 f)) ∙ e)
    not_read piece front rest free parts some none n ss more _ (ended us vs c f k) h less e =
        let p = free_parts front rest (subst Free parts free) in
        let g = heads rest us p.1 f (c ∷ vs) (λ d ws same. subst (λ (x : At Token). is_sign signs.Semicolon x.tok ≡ true) (first_same c d vs ws same) k) h in
        let all : Free (front ++ us) = list_all-append is_free front us ∙ and_from (list_all is_free front) (list_all is_free us) p.0 f in
        let read = bind_ok (piece_at c.span.start role ss (front ++ us)) (λ m. stmts_at n role m [] vs) more (sym (piece_of n role ss [] (front ++ us) vs c all k) ∙ (ap (stmts_at n role ss []) (append_assoc front us (c ∷ vs)) ∙ e)) in
        let fewer : length (front ++ us) < 2 ^ 32 = omega (arith, less, length-append front us, length-append front (us ++ c ∷ vs), length-append us (c ∷ vs)) in
        wrong piece front rest some parts none c.span.start ss read.0 us g fewer read.1

    in_piece : (piece : Tokens) → Free piece → 0 < length piece → Stops (place_of last behind) role piece f → Ends last (piece ++ behind)
    in_piece piece free some (at_token s) = halts (record {
      front = s.front;
      rest = s.rest ++ behind;
      parts = ap (λ xs. xs ++ behind) s.split ∙ append_assoc s.front s.rest behind;
      refuses = ([], s.front, [], refl, no_pieces, stands_on last behind first_behind (WantsWords piece) (WantsWords (s.front ++ (s.rest ++ behind))) (λ w. subst WantsWords (ap (λ xs. xs ++ behind) s.split ∙ append_assoc s.front s.rest behind) (wants_on piece behind w)) s.front s.rest f s.refuses);
      begins = (s.begins.0, s.begins.1 ∷ [], last_piece (s.front ++ s.begins.0) (s.begins.1 ∷ []) (a_stmt (s.front ++ s.begins.0) s.begins.1 s.begins.2));
      none = λ n ss more others h less e. not_read piece s.front s.rest free s.split some s.none n ss more others (split others) h less e;
    })
    in_piece piece free some (elsewhere x) = leaves [] piece behind refl x

  -- ---- behind a piece that is read

  behind_piece : (last : ℕ) (piece us : Tokens) (c : At Token) (ps : List StmtTree) → Free piece → Is (is_sign signs.Semicolon) c → PieceIs OfAnyDepth piece ps → Ends last us → Ends last (piece ++ c ∷ us)
  behind_piece last piece us c ps free hc p (halts s) = halts (record {
    front = piece ++ c ∷ s.front;
    rest = s.rest;
    parts = ap (λ xs. piece ++ c ∷ xs) s.parts ∙ sym (append_assoc piece (c ∷ s.front) s.rest);
    refuses = (piece ++ c ∷ s.refuses.0, s.refuses.1, ps ++ s.refuses.2, ap (λ xs. piece ++ c ∷ xs) s.refuses.3 ∙ sym (append_assoc piece (c ∷ s.refuses.0) s.refuses.1), ended_piece piece s.refuses.0 ps s.refuses.2 c p hc s.refuses.4, s.refuses.5);
    begins = (s.begins.0, ps ++ s.begins.1, subst (λ xs. BlockIs OfAnyDepth xs (ps ++ s.begins.1)) (sym (append_assoc piece (c ∷ s.front) s.begins.0)) (next_piece piece (s.front ++ s.begins.0) ps s.begins.1 c p hc s.begins.2));
    none = λ n ss more others h less e.
        let split' : (piece ++ c ∷ s.front) ++ others ≡ piece ++ c ∷ (s.front ++ others) = append_assoc piece (c ∷ s.front) others in
        let read = bind_ok (piece_at c.span.start role ss piece) (λ m. stmts_at n role m [] (s.front ++ others)) more (sym (piece_of n role ss [] piece (s.front ++ others) c free hc) ∙ (ap (stmts_at n role ss []) (sym split') ∙ e)) in
        s.none n read.0 more others h (omega (arith, less, ap length split', length-append piece (c ∷ (s.front ++ others)))) read.2;
  })
  behind_piece last piece us c ps free hc p (leaves before stmt behind split' x) = leaves (piece ++ c ∷ before) stmt behind (ap (λ xs. piece ++ c ∷ xs) split' ∙ sym (append_assoc piece (c ∷ before) (stmt ++ behind))) x

  -- ---- the whole

  too_many_is_no_stop : (n : ℕ) → IsStop (TooMany n) → ⊥
  too_many_is_no_stop n s = s

  piece_fault : (last : ℕ) (ss : List StmtTree) (ts : Tokens) → piece_at last role ss ts ≡ Err f → (0 < length ts) × (whole_at last role ts ≡ Err f)
  unfolding piece_at
  piece_fault last ss [] e = absurd (no_both ss f e)
  piece_fault last ss (t ∷ ts) e = (omega arith, of_few (nat_lt (length ss) MAX_STMTS) e)
    where
      of_whole : (r : Result StmtTree SqlFault) → (r >>= λ s. Ok (ss ++ s ∷ [])) ≡ Err f → r ≡ Err f
      of_whole (Ok s) h = absurd (no_both (ss ++ s ∷ []) f h)
      of_whole (Err g) h = ap Err (err_same g f h)

      of_few : (b : Bool) → (if b then (whole_at last role (t ∷ ts) >>= λ s. Ok (ss ++ s ∷ [])) else Err (TooMany t.span.start)) ≡ Err f → whole_at last role (t ∷ ts) ≡ Err f
      of_few true h = of_whole (whole_at last role (t ∷ ts)) h
      of_few false h = absurd (subst IsStop (sym (err_same (TooMany t.span.start) f h)) stops)

  whole_block : (last : ℕ) (m : ℕ) (ss : List StmtTree) (ts : Tokens) → length ts ≤ m → Split ts → stmts_at last role ss [] ts ≡ Err f → Ends last ts
  whole_block last m ss _ le (whole ts free) e =
      let p = piece_fault last ss ts (sym (last_of last role ss [] ts free) ∙ e) in
      subst (Ends last) (append-nil ts) (in_piece last [] (λ c us k. absurd cc) ts free p.0 (stops_first last role ts f stops p.1))
  whole_block last zero ss _ le (ended ts us c free hc) e = absurd (omega (arith, length-append ts (c ∷ us)))
  whole_block last (suc m) ss _ le (ended ts us c free hc) e = of_piece (piece_at c.span.start role ss ts) refl (sym (piece_of last role ss [] ts us c free hc) ∙ e) (λ more g. whole_block last m more us (omega (arith, length-append ts (c ∷ us))) (split us) g)
    where
      of_piece : (r : Result (List StmtTree) SqlFault) → piece_at c.span.start role ss ts ≡ r → (r >>= λ more. stmts_at last role more [] us) ≡ Err f → ((more : List StmtTree) → stmts_at last role more [] us ≡ Err f → Ends last us) → Ends last (ts ++ c ∷ us)
      of_piece (Ok more) is h go = let p = piece_any c.span.start role ss more ts is in behind_piece last ts us c p.0 free hc p.1 (go more h)
      of_piece (Err g) is h go =
          let p = piece_fault c.span.start ss ts (is ∙ h) in
          in_piece last (c ∷ us) (λ d vs k. subst (λ (x : At Token). is_sign signs.Semicolon x.tok ≡ true) (first_same c d us vs k) hc) ts free p.0 (stops_first c.span.start role ts f stops p.1)

pub block_faults_are_first : BlockFaultsAreFirst
block_faults_are_first last role ts f stops e = of_ends (whole_block role f stops last (length ts) [] ts (omega arith) (split ts) (sym (block_same last role ts) ∙ e))
  where
    of_ends : Ends role f stops last ts → BlockStops last role ts f
    of_ends (halts s) = at_block_token (record {
      front = s.front;
      rest = s.rest;
      split = s.parts;
      refuses = s.refuses;
      begins = s.begins;
      none = λ n others ss h less read. s.none n [] ss others h less (sym (block_same n role (s.front ++ others)) ∙ read);
    })
    of_ends (leaves before stmt behind split' x) = in_a_statement before stmt behind split' x
