-- The laws of where reading a statement stops.
use Rattle.std.proofs.Common.{◌≡◌, ℕ, Bool, true, false, [], ◌∷◌, ◌++◌, Some, refl, sym, ap, subst, ◌∙◌, append-nil}
use Rattle.std.specs.Prelude.{Result, Ok, Err}
use Rattle.iso_lexer.specs.declared.token.At.{At}
use Rattle.sql_trees.specs.declared.fault.SqlFault.{SqlFault}
use Rattle.sql_trees.specs.declared.fault.SqlFault.TheVariants.{BadColumns, LeftOut, DdlInSession}
use Rattle.sql_trees.specs.Statements.{StmtTree}
use Rattle.sql_trees.specs.Tokens.{Token, Tokens}
use Rattle.sql_expressions.specs.Results.{◌>>=◌}
use Rattle.sql_expressions.specs.Readers.{misplaced}
use Rattle.sql_expressions.specs.Laws.{head}
use Rattle.sql_expressions.proofs.Local.{first_is}
use Rattle.sql_blocks.specs.declared.block.Role.{Role}
use Rattle.sql_parser.specs.Inner.Blocks.{stmt_at, at_end, whole_at}
use Rattle.sql_parser.specs.Grammar.{Spells, OfAnyDepth}
use Rattle.sql_parser.specs.Stops.{Refuses, at_next, WantsWords, IsStop}
use Rattle.sql_parser.specs.Laws.{BeginsStatement, StopsFirst, Stops, at_token, elsewhere, whole_query, whole_table, FaultsAreFirst}
use Rattle.sql_parser.proofs.Locals.{Begins, stands_behind, Local, took, stopped}
use Rattle.sql_parser.proofs.ExprLocals.{some_of_any_depth, of_any_depth_starts, any_depth_local, one_name}
use Rattle.sql_parser.proofs.QueryLocals.{Shown, shown, no_columns, no_query, Whole}
use Rattle.sql_parser.proofs.BlockLocals.{barred, barred_is, stmt_local}
use Rattle.sql_parser.proofs.BlockReadings.{whole_stops, whole_stopped}
use Rattle.sql_parser.proofs.BlocksRead.{whole_reads}

err_same : {A : Type 0} (e f : SqlFault) → ◌≡◌ {A = Result A SqlFault} (Err e) (Err f) → e ≡ f
err_same e f h = cc

no_both : {A : Type 0} (x : A) (e : SqlFault) → ◌≡◌ {A = Result A SqlFault} (Ok x) (Err e) → ⊥
no_both x e h = cc

module _ (last : ℕ) (role : Role) (ts : Tokens) (f : SqlFault) (stops : IsStop f) where
  -- a fault that other lists meet too is none of a statement
  first : (front rest : Tokens) → ts ≡ front ++ rest → Refuses last OfAnyDepth (WantsWords ts) BeginsStatement front rest f → BeginsStatement front → ((others : Tokens) → head others ≡ head rest → whole_at last role (front ++ others) ≡ Err f) → StopsFirst last role ts f
  first front rest split refuses begins stays = record {
    front = front;
    rest = rest;
    split = split;
    refuses = refuses;
    begins = begins;
    stays = λ others h. whole_stops last role (front ++ others) f (stays others h);
    none = λ others s h q kept. no_both s f (sym (whole_reads last role (front ++ others) s q kept) ∙ stays others h);
  }

  whole_is : (us vs : Tokens) (r : Result (Result StmtTree SqlFault × Tokens) SqlFault) → stmt_at last role us ≡ r → whole_at last role us ≡ (r >>= λ x. at_end last x.0 x.1)
  unfolding whole_at
  whole_is us vs r e = rw e refl

  of_shown : (us : Tokens) → ts ≡ us → (r : Result StmtTree SqlFault) (s : StmtTree) → Shown us r s → r ≡ Err f → Spells OfAnyDepth ts s → Stops last role ts f
  of_shown us same _ _ (shown s) h q = absurd (no_both s f h)
  of_shown us same _ _ (no_columns place name t k) h q = elsewhere (whole_table name t place (sym (err_same (BadColumns place) f h)) k q)
  of_shown us same _ _ (no_query s vs q n k) h p = elsewhere (whole_query s vs q (same ∙ n) (sym (err_same (LeftOut s.span.start) f h)) k p)

  -- a token behind the statement
  behind : (v : Result StmtTree SqlFault) (front us : Tokens) (t : At Token) → ts ≡ front ++ t ∷ us → ((others : Tokens) → head others ≡ Some t → stmt_at last role (front ++ others) ≡ Ok (v, others)) → Whole OfAnyDepth front v → f ≡ misplaced last (t ∷ us) → Stops last role ts f
  behind v front us t split local q is = at_token (first front (t ∷ us) split
      (subst (Refuses last OfAnyDepth (WantsWords ts) BeginsStatement front (t ∷ us)) (sym is) (at_next front (t ∷ us)))
      ([], q.stmt, subst (λ xs. Spells OfAnyDepth xs q.stmt) (sym (append-nil front)) q.spells)
      (λ others h. let w = first_is t others h in whole_is (front ++ others) [] (Ok (v, others)) (local others h) ∙ (ap (at_end last v) w.1 ∙ ap Err (sym is))))

  of_end : (v : Result StmtTree SqlFault) (front rest : Tokens) → ts ≡ front ++ rest → ((others : Tokens) → head others ≡ head rest → stmt_at last role (front ++ others) ≡ Ok (v, others)) → Whole OfAnyDepth front v → at_end last v rest ≡ Err f → Stops last role ts f
  of_end v front [] split local q h = of_shown front (split ∙ append-nil front) v q.stmt q.shows h (subst (λ xs. Spells OfAnyDepth xs q.stmt) (sym (split ∙ append-nil front)) q.spells)
  of_end v front (t ∷ us) split local q h = behind v front us t split local q (sym (err_same (misplaced last (t ∷ us)) f h))

  of_whole : (xs : Tokens) → Begins (Whole OfAnyDepth) xs → BeginsStatement xs
  of_whole xs g = (g.0, g.2.stmt, g.2.spells)

  of_local : whole_at last role ts ≡ Err f → Local last OfAnyDepth (WantsWords ts) (Unit {0}) (Whole OfAnyDepth) (stmt_at last role) ts → Stops last role ts f
  of_local e (took v front rest split local q) = of_end v front rest split local q (sym (whole_is ts [] (Ok (v, rest)) (ap (stmt_at last role) split ∙ local rest refl)) ∙ e)
  of_local e (stopped g front rest split local b) =
      let same : g ≡ f = err_same g f (sym (whole_is ts [] (Err g) (ap (stmt_at last role) split ∙ local rest refl)) ∙ e) in
      let c = b tt in
      at_token (first front rest split (subst (Refuses last OfAnyDepth (WantsWords ts) BeginsStatement front rest) same (stands_behind last OfAnyDepth (WantsWords ts) (Begins (Whole OfAnyDepth)) BeginsStatement [] of_whole front rest g c.stands)) (of_whole front c.begins)
      (λ others h. whole_is (front ++ others) [] (Err g) (local others h) ∙ ap Err same))

pub stops_first : (last : ℕ) (role : Role) (ts : Tokens) (f : SqlFault) → IsStop f → whole_at last role ts ≡ Err f → Stops last role ts f
stops_first last role ts f stops e = of_test (barred role ts) refl
  where
    no_ddl : (us : Tokens) → barred role us ≡ true → whole_at last role us ≡ Err f → ⊥
    no_ddl [] h g = cc
    no_ddl (t ∷ us) h g = subst IsStop (sym (err_same (DdlInSession t.span.start) f (sym (barred_is last role t us h) ∙ g))) stops

    of_test : (b : Bool) → barred role ts ≡ b → Stops last role ts f
    of_test true h = absurd (no_ddl ts h e)
    of_test false h = of_local last role ts f stops e (stmt_local last OfAnyDepth (WantsWords ts) (Unit {0}) some_of_any_depth (any_depth_local last (WantsWords ts)) of_any_depth_starts (one_name last) role ts h (λ w. w))

pub faults_are_first : FaultsAreFirst
faults_are_first last role ts f stops e = stops_first last role ts f stops (whole_stopped last role ts f e)
