-- The laws of where reading stops.
use Rattle.std.proofs.Common.{◌≡◌, ℕ, [], ◌∷◌, ◌++◌, ◌⊎◌, inl, inr, refl, sym, ap, subst, ◌∙◌}
use Rattle.std.specs.Prelude.{Result, Ok, Err}
use Rattle.sql_trees.specs.declared.fault.SqlFault.{SqlFault}
use Rattle.sql_trees.specs.declared.fault.SqlFault.TheVariants.{Syntax, TooDeep}
use Rattle.sql_trees.specs.Tokens.{Tokens}
use Rattle.sql_trees.specs.Trees.{Tree}
use Rattle.sql_expressions.specs.Readers.{place_of}
use Rattle.sql_expressions.specs.Reading.{Part, expr_at}
use Rattle.sql_expressions.specs.Grammar.{OR}
use Rattle.sql_expressions.specs.Laws.{head, Spelled, IsRefusal, Refuses, ended, misplaced, StopsFirst, FaultsAreFirst, first, DeepFirst, DeepIsFirst, TakesFront, FrontsAreTaken, ExpressionsAreRead}
use Rattle.sql_expressions.proofs.Complete.{expr_complete}
use Rattle.sql_expressions.proofs.ReadOrDeep.{read_or_deep}
use Rattle.sql_expressions.proofs.Deep.{expr_tells}
use Rattle.sql_expressions.proofs.Local.{put, Means, is_read}
use Rattle.sql_expressions.proofs.Stops.{parted, expr_local}

err_same : (e f : SqlFault) → ◌≡◌ {A = Result (Part × Tokens) SqlFault} (Err e) (Err f) → e ≡ f
err_same e f h = cc

ok_same : (f g : Part × Tokens) → ◌≡◌ {A = Result (Part × Tokens) SqlFault} (Ok f) (Ok g) → f ≡ g
ok_same f g h = cc

no_both : (f : Part × Tokens) (e : SqlFault) → ◌≡◌ {A = Result (Part × Tokens) SqlFault} (Ok f) (Err e) → ⊥
no_both f e h = cc

deep_is_no_refusal : (q : ℕ) (fault : SqlFault) → TooDeep q ≡ fault → IsRefusal fault → ⊥
deep_is_no_refusal q fault e r = subst IsRefusal (sym e) r

-- what is read or too deep is not refused
not_stopped : (last : ℕ) (fault : SqlFault) (fs bs : Tokens) → IsRefusal fault → ((p : Part) × (expr_at last (fs ++ bs) ≡ Ok (p, bs))) ⊎ ((q : ℕ) × (expr_at last (fs ++ bs) ≡ Err (TooDeep q))) → expr_at last (fs ++ bs) ≡ Err fault → ⊥
not_stopped last fault fs bs r (inl (p, h)) g = no_both (p, bs) fault (sym h ∙ g)
not_stopped last fault fs bs r (inr (q, h)) g = deep_is_no_refusal q fault (err_same (TooDeep q) fault (sym h ∙ g)) r

stops_from : (last : ℕ) (fault : SqlFault) (ts front rest : Tokens) (out : Result (Tree × ℕ) SqlFault) → IsRefusal fault → put parted out rest ≡ Err fault → ts ≡ front ++ rest
    → ((others : Tokens) → head others ≡ head rest → expr_at last (front ++ others) ≡ put parted out others) → Means last (Spelled OR) out front rest → StopsFirst last ts fault
stops_from last fault ts front rest (Ok v) r is split local means = absurd (no_both (parted v rest) fault is)
stops_from last fault ts front rest (Err e) r is split local means =
    let same = err_same e fault is in
    record {
      front = front;
      rest = rest;
      split = split;
      refuses = subst (Refuses last front rest) same (means.0 (subst IsRefusal (sym same) r));
      begins = means.1;
      stays = λ others h. local others h ∙ ap Err same;
      stuck = λ others fs bs h parts spelled ends.
          not_stopped last fault fs bs r (read_or_deep last fs bs spelled ends) (ap (expr_at last) (sym parts) ∙ local others h ∙ ap Err same);
    }

pub refusals_are_first : FaultsAreFirst
refusals_are_first last ts fault r e =
    let l = expr_local last ts in
    stops_from last fault ts l.front l.rest l.out r (sym (is_read last (Spelled OR) (expr_at last) ts l) ∙ e) l.split l.local l.means

-- what was read and the next token of a list with no more
first_head : (ts : Tokens) → head (first ts) ≡ head ts
first_head [] = refl
first_head (t ∷ ts) = refl

deep_from : (last place : ℕ) (ts front rest : Tokens) (out : Result (Tree × ℕ) SqlFault) → put parted out rest ≡ Err (TooDeep place) → ts ≡ front ++ rest
    → ((others : Tokens) → head others ≡ head rest → expr_at last (front ++ others) ≡ put parted out others) → Means last (Spelled OR) out front rest → DeepFirst last ts place
deep_from last place ts front rest (Ok v) is split local means = absurd (no_both (parted v rest) (TooDeep place) is)
deep_from last place ts front rest (Err f) is split local means =
    let same = err_same f (TooDeep place) is in
    record {
      front = front;
      rest = rest;
      split = split;
      makes = expr_tells last place (front ++ first rest) (local (first rest) (first_head rest) ∙ ap Err same);
      begins = means.1;
      stays = λ others h. local others h ∙ ap Err same;
      beyond = λ others fs bs e d h parts spelled ends.
          no_both (record { tree = e; depth = d }, bs) (TooDeep place) (sym (expr_complete last spelled bs ends) ∙ ap (expr_at last) (sym parts) ∙ local others h ∙ ap Err same);
    }

pub deep_is_first : DeepIsFirst
deep_is_first last place ts e =
    let l = expr_local last ts in
    deep_from last place ts l.front l.rest l.out (sym (is_read last (Spelled OR) (expr_at last) ts l) ∙ e) l.split l.local l.means

-- where a syntax fault stands
syntax_here : (last place : ℕ) (front rest : Tokens) → Refuses last front rest (Syntax place) → place ≡ place_of last rest
syntax_here last _ _ _ (ended front) = refl
syntax_here last _ _ _ (misplaced front rest t h) = refl

-- the same of a syntax fault, with its place
pub record SyntaxFirst (last : ℕ) (ts : Tokens) (place : ℕ) : Type 0 where
  pub front : Tokens
  pub rest : Tokens
  pub split : ts ≡ front ++ rest
  pub here : place ≡ place_of last rest
  pub begins : (more : Tokens) × Spelled OR (front ++ more)
  pub stays : (others : Tokens) → head others ≡ head rest → expr_at last (front ++ others) ≡ Err (Syntax place)

pub faults_are_first : (last place : ℕ) (ts : Tokens) → expr_at last ts ≡ Err (Syntax place) → SyntaxFirst last ts place
faults_are_first last place ts e =
    let s = refusals_are_first last ts (Syntax place) tt e in
    record { front = s.front; rest = s.rest; split = s.split; here = syntax_here last place s.front s.rest s.refuses; begins = s.begins; stays = s.stays }

takes_from : (last : ℕ) (ts front rest : Tokens) (f : Part × Tokens) (out : Result (Tree × ℕ) SqlFault) → put parted out rest ≡ Ok f → ts ≡ front ++ rest
    → ((others : Tokens) → head others ≡ head rest → expr_at last (front ++ others) ≡ put parted out others) → TakesFront last ts f
takes_from last ts front rest f (Err e) is split local = absurd (no_both f e (sym is))
takes_from last ts front rest f (Ok v) is split local =
    let same = ok_same (parted v rest) f is in
    let rests : rest ≡ f.1 = ap (λ (g : Part × Tokens). g.1) same in
    record {
      front = front;
      split = split ∙ ap (λ (r : Tokens). front ++ r) rests;
      stays = λ others h. local others (h ∙ ap head (sym rests)) ∙ ap (λ (g : Part × Tokens). Ok (g.0, others)) same;
    }

pub fronts_are_taken : FrontsAreTaken
fronts_are_taken last ts f e =
    let l = expr_local last ts in
    takes_from last ts l.front l.rest f l.out (sym (is_read last (Spelled OR) (expr_at last) ts l) ∙ e) l.split l.local

pub expressions_are_read : ExpressionsAreRead
expressions_are_read last ts rest s e = read_or_deep last ts rest s e
