-- What is in the grammar is read, where what stands behind it doesn't go on with it.
use Rattle.std.proofs.Common.{◌≡◌, ℕ, zero, suc, ◌+◌, ◌<◌, ◌≤◌, Bool, true, false, not, ◌||◌, List, [], ◌∷◌, ◌++◌, length, Option, Some, None, refl, sym, ap, ◌∙◌, subst, arith, rules, append_assoc, length-append}
use Rattle.std.specs.Prelude.{Ok, max, nat_lt, is_some}
use Rattle.iso_lexer.specs.declared.limits.TheConstants.{MAX_DEPTH}
use Rattle.sql_expressions.specs.declared.level.Opened.TheVariants.{Whole}
use Rattle.iso_lexer.specs.declared.token.At.{At}
use Rattle.sql_trees.specs.Words.{is_reserved}
use Rattle.sql_trees.specs.Tokens.{Token, Tokens, named}
use Rattle.sql_trees.specs.Tokens as tok
use Rattle.iso_lexer.specs.declared.sql_token.SqlSign.TheVariants as signs
use Rattle.sql_trees.specs.declared.word.Word.TheVariants as words
use Rattle.sql_trees.specs.declared.expr.Operator.{Operator}
use Rattle.sql_trees.specs.declared.expr.Truth.{Truth}
use Rattle.sql_trees.specs.Trees.{Tree, Trees, Column, Plus, Not, Binary, Is, In, Between, more, none}
use Rattle.sql_expressions.specs.Build.{negated, push}
use Rattle.sql_expressions.specs.Readers.{is_sign, after}
use Rattle.sql_expressions.specs.Reading.{comparison_op, truth_of, expr_at}
use Rattle.sql_expressions.specs.Inner.Pieces.{Found, name_at, Found_list, Reader, deeper, next_op, is_not, is_is, column_at, parens_at, prim_of, prim_at, sign_at, una_of, una_at, mul_at, add_at, cat_at, in_at, between_at, inn_of, inn_more, inn_at, cmp_at, maybe_is, is_at, negation_at, not_at, and_at, or_at, inside, list_at, list_more, chain_more}
use Rattle.sql_expressions.specs.Inner.Pieces as reading
use Rattle.sql_expressions.specs.Grammar.{IsWord, Ends, may_go_on, Level, OR, AND, NOT, IS, CMP, INN, CAT, ADD, MUL, UNA, PRIM, tighter, operator_at, Spells, SpellsIn, only, chain, negation, is, comparison, contained, between, minus, plus, parens, literal, Items, one, next, IsLeaf, number, text, column, yes, no, null, IsIn, IsBetween, IsIs}
use Rattle.sql_expressions.proofs.Same.{expr_same, is_part}

-- the words and signs that a level goes on with
abbrev pub own : Level → Token → Bool
own IS t = is_is t
own CMP t = is_some (comparison_op t)
own INN (tok.word words.In s) = true
own INN (tok.word words.Between s) = true
own INN (tok.word words.Not s) = true
own INN _ = false
own PRIM t = is_sign signs.Open t
own l t = is_some (operator_at l t)

abbrev pub continues : Level → Token → Bool
continues PRIM t = own PRIM t
continues UNA t = own PRIM t
continues MUL t = own MUL t || own PRIM t
continues ADD t = own ADD t || (own MUL t || own PRIM t)
continues CAT t = own CAT t || (own ADD t || (own MUL t || own PRIM t))
continues INN t = own INN t || (own CAT t || (own ADD t || (own MUL t || own PRIM t)))
continues CMP t = own CMP t || (own INN t || (own CAT t || (own ADD t || (own MUL t || own PRIM t))))
continues IS t = own IS t || (own CMP t || (own INN t || (own CAT t || (own ADD t || (own MUL t || own PRIM t)))))
continues NOT t = own IS t || (own CMP t || (own INN t || (own CAT t || (own ADD t || (own MUL t || own PRIM t)))))
continues AND t = own AND t || (own IS t || (own CMP t || (own INN t || (own CAT t || (own ADD t || (own MUL t || own PRIM t))))))
continues OR t = own OR t || (own AND t || (own IS t || (own CMP t || (own INN t || (own CAT t || (own ADD t || (own MUL t || own PRIM t)))))))

abbrev pub Stops : Level → Tokens → Type 0
Stops l [] = Unit {0}
Stops l (t ∷ ts) = continues l t.tok ≡ false

or_false : (a b : Bool) → (a || b) ≡ false → (a ≡ false) × (b ≡ false)
or_false true b e = absurd cc
or_false false b e = (refl, e)

-- where a level stops, the tighter one does
tighter_stops : (l : Level) (t : Token) → continues l t ≡ false → continues (tighter l) t ≡ false
tighter_stops OR t e = (or_false (own OR t) _ e).1
tighter_stops AND t e = (or_false (own AND t) _ e).1
tighter_stops NOT t e = e
tighter_stops IS t e = (or_false (own IS t) _ e).1
tighter_stops CMP t e = (or_false (own CMP t) _ e).1
tighter_stops INN t e = (or_false (own INN t) _ e).1
tighter_stops CAT t e = (or_false (own CAT t) _ e).1
tighter_stops ADD t e = (or_false (own ADD t) _ e).1
tighter_stops MUL t e = (or_false (own MUL t) _ e).1
tighter_stops UNA t e = e
tighter_stops PRIM t e = e

pub stops_below : (l : Level) (ts : Tokens) → Stops l ts → Stops (tighter l) ts
stops_below l [] s = tt
stops_below l (t ∷ ts) s = tighter_stops l t.tok s

none_of : {A : Type 0} (o : Option A) → is_some o ≡ false → o ≡ None
none_of None e = refl
none_of (Some x) e = absurd cc

-- an operator of a level is nothing that a tighter level goes on with
pub op_stops : (l : Level) (t : Token) (o : Operator) → operator_at l t ≡ Some o → continues (tighter l) t ≡ false
op_stops OR (tok.word words.Or s) o e = refl
op_stops OR _ o e = absurd cc
op_stops AND (tok.word words.And s) o e = refl
op_stops AND _ o e = absurd cc
op_stops CAT (tok.sign signs.Concat) o e = refl
op_stops CAT _ o e = absurd cc
op_stops ADD (tok.sign signs.Plus) o e = refl
op_stops ADD (tok.sign signs.Minus) o e = refl
op_stops ADD _ o e = absurd cc
op_stops MUL (tok.sign signs.Star) o e = refl
op_stops MUL (tok.sign signs.Slash) o e = refl
op_stops MUL (tok.sign signs.Percent) o e = refl
op_stops MUL _ o e = absurd cc
op_stops NOT t o e = absurd cc
op_stops IS t o e = absurd cc
op_stops CMP t o e = absurd cc
op_stops INN t o e = absurd cc
op_stops UNA t o e = absurd cc
op_stops PRIM t o e = absurd cc

abbrev pub IsChain : Level → Type 0
IsChain OR = Unit {0}
IsChain AND = Unit {0}
IsChain CAT = Unit {0}
IsChain ADD = Unit {0}
IsChain MUL = Unit {0}
IsChain _ = ⊥

own_stops : (l : Level) (t : Token) → IsChain l → continues l t ≡ false → is_some (operator_at l t) ≡ false
own_stops OR t c e = (or_false (own OR t) _ e).0
own_stops AND t c e = (or_false (own AND t) _ e).0
own_stops CAT t c e = (or_false (own CAT t) _ e).0
own_stops ADD t c e = (or_false (own ADD t) _ e).0
own_stops MUL t c e = (or_false (own MUL t) _ e).0
own_stops _ t c e = elim c [ ]

pub chain_ends : (l : Level) (rest : Tokens) → IsChain l → Stops l rest → next_op (operator_at l) rest ≡ None
chain_ends l [] c s = refl
chain_ends l (t ∷ ts) c s = rw (none_of (operator_at l t.tok) (own_stops l t.tok c s)) refl

deeper_at : (p d : ℕ) → d < MAX_DEPTH → deeper p d ≡ Ok (d + 1)
deeper_at p d h = let e : nat_lt d MAX_DEPTH ≡ true = search rules in rw e refl

-- the chain comes to this part of it, and goes on behind it
record Comes (operand : Reader) (op_of : Token → Option Operator) (ts : Tokens) (f : Found) : Type 0 where
  turns : ℕ
  enough : MAX_DEPTH ≤ turns + f.depth
  same : reading.chain operand op_of ts ≡ chain_more operand op_of turns f

comes_first : (operand : Reader) (op_of : Token → Option Operator) (ts : Tokens) (f : Found) → operand ts ≡ Ok f → Comes operand op_of ts f
unfolding reading.chain
comes_first operand op_of ts f e = record { turns = MAX_DEPTH; enough = omega arith; same = rw e refl }

comes_on : (operand : Reader) (op_of : Token → Option Operator) (ts bs rest : Tokens) (t : At Token) (o : Operator) (a b : Tree) (c d : ℕ) →
    Comes operand op_of ts (record { tree = a; depth = c; rest = t ∷ bs }) → op_of t.tok ≡ Some o → operand bs ≡ Ok (record { tree = b; depth = d; rest = rest }) → max c d < MAX_DEPTH →
    Comes operand op_of ts (record { tree = Binary o a b; depth = max c d + 1; rest = rest })
unfolding chain_more
comes_on operand op_of ts bs rest t o a b c d k h e l = go k.turns k.enough k.same
  where
    go : (n : ℕ) → MAX_DEPTH ≤ n + c → reading.chain operand op_of ts ≡ chain_more operand op_of n (record { tree = a; depth = c; rest = t ∷ bs }) → Comes operand op_of ts (record { tree = Binary o a b; depth = max c d + 1; rest = rest })
    go zero m s = absurd (omega arith)
    go (suc n) m s = record {
      turns = n;
      enough = omega arith;
      same = s ∙ rw (h, deeper_at t.span.start c (omega arith), e, deeper_at t.span.start (max c d) l) refl;
    }

comes_end : (operand : Reader) (op_of : Token → Option Operator) (ts : Tokens) (f : Found) → Comes operand op_of ts f → next_op op_of f.rest ≡ None → reading.chain operand op_of ts ≡ Ok f
unfolding chain_more
comes_end operand op_of ts f k e = go k.turns k.same
  where
    go : (n : ℕ) → reading.chain operand op_of ts ≡ chain_more operand op_of n f → reading.chain operand op_of ts ≡ Ok f
    go zero s = s ∙ rw e refl
    go (suc n) s = s ∙ rw e refl

abbrev made : Tree → ℕ → Tokens → Found
made e d ts = record { tree = e; depth = d; rest = ts }

-- what a level begins with
abbrev pub starts : Level → Token → Bool
starts OR (tok.word words.Not s) = true
starts AND (tok.word words.Not s) = true
starts NOT (tok.word words.Not s) = true
starts PRIM (tok.sign signs.Minus) = false
starts PRIM (tok.sign signs.Plus) = false
starts l t = not (is_not t)

starts_up : (l : Level) (t : Token) → starts (tighter l) t ≡ true → starts l t ≡ true
starts_up OR t e = e
starts_up AND t e = e
starts_up NOT (tok.word words.Not s) e = refl
starts_up NOT (tok.word w s) e = e
starts_up NOT (tok.sign w) e = e
starts_up NOT (tok.quoted w) e = e
starts_up NOT (tok.string w) e = e
starts_up NOT (tok.number w) e = e
starts_up IS t e = e
starts_up CMP t e = e
starts_up INN t e = e
starts_up CAT t e = e
starts_up ADD t e = e
starts_up MUL t e = e
starts_up UNA (tok.sign signs.Minus) e = refl
starts_up UNA (tok.sign signs.Plus) e = refl
starts_up UNA (tok.word w s) e = e
starts_up UNA (tok.sign w) e = refl
starts_up UNA (tok.quoted w) e = e
starts_up UNA (tok.string w) e = e
starts_up UNA (tok.number w) e = e
starts_up PRIM t e = e

abbrev pub Starts : Level → Tokens → Type 0
Starts l ts = (t : At Token) × (us : Tokens) × (ts ≡ t ∷ us) × (starts l t.tok ≡ true)

starts_append : (l : Level) (ts us : Tokens) → Starts l ts → Starts l (ts ++ us)
starts_append l ts us k = (k.0, k.1 ++ us, ap (λ r. r ++ us) k.2, k.3)

named_starts : (x : Token) (name : List ℕ) → named x ≡ Some name → starts PRIM x ≡ true
unfolding is_reserved
named_starts (tok.word words.Not s) name e = absurd cc
named_starts (tok.word w s) name e = refl
named_starts (tok.quoted s) name e = refl
named_starts (tok.string s) name e = absurd cc
named_starts (tok.number n) name e = absurd cc
named_starts (tok.sign s) name e = absurd cc

leaf_starts : (x : Token) (e : Tree) → IsLeaf x e → starts PRIM x ≡ true
leaf_starts x e (number n) = refl
leaf_starts x e (text s) = refl
leaf_starts x e (column t name h) = named_starts t name h
leaf_starts x e (yes s) = refl
leaf_starts x e (no s) = refl
leaf_starts x e (null s) = refl

pub spells_starts : {limit n : ℕ} {l : Level} {ts : Tokens} {e : Tree} {d : ℕ} → SpellsIn limit n l ts e d → Starts l ts
spells_starts (only l ts e d p) = let k = spells_starts p in (k.0, k.1, k.2, starts_up l k.0.tok k.3)
spells_starts (chain l fs bs t o a b c d p h q lt) = starts_append l fs (t ∷ bs) (spells_starts p)
spells_starts (negation ts t e d h p lt) = (t, ts, refl, rw h.1 refl)
spells_starts (is ts ws t no' truth e d p i h lt) = starts_append IS ts (ws ++ t ∷ []) (spells_starts p)
spells_starts (comparison fs bs t o a b c d p h q lt) = starts_append CMP fs (t ∷ bs) (spells_starts p)
spells_starts (contained ts ws us t u no' e es c d p i h q g lt) = starts_append INN ts (ws ++ t ∷ (us ++ u ∷ [])) (spells_starts p)
spells_starts (between ts ws us vs t no' e low high b c d p i q h r lt) = starts_append INN ts (ws ++ (us ++ t ∷ vs)) (spells_starts p)
spells_starts (minus ts t e d h p lt) = (t, ts, refl, rw h refl)
spells_starts (plus ts t e d h p lt) = (t, ts, refl, rw h refl)
spells_starts (parens ts t u e d h p g lt) = (t, ts ++ u ∷ [], refl, rw h refl)
spells_starts (literal t e p) = (t, [], refl, leaf_starts t.tok e p)

module _ (last : ℕ) where
  abbrev pub read_of : ℕ → Level → Reader
  read_of n OR = or_at last (inside last n)
  read_of n AND = and_at last (inside last n)
  read_of n NOT = not_at last (inside last n)
  read_of n IS = is_at last (inside last n)
  read_of n CMP = cmp_at last (inside last n)
  read_of n INN = inn_at last (inside last n)
  read_of n CAT = cat_at last (inside last n)
  read_of n ADD = add_at last (inside last n)
  read_of n MUL = mul_at last (inside last n)
  read_of n UNA = una_at last (inside last n)
  read_of n PRIM = prim_at last (inside last n)

  abbrev Reads : ℕ → Level → Tokens → Tree → ℕ → Type 0
  Reads n l ts e d = (rest : Tokens) → Stops l rest → read_of n l (ts ++ rest) ≡ Ok (made e d rest)

  abbrev Chains : ℕ → Level → Tokens → Tree → ℕ → Type 0
  Chains n l ts e d = (rest : Tokens) → Stops (tighter l) rest → Comes (read_of n (tighter l)) (operator_at l) (ts ++ rest) (made e d rest)

  abbrev Claim : ℕ → Level → Tokens → Tree → ℕ → Type 0
  Claim n OR ts e d = Chains n OR ts e d
  Claim n AND ts e d = Chains n AND ts e d
  Claim n CAT ts e d = Chains n CAT ts e d
  Claim n ADD ts e d = Chains n ADD ts e d
  Claim n MUL ts e d = Chains n MUL ts e d
  Claim n l ts e d = Reads n l ts e d

  chain_read : (n : ℕ) (l : Level) (ts : Tokens) (e : Tree) (d : ℕ) → IsChain l → Chains n l ts e d → (rest : Tokens) → Stops l rest → reading.chain (read_of n (tighter l)) (operator_at l) (ts ++ rest) ≡ Ok (made e d rest)
  chain_read n l ts e d c k rest s = comes_end _ _ _ _ (k rest (stops_below l rest s)) (chain_ends l rest c s)

  reads : (n : ℕ) (l : Level) (ts : Tokens) (e : Tree) (d : ℕ) → Claim n l ts e d → Reads n l ts e d
  unfolding or_at and_at cat_at add_at mul_at
  reads n OR ts e d k = chain_read n OR ts e d tt k
  reads n AND ts e d k = chain_read n AND ts e d tt k
  reads n CAT ts e d k = chain_read n CAT ts e d tt k
  reads n ADD ts e d k = chain_read n ADD ts e d tt k
  reads n MUL ts e d k = chain_read n MUL ts e d tt k
  reads n NOT ts e d k = k
  reads n IS ts e d k = k
  reads n CMP ts e d k = k
  reads n INN ts e d k = k
  reads n UNA ts e d k = k
  reads n PRIM ts e d k = k

  pub not_first : (n : ℕ) (t : At Token) (ts : Tokens) → starts IS t.tok ≡ true → not_at last (inside last n) (t ∷ ts) ≡ is_at last (inside last n) (t ∷ ts)
  not_first n t ts e = of_test (is_not t.tok) e refl
    where
      of_test : (b : Bool) → not b ≡ true → is_not t.tok ≡ b → not_at last (inside last n) (t ∷ ts) ≡ is_at last (inside last n) (t ∷ ts)
      of_test true h g = absurd cc
      of_test false h g = rw g refl

  pub una_first : (n : ℕ) (t : At Token) (ts : Tokens) → starts PRIM t.tok ≡ true → una_at last (inside last n) (t ∷ ts) ≡ prim_at last (inside last n) (t ∷ ts)
  una_first n t ts e = of_tok t.tok e
    where
      of_tok : (x : Token) → starts PRIM x ≡ true → una_of last (inside last n) x t ts ≡ prim_at last (inside last n) (t ∷ ts)
      of_tok (tok.sign signs.Minus) h = absurd cc
      of_tok (tok.sign signs.Plus) h = absurd cc
      of_tok _ h = refl

  pub is_end : (n : ℕ) (a : Found) (rest : Tokens) → Stops IS rest → maybe_is last a rest ≡ Ok a
  is_end n a [] s = refl
  is_end n a (t ∷ ts) s = rw (or_false (own IS t.tok) _ s).0 refl

  pub inn_end : (n : ℕ) (a : Found) (rest : Tokens) → Stops INN rest → inn_more last (inside last n) a rest ≡ Ok a
  inn_end n a [] s = refl
  inn_end n a (t ∷ ts) s = of_tok t.tok (or_false (own INN t.tok) _ s).0
    where
      of_tok : (x : Token) → own INN x ≡ false → inn_of last (inside last n) x t.span.start a ts ≡ Ok a
      of_tok (tok.word words.In s) h = absurd cc
      of_tok (tok.word words.Between s) h = absurd cc
      of_tok (tok.word words.Not s) h = absurd cc
      of_tok _ h = refl

  pub cmp_end : (rest : Tokens) → Stops CMP rest → next_op comparison_op rest ≡ None
  cmp_end [] s = refl
  cmp_end (t ∷ ts) s = rw (none_of (comparison_op t.tok) (or_false (own CMP t.tok) _ s).0) refl

  claim_only : (n : ℕ) (l : Level) (ts : Tokens) (e : Tree) (d : ℕ) → Reads n (tighter l) ts e d → Starts (tighter l) ts → Claim n l ts e d
  unfolding is_at cmp_at inn_at
  claim_only n OR ts e d r k = λ rest s. comes_first _ _ _ _ (r rest s)
  claim_only n AND ts e d r k = λ rest s. comes_first _ _ _ _ (r rest s)
  claim_only n CAT ts e d r k = λ rest s. comes_first _ _ _ _ (r rest s)
  claim_only n ADD ts e d r k = λ rest s. comes_first _ _ _ _ (r rest s)
  claim_only n MUL ts e d r k = λ rest s. comes_first _ _ _ _ (r rest s)
  claim_only n NOT ts e d r k = λ rest s. ap (λ us. not_at last (inside last n) (us ++ rest)) k.2 ∙ not_first n k.0 (k.1 ++ rest) k.3 ∙ ap (λ us. is_at last (inside last n) (us ++ rest)) (sym k.2) ∙ r rest s
  claim_only n IS ts e d r k = λ rest s. rw (r rest (stops_below IS rest s)) (is_end n _ rest s)
  claim_only n CMP ts e d r k = λ rest s. rw (r rest (stops_below CMP rest s), cmp_end rest s) refl
  claim_only n INN ts e d r k = λ rest s. rw (r rest (stops_below INN rest s)) (inn_end n _ rest s)
  claim_only n UNA ts e d r k = λ rest s. ap (λ us. una_at last (inside last n) (us ++ rest)) k.2 ∙ una_first n k.0 (k.1 ++ rest) k.3 ∙ ap (λ us. prim_at last (inside last n) (us ++ rest)) (sym k.2) ∙ r rest s
  claim_only n PRIM ts e d r k = r

  chain_claim : (n : ℕ) (l : Level) (fs bs : Tokens) (t : At Token) (o : Operator) (a b : Tree) (c d : ℕ) → Chains n l fs a c → operator_at l t.tok ≡ Some o → Reads n (tighter l) bs b d → max c d < MAX_DEPTH → Chains n l (fs ++ t ∷ bs) (Binary o a b) (max c d + 1)
  chain_claim n l fs bs t o a b c d k h q lt = λ rest s.
      subst (λ r. Comes (read_of n (tighter l)) (operator_at l) r (made (Binary o a b) (max c d + 1) rest)) (sym (append_assoc fs (t ∷ bs) rest))
      (comes_on (read_of n (tighter l)) (operator_at l) (fs ++ (t ∷ (bs ++ rest))) (bs ++ rest) rest t o a b c d (k (t ∷ (bs ++ rest)) (op_stops l t.tok o h)) h (q rest s) lt)

  claim_chain : (n : ℕ) (l : Level) (fs bs : Tokens) (t : At Token) (o : Operator) (a b : Tree) (c d : ℕ) → Claim n l fs a c → operator_at l t.tok ≡ Some o → Reads n (tighter l) bs b d → max c d < MAX_DEPTH → Claim n l (fs ++ t ∷ bs) (Binary o a b) (max c d + 1)
  claim_chain n OR fs bs t o a b c d k h q lt = chain_claim n OR fs bs t o a b c d k h q lt
  claim_chain n AND fs bs t o a b c d k h q lt = chain_claim n AND fs bs t o a b c d k h q lt
  claim_chain n CAT fs bs t o a b c d k h q lt = chain_claim n CAT fs bs t o a b c d k h q lt
  claim_chain n ADD fs bs t o a b c d k h q lt = chain_claim n ADD fs bs t o a b c d k h q lt
  claim_chain n MUL fs bs t o a b c d k h q lt = chain_claim n MUL fs bs t o a b c d k h q lt
  claim_chain n _ fs bs t o a b c d k h q lt = absurd cc

  claim_parens : (n : ℕ) (ts : Tokens) (t u : At Token) (e : Tree) (d : ℕ) → t.tok ≡ tok.sign signs.Open → Reads n OR ts e d → u.tok ≡ tok.sign signs.Close → d < MAX_DEPTH → Reads (suc n) PRIM (t ∷ (ts ++ u ∷ [])) e (d + 1)
  unfolding parens_at inside
  claim_parens n ts t u e d h r g lt = λ rest s. rw (h, append_assoc ts (u ∷ []) rest, r (u ∷ rest) (rw g refl), deeper_at t.span.start d lt, g) refl

  claim_minus : (n : ℕ) (ts : Tokens) (t : At Token) (e : Tree) (d : ℕ) → t.tok ≡ tok.sign signs.Minus → Reads n UNA ts e d → d < MAX_DEPTH → Reads (suc n) UNA (t ∷ ts) (negated e) (d + 1)
  unfolding sign_at inside
  claim_minus n ts t e d h r lt = λ rest s. rw (h, r rest s, deeper_at t.span.start d lt) refl

  claim_plus : (n : ℕ) (ts : Tokens) (t : At Token) (e : Tree) (d : ℕ) → t.tok ≡ tok.sign signs.Plus → Reads n UNA ts e d → d < MAX_DEPTH → Reads (suc n) UNA (t ∷ ts) (Plus e) (d + 1)
  unfolding sign_at inside
  claim_plus n ts t e d h r lt = λ rest s. rw (h, r rest s, deeper_at t.span.start d lt) refl

  claim_not : (n : ℕ) (ts : Tokens) (t : At Token) (e : Tree) (d : ℕ) → IsWord words.Not t.tok → Reads n NOT ts e d → d < MAX_DEPTH → Reads (suc n) NOT (t ∷ ts) (Not e) (d + 1)
  unfolding negation_at inside
  claim_not n ts t e d h r lt = λ rest s. rw (h.1, r rest s, deeper_at t.span.start d lt) refl

  pub comparison_stops : (x : Token) (o : Operator) → comparison_op x ≡ Some o → continues INN x ≡ false
  comparison_stops (tok.sign signs.Equal) o e = refl
  comparison_stops (tok.sign signs.NotEqual) o e = refl
  comparison_stops (tok.sign signs.Less) o e = refl
  comparison_stops (tok.sign signs.AtMost) o e = refl
  comparison_stops (tok.sign signs.Greater) o e = refl
  comparison_stops (tok.sign signs.AtLeast) o e = refl
  comparison_stops _ o e = absurd cc

  claim_comparison : (n : ℕ) (fs bs : Tokens) (t : At Token) (o : Operator) (a b : Tree) (c d : ℕ) → Reads n INN fs a c → comparison_op t.tok ≡ Some o → Reads n INN bs b d → max c d < MAX_DEPTH → Reads n CMP (fs ++ t ∷ bs) (Binary o a b) (max c d + 1)
  unfolding cmp_at
  claim_comparison n fs bs t o a b c d r h q lt = λ rest s.
      rw (append_assoc fs (t ∷ bs) rest, r (t ∷ (bs ++ rest)) (comparison_stops t.tok o h), h, deeper_at t.span.start c (omega arith), q rest (stops_below CMP rest s), deeper_at t.span.start (max c d) lt) refl

  column_read : (n : ℕ) (t : At Token) (name : List ℕ) (rest : Tokens) → Stops PRIM rest → column_at last t name rest ≡ Ok (made (Column name) 0 rest)
  column_read n t name [] s = refl
  column_read n t name (u ∷ us) s = rw s refl

  named_read : (n : ℕ) (x : Token) (t : At Token) (ts : Tokens) (name : List ℕ) → named x ≡ Some name → prim_of last (inside last n) x t ts ≡ column_at last t name ts
  unfolding is_reserved
  named_read n (tok.number k) t ts name e = absurd cc
  named_read n (tok.string s) t ts name e = absurd cc
  named_read n (tok.word words.True s) t ts name e = absurd cc
  named_read n (tok.word words.False s) t ts name e = absurd cc
  named_read n (tok.word words.Null s) t ts name e = absurd cc
  named_read n (tok.sign s) t ts name e = absurd cc
  named_read n x t ts name e = ap (λ o. name_at last o t ts) e

  pub leaf_read : (n : ℕ) (t : At Token) (x : Token) (e : Tree) → t.tok ≡ x → IsLeaf x e → Reads n PRIM (t ∷ []) e 0
  leaf_read n t x e h (number k) = λ rest s. rw h refl
  leaf_read n t x e h (text k) = λ rest s. rw h refl
  leaf_read n t x e h (column y name g) = λ rest s. ap (λ z. prim_of last (inside last n) z t rest) h ∙ named_read n y t rest name g ∙ column_read n t name rest s
  leaf_read n t x e h (yes k) = λ rest s. rw h refl
  leaf_read n t x e h (no k) = λ rest s. rw h refl
  leaf_read n t x e h (null k) = λ rest s. rw h refl

  pub truth_is_no_not : (x : Token) (w : Truth) → truth_of x ≡ Some w → is_not x ≡ false
  truth_is_no_not (tok.word words.Not s) w e = absurd cc
  truth_is_no_not _ w e = refl

  is_with : (n : ℕ) (ts : Tokens) (w t : At Token) (truth : Truth) (e : Tree) (d : ℕ) → Reads n CMP ts e d → IsWord words.Is w.tok → truth_of t.tok ≡ Some truth → d < MAX_DEPTH → Reads n IS (ts ++ w ∷ t ∷ []) (Is e false truth) (d + 1)
  unfolding is_at
  is_with n ts w t truth e d r g h lt = λ rest s.
      rw (append_assoc ts (w ∷ t ∷ []) rest, r (w ∷ t ∷ rest) (rw g.1 refl), g.1, deeper_at w.span.start d lt, truth_is_no_not t.tok truth h, h) refl

  is_not_with : (n : ℕ) (ts : Tokens) (w v t : At Token) (truth : Truth) (e : Tree) (d : ℕ) → Reads n CMP ts e d → IsWord words.Is w.tok → IsWord words.Not v.tok → truth_of t.tok ≡ Some truth → d < MAX_DEPTH → Reads n IS (ts ++ w ∷ v ∷ t ∷ []) (Is e true truth) (d + 1)
  unfolding is_at
  is_not_with n ts w v t truth e d r g k h lt = λ rest s.
      rw (append_assoc ts (w ∷ v ∷ t ∷ []) rest, r (w ∷ v ∷ t ∷ rest) (rw g.1 refl), g.1, deeper_at w.span.start d lt, k.1, h) refl

  claim_is : (n : ℕ) (ts ws : Tokens) (t : At Token) (no' : Bool) (truth : Truth) (e : Tree) (d : ℕ) → Reads n CMP ts e d → IsIs no' ws → truth_of t.tok ≡ Some truth → d < MAX_DEPTH → Reads n IS (ts ++ (ws ++ t ∷ [])) (Is e no' truth) (d + 1)
  claim_is n ts ws t false truth e d r i h lt = subst (λ x. Reads n IS (ts ++ (x ++ t ∷ [])) (Is e false truth) (d + 1)) (sym i.1) (is_with n ts i.0 t truth e d r i.2 h lt)
  claim_is n ts ws t true truth e d r i h lt = subst (λ x. Reads n IS (ts ++ (x ++ t ∷ [])) (Is e true truth) (d + 1)) (sym i.2) (is_not_with n ts i.0 i.1 t truth e d r i.3 i.4 h lt)

  between_read : (n : ℕ) (no' : Bool) (place : ℕ) (us vs rest : Tokens) (t : At Token) (e low high : Tree) (b c d : ℕ) → Reads n CAT us low c → IsWord words.And t.tok → Reads n CAT vs high d → max b (max c d) < MAX_DEPTH → Stops INN rest →
      between_at last (inside last n) no' place e b (us ++ (t ∷ (vs ++ rest))) ≡ Ok (made (Between e no' low high) (max b (max c d) + 1) rest)
  unfolding between_at
  between_read n no' place us vs rest t e low high b c d q h r lt s =
      rw (deeper_at place b (omega arith), q (t ∷ (vs ++ rest)) (rw h.1 refl), deeper_at place (max b c) (omega arith), h.1, r rest (stops_below INN rest s), deeper_at place (max b (max c d)) lt) refl

  pub assoc_between : (ts ws us vs rest : Tokens) (t : At Token) → (ts ++ (ws ++ (us ++ t ∷ vs))) ++ rest ≡ ts ++ (ws ++ (us ++ (t ∷ (vs ++ rest))))
  assoc_between ts ws us vs rest t = append_assoc ts _ rest ∙ ap (λ x. ts ++ x) (append_assoc ws _ rest ∙ ap (λ x. ws ++ x) (append_assoc us (t ∷ vs) rest))

  claim_between : (n : ℕ) (ts ws us vs : Tokens) (t : At Token) (no' : Bool) (e low high : Tree) (b c d : ℕ) → Reads n CAT ts e b → IsBetween no' ws → Reads n CAT us low c → IsWord words.And t.tok → Reads n CAT vs high d → max b (max c d) < MAX_DEPTH → Reads n INN (ts ++ (ws ++ (us ++ t ∷ vs))) (Between e no' low high) (max b (max c d) + 1)
  unfolding inn_at
  claim_between n ts ws us vs t false e low high b c d p i q h r lt = λ rest s.
      rw (assoc_between ts ws us vs rest t, i.1, p (i.0 ∷ (us ++ (t ∷ (vs ++ rest)))) (rw i.2.1 refl), i.2.1) (between_read n false i.0.span.start us vs rest t e low high b c d q h r lt s)
  claim_between n ts ws us vs t true e low high b c d p i q h r lt = λ rest s.
      rw (assoc_between ts ws us vs rest t, i.2, p (i.0 ∷ i.1 ∷ (us ++ (t ∷ (vs ++ rest)))) (rw i.3.1 refl), i.3.1, deeper_at i.0.span.start b (omega arith), i.4.1) (between_read n true i.0.span.start us vs rest t e low high b c d q h r lt s)

  -- the list comes to these items, and goes on behind them
  record Comes_list (reader : Reader) (ts : Tokens) (l : Found_list) : Type 0 where
    turns : ℕ
    enough : length l.rest ≤ turns
    same : list_at reader ts ≡ list_more reader turns l

  abbrev Lists : ℕ → Tokens → Trees → ℕ → Type 0
  Lists n us es d = (place : ℕ) (rest : Tokens) → Stops OR rest → Comes_list (inside last (suc n) Whole place) (us ++ rest) (record { trees = es; depth = d; rest = rest })

  list_first : (n : ℕ) (ts : Tokens) (e : Tree) (d : ℕ) → Reads n OR ts e d → Lists n ts (more e none) d
  unfolding list_at inside
  list_first n ts e d r = λ place rest s. record { turns = length (ts ++ rest); enough = omega (arith, length-append ts rest); same = rw (r rest s) refl }

  list_on : (n : ℕ) (fs bs : Tokens) (t : At Token) (es : Trees) (e : Tree) (c d : ℕ) → Lists n fs es c → t.tok ≡ tok.sign signs.Comma → Reads n OR bs e d → Lists n (fs ++ t ∷ bs) (push es e) (max c d)
  unfolding list_more inside
  list_on n fs bs t es e c d k h r = λ place rest s.
      let w = k place (t ∷ (bs ++ rest)) (rw h refl) in
      subst (λ x. Comes_list (inside last (suc n) Whole place) x (record { trees = push es e; depth = max c d; rest = rest })) (sym (append_assoc fs (t ∷ bs) rest)) (go place rest s w.turns w.enough w.same)
    where
      go : (place : ℕ) (rest : Tokens) → Stops OR rest → (m : ℕ) → length (t ∷ (bs ++ rest)) ≤ m → list_at (inside last (suc n) Whole place) (fs ++ (t ∷ (bs ++ rest))) ≡ list_more (inside last (suc n) Whole place) m (record { trees = es; depth = c; rest = t ∷ (bs ++ rest) }) →
          Comes_list (inside last (suc n) Whole place) (fs ++ (t ∷ (bs ++ rest))) (record { trees = push es e; depth = max c d; rest = rest })
      go place rest s zero g q = absurd (omega arith)
      go place rest s (suc m) g q = record { turns = m; enough = omega (arith, length-append bs rest); same = q ∙ rw (h, r rest s) refl }

  list_end : (reader : Reader) (m : ℕ) (l : Found_list) → after (is_sign signs.Comma) l.rest ≡ None → list_more reader m l ≡ Ok l
  unfolding list_more
  list_end reader zero l e = refl
  list_end reader (suc m) l e = rw e refl

  in_read : (n : ℕ) (no' : Bool) (place : ℕ) (us rest : Tokens) (t u : At Token) (e : Tree) (es : Trees) (c d : ℕ) → t.tok ≡ tok.sign signs.Open → Lists n us es d → u.tok ≡ tok.sign signs.Close → max c d < MAX_DEPTH →
      in_at last (inside last (suc n)) no' place e c (t ∷ (us ++ (u ∷ rest))) ≡ Ok (made (In e no' es) (max c d + 1) rest)
  unfolding in_at
  in_read n no' place us rest t u e es c d h k g lt =
      let w = k t.span.start (u ∷ rest) (rw g refl) in
      let all = w.same ∙ list_end (inside last (suc n) Whole t.span.start) w.turns (record { trees = es; depth = d; rest = u ∷ rest }) (rw g refl) in
      rw (deeper_at place c (omega arith), h, all, deeper_at place (max c d) lt, g) refl

  pub assoc_in : (ts ws us rest : Tokens) (t u : At Token) → (ts ++ (ws ++ t ∷ (us ++ u ∷ []))) ++ rest ≡ ts ++ (ws ++ (t ∷ (us ++ (u ∷ rest))))
  assoc_in ts ws us rest t u = append_assoc ts _ rest ∙ ap (λ x. ts ++ x) (append_assoc ws _ rest ∙ ap (λ x. ws ++ (t ∷ x)) (append_assoc us (u ∷ []) rest))

  claim_in : (n : ℕ) (ts ws us : Tokens) (t u : At Token) (no' : Bool) (e : Tree) (es : Trees) (c d : ℕ) → Reads (suc n) CAT ts e c → IsIn no' ws → t.tok ≡ tok.sign signs.Open → Lists n us es d → u.tok ≡ tok.sign signs.Close → max c d < MAX_DEPTH → Reads (suc n) INN (ts ++ (ws ++ t ∷ (us ++ u ∷ []))) (In e no' es) (max c d + 1)
  unfolding inn_at
  claim_in n ts ws us t u false e es c d p i h k g lt = λ rest s.
      rw (assoc_in ts ws us rest t u, i.1, p (i.0 ∷ t ∷ (us ++ (u ∷ rest))) (rw i.2.1 refl), i.2.1) (in_read n false i.0.span.start us rest t u e es c d h k g lt)
  claim_in n ts ws us t u true e es c d p i h k g lt = λ rest s.
      rw (assoc_in ts ws us rest t u, i.2, p (i.0 ∷ i.1 ∷ t ∷ (us ++ (u ∷ rest))) (rw i.3.1 refl), i.3.1, deeper_at i.0.span.start c (omega arith), i.4.1) (in_read n true i.0.span.start us rest t u e es c d h k g lt)

  mutual
    complete : {n : ℕ} {l : Level} {ts : Tokens} {e : Tree} {d : ℕ} → Spells n l ts e d → Claim n l ts e d
    complete (only {room = n} l ts e d p) = claim_only n l ts e d (reads n (tighter l) ts e d (complete p)) (spells_starts p)
    complete (chain {room = n} l fs bs t o a b c d p h q lt) = claim_chain n l fs bs t o a b c d (complete p) h (reads n (tighter l) bs b d (complete q)) lt
    complete (negation {room = n} ts t e d h p lt) = claim_not n ts t e d h (complete p) lt
    complete (is {room = n} ts ws t no' truth e d p i h lt) = claim_is n ts ws t no' truth e d (complete p) i h lt
    complete (comparison {room = n} fs bs t o a b c d p h q lt) = claim_comparison n fs bs t o a b c d (complete p) h (complete q) lt
    complete (contained {room = n} ts ws us t u no' e es c d p i h q g lt) = claim_in n ts ws us t u no' e es c d (reads (suc n) CAT ts e c (complete p)) i h (items_complete q) g lt
    complete (between {room = n} ts ws us vs t no' e low high b c d p i q h r lt) = claim_between n ts ws us vs t no' e low high b c d (reads n CAT ts e b (complete p)) i (reads n CAT us low c (complete q)) h (reads n CAT vs high d (complete r)) lt
    complete (minus {room = n} ts t e d h p lt) = claim_minus n ts t e d h (complete p) lt
    complete (plus {room = n} ts t e d h p lt) = claim_plus n ts t e d h (complete p) lt
    complete (parens {room = n} ts t u e d h p g lt) = claim_parens n ts t u e d h (reads n OR ts e d (complete p)) g lt
    complete (literal {room = n} t e p) = leaf_read n t t.tok e refl p

    items_complete : {n : ℕ} {us : Tokens} {es : Trees} {d : ℕ} → Items n us es d → Lists n us es d
    items_complete (one {room = n} ts e d p) = list_first n ts e d (reads n OR ts e d (complete p))
    items_complete (next {room = n} fs bs t es e c d p h q) = list_on n fs bs t es e c d (items_complete p) h (reads n OR bs e d (complete q))

  pub ends_stops : (rest : Tokens) → Ends rest → Stops OR rest
  ends_stops [] e = tt
  ends_stops (t ∷ ts) e = of_tok t.tok e
    where
      of_tok : (x : Token) → may_go_on x ≡ false → continues OR x ≡ false
      of_tok (tok.word words.And s) h = absurd cc
      of_tok (tok.word words.Between s) h = absurd cc
      of_tok (tok.word words.In s) h = absurd cc
      of_tok (tok.word words.Is s) h = absurd cc
      of_tok (tok.word words.Not s) h = absurd cc
      of_tok (tok.word words.Or s) h = absurd cc
      of_tok (tok.word w s) h = refl
      of_tok (tok.quoted w) h = refl
      of_tok (tok.string w) h = refl
      of_tok (tok.number w) h = refl
      of_tok (tok.sign signs.Close) h = refl
      of_tok (tok.sign signs.Comma) h = refl
      of_tok (tok.sign signs.Semicolon) h = refl
      of_tok (tok.sign signs.Dot) h = refl
      of_tok (tok.sign signs.Cast) h = refl
      of_tok (tok.sign _) h = absurd cc

  -- the whole of the tokens, and so whatever is in the grammar
  pub expr_complete : {ts : Tokens} {e : Tree} {d : ℕ} → Spells MAX_DEPTH OR ts e d → (rest : Tokens) → Ends rest → expr_at last (ts ++ rest) ≡ Ok (record { tree = e; depth = d }, rest)
  expr_complete {ts} {e} {d} p rest s = is_part (expr_at last (ts ++ rest)) (made e d rest) (expr_same last (ts ++ rest) ∙ reads MAX_DEPTH OR ts e d (complete p) rest (ends_stops rest s))
