-- What is in the grammar beyond the limits is read, or is too deep.
use Rattle.std.proofs.Common.{◌≡◌, ℕ, zero, suc, ◌+◌, ◌≤◌, Bool, true, false, [], ◌∷◌, ◌++◌, length, Option, Some, None, ◌⊎◌, inl, inr, refl, sym, ap, ◌∙◌, subst, arith, append_assoc, length-append}
use Rattle.std.specs.Prelude.{Result, Ok, Err, max, nat_lt}
use Rattle.iso_lexer.specs.declared.limits.TheConstants.{MAX_DEPTH}
use Rattle.sql_trees.specs.declared.fault.SqlFault.{SqlFault}
use Rattle.sql_trees.specs.declared.fault.SqlFault.TheVariants.{TooDeep}
use Rattle.sql_expressions.specs.declared.level.Opened.TheVariants.{Whole, Negation, Unary}
use Rattle.iso_lexer.specs.declared.token.At.{At}
use Rattle.iso_lexer.specs.declared.sql_token.SqlSign.TheVariants as signs
use Rattle.sql_trees.specs.declared.word.Word.TheVariants as words
use Rattle.sql_trees.specs.declared.expr.Operator.{Operator}
use Rattle.sql_trees.specs.declared.expr.Truth.{Truth}
use Rattle.sql_trees.specs.Tokens.{Token, Tokens}
use Rattle.sql_trees.specs.Tokens as tok
use Rattle.sql_trees.specs.Trees.{Tree, Trees, more, none, Plus, Not, Binary, Is, In, Between}
use Rattle.sql_expressions.specs.Build.{negated, push}
use Rattle.sql_expressions.specs.Results.{◌>>=◌}
use Rattle.sql_expressions.specs.Readers.{expect, is_sign}
use Rattle.sql_expressions.specs.Reading.{Part, comparison_op, truth_of, expr_at}
use Rattle.sql_expressions.specs.Inner.Pieces.{Found, Reader, deeper, join, next_op, parens_at, prim_at, sign_at, una_at, mul_at, add_at, cat_at, in_at, between_at, inn_at, cmp_at, is_at, negation_at, not_at, and_at, or_at, inside, list_at, list_more, chain_more}
use Rattle.sql_expressions.specs.Inner.Pieces as reading
use Rattle.sql_expressions.specs.Grammar.{IsWord, Ends, Level, OR, AND, NOT, IS, CMP, INN, CAT, ADD, MUL, UNA, PRIM, tighter, operator_at, SpellsIn, ItemsIn, only, chain, negation, is, comparison, contained, between, minus, plus, parens, literal, one, next, IsLeaf, IsIn, IsBetween, IsIs}
use Rattle.sql_expressions.specs.Laws.{Spelled}
use Rattle.sql_expressions.proofs.Same.{seen as seen_as, expr_same, is_part, is_fault}
use Rattle.sql_expressions.proofs.Tails.{seen, listed}
use Rattle.sql_expressions.proofs.Complete.{Stops, stops_below, op_stops, IsChain, chain_ends, Starts, spells_starts, read_of, not_first, una_first, is_end, inn_end, cmp_end, comparison_stops, truth_is_no_not, leaf_read, assoc_in, assoc_between, ends_stops}

-- this much was read, or reading is too deep
data Fits (rest : Tokens) (r : Result Found SqlFault) : Type 0 where
  read : (v : Tree × ℕ) → r ≡ Ok (seen v rest) → Fits rest r
  deep : (q : ℕ) → r ≡ Err (TooDeep q) → Fits rest r

fits_bind : (mid rest : Tokens) (r : Result Found SqlFault) (k : Found → Result Found SqlFault) → Fits mid r → ((v : Tree × ℕ) → Fits rest (k (seen v mid))) → Fits rest (r >>= k)
fits_bind mid rest r k (read v e) f = subst (λ (x : Result Found SqlFault). Fits rest (x >>= k)) (sym e) (f v)
fits_bind mid rest r k (deep q e) f = deep q (ap (λ (x : Result Found SqlFault). x >>= k) e)

is_too_deep : (place d : ℕ) → nat_lt d MAX_DEPTH ≡ false → deeper place d ≡ Err (TooDeep place)
is_too_deep place d h = rw h refl

is_deep_enough : (place d : ℕ) → nat_lt d MAX_DEPTH ≡ true → deeper place d ≡ Ok (d + 1)
is_deep_enough place d h = rw h refl

fits_deeper : (rest : Tokens) (place d : ℕ) (k : ℕ → Result Found SqlFault) → ((x : ℕ) → Fits rest (k x)) → Fits rest (deeper place d >>= k)
fits_deeper rest place d k f = of_test (nat_lt d MAX_DEPTH) refl
  where
    of_test : (b : Bool) → nat_lt d MAX_DEPTH ≡ b → Fits rest (deeper place d >>= k)
    of_test true h = subst (λ (x : Result ℕ SqlFault). Fits rest (x >>= k)) (sym (is_deep_enough place d h)) (f (d + 1))
    of_test false h = deep place (ap (λ (x : Result ℕ SqlFault). x >>= k) (is_too_deep place d h))

-- a chain comes to these tokens, or is too deep
data Comes (operand : Reader) (op_of : Token → Option Operator) (ts rest : Tokens) : Type 0 where
  comes : (turns : ℕ) (v : Tree × ℕ) → reading.chain operand op_of ts ≡ chain_more operand op_of turns (seen v rest) → Comes operand op_of ts rest
  ends : (q : ℕ) → reading.chain operand op_of ts ≡ Err (TooDeep q) → Comes operand op_of ts rest

comes_first : (operand : Reader) (op_of : Token → Option Operator) (ts rest : Tokens) → Fits rest (operand ts) → Comes operand op_of ts rest
unfolding reading.chain
comes_first operand op_of ts rest (read v e) = comes MAX_DEPTH v (rw e refl)
comes_first operand op_of ts rest (deep q e) = ends q (rw e refl)

comes_end : (operand : Reader) (op_of : Token → Option Operator) (ts rest : Tokens) → Comes operand op_of ts rest → next_op op_of rest ≡ None → Fits rest (reading.chain operand op_of ts)
unfolding chain_more
comes_end operand op_of ts rest (comes zero v e) h = read v (e ∙ rw h refl)
comes_end operand op_of ts rest (comes (suc n) v e) h = read v (e ∙ rw h refl)
comes_end operand op_of ts rest (ends q e) h = deep q e

module _ (operand : Reader) (op_of : Token → Option Operator) (ts bs rest : Tokens) (t : At Token) (o : Operator) (h : op_of t.tok ≡ Some o) where
  joined : (n : ℕ) (v w : Tree × ℕ) (b : Bool) → reading.chain operand op_of ts ≡ (join (record { op = o; place = t.span.start; rest = bs }) (seen v (t ∷ bs)) (seen w rest) >>= λ c. chain_more operand op_of n c) → nat_lt (max v.1 w.1) MAX_DEPTH ≡ b → Comes operand op_of ts rest
  joined n v w true e g = comes n (Binary o v.0 w.0, max v.1 w.1 + 1) (e ∙ rw (is_deep_enough t.span.start (max v.1 w.1) g) refl)
  joined n v w false e g = ends t.span.start (e ∙ rw (is_too_deep t.span.start (max v.1 w.1) g) refl)

  behind_op : (n : ℕ) (v : Tree × ℕ) (b : Bool) → reading.chain operand op_of ts ≡ (deeper t.span.start v.1 >>= λ here. operand bs >>= λ c. join (record { op = o; place = t.span.start; rest = bs }) (seen v (t ∷ bs)) c >>= λ d. chain_more operand op_of n d) → nat_lt v.1 MAX_DEPTH ≡ b → Fits rest (operand bs) → Comes operand op_of ts rest
  behind_op n v false e g f = ends t.span.start (e ∙ rw (is_too_deep t.span.start v.1 g) refl)
  behind_op n v true e g (deep q f) = ends q (e ∙ rw (is_deep_enough t.span.start v.1 g, f) refl)
  behind_op n v true e g (read w f) = joined n v w (nat_lt (max v.1 w.1) MAX_DEPTH) (e ∙ rw (is_deep_enough t.span.start v.1 g, f) refl) refl

  comes_on : Comes operand op_of ts (t ∷ bs) → Fits rest (operand bs) → Comes operand op_of ts rest
  unfolding chain_more
  comes_on (ends q e) f = ends q e
  comes_on (comes zero v e) f = ends t.span.start (e ∙ rw h refl)
  comes_on (comes (suc n) v e) f = behind_op n v (nat_lt v.1 MAX_DEPTH) (e ∙ rw h refl) refl f

-- a list comes to these tokens, with turns for each of them, or is too deep
data Lists (reader : Reader) (ts rest : Tokens) : Type 0 where
  lists : (turns : ℕ) (v : Trees × ℕ) → length rest ≤ turns → list_at reader ts ≡ list_more reader turns (listed v rest) → Lists reader ts rest
  stops : (q : ℕ) → list_at reader ts ≡ Err (TooDeep q) → Lists reader ts rest

module _ (reader : Reader) (ts rest : Tokens) where
  lists_first : length rest ≤ length ts → Fits rest (reader ts) → Lists reader ts rest
  unfolding list_at
  lists_first le (read v e) = lists (length ts) (more v.0 none, v.1) le (rw e refl)
  lists_first le (deep q e) = stops q (rw e refl)

  lists_next : (n : ℕ) (v : Trees × ℕ) (bs : Tokens) → length rest ≤ n → list_at reader ts ≡ (reader bs >>= λ e. list_more reader n (listed (push v.0 e.tree, max v.1 e.depth) e.rest)) → Fits rest (reader bs) → Lists reader ts rest
  lists_next n v bs le g (read w e) = lists n (push v.0 w.0, max v.1 w.1) le (g ∙ rw e refl)
  lists_next n v bs le g (deep q e) = stops q (g ∙ rw e refl)

  lists_on : (t : At Token) (bs : Tokens) → t.tok ≡ tok.sign signs.Comma → length rest ≤ length bs → Lists reader ts (t ∷ bs) → Fits rest (reader bs) → Lists reader ts rest
  unfolding list_more
  lists_on t bs h le (stops q e) f = stops q e
  lists_on t bs h le (lists zero v m e) f = absurd (omega arith)
  lists_on t bs h le (lists (suc n) v m e) f = lists_next n v bs (omega arith) (e ∙ rw h refl) f

module _ (last : ℕ) where
  abbrev Reads : Level → Tokens → Type 0
  Reads l ts = (n : ℕ) (rest : Tokens) → Stops l rest → Fits rest (read_of last n l (ts ++ rest))

  abbrev Chains : Level → Tokens → Type 0
  Chains l ts = (n : ℕ) (rest : Tokens) → Stops (tighter l) rest → Comes (read_of last n (tighter l)) (operator_at l) (ts ++ rest) rest

  abbrev Claim : Level → Tokens → Type 0
  Claim OR ts = Chains OR ts
  Claim AND ts = Chains AND ts
  Claim CAT ts = Chains CAT ts
  Claim ADD ts = Chains ADD ts
  Claim MUL ts = Chains MUL ts
  Claim l ts = Reads l ts

  chain_read : (l : Level) (ts : Tokens) → IsChain l → Chains l ts → (n : ℕ) (rest : Tokens) → Stops l rest → Fits rest (reading.chain (read_of last n (tighter l)) (operator_at l) (ts ++ rest))
  chain_read l ts c k n rest s = comes_end _ _ _ _ (k n rest (stops_below l rest s)) (chain_ends l rest c s)

  reads : (l : Level) (ts : Tokens) → Claim l ts → Reads l ts
  unfolding or_at and_at cat_at add_at mul_at
  reads OR ts k = chain_read OR ts tt k
  reads AND ts k = chain_read AND ts tt k
  reads CAT ts k = chain_read CAT ts tt k
  reads ADD ts k = chain_read ADD ts tt k
  reads MUL ts k = chain_read MUL ts tt k
  reads NOT ts k = k
  reads IS ts k = k
  reads CMP ts k = k
  reads INN ts k = k
  reads UNA ts k = k
  reads PRIM ts k = k

  claim_only : (l : Level) (ts : Tokens) → Reads (tighter l) ts → Starts (tighter l) ts → Claim l ts
  unfolding is_at cmp_at inn_at
  claim_only OR ts r k = λ n rest s. comes_first _ _ _ _ (r n rest s)
  claim_only AND ts r k = λ n rest s. comes_first _ _ _ _ (r n rest s)
  claim_only CAT ts r k = λ n rest s. comes_first _ _ _ _ (r n rest s)
  claim_only ADD ts r k = λ n rest s. comes_first _ _ _ _ (r n rest s)
  claim_only MUL ts r k = λ n rest s. comes_first _ _ _ _ (r n rest s)
  claim_only NOT ts r k = λ n rest s. subst (Fits rest) (sym (ap (λ us. not_at last (inside last n) (us ++ rest)) k.2 ∙ not_first last n k.0 (k.1 ++ rest) k.3 ∙ ap (λ us. is_at last (inside last n) (us ++ rest)) (sym k.2))) (r n rest s)
  claim_only IS ts r k = λ n rest s. fits_bind rest rest _ _ (r n rest (stops_below IS rest s)) (λ v. rw (is_end last n (seen v rest) rest s) (read v refl))
  claim_only CMP ts r k = λ n rest s. fits_bind rest rest _ _ (r n rest (stops_below CMP rest s)) (λ v. rw (cmp_end last rest s) (read v refl))
  claim_only INN ts r k = λ n rest s. fits_bind rest rest _ _ (r n rest (stops_below INN rest s)) (λ v. rw (inn_end last n (seen v rest) rest s) (read v refl))
  claim_only UNA ts r k = λ n rest s. subst (Fits rest) (sym (ap (λ us. una_at last (inside last n) (us ++ rest)) k.2 ∙ una_first last n k.0 (k.1 ++ rest) k.3 ∙ ap (λ us. prim_at last (inside last n) (us ++ rest)) (sym k.2))) (r n rest s)
  claim_only PRIM ts r k = r

  chain_claim : (l : Level) (fs bs : Tokens) (t : At Token) (o : Operator) → Chains l fs → operator_at l t.tok ≡ Some o → Reads (tighter l) bs → Chains l (fs ++ t ∷ bs)
  chain_claim l fs bs t o k h q = λ n rest s.
      subst (λ r. Comes (read_of last n (tighter l)) (operator_at l) r rest) (sym (append_assoc fs (t ∷ bs) rest))
      (comes_on (read_of last n (tighter l)) (operator_at l) (fs ++ (t ∷ (bs ++ rest))) (bs ++ rest) rest t o h (k n (t ∷ (bs ++ rest)) (op_stops l t.tok o h)) (q n rest s))

  claim_chain : (l : Level) (fs bs : Tokens) (t : At Token) (o : Operator) → Claim l fs → operator_at l t.tok ≡ Some o → Reads (tighter l) bs → Claim l (fs ++ t ∷ bs)
  claim_chain OR fs bs t o k h q = chain_claim OR fs bs t o k h q
  claim_chain AND fs bs t o k h q = chain_claim AND fs bs t o k h q
  claim_chain CAT fs bs t o k h q = chain_claim CAT fs bs t o k h q
  claim_chain ADD fs bs t o k h q = chain_claim ADD fs bs t o k h q
  claim_chain MUL fs bs t o k h q = chain_claim MUL fs bs t o k h q
  claim_chain _ fs bs t o k h q = absurd cc

  -- what is read behind an opening
  opened_whole : (n place : ℕ) (ts rest : Tokens) → Reads OR ts → Stops OR rest → Fits rest (inside last n Whole place (ts ++ rest))
  unfolding inside
  opened_whole zero place ts rest r s = deep place refl
  opened_whole (suc m) place ts rest r s = r m rest s

  opened_not : (n place : ℕ) (ts rest : Tokens) → Reads NOT ts → Stops NOT rest → Fits rest (inside last n Negation place (ts ++ rest))
  unfolding inside
  opened_not zero place ts rest r s = deep place refl
  opened_not (suc m) place ts rest r s = r m rest s

  opened_sign : (n place : ℕ) (ts rest : Tokens) → Reads UNA ts → Stops UNA rest → Fits rest (inside last n Unary place (ts ++ rest))
  unfolding inside
  opened_sign zero place ts rest r s = deep place refl
  opened_sign (suc m) place ts rest r s = r m rest s

  claim_parens : (ts : Tokens) (t u : At Token) → t.tok ≡ tok.sign signs.Open → Reads OR ts → u.tok ≡ tok.sign signs.Close → Reads PRIM (t ∷ (ts ++ u ∷ []))
  unfolding parens_at
  claim_parens ts t u h r g = λ n rest s. rw (h, append_assoc ts (u ∷ []) rest)
      (fits_bind (u ∷ rest) rest _ _ (opened_whole n t.span.start ts (u ∷ rest) r (rw g refl)) (λ v. fits_deeper rest t.span.start v.1 _ (λ x. rw g (read (v.0, x) refl))))

  claim_minus : (ts : Tokens) (t : At Token) → t.tok ≡ tok.sign signs.Minus → Reads UNA ts → Reads UNA (t ∷ ts)
  unfolding sign_at
  claim_minus ts t h r = λ n rest s. rw h (fits_bind rest rest _ _ (opened_sign n t.span.start ts rest r s) (λ v. fits_deeper rest t.span.start v.1 _ (λ x. read (negated v.0, x) refl)))

  claim_plus : (ts : Tokens) (t : At Token) → t.tok ≡ tok.sign signs.Plus → Reads UNA ts → Reads UNA (t ∷ ts)
  unfolding sign_at
  claim_plus ts t h r = λ n rest s. rw h (fits_bind rest rest _ _ (opened_sign n t.span.start ts rest r s) (λ v. fits_deeper rest t.span.start v.1 _ (λ x. read (Plus v.0, x) refl)))

  claim_not : (ts : Tokens) (t : At Token) → IsWord words.Not t.tok → Reads NOT ts → Reads NOT (t ∷ ts)
  unfolding negation_at
  claim_not ts t h r = λ n rest s. rw h.1 (fits_bind rest rest _ _ (opened_not n t.span.start ts rest r s) (λ v. fits_deeper rest t.span.start v.1 _ (λ x. read (Not v.0, x) refl)))

  claim_comparison : (fs bs : Tokens) (t : At Token) (o : Operator) → Reads INN fs → comparison_op t.tok ≡ Some o → Reads INN bs → Reads CMP (fs ++ t ∷ bs)
  unfolding cmp_at
  claim_comparison fs bs t o r h q = λ n rest s. rw (append_assoc fs (t ∷ bs) rest)
      (fits_bind (t ∷ (bs ++ rest)) rest _ _ (r n (t ∷ (bs ++ rest)) (comparison_stops last t.tok o h)) (λ v. rw h
      (fits_deeper rest t.span.start v.1 _ (λ here. fits_bind rest rest _ _ (q n rest (stops_below CMP rest s)) (λ w. fits_deeper rest t.span.start (max v.1 w.1) _ (λ x. read (Binary o v.0 w.0, x) refl))))))

  is_with : (ts : Tokens) (w t : At Token) (truth : Truth) → Reads CMP ts → IsWord words.Is w.tok → truth_of t.tok ≡ Some truth → Reads IS (ts ++ w ∷ t ∷ [])
  unfolding is_at
  is_with ts w t truth r g h = λ n rest s. rw (append_assoc ts (w ∷ t ∷ []) rest)
      (fits_bind (w ∷ t ∷ rest) rest _ _ (r n (w ∷ t ∷ rest) (rw g.1 refl)) (λ v. rw g.1 (fits_deeper rest w.span.start v.1 _ (λ x. rw (truth_is_no_not last t.tok truth h, h) (read (Is v.0 false truth, x) refl)))))

  is_not_with : (ts : Tokens) (w u t : At Token) (truth : Truth) → Reads CMP ts → IsWord words.Is w.tok → IsWord words.Not u.tok → truth_of t.tok ≡ Some truth → Reads IS (ts ++ w ∷ u ∷ t ∷ [])
  unfolding is_at
  is_not_with ts w u t truth r g k h = λ n rest s. rw (append_assoc ts (w ∷ u ∷ t ∷ []) rest)
      (fits_bind (w ∷ u ∷ t ∷ rest) rest _ _ (r n (w ∷ u ∷ t ∷ rest) (rw g.1 refl)) (λ v. rw g.1 (fits_deeper rest w.span.start v.1 _ (λ x. rw (k.1, h) (read (Is v.0 true truth, x) refl)))))

  claim_is : (ts ws : Tokens) (t : At Token) (neg : Bool) (truth : Truth) → Reads CMP ts → IsIs neg ws → truth_of t.tok ≡ Some truth → Reads IS (ts ++ (ws ++ t ∷ []))
  claim_is ts ws t false truth r i h = subst (λ x. Reads IS (ts ++ (x ++ t ∷ []))) (sym i.1) (is_with ts i.0 t truth r i.2 h)
  claim_is ts ws t true truth r i h = subst (λ x. Reads IS (ts ++ (x ++ t ∷ []))) (sym i.2) (is_not_with ts i.0 i.1 t truth r i.3 i.4 h)

  between_read : (n : ℕ) (neg : Bool) (place : ℕ) (us vs rest : Tokens) (t : At Token) (e : Tree) (b : ℕ) → Reads CAT us → IsWord words.And t.tok → Reads CAT vs → Stops INN rest → Fits rest (between_at last (inside last n) neg place e b (us ++ (t ∷ (vs ++ rest))))
  unfolding between_at
  between_read n neg place us vs rest t e b q h r s =
      fits_deeper rest place b _ (λ here. fits_bind (t ∷ (vs ++ rest)) rest _ _ (q n (t ∷ (vs ++ rest)) (rw h.1 refl)) (λ v. fits_deeper rest place (max b v.1) _ (λ there. rw h.1
      (fits_bind rest rest _ _ (r n rest (stops_below INN rest s)) (λ w. fits_deeper rest place (max b (max v.1 w.1)) _ (λ x. read (Between e neg v.0 w.0, x) refl))))))

  claim_between : (ts ws us vs : Tokens) (t : At Token) (neg : Bool) → Reads CAT ts → IsBetween neg ws → Reads CAT us → IsWord words.And t.tok → Reads CAT vs → Reads INN (ts ++ (ws ++ (us ++ t ∷ vs)))
  unfolding inn_at
  claim_between ts ws us vs t false p i q h r = λ n rest s. rw (assoc_between last ts ws us vs rest t, i.1)
      (fits_bind (i.0 ∷ (us ++ (t ∷ (vs ++ rest)))) rest _ _ (p n (i.0 ∷ (us ++ (t ∷ (vs ++ rest)))) (rw i.2.1 refl)) (λ v. rw i.2.1 (between_read n false i.0.span.start us vs rest t v.0 v.1 q h r s)))
  claim_between ts ws us vs t true p i q h r = λ n rest s. rw (assoc_between last ts ws us vs rest t, i.2)
      (fits_bind (i.0 ∷ i.1 ∷ (us ++ (t ∷ (vs ++ rest)))) rest _ _ (p n (i.0 ∷ i.1 ∷ (us ++ (t ∷ (vs ++ rest)))) (rw i.3.1 refl)) (λ v. rw i.3.1 (fits_deeper rest i.0.span.start v.1 _ (λ here. rw i.4.1 (between_read n true i.0.span.start us vs rest t v.0 v.1 q h r s)))))

  abbrev ListsAll : Tokens → Type 0
  ListsAll us = (n place : ℕ) (rest : Tokens) → Stops OR rest → Lists (inside last n Whole place) (us ++ rest) rest

  list_first : (ts : Tokens) → Reads OR ts → ListsAll ts
  list_first ts r = λ n place rest s. lists_first (inside last n Whole place) (ts ++ rest) rest (omega (arith, length-append ts rest)) (opened_whole n place ts rest r s)

  list_on : (fs bs : Tokens) (t : At Token) → ListsAll fs → t.tok ≡ tok.sign signs.Comma → Reads OR bs → ListsAll (fs ++ t ∷ bs)
  list_on fs bs t k h r = λ n place rest s.
      subst (λ x. Lists (inside last n Whole place) x rest) (sym (append_assoc fs (t ∷ bs) rest))
      (lists_on (inside last n Whole place) (fs ++ (t ∷ (bs ++ rest))) rest t (bs ++ rest) h (omega (arith, length-append bs rest)) (k n place (t ∷ (bs ++ rest)) (rw h refl)) (opened_whole n place bs rest r s))

  after_list : (n : ℕ) (neg : Bool) (place from : ℕ) (ts rest : Tokens) (u : At Token) (e : Tree) (c : ℕ) → u.tok ≡ tok.sign signs.Close → Lists (inside last n Whole from) ts (u ∷ rest) →
      Fits rest (list_at (inside last n Whole from) ts >>= λ items. deeper place (max c items.depth) >>= λ d. expect last (is_sign signs.Close) items.rest >>= λ after. Ok (record { tree = In e neg items.trees; depth = d; rest = after }))
  unfolding list_more
  after_list n neg place from ts rest u e c g (stops q h) = deep q (rw h refl)
  after_list n neg place from ts rest u e c g (lists zero v le h) = rw (h, g) (fits_deeper rest place (max c v.1) _ (λ x. read (In e neg v.0, x) refl))
  after_list n neg place from ts rest u e c g (lists (suc m) v le h) = rw (h, g) (fits_deeper rest place (max c v.1) _ (λ x. read (In e neg v.0, x) refl))

  in_read : (n : ℕ) (neg : Bool) (place : ℕ) (us rest : Tokens) (t u : At Token) (e : Tree) (c : ℕ) → t.tok ≡ tok.sign signs.Open → ListsAll us → u.tok ≡ tok.sign signs.Close → Fits rest (in_at last (inside last n) neg place e c (t ∷ (us ++ (u ∷ rest))))
  unfolding in_at
  in_read n neg place us rest t u e c h k g = fits_deeper rest place c _ (λ here. rw h (after_list n neg place t.span.start (us ++ (u ∷ rest)) rest u e c g (k n t.span.start (u ∷ rest) (rw g refl))))

  claim_in : (ts ws us : Tokens) (t u : At Token) (neg : Bool) → Reads CAT ts → IsIn neg ws → t.tok ≡ tok.sign signs.Open → ListsAll us → u.tok ≡ tok.sign signs.Close → Reads INN (ts ++ (ws ++ t ∷ (us ++ u ∷ [])))
  unfolding inn_at
  claim_in ts ws us t u false p i h k g = λ n rest s. rw (assoc_in last ts ws us rest t u, i.1)
      (fits_bind (i.0 ∷ t ∷ (us ++ (u ∷ rest))) rest _ _ (p n (i.0 ∷ t ∷ (us ++ (u ∷ rest))) (rw i.2.1 refl)) (λ v. rw i.2.1 (in_read n false i.0.span.start us rest t u v.0 v.1 h k g)))
  claim_in ts ws us t u true p i h k g = λ n rest s. rw (assoc_in last ts ws us rest t u, i.2)
      (fits_bind (i.0 ∷ i.1 ∷ t ∷ (us ++ (u ∷ rest))) rest _ _ (p n (i.0 ∷ i.1 ∷ t ∷ (us ++ (u ∷ rest))) (rw i.3.1 refl)) (λ v. rw i.3.1 (fits_deeper rest i.0.span.start v.1 _ (λ here. rw i.4.1 (in_read n true i.0.span.start us rest t u v.0 v.1 h k g)))))

  claim_leaf : (t : At Token) (e : Tree) → IsLeaf t.tok e → Reads PRIM (t ∷ [])
  claim_leaf t e p = λ n rest s. read (e, 0) (leaf_read last n t t.tok e refl p rest s)

  mutual
    beyond : {limit room : ℕ} {l : Level} {ts : Tokens} {e : Tree} {d : ℕ} → SpellsIn limit room l ts e d → Claim l ts
    beyond (only l ts e d p) = claim_only l ts (reads (tighter l) ts (beyond p)) (spells_starts p)
    beyond (chain l fs bs t o a b c d p h q lt) = claim_chain l fs bs t o (beyond p) h (reads (tighter l) bs (beyond q))
    beyond (negation ts t e d h p lt) = claim_not ts t h (beyond p)
    beyond (is ts ws t neg truth e d p i h lt) = claim_is ts ws t neg truth (beyond p) i h
    beyond (comparison fs bs t o a b c d p h q lt) = claim_comparison fs bs t o (beyond p) h (beyond q)
    beyond (contained ts ws us t u neg e es c d p i h q g lt) = claim_in ts ws us t u neg (reads CAT ts (beyond p)) i h (items_beyond q) g
    beyond (between ts ws us vs t neg e low high b c d p i q h r lt) = claim_between ts ws us vs t neg (reads CAT ts (beyond p)) i (reads CAT us (beyond q)) h (reads CAT vs (beyond r))
    beyond (minus ts t e d h p lt) = claim_minus ts t h (beyond p)
    beyond (plus ts t e d h p lt) = claim_plus ts t h (beyond p)
    beyond (parens ts t u e d h p g lt) = claim_parens ts t u h (reads OR ts (beyond p)) g
    beyond (literal t e p) = claim_leaf t e p

    items_beyond : {limit room : ℕ} {us : Tokens} {es : Trees} {d : ℕ} → ItemsIn limit room us es d → ListsAll us
    items_beyond (one ts e d p) = list_first ts (reads OR ts (beyond p))
    items_beyond (next fs bs t es e c d p h q) = list_on fs bs t (items_beyond p) h (reads OR bs (beyond q))

  sides : (rest : Tokens) (r : Result (Part × Tokens) SqlFault) → Fits rest (seen_as r) → ((p : Part) × (r ≡ Ok (p, rest))) ⊎ ((place : ℕ) × (r ≡ Err (TooDeep place)))
  sides rest r (read v h) = inl (record { tree = v.0; depth = v.1 }, is_part r (seen v rest) h)
  sides rest r (deep q h) = inr (q, is_fault r (TooDeep q) h)

  -- what is spelled at the front of the tokens, whatever its depth, is read, or is too deep
  pub read_or_deep : (ts rest : Tokens) → Spelled OR ts → Ends rest → ((p : Part) × (expr_at last (ts ++ rest) ≡ Ok (p, rest))) ⊎ ((place : ℕ) × (expr_at last (ts ++ rest) ≡ Err (TooDeep place)))
  read_or_deep ts rest (m, r, e, d, p) s = sides rest (expr_at last (ts ++ rest)) (subst (Fits rest) (sym (expr_same last (ts ++ rest))) (reads OR ts (beyond p) MAX_DEPTH rest (ends_stops last rest s)))
