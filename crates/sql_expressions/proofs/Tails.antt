-- Each level stops where the tokens up to there say so.
use Rattle.std.proofs.Common.{◌≡◌, ℕ, zero, suc, ◌+◌, ◌<◌, ◌≤◌, Bool, true, false, [], ◌∷◌, ◌++◌, length, Option, Some, None, refl, sym, ap, ◌∙◌, subst, arith, append_assoc, length-append}
use Rattle.std.specs.Prelude.{Result, Ok, Err, max}
use Rattle.std.proofs.lemmas.List.{append-nil}
use Rattle.iso_lexer.specs.declared.limits.TheConstants.{MAX_DEPTH}
use Rattle.sql_trees.specs.declared.fault.SqlFault.{SqlFault}
use Rattle.sql_trees.specs.declared.fault.SqlFault.TheVariants.{TooDeep}
use Rattle.iso_lexer.specs.declared.token.At.{At}
use Rattle.iso_lexer.specs.declared.sql_token.SqlSign.TheVariants as signs
use Rattle.sql_trees.specs.declared.expr.Operator.{Operator}
use Rattle.sql_trees.specs.Tokens.{Token, Tokens}
use Rattle.sql_trees.specs.Tokens as tok
use Rattle.sql_trees.specs.Trees.{Tree, Trees, more, none, Binary}
use Rattle.sql_expressions.specs.Build.{push}
use Rattle.sql_expressions.specs.Results.{◌>>=◌}
use Rattle.sql_expressions.specs.Readers.{is_sign}
use Rattle.sql_expressions.specs.Inner.Pieces.{Found, Found_list, Reader, deeper, join, list_at, list_more, chain_more}
use Rattle.sql_expressions.specs.Inner.Pieces as reading
use Rattle.sql_expressions.specs.Grammar.{Level, OR, tighter, operator_at}
use Rattle.sql_expressions.specs.Laws.{Spelled}
use Rattle.sql_expressions.proofs.Steps.{is_comma_true}
use Rattle.sql_expressions.proofs.Shapes.{Listed, only_spelled, chain_spelled, one_listed, next_listed, a_number}
use Rattle.sql_expressions.proofs.Local.{Local, at_end, at_token, deep_at, behind, in_turn, deeper_then, same_at}

-- what was found, in front of the tokens that are left
abbrev pub seen : Tree × ℕ → Tokens → Found
seen v ts = record { tree = v.0; depth = v.1; rest = ts }

abbrev pub listed : Trees × ℕ → Tokens → Found_list
listed v ts = record { trees = v.0; depth = v.1; rest = ts }

-- what goes on behind a level
abbrev pub Tail : Level → Level → Tokens → Type 0
Tail l m xs = (fs : Tokens) → Spelled l fs → Spelled m (fs ++ xs)

pub no_tail : (l : Level) → Tail (tighter l) l []
no_tail l fs s = rw append-nil (only_spelled l fs s)

pub same_tail : (l : Level) → Tail l l []
same_tail l fs s = rw append-nil s

module _ (last : ℕ) where
  abbrev pub Reads : Level → Reader → Type 0
  Reads l p = (ts : Tokens) → Local last seen (Spelled l) p ts

  -- ---- chains

  abbrev after_op : Reader → (Token → Option Operator) → ℕ → Operator → ℕ → Tree × ℕ → Tokens → Found → Result Found SqlFault
  after_op operand op_of n o place v vs b = join (record { op = o; place = place; rest = vs }) (seen v vs) b >>= λ c. chain_more operand op_of n c

  module _ (l : Level) (operand : Reader) (read : Reads (tighter l) operand) (one : Spelled (tighter l) a_number) where
    chain_none : (n : ℕ) (v : Tree × ℕ) (t : At Token) (vs : Tokens) → operator_at l t.tok ≡ None → chain_more operand (operator_at l) n (seen v (t ∷ vs)) ≡ Ok (seen v (t ∷ vs))
    unfolding chain_more
    chain_none zero v t vs h = rw h refl
    chain_none (suc n) v t vs h = rw h refl

    chain_nothing : (n : ℕ) (v : Tree × ℕ) → chain_more operand (operator_at l) n (seen v []) ≡ Ok (seen v [])
    unfolding chain_more
    chain_nothing zero v = refl
    chain_nothing (suc n) v = refl

    chain_full : (v : Tree × ℕ) (t : At Token) (vs : Tokens) (o : Operator) → operator_at l t.tok ≡ Some o → chain_more operand (operator_at l) zero (seen v (t ∷ vs)) ≡ Err (TooDeep t.span.start)
    unfolding chain_more
    chain_full v t vs o h = rw h refl

    chain_some : (n : ℕ) (v : Tree × ℕ) (t : At Token) (vs : Tokens) (o : Operator) → operator_at l t.tok ≡ Some o → chain_more operand (operator_at l) (suc n) (seen v (t ∷ vs)) ≡ (deeper t.span.start v.1 >>= λ here. operand vs >>= after_op operand (operator_at l) n o t.span.start v vs)
    unfolding chain_more
    chain_some n v t vs o h = rw h refl

    chain_join : (t : At Token) (o : Operator) → operator_at l t.tok ≡ Some o → (xs ys : Tokens) → Spelled (tighter l) xs → Tail l l ys → Tail l l (t ∷ (xs ++ ys))
    chain_join t o h xs ys s m = λ fs p. subst (Spelled l) (append_assoc fs (t ∷ xs) ys) (m (fs ++ t ∷ xs) (chain_spelled l fs xs t o p h s))

    -- what stands behind an operator, where so many turns are left
    chain_next : (n : ℕ) (ih : (v : Tree × ℕ) (ts : Tokens) → Local last seen (Tail l l) (λ r. chain_more operand (operator_at l) n (seen v r)) ts) (o : Operator) (place : ℕ) (v w : Tree × ℕ) (ts : Tokens) →
        Local last seen (Tail l l) (λ r. join (record { op = o; place = place; rest = [] }) (seen v []) (seen w r) >>= λ c. chain_more operand (operator_at l) n c) ts
    chain_next n ih o place v w ts = deeper_then last seen (Tail l l) place (max v.1 w.1) (λ x r. chain_more operand (operator_at l) n (seen (Binary o v.0 w.0, x) r)) _ ts (λ others. joins (deeper place (max v.1 w.1)) others) (ih (Binary o v.0 w.0, max v.1 w.1 + 1) ts)
      where
        joins : (d : Result ℕ SqlFault) (others : Tokens) → ((d >>= λ x. Ok (seen (Binary o v.0 w.0, x) others)) >>= λ c. chain_more operand (operator_at l) n c) ≡ (d >>= λ x. chain_more operand (operator_at l) n (seen (Binary o v.0 w.0, x) others))
        joins (Ok x) others = refl
        joins (Err e) others = refl

    chain_token : (n : ℕ) (ih : (v : Tree × ℕ) (ts : Tokens) → Local last seen (Tail l l) (λ r. chain_more operand (operator_at l) n (seen v r)) ts) (v : Tree × ℕ) (t : At Token) (us : Tokens) (m : Option Operator) → operator_at l t.tok ≡ m → Local last seen (Tail l l) (λ r. chain_more operand (operator_at l) (suc n) (seen v r)) (t ∷ us)
    chain_token n ih v t us None h = at_token last seen (Tail l l) (λ r. chain_more operand (operator_at l) (suc n) (seen v r)) (Ok v) t us (λ vs. chain_none (suc n) v t vs h) (same_tail l)
    chain_token n ih v t us (Some o) h =
        behind last (λ ys. Tail l l (t ∷ ys)) (Tail l l) (λ vs. deeper t.span.start v.1 >>= λ here. operand vs >>= λ b. join (record { op = o; place = t.span.start; rest = [] }) (seen v []) b >>= λ c. chain_more operand (operator_at l) n c) (λ r. chain_more operand (operator_at l) (suc n) (seen v r)) t us (λ xs g. g) (λ vs. chain_some n v t vs o h)
        (deeper_then last seen (λ ys. Tail l l (t ∷ ys)) t.span.start v.1 (λ x vs. operand vs >>= λ b. join (record { op = o; place = t.span.start; rest = [] }) (seen v []) b >>= λ c. chain_more operand (operator_at l) n c) _ us (λ others. refl)
        (in_turn last (Spelled (tighter l)) (Tail l l) (λ ys. Tail l l (t ∷ ys)) operand (λ b. join (record { op = o; place = t.span.start; rest = [] }) (seen v []) b >>= λ c. chain_more operand (operator_at l) n c) us ([], same_tail l) (chain_join t o h) (read us) (λ w is. chain_next n ih o t.span.start v w _)))

    chain_end_token : (v : Tree × ℕ) (t : At Token) (us : Tokens) (m : Option Operator) → operator_at l t.tok ≡ m → Local last seen (Tail l l) (λ r. chain_more operand (operator_at l) zero (seen v r)) (t ∷ us)
    chain_end_token v t us None h = at_token last seen (Tail l l) (λ r. chain_more operand (operator_at l) zero (seen v r)) (Ok v) t us (λ vs. chain_none zero v t vs h) (same_tail l)
    chain_end_token v t us (Some o) h = deep_at last seen (Tail l l) (λ r. chain_more operand (operator_at l) zero (seen v r)) t.span.start t us ([], same_tail l) (λ vs. chain_full v t vs o h)

    chain_tail : (n : ℕ) (v : Tree × ℕ) (ts : Tokens) → Local last seen (Tail l l) (λ r. chain_more operand (operator_at l) n (seen v r)) ts
    chain_tail n v [] = at_end last seen (Tail l l) (λ r. chain_more operand (operator_at l) n (seen v r)) (Ok v) (chain_nothing n v) (same_tail l)
    chain_tail zero v (t ∷ us) = chain_end_token v t us (operator_at l t.tok) refl
    chain_tail (suc n) v (t ∷ us) = chain_token n (λ w ts. chain_tail n w ts) v t us (operator_at l t.tok) refl

    pub chain_local : Reads l (reading.chain operand (operator_at l))
    unfolding reading.chain
    chain_local ts = in_turn last (Spelled (tighter l)) (Tail l l) (Spelled l) operand (λ a. chain_more operand (operator_at l) MAX_DEPTH a) ts ([], same_tail l) (λ xs ys s m. m xs (only_spelled l xs s)) (read ts) (λ v is. chain_tail MAX_DEPTH v _)

  -- ---- lists

  module _ (reader : Reader) (read : Reads OR reader) (shorter : (ts : Tokens) (f : Found) → reader ts ≡ Ok f → length f.rest < length ts) where
    -- what is left of a list, with turns for each token
    abbrev list_all : Found_list → Result Found_list SqlFault
    list_all l = list_more reader (length l.rest) l

    abbrev put_in : Trees × ℕ → Found → Found_list
    put_in v e = listed (push v.0 e.tree, max v.1 e.depth) e.rest

    bind_same : {A B : Type 0} (r : Result A SqlFault) (f g : A → Result B SqlFault) → ((x : A) → r ≡ Ok x → f x ≡ g x) → (r >>= f) ≡ (r >>= g)
    bind_same (Ok x) f g h = h x refl
    bind_same (Err e) f g h = refl

    list_nothing : (n : ℕ) (v : Trees × ℕ) → list_more reader n (listed v []) ≡ Ok (listed v [])
    unfolding list_more
    list_nothing zero v = refl
    list_nothing (suc n) v = refl

    list_stop : (n : ℕ) (v : Trees × ℕ) (t : At Token) (vs : Tokens) → is_sign signs.Comma t.tok ≡ false → list_more reader n (listed v (t ∷ vs)) ≡ Ok (listed v (t ∷ vs))
    unfolding list_more
    list_stop zero v t vs h = refl
    list_stop (suc n) v t vs h = rw h refl

    list_go : (n : ℕ) (v : Trees × ℕ) (t : At Token) (vs : Tokens) → is_sign signs.Comma t.tok ≡ true → list_more reader (suc n) (listed v (t ∷ vs)) ≡ (reader vs >>= λ e. list_more reader n (put_in v e))
    unfolding list_more
    list_go n v t vs h = rw h refl

    -- more turns than tokens change nothing
    enough : (m n : ℕ) (v : Trees × ℕ) (ts : Tokens) → length ts ≤ m → length ts ≤ n → list_more reader m (listed v ts) ≡ list_more reader n (listed v ts)
    enough m n v [] g h = list_nothing m v ∙ sym (list_nothing n v)
    enough zero n v (t ∷ ts) g h = absurd (omega arith)
    enough (suc m) zero v (t ∷ ts) g h = absurd (omega arith)
    enough (suc m) (suc n) v (t ∷ ts) g h = of_test (is_sign signs.Comma t.tok) refl (λ w us a b. enough m n w us a b)
      where
        of_test : (b : Bool) → is_sign signs.Comma t.tok ≡ b → ((w : Trees × ℕ) (us : Tokens) → length us ≤ m → length us ≤ n → list_more reader m (listed w us) ≡ list_more reader n (listed w us)) → list_more reader (suc m) (listed v (t ∷ ts)) ≡ list_more reader (suc n) (listed v (t ∷ ts))
        of_test false q ih = list_stop (suc m) v t ts q ∙ sym (list_stop (suc n) v t ts q)
        of_test true q ih =
            list_go m v t ts q ∙ bind_same (reader ts) (λ e. list_more reader m (put_in v e)) (λ e. list_more reader n (put_in v e)) (λ e is. let lt = shorter ts e is in ih (push v.0 e.tree, max v.1 e.depth) e.rest (omega arith) (omega arith)) ∙ sym (list_go n v t ts q)

    -- what goes on behind a list
    abbrev More : Tokens → Type 0
    More xs = (fs : Tokens) → Listed fs → Listed (fs ++ xs)

    more_none : More []
    more_none fs g = rw append-nil g

    more_join : (t : At Token) → t.tok ≡ tok.sign signs.Comma → (xs ys : Tokens) → Spelled OR xs → More ys → More (t ∷ (xs ++ ys))
    more_join t h xs ys s m = λ fs g. subst Listed (append_assoc fs (t ∷ xs) ys) (m (fs ++ t ∷ xs) (next_listed fs xs t g h s))

    comma_turn : (v : Trees × ℕ) (t : At Token) (vs : Tokens) → is_sign signs.Comma t.tok ≡ true → list_all (listed v (t ∷ vs)) ≡ (reader vs >>= λ e. list_all (put_in v e))
    comma_turn v t vs h = list_go (length vs) v t vs h ∙ bind_same (reader vs) (λ e. list_more reader (length vs) (put_in v e)) (λ e. list_all (put_in v e)) (λ e is. let lt = shorter vs e is in enough (length vs) (length e.rest) (push v.0 e.tree, max v.1 e.depth) e.rest (omega arith) (omega arith))

    list_token : (v : Trees × ℕ) (t : At Token) (us : Tokens) (b : Bool) → is_sign signs.Comma t.tok ≡ b → ((w : Trees × ℕ) (ts : Tokens) → length ts ≤ length us → Local last listed More (λ r. list_all (listed w r)) ts) → Local last listed More (λ r. list_all (listed v r)) (t ∷ us)
    list_token v t us false h ih = at_token last listed More (λ r. list_all (listed v r)) (Ok v) t us (λ vs. list_stop (length (t ∷ vs)) v t vs h) more_none
    list_token v t us true h ih =
        let l = read us in
        behind last (λ ys. More (t ∷ ys)) More (λ vs. reader vs >>= λ e. list_all (put_in v e)) (λ r. list_all (listed v r)) t us (λ xs g. g) (λ vs. comma_turn v t vs h)
        (in_turn last (Spelled OR) More (λ ys. More (t ∷ ys)) reader (λ e. list_all (put_in v e)) us ([], more_none) (more_join t (is_comma_true t.tok h)) l (λ w is. ih (push v.0 w.0, max v.1 w.1) l.rest (omega (arith, ap length l.split, length-append l.front l.rest))))

    list_tail : (m : ℕ) (v : Trees × ℕ) (ts : Tokens) → length ts ≤ m → Local last listed More (λ r. list_all (listed v r)) ts
    list_tail m v [] le = at_end last listed More (λ r. list_all (listed v r)) (Ok v) (list_nothing 0 v) more_none
    list_tail zero v (t ∷ us) le = absurd (omega arith)
    list_tail (suc m) v (t ∷ us) le = list_token v t us (is_sign signs.Comma t.tok) refl (λ w ts h. list_tail m w ts (omega arith))

    list_is : (ts : Tokens) → list_at reader ts ≡ (reader ts >>= λ e. list_all (listed (more e.tree none, e.depth) e.rest))
    unfolding list_at
    list_is ts = bind_same (reader ts) (λ e. list_more reader (length ts) (listed (more e.tree none, e.depth) e.rest)) (λ e. list_all (listed (more e.tree none, e.depth) e.rest)) (λ e is. let lt = shorter ts e is in enough (length ts) (length e.rest) (more e.tree none, e.depth) e.rest (omega arith) (omega arith))

    pub list_local : (ts : Tokens) → Local last listed Listed (list_at reader) ts
    list_local ts =
        same_at last Listed Listed (λ r. reader r >>= λ e. list_all (listed (more e.tree none, e.depth) e.rest)) (list_at reader) ts (λ xs g. g) (λ us h. list_is us)
        (in_turn last (Spelled OR) More Listed reader (λ e. list_all (listed (more e.tree none, e.depth) e.rest)) ts ([], more_none) (λ xs ys s m. m xs (one_listed xs s)) (read ts) (λ v is. list_tail (length (read ts).rest) (more v.0 none, v.1) (read ts).rest (omega arith)))
