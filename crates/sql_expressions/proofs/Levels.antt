-- Each level reads what the grammar has at it.
use Rattle.std.proofs.Common.{◌≡◌, ℕ, zero, suc, ◌+◌, ◌<◌, Bool, true, false, List, [], ◌∷◌, ◌++◌, length, Option, Some, None, refl, sym, ap, ◌∙◌, subst, arith, append_assoc, length-append}
use Rattle.std.specs.Prelude.{Result, Ok, Err, max, if◌then◌else◌}
use Rattle.iso_lexer.specs.declared.limits.TheConstants.{MAX_DEPTH}
use Rattle.sql_trees.specs.declared.fault.SqlFault.{SqlFault}
use Rattle.sql_trees.specs.declared.fault.SqlFault.TheVariants.{LeftOut}
use Rattle.sql_expressions.specs.declared.level.Opened.{Opened}
use Rattle.sql_expressions.specs.declared.level.Opened.TheVariants.{Whole, Negation, Unary}
use Rattle.iso_lexer.specs.declared.token.At.{At}
use Rattle.sql_trees.specs.Tokens.{Token, Tokens, named}
use Rattle.sql_trees.specs.Tokens as tok
use Rattle.iso_lexer.specs.declared.sql_token.SqlSign.TheVariants as signs
use Rattle.sql_trees.specs.declared.word.Word.TheVariants as words
use Rattle.sql_trees.specs.declared.expr.Truth.{Truth}
use Rattle.sql_trees.specs.Trees.{Tree, Column, Plus, Not, Is, In, Between, more, none}
use Rattle.sql_expressions.specs.Build.{negated}
use Rattle.sql_expressions.specs.Results.{◌>>=◌}
use Rattle.sql_expressions.specs.Readers.{expect, is_sign, place_of}
use Rattle.sql_expressions.specs.Reading.{Part, is_call, comparison_op, truth_of, expr_at}
use Rattle.sql_expressions.specs.Inner.Pieces.{Found, name_at, Found_op, Found_list, Reader, leaf, deeper, join, next_op, is_and, is_not, is_is, column_at, parens_at, prim_of, prim_at, sign_at, una_of, una_at, mul_at, add_at, cat_at, in_at, between_at, not_in_of, not_in_at, inn_of, inn_more, inn_at, cmp_more, cmp_at, is_node, truth_test, after_is, is_from, maybe_is, is_at, negation_at, not_at, and_at, or_at, at_level, inside, list_at, list_more}
use Rattle.sql_expressions.specs.Grammar.{Begins, IsWord, Level, OR, AND, NOT, IS, CMP, INN, CAT, ADD, MUL, UNA, PRIM, Spells, only, chain, negation, is, comparison, contained, between, minus, plus, parens, literal, Items, one, next, IsLeaf, number, text, column, yes, no, null, IsIn, IsBetween, IsIs}
use Rattle.sql_expressions.proofs.Steps.{bind_ok, deeper_ok, expect_ok, is_close_true, is_open_true, is_and_true, is_not_true, is_is_true}
use Rattle.sql_expressions.proofs.Same.{as_found, seen, expr_same}
use Rattle.sql_expressions.proofs.Sound.{Took, took_up, Sound, joined_as, chain_sound, list_sound}

abbrev pub level_of : Opened → Level
level_of Whole = OR
level_of Negation = NOT
level_of Unary = UNA

-- one token, which is the whole of what was found
single : (P : Tokens → Tree → ℕ → Type 0) (t : At Token) (ts : Tokens) (e : Tree) (f : Found) → leaf e ts ≡ Ok f → P (t ∷ []) e 0 → Took P (t ∷ ts) f
single P t ts e f h p =
    let same : record { tree = e; depth = 0; rest = ts } ≡ f = cc in
    subst (Took P (t ∷ ts)) same (record { front = t ∷ []; whole = refl; some = omega arith; spells = p })

-- a token, what an opening shows, and the node over it
behind : (P Q : Tokens → Tree → ℕ → Type 0) (make : Tree → Tree) (t : At Token) (ts : Tokens) (e f : Found) (p d : ℕ) → Took P ts e → deeper p e.depth ≡ Ok d → (let r : Result Found SqlFault = Ok (record { tree = make e.tree; depth = d; rest = e.rest }) in r ≡ Ok f) → ((us : Tokens) (x : Tree) (c : ℕ) → P us x c → c < MAX_DEPTH → Q (t ∷ us) (make x) (c + 1)) → Took Q (t ∷ ts) f
behind P Q make t ts e f p d k h g node =
    let s = deeper_ok p e.depth d h in
    let same : record { tree = make e.tree; depth = e.depth + 1; rest = e.rest } ≡ f = ap (λ x. record { tree = make e.tree; depth = x; rest = e.rest }) (sym s.1) ∙ cc in
    subst (Took Q (t ∷ ts)) same (record { front = t ∷ k.front; whole = ap (λ r. t ∷ r) k.whole; some = omega arith; spells = node k.front e.tree e.depth k.spells s.0 })

-- what was found goes on behind a first part of it
extend : (P Q : Tokens → Tree → ℕ → Type 0) (ts mid : Tokens) (a f : Found) (k : Took P ts a) → a.rest ≡ mid ++ f.rest → Q (k.front ++ mid) f.tree f.depth → Took Q ts f
extend P Q ts mid a f k h q = record {
  front = k.front ++ mid;
  whole = k.whole ∙ ap (λ r. k.front ++ r) h ∙ sym (append_assoc k.front mid f.rest);
  some = omega (arith, length-append k.front mid, k.some);
  spells = q;
}

module _ (last n : ℕ) (inside' : Opened → ℕ → Reader) where
  -- what is known of an opening: there is room for it, and what it shows is in the grammar with one less
  abbrev pub Opens : Type 0
  Opens = (level : Opened) (place : ℕ) (ts : Tokens) (f : Found) → inside' level place ts ≡ Ok f → (m : ℕ) × (n ≡ suc m) × Took (Spells m (level_of level)) ts f

  module _ (opens : Opens) where
    column_sound : (name : List ℕ) (t : At Token) (ts : Tokens) (f : Found) → named t.tok ≡ Some name → column_at last t name ts ≡ Ok f → Took (Spells n PRIM) (t ∷ ts) f
    column_sound name t [] f h e = single _ t [] (Column name) f e (literal t (Column name) (column t.tok name h))
    column_sound name t (u ∷ ts) f h e = of_test (is_sign signs.Open u.tok) e
      where
        of_test : (b : Bool) → (let r : Result Found SqlFault = if b then Err (LeftOut (if is_call t.tok then t.span.start else u.span.start)) else leaf (Column name) (u ∷ ts) in r ≡ Ok f) → Took (Spells n PRIM) (t ∷ u ∷ ts) f
        of_test true g = absurd cc
        of_test false g = single _ t (u ∷ ts) (Column name) f g (literal t (Column name) (column t.tok name h))

    name_sound : (o : Option (List ℕ)) (t : At Token) (ts : Tokens) (f : Found) → named t.tok ≡ o → name_at last o t ts ≡ Ok f → Took (Spells n PRIM) (t ∷ ts) f
    name_sound None t ts f h e = absurd cc
    name_sound (Some name) t ts f h e = column_sound name t ts f h e

    parens_sound : (t : At Token) (ts : Tokens) (f : Found) → t.tok ≡ tok.sign signs.Open → parens_at last inside' t.span.start ts ≡ Ok f → Took (Spells n PRIM) (t ∷ ts) f
    unfolding parens_at
    parens_sound t ts f h e =
        let s1 = bind_ok (inside' Whole t.span.start ts) (λ e. deeper t.span.start e.depth >>= λ d. expect last (is_sign signs.Close) e.rest >>= λ rest. Ok (record { tree = e.tree; depth = d; rest = rest })) f e in
        let s2 = bind_ok (deeper t.span.start s1.0.depth) (λ d. expect last (is_sign signs.Close) s1.0.rest >>= λ rest. Ok (record { tree = s1.0.tree; depth = d; rest = rest })) f s1.2 in
        let s3 = bind_ok (expect last (is_sign signs.Close) s1.0.rest) (λ rest. Ok (record { tree = s1.0.tree; depth = s2.0; rest = rest })) f s2.2 in
        let k = opens Whole t.span.start ts s1.0 s1.1 in
        let d = deeper_ok t.span.start s1.0.depth s2.0 s2.1 in
        let c = expect_ok last (is_sign signs.Close) s1.0.rest s3.0 s3.1 in
        let same : record { tree = s1.0.tree; depth = s1.0.depth + 1; rest = s3.0 } ≡ f = ap (λ x. record { tree = s1.0.tree; depth = x; rest = s3.0 }) (sym d.1) ∙ cc in
        subst (Took (Spells n PRIM) (t ∷ ts)) same (record {
          front = t ∷ (k.2.front ++ c.0 ∷ []);
          whole = ap (λ r. t ∷ r) (k.2.whole ∙ ap (λ r. k.2.front ++ r) c.1 ∙ sym (append_assoc k.2.front (c.0 ∷ []) s3.0));
          some = omega arith;
          spells = subst (λ m. Spells m PRIM (t ∷ (k.2.front ++ c.0 ∷ [])) s1.0.tree (s1.0.depth + 1)) (sym k.1) (parens k.2.front t c.0 s1.0.tree s1.0.depth h k.2.spells (is_close_true c.0.tok c.2) d.0);
        })

    leaf_sound : (x : Token) (e : Tree) (t : At Token) (ts : Tokens) (f : Found) → t.tok ≡ x → IsLeaf x e → leaf e ts ≡ Ok f → Took (Spells n PRIM) (t ∷ ts) f
    leaf_sound x e t ts f h l g = single _ t ts e f g (literal t e (subst (λ y. IsLeaf y e) (sym h) l))

    prim_of_sound : (x : Token) (t : At Token) (ts : Tokens) (f : Found) → t.tok ≡ x → prim_of last inside' x t ts ≡ Ok f → Took (Spells n PRIM) (t ∷ ts) f
    prim_of_sound (tok.number k) t ts f h e = leaf_sound _ _ t ts f h (number k) e
    prim_of_sound (tok.string s) t ts f h e = leaf_sound _ _ t ts f h (text s) e
    prim_of_sound (tok.word words.True s) t ts f h e = leaf_sound _ _ t ts f h (yes s) e
    prim_of_sound (tok.word words.False s) t ts f h e = leaf_sound _ _ t ts f h (no s) e
    prim_of_sound (tok.word words.Null s) t ts f h e = leaf_sound _ _ t ts f h (null s) e
    prim_of_sound (tok.sign signs.Open) t ts f h e = parens_sound t ts f h e
    prim_of_sound x t ts f h e = name_sound (named x) t ts f (ap named h) e

    prim_sound : Sound (Spells n PRIM) (prim_at last inside')
    prim_sound [] f e = absurd cc
    prim_sound (t ∷ ts) f e = prim_of_sound t.tok t ts f refl e

    sign_sound : (make : Tree → Tree) (t : At Token) (ts : Tokens) (f : Found) → ((m : ℕ) (us : Tokens) (x : Tree) (c : ℕ) → Spells m UNA us x c → c < MAX_DEPTH → Spells (suc m) UNA (t ∷ us) (make x) (c + 1)) → sign_at last inside' make t.span.start ts ≡ Ok f → Took (Spells n UNA) (t ∷ ts) f
    unfolding sign_at
    sign_sound make t ts f node e =
        let s1 = bind_ok (inside' Unary t.span.start ts) (λ e. deeper t.span.start e.depth >>= λ d. Ok (record { tree = make e.tree; depth = d; rest = e.rest })) f e in
        let s2 = bind_ok (deeper t.span.start s1.0.depth) (λ d. Ok (record { tree = make s1.0.tree; depth = d; rest = s1.0.rest })) f s1.2 in
        let k = opens Unary t.span.start ts s1.0 s1.1 in
        behind (Spells k.0 UNA) (Spells n UNA) make t ts s1.0 f t.span.start s2.0 k.2 s2.1 s2.2 (λ us x c p l. subst (λ m. Spells m UNA (t ∷ us) (make x) (c + 1)) (sym k.1) (node k.0 us x c p l))

    una_of_sound : (x : Token) (t : At Token) (ts : Tokens) (f : Found) → t.tok ≡ x → una_of last inside' x t ts ≡ Ok f → Took (Spells n UNA) (t ∷ ts) f
    una_of_sound (tok.sign signs.Minus) t ts f h e = sign_sound negated t ts f (λ m us x c p l. minus us t x c h p l) e
    una_of_sound (tok.sign signs.Plus) t ts f h e = sign_sound Plus t ts f (λ m us x c p l. plus us t x c h p l) e
    una_of_sound _ t ts f h e = took_up _ _ (λ us x c p. only UNA us x c p) _ _ (prim_sound (t ∷ ts) f e)

    pub una_sound : Sound (Spells n UNA) (una_at last inside')
    una_sound [] f e = absurd cc
    una_sound (t ∷ ts) f e = una_of_sound t.tok t ts f refl e

    pub mul_sound : Sound (Spells n MUL) (mul_at last inside')
    unfolding mul_at
    mul_sound = chain_sound _ _ (Spells n UNA) (Spells n MUL) una_sound (λ fs bs t o a b c d p h q l. chain MUL fs bs t o a b c d p h q l) (λ ts e d p. only MUL ts e d p)

    pub add_sound : Sound (Spells n ADD) (add_at last inside')
    unfolding add_at
    add_sound = chain_sound _ _ (Spells n MUL) (Spells n ADD) mul_sound (λ fs bs t o a b c d p h q l. chain ADD fs bs t o a b c d p h q l) (λ ts e d p. only ADD ts e d p)

    pub cat_sound : Sound (Spells n CAT) (cat_at last inside')
    unfolding cat_at
    cat_sound = chain_sound _ _ (Spells n ADD) (Spells n CAT) add_sound (λ fs bs t o a b c d p h q l. chain CAT fs bs t o a b c d p h q l) (λ ts e d p. only CAT ts e d p)

    of_room : (m : ℕ) → n ≡ suc m → (place : ℕ) (ts : Tokens) (f : Found) → inside' Whole place ts ≡ Ok f → Took (Spells m OR) ts f
    of_room m r place ts f h = let k = opens Whole place ts f h in let same : k.0 ≡ m = omega (arith, k.1, r) in subst (λ x. Took (Spells x OR) ts f) same k.2

    first_item : (ts : Tokens) (l : Found_list) (place : ℕ) → list_at (inside' Whole place) ts ≡ Ok l → (m : ℕ) × (n ≡ suc m)
    unfolding list_at
    first_item ts l place h =
        let s = bind_ok (inside' Whole place ts) (λ e. list_more (inside' Whole place) (length ts) (record { trees = more e.tree none; depth = e.depth; rest = e.rest })) l h in
        let k = opens Whole place ts s.0 s.1 in
        (k.0, k.1)

    in_sound : (no' : Bool) (ws ts us : Tokens) (place : ℕ) (a f : Found) (k : Took (Spells n CAT) ts a) → a.rest ≡ ws ++ us → IsIn no' ws → in_at last inside' no' place a.tree a.depth us ≡ Ok f → Took (Spells n INN) ts f
    unfolding in_at
    in_sound no' ws ts us place a f k w i e =
        let s1 = bind_ok (deeper place a.depth) (λ here. expect last (is_sign signs.Open) us >>= λ rest. list_at (inside' Whole (place_of last us)) rest >>= λ items. deeper place (max a.depth items.depth) >>= λ d. expect last (is_sign signs.Close) items.rest >>= λ after. Ok (record { tree = In a.tree no' items.trees; depth = d; rest = after })) f e in
        let s2 = bind_ok (expect last (is_sign signs.Open) us) (λ rest. list_at (inside' Whole (place_of last us)) rest >>= λ items. deeper place (max a.depth items.depth) >>= λ d. expect last (is_sign signs.Close) items.rest >>= λ after. Ok (record { tree = In a.tree no' items.trees; depth = d; rest = after })) f s1.2 in
        let s3 = bind_ok (list_at (inside' Whole (place_of last us)) s2.0) (λ items. deeper place (max a.depth items.depth) >>= λ d. expect last (is_sign signs.Close) items.rest >>= λ after. Ok (record { tree = In a.tree no' items.trees; depth = d; rest = after })) f s2.2 in
        let s4 = bind_ok (deeper place (max a.depth s3.0.depth)) (λ d. expect last (is_sign signs.Close) s3.0.rest >>= λ after. Ok (record { tree = In a.tree no' s3.0.trees; depth = d; rest = after })) f s3.2 in
        let s5 = bind_ok (expect last (is_sign signs.Close) s3.0.rest) (λ after. Ok (record { tree = In a.tree no' s3.0.trees; depth = s4.0; rest = after })) f s4.2 in
        let o = expect_ok last (is_sign signs.Open) us s2.0 s2.1 in
        let c = expect_ok last (is_sign signs.Close) s3.0.rest s5.0 s5.1 in
        let d = deeper_ok place (max a.depth s3.0.depth) s4.0 s4.1 in
        let room = first_item s2.0 s3.0 (place_of last us) s3.1 in
        let q = list_sound (inside' Whole (place_of last us)) (Spells room.0 OR) (Items room.0) (λ ts f h. of_room room.0 room.1 (place_of last us) ts f h) (λ ts e d p. one ts e d p) (λ fs bs t es e c d p h q. next fs bs t es e c d p h q) s2.0 s3.0 s3.1 in
        let same : record { tree = In a.tree no' s3.0.trees; depth = max a.depth s3.0.depth + 1; rest = s5.0 } ≡ f = ap (λ x. record { tree = In a.tree no' s3.0.trees; depth = x; rest = s5.0 }) (sym d.1) ∙ cc in
        let mid = ws ++ o.0 ∷ (q.front ++ c.0 ∷ []) in
        let split : a.rest ≡ mid ++ s5.0 = w ∙ ap (λ r. ws ++ r) (o.1 ∙ ap (λ r. o.0 ∷ r) (q.whole ∙ ap (λ r. q.front ++ r) c.1 ∙ sym (append_assoc q.front (c.0 ∷ []) s5.0))) ∙ sym (append_assoc ws (o.0 ∷ (q.front ++ c.0 ∷ [])) s5.0) in
        subst (Took (Spells n INN) ts) same (extend (Spells n CAT) (Spells n INN) ts mid a (record { tree = In a.tree no' s3.0.trees; depth = max a.depth s3.0.depth + 1; rest = s5.0 }) k split
        (subst (λ m. Spells m INN (k.front ++ mid) (In a.tree no' s3.0.trees) (max a.depth s3.0.depth + 1)) (sym room.1)
        (contained k.front ws q.front o.0 c.0 no' a.tree s3.0.trees a.depth s3.0.depth (subst (λ m. Spells m CAT k.front a.tree a.depth) room.1 k.spells) i (is_open_true o.0.tok o.2) q.spells (is_close_true c.0.tok c.2) d.0)))

    between_sound : (no' : Bool) (ws ts us : Tokens) (place : ℕ) (a f : Found) (k : Took (Spells n CAT) ts a) → a.rest ≡ ws ++ us → IsBetween no' ws → between_at last inside' no' place a.tree a.depth us ≡ Ok f → Took (Spells n INN) ts f
    unfolding between_at
    between_sound no' ws ts us place a f k w i e =
        let s1 = bind_ok (deeper place a.depth) (λ here. cat_at last inside' us >>= λ low. deeper place (max a.depth low.depth) >>= λ there. expect last is_and low.rest >>= λ rest. cat_at last inside' rest >>= λ high. deeper place (max a.depth (max low.depth high.depth)) >>= λ d. Ok (record { tree = Between a.tree no' low.tree high.tree; depth = d; rest = high.rest })) f e in
        let s2 = bind_ok (cat_at last inside' us) (λ low. deeper place (max a.depth low.depth) >>= λ there. expect last is_and low.rest >>= λ rest. cat_at last inside' rest >>= λ high. deeper place (max a.depth (max low.depth high.depth)) >>= λ d. Ok (record { tree = Between a.tree no' low.tree high.tree; depth = d; rest = high.rest })) f s1.2 in
        let b2 = bind_ok (deeper place (max a.depth s2.0.depth)) (λ there. expect last is_and s2.0.rest >>= λ rest. cat_at last inside' rest >>= λ high. deeper place (max a.depth (max s2.0.depth high.depth)) >>= λ d. Ok (record { tree = Between a.tree no' s2.0.tree high.tree; depth = d; rest = high.rest })) f s2.2 in
        let s3 = bind_ok (expect last is_and s2.0.rest) (λ rest. cat_at last inside' rest >>= λ high. deeper place (max a.depth (max s2.0.depth high.depth)) >>= λ d. Ok (record { tree = Between a.tree no' s2.0.tree high.tree; depth = d; rest = high.rest })) f b2.2 in
        let s4 = bind_ok (cat_at last inside' s3.0) (λ high. deeper place (max a.depth (max s2.0.depth high.depth)) >>= λ d. Ok (record { tree = Between a.tree no' s2.0.tree high.tree; depth = d; rest = high.rest })) f s3.2 in
        let s5 = bind_ok (deeper place (max a.depth (max s2.0.depth s4.0.depth))) (λ d. Ok (record { tree = Between a.tree no' s2.0.tree s4.0.tree; depth = d; rest = s4.0.rest })) f s4.2 in
        let low = cat_sound us s2.0 s2.1 in
        let t = expect_ok last is_and s2.0.rest s3.0 s3.1 in
        let high = cat_sound s3.0 s4.0 s4.1 in
        let d = deeper_ok place (max a.depth (max s2.0.depth s4.0.depth)) s5.0 s5.1 in
        let made : Found = record { tree = Between a.tree no' s2.0.tree s4.0.tree; depth = max a.depth (max s2.0.depth s4.0.depth) + 1; rest = s4.0.rest } in
        let same : made ≡ f = ap (λ x. record { tree = Between a.tree no' s2.0.tree s4.0.tree; depth = x; rest = s4.0.rest }) (sym d.1) ∙ cc in
        let mid = ws ++ (low.front ++ t.0 ∷ high.front) in
        let split : a.rest ≡ mid ++ s4.0.rest = w ∙ ap (λ r. ws ++ r) (low.whole ∙ ap (λ r. low.front ++ r) (t.1 ∙ ap (λ r. t.0 ∷ r) high.whole) ∙ sym (append_assoc low.front (t.0 ∷ high.front) s4.0.rest)) ∙ sym (append_assoc ws (low.front ++ t.0 ∷ high.front) s4.0.rest) in
        subst (Took (Spells n INN) ts) same (extend (Spells n CAT) (Spells n INN) ts mid a made k split
        (between k.front ws low.front high.front t.0 no' a.tree s2.0.tree s4.0.tree a.depth s2.0.depth s4.0.depth k.spells i low.spells (is_and_true t.0.tok t.2) high.spells d.0))

    up_inn : (ts : Tokens) (a f : Found) → Took (Spells n CAT) ts a → (let r : Result Found SqlFault = Ok a in r ≡ Ok f) → Took (Spells n INN) ts f
    up_inn ts a f k h = let same : a ≡ f = cc in subst (Took (Spells n INN) ts) same (took_up (Spells n CAT) (Spells n INN) (λ us x c p. only INN us x c p) ts a k)

    not_in_sound : (x : Token) (ts us : Tokens) (t u : At Token) (place : ℕ) (a f : Found) (k : Took (Spells n CAT) ts a) → IsWord words.Not t.tok → u.tok ≡ x → a.rest ≡ t ∷ u ∷ us → not_in_of last inside' x place a u us ≡ Ok f → Took (Spells n INN) ts f
    not_in_sound (tok.word words.In s) ts us t u place a f k h g w e = in_sound true (t ∷ u ∷ []) ts us place a f k w (t, u, refl, h, (s, g)) e
    not_in_sound (tok.word words.Between s) ts us t u place a f k h g w e = between_sound true (t ∷ u ∷ []) ts us place a f k w (t, u, refl, h, (s, g)) e
    not_in_sound _ ts us t u place a f k h g w e = absurd cc

    not_in_at_sound : (ts us : Tokens) (t : At Token) (place : ℕ) (a f : Found) (k : Took (Spells n CAT) ts a) → IsWord words.Not t.tok → a.rest ≡ t ∷ us → not_in_at last inside' place a us ≡ Ok f → Took (Spells n INN) ts f
    not_in_at_sound ts [] t place a f k h w e = absurd cc
    not_in_at_sound ts (u ∷ us) t place a f k h w e = not_in_sound u.tok ts us t u place a f k h refl w e

    inn_of_sound : (x : Token) (ts us : Tokens) (t : At Token) (a f : Found) (k : Took (Spells n CAT) ts a) → t.tok ≡ x → a.rest ≡ t ∷ us → inn_of last inside' x t.span.start a us ≡ Ok f → Took (Spells n INN) ts f
    inn_of_sound (tok.word words.In s) ts us t a f k h w e = in_sound false (t ∷ []) ts us t.span.start a f k w (t, refl, (s, h)) e
    inn_of_sound (tok.word words.Between s) ts us t a f k h w e = between_sound false (t ∷ []) ts us t.span.start a f k w (t, refl, (s, h)) e
    inn_of_sound (tok.word words.Not s) ts us t a f k h w e =
        let s1 = bind_ok (deeper t.span.start a.depth) (λ here. not_in_at last inside' t.span.start a us) f e in
        not_in_at_sound ts us t t.span.start a f k (s, h) w s1.2
    inn_of_sound _ ts us t a f k h w e = up_inn ts a f k e

    inn_more_sound : (ts us : Tokens) (a f : Found) (k : Took (Spells n CAT) ts a) → a.rest ≡ us → inn_more last inside' a us ≡ Ok f → Took (Spells n INN) ts f
    inn_more_sound ts [] a f k w e = up_inn ts a f k e
    inn_more_sound ts (t ∷ us) a f k w e = inn_of_sound t.tok ts us t a f k refl w e

    pub inn_sound : Sound (Spells n INN) (inn_at last inside')
    unfolding inn_at
    inn_sound ts f e =
        let s = bind_ok (cat_at last inside' ts) (λ a. inn_more last inside' a a.rest) f e in
        inn_more_sound ts s.0.rest s.0 f (cat_sound ts s.0 s.1) refl s.2

    pub cmp_sound : Sound (Spells n CMP) (cmp_at last inside')
    unfolding cmp_at
    cmp_sound ts f e =
        let s = bind_ok (inn_at last inside' ts) (λ a. cmp_more last inside' (next_op comparison_op a.rest) a) f e in
        of_op s.0 (inn_sound ts s.0 s.1) (next_op comparison_op s.0.rest) refl s.2
      where
        of_op : (a : Found) → Took (Spells n INN) ts a → (o : Option Found_op) → next_op comparison_op a.rest ≡ o → cmp_more last inside' o a ≡ Ok f → Took (Spells n CMP) ts f
        of_op a k None g h = let same : a ≡ f = cc in subst (Took (Spells n CMP) ts) same (took_up (Spells n INN) (Spells n CMP) (λ us x c p. only CMP us x c p) ts a k)
        of_op a k (Some o) g h =
            let s1 = bind_ok (deeper o.place a.depth) (λ here. inn_at last inside' o.rest >>= λ b. join o a b) f h in
            let s2 = bind_ok (inn_at last inside' o.rest) (λ b. join o a b) f s1.2 in
            joined_as (Spells n INN) (Spells n INN) (Spells n CMP) comparison_op (λ fs bs t o a b c d p h q l. comparison fs bs t o a b c d p h q l) ts a s2.0 f o k g (inn_sound o.rest s2.0 s2.1) s2.2

    is_node_sound : (o : Option Truth) (no' : Bool) (ws ts us : Tokens) (t : At Token) (a f : Found) (k : Took (Spells n CMP) ts a) → a.depth < MAX_DEPTH → truth_of t.tok ≡ o → a.rest ≡ ws ++ t ∷ us → IsIs no' ws → is_node last o no' a.tree (a.depth + 1) t us ≡ Ok f → Took (Spells n IS) ts f
    is_node_sound None no' ws ts us t a f k lt h w i e = absurd cc
    is_node_sound (Some truth) no' ws ts us t a f k lt h w i e =
        let made : Found = record { tree = Is a.tree no' truth; depth = a.depth + 1; rest = us } in
        let same : made ≡ f = cc in
        subst (Took (Spells n IS) ts) same (extend (Spells n CMP) (Spells n IS) ts (ws ++ t ∷ []) a made k (w ∙ sym (append_assoc ws (t ∷ []) us))
        (is k.front ws t no' truth a.tree a.depth k.spells i h lt))

    truth_test_sound : (no' : Bool) (ws ts us : Tokens) (a f : Found) (k : Took (Spells n CMP) ts a) → a.depth < MAX_DEPTH → a.rest ≡ ws ++ us → IsIs no' ws → truth_test last no' a.tree (a.depth + 1) us ≡ Ok f → Took (Spells n IS) ts f
    truth_test_sound no' ws ts [] a f k lt w i e = absurd cc
    truth_test_sound no' ws ts (t ∷ us) a f k lt w i e = is_node_sound (truth_of t.tok) no' ws ts us t a f k lt refl w i e

    after_is_sound : (ts us : Tokens) (t : At Token) (a f : Found) (k : Took (Spells n CMP) ts a) → a.depth < MAX_DEPTH → IsWord words.Is t.tok → a.rest ≡ t ∷ us → after_is last a.tree (a.depth + 1) us ≡ Ok f → Took (Spells n IS) ts f
    after_is_sound ts [] t a f k lt h w e = absurd cc
    after_is_sound ts (u ∷ us) t a f k lt h w e = of_test (is_not u.tok) refl e
      where
        of_test : (b : Bool) → is_not u.tok ≡ b → (let r : Result Found SqlFault = if b then truth_test last true a.tree (a.depth + 1) us else truth_test last false a.tree (a.depth + 1) (u ∷ us) in r ≡ Ok f) → Took (Spells n IS) ts f
        of_test true g q = truth_test_sound true (t ∷ u ∷ []) ts us a f k lt w (t, u, refl, h, is_not_true u.tok g) q
        of_test false g q = truth_test_sound false (t ∷ []) ts (u ∷ us) a f k lt w (t, refl, h) q

    is_from_sound : (ts us : Tokens) (t : At Token) (a f : Found) (k : Took (Spells n CMP) ts a) → IsWord words.Is t.tok → a.rest ≡ t ∷ us → is_from last t.span.start a us ≡ Ok f → Took (Spells n IS) ts f
    is_from_sound ts us t a f k h w e =
        let s = bind_ok (deeper t.span.start a.depth) (λ d. after_is last a.tree d us) f e in
        let d = deeper_ok t.span.start a.depth s.0 s.1 in
        after_is_sound ts us t a f k d.0 h w (subst (λ x. after_is last a.tree x us ≡ Ok f) d.1 s.2)

    up_is : (ts : Tokens) (a f : Found) → Took (Spells n CMP) ts a → (let r : Result Found SqlFault = Ok a in r ≡ Ok f) → Took (Spells n IS) ts f
    up_is ts a f k h = let same : a ≡ f = cc in subst (Took (Spells n IS) ts) same (took_up (Spells n CMP) (Spells n IS) (λ us x c p. only IS us x c p) ts a k)

    maybe_is_sound : (ts us : Tokens) (a f : Found) (k : Took (Spells n CMP) ts a) → a.rest ≡ us → maybe_is last a us ≡ Ok f → Took (Spells n IS) ts f
    maybe_is_sound ts [] a f k w e = up_is ts a f k e
    maybe_is_sound ts (t ∷ us) a f k w e = of_test (is_is t.tok) refl e
      where
        of_test : (b : Bool) → is_is t.tok ≡ b → (let r : Result Found SqlFault = if b then is_from last t.span.start a us else Ok a in r ≡ Ok f) → Took (Spells n IS) ts f
        of_test true g q = is_from_sound ts us t a f k (is_is_true t.tok g) w q
        of_test false g q = up_is ts a f k q

    is_sound : Sound (Spells n IS) (is_at last inside')
    unfolding is_at
    is_sound ts f e =
        let s = bind_ok (cmp_at last inside' ts) (λ a. maybe_is last a a.rest) f e in
        maybe_is_sound ts s.0.rest s.0 f (cmp_sound ts s.0 s.1) refl s.2

    negation_sound : (t : At Token) (ts : Tokens) (f : Found) → IsWord words.Not t.tok → negation_at last inside' t.span.start ts ≡ Ok f → Took (Spells n NOT) (t ∷ ts) f
    unfolding negation_at
    negation_sound t ts f h e =
        let s1 = bind_ok (inside' Negation t.span.start ts) (λ e. deeper t.span.start e.depth >>= λ d. Ok (record { tree = Not e.tree; depth = d; rest = e.rest })) f e in
        let s2 = bind_ok (deeper t.span.start s1.0.depth) (λ d. Ok (record { tree = Not s1.0.tree; depth = d; rest = s1.0.rest })) f s1.2 in
        let k = opens Negation t.span.start ts s1.0 s1.1 in
        behind (Spells k.0 NOT) (Spells n NOT) Not t ts s1.0 f t.span.start s2.0 k.2 s2.1 s2.2 (λ us x c p l. subst (λ m. Spells m NOT (t ∷ us) (Not x) (c + 1)) (sym k.1) (negation us t x c h p l))

    pub not_sound : Sound (Spells n NOT) (not_at last inside')
    not_sound [] f e = took_up (Spells n IS) (Spells n NOT) (λ us x c p. only NOT us x c p) [] f (is_sound [] f e)
    not_sound (t ∷ ts) f e = of_test (is_not t.tok) refl e
      where
        of_test : (b : Bool) → is_not t.tok ≡ b → (let r : Result Found SqlFault = if b then negation_at last inside' t.span.start ts else is_at last inside' (t ∷ ts) in r ≡ Ok f) → Took (Spells n NOT) (t ∷ ts) f
        of_test true g q = negation_sound t ts f (is_not_true t.tok g) q
        of_test false g q = took_up (Spells n IS) (Spells n NOT) (λ us x c p. only NOT us x c p) (t ∷ ts) f (is_sound (t ∷ ts) f q)

    pub and_sound : Sound (Spells n AND) (and_at last inside')
    unfolding and_at
    and_sound = chain_sound _ _ (Spells n NOT) (Spells n AND) not_sound (λ fs bs t o a b c d p h q l. chain AND fs bs t o a b c d p h q l) (λ ts e d p. only AND ts e d p)

    pub or_sound : Sound (Spells n OR) (or_at last inside')
    unfolding or_at
    or_sound = chain_sound _ _ (Spells n AND) (Spells n OR) and_sound (λ fs bs t o a b c d p h q l. chain OR fs bs t o a b c d p h q l) (λ ts e d p. only OR ts e d p)

    pub level_sound : (level : Opened) → Sound (Spells n (level_of level)) (at_level last inside' level)
    level_sound Whole = or_sound
    level_sound Negation = not_sound
    level_sound Unary = una_sound

-- what is read behind an opening is in the grammar, with room for one less
pub opens_sound : (last n : ℕ) → Opens last n (inside last n)
unfolding inside
opens_sound last zero level place ts f e = absurd cc
opens_sound last (suc n) level place ts f e = (n, refl, level_sound last n (inside last n) (opens_sound last n) level ts f e)

-- an expression that is read is in the grammar
pub expr_sound : (last : ℕ) (ts : Tokens) (f : Part × Tokens) → expr_at last ts ≡ Ok f → Took (Spells MAX_DEPTH OR) ts (as_found f)
expr_sound last ts f e = or_sound last MAX_DEPTH (inside last MAX_DEPTH) (opens_sound last MAX_DEPTH) ts (as_found f) (sym (expr_same last ts) ∙ ap seen e)

pub expr_begins : (last : ℕ) (ts : Tokens) (f : Part × Tokens) → expr_at last ts ≡ Ok f → Begins ts f
expr_begins last ts f e = let k = expr_sound last ts f e in record { front = k.front; whole = k.whole; spells = k.spells }
