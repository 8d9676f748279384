-- Each level stops where the tokens up to there say so.
use Rattle.std.proofs.Common.{◌≡◌, ℕ, zero, suc, ◌+◌, ◌<◌, Bool, true, false, List, [], ◌∷◌, ◌++◌, length, Option, Some, None, refl, sym, ap, ◌∙◌, subst}
use Rattle.std.specs.Prelude.{Result, Ok, Err, max}
use Rattle.iso_lexer.specs.declared.limits.TheConstants.{MAX_DEPTH}
use Rattle.sql_trees.specs.declared.fault.SqlFault.{SqlFault}
use Rattle.sql_expressions.specs.declared.level.Opened.{Opened}
use Rattle.sql_expressions.specs.declared.level.Opened.TheVariants.{Whole, Negation, Unary}
use Rattle.iso_lexer.specs.declared.token.At.{At}
use Rattle.iso_lexer.specs.declared.sql_token.SqlSign.TheVariants as signs
use Rattle.sql_trees.specs.declared.word.Word.TheVariants as words
use Rattle.sql_trees.specs.declared.expr.Operator.{Operator}
use Rattle.sql_trees.specs.declared.expr.Truth.{Truth}
use Rattle.sql_trees.specs.declared.expr.Truth.TheVariants as truths
use Rattle.sql_trees.specs.Tokens.{Token, Tokens, named}
use Rattle.sql_trees.specs.Tokens as tok
use Rattle.sql_trees.specs.Trees.{Tree, Null, Flag, Number, Text, Column, Plus, Not, Binary, Is, In, Between, undoubled}
use Rattle.sql_expressions.specs.Build.{negated}
use Rattle.sql_expressions.specs.Results.{◌>>=◌}
use Rattle.sql_expressions.specs.Readers.{expect, is_sign, place_of}
use Rattle.sql_expressions.specs.Reading.{Part, comparison_op, truth_of, expr_at}
use Rattle.sql_expressions.specs.Inner.Pieces.{Found, Found_list, Reader, leaf, deeper, join, next_op, is_and, is_not, is_is, column_at, name_at, parens_at, prim_of, prim_at, sign_at, una_of, una_at, mul_at, add_at, cat_at, in_at, between_at, not_in_of, not_in_at, inn_of, inn_more, inn_at, cmp_more, cmp_at, is_node, truth_test, after_is, maybe_is, is_at, negation_at, not_at, and_at, or_at, at_level, inside, list_at}
use Rattle.sql_expressions.specs.Grammar.{IsWord, OR, AND, NOT, IS, CMP, INN, CAT, ADD, MUL, UNA, PRIM, IsLeaf, number, text, column, yes, no, null, IsIn, IsBetween, IsIs}
use Rattle.sql_expressions.specs.Laws.{Spelled}
use Rattle.sql_expressions.proofs.Same.{seen as seen_as, expr_same, is_part, is_fault}
use Rattle.sql_expressions.proofs.Steps.{is_open_true, is_close_true, is_and_true, is_not_true, is_is_true}
use Rattle.sql_expressions.proofs.Levels.{level_of}
use Rattle.sql_expressions.proofs.Shapes.{Listed, only_spelled, comparison_spelled, negation_spelled, minus_spelled, plus_spelled, parens_spelled, leaf_spelled, is_spelled, between_spelled, contained_spelled, some_token, a_number, prim_number, una_number, mul_number, add_number, cat_number, not_number, and_number, or_number}
use Rattle.sql_expressions.proofs.Local.{put, Local, Nothing, One, Inhabited, at_end, at_token, called_at, stuck_end, stuck_at, behind, in_turn, gives, deeper_then, mapped, checked, deep_always, expect_local, switch_at, switch_end}
use Rattle.sql_expressions.proofs.Tails.{seen, Tail, no_tail, Reads, chain_local, list_local}
use Rattle.sql_expressions.proofs.Shapes.{one_listed}
use Rattle.sql_expressions.proofs.Shortens.{shortens}

module _ (last : ℕ) where
  a_close : Inhabited last (One last (is_sign signs.Close))
  a_close = (some_token (tok.sign signs.Close) ∷ [], (some_token (tok.sign signs.Close), refl, refl))

  an_and : Inhabited last (One last is_and)
  an_and = (some_token (tok.word words.And []) ∷ [], (some_token (tok.word words.And []), refl, refl))

  -- ---- IS

  -- behind IS or IS NOT
  abbrev AfterIs : Bool → Tokens → Type 0
  AfterIs neg xs = (fs ws : Tokens) → Spelled CMP fs → IsIs neg ws → Spelled IS (fs ++ (ws ++ xs))

  is_null : (neg : Bool) → AfterIs neg (some_token (tok.word words.Null []) ∷ [])
  is_null neg fs ws s i = is_spelled fs ws (some_token (tok.word words.Null [])) neg truths.Null s i refl

  is_node_local : (neg : Bool) (e : Tree) (d : ℕ) (t : At Token) (us : Tokens) (o : Option Truth) → truth_of t.tok ≡ o → Local last seen (AfterIs neg) (truth_test last neg e d) (t ∷ us)
  is_node_local neg e d t us None h = stuck_at last seen (AfterIs neg) (truth_test last neg e d) t us (some_token (tok.word words.Null []) ∷ [], is_null neg) (λ vs. ap (λ o. is_node last o neg e d t vs) h)
  is_node_local neg e d t us (Some w) h =
      behind last (Nothing last) (AfterIs neg) (λ vs. Ok (seen (Is e neg w, d) vs)) (truth_test last neg e d) t us (λ xs n fs ws s i. rw n (is_spelled fs ws t neg w s i h)) (λ vs. ap (λ o. is_node last o neg e d t vs) h)
      (gives last seen (Nothing last) (Is e neg w, d) us refl)

  truth_test_local : (neg : Bool) (e : Tree) (d : ℕ) (ts : Tokens) → Local last seen (AfterIs neg) (truth_test last neg e d) ts
  truth_test_local neg e d [] = stuck_end last seen (AfterIs neg) (truth_test last neg e d) (some_token (tok.word words.Null []) ∷ [], is_null neg) refl
  truth_test_local neg e d (t ∷ us) = is_node_local neg e d t us (truth_of t.tok) refl

  -- behind a first IS
  abbrev BehindIs : At Token → Tokens → Type 0
  BehindIs w xs = Tail CMP IS (w ∷ xs)

  is_up : (w : At Token) → IsWord words.Is w.tok → (xs : Tokens) → AfterIs false xs → BehindIs w xs
  is_up w h xs m = λ fs s. m fs (w ∷ []) s (w, refl, h)

  is_not_up : (w t : At Token) → IsWord words.Is w.tok → IsWord words.Not t.tok → (xs : Tokens) → AfterIs true xs → BehindIs w (t ∷ xs)
  is_not_up w t h g xs m = λ fs s. m fs (w ∷ t ∷ []) s (w, t, refl, h, g)

  after_is_token : (w : At Token) (e : Tree) (d : ℕ) (t : At Token) (us : Tokens) (b : Bool) → IsWord words.Is w.tok → is_not t.tok ≡ b → Local last seen (BehindIs w) (after_is last e d) (t ∷ us)
  after_is_token w e d t us true h g = behind last (AfterIs true) (BehindIs w) (truth_test last true e d) (after_is last e d) t us (is_not_up w t h (is_not_true t.tok g)) (λ vs. rw g refl) (truth_test_local true e d us)
  after_is_token w e d t us false h g = switch_at last (AfterIs false) (BehindIs w) (truth_test last false e d) (after_is last e d) t us (is_up w h) (λ vs. rw g refl) (truth_test_local false e d (t ∷ us))

  after_is_local : (w : At Token) (e : Tree) (d : ℕ) (ts : Tokens) → IsWord words.Is w.tok → Local last seen (BehindIs w) (after_is last e d) ts
  after_is_local w e d [] h = switch_end last (AfterIs false) (BehindIs w) (truth_test last false e d) (after_is last e d) (is_up w h) refl (truth_test_local false e d [])
  after_is_local w e d (t ∷ us) h = after_is_token w e d t us (is_not t.tok) h refl

  maybe_is_token : (v : Tree × ℕ) (t : At Token) (us : Tokens) (b : Bool) → is_is t.tok ≡ b → Local last seen (Tail CMP IS) (λ r. maybe_is last (seen v r) r) (t ∷ us)
  maybe_is_token v t us true h =
      behind last (BehindIs t) (Tail CMP IS) (λ vs. deeper t.span.start v.1 >>= λ x. after_is last v.0 x vs) (λ r. maybe_is last (seen v r) r) t us (λ xs m. m) (λ vs. rw h refl)
      (deeper_then last seen (BehindIs t) t.span.start v.1 (λ x vs. after_is last v.0 x vs) _ us (λ others. refl) (after_is_local t v.0 (v.1 + 1) us (is_is_true t.tok h)))
  maybe_is_token v t us false h = at_token last seen (Tail CMP IS) (λ r. maybe_is last (seen v r) r) (Ok v) t us (λ vs. rw h refl) (no_tail IS)

  maybe_is_local : (v : Tree × ℕ) (ts : Tokens) → Local last seen (Tail CMP IS) (λ r. maybe_is last (seen v r) r) ts
  maybe_is_local v [] = at_end last seen (Tail CMP IS) (λ r. maybe_is last (seen v r) r) (Ok v) refl (no_tail IS)
  maybe_is_local v (t ∷ us) = maybe_is_token v t us (is_is t.tok) refl

  -- ---- names

  one_leaf : (t : At Token) (e : Tree) → IsLeaf t.tok e → (xs : Tokens) → Nothing last xs → Spelled PRIM (t ∷ xs)
  one_leaf t e p xs n = rw n (leaf_spelled t e p)

  -- a column, or a call behind its name
  column_token : (p : Reader) (t : At Token) (us : Tokens) (n : List ℕ) → IsLeaf t.tok (Column n) → named t.tok ≡ Some n → ((vs : Tokens) → p (t ∷ vs) ≡ column_at last t n vs) → Local last seen (Spelled PRIM) p (t ∷ us)
  column_token p t [] n is h same = behind last (Nothing last) (Spelled PRIM) (column_at last t n) p t [] (one_leaf t (Column n) is) same (at_end last seen (Nothing last) (column_at last t n) (Ok (Column n, 0)) refl refl)
  column_token p t (u ∷ us) n is h same = of_test (is_sign signs.Open u.tok) refl
    where
      of_test : (b : Bool) → is_sign signs.Open u.tok ≡ b → Local last seen (Spelled PRIM) p (t ∷ u ∷ us)
      of_test true o = called_at last seen (Spelled PRIM) p t u us n h (is_open_true u.tok o) (leaf_spelled t (Column n) is) (λ vs. same (u ∷ vs) ∙ rw o refl)
      of_test false o = behind last (Nothing last) (Spelled PRIM) (column_at last t n) p t (u ∷ us) (one_leaf t (Column n) is) same (at_token last seen (Nothing last) (column_at last t n) (Ok (Column n, 0)) u us (λ vs. rw o refl) refl)

  name_token : (p : Reader) (t : At Token) (us : Tokens) (o : Option (List ℕ)) → named t.tok ≡ o → ((vs : Tokens) → p (t ∷ vs) ≡ name_at last o t vs) → Local last seen (Spelled PRIM) p (t ∷ us)
  name_token p t us None h same = stuck_at last seen (Spelled PRIM) p t us (a_number, prim_number) same
  name_token p t us (Some n) h same = column_token p t us n (column t.tok n h) h same

  leaf_token : (p : Reader) (t : At Token) (us : Tokens) (e : Tree) → IsLeaf t.tok e → ((vs : Tokens) → p (t ∷ vs) ≡ leaf e vs) → Local last seen (Spelled PRIM) p (t ∷ us)
  leaf_token p t us e is same = behind last (Nothing last) (Spelled PRIM) (leaf e) p t us (one_leaf t e is) same (gives last seen (Nothing last) (e, 0) us refl)

  -- ---- openings

  module _ (inside' : Opened → ℕ → Reader) (opens : (level : Opened) (place : ℕ) → Reads last (level_of level) (inside' level place)) (shorter : (place : ℕ) (ts : Tokens) (f : Found) → inside' Whole place ts ≡ Ok f → length f.rest < length ts) where
    parens_local : (t : At Token) (ts : Tokens) → t.tok ≡ tok.sign signs.Open → Local last seen (λ xs. Spelled PRIM (t ∷ xs)) (parens_at last inside' t.span.start) ts
    unfolding parens_at
    parens_local t ts h = in_turn last (Spelled OR) (One last (is_sign signs.Close)) (λ xs. Spelled PRIM (t ∷ xs)) (inside' Whole t.span.start) (λ e. deeper t.span.start e.depth >>= λ d. expect last (is_sign signs.Close) e.rest >>= λ rest. Ok (record { tree = e.tree; depth = d; rest = rest })) ts a_close
        (λ xs ys s c. rw c.1 (parens_spelled xs t c.0 h s (is_close_true c.0.tok c.2))) (opens Whole t.span.start ts)
        (λ v is. deeper_then last seen (One last (is_sign signs.Close)) t.span.start v.1 (λ d r. expect last (is_sign signs.Close) r >>= λ rest. Ok (seen (v.0, d) rest)) _ _ (λ others. refl)
        (mapped last seen (One last (is_sign signs.Close)) (expect last (is_sign signs.Close)) (λ rest. Ok (seen (v.0, v.1 + 1) rest)) (λ u. (v.0, v.1 + 1)) _ (λ u r. refl) (expect_local last (is_sign signs.Close) a_close _)))

    prim_token : (x : Token) (t : At Token) (us : Tokens) → t.tok ≡ x → Local last seen (Spelled PRIM) (prim_at last inside') (t ∷ us)
    prim_token (tok.number n) t us h = leaf_token (prim_at last inside') t us (Number false n) (subst (λ y. IsLeaf y (Number false n)) (sym h) (number n)) (λ vs. ap (λ y. prim_of last inside' y t vs) h)
    prim_token (tok.string s) t us h = leaf_token (prim_at last inside') t us (Text (undoubled s)) (subst (λ y. IsLeaf y (Text (undoubled s))) (sym h) (text s)) (λ vs. ap (λ y. prim_of last inside' y t vs) h)
    prim_token (tok.word words.True s) t us h = leaf_token (prim_at last inside') t us (Flag true) (subst (λ y. IsLeaf y (Flag true)) (sym h) (yes s)) (λ vs. ap (λ y. prim_of last inside' y t vs) h)
    prim_token (tok.word words.False s) t us h = leaf_token (prim_at last inside') t us (Flag false) (subst (λ y. IsLeaf y (Flag false)) (sym h) (no s)) (λ vs. ap (λ y. prim_of last inside' y t vs) h)
    prim_token (tok.word words.Null s) t us h = leaf_token (prim_at last inside') t us Null (subst (λ y. IsLeaf y Null) (sym h) (null s)) (λ vs. ap (λ y. prim_of last inside' y t vs) h)
    prim_token (tok.sign signs.Open) t us h = behind last (λ xs. Spelled PRIM (t ∷ xs)) (Spelled PRIM) (parens_at last inside' t.span.start) (prim_at last inside') t us (λ xs s. s) (λ vs. ap (λ y. prim_of last inside' y t vs) h) (parens_local t us h)
    prim_token x t us h = name_token (prim_at last inside') t us (named x) (ap named h) (λ vs. ap (λ y. prim_of last inside' y t vs) h)

    prim_local : Reads last PRIM (prim_at last inside')
    prim_local [] = stuck_end last seen (Spelled PRIM) (prim_at last inside') (a_number, prim_number) refl
    prim_local (t ∷ us) = prim_token t.tok t us refl

    sign_local : (make : Tree → Tree) (t : At Token) (us : Tokens) (x : Token) → t.tok ≡ x → ((vs : Tokens) → una_of last inside' x t vs ≡ sign_at last inside' make t.span.start vs) → ((xs : Tokens) → Spelled UNA xs → Spelled UNA (t ∷ xs)) → Local last seen (Spelled UNA) (una_at last inside') (t ∷ us)
    unfolding sign_at
    sign_local make t us x h same up = behind last (Spelled UNA) (Spelled UNA) (λ vs. inside' Unary t.span.start vs >>= λ e. deeper t.span.start e.depth >>= λ d. Ok (record { tree = make e.tree; depth = d; rest = e.rest })) (una_at last inside') t us up (λ vs. ap (λ y. una_of last inside' y t vs) h ∙ same vs)
        (checked last seen (Spelled UNA) (inside' Unary t.span.start) (λ e. deeper t.span.start e.depth >>= λ d. Ok (record { tree = make e.tree; depth = d; rest = e.rest })) t.span.start (λ v. v.1) (λ v d. (make v.0, d)) us (λ v r. refl) (opens Unary t.span.start us))

    una_token : (x : Token) (t : At Token) (us : Tokens) → t.tok ≡ x → Local last seen (Spelled UNA) (una_at last inside') (t ∷ us)
    una_token (tok.sign signs.Minus) t us h = sign_local negated t us (tok.sign signs.Minus) h (λ vs. refl) (λ xs s. minus_spelled xs t h s)
    una_token (tok.sign signs.Plus) t us h = sign_local Plus t us (tok.sign signs.Plus) h (λ vs. refl) (λ xs s. plus_spelled xs t h s)
    una_token x t us h = switch_at last (Spelled PRIM) (Spelled UNA) (prim_at last inside') (una_at last inside') t us (λ xs s. only_spelled UNA xs s) (λ vs. ap (λ y. una_of last inside' y t vs) h) (prim_local (t ∷ us))

    una_local : Reads last UNA (una_at last inside')
    una_local [] = switch_end last (Spelled PRIM) (Spelled UNA) (prim_at last inside') (una_at last inside') (λ xs s. only_spelled UNA xs s) refl (prim_local [])
    una_local (t ∷ us) = una_token t.tok t us refl

    mul_local : Reads last MUL (mul_at last inside')
    unfolding mul_at
    mul_local ts = chain_local last MUL (una_at last inside') una_local una_number ts

    add_local : Reads last ADD (add_at last inside')
    unfolding add_at
    add_local ts = chain_local last ADD (mul_at last inside') mul_local mul_number ts

    cat_local : Reads last CAT (cat_at last inside')
    unfolding cat_at
    cat_local ts = chain_local last CAT (add_at last inside') add_local add_number ts

    -- ---- IN

    -- behind IN or NOT IN
    abbrev AfterIn : Bool → Tokens → Type 0
    AfterIn neg xs = (fs ws : Tokens) → Spelled CAT fs → IsIn neg ws → Spelled INN (fs ++ (ws ++ xs))

    a_list : Tokens
    a_list = some_token (tok.sign signs.Open) ∷ (a_number ++ some_token (tok.sign signs.Close) ∷ [])

    in_list : (neg : Bool) → AfterIn neg a_list
    unfolding a_list
    in_list neg fs ws s i = contained_spelled fs ws a_number (some_token (tok.sign signs.Open)) (some_token (tok.sign signs.Close)) neg s i refl (one_listed a_number or_number) refl

    abbrev in_end : Bool → ℕ → Tree → ℕ → Found_list → Result Found SqlFault
    in_end neg place e d items = deeper place (max d items.depth) >>= λ x. expect last (is_sign signs.Close) items.rest >>= λ rest. Ok (seen (In e neg items.trees, x) rest)

    abbrev in_body : Bool → ℕ → Tree → ℕ → Tokens → Result Found SqlFault
    in_body neg place e d ts = expect last (is_sign signs.Open) ts >>= λ behind. list_at (inside' Whole (place_of last ts)) behind >>= in_end neg place e d

    in_is : (neg : Bool) (place : ℕ) (e : Tree) (d : ℕ) (ts : Tokens) → in_at last inside' neg place e d ts ≡ (deeper place d >>= λ here. in_body neg place e d ts)
    unfolding in_at
    in_is neg place e d ts = refl

    in_token : (neg : Bool) (place : ℕ) (e : Tree) (d : ℕ) (t : At Token) (us : Tokens) (b : Bool) → is_sign signs.Open t.tok ≡ b → Local last seen (AfterIn neg) (in_body neg place e d) (t ∷ us)
    in_token neg place e d t us false h = stuck_at last seen (AfterIn neg) (in_body neg place e d) t us (a_list, in_list neg) (λ vs. rw h refl)
    in_token neg place e d t us true h =
        behind last (λ xs. AfterIn neg (t ∷ xs)) (AfterIn neg) (λ vs. list_at (inside' Whole t.span.start) vs >>= in_end neg place e d) (in_body neg place e d) t us (λ xs m. m) (λ vs. rw h refl)
        (in_turn last Listed (One last (is_sign signs.Close)) (λ xs. AfterIn neg (t ∷ xs)) (list_at (inside' Whole t.span.start)) (in_end neg place e d) us a_close
        (λ xs ys g c fs ws s i. rw c.1 (contained_spelled fs ws xs t c.0 neg s i (is_open_true t.tok h) g (is_close_true c.0.tok c.2)))
        (list_local last (inside' Whole t.span.start) (opens Whole t.span.start) (shorter t.span.start) us)
        (λ v is. deeper_then last seen (One last (is_sign signs.Close)) place (max d v.1) (λ x r. expect last (is_sign signs.Close) r >>= λ rest. Ok (seen (In e neg v.0, x) rest)) _ _ (λ others. refl)
        (mapped last seen (One last (is_sign signs.Close)) (expect last (is_sign signs.Close)) (λ rest. Ok (seen (In e neg v.0, max d v.1 + 1) rest)) (λ u. (In e neg v.0, max d v.1 + 1)) _ (λ u r. refl) (expect_local last (is_sign signs.Close) a_close _))))

    in_body_local : (neg : Bool) (place : ℕ) (e : Tree) (d : ℕ) (ts : Tokens) → Local last seen (AfterIn neg) (in_body neg place e d) ts
    in_body_local neg place e d [] = stuck_end last seen (AfterIn neg) (in_body neg place e d) (a_list, in_list neg) refl
    in_body_local neg place e d (t ∷ us) = in_token neg place e d t us (is_sign signs.Open t.tok) refl

    in_local : (neg : Bool) (place : ℕ) (e : Tree) (d : ℕ) (ts : Tokens) → Local last seen (AfterIn neg) (in_at last inside' neg place e d) ts
    in_local neg place e d ts = deeper_then last seen (AfterIn neg) place d (λ x r. in_body neg place e d r) (in_at last inside' neg place e d) ts (in_is neg place e d) (in_body_local neg place e d ts)

    -- ---- BETWEEN

    -- behind BETWEEN or NOT BETWEEN
    abbrev AfterBetween : Bool → Tokens → Type 0
    AfterBetween neg xs = (fs ws : Tokens) → Spelled CAT fs → IsBetween neg ws → Spelled INN (fs ++ (ws ++ xs))

    -- AND and the upper end
    abbrev AndHigh : Tokens → Type 0
    AndHigh xs = (t : At Token) × (vs : Tokens) × (xs ≡ t ∷ vs) × IsWord words.And t.tok × Spelled CAT vs

    and_number' : Inhabited last AndHigh
    and_number' = (some_token (tok.word words.And []) ∷ a_number, (some_token (tok.word words.And []), a_number, refl, ([], refl), cat_number))

    abbrev high_end : Bool → ℕ → Tree → ℕ → Found → Found → Result Found SqlFault
    high_end neg place e d low high = deeper place (max d (max low.depth high.depth)) >>= λ x. Ok (record { tree = Between e neg low.tree high.tree; depth = x; rest = high.rest })

    between_is : (neg : Bool) (place : ℕ) (e : Tree) (d : ℕ) (ts : Tokens) → between_at last inside' neg place e d ts ≡ (deeper place d >>= λ here. cat_at last inside' ts >>= λ low. deeper place (max d low.depth) >>= λ there. expect last is_and low.rest >>= λ b. cat_at last inside' b >>= high_end neg place e d low)
    unfolding between_at
    between_is neg place e d ts = refl

    high_local : (neg : Bool) (place : ℕ) (e : Tree) (d : ℕ) (v : Tree × ℕ) (ts : Tokens) → Local last seen AndHigh (λ r. expect last is_and r >>= λ b. cat_at last inside' b >>= high_end neg place e d (seen v [])) ts
    high_local neg place e d v ts = in_turn last (One last is_and) (Spelled CAT) AndHigh (expect last is_and) (λ b. cat_at last inside' b >>= high_end neg place e d (seen v [])) ts (a_number, cat_number)
        (λ xs ys c s. (c.0, ys, ap (λ r. r ++ ys) c.1, is_and_true c.0.tok c.2, s)) (expect_local last is_and an_and ts)
        (λ u is. checked last seen (Spelled CAT) (cat_at last inside') (high_end neg place e d (seen v [])) place (λ w. max d (max v.1 w.1)) (λ w x. (Between e neg v.0 w.0, x)) _ (λ w r. refl) (cat_local _))

    between_local : (neg : Bool) (place : ℕ) (e : Tree) (d : ℕ) (ts : Tokens) → Local last seen (AfterBetween neg) (between_at last inside' neg place e d) ts
    between_local neg place e d ts = deeper_then last seen (AfterBetween neg) place d (λ x r. cat_at last inside' r >>= λ low. deeper place (max d low.depth) >>= λ there. expect last is_and low.rest >>= λ b. cat_at last inside' b >>= high_end neg place e d low) (between_at last inside' neg place e d) ts (between_is neg place e d)
        (in_turn last (Spelled CAT) AndHigh (AfterBetween neg) (cat_at last inside') (λ low. deeper place (max d low.depth) >>= λ there. expect last is_and low.rest >>= λ b. cat_at last inside' b >>= high_end neg place e d low) ts and_number'
        (λ xs ys s a fs ws p i. rw a.2 (between_spelled fs ws xs a.1 a.0 neg p i s a.3 a.4)) (cat_local ts)
        (λ v is. deeper_then last seen AndHigh place (max d v.1) (λ x r. expect last is_and r >>= λ b. cat_at last inside' b >>= high_end neg place e d (seen v [])) _ _ (λ others. refl) (high_local neg place e d v _)))

    -- ---- IN and BETWEEN, with NOT or without

    -- behind a first NOT
    abbrev BehindNot : At Token → Tokens → Type 0
    BehindNot w xs = Tail CAT INN (w ∷ xs)

    not_in_list : (w : At Token) → IsWord words.Not w.tok → BehindNot w (some_token (tok.word words.In []) ∷ a_list)
    not_in_list w h fs s = in_list true fs (w ∷ some_token (tok.word words.In []) ∷ []) s (w, some_token (tok.word words.In []), refl, h, ([], refl))

    not_in_token : (x : Token) (w : At Token) (v : Tree × ℕ) (t : At Token) (us : Tokens) → IsWord words.Not w.tok → t.tok ≡ x → Local last seen (BehindNot w) (λ r. not_in_at last inside' w.span.start (seen v []) r) (t ∷ us)
    not_in_token (tok.word words.In s) w v t us h g = behind last (AfterIn true) (BehindNot w) (in_at last inside' true w.span.start v.0 v.1) (λ r. not_in_at last inside' w.span.start (seen v []) r) t us (λ xs m fs p. m fs (w ∷ t ∷ []) p (w, t, refl, h, (s, g))) (λ vs. ap (λ y. not_in_of last inside' y w.span.start (seen v []) t vs) g) (in_local true w.span.start v.0 v.1 us)
    not_in_token (tok.word words.Between s) w v t us h g = behind last (AfterBetween true) (BehindNot w) (between_at last inside' true w.span.start v.0 v.1) (λ r. not_in_at last inside' w.span.start (seen v []) r) t us (λ xs m fs p. m fs (w ∷ t ∷ []) p (w, t, refl, h, (s, g))) (λ vs. ap (λ y. not_in_of last inside' y w.span.start (seen v []) t vs) g) (between_local true w.span.start v.0 v.1 us)
    not_in_token x w v t us h g = stuck_at last seen (BehindNot w) (λ r. not_in_at last inside' w.span.start (seen v []) r) t us (some_token (tok.word words.In []) ∷ a_list, not_in_list w h) (λ vs. ap (λ y. not_in_of last inside' y w.span.start (seen v []) t vs) g)

    not_in_local : (w : At Token) (v : Tree × ℕ) (ts : Tokens) → IsWord words.Not w.tok → Local last seen (BehindNot w) (λ r. not_in_at last inside' w.span.start (seen v []) r) ts
    not_in_local w v [] h = stuck_end last seen (BehindNot w) (λ r. not_in_at last inside' w.span.start (seen v []) r) (some_token (tok.word words.In []) ∷ a_list, not_in_list w h) refl
    not_in_local w v (t ∷ us) h = not_in_token t.tok w v t us h refl

    -- what is found doesn't ask for the tokens behind the left side
    not_in_same : (place : ℕ) (v : Tree × ℕ) (rs ts : Tokens) → not_in_at last inside' place (seen v rs) ts ≡ not_in_at last inside' place (seen v []) ts
    not_in_same place v rs [] = refl
    not_in_same place v rs (t ∷ ts) = of_tok t.tok
      where
        of_tok : (x : Token) → not_in_of last inside' x place (seen v rs) t ts ≡ not_in_of last inside' x place (seen v []) t ts
        of_tok (tok.word words.In s) = refl
        of_tok (tok.word words.Between s) = refl
        of_tok x = refl

    inn_token : (x : Token) (v : Tree × ℕ) (t : At Token) (us : Tokens) → t.tok ≡ x → Local last seen (Tail CAT INN) (λ r. inn_more last inside' (seen v r) r) (t ∷ us)
    inn_token (tok.word words.In s) v t us h = behind last (AfterIn false) (Tail CAT INN) (in_at last inside' false t.span.start v.0 v.1) (λ r. inn_more last inside' (seen v r) r) t us (λ xs m fs p. m fs (t ∷ []) p (t, refl, (s, h))) (λ vs. ap (λ y. inn_of last inside' y t.span.start (seen v (t ∷ vs)) vs) h) (in_local false t.span.start v.0 v.1 us)
    inn_token (tok.word words.Between s) v t us h = behind last (AfterBetween false) (Tail CAT INN) (between_at last inside' false t.span.start v.0 v.1) (λ r. inn_more last inside' (seen v r) r) t us (λ xs m fs p. m fs (t ∷ []) p (t, refl, (s, h))) (λ vs. ap (λ y. inn_of last inside' y t.span.start (seen v (t ∷ vs)) vs) h) (between_local false t.span.start v.0 v.1 us)
    inn_token (tok.word words.Not s) v t us h =
        behind last (BehindNot t) (Tail CAT INN) (λ vs. deeper t.span.start v.1 >>= λ here. not_in_at last inside' t.span.start (seen v []) vs) (λ r. inn_more last inside' (seen v r) r) t us (λ xs m. m) (λ vs. ap (λ y. inn_of last inside' y t.span.start (seen v (t ∷ vs)) vs) h ∙ ap (λ (r : Result Found SqlFault). deeper t.span.start v.1 >>= λ here. r) (not_in_same t.span.start v (t ∷ vs) vs))
        (deeper_then last seen (BehindNot t) t.span.start v.1 (λ x vs. not_in_at last inside' t.span.start (seen v []) vs) _ us (λ others. refl) (not_in_local t v us (s, h)))
    inn_token x v t us h = at_token last seen (Tail CAT INN) (λ r. inn_more last inside' (seen v r) r) (Ok v) t us (λ vs. ap (λ y. inn_of last inside' y t.span.start (seen v (t ∷ vs)) vs) h) (no_tail INN)

    inn_more_local : (v : Tree × ℕ) (ts : Tokens) → Local last seen (Tail CAT INN) (λ r. inn_more last inside' (seen v r) r) ts
    inn_more_local v [] = at_end last seen (Tail CAT INN) (λ r. inn_more last inside' (seen v r) r) (Ok v) refl (no_tail INN)
    inn_more_local v (t ∷ us) = inn_token t.tok v t us refl

    inn_local : Reads last INN (inn_at last inside')
    unfolding inn_at
    inn_local ts = in_turn last (Spelled CAT) (Tail CAT INN) (Spelled INN) (cat_at last inside') (λ a. inn_more last inside' a a.rest) ts ([], no_tail INN) (λ xs ys s m. m xs s) (cat_local ts) (λ v is. inn_more_local v _)

    -- ---- comparisons

    cmp_token : (v : Tree × ℕ) (t : At Token) (us : Tokens) (m : Option Operator) → comparison_op t.tok ≡ m → Local last seen (Tail INN CMP) (λ r. cmp_more last inside' (next_op comparison_op r) (seen v r)) (t ∷ us)
    cmp_token v t us None h = at_token last seen (Tail INN CMP) (λ r. cmp_more last inside' (next_op comparison_op r) (seen v r)) (Ok v) t us (λ vs. rw h refl) (no_tail CMP)
    cmp_token v t us (Some o) h =
        behind last (Spelled INN) (Tail INN CMP) (λ vs. deeper t.span.start v.1 >>= λ here. inn_at last inside' vs >>= λ b. join (record { op = o; place = t.span.start; rest = [] }) (seen v []) b) (λ r. cmp_more last inside' (next_op comparison_op r) (seen v r)) t us (λ xs s fs p. comparison_spelled fs xs t o p h s) (λ vs. rw h refl)
        (deeper_then last seen (Spelled INN) t.span.start v.1 (λ x vs. inn_at last inside' vs >>= λ b. join (record { op = o; place = t.span.start; rest = [] }) (seen v []) b) _ us (λ others. refl)
        (checked last seen (Spelled INN) (inn_at last inside') (λ b. join (record { op = o; place = t.span.start; rest = [] }) (seen v []) b) t.span.start (λ w. max v.1 w.1) (λ w x. (Binary o v.0 w.0, x)) us (λ w r. refl) (inn_local us)))

    cmp_more_local : (v : Tree × ℕ) (ts : Tokens) → Local last seen (Tail INN CMP) (λ r. cmp_more last inside' (next_op comparison_op r) (seen v r)) ts
    cmp_more_local v [] = at_end last seen (Tail INN CMP) (λ r. cmp_more last inside' (next_op comparison_op r) (seen v r)) (Ok v) refl (no_tail CMP)
    cmp_more_local v (t ∷ us) = cmp_token v t us (comparison_op t.tok) refl

    cmp_local : Reads last CMP (cmp_at last inside')
    unfolding cmp_at
    cmp_local ts = in_turn last (Spelled INN) (Tail INN CMP) (Spelled CMP) (inn_at last inside') (λ a. cmp_more last inside' (next_op comparison_op a.rest) a) ts ([], no_tail CMP) (λ xs ys s m. m xs s) (inn_local ts) (λ v is. cmp_more_local v _)

    is_local : Reads last IS (is_at last inside')
    unfolding is_at
    is_local ts = in_turn last (Spelled CMP) (Tail CMP IS) (Spelled IS) (cmp_at last inside') (λ a. maybe_is last a a.rest) ts ([], no_tail IS) (λ xs ys s m. m xs s) (cmp_local ts) (λ v is. maybe_is_local v _)

    -- ---- NOT, AND, OR

    not_token : (t : At Token) (us : Tokens) (b : Bool) → is_not t.tok ≡ b → Local last seen (Spelled NOT) (not_at last inside') (t ∷ us)
    unfolding negation_at
    not_token t us true h = behind last (Spelled NOT) (Spelled NOT) (λ vs. inside' Negation t.span.start vs >>= λ e. deeper t.span.start e.depth >>= λ d. Ok (record { tree = Not e.tree; depth = d; rest = e.rest })) (not_at last inside') t us (λ xs s. negation_spelled xs t (is_not_true t.tok h) s) (λ vs. rw h refl)
        (checked last seen (Spelled NOT) (inside' Negation t.span.start) (λ e. deeper t.span.start e.depth >>= λ d. Ok (record { tree = Not e.tree; depth = d; rest = e.rest })) t.span.start (λ v. v.1) (λ v d. (Not v.0, d)) us (λ v r. refl) (opens Negation t.span.start us))
    not_token t us false h = switch_at last (Spelled IS) (Spelled NOT) (is_at last inside') (not_at last inside') t us (λ xs s. only_spelled NOT xs s) (λ vs. rw h refl) (is_local (t ∷ us))

    not_local : Reads last NOT (not_at last inside')
    not_local [] = switch_end last (Spelled IS) (Spelled NOT) (is_at last inside') (not_at last inside') (λ xs s. only_spelled NOT xs s) refl (is_local [])
    not_local (t ∷ us) = not_token t us (is_not t.tok) refl

    and_local : Reads last AND (and_at last inside')
    unfolding and_at
    and_local ts = chain_local last AND (not_at last inside') not_local not_number ts

    pub or_local : Reads last OR (or_at last inside')
    unfolding or_at
    or_local ts = chain_local last OR (and_at last inside') and_local and_number ts

    pub level_local : (level : Opened) → Reads last (level_of level) (at_level last inside' level)
    level_local Whole = or_local
    level_local Negation = not_local
    level_local Unary = una_local

-- something is behind each opening
level_number : (level : Opened) → (ts : Tokens) × Spelled (level_of level) ts
level_number Whole = (a_number, or_number)
level_number Negation = (a_number, not_number)
level_number Unary = (a_number, una_number)

-- behind an opening
pub inside_local : (last n : ℕ) (level : Opened) (place : ℕ) → Reads last (level_of level) (inside last n level place)
unfolding inside
inside_local last zero level place ts = deep_always last seen (Spelled (level_of level)) (inside last zero level place) place ts (level_number level) (λ others. refl)
inside_local last (suc n) level place ts = level_local last (inside last n) (λ l p us. inside_local last n l p us) (λ p us f e. shortens last n p Whole us f e) level ts

-- a part that was read, in front of the tokens that are left
abbrev pub parted : Tree × ℕ → Tokens → Part × Tokens
parted v ts = (record { tree = v.0; depth = v.1 }, ts)

parted_same : (r : Result (Part × Tokens) SqlFault) (out : Result (Tree × ℕ) SqlFault) (others : Tokens) → seen_as r ≡ put seen out others → r ≡ put parted out others
parted_same r (Ok v) others h = is_part r (seen v others) h
parted_same r (Err e) others h = is_fault r e h

pub expr_local : (last : ℕ) (ts : Tokens) → Local last parted (Spelled OR) (expr_at last) ts
expr_local last ts =
    let l = or_local last (inside last MAX_DEPTH) (inside_local last MAX_DEPTH) (λ p us f e. shortens last MAX_DEPTH p Whole us f e) ts in
    record {
      out = l.out;
      front = l.front;
      rest = l.rest;
      split = l.split;
      local = λ others h. parted_same (expr_at last (l.front ++ others)) l.out others (expr_same last (l.front ++ others) ∙ l.local others h);
      means = l.means;
    }
