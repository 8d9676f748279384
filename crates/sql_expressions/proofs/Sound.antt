-- What is read is in the grammar, in front of what is left.
use Rattle.std.proofs.Common.{◌≡◌, ℕ, zero, suc, ◌+◌, ◌<◌, ◌∷◌, ◌++◌, length, Option, Some, None, refl, sym, ap, ◌∙◌, subst, arith, append_assoc, length-append}
use Rattle.std.specs.Prelude.{Ok, max}
use Rattle.iso_lexer.specs.declared.limits.TheConstants.{MAX_DEPTH}
use Rattle.iso_lexer.specs.declared.token.At.{At}
use Rattle.sql_trees.specs.Tokens.{Token, Tokens}
use Rattle.sql_trees.specs.Tokens as tok
use Rattle.iso_lexer.specs.declared.sql_token.SqlSign.TheVariants as signs
use Rattle.sql_trees.specs.declared.expr.Operator.{Operator}
use Rattle.sql_trees.specs.Trees.{Tree, Trees, Binary, more, none}
use Rattle.sql_expressions.specs.Build.{push}
use Rattle.sql_expressions.specs.Results.{◌>>=◌}
use Rattle.sql_expressions.specs.Readers.{after, is_sign}
use Rattle.sql_expressions.specs.Inner.Pieces.{Found, Found_op, Found_list, Reader, deeper, join, next_op, chain_more, chain_end, chain_turn, chain, list_more, list_turn, list_at}
use Rattle.sql_expressions.proofs.Steps.{bind_ok, deeper_ok, next_op_ok, after_comma_ok}

abbrev pub Spelling : Type 1
Spelling = Tokens → Tree → ℕ → Type 0

-- the tokens begin with a spelling of what was found, and the rest is left
pub record Took (P : Tokens → Tree → ℕ → Type 0) (ts : Tokens) (f : Found) : Type 0 where
  pub front : Tokens
  pub whole : ts ≡ front ++ f.rest
  pub some : 0 < length front
  pub spells : P front f.tree f.depth

abbrev pub Sound : (Tokens → Tree → ℕ → Type 0) → Reader → Type 0
Sound P read = (ts : Tokens) (f : Found) → read ts ≡ Ok f → Took P ts f

pub took_up : (P Q : Tokens → Tree → ℕ → Type 0) → ((ts : Tokens) (e : Tree) (d : ℕ) → P ts e d → Q ts e d) → (ts : Tokens) (f : Found) → Took P ts f → Took Q ts f
took_up P Q up ts f k = record { front = k.front; whole = k.whole; some = k.some; spells = up _ _ _ k.spells }

-- an operator's node
pub joined_as : (L P Q : Tokens → Tree → ℕ → Type 0) (op_of : Token → Option Operator) →
    ((fs bs : Tokens) (t : At Token) (o : Operator) (a b : Tree) (c d : ℕ) → L fs a c → op_of t.tok ≡ Some o → P bs b d → max c d < MAX_DEPTH → Q (fs ++ t ∷ bs) (Binary o a b) (max c d + 1)) →
    (ts : Tokens) (a b c : Found) (o : Found_op) → Took L ts a → next_op op_of a.rest ≡ Some o → Took P o.rest b → join o a b ≡ Ok c → Took Q ts c
joined_as L P Q op_of node ts a b c o k e h j =
    let n = next_op_ok op_of a.rest o e in
    let s = bind_ok _ _ c j in
    let d = deeper_ok o.place (max a.depth b.depth) s.0 s.1 in
    let made : record { tree = Binary o.op a.tree b.tree; depth = max a.depth b.depth + 1; rest = b.rest } ≡ c = ap (λ x. record { tree = Binary o.op a.tree b.tree; depth = x; rest = b.rest }) (sym d.1) ∙ cc in
    subst (Took Q ts) made (record {
      front = k.front ++ n.0 ∷ h.front;
      whole = k.whole ∙ ap (λ r. k.front ++ r) (n.1 ∙ ap (λ r. n.0 ∷ r) h.whole) ∙ sym (append_assoc k.front (n.0 ∷ h.front) b.rest);
      some = omega (arith, length-append k.front (n.0 ∷ h.front), k.some);
      spells = node k.front h.front n.0 o.op a.tree b.tree a.depth b.depth k.spells n.2 h.spells d.0;
    })

-- a chain of operators
module _ (operand : Reader) (op_of : Token → Option Operator) (P Q : Tokens → Tree → ℕ → Type 0) (sound : Sound P operand)
    (node : (fs bs : Tokens) (t : At Token) (o : Operator) (a b : Tree) (c d : ℕ) → Q fs a c → op_of t.tok ≡ Some o → P bs b d → max c d < MAX_DEPTH → Q (fs ++ t ∷ bs) (Binary o a b) (max c d + 1)) where
  more_sound : (n : ℕ) (ts : Tokens) (a f : Found) → Took Q ts a → chain_more operand op_of n a ≡ Ok f → Took Q ts f
  unfolding chain_more
  more_sound zero ts a f k e = of_op (next_op op_of a.rest) e
    where
      of_op : (o : Option Found_op) → chain_end o a ≡ Ok f → Took Q ts f
      of_op None h = let same : a ≡ f = cc in subst (Took Q ts) same k
      of_op (Some o) h = absurd cc
  more_sound (suc n) ts a f k e = of_op (more_sound n) (next_op op_of a.rest) refl e
    where
      of_op : ((us : Tokens) (b g : Found) → Took Q us b → chain_more operand op_of n b ≡ Ok g → Took Q us g) → (o : Option Found_op) → next_op op_of a.rest ≡ o → chain_turn operand (chain_more operand op_of n) o a ≡ Ok f → Took Q ts f
      of_op on None g h = let same : a ≡ f = cc in subst (Took Q ts) same k
      of_op on (Some o) g h =
          let s1 = bind_ok (deeper o.place a.depth) (λ here. operand o.rest >>= λ b. join o a b >>= λ c. chain_more operand op_of n c) f h in
          let s2 = bind_ok (operand o.rest) (λ b. join o a b >>= λ c. chain_more operand op_of n c) f s1.2 in
          let s3 = bind_ok (join o a s2.0) (λ c. chain_more operand op_of n c) f s2.2 in
          on ts s3.0 f (joined_as Q P Q op_of node ts a s2.0 s3.0 o k g (sound o.rest s2.0 s2.1) s3.1) s3.2

  pub chain_sound : ((ts : Tokens) (e : Tree) (d : ℕ) → P ts e d → Q ts e d) → Sound Q (chain operand op_of)
  unfolding chain
  chain_sound up ts f e =
      let s = bind_ok _ _ f e in
      more_sound MAX_DEPTH ts s.0 f (took_up P Q up ts s.0 (sound ts s.0 s.1)) s.2

-- a list
pub record Took_list (P : Tokens → Trees → ℕ → Type 0) (ts : Tokens) (f : Found_list) : Type 0 where
  pub front : Tokens
  pub whole : ts ≡ front ++ f.rest
  pub some : 0 < length front
  pub spells : P front f.trees f.depth

module _ (reader : Reader) (P : Tokens → Tree → ℕ → Type 0) (Q : Tokens → Trees → ℕ → Type 0) (sound : Sound P reader)
    (one : (ts : Tokens) (e : Tree) (d : ℕ) → P ts e d → Q ts (more e none) d)
    (next : (fs bs : Tokens) (t : At Token) (es : Trees) (e : Tree) (c d : ℕ) → Q fs es c → t.tok ≡ tok.sign signs.Comma → P bs e d → Q (fs ++ t ∷ bs) (push es e) (max c d)) where
  items_sound : (n : ℕ) (ts : Tokens) (l f : Found_list) → Took_list Q ts l → list_more reader n l ≡ Ok f → Took_list Q ts f
  unfolding list_more
  items_sound zero ts l f k e = let same : l ≡ f = cc in subst (Took_list Q ts) same k
  items_sound (suc n) ts l f k e = of_comma (items_sound n) (after (is_sign signs.Comma) l.rest) refl e
    where
      of_comma : ((us : Tokens) (b g : Found_list) → Took_list Q us b → list_more reader n b ≡ Ok g → Took_list Q us g) → (o : Option Tokens) → after (is_sign signs.Comma) l.rest ≡ o → list_turn reader (list_more reader n) o l ≡ Ok f → Took_list Q ts f
      of_comma on None g h = let same : l ≡ f = cc in subst (Took_list Q ts) same k
      of_comma on (Some us) g h =
          let s = bind_ok (reader us) (λ e. list_more reader n (record { trees = push l.trees e.tree; depth = max l.depth e.depth; rest = e.rest })) f h in
          let c = after_comma_ok l.rest us g in
          let b = sound us s.0 s.1 in
          on ts _ f (record {
            front = k.front ++ c.0 ∷ b.front;
            whole = k.whole ∙ ap (λ r. k.front ++ r) (c.1 ∙ ap (λ r. c.0 ∷ r) b.whole) ∙ sym (append_assoc k.front (c.0 ∷ b.front) s.0.rest);
            some = omega (arith, length-append k.front (c.0 ∷ b.front), k.some);
            spells = next k.front b.front c.0 l.trees s.0.tree l.depth s.0.depth k.spells c.2 b.spells;
          }) s.2

  pub list_sound : (ts : Tokens) (f : Found_list) → list_at reader ts ≡ Ok f → Took_list Q ts f
  unfolding list_at
  list_sound ts f e =
      let s = bind_ok (reader ts) (λ e. list_more reader (length ts) (record { trees = more e.tree none; depth = e.depth; rest = e.rest })) f e in
      let k = sound ts s.0 s.1 in
      items_sound (length ts) ts _ f (record { front = k.front; whole = k.whole; some = k.some; spells = one _ _ _ k.spells }) s.2
