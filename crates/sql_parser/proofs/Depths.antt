-- An expression that is read is no deeper than its depth as it was written, which is 64 at most.
use Rattle.std.proofs.Common.{◌≡◌, ℕ, suc, ◌+◌, ◌<◌, ◌≤◌, subst, arith}
use Rattle.std.proofs.lemmas.Bool.{lt-ltb}
use Rattle.std.specs.Prelude.{Ok, true, max}
use Rattle.iso_lexer.specs.declared.limits.TheConstants.{MAX_DEPTH}
use Rattle.sql_trees.specs.Tokens.{Token, Tokens}
use Rattle.sql_trees.specs.Trees.{Tree, Trees, none, more, Null, Flag, Number, Text, Column, Plus, Minus, Not, Binary, Is, In, Between}
use Rattle.sql_expressions.specs.Build.{negated, push}
use Rattle.sql_expressions.specs.Reading.{expr_at}
use Rattle.sql_expressions.specs.Grammar.{Level, Spells, only, chain, negation, is, comparison, contained, between, minus, plus, parens, literal, Items, one, next, IsLeaf, number, text, column, yes, no, null}
use Rattle.sql_expressions.proofs.Levels.{expr_begins}
use Rattle.sql_blocks.specs.Kept.{tree_depth, trees_depth, is_shallow}
use Rattle.sql_parser.specs.Readers.{tree_at}
use Rattle.sql_parser.proofs.Steps.{bind_ok, ok_same}

negated_depth : (e : Tree) → tree_depth (negated e) ≤ suc (tree_depth e)
negated_depth Null = omega arith
negated_depth (Flag b) = omega arith
negated_depth (Number b n) = omega arith
negated_depth (Text s) = omega arith
negated_depth (Column s) = omega arith
negated_depth (Plus e) = omega arith
negated_depth (Minus e) = omega arith
negated_depth (Not e) = omega arith
negated_depth (Binary o a b) = omega arith
negated_depth (Is e b t) = omega arith
negated_depth (In e b es) = omega arith
negated_depth (Between e b low high) = omega arith

push_depth : (es : Trees) (e : Tree) → trees_depth (push es e) ≤ max (trees_depth es) (tree_depth e)
push_depth none e = omega arith
push_depth (more x xs) e = omega (arith, push_depth xs e)

record Within (depth d : ℕ) : Type 0 where
  as_written : depth ≤ d
  bounded : d ≤ MAX_DEPTH

leaf_depth : (t : Token) (e : Tree) → IsLeaf t e → Within (tree_depth e) 0
leaf_depth t e (number n) = record { as_written = omega arith; bounded = omega arith }
leaf_depth t e (text s) = record { as_written = omega arith; bounded = omega arith }
leaf_depth t e (column u name h) = record { as_written = omega arith; bounded = omega arith }
leaf_depth t e (yes s) = record { as_written = omega arith; bounded = omega arith }
leaf_depth t e (no s) = record { as_written = omega arith; bounded = omega arith }
leaf_depth t e (null s) = record { as_written = omega arith; bounded = omega arith }

upto : (a b d : ℕ) → a ≤ b → Within b d → Within a d
upto a b d h w = record { as_written = omega (arith, w.as_written, h); bounded = w.bounded }

node : (a d : ℕ) → Within a d → d < MAX_DEPTH → Within (suc a) (d + 1)
node a d w h = record { as_written = omega (arith, w.as_written); bounded = omega arith }

inside : (a d : ℕ) → Within a d → d < MAX_DEPTH → Within a (d + 1)
inside a d w h = record { as_written = omega (arith, w.as_written); bounded = omega arith }

both : (a b c d : ℕ) → Within a c → Within b d → Within (max a b) (max c d)
both a b c d v w = record { as_written = omega (arith, v.as_written, w.as_written); bounded = omega (arith, v.bounded, w.bounded) }

node2 : (a b c d : ℕ) → Within a c → Within b d → max c d < MAX_DEPTH → Within (suc (max a b)) (max c d + 1)
node2 a b c d v w h = node (max a b) (max c d) (both a b c d v w) h

node3 : (a b x c d y : ℕ) → Within a c → Within b d → Within x y → max c (max d y) < MAX_DEPTH → Within (suc (max a (max b x))) (max c (max d y) + 1)
node3 a b x c d y u v w h = node2 a (max b x) c (max d y) u (both b x d y v w) h

mutual
  spelled : {n : ℕ} {l : Level} {ts : Tokens} {e : Tree} {d : ℕ} → Spells n l ts e d → Within (tree_depth e) d
  spelled (only l ts e d p) = spelled p
  spelled (chain l fs bs t o a b c d p h q lt) = node2 (tree_depth a) (tree_depth b) c d (spelled p) (spelled q) lt
  spelled (negation ts t e d h p lt) = node (tree_depth e) d (spelled p) lt
  spelled (is ts ws t no' truth e d p i h lt) = node (tree_depth e) d (spelled p) lt
  spelled (comparison fs bs t o a b c d p h q lt) = node2 (tree_depth a) (tree_depth b) c d (spelled p) (spelled q) lt
  spelled (contained ts ws us t u no' e es c d p i h q g lt) = node2 (tree_depth e) (trees_depth es) c d (spelled p) (listed q) lt
  spelled (between ts ws us vs t no' e low high b c d p i q h r lt) = node3 (tree_depth e) (tree_depth low) (tree_depth high) b c d (spelled p) (spelled q) (spelled r) lt
  spelled (minus ts t e d h p lt) = upto (tree_depth (negated e)) (suc (tree_depth e)) (d + 1) (negated_depth e) (node (tree_depth e) d (spelled p) lt)
  spelled (plus ts t e d h p lt) = node (tree_depth e) d (spelled p) lt
  spelled (parens ts t u e d h p g lt) = inside (tree_depth e) d (spelled p) lt
  spelled (literal t e p) = leaf_depth t.tok e p

  listed : {n : ℕ} {ts : Tokens} {es : Trees} {d : ℕ} → Items n ts es d → Within (trees_depth es) d
  listed (one ts e d p) = upto (trees_depth (more e none)) (tree_depth e) d (omega arith) (spelled p)
  listed (next fs bs t es e c d p h q) = upto (trees_depth (push es e)) (max (trees_depth es) (tree_depth e)) (max c d) (push_depth es e) (both (trees_depth es) (tree_depth e) c d (listed p) (spelled q))

pub read_shallow : (last : ℕ) (ts : Tokens) (x : Tree × Tokens) → tree_at last ts ≡ Ok x → is_shallow x.0 ≡ true
read_shallow last ts x e =
    let s = bind_ok (expr_at last ts) (λ f. Ok (f.0.tree, f.1)) x e in
    let w = spelled (expr_begins last ts s.0 s.1).spells in
    let same = ok_same (s.0.0.tree, s.0.1) x s.2 in
    subst (λ (y : Tree × Tokens). is_shallow y.0 ≡ true) same (lt-ltb (tree_depth s.0.0.tree) (suc MAX_DEPTH) (omega (arith, w.as_written, w.bounded)))
