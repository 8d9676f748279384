-- The test tells whether two trees are one.
use Rattle.std.proofs.Common.{◌≡◌, Bool, true, false, ◌&&◌, List, [], ◌∷◌, length, refl, ap, subst, rules}
use Rattle.std.specs.Prelude.{◌==◌}
use Rattle.std.proofs.lemmas.Slice.Eq.{bytes_eq-Decides}
use denote.Enum.Bare.{sameb, same_true, true_same}
use Rattle.sql_trees.specs.contracts.expr.Operator as operator
use Rattle.sql_trees.specs.contracts.expr.Truth as truth
use Rattle.sql_trees.specs.declared.expr.Expr.{Expr}
use Rattle.sql_trees.specs.Trees.{Tree, Trees, none, more, Null, Flag, Number, Text, Column, Plus, Minus, Not, Binary, Is, In, Between, trees}
use Rattle.sql_trees.specs.Same.{same_flag, same_tree, same_trees}
use Rattle.std.proofs.lemmas.Bool.Decides.{Decides-eqb}

and_true : (p q : Bool) → (p && q) ≡ true → (p ≡ true) × (q ≡ true)
and_true true q e = (refl, e)
and_true false q e = absurd cc

both : (p q : Bool) → p ≡ true → q ≡ true → (p && q) ≡ true
both true q e f = f
both false q e f = absurd cc

flag_one : (a b : Bool) → same_flag a b ≡ true → a ≡ b
flag_one true true e = refl
flag_one false false e = refl
flag_one true false e = absurd cc
flag_one false true e = absurd cc

flag_self : (a : Bool) → same_flag a a ≡ true
flag_self true = refl
flag_self false = refl

mutual
  tree_one : (a b : Tree) → same_tree a b ≡ true → a ≡ b
  tree_one Null Null e = refl
  tree_one (Flag a) (Flag b) e = ap Flag (flag_one a b e)
  tree_one (Number a m) (Number b n) e =
      let p = and_true (same_flag a b) (m == n) e in
      let f : a ≡ b = flag_one a b p.0 in
      let g : m ≡ n = (Decides-eqb m n).0 p.1 in
      cc
  tree_one (Text s) (Text t) e = ap Text ((bytes_eq-Decides s t).0 e)
  tree_one (Column s) (Column t) e = ap Column ((bytes_eq-Decides s t).0 e)
  tree_one (Plus a) (Plus b) e = ap Plus (tree_one a b e)
  tree_one (Minus a) (Minus b) e = ap Minus (tree_one a b e)
  tree_one (Not a) (Not b) e = ap Not (tree_one a b e)
  tree_one (Binary o a b) (Binary p c d) e =
      let q = and_true (sameb operator.the_type o p) _ e in
      let r = and_true (same_tree a c) (same_tree b d) q.1 in
      let f : o ≡ p = same_true operator.the_type tt o p q.0 in
      let g : a ≡ c = tree_one a c r.0 in
      let h : b ≡ d = tree_one b d r.1 in
      cc
  tree_one (Is a m t) (Is b n u) e =
      let q = and_true (same_flag m n) _ e in
      let r = and_true (sameb truth.the_type t u) (same_tree a b) q.1 in
      let f : m ≡ n = flag_one m n q.0 in
      let g : t ≡ u = same_true truth.the_type tt t u r.0 in
      let h : a ≡ b = tree_one a b r.1 in
      cc
  tree_one (In a m xs) (In b n ys) e =
      let q = and_true (same_flag m n) _ e in
      let r = and_true (same_tree a b) (same_trees xs ys) q.1 in
      let f : m ≡ n = flag_one m n q.0 in
      let g : a ≡ b = tree_one a b r.0 in
      let h : xs ≡ ys = trees_one xs ys r.1 in
      cc
  tree_one (Between a m c d) (Between b n p q) e =
      let r = and_true (same_flag m n) _ e in
      let s = and_true (same_tree a b) _ r.1 in
      let t = and_true (same_tree c p) (same_tree d q) s.1 in
      let f : m ≡ n = flag_one m n r.0 in
      let g : a ≡ b = tree_one a b s.0 in
      let h : c ≡ p = tree_one c p t.0 in
      let k : d ≡ q = tree_one d q t.1 in
      cc
  tree_one _ _ e = absurd cc

  trees_one : (xs ys : Trees) → same_trees xs ys ≡ true → xs ≡ ys
  trees_one none none e = refl
  trees_one (more x xs) (more y ys) e =
      let p = and_true (same_tree x y) (same_trees xs ys) e in
      let f : x ≡ y = tree_one x y p.0 in
      let g : xs ≡ ys = trees_one xs ys p.1 in
      cc
  trees_one none (more y ys) e = absurd cc
  trees_one (more x xs) none e = absurd cc

mutual
  tree_self : (a : Tree) → same_tree a a ≡ true
  tree_self Null = refl
  tree_self (Flag a) = flag_self a
  tree_self (Number a m) = both (same_flag a a) (m == m) (flag_self a) ((Decides-eqb m m).1 refl)
  tree_self (Text s) = (bytes_eq-Decides s s).1 refl
  tree_self (Column s) = (bytes_eq-Decides s s).1 refl
  tree_self (Plus a) = tree_self a
  tree_self (Minus a) = tree_self a
  tree_self (Not a) = tree_self a
  tree_self (Binary o a b) = both (sameb operator.the_type o o) _ (true_same operator.the_type o o refl) (both (same_tree a a) (same_tree b b) (tree_self a) (tree_self b))
  tree_self (Is a m t) = both (same_flag m m) _ (flag_self m) (both (sameb truth.the_type t t) (same_tree a a) (true_same truth.the_type t t refl) (tree_self a))
  tree_self (In a m xs) = both (same_flag m m) _ (flag_self m) (both (same_tree a a) (same_trees xs xs) (tree_self a) (trees_self xs))
  tree_self (Between a m c d) = both (same_flag m m) _ (flag_self m) (both (same_tree a a) _ (tree_self a) (both (same_tree c c) (same_tree d d) (tree_self c) (tree_self d)))

  trees_self : (xs : Trees) → same_trees xs xs ≡ true
  trees_self none = refl
  trees_self (more x xs) = both (same_tree x x) (same_trees xs xs) (tree_self x) (trees_self xs)

-- the test is true exactly where the trees are one
pub same_decides : (a b : Tree) → (same_tree a b ≡ true → a ≡ b) × (a ≡ b → same_tree a b ≡ true)
same_decides a b = (tree_one a b, λ e. subst (λ x. same_tree a x ≡ true) e (tree_self a))

-- behind the last item of one list, the other has to be at its end too
pub none_left : (ys : List Expr) → (length ys == 0) ≡ same_trees none (trees ys)
none_left [] = refl
none_left (y ∷ ys) = search rules
