-- A test of whether two trees are one.
use Rattle.std.specs.Prelude.{Bool, true, false, ◌&&◌, ◌==◌, bytes_eq}
use denote.Enum.Bare.{sameb}
use Rattle.sql_trees.specs.contracts.expr.Operator as operator
use Rattle.sql_trees.specs.contracts.expr.Truth as truth
use Rattle.sql_trees.specs.Trees.{Tree, Trees, none, more, Null, Flag, Number, Text, Column, Plus, Minus, Not, Binary, Is, In, Between}

abbrev pub same_flag : Bool → Bool → Bool
same_flag true true = true
same_flag false false = true
same_flag _ _ = false

abbrev mutual
  pub same_tree : Tree → Tree → Bool
  same_tree Null Null = true
  same_tree (Flag a) (Flag b) = same_flag a b
  same_tree (Number a m) (Number b n) = same_flag a b && m == n
  same_tree (Text s) (Text t) = bytes_eq s t
  same_tree (Column s) (Column t) = bytes_eq s t
  same_tree (Plus a) (Plus b) = same_tree a b
  same_tree (Minus a) (Minus b) = same_tree a b
  same_tree (Not a) (Not b) = same_tree a b
  same_tree (Binary o a b) (Binary p c d) = sameb operator.the_type o p && (same_tree a c && same_tree b d)
  same_tree (Is a m t) (Is b n u) = same_flag m n && (sameb truth.the_type t u && same_tree a b)
  same_tree (In a m xs) (In b n ys) = same_flag m n && (same_tree a b && same_trees xs ys)
  same_tree (Between a m c d) (Between b n e f) = same_flag m n && (same_tree a b && (same_tree c e && same_tree d f))
  same_tree _ _ = false

  pub same_trees : Trees → Trees → Bool
  same_trees none none = true
  same_trees (more x xs) (more y ys) = same_tree x y && same_trees xs ys
  same_trees _ _ = false
