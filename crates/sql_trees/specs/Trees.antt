-- To be believed. Trees of expressions, without where they lie in memory: names and strings stand decoded.
use Rattle.std.specs.Prelude.{ℕ, Bool, List, [], ◌∷◌, if◌then◌else◌, ◌==◌, ◌&&◌}
use Rattle.iso_lexer.specs.Names.{name_view, decoded}
use Rattle.sql_trees.specs.declared.expr.Operator.{Operator}
use Rattle.sql_trees.specs.declared.expr.Truth.{Truth}
use Rattle.sql_trees.specs.declared.expr.AggKind.{AggKind}
use Rattle.sql_trees.specs.declared.expr.Agg.{Agg}
use Rattle.sql_trees.specs.declared.expr.Agg.TheVariants as agg
use Rattle.sql_trees.specs.declared.expr.Expr.{Expr, Row_of-Expr, end_of-Expr, more_of-Expr}
use Rattle.sql_trees.specs.declared.expr.Expr.TheVariants as code
use Rattle.sql_trees.specs.declared.expr.Expr.TheVariants.{In', Between', Is', Binary', Not', Minus', Plus'}

-- what stands between the quotes of a string; a doubled quote is one
unfoldable pub undoubled : List ℕ → List ℕ
undoubled (b ∷ c ∷ bs) = if b == 39 && c == 39 then b ∷ undoubled bs else b ∷ undoubled (c ∷ bs)
undoubled bs = bs

mutual
  -- an expression
  pub data Tree : Type 0 where
    Null : Tree
    Flag : Bool → Tree
    Number : Bool → ℕ → Tree
    Text : List ℕ → Tree
    Column : List ℕ → Tree
    Plus : Tree → Tree
    Minus : Tree → Tree
    Not : Tree → Tree
    Binary : Operator → Tree → Tree → Tree
    Is : Tree → Bool → Truth → Tree
    In : Tree → Bool → Trees → Tree
    Between : Tree → Bool → Tree → Tree → Tree

  -- a list of expressions
  pub data Trees : Type 0 where
    none : Trees
    more : Tree → Trees → Trees

-- an aggregate
pub data AggTree : Type 0 where
  CountRows : AggTree
  Of : AggKind → Tree → AggTree

abbrev mutual
  pub tree_of : Expr → Tree
  tree_of code.Null = Null
  tree_of (code.Bool b) = Flag b
  tree_of (code.Number b n) = Number b n
  tree_of (code.Text s) = Text (undoubled s.now)
  tree_of (code.Column name) = Column (decoded (name_view name))
  tree_of (Plus' p e) = Plus (tree_of e)
  tree_of (Minus' p e) = Minus (tree_of e)
  tree_of (Not' p e) = Not (tree_of e)
  tree_of (Binary' op p a q b) = Binary op (tree_of a) (tree_of b)
  tree_of (Is' p e negated truth) = Is (tree_of e) negated truth
  tree_of (In' p e negated shape all) = In (tree_of e) negated (trees_of all)
  tree_of (Between' p e negated q low r high) = Between (tree_of e) negated (tree_of low) (tree_of high)

  pub trees_of : {m : _} → Row_of-Expr m → Trees
  trees_of end_of-Expr = none
  trees_of (more_of-Expr e rest) = more (tree_of e) (trees_of rest)

abbrev pub trees : List Expr → Trees
trees [] = none
trees (e ∷ es) = more (tree_of e) (trees es)

abbrev pub agg_of : Agg → AggTree
agg_of agg.CountRows = CountRows
agg_of (agg.Of kind e) = Of kind (tree_of e)
