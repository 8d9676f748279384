-- To be believed. Trees made of trees.
use Rattle.std.specs.Prelude.{not}
use Rattle.sql_trees.specs.Trees.{Tree, Trees, none, more, Number, Minus}

-- a minus before a literal makes one literal
abbrev pub negated : Tree → Tree
negated t = elim t [ Number b n ↦ Number (not b) n | other ↦ Minus other ]

-- one more tree at the end
abbrev pub push : Trees → Tree → Trees
push none t = more t none
push (more x xs) t = more x (push xs t)
