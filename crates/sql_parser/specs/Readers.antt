-- To be believed. Parts that several kinds of statement have, read in the words of reading.
use Rattle.std.specs.Prelude.{ℕ, Bool, true, false, List, [], ◌∷◌, Option, Some, None, Result, Ok, Err}
use Rattle.std.specs.Option.{option_map_or}
use Rattle.iso_lexer.specs.Bytes.{row_of}
use Rattle.sql_trees.specs.declared.fault.SqlFault.{SqlFault}
use Rattle.sql_trees.specs.declared.fault.SqlFault.TheVariants.{LeftOut}
use Rattle.sql_trees.specs.declared.word.Word.{Word}
use Rattle.sql_trees.specs.Tokens.{Token, Tokens}
use Rattle.sql_trees.specs.Tokens as tok
use Rattle.sql_trees.specs.Trees.{Tree}
use Rattle.sql_expressions.specs.Readers.{Reader, gives, made, either, one_at, items_at, is_word, place_of, misplaced, added}
use Rattle.sql_expressions.specs.Reading.{expr_at}

-- where the first token is of this kind, what is read behind it, else nothing
abbrev pub maybe : {X : Type 0} → (Token → Bool) → Reader X → Reader (Option X)
maybe is_it reader = either is_it (made (λ x. Some x) reader) (gives None)

-- what is read behind the first token, if it is of this kind, else with it
abbrev pub past : {X : Type 0} → (Token → Bool) → Reader X → Reader X
past is_it reader = either is_it reader reader

-- items with commas between them, each read with those before it in view
abbrev pub list_of : {X : Type 0} → (List X → Reader X) → Reader (List X)
list_of item = items_at (λ xs. added (item xs) xs) []

module _ (last : ℕ) where
  -- what the next word stands for, which has to be one of these
  abbrev pub one_of : {X : Type 0} → List (Word × X) → Reader X
  one_of rows = one_at (misplaced last) (row_of is_word rows)

  -- the same, where each other unquoted word is left out
  abbrev pub known_of : {X : Type 0} → List (Word × X) → Reader X
  known_of rows =
      one_at (λ ts. either (λ t. elim t [ tok.word w s ↦ true | _ ↦ false ]) (λ us. LeftOut (place_of last ts)) (misplaced last) ts) (row_of is_word rows)

  -- an expression's tree
  abbrev pub tree_at : Reader Tree
  tree_at = made (λ e. e.tree) (expr_at last)

  -- nothing stands behind, and this, if anything, is wrong with the whole
  abbrev pub whole : Option SqlFault → Tokens → Result Tokens SqlFault
  whole fault [] = option_map_or (λ f. Err f) fault (Ok [])
  whole fault (t ∷ ts) = Err (misplaced last (t ∷ ts))
