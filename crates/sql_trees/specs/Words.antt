-- To be believed. Keywords, and what they are to the grammar.
use Rattle.std.specs.Prelude.{ℕ, Bool, List, [], ◌∷◌, map, filter, unwrap_or}
use Rattle.std.specs.List.{list_any}
use denote.Enum.Bare.{sameb}
use Rattle.std.specs.Str.{str_eq_ignore_ascii_case}
use Rattle.iso_lexer.specs.Bytes.{row_of}
use Rattle.sql_trees.specs.declared.word.Word.{Word}
use Rattle.sql_trees.specs.declared.word.Word.TheVariants.{Plain, LeftOut, Excluded, And, As, Asc, Between, Create, Desc, End, False, For, From, In, Into, Is, Not, Null, Or, Order, Primary, Select, Table, True, Unique, Where, On, Returning}
use Rattle.sql_trees.specs.declared.word.Word.TheVariants.{Drop, Read, Count, Sum, Min, Max}
use Rattle.sql_trees.specs.contracts.word.Word.{the_type}
use Rattle.sql_trees.specs.Keywords.{keywords}

-- the keyword that is spelled so, in any case of its letters (PostgreSQL manual, 4.1.1)
unfoldable pub word_of : List ℕ → Word
word_of text = unwrap_or (row_of str_eq_ignore_ascii_case keywords text) Plain

-- whether two words are one
abbrev pub same_word : Word → Word → Bool
same_word = sameb the_type

-- a word that is no name, unless it stands in quotes
unfoldable pub is_reserved : Word → Bool
is_reserved w = list_any (same_word w) (Excluded ∷ And ∷ As ∷ Asc ∷ Between ∷ Create ∷ Desc ∷ End ∷ False ∷ For ∷ From ∷ In ∷ Into ∷ Is ∷ Not ∷ Null
    ∷ On ∷ Or ∷ Order ∷ Primary ∷ Returning ∷ Select ∷ Table ∷ True ∷ Unique ∷ Where ∷ [])

-- a word that stands for a part of SQL that is left out, where no rule allows it
unfoldable pub is_left_out : Word → Bool
is_left_out w = list_any (same_word w) (Excluded ∷ LeftOut ∷ Drop ∷ On ∷ Read ∷ Returning ∷ Select ∷ [])

-- the words of this class, as they are spelled
abbrev pub spellings : (Word → Bool) → List (List ℕ)
spellings class = map (λ k. k.0) (filter (λ k. class k.1) keywords)

-- the name of an aggregate
abbrev pub names_aggregate : Word → Bool
names_aggregate w = list_any (same_word w) (Count ∷ Sum ∷ Min ∷ Max ∷ [])
