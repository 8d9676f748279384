-- The table of the code is the one of the definitions.
use Rattle.std.proofs.Common.{◌≡◌, refl, map}
use Rattle.sql_trees.specs.declared.word.TheConstants.{KEYWORDS}
use Rattle.sql_trees.specs.Keywords.{keywords, reserved_words, left_out_words}
use Rattle.sql_trees.specs.Words.{spellings, is_reserved, is_left_out}

pub table_is : map (λ k. (k.0.now, k.1)) KEYWORDS ≡ keywords
unfolding keywords
table_is = refl

pub reserved_are : spellings is_reserved ≡ reserved_words
unfolding keywords reserved_words is_reserved
reserved_are = refl

pub left_out_are : spellings is_left_out ≡ left_out_words
unfolding keywords left_out_words is_left_out
left_out_are = refl
