-- The parts of a file as the code reads them, piece by piece.
use Rattle.std.specs.Prelude.{Bool, List, Option}
use Rattle.iso_lexer.specs.declared.spec_token.Keyword.{Keyword}
use Rattle.iso_lexer.specs.declared.spec_token.Keyword.TheVariants.{Permutation, Session, Setup, Step, Teardown}
use Rattle.iso_lexer.specs.declared.spec_token.Sign.{Sign}
use Rattle.iso_lexer.specs.declared.spec_token.Sign.TheVariants.{Open, Comma}
use Rattle.spec_parser.specs.declared.fault.What.{What}
use Rattle.spec_parser.specs.declared.fault.What.TheVariants as what
use Rattle.spec_parser.specs.Trees.{PartTree, NameAt, StepOf, SessionOf, MarkerTree, NamedEntry}
use Rattle.spec_parser.specs.Inner.Stopping.{Rest, StoppingReader, ◌>>◌, starts, next_token, all_at, some_at, maybe_at, block_after, maybe_block, step_at, session_at, marker_at, markers_at, entry_at, perm_at}
use Rattle.spec_parser.specs.Grammar.{is_keyword, is_mark, is_name}

-- ---- one token

abbrev pub starts_word : Keyword → Rest → Bool
starts_word k = starts (is_keyword k)

abbrev pub starts_sign : Sign → Rest → Bool
starts_sign g = starts (is_mark g)

abbrev pub starts_name : Rest → Bool
starts_name = starts is_name

abbrev pub word_at : Keyword → What → StoppingReader (Unit {0})
word_at k = next_token (is_keyword k)

abbrev pub sign_at : Sign → What → StoppingReader (Unit {0})
sign_at g = next_token (is_mark g)

-- ---- parts that are read where one starts

abbrev pub setup_at : StoppingReader (Option PartTree)
setup_at = maybe_block Setup

abbrev pub teardown_at : StoppingReader (Option PartTree)
teardown_at = maybe_block Teardown

abbrev pub setups_at : StoppingReader (List PartTree)
setups_at = all_at (starts_word Setup) (λ k. block_after Setup)

abbrev pub steps_at : StoppingReader (List (StepOf NameAt))
steps_at = some_at what.Step (starts_word Step) (λ k. step_at)

abbrev pub sessions_at : StoppingReader (List (SessionOf NameAt))
sessions_at = some_at what.Session (starts_word Session) (λ k. session_at)

abbrev pub next_marker_at : StoppingReader MarkerTree
next_marker_at = sign_at Comma what.CommaOrClose >> marker_at

abbrev pub next_markers_at : StoppingReader (List MarkerTree)
next_markers_at = all_at (starts_sign Comma) (λ k. next_marker_at)

abbrev pub some_markers_at : StoppingReader (Option (List MarkerTree))
some_markers_at = maybe_at (starts_sign Open) markers_at

abbrev pub entries_at : StoppingReader (List NamedEntry)
entries_at = some_at what.Name starts_name entry_at

abbrev pub perms_at : StoppingReader (List (List NamedEntry))
perms_at = all_at (starts_word Permutation) (λ k. perm_at)
