-- To be believed. Spec files: their text, and what it says.
use Rattle.std.specs.Prelude.{◌≡◌, ℕ, List, [], length, Result, Ok, Err}
use Rattle.iso_lexer.specs.declared.token.At.{At}
use Rattle.iso_lexer.specs.declared.fault.Fault.{Fault}
use Rattle.iso_lexer.specs.Results.{if_ok}
use Rattle.iso_lexer.specs.SpecTokens.{SpecToken}
use Rattle.iso_lexer.specs.SpecText.{Lexes}
use Rattle.spec_parser.specs.declared.fault.SpecFault.{SpecFault}
use Rattle.spec_parser.specs.declared.fault.SpecFault.TheVariants as faults
use Rattle.spec_parser.specs.declared.tree.Spec.{Spec}
use Rattle.spec_parser.specs.Trees.{SpecTree, spec_view}
use Rattle.spec_parser.specs.Reading.{file_at}
use Rattle.spec_parser.specs.Names.{names_resolved}

-- A text says this, or has this fault: the first of its tokens, else the first that reading them meets, else the first of
-- its step names, else the first of its permutations.
pub data SpecReads (text : List ℕ) : Result SpecTree SpecFault → Type 0 where
  no_tokens : (f : Fault) → Lexes text (Err f) → SpecReads text (Err (faults.Lex f))
  tokens : {answer : Result SpecTree SpecFault} (ts : List (At SpecToken)) → Lexes text (Ok ts) → answer ≡ if_ok (file_at (length text) ([], ts)) (λ x. names_resolved x.0) → SpecReads text answer

-- What was returned is so, unless memory ran out.
abbrev pub SpecAnswers : List ℕ → Result Spec SpecFault → Type 0
SpecAnswers text (Ok spec) = SpecReads text (Ok (spec_view spec))
SpecAnswers text (Err faults.Memory) = Unit {0}
SpecAnswers text (Err (faults.Lex f)) = SpecReads text (Err (faults.Lex f))
SpecAnswers text (Err (faults.Expected w at)) = SpecReads text (Err (faults.Expected w at))
SpecAnswers text (Err (faults.DuplicateStep at)) = SpecReads text (Err (faults.DuplicateStep at))
SpecAnswers text (Err (faults.UndefinedStep at)) = SpecReads text (Err (faults.UndefinedStep at))
SpecAnswers text (Err (faults.UndefinedMarker at)) = SpecReads text (Err (faults.UndefinedMarker at))
SpecAnswers text (Err (faults.NoticesLeftOut at)) = SpecReads text (Err (faults.NoticesLeftOut at))
SpecAnswers text (Err (faults.Limit at)) = SpecReads text (Err (faults.Limit at))
