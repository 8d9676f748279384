use Rattle.std.proofs.Common.{[], length}
use Rattle.std.specs.Prelude.{map}
use Rattle.iso_lexer.specs.declared.spec_token.Keyword.TheVariants.{Step}
use Rattle.spec_parser.specs.Trees.{draft_view}
use Rattle.spec_parser.specs.Inner.Stopping.{step_at}
use Rattle.spec_parser.specs.Inner.Pieces.{starts_word}
use Rattle.spec_parser.specs.Inner.Readers.{rest_of, Same}
use Rattle.spec_parser.proofs.Loops.{SoFar}
use Rattle.spec_parser.proofs.reader.Reader.each_step.Given as goal

abbrev pub invariant-loop-self : goal.invariant-loop-self
invariant-loop-self l = record { same : Same l.fn.self l.self; so_far : SoFar (starts_word Step) (λ k. step_at) [] (rest_of l.fn.self) (map draft_view l.items.items) (rest_of l.self) }

abbrev pub decreases-loop-self : goal.decreases-loop-self
decreases-loop-self l = length (rest_of l.self).1
