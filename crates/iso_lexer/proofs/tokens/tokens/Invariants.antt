use Rattle.std.proofs.Common.{length, map}
use denote.Shadow.{shadow}
use denote.Text.{Utf8}
use Rattle.iso_lexer.specs.Lexing.{plain_at}
use Rattle.iso_lexer.proofs.Lexing.{SoFar}
use Rattle.iso_lexer.proofs.tokens.tokens.Given as goal

abbrev pub invariant-loop-rest : goal.invariant-loop-rest
invariant-loop-rest g l = record { so_far : SoFar g.T.Token.rules l.text (map (plain_at g.T.Token.plain) l.tokens.items) l.rest; is_text : shadow (Utf8 l.rest) }

abbrev pub decreases-loop-rest : goal.decreases-loop-rest
decreases-loop-rest g l = length l.rest
