-- What stands at the front of a text, without where it lies in memory.
use Rattle.iso_lexer.specs.declared.piece.Piece.{Piece}
use Rattle.iso_lexer.specs.declared.piece.Piece.TheVariants as pieces
use Rattle.iso_lexer.specs.declared.spec_token.SpecTok.{SpecTok}
use Rattle.iso_lexer.specs.declared.sql_token.SqlTok.{SqlTok}
use Rattle.iso_lexer.specs.SpecTokens.{SpecToken, token_view}
use Rattle.iso_lexer.specs.SqlTokens.{SqlToken, sql_view}
use Rattle.iso_lexer.specs.Lexing.{Front, gap, token, fault}

abbrev pub piece_view : {A T : Type 0} → (A → T) → Piece A → Front T
piece_view view (pieces.Gap rest) = gap rest.now
piece_view view (pieces.Token t rest) = token (view t) rest.now
piece_view view (pieces.Fault kind n) = fault kind n

abbrev pub front_view : Piece SpecTok → Front SpecToken
front_view p = piece_view token_view p

abbrev pub sql_front_view : Piece SqlTok → Front SqlToken
sql_front_view p = piece_view sql_view p
