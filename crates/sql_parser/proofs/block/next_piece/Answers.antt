use Rattle.std.proofs.Common.{◌≡◌, [], ◌∷◌, drop, sym, ap, ◌∙◌}
use Rattle.sql_trees.specs.Tokens.{tok_views}
use Rattle.sql_parser.specs.Inner.Pieces.{piece_len}
use Rattle.sql_parser.proofs.Blocks.{nothing, splits_none, splits_some}
use Rattle.sql_parser.proofs.block.next_piece.Goals as goal

pub returns-in_default-clause-splits : goal.returns-in_default-clause-splits
returns-in_default-clause-splits c =
    let e : drop (piece_len (tok_views c.args.tokens.now)) c.args.tokens.now ≡ [] = ap (λ k. drop k c.args.tokens.now) (sym c.piece_len-n.ensures.exact) ∙ sym c.split_at.ensures.back ∙ nothing _ c.in_default.ensures.cases in
    splits_none c.args.tokens.now e

pub returns-clause-splits : goal.returns-clause-splits
returns-clause-splits c =
    let e : drop (piece_len (tok_views c.args.tokens.now)) c.args.tokens.now ≡ c.in-Some.mark.now ∷ c.in-Some.behind.now = ap (λ k. drop k c.args.tokens.now) (sym c.piece_len-n.ensures.exact) ∙ sym c.split_at.ensures.back ∙ c.in-Some.ensures.cases.0 in
    rw (c.split_at.ensures.front, c.piece_len-n.ensures.exact) (splits_some c.args.tokens.now c.in-Some.behind.now c.in-Some.mark.now e)
