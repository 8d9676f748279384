-- Blocks, piece after piece.
use Rattle.std.proofs.Common.{◌≡◌, ℕ, suc, List, [], ◌∷◌, ◌++◌, ◌<◌, length, take, drop, map, Some, None, refl, sym, ap, ◌∙◌, append_assoc, append-nil, arith}
use Rattle.std.proofs.lemmas.Bool.{lt-ltb}
use Rattle.std.proofs.lemmas.List.{length-map}
use Rattle.std.specs.Result.{result_and}
use Rattle.std.specs.Prelude.{Result, Ok, Err, Bool, true, false, nat_lt, if◌then◌else◌}
use Rattle.iso_lexer.specs.declared.limits.TheConstants.{MAX_STMTS}
use Rattle.iso_lexer.specs.declared.token.At.{At}
use Rattle.iso_lexer.specs.declared.sql_token.SqlSign.TheVariants as signs
use Rattle.sql_trees.specs.declared.fault.SqlFault.{SqlFault}
use Rattle.sql_trees.specs.declared.token.Tok.{Tok}
use Rattle.sql_trees.specs.declared.stmt.Stmt.{Stmt}
use Rattle.sql_trees.specs.Statements.{StmtTree, stmt_of}
use Rattle.sql_trees.specs.Tokens.{Tokens, tok_at, tok_view, tok_views}
use Rattle.sql_expressions.specs.Readers.{is_sign, misplaced}
use Rattle.sql_expressions.specs.Results.{Gives, ◌>>=◌}
use Rattle.sql_blocks.specs.declared.block.Role.{Role}
use Rattle.sql_parser.specs.Inner.Blocks.{at_end, stmt_at, whole_at, piece_at, stmts_at}
use Rattle.sql_parser.specs.Inner.Calls.{seen}
use Rattle.sql_parser.specs.Inner.Pieces.{piece_len, block_from, SplitsAs}
use Rattle.sql_parser.proofs.Lists.{gives_seen}

module _ (last : ℕ) (role : Role) (ss : List StmtTree) where
  -- without a semicolon the rest is one piece
  pub whole_from : (piece : Tokens) (xs : List (At Tok)) → drop (piece_len (tok_views xs)) xs ≡ [] → stmts_at last role ss piece (tok_views xs) ≡ piece_at last role ss (piece ++ tok_views xs)
  unfolding stmts_at
  whole_from piece [] e = ap (piece_at last role ss) (sym (append-nil piece))
  whole_from piece (x ∷ xs) e = of_test (is_sign signs.Semicolon (tok_view x.tok)) refl (whole_from (piece ++ tok_at x ∷ []) xs) e
    where
      of_test : (b : Bool) → is_sign signs.Semicolon (tok_view x.tok) ≡ b → (drop (piece_len (tok_views xs)) xs ≡ [] → stmts_at last role ss (piece ++ tok_at x ∷ []) (tok_views xs) ≡ piece_at last role ss ((piece ++ tok_at x ∷ []) ++ tok_views xs)) → drop (if b then 0 else suc (piece_len (tok_views xs))) (x ∷ xs) ≡ [] → stmts_at last role ss piece (tok_at x ∷ tok_views xs) ≡ piece_at last role ss (piece ++ tok_at x ∷ tok_views xs)
      of_test true h more d = absurd cc
      of_test false h more d = rw h (more d ∙ ap (piece_at last role ss) (append_assoc piece (tok_at x ∷ []) (tok_views xs)))

  -- a semicolon ends a piece
  pub piece_from : (piece : Tokens) (xs us : List (At Tok)) (t : At Tok) → drop (piece_len (tok_views xs)) xs ≡ t ∷ us → stmts_at last role ss piece (tok_views xs) ≡ (piece_at t.span.start role ss (piece ++ tok_views (take (piece_len (tok_views xs)) xs)) >>= λ more. block_from last role more (tok_views us))
  unfolding stmts_at
  piece_from piece [] us t e = absurd cc
  piece_from piece (x ∷ xs) us t e = of_test (is_sign signs.Semicolon (tok_view x.tok)) refl (piece_from (piece ++ tok_at x ∷ []) xs us t) e
    where
      of_test : (b : Bool) → is_sign signs.Semicolon (tok_view x.tok) ≡ b → (drop (piece_len (tok_views xs)) xs ≡ t ∷ us → stmts_at last role ss (piece ++ tok_at x ∷ []) (tok_views xs) ≡ (piece_at t.span.start role ss ((piece ++ tok_at x ∷ []) ++ tok_views (take (piece_len (tok_views xs)) xs)) >>= λ more. block_from last role more (tok_views us))) → drop (if b then 0 else suc (piece_len (tok_views xs))) (x ∷ xs) ≡ t ∷ us → stmts_at last role ss piece (tok_at x ∷ tok_views xs) ≡ (piece_at t.span.start role ss (piece ++ tok_views (take (if b then 0 else suc (piece_len (tok_views xs))) (x ∷ xs))) >>= λ more. block_from last role more (tok_views us))
      of_test true h more d =
          let first : x ≡ t = cc in
          let behind : xs ≡ us = cc in
          rw (h, append-nil, first, behind) refl
      of_test false h more d = rw h (more d ∙ rw append_assoc refl)

pub splits_none : (xs : List (At Tok)) → drop (piece_len (tok_views xs)) xs ≡ [] → SplitsAs (tok_views xs) None
splits_none xs e last role ss = whole_from last role ss [] xs e

pub splits_some : (xs us : List (At Tok)) (t : At Tok) → drop (piece_len (tok_views xs)) xs ≡ t ∷ us → SplitsAs (tok_views xs) (Some (tok_views (take (piece_len (tok_views xs)) xs), t.span.start, tok_views us))
splits_some xs us t e last role ss = piece_from last role ss [] xs us t e

-- a piece that is read leaves the rest to be read, one that is not ends the block, and so does the last
module _ (last : ℕ) (role : Role) (ss : List StmtTree) (ts : Tokens) (w : Result (List StmtTree) SqlFault) (e : block_from last role ss ts ≡ w) where
  pub piece_on : (place : ℕ) (piece behind : Tokens) (more : List StmtTree) → SplitsAs ts (Some (piece, place, behind)) → piece_at place role ss piece ≡ Ok more → block_from last role more behind ≡ w
  piece_on place piece behind more s p = sym (s last role ss ∙ rw p refl) ∙ e

  pub piece_stops : (place : ℕ) (piece behind : Tokens) (f : SqlFault) → SplitsAs ts (Some (piece, place, behind)) → piece_at place role ss piece ≡ Err f → w ≡ Err f
  piece_stops place piece behind f s p = sym e ∙ (s last role ss ∙ rw p refl)

  pub last_piece : SplitsAs ts None → w ≡ piece_at last role ss ts
  last_piece s = sym e ∙ s last role ss

pub nothing : {A : Type 0} (xs : List A) → length xs ≡ 0 → xs ≡ []
nothing [] e = refl
nothing (x ∷ xs) e = absurd (omega arith)

-- a statement with a fault ends the block
pub piece_stopped : (last : ℕ) (role : Role) (stmts : List Stmt) (xs : List (At Tok)) (f : SqlFault) → 0 < length xs → length stmts < MAX_STMTS → whole_at last role (tok_views xs) ≡ Err f → piece_at last role (map stmt_of stmts) (tok_views xs) ≡ Err f
unfolding piece_at
piece_stopped last role stmts [] f h less e = absurd (omega arith)
piece_stopped last role stmts (x ∷ xs) f h less e =
    let few : nat_lt (length (map stmt_of stmts)) MAX_STMTS ≡ true = lt-ltb (length (map stmt_of stmts)) MAX_STMTS (omega (arith, length-map stmts stmt_of)) in
    rw (few, e) refl

-- a statement's answer, where all tokens have been read, is that of the whole
pub whole_gives : {U : Type 0} (last : ℕ) (role : Role) (ts rest : Tokens) (u : U) (end : Result U SqlFault) (answer whole : Result Stmt SqlFault) → stmt_at last role ts ≡ Ok (seen stmt_of answer, rest) → end ≡ at_end last (Ok u) rest → whole ≡ result_and end answer → Gives stmt_of whole (whole_at last role ts)
unfolding whole_at
whole_gives last role ts [] u end answer whole s e w = rw (s, w, e) (gives_seen stmt_of answer)
whole_gives last role ts (t ∷ us) u end answer whole s e w = rw (s, w, e) (gives_seen stmt_of (Err (misplaced last (t ∷ us))))
