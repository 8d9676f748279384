-- Operands with what may stand before them, and comparisons with IS behind them.
use Rattle.std.proofs.Common.{◌≡◌, ℕ, [], ◌∷◌, Option, Some, None, refl}
use Rattle.std.specs.Prelude.{Ok, Err}
use Rattle.iso_lexer.specs.declared.token.At.{At}
use Rattle.iso_lexer.specs.declared.sql_token.SqlSign.TheVariants as signs
use Rattle.sql_trees.specs.declared.fault.SqlFault.{SqlFault}
use Rattle.sql_trees.specs.declared.word.Word.TheVariants as words
use Rattle.sql_trees.specs.Tokens.{Token, Tokens}
use Rattle.sql_trees.specs.Tokens as tok
use Rattle.sql_expressions.specs.declared.level.Opened.{Opened}
use Rattle.sql_expressions.specs.declared.level.Prefix.{Prefix}
use Rattle.sql_expressions.specs.Results.{◌>>=◌}
use Rattle.sql_expressions.specs.Reading.{comparison_op}
use Rattle.sql_expressions.specs.Inner.Pieces.{Found, Reader, Found_op, deeper, next_op, prefix_of, placed_prefix, prefix_at, opened_of, prefixed_at, atom_at, parens_at, sign_at, una_of, una_at, inn_at, cmp_at, maybe_is, is_at, compared_at}

module _ (last : ℕ) (inside : Opened → ℕ → Reader) where
  abbrev by_prefix : Option (Prefix × ℕ × Tokens) → Reader
  by_prefix None ts = atom_at last ts
  by_prefix (Some x) ts = inside (opened_of x.0) x.1 x.2 >>= prefixed_at last x.0 x.1

  una_token : (x : Token) (t : At Token) (ts : Tokens) → t.tok ≡ x → una_of last inside x t ts ≡ by_prefix (placed_prefix t ts (prefix_of x)) (t ∷ ts)
  unfolding sign_at parens_at
  una_token (tok.sign signs.Minus) t ts h = refl
  una_token (tok.sign signs.Plus) t ts h = refl
  una_token (tok.sign signs.Open) t ts h = rw h refl
  una_token (tok.number n) t ts h = rw h refl
  una_token (tok.string s) t ts h = rw h refl
  una_token (tok.word words.True s) t ts h = rw h refl
  una_token (tok.word words.False s) t ts h = rw h refl
  una_token (tok.word words.Null s) t ts h = rw h refl
  una_token _ t ts h = rw h refl

  una_is : (ts : Tokens) → una_at last inside ts ≡ by_prefix (prefix_at ts) ts
  una_is [] = refl
  una_is (t ∷ ts) = una_token t.tok t ts refl

  pub una_alone : (ts : Tokens) → prefix_at ts ≡ None → una_at last inside ts ≡ atom_at last ts
  una_alone ts e = rw (una_is ts, e) refl

  pub una_stops : (ts : Tokens) (x : Prefix × ℕ × Tokens) (f : SqlFault) → prefix_at ts ≡ Some x → inside (opened_of x.0) x.1 x.2 ≡ Err f → una_at last inside ts ≡ Err f
  una_stops ts x f e k = rw (una_is ts, e, k) refl

  pub una_made : (ts : Tokens) (x : Prefix × ℕ × Tokens) (a : Found) → prefix_at ts ≡ Some x → inside (opened_of x.0) x.1 x.2 ≡ Ok a → una_at last inside ts ≡ prefixed_at last x.0 x.1 a
  una_made ts x a e k = rw (una_is ts, e, k) refl

  pub is_stops : (ts : Tokens) (f : SqlFault) → inn_at last inside ts ≡ Err f → is_at last inside ts ≡ Err f
  unfolding is_at cmp_at
  is_stops ts f e = rw e refl

  pub is_alone : (ts : Tokens) (a : Found) → inn_at last inside ts ≡ Ok a → next_op comparison_op a.rest ≡ None → is_at last inside ts ≡ maybe_is last a a.rest
  unfolding is_at cmp_at
  is_alone ts a e n = rw (e, n) refl

  pub is_no_room : (ts : Tokens) (a : Found) (o : Found_op) (f : SqlFault) → inn_at last inside ts ≡ Ok a → next_op comparison_op a.rest ≡ Some o → deeper o.place a.depth ≡ Err f → is_at last inside ts ≡ Err f
  unfolding is_at cmp_at
  is_no_room ts a o f e n h = rw (e, n, h) refl

  pub is_no_right : (ts : Tokens) (a : Found) (o : Found_op) (d : ℕ) (f : SqlFault) → inn_at last inside ts ≡ Ok a → next_op comparison_op a.rest ≡ Some o → deeper o.place a.depth ≡ Ok d → inn_at last inside o.rest ≡ Err f → is_at last inside ts ≡ Err f
  unfolding is_at cmp_at
  is_no_right ts a o d f e n h k = rw (e, n, h, k) refl

  pub is_compared : (ts : Tokens) (a b : Found) (o : Found_op) (d : ℕ) → inn_at last inside ts ≡ Ok a → next_op comparison_op a.rest ≡ Some o → deeper o.place a.depth ≡ Ok d → inn_at last inside o.rest ≡ Ok b → is_at last inside ts ≡ compared_at last o a b
  unfolding is_at cmp_at
  is_compared ts a b o d e n h k = rw (e, n, h, k) refl
