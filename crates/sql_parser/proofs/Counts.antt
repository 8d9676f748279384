-- A table has no more columns than tokens.
use Rattle.std.proofs.Common.{◌≡◌, ℕ, zero, suc, ◌+◌, ◌≤◌, List, [], length, Option, Some, None, subst, arith, length-append}
use Rattle.std.proofs.lemmas.List.{length-map}
use Rattle.std.specs.Prelude.{map, Result, Ok, Err, Bool, true, false, if◌then◌else◌}
use Rattle.std.specs.Option.{option_map_or}
use Rattle.iso_lexer.specs.declared.sql_token.SqlSign.TheVariants as signs
use Rattle.sql_trees.specs.declared.fault.SqlFault.{SqlFault}
use Rattle.sql_trees.specs.declared.fault.SqlFault.TheVariants.{BadColumns}
use Rattle.sql_trees.specs.declared.word.Word.TheVariants as words
use Rattle.iso_lexer.specs.declared.token.At.{At}
use Rattle.sql_trees.specs.declared.stmt.Column.{Column}
use Rattle.sql_trees.specs.declared.token.Tok.{Tok}
use Rattle.sql_trees.specs.Statements.{ColumnTree, column_of}
use Rattle.sql_trees.specs.Tokens.{Tokens, tok_at, tok_views}
use Rattle.sql_expressions.specs.Results.{◌>>=◌}
use Rattle.sql_expressions.specs.Readers.{after, is_sign, expect, is_word, place_of, items_at, keyword, more_at, name_at}
use Rattle.sql_blocks.specs.Parts.{column_names}
use Rattle.sql_parser.proofs.Steps.{bind_ok, ok_same}
use Rattle.sql_parser.specs.Tables.{Placed, KeyRead, TableRead, has_name, with_key}
use Rattle.sql_parser.specs.Inner.Tables.{column_read, column_behind, key_add, key_at, limits_at, table_add}
use Rattle.sql_parser.specs.Grammar.{empty_table, with_column}

abbrev OneMore : TableRead → TableRead × Tokens → Type 0
OneMore t x = length x.0.columns ≤ suc (length t.columns)

module _ (last : ℕ) where
  key_counts : (primary : Bool) (t : TableRead) (ts : Tokens) (x : TableRead × Tokens) → key_at last primary t ts ≡ Ok x → OneMore t x
  unfolding key_at
  key_counts primary t ts x e =
      let a = bind_ok (expect last (is_sign signs.Open) ts) (λ us. items_at (key_add last) [] us >>= λ y. expect last (is_sign signs.Close) y.1 >>= λ rest. Ok (with_key primary y.0 t, rest)) x e in
      let b = bind_ok (items_at (key_add last) [] a.0) (λ y. expect last (is_sign signs.Close) y.1 >>= λ rest. Ok (with_key primary y.0 t, rest)) x a.2 in
      let c = bind_ok (expect last (is_sign signs.Close) b.0.1) (λ rest. Ok (with_key primary b.0.0 t, rest)) x b.2 in
      subst (OneMore t) (ok_same (with_key primary b.0.0 t, c.0) x c.2) (omega arith)

  behind_counts : (c : Placed) (t : TableRead) (ts : Tokens) (x : TableRead × Tokens) → column_behind last c t ts ≡ Ok x → OneMore t x
  unfolding column_behind
  behind_counts c t ts x e =
      let a = bind_ok (limits_at last c t.keys ts) (λ y. Ok (with_column c y.0.0 y.0.1 t, y.1)) x e in
      subst (OneMore t) (ok_same (with_column c a.0.0.0 a.0.0.1 t, a.0.1) x a.2) (omega (arith, length-append {A = ColumnTree}))

  abbrev named_column : TableRead → Tokens → List ℕ × Tokens → Bool → Result (TableRead × Tokens) SqlFault
  named_column t ts n b = if b then Err (BadColumns (place_of last ts)) else column_behind last (record { name = n.0; place = place_of last ts }) t n.1

  column_counts : (t : TableRead) (ts : Tokens) (x : TableRead × Tokens) → column_read last t ts ≡ Ok x → OneMore t x
  unfolding column_read
  column_counts t ts x e =
      let a = bind_ok (name_at last ts) (λ n. named_column t ts n (has_name n.0 (column_names t.columns))) x e in
      of_test a.0 (has_name a.0.0 (column_names t.columns)) a.2
    where
      of_test : (n : List ℕ × Tokens) (b : Bool) → named_column t ts n b ≡ Ok x → OneMore t x
      of_test n true h = absurd cc
      of_test n false h = behind_counts (record { name = n.0; place = place_of last ts }) t n.1 x h

  add_counts : (t : TableRead) (ts : Tokens) (x : TableRead × Tokens) → table_add last t ts ≡ Ok x → OneMore t x
  unfolding table_add
  add_counts t ts x e = of_primary (after (is_word words.Primary) ts) e
    where
      of_unique : (o : Option Tokens) → option_map_or (key_at last false t) o (column_read last t ts) ≡ Ok x → OneMore t x
      of_unique (Some us) h = key_counts false t us x h
      of_unique None h = column_counts t ts x h

      of_primary : (o : Option Tokens) → option_map_or (λ us. keyword last words.Key us >>= key_at last true t) o (option_map_or (key_at last false t) (after (is_word words.Unique) ts) (column_read last t ts)) ≡ Ok x → OneMore t x
      of_primary (Some us) h =
          let a = bind_ok (keyword last words.Key us) (key_at last true t) x h in
          key_counts true t a.0 x a.2
      of_primary None h = of_unique (after (is_word words.Unique) ts) h

  more_counts : (n : ℕ) (t : TableRead) (ts : Tokens) (x : TableRead × Tokens) → more_at (table_add last) n t ts ≡ Ok x → length x.0.columns ≤ length t.columns + n
  unfolding more_at
  more_counts zero t ts x e =
      subst (λ (y : TableRead × Tokens). length y.0.columns ≤ length t.columns + 0) (ok_same (t, ts) x e) (omega arith)
  more_counts (suc n) t ts x e = of_comma (more_counts n) (after (is_sign signs.Comma) ts) e
    where
      of_comma : ((u : TableRead) (us : Tokens) (y : TableRead × Tokens) → more_at (table_add last) n u us ≡ Ok y → length y.0.columns ≤ length u.columns + n) → (m : Option Tokens) → option_map_or (λ us. table_add last t us >>= λ y. more_at (table_add last) n y.0 y.1) m (Ok (t, ts)) ≡ Ok x → length x.0.columns ≤ length t.columns + suc n
      of_comma more None h =
          subst (λ (y : TableRead × Tokens). length y.0.columns ≤ length t.columns + suc n) (ok_same (t, ts) x h) (omega arith)
      of_comma more (Some us) h =
          let s = bind_ok (table_add last t us) (λ y. more_at (table_add last) n y.0 y.1) x h in
          omega (arith, more s.0.0 s.0.1 x s.2, add_counts t us s.0 s.1)

  -- one column at most for each token, and one
  pub table_counts : (ts : Tokens) (x : TableRead × Tokens) → items_at (table_add last) empty_table ts ≡ Ok x → length x.0.columns ≤ suc (length ts)
  unfolding items_at
  table_counts ts x e =
      let s = bind_ok (table_add last empty_table ts) (λ y. more_at (table_add last) (length ts) y.0 y.1) x e in
      omega (arith, more_counts (length ts) s.0.0 s.0.1 x s.2, add_counts empty_table ts s.0 s.1)

  pub table_fits : (cs : List Column) (ks : List KeyRead) (ts : List (At Tok)) (rest : Tokens) → items_at (table_add last) empty_table (tok_views ts) ≡ Ok (record { columns = map column_of cs; keys = ks }, rest) → length cs ≤ suc (length ts)
  table_fits cs ks ts rest e = omega (arith, table_counts (tok_views ts) _ e, length-map cs column_of, length-map ts tok_at)
