-- What is read of CREATE TABLE is kept: columns and keys as they are written.
use Rattle.std.proofs.Common.{◌≡◌, ℕ, zero, suc, ◌+◌, ◌<◌, ◌≤◌, List, [], ◌∷◌, ◌++◌, length, Option, Some, None, refl, sym, ap, subst, ◌∙◌, arith, length-append}
use Rattle.std.proofs.lemmas.List.{map-append}
use Rattle.std.specs.List.{list_all}
use Rattle.std.specs.Prelude.{ok_or, Result, Ok, Err, Bool, true, false, if◌then◌else◌}
use Rattle.std.specs.Option.{option_map_or}
use Rattle.iso_lexer.specs.declared.sql_token.SqlSign.TheVariants as signs
use Rattle.sql_trees.specs.declared.fault.SqlFault.{SqlFault}
use Rattle.sql_trees.specs.declared.fault.SqlFault.TheVariants.{BadColumns}
use Rattle.sql_trees.specs.declared.word.Word.TheVariants as words
use Rattle.sql_trees.specs.declared.kind.Kind.{Kind}
use Rattle.sql_trees.specs.Statements.{ColumnTree}
use Rattle.sql_trees.specs.Tokens.{Token, Tokens, named}
use Rattle.sql_trees.specs.Tokens as tok
use Rattle.sql_expressions.specs.Results.{◌>>=◌}
use Rattle.sql_expressions.specs.Readers.{after, is_sign, expect, misplaced, is_word, place_of, items_at, keyword, name_at}
use Rattle.sql_blocks.specs.Parts.{column_names}
use Rattle.sql_blocks.specs.Kept.{all_differ}
use Rattle.sql_parser.specs.Inner.Parts.{misplaced_word}
use Rattle.sql_parser.specs.Tables.{Placed, KeyRead, TableRead, has_name, placed_names, with_key}
use Rattle.sql_parser.specs.Grammar.{Constraints, empty_table, with_column, key_limit, kind_of}
use Rattle.sql_parser.specs.Inner.Tables.{kind_at, key_add, key_at, constraints_at, limits_at, column_behind, column_read, table_add}
use Rattle.sql_parser.specs.Inner.OneConstraint.{constraint_of, constraint_at, constrained}
use Rattle.sql_parser.proofs.Keeping.{differ_push}
use Rattle.sql_parser.proofs.Going.{turn_is}
use Rattle.sql_parser.proofs.Lists.{comma_shortens}
use Rattle.sql_parser.proofs.Steps.{bind_ok, ok_same, unless_ok, items_keep, push_all}

-- the columns of a key differ
abbrev pub key_differs : KeyRead → Bool
key_differs k = all_differ (placed_names k.columns)

-- keys and tokens are no more than bound together, and the tokens no more than left
record KeysWithin (bound left : ℕ) (keys : List KeyRead) (ts : Tokens) : Type 0 where
  few : length keys + length ts ≤ bound
  shorter : length ts ≤ left
  differ : list_all key_differs keys ≡ true

-- the table so far, and the tokens that are left
pub record TableWithin (bound : ℕ) (t : TableRead) (ts : Tokens) : Type 0 where
  pub columns : length t.columns + length ts ≤ bound
  pub keys : length t.keys + length ts ≤ bound
  pub names : all_differ (column_names t.columns) ≡ true
  pub differ : list_all key_differs t.keys ≡ true

module _ (last : ℕ) where
  pub expect_shorter : (is_it : Token → Bool) (ts us : Tokens) → expect last is_it ts ≡ Ok us → length us < length ts
  expect_shorter is_it [] us e = absurd cc
  expect_shorter is_it (t ∷ ts) us e = of_test (is_it t.tok) e
    where
      of_test : (b : Bool) → ok_or (if b then Some ts else None) (misplaced last (t ∷ ts)) ≡ Ok us → length us < length (t ∷ ts)
      of_test true h = subst (λ vs. length vs < length (t ∷ ts)) (ok_same ts us h) (omega arith)
      of_test false h = absurd cc

  pub name_shorter : (ts : Tokens) (x : List ℕ × Tokens) → name_at last ts ≡ Ok x → length x.1 < length ts
  name_shorter [] x e = absurd cc
  name_shorter (t ∷ ts) x e = of_name (named t.tok) e
    where
      of_name : (o : Option (List ℕ)) → option_map_or (λ n. Ok (n, ts)) o (Err (misplaced last (t ∷ ts))) ≡ Ok x → length x.1 < length (t ∷ ts)
      of_name None h = absurd cc
      of_name (Some n) h = subst (λ (y : List ℕ × Tokens). length y.1 < length (t ∷ ts)) (ok_same (n, ts) x h) (omega arith)

  kind_shorter : (ts : Tokens) (x : Kind × Tokens) → kind_at last ts ≡ Ok x → length x.1 < length ts
  kind_shorter [] x e = absurd cc
  kind_shorter (t ∷ ts) x e = of_kind (kind_of t.tok) e
    where
      of_kind : (o : Option Kind) → option_map_or (λ k. Ok (k, ts)) o (Err (misplaced_word last (t ∷ ts))) ≡ Ok x → length x.1 < length (t ∷ ts)
      of_kind None h = absurd cc
      of_kind (Some k) h = subst (λ (y : Kind × Tokens). length y.1 < length (t ∷ ts)) (ok_same (k, ts) x h) (omega arith)

  -- ---- keys over several columns

  record ColumnsWithin (bound : ℕ) (ns : List Placed) (ts : Tokens) : Type 0 where
    left : length ts ≤ bound
    differ : all_differ (placed_names ns) ≡ true

  abbrev one_placed : List ℕ → Tokens → Placed
  one_placed n ts = record { name = n; place = place_of last ts }

  key_add_keeps : (bound : ℕ) (ns : List Placed) (ts : Tokens) (x : List Placed × Tokens) → ColumnsWithin bound ns ts → key_add last ns ts ≡ Ok x → ColumnsWithin bound x.0 x.1
  key_add_keeps bound ns ts x k e =
      let a = bind_ok (name_at last ts) (λ y. if has_name y.0 (placed_names ns) then Err (BadColumns (place_of last ts)) else Ok (ns ++ one_placed y.0 ts ∷ [], y.1)) x e in
      let b = unless_ok (has_name a.0.0 (placed_names ns)) (BadColumns (place_of last ts)) (Ok (ns ++ one_placed a.0.0 ts ∷ [], a.0.1)) x a.2 in
      subst (λ (y : List Placed × Tokens). ColumnsWithin bound y.0 y.1) (ok_same (ns ++ one_placed a.0.0 ts ∷ [], a.0.1) x b.1) (record {
        left = omega (arith, k.left, name_shorter ts a.0 a.1);
        differ = ap all_differ (map-append (λ (n : Placed). n.name) ns (one_placed a.0.0 ts ∷ [])) ∙ differ_push (placed_names ns) a.0.0 k.differ b.0;
      })

  columns_comma : (bound : ℕ) (ns : List Placed) (ts us : Tokens) → ColumnsWithin bound ns ts → after (is_sign signs.Comma) ts ≡ Some us → ColumnsWithin bound ns us
  columns_comma bound ns ts us k e = record { left = omega (arith, k.left, comma_shortens ts us e); differ = k.differ }

  -- one more key, for a token at least
  more_keys : (bound left : ℕ) (keys : List KeyRead) (k : KeyRead) (ts us : Tokens) → KeysWithin bound left keys ts → length us < length ts → key_differs k ≡ true → KeysWithin bound left (keys ++ k ∷ []) us
  more_keys bound left keys k ts us w h d = record {
    few = omega (arith, w.few, length-append keys (k ∷ []));
    shorter = omega (arith, w.shorter);
    differ = push_all key_differs keys k w.differ d;
  }

  key_keeps : (bound : ℕ) (primary : Bool) (t : TableRead) (ts : Tokens) (x : TableRead × Tokens) → TableWithin bound t ts → key_at last primary t ts ≡ Ok x → TableWithin bound x.0 x.1
  unfolding key_at
  key_keeps bound primary t ts x k e =
      let a = bind_ok (expect last (is_sign signs.Open) ts) (λ us. items_at (key_add last) [] us >>= λ y. expect last (is_sign signs.Close) y.1 >>= λ rest. Ok (with_key primary y.0 t, rest)) x e in
      let b = bind_ok (items_at (key_add last) [] a.0) (λ y. expect last (is_sign signs.Close) y.1 >>= λ rest. Ok (with_key primary y.0 t, rest)) x a.2 in
      let c = bind_ok (expect last (is_sign signs.Close) b.0.1) (λ rest. Ok (with_key primary b.0.0 t, rest)) x b.2 in
      let w = items_keep (key_add last) (ColumnsWithin (length a.0)) (key_add_keeps (length a.0)) (columns_comma (length a.0)) [] a.0 b.0 (record { left = omega arith; differ = refl }) b.1 in
      let less : length c.0 < length ts = omega (arith, expect_shorter (is_sign signs.Open) ts a.0 a.1, w.left, expect_shorter (is_sign signs.Close) b.0.1 c.0 c.1) in
      let m = more_keys bound (length ts) t.keys (record { primary = primary; columns = b.0.0 }) ts c.0 (record { few = k.keys; shorter = omega arith; differ = k.differ }) less w.differ in
      subst (λ (y : TableRead × Tokens). TableWithin bound y.0 y.1) (ok_same (with_key primary b.0.0 t, c.0) x c.2) (record {
        columns = omega (arith, k.columns, less);
        keys = m.few;
        names = k.names;
        differ = m.differ;
      })

  -- ---- columns

  constraint_keeps : (bound left : ℕ) (c : Placed) (s : Constraints) (ts : Tokens) (x : Constraints × Tokens) → KeysWithin bound left s.keys ts → constraint_at last c s ts ≡ Ok x → KeysWithin bound left x.0.keys x.1
  constraint_keeps bound left c s [] x k e = absurd cc
  constraint_keeps bound left c s (t ∷ ts) x k e = of_token t.tok e
    where
      limited : (primary : Bool) (us : Tokens) → length us ≤ length ts → KeysWithin bound left (key_limit primary c s).keys us
      limited primary us h = more_keys bound left s.keys (record { primary = primary; columns = c ∷ [] }) (t ∷ ts) us k (omega arith) refl

      of_token : (w : Token) → constraint_of last c s w (t ∷ ts) ts ≡ Ok x → KeysWithin bound left x.0.keys x.1
      of_token (tok.word words.Not v) h =
          let a = bind_ok (keyword last words.Null ts) (λ us. Ok (record { not_null = true; keys = s.keys }, us)) x h in
          subst (λ (y : Constraints × Tokens). KeysWithin bound left y.0.keys y.1) (ok_same (record { not_null = true; keys = s.keys }, a.0) x a.2)
          (record { few = omega (arith, k.few, expect_shorter (is_word words.Null) ts a.0 a.1); shorter = omega (arith, k.shorter, expect_shorter (is_word words.Null) ts a.0 a.1); differ = k.differ })
      of_token (tok.word words.Primary v) h =
          let a = bind_ok (keyword last words.Key ts) (λ us. Ok (key_limit true c s, us)) x h in
          subst (λ (y : Constraints × Tokens). KeysWithin bound left y.0.keys y.1) (ok_same (key_limit true c s, a.0) x a.2) (limited true a.0 (omega (arith, expect_shorter (is_word words.Key) ts a.0 a.1)))
      of_token (tok.word words.Unique v) h =
          subst (λ (y : Constraints × Tokens). KeysWithin bound left y.0.keys y.1) (ok_same (key_limit false c s, ts) x h) (limited false ts (omega arith))
      of_token _ h = absurd cc

  constraints_keep : (bound left : ℕ) (c : Placed) (n : ℕ) (s : Constraints) (ts : Tokens) (x : Constraints × Tokens) → KeysWithin bound left s.keys ts → constraints_at last c n s ts ≡ Ok x → KeysWithin bound left x.0.keys x.1
  unfolding constraints_at
  constraints_keep bound left c zero s ts x k e = subst (λ (y : Constraints × Tokens). KeysWithin bound left y.0.keys y.1) (ok_same (s, ts) x e) k
  constraints_keep bound left c (suc n) s ts x k e = of_test (constraints_keep bound left c n) (constrained ts) (sym (turn_is last c n s ts) ∙ e)
    where
      of_test : ((r : Constraints) (us : Tokens) (y : Constraints × Tokens) → KeysWithin bound left r.keys us → constraints_at last c n r us ≡ Ok y → KeysWithin bound left y.0.keys y.1) → (b : Bool) → (if b then (constraint_at last c s ts >>= λ y. constraints_at last c n y.0 y.1) else Ok (s, ts)) ≡ Ok x → KeysWithin bound left x.0.keys x.1
      of_test go false h = subst (λ (y : Constraints × Tokens). KeysWithin bound left y.0.keys y.1) (ok_same (s, ts) x h) k
      of_test go true h =
          let a = bind_ok (constraint_at last c s ts) (λ y. constraints_at last c n y.0 y.1) x h in
          go a.0.0 a.0.1 x (constraint_keeps bound left c s ts a.0 k a.1) a.2

  behind_keeps : (bound : ℕ) (c : Placed) (t : TableRead) (ts : Tokens) (x : TableRead × Tokens) → length t.columns + suc (length ts) ≤ bound → length t.keys + length ts ≤ bound → all_differ (column_names t.columns) ≡ true → list_all key_differs t.keys ≡ true → has_name c.name (column_names t.columns) ≡ false → column_behind last c t ts ≡ Ok x → TableWithin bound x.0 x.1
  unfolding column_behind limits_at
  behind_keeps bound c t ts x hc hk hn hd new e =
      let a = bind_ok (limits_at last c t.keys ts) (λ y. Ok (with_column c y.0.0 y.0.1 t, y.1)) x e in
      let k = bind_ok (kind_at last ts) (λ k. constraints_at last c (length k.1) (record { not_null = false; keys = t.keys }) k.1 >>= λ y. Ok ((k.0, y.0), y.1)) a.0 a.1 in
      let s = bind_ok (constraints_at last c (length k.0.1) (record { not_null = false; keys = t.keys }) k.0.1) (λ y. Ok ((k.0.0, y.0), y.1)) a.0 k.2 in
      let w = constraints_keep bound (length ts) c (length k.0.1) (record { not_null = false; keys = t.keys }) k.0.1 s.0 (record { few = omega (arith, hk, kind_shorter ts k.0 k.1); shorter = omega (arith, kind_shorter ts k.0 k.1); differ = hd }) s.1 in
      let same = ok_same ((k.0.0, s.0.0), s.0.1) a.0 s.2 in
      subst (λ (y : TableRead × Tokens). TableWithin bound y.0 y.1) (ok_same (with_column c a.0.0.0 a.0.0.1 t, a.0.1) x a.2) (subst (λ (z : (Kind × Constraints) × Tokens). TableWithin bound (with_column c z.0.0 z.0.1 t) z.1) same (record {
        columns = omega (arith, hc, w.shorter, length-append {A = ColumnTree});
        keys = w.few;
        names = ap all_differ (map-append (λ (n : ColumnTree). n.name) t.columns (record { name = c.name; kind = k.0.0; not_null = s.0.0.not_null } ∷ [])) ∙ differ_push (column_names t.columns) c.name hn new;
        differ = w.differ;
      }))

  abbrev named_column : TableRead → Tokens → List ℕ × Tokens → Result (TableRead × Tokens) SqlFault
  named_column t ts n = if has_name n.0 (column_names t.columns) then Err (BadColumns (place_of last ts)) else column_behind last (one_placed n.0 ts) t n.1

  column_keeps : (bound : ℕ) (t : TableRead) (ts : Tokens) (x : TableRead × Tokens) → TableWithin bound t ts → column_read last t ts ≡ Ok x → TableWithin bound x.0 x.1
  unfolding column_read
  column_keeps bound t ts x k e =
      let a = bind_ok (name_at last ts) (λ n. named_column t ts n) x e in
      let b = unless_ok (has_name a.0.0 (column_names t.columns)) (BadColumns (place_of last ts)) (column_behind last (one_placed a.0.0 ts) t a.0.1) x a.2 in
      behind_keeps bound (one_placed a.0.0 ts) t a.0.1 x (omega (arith, k.columns, name_shorter ts a.0 a.1)) (omega (arith, k.keys, name_shorter ts a.0 a.1)) k.names k.differ b.0 b.1

  fewer_tokens : (bound : ℕ) (t : TableRead) (ts us : Tokens) → TableWithin bound t ts → length us ≤ length ts → TableWithin bound t us
  fewer_tokens bound t ts us k h = record { columns = omega (arith, k.columns); keys = omega (arith, k.keys); names = k.names; differ = k.differ }

  after_shorter : (is_it : Token → Bool) (ts us : Tokens) → after is_it ts ≡ Some us → length us ≤ length ts
  after_shorter is_it [] us e = absurd cc
  after_shorter is_it (t ∷ ts) us e = of_test (is_it t.tok) e
    where
      some_same : (a b : Tokens) → (let o : Option Tokens = Some a in o ≡ Some b) → a ≡ b
      some_same a b h = cc

      of_test : (b : Bool) → (if b then Some ts else None) ≡ Some us → length us ≤ length (t ∷ ts)
      of_test true h = subst (λ vs. length vs ≤ length (t ∷ ts)) (some_same ts us h) (omega arith)
      of_test false h = absurd cc

  add_keeps : (bound : ℕ) (t : TableRead) (ts : Tokens) (x : TableRead × Tokens) → TableWithin bound t ts → table_add last t ts ≡ Ok x → TableWithin bound x.0 x.1
  unfolding table_add
  add_keeps bound t ts x k e = of_primary (after (is_word words.Primary) ts) refl e
    where
      of_unique : (o : Option Tokens) → after (is_word words.Unique) ts ≡ o → option_map_or (key_at last false t) o (column_read last t ts) ≡ Ok x → TableWithin bound x.0 x.1
      of_unique (Some us) hu h = key_keeps bound false t us x (fewer_tokens bound t ts us k (after_shorter (is_word words.Unique) ts us hu)) h
      of_unique None hu h = column_keeps bound t ts x k h

      of_primary : (o : Option Tokens) → after (is_word words.Primary) ts ≡ o → option_map_or (λ us. keyword last words.Key us >>= key_at last true t) o (option_map_or (key_at last false t) (after (is_word words.Unique) ts) (column_read last t ts)) ≡ Ok x → TableWithin bound x.0 x.1
      of_primary (Some us) hp h =
          let a = bind_ok (keyword last words.Key us) (λ vs. key_at last true t vs) x h in
          key_keeps bound true t a.0 x (fewer_tokens bound t ts a.0 k (omega (arith, after_shorter (is_word words.Primary) ts us hp, expect_shorter (is_word words.Key) us a.0 a.1))) a.2
      of_primary None hp h = of_unique (after (is_word words.Unique) ts) refl h

  -- a table has no more columns and no more keys than it has tokens, and its columns differ, and those of each key
  pub table_within : (ts : Tokens) (x : TableRead × Tokens) → items_at (table_add last) empty_table ts ≡ Ok x → TableWithin (length ts) x.0 x.1
  table_within ts x e =
      items_keep (table_add last) (TableWithin (length ts)) (add_keeps (length ts)) (λ s us vs k h. fewer_tokens (length ts) s us vs k (omega (arith, comma_shortens us vs h))) empty_table ts x (record { columns = omega arith; keys = omega arith; names = refl; differ = refl }) e
