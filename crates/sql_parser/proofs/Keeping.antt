-- What is read of INSERT, UPDATE, DELETE and SELECT is kept.
use Rattle.std.proofs.Common.{◌≡◌, ℕ, List, [], ◌∷◌, ◌++◌, length, Option, Some, None, refl, sym, ap, subst, ◌∙◌}
use Rattle.std.proofs.lemmas.Bool.{and_from, and_parts, or_parts, not_from_false}
use Rattle.std.proofs.lemmas.List.{map-append}
use Rattle.std.proofs.lemmas.List.Folds.{list_any-append}
use Rattle.std.specs.List.{list_any, list_all}
use Rattle.std.specs.Prelude.{Result, Ok, Err, Bool, true, false, not, ◌&&◌, ◌||◌, bytes_eq, option_map, if◌then◌else◌}
use Rattle.std.specs.Option.{option_map_or}
use Rattle.iso_lexer.specs.declared.sql_token.SqlSign.TheVariants as signs
use Rattle.sql_trees.specs.declared.fault.SqlFault.{SqlFault}
use Rattle.sql_trees.specs.declared.fault.SqlFault.TheVariants.{Syntax, BadColumns, LeftOut}
use Rattle.sql_trees.specs.declared.word.Word.TheVariants as words
use Rattle.sql_trees.specs.declared.expr.AggKind.{AggKind}
use Rattle.sql_trees.specs.Statements.{StmtTree, SetTree, ItemTree, OrderTree, SelectTree, Inserts, Updates, Deletes, Selects, All, Value, Aggregate}
use Rattle.sql_trees.specs.Tokens.{Tokens}
use Rattle.sql_trees.specs.Trees.{Tree, AggTree, CountRows, Of}
use Rattle.sql_expressions.specs.Results.{◌>>=◌}
use Rattle.sql_expressions.specs.Readers.{after, expect, is_sign, is_word, place_of, items_at, keyword, name_at, closed, added}
use Rattle.sql_blocks.specs.Parts.{fits, set_columns, is_allowed}
use Rattle.sql_blocks.specs.Kept.{is_shallow, maybe_shallow, item_shallow, all_differ, columns_differ, rows_fit, returned_kept, returning_kept, is_kept, makes_or_drops}
use Rattle.sql_parser.specs.Readers.{tree_at}
use Rattle.sql_parser.specs.Tables.{has_name}
use Rattle.sql_parser.specs.Grammar.{Rows}
use Rattle.sql_parser.specs.Inner.Changes.{distinct_add, row_add, columns_at, returning_at, insert_at, set_value, set_add, update_at, delete_at}
use Rattle.sql_parser.specs.Changes.{alias_at, conflict_at, filter_at, returned_at}
use Rattle.sql_parser.specs.Inner.Queries.{call_at, counts_rows, direction_at, nulls_at, agg_at, item_of, item_at, from_at, order_add, order_at, lock_at, query_of, select_at}
use Rattle.sql_parser.proofs.Depths.{read_shallow}
use Rattle.sql_parser.proofs.Steps.{bind_ok, ok_same, unless_ok, when_ok, items_hold, push_all}

-- a statement that is kept, and whether it makes or drops a table
pub record Fine (ddl : Bool) (s : StmtTree) : Type 0 where
  pub kept : is_kept s ≡ true
  pub made : makes_or_drops s ≡ ddl

-- ---- names that differ

pub or_none : (x y : Bool) → x ≡ false → y ≡ false → (x || y) ≡ false
or_none true y h k = absurd cc
or_none false y h k = k

pub differ_push : (ns : List (List ℕ)) (n : List ℕ) → all_differ ns ≡ true → has_name n ns ≡ false → all_differ (ns ++ n ∷ []) ≡ true
differ_push [] n h k = refl
differ_push (m ∷ ms) n h k =
    let p = and_parts (not (list_any (bytes_eq m) ms)) (all_differ ms) h in
    let q = or_parts (bytes_eq m n) (list_any (λ o. bytes_eq o n) ms) k in
    let others = not_true (list_any (bytes_eq m) ms) p.0 in
    let none : list_any (bytes_eq m) (ms ++ n ∷ []) ≡ false = list_any-append (bytes_eq m) ms (n ∷ []) ∙ or_none (list_any (bytes_eq m) ms) (list_any (bytes_eq m) (n ∷ [])) others (or_none (bytes_eq m n) false q.0 refl) in
    and_from (not (list_any (bytes_eq m) (ms ++ n ∷ []))) (all_differ (ms ++ n ∷ [])) (not_from_false (list_any (bytes_eq m) (ms ++ n ∷ [])) none) (differ_push ms n p.1 q.1)
  where
    not_true : (b : Bool) → not b ≡ true → b ≡ false
    not_true true e = absurd cc
    not_true false e = refl

-- ---- rows

abbrev pub width_behind : Option ℕ → List (List Tree) → Option ℕ
width_behind w [] = w
width_behind w (r ∷ rs) = width_behind (Some (length r)) rs

rows_push : (w : Option ℕ) (rs : List (List Tree)) (r : List Tree) → rows_fit w rs ≡ true → fits (width_behind w rs) (length r) ≡ true → rows_fit w (rs ++ r ∷ []) ≡ true
rows_push w [] r h k = and_from (fits w (length r)) true k refl
rows_push w (q ∷ rs) r h k =
    let p = and_parts (fits w (length q)) (rows_fit (Some (length q)) rs) h in
    and_from (fits w (length q)) (rows_fit (Some (length q)) (rs ++ r ∷ [])) p.0 (rows_push (Some (length q)) rs r p.1 k)

pub behind_push : (w : Option ℕ) (rs : List (List Tree)) (r : List Tree) → width_behind w (rs ++ r ∷ []) ≡ Some (length r)
behind_push w [] r = refl
behind_push w (q ∷ rs) r = behind_push (Some (length q)) rs r

record RowsKept (w : Option ℕ) (s : Rows) : Type 0 where
  width : s.width ≡ width_behind w s.rows
  fit : rows_fit w s.rows ≡ true
  shallow : list_all (list_all is_shallow) s.rows ≡ true

abbrev OneRow : Rows → List Tree → Rows
OneRow s r = record { rows = s.rows ++ r ∷ []; width = Some (length r) }

module _ (last : ℕ) where
  value_keeps : (es : List Tree) (ts : Tokens) (x : List Tree × Tokens) → list_all is_shallow es ≡ true → added (tree_at last) es ts ≡ Ok x → list_all is_shallow x.0 ≡ true
  value_keeps es ts x h e =
      let a = bind_ok (tree_at last ts) (λ y. Ok (es ++ y.0 ∷ [], y.1)) x e in
      subst (λ (y : List Tree × Tokens). list_all is_shallow y.0 ≡ true) (ok_same (es ++ a.0.0 ∷ [], a.0.1) x a.2) (push_all is_shallow es a.0.0 h (read_shallow last ts a.0 a.1))

  distinct_keeps : (ns : List (List ℕ)) (ts : Tokens) (x : List (List ℕ) × Tokens) → all_differ ns ≡ true → distinct_add last ns ts ≡ Ok x → all_differ x.0 ≡ true
  distinct_keeps ns ts x h e =
      let a = bind_ok (name_at last ts) (λ y. if has_name y.0 ns then Err (BadColumns (place_of last ts)) else Ok (ns ++ y.0 ∷ [], y.1)) x e in
      let b = unless_ok (has_name a.0.0 ns) (BadColumns (place_of last ts)) (Ok (ns ++ a.0.0 ∷ [], a.0.1)) x a.2 in
      subst (λ (y : List (List ℕ) × Tokens). all_differ y.0 ≡ true) (ok_same (ns ++ a.0.0 ∷ [], a.0.1) x b.1) (differ_push ns a.0.0 h b.0)

  abbrev row_end : Rows → Tokens → List Tree → Tokens → Result (Rows × Tokens) SqlFault
  row_end s ts r rest = if fits s.width (length r) then Ok (OneRow s r, rest) else Err (Syntax (place_of last ts))

  row_keeps : (w : Option ℕ) (s : Rows) (ts : Tokens) (x : Rows × Tokens) → RowsKept w s → row_add last s ts ≡ Ok x → RowsKept w x.0
  unfolding row_add
  row_keeps w s ts x k e =
      let a = bind_ok (expect last (is_sign signs.Open) ts) (λ us. items_at (added (tree_at last)) [] us >>= λ v. expect last (is_sign signs.Close) v.1 >>= λ rest. row_end s ts v.0 rest) x e in
      let b = bind_ok (items_at (added (tree_at last)) [] a.0) (λ v. expect last (is_sign signs.Close) v.1 >>= λ rest. row_end s ts v.0 rest) x a.2 in
      let c = bind_ok (expect last (is_sign signs.Close) b.0.1) (λ rest. row_end s ts b.0.0 rest) x b.2 in
      let d = when_ok (fits s.width (length b.0.0)) (Syntax (place_of last ts)) (Ok (OneRow s b.0.0, c.0)) x c.2 in
      subst (λ (y : Rows × Tokens). RowsKept w y.0) (ok_same (OneRow s b.0.0, c.0) x d.1) (record {
        width = sym (behind_push w s.rows b.0.0);
        fit = rows_push w s.rows b.0.0 k.fit (subst (λ o. fits o (length b.0.0) ≡ true) k.width d.0);
        shallow = push_all (list_all is_shallow) s.rows b.0.0 k.shallow (items_hold (added (tree_at last)) (λ es. list_all is_shallow es ≡ true) value_keeps [] a.0 b.0 refl b.1);
      })

  columns_keep : (ts : Tokens) (x : Option (List (List ℕ)) × Tokens) → columns_at last ts ≡ Ok x → columns_differ x.0 ≡ true
  unfolding columns_at
  columns_keep ts x e = of_open (after (is_sign signs.Open) ts) e
    where
      of_open : (o : Option Tokens) → option_map_or (closed last (λ ns. Some ns) (items_at (distinct_add last) [])) o (Ok (None, ts)) ≡ Ok x → columns_differ x.0 ≡ true
      of_open None h = subst (λ (y : Option (List (List ℕ)) × Tokens). columns_differ y.0 ≡ true) (ok_same (None, ts) x h) refl
      of_open (Some us) h =
          let a = bind_ok (items_at (distinct_add last) [] us) (λ y. expect last (is_sign signs.Close) y.1 >>= λ rest. Ok (Some y.0, rest)) x h in
          let b = bind_ok (expect last (is_sign signs.Close) a.0.1) (λ rest. Ok (Some a.0.0, rest)) x a.2 in
          subst (λ (y : Option (List (List ℕ)) × Tokens). columns_differ y.0 ≡ true) (ok_same (Some a.0.0, b.0) x b.2) (items_hold (distinct_add last) (λ ns. all_differ ns ≡ true) distinct_keeps [] us a.0 refl a.1)

  -- ---- RETURNING

  returned_keeps : (ts : Tokens) (x : ItemTree × Tokens) → returned_at last ts ≡ Ok x → returned_kept x.0 ≡ true
  unfolding returned_at
  returned_keeps ts x e = of_star (after (is_sign signs.Star) ts) e
    where
      of_star : (o : Option Tokens) → option_map_or (λ us. Ok (All, us)) o (tree_at last ts >>= λ a. alias_at last a.1 >>= λ n. Ok (Value a.0 n.0, n.1)) ≡ Ok x → returned_kept x.0 ≡ true
      of_star (Some us) h = subst (λ (y : ItemTree × Tokens). returned_kept y.0 ≡ true) (ok_same (All, us) x h) refl
      of_star None h =
          let a = bind_ok (tree_at last ts) (λ a. alias_at last a.1 >>= λ n. Ok (Value a.0 n.0, n.1)) x h in
          let n = bind_ok (alias_at last a.0.1) (λ n. Ok (Value a.0.0 n.0, n.1)) x a.2 in
          subst (λ (y : ItemTree × Tokens). returned_kept y.0 ≡ true) (ok_same (Value a.0.0 n.0.0, n.0.1) x n.2) (read_shallow last ts a.0 a.1)

  returned_add_keep : (is : List ItemTree) (ts : Tokens) (x : List ItemTree × Tokens) → list_all returned_kept is ≡ true → added (returned_at last) is ts ≡ Ok x → list_all returned_kept x.0 ≡ true
  returned_add_keep is ts x h e =
      let a = bind_ok (returned_at last ts) (λ y. Ok (is ++ y.0 ∷ [], y.1)) x e in
      subst (λ (y : List ItemTree × Tokens). list_all returned_kept y.0 ≡ true) (ok_same (is ++ a.0.0 ∷ [], a.0.1) x a.2) (push_all returned_kept is a.0.0 h (returned_keeps ts a.0 a.1))

  returning_keeps : (ts : Tokens) (x : Option (List ItemTree) × Tokens) → returning_at last ts ≡ Ok x → returning_kept x.0 ≡ true
  unfolding returning_at
  returning_keeps ts x e = of_word (after (is_word words.Returning) ts) e
    where
      of_word : (o : Option Tokens) → option_map_or (λ us. items_at (added (returned_at last)) [] us >>= λ y. Ok (Some y.0, y.1)) o (Ok (None, ts)) ≡ Ok x → returning_kept x.0 ≡ true
      of_word None h = subst (λ (y : Option (List ItemTree) × Tokens). returning_kept y.0 ≡ true) (ok_same (None, ts) x h) refl
      of_word (Some us) h =
          let a = bind_ok (items_at (added (returned_at last)) [] us) (λ y. Ok (Some y.0, y.1)) x h in
          subst (λ (y : Option (List ItemTree) × Tokens). returning_kept y.0 ≡ true) (ok_same (Some a.0.0, a.0.1) x a.2) (items_hold (added (returned_at last)) (λ is. list_all returned_kept is ≡ true) returned_add_keep [] us a.0 refl a.1)

  -- the statement that RETURNING ends
  module _ (made : Option (List ItemTree) → StmtTree) where
    abbrev returns_made : Tokens → Result (StmtTree × Tokens) SqlFault
    returns_made us = returning_at last us >>= λ t. Ok (made t.0, t.1)

    made_fine : (us : Tokens) (x : StmtTree × Tokens) → ((t : Option (List ItemTree)) → returning_kept t ≡ true → Fine false (made t)) → returns_made us ≡ Ok x → Fine false x.0
    made_fine us x fine e =
        let t = bind_ok (returning_at last us) (λ t. Ok (made t.0, t.1)) x e in
        subst (λ (y : StmtTree × Tokens). Fine false y.0) (ok_same (made t.0.0, t.0.1) x t.2) (fine t.0.0 (returning_keeps us t.0 t.1))

  -- ---- INSERT

  abbrev inserted : List ℕ → Option (List (List ℕ)) → List (List Tree) → Bool → Option (List ItemTree) → StmtTree
  inserted table columns rows d t = Inserts (record { table = table; columns = columns; rows = rows; do_nothing = d; returning = t })

  abbrev conflict_behind : List ℕ → Option (List (List ℕ)) → List (List Tree) → Tokens → Result (StmtTree × Tokens) SqlFault
  conflict_behind table columns rows us = conflict_at last us >>= λ d. returns_made (inserted table columns rows d.0) d.1

  abbrev insert_rows : List ℕ → Option (List (List ℕ)) → Tokens → Result (StmtTree × Tokens) SqlFault
  insert_rows table columns vs = items_at (row_add last) (record { rows = []; width = option_map length columns }) vs >>= λ r. conflict_behind table columns r.0.rows r.1

  pub insert_fine : (ts : Tokens) (x : StmtTree × Tokens) → insert_at last ts ≡ Ok x → Fine false x.0
  unfolding insert_at
  insert_fine ts x e =
      let a = bind_ok (keyword last words.Into ts) (λ us. name_at last us >>= λ n. columns_at last n.1 >>= λ c. keyword last words.Values c.1 >>= λ vs. insert_rows n.0 c.0 vs) x e in
      let n = bind_ok (name_at last a.0) (λ n. columns_at last n.1 >>= λ c. keyword last words.Values c.1 >>= λ vs. insert_rows n.0 c.0 vs) x a.2 in
      let c = bind_ok (columns_at last n.0.1) (λ c. keyword last words.Values c.1 >>= λ vs. insert_rows n.0.0 c.0 vs) x n.2 in
      let v = bind_ok (keyword last words.Values c.0.1) (λ vs. insert_rows n.0.0 c.0.0 vs) x c.2 in
      let r = bind_ok (items_at (row_add last) (record { rows = []; width = option_map length c.0.0 }) v.0) (λ r. conflict_behind n.0.0 c.0.0 r.0.rows r.1) x v.2 in
      let d = bind_ok (conflict_at last r.0.1) (λ d. returns_made (inserted n.0.0 c.0.0 r.0.0.rows d.0) d.1) x r.2 in
      let k = items_hold (row_add last) (RowsKept (option_map length c.0.0)) (row_keeps (option_map length c.0.0)) (record { rows = []; width = option_map length c.0.0 }) v.0 r.0 (record { width = refl; fit = refl; shallow = refl }) r.1 in
      made_fine (inserted n.0.0 c.0.0 r.0.0.rows d.0.0) d.0.1 x (λ t h. record {
        kept = and_from (columns_differ c.0.0) (rows_fit (option_map length c.0.0) r.0.0.rows && (list_all (list_all is_shallow) r.0.0.rows && returning_kept t)) (columns_keep n.0.1 c.0 c.1)
            (and_from (rows_fit (option_map length c.0.0) r.0.0.rows) (list_all (list_all is_shallow) r.0.0.rows && returning_kept t) k.fit (and_from (list_all (list_all is_shallow) r.0.0.rows) (returning_kept t) k.shallow h));
        made = refl;
      }) d.2

  -- ---- UPDATE and DELETE

  filter_keeps : (ts : Tokens) (x : Option Tree × Tokens) → filter_at last ts ≡ Ok x → maybe_shallow x.0 ≡ true
  unfolding filter_at
  filter_keeps ts x e = of_where (after (is_word words.Where) ts) e
    where
      of_where : (o : Option Tokens) → option_map_or (λ us. tree_at last us >>= λ e. Ok (Some e.0, e.1)) o (Ok (None, ts)) ≡ Ok x → maybe_shallow x.0 ≡ true
      of_where None h = subst (λ (y : Option Tree × Tokens). maybe_shallow y.0 ≡ true) (ok_same (None, ts) x h) refl
      of_where (Some us) h =
          let a = bind_ok (tree_at last us) (λ y. Ok (Some y.0, y.1)) x h in
          subst (λ (y : Option Tree × Tokens). maybe_shallow y.0 ≡ true) (ok_same (Some a.0.0, a.0.1) x a.2) (read_shallow last us a.0 a.1)

  record SetsKept (ss : List SetTree) : Type 0 where
    differ : all_differ (set_columns ss) ≡ true
    shallow : list_all (λ s. is_shallow s.value) ss ≡ true

  abbrev OneSet : List ℕ → Tree → SetTree
  OneSet n e = record { column = n; value = e }

  set_keeps : (ss : List SetTree) (ts : Tokens) (x : List SetTree × Tokens) → SetsKept ss → set_add last ss ts ≡ Ok x → SetsKept x.0
  unfolding set_add
  set_keeps ss ts x k e =
      let a = bind_ok (name_at last ts) (λ y. if has_name y.0 (set_columns ss) then Err (BadColumns (place_of last ts)) else set_value last y.0 ss y.1) x e in
      let b = unless_ok (has_name a.0.0 (set_columns ss)) (BadColumns (place_of last ts)) (set_value last a.0.0 ss a.0.1) x a.2 in
      let c = bind_ok (expect last (is_sign signs.Equal) a.0.1) (λ us. tree_at last us >>= λ v. Ok (ss ++ OneSet a.0.0 v.0 ∷ [], v.1)) x b.1 in
      let v = bind_ok (tree_at last c.0) (λ v. Ok (ss ++ OneSet a.0.0 v.0 ∷ [], v.1)) x c.2 in
      subst (λ (y : List SetTree × Tokens). SetsKept y.0) (ok_same (ss ++ OneSet a.0.0 v.0.0 ∷ [], v.0.1) x v.2) (record {
        differ = ap all_differ (map-append (λ (s : SetTree). s.column) ss (OneSet a.0.0 v.0.0 ∷ [])) ∙ differ_push (set_columns ss) a.0.0 k.differ b.0;
        shallow = push_all (λ (s : SetTree). is_shallow s.value) ss (OneSet a.0.0 v.0.0) k.shallow (read_shallow last c.0 v.0 v.1);
      })

  abbrev updated : List ℕ → List SetTree → Option Tree → Option (List ItemTree) → StmtTree
  updated table sets filter t = Updates (record { table = table; sets = sets; filter = filter; returning = t })

  abbrev filter_behind : List ℕ → List SetTree → Tokens → Result (StmtTree × Tokens) SqlFault
  filter_behind table sets us = filter_at last us >>= λ f. returns_made (updated table sets f.0) f.1

  pub update_fine : (ts : Tokens) (x : StmtTree × Tokens) → update_at last ts ≡ Ok x → Fine false x.0
  unfolding update_at
  update_fine ts x e =
      let n = bind_ok (name_at last ts) (λ n. keyword last words.Set n.1 >>= λ us. items_at (set_add last) [] us >>= λ s. filter_behind n.0 s.0 s.1) x e in
      let a = bind_ok (keyword last words.Set n.0.1) (λ us. items_at (set_add last) [] us >>= λ s. filter_behind n.0.0 s.0 s.1) x n.2 in
      let s = bind_ok (items_at (set_add last) [] a.0) (λ s. filter_behind n.0.0 s.0 s.1) x a.2 in
      let f = bind_ok (filter_at last s.0.1) (λ f. returns_made (updated n.0.0 s.0.0 f.0) f.1) x s.2 in
      let k = items_hold (set_add last) SetsKept set_keeps [] a.0 s.0 (record { differ = refl; shallow = refl }) s.1 in
      made_fine (updated n.0.0 s.0.0 f.0.0) f.0.1 x (λ t h. record {
        kept = and_from (all_differ (set_columns s.0.0)) (list_all (λ (y : SetTree). is_shallow y.value) s.0.0 && (maybe_shallow f.0.0 && returning_kept t)) k.differ
            (and_from (list_all (λ (y : SetTree). is_shallow y.value) s.0.0) (maybe_shallow f.0.0 && returning_kept t) k.shallow (and_from (maybe_shallow f.0.0) (returning_kept t) (filter_keeps s.0.1 f.0 f.1) h));
        made = refl;
      }) f.2

  abbrev deleted : List ℕ → Option Tree → Option (List ItemTree) → StmtTree
  deleted table filter t = Deletes (record { table = table; filter = filter; returning = t })

  pub delete_fine : (ts : Tokens) (x : StmtTree × Tokens) → delete_at last ts ≡ Ok x → Fine false x.0
  unfolding delete_at
  delete_fine ts x e =
      let a = bind_ok (keyword last words.From ts) (λ us. name_at last us >>= λ n. filter_at last n.1 >>= λ f. returns_made (deleted n.0 f.0) f.1) x e in
      let n = bind_ok (name_at last a.0) (λ n. filter_at last n.1 >>= λ f. returns_made (deleted n.0 f.0) f.1) x a.2 in
      let f = bind_ok (filter_at last n.0.1) (λ f. returns_made (deleted n.0.0 f.0) f.1) x n.2 in
      made_fine (deleted n.0.0 f.0.0) f.0.1 x (λ t h. record { kept = and_from (maybe_shallow f.0.0) (returning_kept t) (filter_keeps n.0.1 f.0 f.1) h; made = refl }) f.2

  -- ---- SELECT

  abbrev agg_shallow : AggTree → Bool
  agg_shallow a = item_shallow (Aggregate a None)

  agg_keeps : (k : AggKind) (ts : Tokens) (x : AggTree × Tokens) → agg_at last k ts ≡ Ok x → agg_shallow x.0 ≡ true
  unfolding agg_at
  agg_keeps k ts x e = of_rows (counts_rows k ts) e
    where
      of_rows : (o : Option Tokens) → option_map_or (λ us. expect last (is_sign signs.Close) us >>= λ rest. Ok (CountRows, rest)) o (closed last (Of k) (tree_at last) ts) ≡ Ok x → agg_shallow x.0 ≡ true
      of_rows (Some us) h =
          let a = bind_ok (expect last (is_sign signs.Close) us) (λ rest. Ok (CountRows, rest)) x h in
          subst (λ (y : AggTree × Tokens). agg_shallow y.0 ≡ true) (ok_same (CountRows, a.0) x a.2) refl
      of_rows None h =
          let a = bind_ok (tree_at last ts) (λ y. expect last (is_sign signs.Close) y.1 >>= λ rest. Ok (Of k y.0, rest)) x h in
          let b = bind_ok (expect last (is_sign signs.Close) a.0.1) (λ rest. Ok (Of k a.0.0, rest)) x a.2 in
          subst (λ (y : AggTree × Tokens). agg_shallow y.0 ≡ true) (ok_same (Of k a.0.0, b.0) x b.2) (read_shallow last ts a.0 a.1)

  named_agg : (a : AggTree) (alias : Option (List ℕ)) → agg_shallow a ≡ true → item_shallow (Aggregate a alias) ≡ true
  named_agg CountRows alias h = refl
  named_agg (Of k e) alias h = h

  item_keeps : (ts : Tokens) (x : ItemTree × Tokens) → item_at last ts ≡ Ok x → item_shallow x.0 ≡ true
  unfolding item_at
  item_keeps ts x e = of_star (after (is_sign signs.Star) ts) e
    where
      of_call : (o : Option (AggKind × Tokens)) → item_of last o ts ≡ Ok x → item_shallow x.0 ≡ true
      of_call (Some c) h =
          let a = bind_ok (agg_at last c.0 c.1) (λ a. alias_at last a.1 >>= λ n. Ok (Aggregate a.0 n.0, n.1)) x h in
          let n = bind_ok (alias_at last a.0.1) (λ n. Ok (Aggregate a.0.0 n.0, n.1)) x a.2 in
          subst (λ (y : ItemTree × Tokens). item_shallow y.0 ≡ true) (ok_same (Aggregate a.0.0 n.0.0, n.0.1) x n.2) (named_agg a.0.0 n.0.0 (agg_keeps c.0 c.1 a.0 a.1))
      of_call None h =
          let a = bind_ok (tree_at last ts) (λ a. alias_at last a.1 >>= λ n. Ok (Value a.0 n.0, n.1)) x h in
          let n = bind_ok (alias_at last a.0.1) (λ n. Ok (Value a.0.0 n.0, n.1)) x a.2 in
          subst (λ (y : ItemTree × Tokens). item_shallow y.0 ≡ true) (ok_same (Value a.0.0 n.0.0, n.0.1) x n.2) (read_shallow last ts a.0 a.1)

      of_star : (o : Option Tokens) → option_map_or (λ us. Ok (All, us)) o (item_of last (call_at ts) ts) ≡ Ok x → item_shallow x.0 ≡ true
      of_star (Some us) h = subst (λ (y : ItemTree × Tokens). item_shallow y.0 ≡ true) (ok_same (All, us) x h) refl
      of_star None h = of_call (call_at ts) h

  items_add_keep : (is : List ItemTree) (ts : Tokens) (x : List ItemTree × Tokens) → list_all item_shallow is ≡ true → added (item_at last) is ts ≡ Ok x → list_all item_shallow x.0 ≡ true
  items_add_keep is ts x h e =
      let a = bind_ok (item_at last ts) (λ y. Ok (is ++ y.0 ∷ [], y.1)) x e in
      subst (λ (y : List ItemTree × Tokens). list_all item_shallow y.0 ≡ true) (ok_same (is ++ a.0.0 ∷ [], a.0.1) x a.2) (push_all item_shallow is a.0.0 h (item_keeps ts a.0 a.1))

  abbrev key_shallow : OrderTree → Bool
  key_shallow k = is_shallow k.expr

  abbrev one_key : Tree → Bool → Bool → OrderTree
  one_key e desc first = record { expr = e; dir = record { desc = desc; nulls_first = first } }

  key_keeps : (ks : List OrderTree) (ts : Tokens) (x : List OrderTree × Tokens) → list_all key_shallow ks ≡ true → order_add last ks ts ≡ Ok x → list_all key_shallow x.0 ≡ true
  unfolding order_add
  key_keeps ks ts x h e =
      let a = bind_ok (tree_at last ts) (λ y. direction_at y.1 >>= λ d. nulls_at last d.0 d.1 >>= λ n. Ok (ks ++ one_key y.0 d.0 n.0 ∷ [], n.1)) x e in
      let d = bind_ok (direction_at a.0.1) (λ d. nulls_at last d.0 d.1 >>= λ n. Ok (ks ++ one_key a.0.0 d.0 n.0 ∷ [], n.1)) x a.2 in
      let n = bind_ok (nulls_at last d.0.0 d.0.1) (λ n. Ok (ks ++ one_key a.0.0 d.0.0 n.0 ∷ [], n.1)) x d.2 in
      subst (λ (y : List OrderTree × Tokens). list_all key_shallow y.0 ≡ true) (ok_same (ks ++ one_key a.0.0 d.0.0 n.0.0 ∷ [], n.0.1) x n.2)
      (push_all key_shallow ks (one_key a.0.0 d.0.0 n.0.0) h (read_shallow last ts a.0 a.1))

  order_keeps : (ts : Tokens) (x : List OrderTree × Tokens) → order_at last ts ≡ Ok x → list_all key_shallow x.0 ≡ true
  unfolding order_at
  order_keeps ts x e = of_order (after (is_word words.Order) ts) e
    where
      of_order : (o : Option Tokens) → option_map_or (λ us. keyword last words.By us >>= items_at (order_add last) []) o (Ok ([], ts)) ≡ Ok x → list_all key_shallow x.0 ≡ true
      of_order None h = subst (λ (y : List OrderTree × Tokens). list_all key_shallow y.0 ≡ true) (ok_same ([], ts) x h) refl
      of_order (Some us) h =
          let a = bind_ok (keyword last words.By us) (λ vs. items_at (order_add last) [] vs) x h in
          items_hold (order_add last) (λ ks. list_all key_shallow ks ≡ true) key_keeps [] a.0 x refl a.2

-- a statement, unless its whole is at fault
abbrev pub FineOrNot : Bool → Result StmtTree SqlFault → Type 0
FineOrNot ddl (Ok s) = Fine ddl s
FineOrNot ddl (Err f) = Unit {0}

query_fine : (place : ℕ) (s : SelectTree) → (list_all item_shallow s.items && (maybe_shallow s.filter && list_all (λ (k : OrderTree). is_shallow k.expr) s.order)) ≡ true → FineOrNot false (query_of place s)
query_fine place s h = of_test (is_allowed s) refl
  where
    of_test : (b : Bool) → is_allowed s ≡ b → FineOrNot false (if b then Ok (Selects s) else Err (LeftOut place))
    of_test true e = record { kept = and_from (is_allowed s) _ e h; made = refl }
    of_test false e = tt

module _ (last : ℕ) where
  abbrev query : ℕ → List ItemTree → Option (List ℕ) → Option Tree → List OrderTree → Tokens → Result (Result StmtTree SqlFault × Tokens) SqlFault
  query place i t f o us = lock_at last us >>= λ l. Ok (query_of place (record { items = i; table = t; filter = f; order = o; lock = l.0 }), l.1)

  pub select_fine : (place : ℕ) (ts : Tokens) (x : Result StmtTree SqlFault × Tokens) → select_at last place ts ≡ Ok x → FineOrNot false x.0
  unfolding select_at
  select_fine place ts x e =
      let i = bind_ok (items_at (added (item_at last)) [] ts) (λ i. from_at last i.1 >>= λ t. filter_at last t.1 >>= λ f. order_at last f.1 >>= λ o. query place i.0 t.0 f.0 o.0 o.1) x e in
      let t = bind_ok (from_at last i.0.1) (λ t. filter_at last t.1 >>= λ f. order_at last f.1 >>= λ o. query place i.0.0 t.0 f.0 o.0 o.1) x i.2 in
      let f = bind_ok (filter_at last t.0.1) (λ f. order_at last f.1 >>= λ o. query place i.0.0 t.0.0 f.0 o.0 o.1) x t.2 in
      let o = bind_ok (order_at last f.0.1) (λ o. query place i.0.0 t.0.0 f.0.0 o.0 o.1) x f.2 in
      let l = bind_ok (lock_at last o.0.1) (λ l. Ok (query_of place (record { items = i.0.0; table = t.0.0; filter = f.0.0; order = o.0.0; lock = l.0 }), l.1)) x o.2 in
      subst (λ (y : Result StmtTree SqlFault × Tokens). FineOrNot false y.0) (ok_same (query_of place (record { items = i.0.0; table = t.0.0; filter = f.0.0; order = o.0.0; lock = l.0.0 }), l.0.1) x l.2)
      (query_fine place (record { items = i.0.0; table = t.0.0; filter = f.0.0; order = o.0.0; lock = l.0.0 })
      (and_from (list_all item_shallow i.0.0) (maybe_shallow f.0.0 && list_all (λ (k : OrderTree). is_shallow k.expr) o.0.0) (items_hold (added (item_at last)) (λ is. list_all item_shallow is ≡ true) (items_add_keep last) [] ts i.0 refl i.1)
      (and_from (maybe_shallow f.0.0) (list_all (λ (k : OrderTree). is_shallow k.expr) o.0.0) (filter_keeps last t.0.1 f.0 f.1) (order_keeps last f.0.1 o.0 o.1))))
