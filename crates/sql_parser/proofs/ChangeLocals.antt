-- INSERT, UPDATE and DELETE are read as far as their tokens allow.
use Rattle.std.proofs.Common.{◌≡◌, ℕ, Bool, true, false, List, [], ◌∷◌, ◌++◌, length, Option, Some, None, refl, sym, ap, subst, ◌∙◌, append-nil}
use Rattle.std.specs.Prelude.{Result, Ok, Err, if◌then◌else◌}
use Rattle.iso_lexer.specs.declared.token.At.{At}
use Rattle.iso_lexer.specs.declared.sql_token.SqlSign.TheVariants as signs
use Rattle.sql_trees.specs.declared.fault.SqlFault.{SqlFault}
use Rattle.sql_trees.specs.declared.fault.SqlFault.TheVariants.{Syntax}
use Rattle.sql_trees.specs.declared.word.Word.{Word}
use Rattle.sql_trees.specs.declared.word.Word.TheVariants as words
use Rattle.sql_trees.specs.Statements.{StmtTree, SetTree, ItemTree, All, Value, Inserts, Updates, Deletes}
use Rattle.sql_trees.specs.Tokens.{Token, Tokens}
use Rattle.sql_trees.specs.Trees.{Tree}
use Rattle.sql_expressions.specs.Results.{◌>>=◌}
use Rattle.sql_expressions.specs.Readers.{place_of, expect, is_word, is_sign, keyword, name_at, items_at, Reader, added}
use Rattle.sql_expressions.specs.Laws.{head}
use Rattle.sql_blocks.specs.Parts.{fits, set_columns}
use Rattle.sql_parser.specs.Readers.{tree_at}
use Rattle.sql_parser.specs.Tables.{has_name}
use Rattle.sql_parser.specs.Grammar.{Rows, Key, Names, Commas, AddsName, adds_name, AddsValue, adds_value, RowIs, is_row, with_row, no_rows, AddsRow, adds_row, ColumnsAre, unlisted, listed_columns, AddsSet, adds_set, WhereIs, unfiltered, filtered, AliasIs, no_alias, ConflictIs, fails, does_nothing, AddsReturned, returns_all, returns_value, ReturningIs, returns_nothing, returns, Is, Spells, insert, update, delete}
use Rattle.sql_parser.specs.Inner.Changes.{distinct_add, row_add, columns_at, returning_at, insert_at, set_value, set_add, update_at, delete_at}
use Rattle.sql_parser.specs.Changes.{alias_at, keyword_not, conflict_at, returned_at, filter_at}
use Rattle.sql_parser.specs.Stops.{IsLeftOutBehind, at_row}
use Rattle.sql_parser.proofs.Locals.{Inhabited, Local, took, stopped, gives, behind, switch_at, switch_end, no_rule_at, no_rule_end, left_out_at, begun_as, in_turn, mapped, token_then, token_last, name_then, list_local, some_list, chosen}
use Rattle.sql_parser.proofs.StmtLocals.{a_word, a_sign, a_name, the_name, key_is, word_is, adds_some_name, alias_local}
use Rattle.sql_parser.proofs.TableLocals.{distinct_local}

module _ (last : ℕ) (E : Tokens → Tree → Type 0) (W Any : Type 0) (an_expr : Inhabited E) (exprs : (ts : Tokens) → Local last E W Any E (tree_at last) ts) where
  -- ---- rows

  adds_some_value : (es : List Tree) → Inhabited (AddsValue E es)
  adds_some_value es = (an_expr.0, es ++ an_expr.1 ∷ [], adds_value es an_expr.0 an_expr.1 an_expr.2)

  value_local : (es : List Tree) (ts : Tokens) → Local last E W Any (AddsValue E es) (added (tree_at last) es) ts
  value_local es ts = mapped last E W Any E (AddsValue E es) (tree_at last) (λ e. es ++ e ∷ []) ts (λ xs e q. adds_value es xs e q) (exprs ts)

  abbrev row_at : Reader (List Tree)
  row_at ts = expect last (is_sign signs.Open) ts >>= λ us. items_at (added (tree_at last)) [] us >>= λ x. expect last (is_sign signs.Close) x.1 >>= λ rest. Ok (x.0, rest)

  some_row : Inhabited (RowIs E)
  some_row =
      let s = some_list last E W Any (added (tree_at last)) (AddsValue E) adds_some_value value_local [] in
      (a_sign signs.Open ∷ (s.0 ++ a_sign signs.Close ∷ []), s.1, is_row (a_sign signs.Open) (a_sign signs.Close) s.0 s.1 refl s.2 refl)

  row_local : (ts : Tokens) → Local last E W Any (RowIs E) row_at ts
  row_local ts = token_then last E W Any (RowIs E) (is_sign signs.Open) (λ us. items_at (added (tree_at last)) [] us >>= λ x. expect last (is_sign signs.Close) x.1 >>= λ rest. Ok (x.0, rest)) ts some_row
      (λ o us ho. in_turn last E W Any (Commas (AddsValue E) []) (λ xs w. RowIs E (o ∷ xs) w) (items_at (added (tree_at last)) []) (λ v r. expect last (is_sign signs.Close) r >>= λ rest. Ok (v, rest)) us
      (λ xs es q. (a_sign signs.Close ∷ [], es, is_row o (a_sign signs.Close) xs es ho q refl))
      (list_local last E W Any (added (tree_at last)) (AddsValue E) adds_some_value value_local [] us)
      (λ es xs rest split q. token_last last E W Any (λ ys w. RowIs E (o ∷ (xs ++ ys)) w) (is_sign signs.Close) es rest (a_sign signs.Close ∷ [], es, is_row o (a_sign signs.Close) xs es ho q refl) (λ c hc. is_row o c xs es ho q hc)))

  -- a row, which has to have as many values as those before it
  abbrev row_fits : Rows → ℕ → List Tree × Tokens → Result (Rows × Tokens) SqlFault
  row_fits s p x = if fits s.width (length x.0) then Ok (with_row s x.0, x.1) else Err (Syntax p)

  add_is : (s : Rows) (ts : Tokens) → row_add last s ts ≡ (row_at ts >>= row_fits s (place_of last ts))
  unfolding row_add
  add_is s ts = of_open (expect last (is_sign signs.Open) ts)
    where
      of_close : (es : List Tree) (r : Result Tokens SqlFault) → (r >>= λ rest. row_fits s (place_of last ts) (es, rest)) ≡ ((r >>= λ rest. Ok (es, rest)) >>= row_fits s (place_of last ts))
      of_close es (Ok rest) = refl
      of_close es (Err e) = refl

      of_items : (r : Result (List Tree × Tokens) SqlFault) → (r >>= λ x. expect last (is_sign signs.Close) x.1 >>= λ rest. row_fits s (place_of last ts) (x.0, rest)) ≡ ((r >>= λ x. expect last (is_sign signs.Close) x.1 >>= λ rest. Ok (x.0, rest)) >>= row_fits s (place_of last ts))
      of_items (Ok x) = of_close x.0 (expect last (is_sign signs.Close) x.1)
      of_items (Err e) = refl

      of_open : (r : Result Tokens SqlFault) → (r >>= λ us. items_at (added (tree_at last)) [] us >>= λ x. expect last (is_sign signs.Close) x.1 >>= λ rest. row_fits s (place_of last ts) (x.0, rest)) ≡ ((r >>= λ us. items_at (added (tree_at last)) [] us >>= λ x. expect last (is_sign signs.Close) x.1 >>= λ rest. Ok (x.0, rest)) >>= row_fits s (place_of last ts))
      of_open (Ok us) = of_items (items_at (added (tree_at last)) [] us)
      of_open (Err e) = refl

  row_place : (xs : Tokens) (es : List Tree) → RowIs E xs es → (others : Tokens) → place_of last (xs ++ others) ≡ place_of last xs
  row_place _ _ (is_row o c ts es ho q hc) others = refl

  row_add_local : (s : Rows) (ts : Tokens) → Local last E W Any (AddsRow E s) (row_add last s) ts
  row_add_local s ts = of_row (row_local ts)
    where
      of_test : (es : List Tree) (front rest : Tokens) (b : Bool) → fits s.width (length es) ≡ b → ts ≡ front ++ rest → ((others : Tokens) → head others ≡ head rest → row_at (front ++ others) ≡ Ok (es, others)) → RowIs E front es → Local last E W Any (AddsRow E s) (row_add last s) ts
      of_test es front rest true h split local q = took (with_row s es) front rest split (λ others g. add_is s (front ++ others) ∙ rw (local others g, h) refl) (adds_row s front es q)
      of_test es front rest false h split local q = stopped (Syntax (place_of last front)) front rest split (λ others g. add_is s (front ++ others) ∙ rw (local others g, h) (ap (λ p. Err (Syntax p)) (row_place front es q others))) (λ any. record {
        begins = ([], with_row s es, subst (λ xs. AddsRow E s xs (with_row s es)) (sym (append-nil front)) (adds_row s front es q));
        stands = at_row [] front rest es q;
      })

      of_row : Local last E W Any (RowIs E) row_at ts → Local last E W Any (AddsRow E s) (row_add last s) ts
      of_row (took es front rest split local q) = of_test es front rest (fits s.width (length es)) refl split local q
      of_row (stopped e front rest split local b) = stopped e front rest split (λ others g. add_is s (front ++ others) ∙ rw (local others g) refl) (λ any. begun_as last E W Any (RowIs E) (AddsRow E s) e [] front rest (λ xs g. (g.0, with_row s g.1, adds_row s (xs ++ g.0) g.1 g.2)) (b any))

  adds_some_row : (s : Rows) → Inhabited (AddsRow E s)
  adds_some_row s = (some_row.0, with_row s some_row.1, adds_row s some_row.0 some_row.1 some_row.2)

  -- ---- columns

  distinct_add_local : (ns : List (List ℕ)) (ts : Tokens) → Local last E W Any (AddsName ns) (distinct_add last ns) ts
  distinct_add_local ns ts = distinct_local last E W Any (AddsName ns) (λ n. has_name n ns) (λ n p r. Ok (ns ++ n ∷ [], r)) ts (adds_some_name ns) (λ t n us h. gives last E W Any (λ xs w. AddsName ns (t ∷ xs) w) (ns ++ n ∷ []) us (adds_name ns t n h))

  columns_local : (ts : Tokens) → Local last E W Any ColumnsAre (columns_at last) ts
  unfolding columns_at
  columns_local ts = chosen last E W Any ColumnsAre (is_sign signs.Open) (λ us. items_at (distinct_add last) [] us >>= λ x. expect last (is_sign signs.Close) x.1 >>= λ rest. Ok (Some x.0, rest)) (λ us. Ok (None, us)) ts
      (λ o us ho. in_turn last E W Any (Commas AddsName []) (λ xs w. ColumnsAre (o ∷ xs) w) (items_at (distinct_add last) []) (λ v r. expect last (is_sign signs.Close) r >>= λ rest. Ok (Some v, rest)) us
      (λ xs ns q. (a_sign signs.Close ∷ [], Some ns, listed_columns o (a_sign signs.Close) xs ns ho q refl))
      (list_local last E W Any (distinct_add last) AddsName adds_some_name distinct_add_local [] us)
      (λ ns xs rest split q. token_last last E W Any (λ ys w. ColumnsAre (o ∷ (xs ++ ys)) w) (is_sign signs.Close) (Some ns) rest (a_sign signs.Close ∷ [], Some ns, listed_columns o (a_sign signs.Close) xs ns ho q refl) (λ c hc. listed_columns o c xs ns ho q hc)))
      (gives last E W Any ColumnsAre None ts unlisted)

  -- ---- ON CONFLICT and RETURNING

  -- a keyword, and behind it another one, in whose place a token may be left out
  module _ {B : Type 0} (K : Tokens → B → Type 0) (v w : Word) (other : Token → Bool) (k : Reader B) where
    abbrev second : Reader B
    second us = keyword_not last other w us >>= k

    second_local : (p : Reader B) (b : At Token) (us : Tokens) → ((vs : Tokens) → p (b ∷ vs) ≡ second vs) → Inhabited (λ xs x. K (b ∷ xs) x) → ((t : At Token) → Is other t → IsLeftOutBehind b t) → Local last E W Any (λ xs x. K (b ∷ xs) x) (λ r. keyword last w r >>= k) us → Local last E W Any K p (b ∷ us)
    second_local p b [] same some left l = behind last E W Any K second p b [] same (switch_end last E W Any (λ xs x. K (b ∷ xs) x) (λ r. keyword last w r >>= k) second refl l)
    second_local p b (t ∷ us) same some left l = of_test (other t.tok) refl
      where
        of_test : (c : Bool) → other t.tok ≡ c → Local last E W Any K p (b ∷ t ∷ us)
        of_test true h = left_out_at last E W Any K p b t us some (left t h) (λ vs. same (t ∷ vs) ∙ rw h refl)
        of_test false h = behind last E W Any K second p b (t ∷ us) same (switch_at last E W Any (λ xs x. K (b ∷ xs) x) (λ r. keyword last w r >>= k) second t us (λ vs. rw h refl) l)

    words_local : (ts : Tokens) → Inhabited K → ((b : At Token) → Key v b → Inhabited (λ xs x. K (b ∷ xs) x)) → ((b t : At Token) → Key v b → Is other t → IsLeftOutBehind b t) → ((b : At Token) (us : Tokens) → Key v b → Local last E W Any (λ xs x. K (b ∷ xs) x) (λ r. keyword last w r >>= k) us) → Local last E W Any K (λ r. keyword last v r >>= second) ts
    words_local [] some begun left next = no_rule_end last E W Any K (λ r. keyword last v r >>= second) some refl
    words_local (b ∷ us) some begun left next = of_test (is_word v b.tok) refl
      where
        of_test : (c : Bool) → is_word v b.tok ≡ c → Local last E W Any K (λ r. keyword last v r >>= second) (b ∷ us)
        of_test true h = second_local (λ r. keyword last v r >>= second) b us (λ vs. rw h refl) (begun b h) (λ t g. left b t h g) (next b us h)
        of_test false h = no_rule_at last E W Any K (λ r. keyword last v r >>= second) b us some (λ vs. rw h refl)

  target_left_out : (b t : At Token) → Key words.Conflict b → Is (is_sign signs.Open) t → IsLeftOutBehind b t
  target_left_out b t hb ht = rw (hb, ht) refl

  update_left_out : (b t : At Token) → Key words.Do b → Is (is_word words.Update) t → IsLeftOutBehind b t
  update_left_out b t hb ht = let k = word_is words.Do b.tok hb in rw (k.1, ht) refl

  conflict_local : (ts : Tokens) → Local last E W Any ConflictIs (conflict_at last) ts
  unfolding conflict_at
  conflict_local ts =
      let conflict = a_word words.Conflict in
      let do' = a_word words.Do in
      let nothing' = a_word words.Nothing in
      let is_nothing : Reader Bool = λ ws. keyword_not last (is_word words.Update) words.Nothing ws >>= λ rest. Ok (true, rest) in
      chosen last E W Any ConflictIs (is_word words.On) (λ us. keyword last words.Conflict us >>= λ vs. keyword_not last (is_sign signs.Open) words.Do vs >>= is_nothing) (λ us. Ok (false, us)) ts
      (λ o us ho. words_local (λ xs w. ConflictIs (o ∷ xs) w) words.Conflict words.Do (is_sign signs.Open) is_nothing us
      (conflict ∷ do' ∷ nothing' ∷ [], true, does_nothing o conflict do' nothing' ho (key_is words.Conflict []) (key_is words.Do []) (key_is words.Nothing []))
      (λ c hc. (do' ∷ nothing' ∷ [], true, does_nothing o c do' nothing' ho hc (key_is words.Do []) (key_is words.Nothing [])))
      target_left_out (λ c vs hc.
      words_local (λ xs w. ConflictIs (o ∷ c ∷ xs) w) words.Do words.Nothing (is_word words.Update) (λ rest. Ok (true, rest)) vs
      (do' ∷ nothing' ∷ [], true, does_nothing o c do' nothing' ho hc (key_is words.Do []) (key_is words.Nothing []))
      (λ d hd. (nothing' ∷ [], true, does_nothing o c d nothing' ho hc hd (key_is words.Nothing [])))
      update_left_out (λ d ws hd.
      token_last last E W Any (λ xs w. ConflictIs (o ∷ c ∷ d ∷ xs) w) (is_word words.Nothing) true ws (nothing' ∷ [], true, does_nothing o c d nothing' ho hc hd (key_is words.Nothing [])) (λ n hn. does_nothing o c d n ho hc hd hn))))
      (gives last E W Any ConflictIs false ts fails)

  -- an item of RETURNING, behind whichever items
  abbrev ReturnedIs : Tokens → ItemTree → Type 0
  ReturnedIs xs i = (is : List ItemTree) → AddsReturned E is xs (is ++ i ∷ [])

  returned_local : (ts : Tokens) → Local last E W Any ReturnedIs (returned_at last) ts
  unfolding returned_at
  returned_local ts = chosen last E W Any ReturnedIs (is_sign signs.Star) (λ rest. Ok (All, rest)) (λ r. tree_at last r >>= λ e. alias_at last e.1 >>= λ n. Ok (Value e.0 n.0, n.1)) ts
      (λ s us hs. gives last E W Any (λ xs w. ReturnedIs (s ∷ xs) w) All us (λ is. returns_all is s hs))
      (in_turn last E W Any E ReturnedIs (tree_at last) (λ e r. alias_at last r >>= λ n. Ok (Value e n.0, n.1)) ts
      (λ xs e q. ([], Value e None, λ is. returns_value is xs [] e None q no_alias))
      (exprs ts)
      (λ e xs rest split q. mapped last E W Any AliasIs (λ ys w. ReturnedIs (xs ++ ys) w) (alias_at last) (Value e) rest (λ ys n k is. returns_value is xs ys e n q k) (alias_local last E W Any rest)))

  returned_add_local : (is : List ItemTree) (ts : Tokens) → Local last E W Any (AddsReturned E is) (added (returned_at last) is) ts
  returned_add_local is ts = mapped last E W Any ReturnedIs (AddsReturned E is) (returned_at last) (λ i. is ++ i ∷ []) ts (λ xs i q. q is) (returned_local ts)

  adds_some_returned : (is : List ItemTree) → Inhabited (AddsReturned E is)
  adds_some_returned is = (a_sign signs.Star ∷ [], is ++ All ∷ [], returns_all is (a_sign signs.Star) refl)

  returning_local : (ts : Tokens) → Local last E W Any (ReturningIs E) (returning_at last) ts
  unfolding returning_at
  returning_local ts = chosen last E W Any (ReturningIs E) (is_word words.Returning) (λ us. items_at (added (returned_at last)) [] us >>= λ x. Ok (Some x.0, x.1)) (λ us. Ok (None, us)) ts
      (λ r us hr. mapped last E W Any (Commas (AddsReturned E) []) (λ xs w. ReturningIs E (r ∷ xs) w) (items_at (added (returned_at last)) []) (λ is. Some is) us (λ xs is q. returns r xs is hr q) (list_local last E W Any (added (returned_at last)) (AddsReturned E) adds_some_returned returned_add_local [] us))
      (gives last E W Any (ReturningIs E) None ts returns_nothing)

  -- ---- INSERT

  abbrev inserted : List ℕ → Option (List (List ℕ)) → Rows → Bool → Option (List ItemTree) → StmtTree
  inserted table columns r d t = Inserts (record { table = table; columns = columns; rows = r.rows; do_nothing = d; returning = t })

  abbrev returned_behind : List ℕ → Option (List (List ℕ)) → Rows → Bool → Reader StmtTree
  returned_behind table columns r d us = returning_at last us >>= λ t. Ok (inserted table columns r d t.0, t.1)

  abbrev conflict_behind : List ℕ → Option (List (List ℕ)) → Rows → Reader StmtTree
  conflict_behind table columns r us = conflict_at last us >>= λ d. returned_behind table columns r d.0 d.1

  abbrev rows_behind : List ℕ → Option (List (List ℕ)) → Reader StmtTree
  rows_behind table columns vs = items_at (row_add last) (no_rows columns) vs >>= λ r. conflict_behind table columns r.0 r.1

  abbrev values_behind : List ℕ → Option (List (List ℕ)) → Reader StmtTree
  values_behind table columns r = keyword last words.Values r >>= rows_behind table columns

  pub insert_local : (i : At Token) → Key words.Insert i → (ts : Tokens) → Local last E W Any (λ xs w. Spells E (i ∷ xs) w) (insert_at last) ts
  unfolding insert_at
  insert_local i hi ts =
      let into = a_word words.Into in
      let values = a_word words.Values in
      let some = λ (columns : Option (List (List ℕ))). some_list last E W Any (row_add last) (AddsRow E) adds_some_row row_add_local (no_rows columns) in
      let none = some None in
      token_then last E W Any (λ xs w. Spells E (i ∷ xs) w) (is_word words.Into) (λ us. name_at last us >>= λ x. columns_at last x.1 >>= λ c. values_behind x.0 c.0 c.1) ts
      (into ∷ a_name ∷ values ∷ (none.0 ++ []), inserted the_name None none.1 false None, insert i into a_name values the_name [] none.0 [] [] None none.1 false None hi (key_is words.Into []) refl unlisted (key_is words.Values []) none.2 fails returns_nothing) (λ o us ho.
      name_then last E W Any (λ xs w. Spells E (i ∷ o ∷ xs) w) (λ n r. columns_at last r >>= λ c. values_behind n c.0 c.1) us
      (a_name ∷ values ∷ (none.0 ++ []), inserted the_name None none.1 false None, insert i o a_name values the_name [] none.0 [] [] None none.1 false None hi ho refl unlisted (key_is words.Values []) none.2 fails returns_nothing) (λ n name vs hn.
      in_turn last E W Any ColumnsAre (λ xs w. Spells E (i ∷ o ∷ n ∷ xs) w) (columns_at last) (values_behind name) vs
      (λ cs columns q. let rows = some columns in (values ∷ (rows.0 ++ []), inserted name columns rows.1 false None, insert i o n values name cs rows.0 [] [] columns rows.1 false None hi ho hn q (key_is words.Values []) rows.2 fails returns_nothing))
      (columns_local vs)
      (λ columns cs rest split q. let rows = some columns in
      token_then last E W Any (λ xs w. Spells E (i ∷ o ∷ n ∷ (cs ++ xs)) w) (is_word words.Values) (rows_behind name columns) rest
      (values ∷ (rows.0 ++ []), inserted name columns rows.1 false None, insert i o n values name cs rows.0 [] [] columns rows.1 false None hi ho hn q (key_is words.Values []) rows.2 fails returns_nothing) (λ v ws hv.
      in_turn last E W Any (Commas (AddsRow E) (no_rows columns)) (λ xs w. Spells E (i ∷ o ∷ n ∷ (cs ++ v ∷ xs)) w) (items_at (row_add last) (no_rows columns)) (conflict_behind name columns) ws
      (λ xs r p. ([], inserted name columns r false None, insert i o n v name cs xs [] [] columns r false None hi ho hn q hv p fails returns_nothing))
      (list_local last E W Any (row_add last) (AddsRow E) adds_some_row row_add_local (no_rows columns) ws) (λ r xs rest' split' p.
      in_turn last E W Any ConflictIs (λ ys w. Spells E (i ∷ o ∷ n ∷ (cs ++ v ∷ (xs ++ ys))) w) (conflict_at last) (returned_behind name columns r) rest'
      (λ ys d k. ([], inserted name columns r d None, insert i o n v name cs xs ys [] columns r d None hi ho hn q hv p k returns_nothing))
      (conflict_local rest') (λ d ys us' split'' k.
      mapped last E W Any (ReturningIs E) (λ zs w. Spells E (i ∷ o ∷ n ∷ (cs ++ v ∷ (xs ++ (ys ++ zs)))) w) (returning_at last) (inserted name columns r d) us' (λ zs t m. insert i o n v name cs xs ys zs columns r d t hi ho hn q hv p k m) (returning_local us')))))))

  -- ---- UPDATE and DELETE

  pub where_local : (ts : Tokens) → Local last E W Any (WhereIs E) (filter_at last) ts
  unfolding filter_at
  where_local ts = chosen last E W Any (WhereIs E) (is_word words.Where) (λ us. tree_at last us >>= λ e. Ok (Some e.0, e.1)) (λ us. Ok (None, us)) ts
      (λ w us hw. mapped last E W Any E (λ xs f. WhereIs E (w ∷ xs) f) (tree_at last) (λ e. Some e) us (λ xs e q. filtered w xs e hw q) (exprs us))
      (gives last E W Any (WhereIs E) None ts unfiltered)

  abbrev one_set : List ℕ → Tree → SetTree
  one_set n e = record { column = n; value = e }

  adds_some_set : (ss : List SetTree) → Inhabited (AddsSet E ss)
  adds_some_set ss = (a_name ∷ a_sign signs.Equal ∷ an_expr.0, ss ++ one_set the_name an_expr.1 ∷ [], adds_set ss a_name (a_sign signs.Equal) the_name an_expr.0 an_expr.1 refl refl an_expr.2)

  set_add_local : (ss : List SetTree) (ts : Tokens) → Local last E W Any (AddsSet E ss) (set_add last ss) ts
  unfolding set_add
  set_add_local ss ts = distinct_local last E W Any (AddsSet E ss) (λ n. has_name n (set_columns ss)) (λ n p. set_value last n ss) ts (adds_some_set ss) (λ t n us ht.
      token_then last E W Any (λ xs w. AddsSet E ss (t ∷ xs) w) (is_sign signs.Equal) (λ vs. tree_at last vs >>= λ e. Ok (ss ++ one_set n e.0 ∷ [], e.1)) us
      (a_sign signs.Equal ∷ an_expr.0, ss ++ one_set n an_expr.1 ∷ [], adds_set ss t (a_sign signs.Equal) n an_expr.0 an_expr.1 ht refl an_expr.2) (λ q vs hq.
      mapped last E W Any E (λ xs w. AddsSet E ss (t ∷ q ∷ xs) w) (tree_at last) (λ e. ss ++ one_set n e ∷ []) vs (λ xs e k. adds_set ss t q n xs e ht hq k) (exprs vs)))

  abbrev updated : List ℕ → List SetTree → Option Tree → Option (List ItemTree) → StmtTree
  updated table sets filter t = Updates (record { table = table; sets = sets; filter = filter; returning = t })

  abbrev filter_behind : List ℕ → List SetTree → Reader StmtTree
  filter_behind table sets us = filter_at last us >>= λ f. returning_at last f.1 >>= λ t. Ok (updated table sets f.0 t.0, t.1)

  pub update_local : (u : At Token) → Key words.Update u → (ts : Tokens) → Local last E W Any (λ xs w. Spells E (u ∷ xs) w) (update_at last) ts
  unfolding update_at
  update_local u hu ts =
      let set = a_word words.Set in
      let a = some_list last E W Any (set_add last) (AddsSet E) adds_some_set set_add_local [] in
      let some = λ (n s : At Token) (name : List ℕ) (hn : Names name n) (hs : Key words.Set s) (xs : Tokens) (sets : List SetTree) (q : Commas (AddsSet E) [] xs sets). update u n s name xs [] [] sets None None hu hn hs q unfiltered returns_nothing in
      name_then last E W Any (λ xs w. Spells E (u ∷ xs) w) (λ n r. keyword last words.Set r >>= λ us. items_at (set_add last) [] us >>= λ s. filter_behind n s.0 s.1) ts
      (a_name ∷ set ∷ (a.0 ++ []), updated the_name a.1 None None, some a_name set the_name refl (key_is words.Set []) a.0 a.1 a.2) (λ n name us hn.
      token_then last E W Any (λ xs w. Spells E (u ∷ n ∷ xs) w) (is_word words.Set) (λ us. items_at (set_add last) [] us >>= λ s. filter_behind name s.0 s.1) us
      (set ∷ (a.0 ++ []), updated name a.1 None None, some n set name hn (key_is words.Set []) a.0 a.1 a.2) (λ s vs hs.
      in_turn last E W Any (Commas (AddsSet E) []) (λ xs w. Spells E (u ∷ n ∷ s ∷ xs) w) (items_at (set_add last) []) (filter_behind name) vs
      (λ xs sets q. ([], updated name sets None None, some n s name hn hs xs sets q))
      (list_local last E W Any (set_add last) (AddsSet E) adds_some_set set_add_local [] vs) (λ sets xs rest split q.
      in_turn last E W Any (WhereIs E) (λ ws w. Spells E (u ∷ n ∷ s ∷ (xs ++ ws)) w) (filter_at last) (λ f r. returning_at last r >>= λ t. Ok (updated name sets f t.0, t.1)) rest
      (λ ws f k. ([], updated name sets f None, update u n s name xs ws [] sets f None hu hn hs q k returns_nothing))
      (where_local rest) (λ f ws us' split' k.
      mapped last E W Any (ReturningIs E) (λ zs w. Spells E (u ∷ n ∷ s ∷ (xs ++ (ws ++ zs))) w) (returning_at last) (updated name sets f) us' (λ zs t m. update u n s name xs ws zs sets f t hu hn hs q k m) (returning_local us')))))

  abbrev deleted : List ℕ → Option Tree → Option (List ItemTree) → StmtTree
  deleted table filter t = Deletes (record { table = table; filter = filter; returning = t })

  abbrev deleted_behind : List ℕ → Reader StmtTree
  deleted_behind table us = filter_at last us >>= λ f. returning_at last f.1 >>= λ t. Ok (deleted table f.0 t.0, t.1)

  pub delete_local : (d : At Token) → Key words.Delete d → (ts : Tokens) → Local last E W Any (λ xs w. Spells E (d ∷ xs) w) (delete_at last) ts
  unfolding delete_at
  delete_local d hd ts =
      let from = a_word words.From in
      token_then last E W Any (λ xs w. Spells E (d ∷ xs) w) (is_word words.From) (λ us. name_at last us >>= λ x. deleted_behind x.0 x.1) ts
      (from ∷ a_name ∷ [], deleted the_name None None, delete d from a_name the_name [] [] None None hd (key_is words.From []) refl unfiltered returns_nothing) (λ f us hf.
      name_then last E W Any (λ xs w. Spells E (d ∷ f ∷ xs) w) deleted_behind us
      (a_name ∷ [], deleted the_name None None, delete d f a_name the_name [] [] None None hd hf refl unfiltered returns_nothing) (λ n name vs hn.
      in_turn last E W Any (WhereIs E) (λ xs w. Spells E (d ∷ f ∷ n ∷ xs) w) (filter_at last) (λ x r. returning_at last r >>= λ t. Ok (deleted name x t.0, t.1)) vs
      (λ xs x q. ([], deleted name x None, delete d f n name xs [] x None hd hf hn q returns_nothing))
      (where_local vs) (λ x xs rest split q.
      mapped last E W Any (ReturningIs E) (λ zs w. Spells E (d ∷ f ∷ n ∷ (xs ++ zs)) w) (returning_at last) (deleted name x) rest (λ zs t m. delete d f n name xs zs x t hd hf hn q m) (returning_local rest))))
