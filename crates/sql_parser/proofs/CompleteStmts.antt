-- What the tokens spell is read: statements on transactions, DROP, INSERT, UPDATE and DELETE.
use Rattle.std.proofs.Common.{◌≡◌, ℕ, Bool, true, false, List, [], ◌∷◌, ◌++◌, length, Option, Some, None, refl, sym, ap, ◌∙◌, append_assoc, append-nil}
use Rattle.std.proofs.lemmas.Bool.{and_parts, or_parts}
use Rattle.std.proofs.lemmas.List.{map-append}
use Rattle.std.proofs.lemmas.List.Folds.{list_any-append}
use Rattle.std.specs.List.{list_any}
use Rattle.std.specs.Prelude.{Ok, not, ◌&&◌, ◌||◌, bytes_eq, option_map, if◌then◌else◌}
use Rattle.std.specs.Option.{option_map_or}
use Rattle.iso_lexer.specs.declared.token.At.{At}
use Rattle.iso_lexer.specs.declared.sql_token.SqlSign.TheVariants as signs
use Rattle.sql_trees.specs.declared.word.Word.{Word}
use Rattle.sql_trees.specs.declared.word.Word.TheVariants as words
use Rattle.sql_trees.specs.declared.stmt.Level.{Level}
use Rattle.sql_trees.specs.Statements.{SetTree, ItemTree, Begin, SetTransaction, SetDeadlockTimeout, DropTables, Inserts, Updates, Deletes}
use Rattle.sql_trees.specs.Tokens.{Token, Tokens}
use Rattle.sql_trees.specs.Tokens as tok
use Rattle.sql_trees.specs.Trees.{Tree}
use Rattle.sql_expressions.specs.Readers.{is_word, is_sign, after, items_at, name_at, added}
use Rattle.sql_expressions.specs.Grammar.{Ends}
use Rattle.sql_blocks.specs.Parts.{fits, set_columns}
use Rattle.sql_blocks.specs.Kept.{all_differ, rows_fit, columns_differ}
use Rattle.sql_parser.specs.Inner.Parts.{past}
use Rattle.sql_parser.specs.Readers.{tree_at}
use Rattle.sql_parser.specs.Transactions.{is_work}
use Rattle.sql_parser.specs.Grammar.{is_scope, is_to, is_setting, Rows, Is, Key, Names, Perhaps, nothing, one_is, Commas, last_item, next_item, AddsName, adds_name, IsolationIs, uncommitted, committed, repeatable, MaybeLevel, no_level, a_level, AddsValue, adds_value, RowIs, is_row, with_row, no_rows, AddsRow, adds_row, ColumnsAre, unlisted, listed_columns, AddsSet, adds_set, WhereIs, unfiltered, filtered, ConflictIs, fails, does_nothing, ReturningIs, Shallow}
use Rattle.sql_parser.specs.Inner.Transactions.{level_at, begin_at, start_at, parameter_at, set_at}
use Rattle.sql_parser.specs.Tables.{has_name, drop_at}
use Rattle.sql_parser.specs.Inner.Tables.{after_if}
use Rattle.sql_parser.specs.Inner.Changes.{distinct_add, row_add, columns_at, insert_at, set_add, update_at, delete_at}
use Rattle.sql_parser.specs.Changes.{filter_at}
use Rattle.sql_parser.proofs.Keeping.{width_behind, behind_push}
use Rattle.sql_parser.proofs.StmtLocals.{word_is}
use Rattle.sql_parser.proofs.Completes.{other_word, not_key, comma_ends, close_ends, no_comma_at_close, no_comma_at_key, perhaps_past, tree_reads, list_reads}
use Rattle.sql_parser.proofs.CompleteReturning.{conflict_reads, returning_reads, none_at_returning, returning_ends}

-- ---- transactions

key_work : (w : Word) → (w ≡ words.Work → ⊥) → (w ≡ words.Transaction → ⊥) → (t : At Token) → Key w t → is_work t.tok ≡ false
key_work w f g t h = rw (not_key w words.Work t h f, not_key w words.Transaction t h g) refl

key_scope : (w : Word) → (w ≡ words.Session → ⊥) → (w ≡ words.Local → ⊥) → (t : At Token) → Key w t → is_scope t.tok ≡ false
key_scope w f g t h = rw (not_key w words.Session t h f, not_key w words.Local t h g) refl

pub begin_reads : (last : ℕ) (ts : Tokens) (level : Option Level) → MaybeLevel ts level → begin_at last ts ≡ Ok (Begin level, [])
unfolding begin_at level_at
begin_reads last _ _ no_level = refl
begin_reads last _ _ (a_level ts level h) = of_level ts level h
  where
    of_level : (ts : Tokens) (level : Level) → IsolationIs ts level → begin_at last ts ≡ Ok (Begin (Some level), [])
    of_level _ _ (uncommitted i l r u hi hl hr hu) = rw (hi, hl, hr, not_key words.Uncommitted words.Committed u hu (λ e. cc), hu) refl
    of_level _ _ (committed i l r c hi hl hr hc) = rw (hi, hl, hr, hc) refl
    of_level _ _ (repeatable i l p r hi hl hp hr) = rw (hi, hl, not_key words.Repeatable words.Read p hp (λ e. cc), hp, hr) refl

-- WORK or TRANSACTION is passed over, and a level is none of them
level_no_work : (ts : Tokens) (level : Option Level) → MaybeLevel ts level → after is_work ts ≡ None
level_no_work _ _ no_level = refl
level_no_work _ _ (a_level ts level h) = of_level ts level h
  where
    of_level : (ts : Tokens) (level : Level) → IsolationIs ts level → after is_work ts ≡ None
    of_level _ _ (uncommitted i l r u hi hl hr hu) = rw (key_work words.Isolation (λ e. cc) (λ e. cc) i hi) refl
    of_level _ _ (committed i l r c hi hl hr hc) = rw (key_work words.Isolation (λ e. cc) (λ e. cc) i hi) refl
    of_level _ _ (repeatable i l p r hi hl hp hr) = rw (key_work words.Isolation (λ e. cc) (λ e. cc) i hi) refl

pub begun_reads : (last : ℕ) (ws is : Tokens) (level : Option Level) → Perhaps is_work ws → MaybeLevel is level → begin_at last (past is_work (ws ++ is)) ≡ Ok (Begin level, [])
begun_reads last ws is level p m = ap (begin_at last) (perhaps_past is_work ws is p (level_no_work is level m)) ∙ begin_reads last is level m

pub start_reads : (last : ℕ) (t : At Token) (is : Tokens) (level : Option Level) → Key words.Transaction t → MaybeLevel is level → start_at last (t ∷ is) ≡ Ok (Begin level, [])
unfolding start_at
start_reads last t is level h m = rw (h, begin_reads last is level m) refl

pub work_reads : (ws : Tokens) → Perhaps is_work ws → past is_work ws ≡ []
work_reads ws p = ap (past is_work) (sym (append-nil ws)) ∙ perhaps_past is_work ws [] p refl

pub set_transaction_reads : (last : ℕ) (t : At Token) (is : Tokens) (level : Level) → Key words.Transaction t → IsolationIs is level → set_at last (t ∷ is) ≡ Ok (SetTransaction level, [])
unfolding set_at level_at
set_transaction_reads last t _ _ h (uncommitted i l r u hi hl hr hu) = rw (h, hi, hl, hr, not_key words.Uncommitted words.Committed u hu (λ e. cc), hu) refl
set_transaction_reads last t _ _ h (committed i l r c hi hl hr hc) = rw (h, hi, hl, hr, hc) refl
set_transaction_reads last t _ _ h (repeatable i l p r hi hl hp hr) = rw (h, hi, hl, not_key words.Repeatable words.Read p hp (λ e. cc), hp, hr) refl

parameter_reads : (last : ℕ) (d q v : At Token) → Key words.DeadlockTimeout d → Is is_to q → Is is_setting v → parameter_at last (d ∷ q ∷ v ∷ []) ≡ Ok (SetDeadlockTimeout, [])
unfolding parameter_at
parameter_reads last d q v hd hq hv = rw (hd, hq, hv) refl

scope_words : (x : Token) → is_scope x ≡ true → is_word words.Transaction x ≡ false
scope_words x h = of_session (is_word words.Session x) refl h
  where
    of_session : (b : Bool) → is_word words.Session x ≡ b → (b || is_word words.Local x) ≡ true → is_word words.Transaction x ≡ false
    of_session true g k = let w = word_is words.Session x g in ap (is_word words.Transaction) w.1 ∙ other_word words.Session words.Transaction w.0 (λ e. cc)
    of_session false g k = let w = word_is words.Local x k in ap (is_word words.Transaction) w.1 ∙ other_word words.Local words.Transaction w.0 (λ e. cc)

pub set_timeout_reads : (last : ℕ) (d q v : At Token) (ws : Tokens) → Perhaps is_scope ws → Key words.DeadlockTimeout d → Is is_to q → Is is_setting v → set_at last (ws ++ d ∷ q ∷ v ∷ []) ≡ Ok (SetDeadlockTimeout, [])
unfolding set_at
set_timeout_reads last d q v _ nothing hd hq hv = rw (not_key words.DeadlockTimeout words.Transaction d hd (λ e. cc), key_scope words.DeadlockTimeout (λ e. cc) (λ e. cc) d hd) (parameter_reads last d q v hd hq hv)
set_timeout_reads last d q v _ (one_is s h) hd hq hv = rw (scope_words s.tok h, h) (parameter_reads last d q v hd hq hv)

-- ---- DROP

drop_list_reads : (last : ℕ) (ts : Tokens) (ns : List (List ℕ)) → Commas AddsName [] ts ns → (s : List (List ℕ)) → s ≡ [] → items_at (added (name_at last)) [] ts ≡ Ok (ns, [])
drop_list_reads last ts ns k s e = ap (items_at (added (name_at last)) []) (sym (append-nil ts)) ∙ list_reads (added (name_at last)) AddsName (λ s. Unit {0}) (λ s. Unit {0}) (λ rest. Unit {0}) (λ s t ts b a. tt) (λ s t ts a b. tt) add_reads (λ c us h. tt) k tt tt [] tt refl
  where
    add_reads : (s t : List (List ℕ)) (ts rest : Tokens) → Unit {0} → AddsName s ts t → Unit {0} → Unit {0} → added (name_at last) s (ts ++ rest) ≡ Ok (t, rest)
    add_reads _ _ _ rest b (adds_name ns t n h) f g = rw h refl

pub drop_if_reads : (last : ℕ) (t i e : At Token) (ts : Tokens) (ns : List (List ℕ)) → Key words.Table t → Key words.If i → Key words.Exists e → Commas AddsName [] ts ns → drop_at last (t ∷ i ∷ e ∷ ts) ≡ Ok (DropTables (record { if_exists = true; names = ns }), [])
unfolding drop_at
drop_if_reads last t i e ts ns ht hi he k = rw (ht, hi, he, drop_list_reads last ts ns k [] refl) refl

-- where a list of names stands, EXISTS does not follow its first name
no_exists : (s v : List (List ℕ)) (ts : Tokens) → Commas AddsName s ts v → after_if ts ≡ None
no_exists _ _ _ (last_item s v ts a) = of_name s v ts a
  where
    of_name : (s v : List (List ℕ)) (ts : Tokens) → AddsName s ts v → after_if ts ≡ None
    of_name _ _ _ (adds_name ns t n h) = of_test (is_word words.If t.tok)
      where
        of_test : (b : Bool) → option_map_or (after (is_word words.Exists)) (if b then Some [] else None) None ≡ None
        of_test true = refl
        of_test false = refl
no_exists _ _ _ (next_item s t v ts us c a g k) = of_name s t ts a c us g
  where
    comma_word : (x : Token) → is_sign signs.Comma x ≡ true → is_word words.Exists x ≡ false
    comma_word (tok.sign signs.Comma) e = refl
    comma_word _ e = absurd cc

    of_name : (s v : List (List ℕ)) (ts : Tokens) → AddsName s ts v → (c : At Token) (us : Tokens) → Is (is_sign signs.Comma) c → after_if (ts ++ c ∷ us) ≡ None
    of_name _ _ _ (adds_name ns t n h) c us g = of_test (is_word words.If t.tok)
      where
        of_test : (b : Bool) → option_map_or (after (is_word words.Exists)) (if b then Some (c ∷ us) else None) None ≡ None
        of_test true = rw (comma_word c.tok g) refl
        of_test false = refl

pub drop_reads : (last : ℕ) (t : At Token) (ts : Tokens) (ns : List (List ℕ)) → Key words.Table t → Commas AddsName [] ts ns → drop_at last (t ∷ ts) ≡ Ok (DropTables (record { if_exists = false; names = ns }), [])
unfolding drop_at
drop_reads last t ts ns ht k = rw (ht, no_exists [] ns ts k, drop_list_reads last ts ns k [] refl) refl

-- ---- names that differ

not_true : (b : Bool) → not b ≡ true → b ≡ false
not_true true e = absurd cc
not_true false e = refl

both_false : (x y : Bool) → x ≡ false → y ≡ false → (x || y) ≡ false
both_false true y h k = absurd cc
both_false false y h k = k

both_true : (x y : Bool) → x ≡ true → y ≡ true → (x && y) ≡ true
both_true true y h k = k
both_true false y h k = absurd cc

-- a name is none of those before it
pub differ_pop : (ns : List (List ℕ)) (n : List ℕ) → all_differ (ns ++ n ∷ []) ≡ true → (all_differ ns ≡ true) × (has_name n ns ≡ false)
differ_pop [] n h = (refl, refl)
differ_pop (m ∷ ms) n h =
    let p = and_parts (not (list_any (bytes_eq m) (ms ++ n ∷ []))) (all_differ (ms ++ n ∷ [])) h in
    let none = sym (list_any-append (bytes_eq m) ms (n ∷ [])) ∙ not_true (list_any (bytes_eq m) (ms ++ n ∷ [])) p.0 in
    let q = or_parts (list_any (bytes_eq m) ms) (list_any (bytes_eq m) (n ∷ [])) none in
    let r = or_parts (bytes_eq m n) false q.1 in
    let s = differ_pop ms n p.1 in
    (both_true (not (list_any (bytes_eq m) ms)) (all_differ ms) (ap not q.0) s.0, both_false (bytes_eq m n) (has_name n ms) r.0 s.1)

-- ---- rows

rows_pop : (w : Option ℕ) (rs : List (List Tree)) (r : List Tree) → rows_fit w (rs ++ r ∷ []) ≡ true → (rows_fit w rs ≡ true) × (fits (width_behind w rs) (length r) ≡ true)
rows_pop w [] r h = (refl, (and_parts (fits w (length r)) true h).0)
rows_pop w (q ∷ rs) r h =
    let p = and_parts (fits w (length q)) (rows_fit (Some (length q)) (rs ++ r ∷ [])) h in
    let s = rows_pop (Some (length q)) rs r p.1 in
    (both_true (fits w (length q)) (rows_fit (Some (length q)) rs) p.0 s.0, s.1)

module _ (last : ℕ) where
  value_reads : (s t : List Tree) (ts rest : Tokens) → Unit {0} → AddsValue Shallow s ts t → Unit {0} → Ends rest → added (tree_at last) s (ts ++ rest) ≡ Ok (t, rest)
  value_reads _ _ _ rest b (adds_value es ts e h) f g = rw (tree_reads last ts rest e h g) refl

  values_read : (ts : Tokens) (es : List Tree) (c : At Token) (rest : Tokens) → Commas (AddsValue Shallow) [] ts es → Is (is_sign signs.Close) c → items_at (added (tree_at last)) [] (ts ++ (c ∷ rest)) ≡ Ok (es, c ∷ rest)
  values_read ts es c rest k h = list_reads (added (tree_at last)) (AddsValue Shallow) (λ s. Unit {0}) (λ s. Unit {0}) Ends (λ s t ts b a. tt) (λ s t ts a b. tt) value_reads (λ c us h. comma_ends c us h) k tt tt (c ∷ rest) (close_ends c rest h) (no_comma_at_close c rest h)

  row_reads : (s : Rows) (ts rest : Tokens) (es : List Tree) → RowIs Shallow ts es → fits s.width (length es) ≡ true → row_add last s (ts ++ rest) ≡ Ok (with_row s es, rest)
  unfolding row_add
  row_reads s _ rest _ (is_row o c ts es ho k hc) h = rw (ho, append_assoc ts (c ∷ []) rest, values_read ts es c rest k hc, hc, h) refl

  abbrev Widths : Option ℕ → Rows → Type 0
  Widths w s = s.width ≡ width_behind w s.rows

  abbrev Fit : Option ℕ → Rows → Type 0
  Fit w s = rows_fit w s.rows ≡ true

  rows_go : (w : Option ℕ) (s t : Rows) (ts : Tokens) → Widths w s → AddsRow Shallow s ts t → Widths w t
  rows_go w _ _ _ b (adds_row s ts es h) = sym (behind_push w s.rows es)

  rows_come : (w : Option ℕ) (s t : Rows) (ts : Tokens) → AddsRow Shallow s ts t → Fit w t → Fit w s
  rows_come w _ _ _ (adds_row s ts es h) f = (rows_pop w s.rows es f).0

  rows_add : (w : Option ℕ) (s t : Rows) (ts rest : Tokens) → Widths w s → AddsRow Shallow s ts t → Fit w t → Unit {0} → row_add last s (ts ++ rest) ≡ Ok (t, rest)
  rows_add w _ _ _ rest b (adds_row s ts es h) f g = row_reads s ts rest es h (ap (λ o. fits o (length es)) b ∙ (rows_pop w s.rows es f).1)

  rows_read : (columns : Option (List (List ℕ))) (ts rest : Tokens) (r : Rows) → Commas (AddsRow Shallow) (no_rows columns) ts r → rows_fit (option_map length columns) r.rows ≡ true → after (is_sign signs.Comma) rest ≡ None → items_at (row_add last) (no_rows columns) (ts ++ rest) ≡ Ok (r, rest)
  rows_read columns ts rest r k h e = list_reads (row_add last) (AddsRow Shallow) (Widths (option_map length columns)) (Fit (option_map length columns)) (λ rest. Unit {0}) (rows_go (option_map length columns)) (rows_come (option_map length columns)) (rows_add (option_map length columns)) (λ c us h. tt) k refl h rest tt e

  -- ---- INSERT

  abbrev Differ : List (List ℕ) → Type 0
  Differ ns = all_differ ns ≡ true

  distinct_come : (s t : List (List ℕ)) (ts : Tokens) → AddsName s ts t → Differ t → Differ s
  distinct_come _ _ _ (adds_name ns t n h) f = (differ_pop ns n f).0

  distinct_reads : (s t : List (List ℕ)) (ts rest : Tokens) → Unit {0} → AddsName s ts t → Differ t → Unit {0} → distinct_add last s (ts ++ rest) ≡ Ok (t, rest)
  distinct_reads _ _ _ rest b (adds_name ns t n h) f g = rw (h, (differ_pop ns n f).1) refl

  key_opens : (x : Token) (w : Word) → is_word w x ≡ true → is_sign signs.Open x ≡ false
  key_opens (tok.word v s) w e = refl
  key_opens _ w e = absurd cc

  columns_read : (cs : Tokens) (columns : Option (List (List ℕ))) (v : At Token) (rest : Tokens) → ColumnsAre cs columns → columns_differ columns ≡ true → Key words.Values v → columns_at last (cs ++ (v ∷ rest)) ≡ Ok (columns, v ∷ rest)
  unfolding columns_at
  columns_read _ _ v rest unlisted d h = rw (key_opens v.tok words.Values h) refl
  columns_read _ _ v rest (listed_columns o c ts ns ho k hc) d h =
      let names = list_reads (distinct_add last) AddsName (λ s. Unit {0}) Differ (λ rest. Unit {0}) (λ s t ts b a. tt) distinct_come distinct_reads (λ c us h. tt) k tt d (c ∷ (v ∷ rest)) tt (no_comma_at_close c (v ∷ rest) hc) in
      rw (ho, append_assoc ts (c ∷ []) (v ∷ rest), names, hc) refl

  conflict_commas : (cs rest : Tokens) (b : Bool) → ConflictIs cs b → after (is_sign signs.Comma) rest ≡ None → after (is_sign signs.Comma) (cs ++ rest) ≡ None
  conflict_commas _ rest _ fails e = e
  conflict_commas _ rest _ (does_nothing o c d n ho hc hd hn) e = no_comma_at_key words.On o (c ∷ d ∷ n ∷ rest) ho

  pub insert_reads : (o n v : At Token) (name : List ℕ) (cs ts ds rs : Tokens) (columns : Option (List (List ℕ))) (rows : Rows) (b : Bool) (t : Option (List ItemTree)) → Key words.Into o → Names name n → ColumnsAre cs columns → Key words.Values v → Commas (AddsRow Shallow) (no_rows columns) ts rows → ConflictIs ds b → ReturningIs Shallow rs t → columns_differ columns ≡ true → rows_fit (option_map length columns) rows.rows ≡ true → insert_at last (o ∷ n ∷ (cs ++ v ∷ (ts ++ (ds ++ rs)))) ≡ Ok (Inserts (record { table = name; columns = columns; rows = rows.rows; do_nothing = b; returning = t }), [])
  unfolding insert_at
  insert_reads o n v name cs ts ds rs columns rows b t ho hn hc hv k p q d f =
      let all = rows_read columns ts (ds ++ rs) rows k f (conflict_commas ds rs b p (none_at_returning (is_sign signs.Comma) (λ s. refl) rs t q)) in
      let does = conflict_reads last ds rs b p (none_at_returning (is_word words.On) (λ s. refl) rs t q) in
      rw (ho, hn, columns_read cs columns v (ts ++ (ds ++ rs)) hc d hv, hv, all, does, returning_reads last rs t q) refl

  -- ---- UPDATE and DELETE

  pub where_reads : (ws rest : Tokens) (filter : Option Tree) → WhereIs Shallow ws filter → Ends rest → after (is_word words.Where) rest ≡ None → filter_at last (ws ++ rest) ≡ Ok (filter, rest)
  unfolding filter_at
  where_reads _ rest _ unfiltered e h = rw h refl
  where_reads _ rest _ (filtered w ts x hw q) e h = rw (hw, tree_reads last ts rest x q e) refl

  where_returns : (ws rs : Tokens) (filter : Option Tree) (t : Option (List ItemTree)) → WhereIs Shallow ws filter → ReturningIs Shallow rs t → filter_at last (ws ++ rs) ≡ Ok (filter, rs)
  where_returns ws rs filter t h k = where_reads ws rs filter h (returning_ends rs t k) (none_at_returning (is_word words.Where) (λ s. refl) rs t k)

  where_ends : (ws rest : Tokens) (filter : Option Tree) → WhereIs Shallow ws filter → Ends rest → Ends (ws ++ rest)
  where_ends _ rest _ unfiltered e = e
  where_ends _ rest _ (filtered w ts x hw q) e = let k = word_is words.Where w.tok hw in rw k.1 refl

  where_commas : (ws rest : Tokens) (filter : Option Tree) → WhereIs Shallow ws filter → after (is_sign signs.Comma) rest ≡ None → after (is_sign signs.Comma) (ws ++ rest) ≡ None
  where_commas _ rest _ unfiltered e = e
  where_commas _ rest _ (filtered w ts x hw q) e = no_comma_at_key words.Where w (ts ++ rest) hw

  abbrev SetsDiffer : List SetTree → Type 0
  SetsDiffer ss = all_differ (set_columns ss) ≡ true

  set_pop : (ss : List SetTree) (s : SetTree) → SetsDiffer (ss ++ s ∷ []) → SetsDiffer ss × (has_name s.column (set_columns ss) ≡ false)
  set_pop ss s f = differ_pop (set_columns ss) s.column (ap all_differ (sym (map-append (λ (x : SetTree). x.column) ss (s ∷ []))) ∙ f)

  sets_come : (s t : List SetTree) (ts : Tokens) → AddsSet Shallow s ts t → SetsDiffer t → SetsDiffer s
  sets_come _ _ _ (adds_set ss n q name ts e hn hq k) f = (set_pop ss (record { column = name; value = e }) f).0

  set_reads : (s t : List SetTree) (ts rest : Tokens) → Unit {0} → AddsSet Shallow s ts t → SetsDiffer t → Ends rest → set_add last s (ts ++ rest) ≡ Ok (t, rest)
  unfolding set_add
  set_reads _ _ _ rest b (adds_set ss n q name ts e hn hq k) f g = rw (hn, (set_pop ss (record { column = name; value = e }) f).1, hq, tree_reads last ts rest e k g) refl

  pub update_reads : (n s : At Token) (name : List ℕ) (ts ws rs : Tokens) (sets : List SetTree) (filter : Option Tree) (t : Option (List ItemTree)) → Names name n → Key words.Set s → Commas (AddsSet Shallow) [] ts sets → WhereIs Shallow ws filter → ReturningIs Shallow rs t → all_differ (set_columns sets) ≡ true → update_at last (n ∷ s ∷ (ts ++ (ws ++ rs))) ≡ Ok (Updates (record { table = name; sets = sets; filter = filter; returning = t }), [])
  unfolding update_at
  update_reads n s name ts ws rs sets filter t hn hs k w r f =
      let commas = where_commas ws rs filter w (none_at_returning (is_sign signs.Comma) (λ s. refl) rs t r) in
      let all = list_reads (set_add last) (AddsSet Shallow) (λ s. Unit {0}) SetsDiffer Ends (λ s t ts b a. tt) sets_come set_reads (λ c us h. comma_ends c us h) k tt f (ws ++ rs) (where_ends ws rs filter w (returning_ends rs t r)) commas in
      rw (hn, hs, all, where_returns ws rs filter t w r, returning_reads last rs t r) refl

  pub delete_reads : (f n : At Token) (name : List ℕ) (ws rs : Tokens) (filter : Option Tree) (t : Option (List ItemTree)) → Key words.From f → Names name n → WhereIs Shallow ws filter → ReturningIs Shallow rs t → delete_at last (f ∷ n ∷ (ws ++ rs)) ≡ Ok (Deletes (record { table = name; filter = filter; returning = t }), [])
  unfolding delete_at
  delete_reads f n name ws rs filter t hf hn w r = rw (hf, hn, where_returns ws rs filter t w r, returning_reads last rs t r) refl
