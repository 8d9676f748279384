-- SELECT is read as far as its tokens allow.
use Rattle.std.proofs.Common.{◌≡◌, ℕ, Bool, true, false, List, [], ◌∷◌, ◌++◌, Option, Some, None, refl, sym, ap, subst, ◌∙◌, append-nil}
use Rattle.std.specs.Prelude.{Result, Ok, Err, option_map, if◌then◌else◌}
use Rattle.std.specs.Option.{option_map_or}
use Rattle.iso_lexer.specs.declared.token.At.{At}
use Rattle.iso_lexer.specs.declared.sql_token.SqlSign.TheVariants as signs
use Rattle.iso_lexer.specs.Names as names
use Rattle.sql_trees.specs.declared.fault.SqlFault.{SqlFault}
use Rattle.sql_trees.specs.declared.fault.SqlFault.TheVariants.{LeftOut, BadColumns}
use Rattle.sql_trees.specs.declared.word.Word.TheVariants as words
use Rattle.sql_trees.specs.declared.expr.AggKind.{AggKind}
use Rattle.sql_trees.specs.declared.expr.AggKind.TheVariants as aggs
use Rattle.sql_trees.specs.declared.stmt.Lock.{Lock}
use Rattle.sql_trees.specs.declared.stmt.Strength.TheVariants as strengths
use Rattle.sql_trees.specs.declared.stmt.Policy.TheVariants as policies
use Rattle.sql_trees.specs.Words.{is_reserved}
use Rattle.sql_trees.specs.Statements.{StmtTree, ItemTree, OrderTree, SelectTree, Selects, All, Value, Aggregate}
use Rattle.sql_trees.specs.Tokens.{Token, Tokens, named}
use Rattle.sql_trees.specs.Tokens as tok
use Rattle.sql_trees.specs.Trees.{Tree, AggTree, CountRows, Of}
use Rattle.sql_expressions.specs.Results.{◌>>=◌}
use Rattle.sql_expressions.specs.Readers.{expect, is_word, is_sign, after, keyword, name_at, items_at, Reader, added}
use Rattle.sql_expressions.specs.Laws.{head}
use Rattle.sql_expressions.proofs.Local.{first_is, head_after}
use Rattle.sql_blocks.specs.Parts.{column_names, is_allowed}
use Rattle.sql_expressions.specs.Reading.{agg_kind}
use Rattle.sql_parser.specs.Readers.{tree_at}
use Rattle.sql_parser.specs.Tables.{TableRead, keys_fault, created}
use Rattle.sql_parser.specs.Changes.{alias_at, filter_at}
use Rattle.sql_parser.specs.Inner.Queries.{call_at, direction_at, agg_at, item_of, item_at, from_at, nulls_at, order_add, order_at, strength_at, lock_of, lock_at, query_of, select_at}
use Rattle.sql_parser.specs.Queries.{policy_at}
use Rattle.sql_parser.specs.Grammar.{Is, Key, Names, Commas, AliasIs, no_alias, AggIs, all_rows, of_values, AddsItem, a_star, a_value, an_aggregate, FromIs, no_table, from_table, DirectionIs, as_ever, ascending, descending, NullsAre, unsaid, nulls_first, nulls_last, AddsKey, adds_key, OrderIs, unordered, ordered, StrengthIs, for_update, for_no_key_update, for_share, for_key_share, PolicyIs, wait, no_wait, skip_locked, LockIs, no_lock, locks, WhereIs, unfiltered, Spells, select}
use Rattle.sql_parser.proofs.Locals.{Inhabited, Local, Begun, took, stopped, gives, behind, same_at, switch_at, switch_end, in_turn, mapped, token_then, token_last, name_then, list_local, some_list, chosen}
use Rattle.sql_parser.proofs.StmtLocals.{a_word, a_sign, a_name, the_name, key_is, alias_local}
use Rattle.sql_parser.proofs.ChangeLocals.{where_local}

-- a statement that was read, or what is wrong with the whole of it
pub data Shown (ts : Tokens) : Result StmtTree SqlFault → StmtTree → Type 0 where
  shown : (s : StmtTree) → Shown ts (Ok s) s
  no_columns : (place : ℕ) (name : List ℕ) (t : TableRead) → keys_fault name (column_names t.columns) [] t.keys ≡ Some place → Shown ts (Err (BadColumns place)) (created name t)
  no_query : (s : At Token) (us : Tokens) (q : SelectTree) → ts ≡ s ∷ us → is_allowed q ≡ false → Shown ts (Err (LeftOut s.span.start)) (Selects q)

pub record Whole (E : Tokens → Tree → Type 0) (ts : Tokens) (r : Result StmtTree SqlFault) : Type 0 where
  pub stmt : StmtTree
  pub spells : Spells E ts stmt
  pub shows : Shown ts r stmt

pub query_shown : (s : At Token) (us : Tokens) (q : SelectTree) → Shown (s ∷ us) (query_of s.span.start q) (Selects q)
query_shown s us q = of_test (is_allowed q) refl
  where
    of_test : (b : Bool) → is_allowed q ≡ b → Shown (s ∷ us) (if b then Ok (Selects q) else Err (LeftOut s.span.start)) (Selects q)
    of_test true h = shown (Selects q)
    of_test false h = no_query s us q refl h

-- what stands behind a first token decides whether a call stands there
after_same : (is_it : Token → Bool) (xs ys : Tokens) → head xs ≡ head ys → after is_it xs ≡ None → after is_it ys ≡ None
after_same is_it [] [] h e = refl
after_same is_it [] (y ∷ ys) h e = absurd cc
after_same is_it (x ∷ xs) ys h e =
    let w = first_is x ys (sym h) in
    ap (after is_it) w.1 ∙ of_test (is_it x.tok) refl e
  where
    of_test : (b : Bool) → is_it x.tok ≡ b → (if b then Some xs else None) ≡ None → after is_it (x ∷ (first_is x ys (sym h)).0) ≡ None
    of_test true k g = absurd cc
    of_test false k g = rw k refl

abbrev pub call_of : Option AggKind → Option Tokens → Option (AggKind × Tokens)
call_of k o = option_map_or (λ j. option_map (λ us. (j, us)) o) k None

call_none : (k : Option AggKind) (xs ys : Tokens) → head xs ≡ head ys → call_of k (after (is_sign signs.Open) xs) ≡ None → call_of k (after (is_sign signs.Open) ys) ≡ None
call_none None xs ys h e = refl
call_none (Some k) xs ys h e = of_after (after (is_sign signs.Open) xs) refl e
  where
    of_after : (o : Option Tokens) → after (is_sign signs.Open) xs ≡ o → call_of (Some k) o ≡ None → call_of (Some k) (after (is_sign signs.Open) ys) ≡ None
    of_after None g f = ap (call_of (Some k)) (after_same (is_sign signs.Open) xs ys h g)
    of_after (Some us) g f = absurd cc

module _ (last : ℕ) (E : Tokens → Tree → Type 0) (W Any : Type 0) (an_expr : Inhabited E) (exprs : (ts : Tokens) → Local last E W Any E (tree_at last) ts)
    (some_token : (xs : Tokens) (e : Tree) → E xs e → (t : At Token) × (us : Tokens) × (xs ≡ t ∷ us))
    (one_name : (t : At Token) (n : List ℕ) → Names n t → (e : Tree) × (tree_at last (t ∷ []) ≡ Ok (e, []))) where
  -- ---- items

  agg_some : (k o : At Token) (kind : AggKind) → agg_kind k.tok ≡ Some kind → Is (is_sign signs.Open) o → Inhabited (λ xs w. AggIs E (k ∷ o ∷ xs) w)
  agg_some k o kind hk ho = (an_expr.0 ++ a_sign signs.Close ∷ [], Of kind an_expr.1, of_values k o (a_sign signs.Close) kind an_expr.0 an_expr.1 hk ho an_expr.2 refl)

  of_local : (k o : At Token) (kind : AggKind) → agg_kind k.tok ≡ Some kind → Is (is_sign signs.Open) o → (ts : Tokens) → Local last E W Any (λ xs w. AggIs E (k ∷ o ∷ xs) w) (λ r. tree_at last r >>= λ e. expect last (is_sign signs.Close) e.1 >>= λ rest. Ok (Of kind e.0, rest)) ts
  of_local k o kind hk ho ts = in_turn last E W Any E (λ xs w. AggIs E (k ∷ o ∷ xs) w) (tree_at last) (λ e r. expect last (is_sign signs.Close) r >>= λ rest. Ok (Of kind e, rest)) ts
      (λ xs e q. (a_sign signs.Close ∷ [], Of kind e, of_values k o (a_sign signs.Close) kind xs e hk ho q refl))
      (exprs ts)
      (λ e xs rest split q. token_last last E W Any (λ ys w. AggIs E (k ∷ o ∷ (xs ++ ys)) w) (is_sign signs.Close) (Of kind e) rest (a_sign signs.Close ∷ [], Of kind e, of_values k o (a_sign signs.Close) kind xs e hk ho q refl) (λ c hc. of_values k o c kind xs e hk ho q hc))

  agg_local : (k o : At Token) (kind : AggKind) → agg_kind k.tok ≡ Some kind → Is (is_sign signs.Open) o → (ts : Tokens) → Local last E W Any (λ xs w. AggIs E (k ∷ o ∷ xs) w) (agg_at last kind) ts
  unfolding agg_at
  agg_local k o aggs.Count hk ho ts = chosen last E W Any (λ xs w. AggIs E (k ∷ o ∷ xs) w) (is_sign signs.Star) (λ us. expect last (is_sign signs.Close) us >>= λ rest. Ok (CountRows, rest)) (λ r. tree_at last r >>= λ e. expect last (is_sign signs.Close) e.1 >>= λ rest. Ok (Of aggs.Count e.0, rest)) ts
      (λ s us hs. token_last last E W Any (λ xs w. AggIs E (k ∷ o ∷ s ∷ xs) w) (is_sign signs.Close) CountRows us (a_sign signs.Close ∷ [], CountRows, all_rows k o s (a_sign signs.Close) hk ho hs refl) (λ c hc. all_rows k o s c hk ho hs hc))
      (of_local k o aggs.Count hk ho ts)
  agg_local k o aggs.Sum hk ho ts = of_local k o aggs.Sum hk ho ts
  agg_local k o aggs.Min hk ho ts = of_local k o aggs.Min hk ho ts
  agg_local k o aggs.Max hk ho ts = of_local k o aggs.Max hk ho ts

  -- an item, behind whichever items
  abbrev ItemIs : Tokens → ItemTree → Type 0
  ItemIs xs i = (is : List ItemTree) → AddsItem E is xs (is ++ i ∷ [])

  abbrev expr_item : Reader ItemTree
  expr_item r = tree_at last r >>= λ e. alias_at last e.1 >>= λ n. Ok (Value e.0 n.0, n.1)

  abbrev call_item : AggKind → Reader ItemTree
  call_item k r = agg_at last k r >>= λ a. alias_at last a.1 >>= λ n. Ok (Aggregate a.0 n.0, n.1)

  abbrev item_of_call : Reader ItemTree
  item_of_call r = item_of last (call_at r) r

  value_none : (xs : Tokens) (e : Tree) → E xs e → ItemIs xs (Value e None)
  value_none xs e q is = subst (λ ys. AddsItem E is ys (is ++ Value e None ∷ [])) (append-nil xs) (a_value is xs [] e None q no_alias)

  some_item : Inhabited ItemIs
  some_item = (an_expr.0, Value an_expr.1 None, value_none an_expr.0 an_expr.1 an_expr.2)

  expr_item_local : (ts : Tokens) → Local last E W Any ItemIs expr_item ts
  expr_item_local ts = in_turn last E W Any E ItemIs (tree_at last) (λ e r. alias_at last r >>= λ n. Ok (Value e n.0, n.1)) ts
      (λ xs e q. ([], Value e None, λ is. a_value is xs [] e None q no_alias))
      (exprs ts)
      (λ e xs rest split q. mapped last E W Any AliasIs (λ ys w. ItemIs (xs ++ ys) w) (alias_at last) (Value e) rest (λ ys n k is. a_value is xs ys e n q k) (alias_local last E W Any rest))

  agg_none : (k o : At Token) (xs : Tokens) (a : AggTree) → AggIs E (k ∷ o ∷ xs) a → ItemIs (k ∷ o ∷ (xs ++ [])) (Aggregate a None)
  agg_none k o xs a q is = an_aggregate is (k ∷ o ∷ xs) [] a None q no_alias

  call_item_local : (k o : At Token) (kind : AggKind) → agg_kind k.tok ≡ Some kind → Is (is_sign signs.Open) o → (ts : Tokens) → Local last E W Any (λ xs w. ItemIs (k ∷ o ∷ xs) w) (call_item kind) ts
  call_item_local k o kind hk ho ts = in_turn last E W Any (λ xs w. AggIs E (k ∷ o ∷ xs) w) (λ xs w. ItemIs (k ∷ o ∷ xs) w) (agg_at last kind) (λ a r. alias_at last r >>= λ n. Ok (Aggregate a n.0, n.1)) ts
      (λ xs a q. ([], Aggregate a None, agg_none k o xs a q))
      (agg_local k o kind hk ho ts)
      (λ a xs rest split q. mapped last E W Any AliasIs (λ ys w. ItemIs (k ∷ o ∷ (xs ++ ys)) w) (alias_at last) (Aggregate a) rest (λ ys n j is. an_aggregate is (k ∷ o ∷ xs) ys a n q j) (alias_local last E W Any rest))

  -- where no call stands, an expression does
  item_same : (t : At Token) (us vs : Tokens) → head vs ≡ head us → call_at (t ∷ us) ≡ None → item_of_call (t ∷ vs) ≡ expr_item (t ∷ vs)
  item_same t us vs h e = ap (λ o. item_of last o (t ∷ vs)) (call_none (agg_kind t.tok) us vs (sym h) e)

  ok_is_no_err : (x : ItemTree × Tokens) (e : SqlFault) → ◌≡◌ {A = Result (ItemTree × Tokens) SqlFault} (Ok x) (Err e) → ⊥
  ok_is_no_err x e h = cc

  no_alias_at : alias_at last [] ≡ Ok (None, [])
  unfolding alias_at
  no_alias_at = refl

  name_reads : (t : At Token) (n : List ℕ) → Names n t → (i : ItemTree) × (expr_item (t ∷ []) ≡ Ok (i, []))
  name_reads t n h = let o = one_name t n h in (Value o.0 None, rw (o.1, no_alias_at) refl)

  agg_named : (x : Token) (k : AggKind) → agg_kind x ≡ Some k → (n : List ℕ) × (named x ≡ Some n)
  unfolding is_reserved
  agg_named (tok.word words.Count s) k e = (names.decoded (names.folded s), refl)
  agg_named (tok.word words.Sum s) k e = (names.decoded (names.folded s), refl)
  agg_named (tok.word words.Min s) k e = (names.decoded (names.folded s), refl)
  agg_named (tok.word words.Max s) k e = (names.decoded (names.folded s), refl)
  agg_named _ k e = absurd cc

  front_same : (t : At Token) (us front rest others : Tokens) → call_at (t ∷ us) ≡ None → t ∷ us ≡ front ++ rest → head others ≡ head rest → (f : At Token) (fs : Tokens) → front ≡ f ∷ fs → item_of_call (front ++ others) ≡ expr_item (front ++ others)
  front_same t us front rest others e split h f fs is =
      let same : t ∷ us ≡ f ∷ (fs ++ rest) = split ∙ ap (λ xs. xs ++ rest) is in
      let none : call_at (f ∷ (fs ++ rest)) ≡ None = ap call_at (sym same) ∙ e in
      ap (λ xs. item_of_call (xs ++ others)) is ∙ item_same f (fs ++ rest) (fs ++ others) (head_after fs others rest h) none ∙ ap (λ xs. expr_item (xs ++ others)) (sym is)

  item_some : (before after : List ItemTree) (xs : Tokens) → AddsItem E before xs after → (t : At Token) × (us : Tokens) × (xs ≡ t ∷ us)
  item_some _ _ _ (a_star is s h) = (s, [], refl)
  item_some _ _ _ (a_value is ts us e n q a) = let k = some_token ts e q in (k.0, k.1 ++ us, ap (λ ys. ys ++ us) k.2)
  item_some _ _ _ (an_aggregate is ts us a n q b) = of_agg ts a q us
    where
      of_agg : (ts : Tokens) (a : AggTree) → AggIs E ts a → (us : Tokens) → (t : At Token) × (vs : Tokens) × (ts ++ us ≡ t ∷ vs)
      of_agg _ _ (all_rows k o s c hk ho hs hc) us = (k, o ∷ s ∷ c ∷ us, refl)
      of_agg _ _ (of_values k o c kind xs e hk ho q hc) us = (k, o ∷ ((xs ++ c ∷ []) ++ us), refl)

  no_call_local : (t : At Token) (us : Tokens) (n : List ℕ) → Names n t → call_at (t ∷ us) ≡ None → Local last E W Any ItemIs item_of_call (t ∷ us)
  no_call_local t us n hn none = of_expr (expr_item_local (t ∷ us))
    where
      of_front : (e : SqlFault) (front rest : Tokens) → t ∷ us ≡ front ++ rest → ((others : Tokens) → head others ≡ head rest → expr_item (front ++ others) ≡ Err e) → (Any → Begun last E W Any ItemIs e front rest) → Local last E W Any ItemIs item_of_call (t ∷ us)
      of_front e [] rest split local b = let r = name_reads t n hn in absurd (ok_is_no_err (r.0, []) e (sym r.1 ∙ local (t ∷ []) (ap head split)))
      of_front e (f ∷ fs) rest split local b = stopped e (f ∷ fs) rest split (λ others h. front_same t us (f ∷ fs) rest others none split h f fs refl ∙ local others h) b

      of_expr : Local last E W Any ItemIs expr_item (t ∷ us) → Local last E W Any ItemIs item_of_call (t ∷ us)
      of_expr (took i front rest split local q) = let k = item_some [] (i ∷ []) front (q []) in took i front rest split (λ others h. front_same t us front rest others none split h k.0 k.1 k.2 ∙ local others h) q
      of_expr (stopped e front rest split local b) = of_front e front rest split local b

  item_token_local : (t : At Token) (us : Tokens) (k : Option AggKind) → agg_kind t.tok ≡ k → Local last E W Any ItemIs item_of_call (t ∷ us)
  item_token_local t us None h = switch_at last E W Any ItemIs expr_item item_of_call t us (λ vs. rw h refl) (expr_item_local (t ∷ us))
  item_token_local t us (Some k) h = let n = agg_named t.tok k h in of_next us (after (is_sign signs.Open) us) refl n.0 n.1
    where
      of_next : (ws : Tokens) (o : Option Tokens) → after (is_sign signs.Open) ws ≡ o → (n : List ℕ) → Names n t → Local last E W Any ItemIs item_of_call (t ∷ ws)
      of_next ws None g n hn = no_call_local t ws n hn (rw (h, g) refl)
      of_next [] (Some vs) g n hn = absurd cc
      of_next (o ∷ ws) (Some vs) g n hn = of_open (is_sign signs.Open o.tok) refl g
        where
          of_open : (b : Bool) → is_sign signs.Open o.tok ≡ b → (if b then Some ws else None) ≡ Some vs → Local last E W Any ItemIs item_of_call (t ∷ o ∷ ws)
          of_open true f j = behind last E W Any ItemIs (λ r. item_of_call (t ∷ r)) item_of_call t (o ∷ ws) (λ xs. refl) (behind last E W Any (λ xs w. ItemIs (t ∷ xs) w) (call_item k) (λ r. item_of_call (t ∷ r)) o ws (λ xs. rw (h, f) refl) (call_item_local t o k h f ws))
          of_open false f j = absurd cc

  item_call_local : (ts : Tokens) → Local last E W Any ItemIs item_of_call ts
  item_call_local [] = switch_end last E W Any ItemIs expr_item item_of_call refl (expr_item_local [])
  item_call_local (t ∷ us) = item_token_local t us (agg_kind t.tok) refl

  item_local : (ts : Tokens) → Local last E W Any ItemIs (item_at last) ts
  unfolding item_at
  item_local ts = chosen last E W Any ItemIs (is_sign signs.Star) (λ rest. Ok (All, rest)) item_of_call ts
      (λ s us hs. gives last E W Any (λ xs w. ItemIs (s ∷ xs) w) All us (λ is. a_star is s hs))
      (item_call_local ts)

  item_add_local : (is : List ItemTree) (ts : Tokens) → Local last E W Any (AddsItem E is) (added (item_at last) is) ts
  item_add_local is ts = mapped last E W Any ItemIs (AddsItem E is) (item_at last) (λ i. is ++ i ∷ []) ts (λ xs i q. q is) (item_local ts)

  adds_some_item : (is : List ItemTree) → Inhabited (AddsItem E is)
  adds_some_item is = (a_sign signs.Star ∷ [], is ++ All ∷ [], a_star is (a_sign signs.Star) refl)

  -- ---- FROM, ORDER BY and FOR

  from_local : (ts : Tokens) → Local last E W Any FromIs (from_at last) ts
  unfolding from_at
  from_local ts = chosen last E W Any FromIs (is_word words.From) (λ us. name_at last us >>= λ x. Ok (Some x.0, x.1)) (λ us. Ok (None, us)) ts
      (λ f us hf. name_then last E W Any (λ xs w. FromIs (f ∷ xs) w) (λ n r. Ok (Some n, r)) us (a_name ∷ [], Some the_name, from_table f a_name the_name hf refl) (λ t n vs hn. gives last E W Any (λ xs w. FromIs (f ∷ t ∷ xs) w) (Some n) vs (from_table f t n hf hn)))
      (gives last E W Any FromIs None ts no_table)

  nulls_local : (down : Bool) (ts : Tokens) → Local last E W Any (NullsAre down) (nulls_at last down) ts
  unfolding nulls_at
  nulls_local down ts = chosen last E W Any (NullsAre down) (is_word words.Nulls) (λ us. option_map_or (λ rest. Ok (true, rest)) (after (is_word words.First) us) (keyword last words.Last us >>= λ rest. Ok (false, rest))) (λ us. Ok (down, us)) ts
      (λ n us hn. chosen last E W Any (λ xs w. NullsAre down (n ∷ xs) w) (is_word words.First) (λ rest. Ok (true, rest)) (λ vs. keyword last words.Last vs >>= λ rest. Ok (false, rest)) us
      (λ f vs hf. gives last E W Any (λ xs w. NullsAre down (n ∷ f ∷ xs) w) true vs (nulls_first n f hn hf))
      (token_last last E W Any (λ xs w. NullsAre down (n ∷ xs) w) (is_word words.Last) false us (a_word words.Last ∷ [], false, nulls_last n (a_word words.Last) hn (key_is words.Last [])) (λ l hl. nulls_last n l hn hl)))
      (gives last E W Any (NullsAre down) down ts unsaid)

  abbrev one_key : Tree → Bool → Bool → OrderTree
  one_key e desc first = record { expr = e; dir = record { desc = desc; nulls_first = first } }

  abbrev keys_with : List OrderTree → Tree → Bool → Reader (List OrderTree)
  keys_with ks e desc r = nulls_at last desc r >>= λ n. Ok (ks ++ one_key e desc n.0 ∷ [], n.1)

  direction_local : (ts : Tokens) → Local last E W Any DirectionIs direction_at ts
  unfolding direction_at
  direction_local ts = chosen last E W Any DirectionIs (is_word words.Asc) (λ us. Ok (false, us)) (λ us. option_map_or (λ vs. Ok (true, vs)) (after (is_word words.Desc) us) (Ok (false, us))) ts
      (λ a us ha. gives last E W Any (λ xs w. DirectionIs (a ∷ xs) w) false us (ascending a ha))
      (chosen last E W Any DirectionIs (is_word words.Desc) (λ us. Ok (true, us)) (λ us. Ok (false, us)) ts
      (λ d us hd. gives last E W Any (λ xs w. DirectionIs (d ∷ xs) w) true us (descending d hd))
      (gives last E W Any DirectionIs false ts as_ever))

  order_add_local : (ks : List OrderTree) (ts : Tokens) → Local last E W Any (AddsKey E ks) (order_add last ks) ts
  unfolding order_add
  order_add_local ks ts = in_turn last E W Any E (AddsKey E ks) (tree_at last) (λ e r. direction_at r >>= λ d. keys_with ks e d.0 d.1) ts
      (λ xs e q. ([], ks ++ one_key e false false ∷ [], adds_key ks xs [] [] e false false q as_ever unsaid))
      (exprs ts) (λ e xs rest split q.
      in_turn last E W Any DirectionIs (λ ys w. AddsKey E ks (xs ++ ys) w) direction_at (keys_with ks e) rest
      (λ ds desc d. ([], ks ++ one_key e desc desc ∷ [], adds_key ks xs ds [] e desc desc q d unsaid))
      (direction_local rest) (λ desc ds us split' d.
      mapped last E W Any (NullsAre desc) (λ ns w. AddsKey E ks (xs ++ (ds ++ ns)) w) (nulls_at last desc) (λ first. ks ++ one_key e desc first ∷ []) us (λ ns first n. adds_key ks xs ds ns e desc first q d n) (nulls_local desc us)))

  adds_some_key : (ks : List OrderTree) → Inhabited (AddsKey E ks)
  adds_some_key ks = (an_expr.0 ++ [], ks ++ one_key an_expr.1 false false ∷ [], adds_key ks an_expr.0 [] [] an_expr.1 false false an_expr.2 as_ever unsaid)

  order_local : (ts : Tokens) → Local last E W Any (OrderIs E) (order_at last) ts
  unfolding order_at
  order_local ts = chosen last E W Any (OrderIs E) (is_word words.Order) (λ us. keyword last words.By us >>= items_at (order_add last) []) (λ us. Ok ([], us)) ts
      (λ o us ho. let a = some_list last E W Any (order_add last) (AddsKey E) adds_some_key order_add_local [] in
      token_then last E W Any (λ xs w. OrderIs E (o ∷ xs) w) (is_word words.By) (items_at (order_add last) []) us (a_word words.By ∷ a.0, a.1, ordered o (a_word words.By) a.0 a.1 ho (key_is words.By []) a.2) (λ b vs hb.
      same_at last E W Any (Commas (AddsKey E) []) (λ xs w. OrderIs E (o ∷ b ∷ xs) w) (items_at (order_add last) []) (items_at (order_add last) []) vs (λ xs ks q. ordered o b xs ks ho hb q) (λ ws h. refl) (list_local last E W Any (order_add last) (AddsKey E) adds_some_key order_add_local [] vs)))
      (gives last E W Any (OrderIs E) [] ts unordered)

  strength_local : (ts : Tokens) → Local last E W Any StrengthIs (strength_at last) ts
  unfolding strength_at
  strength_local ts = chosen last E W Any StrengthIs (is_word words.No) (λ us. keyword last words.Key us >>= λ vs. keyword last words.Update vs >>= λ rest. Ok (strengths.NoKeyUpdate, rest)) (λ us. option_map_or (λ vs. keyword last words.Share vs >>= λ rest. Ok (strengths.KeyShare, rest)) (after (is_word words.Key) us) (option_map_or (λ vs. Ok (strengths.Update, vs)) (after (is_word words.Update) us) (keyword last words.Share us >>= λ rest. Ok (strengths.Share, rest)))) ts
      (λ n us hn. token_then last E W Any (λ xs w. StrengthIs (n ∷ xs) w) (is_word words.Key) (λ vs. keyword last words.Update vs >>= λ rest. Ok (strengths.NoKeyUpdate, rest)) us
      (a_word words.Key ∷ a_word words.Update ∷ [], strengths.NoKeyUpdate, for_no_key_update n (a_word words.Key) (a_word words.Update) hn (key_is words.Key []) (key_is words.Update [])) (λ k vs hk.
      token_last last E W Any (λ xs w. StrengthIs (n ∷ k ∷ xs) w) (is_word words.Update) strengths.NoKeyUpdate vs (a_word words.Update ∷ [], strengths.NoKeyUpdate, for_no_key_update n k (a_word words.Update) hn hk (key_is words.Update [])) (λ u hu. for_no_key_update n k u hn hk hu)))
      (chosen last E W Any StrengthIs (is_word words.Key) (λ us. keyword last words.Share us >>= λ rest. Ok (strengths.KeyShare, rest)) (λ us. option_map_or (λ vs. Ok (strengths.Update, vs)) (after (is_word words.Update) us) (keyword last words.Share us >>= λ rest. Ok (strengths.Share, rest))) ts
      (λ k us hk. token_last last E W Any (λ xs w. StrengthIs (k ∷ xs) w) (is_word words.Share) strengths.KeyShare us (a_word words.Share ∷ [], strengths.KeyShare, for_key_share k (a_word words.Share) hk (key_is words.Share [])) (λ s hs. for_key_share k s hk hs))
      (chosen last E W Any StrengthIs (is_word words.Update) (λ us. Ok (strengths.Update, us)) (λ us. keyword last words.Share us >>= λ rest. Ok (strengths.Share, rest)) ts
      (λ u us hu. gives last E W Any (λ xs w. StrengthIs (u ∷ xs) w) strengths.Update us (for_update u hu))
      (token_last last E W Any StrengthIs (is_word words.Share) strengths.Share ts (a_word words.Share ∷ [], strengths.Share, for_share (a_word words.Share) (key_is words.Share [])) (λ s hs. for_share s hs))))

  policy_local : (ts : Tokens) → Local last E W Any PolicyIs (policy_at last) ts
  unfolding policy_at
  policy_local ts = chosen last E W Any PolicyIs (is_word words.NoWait) (λ us. Ok (policies.NoWait, us)) (λ us. option_map_or (λ vs. keyword last words.Locked vs >>= λ rest. Ok (policies.SkipLocked, rest)) (after (is_word words.Skip) us) (Ok (policies.Wait, us))) ts
      (λ n us hn. gives last E W Any (λ xs w. PolicyIs (n ∷ xs) w) policies.NoWait us (no_wait n hn))
      (chosen last E W Any PolicyIs (is_word words.Skip) (λ us. keyword last words.Locked us >>= λ rest. Ok (policies.SkipLocked, rest)) (λ us. Ok (policies.Wait, us)) ts
      (λ s us hs. token_last last E W Any (λ xs w. PolicyIs (s ∷ xs) w) (is_word words.Locked) policies.SkipLocked us (a_word words.Locked ∷ [], policies.SkipLocked, skip_locked s (a_word words.Locked) hs (key_is words.Locked [])) (λ l hl. skip_locked s l hs hl))
      (gives last E W Any PolicyIs policies.Wait ts wait))

  lock_local : (ts : Tokens) → Local last E W Any LockIs (lock_at last) ts
  unfolding lock_at
  lock_local ts = chosen last E W Any LockIs (is_word words.For) (λ us. strength_at last us >>= λ s. policy_at last s.1 >>= λ p. Ok (Some (lock_of s.0 p.0), p.1)) (λ us. Ok (None, us)) ts
      (λ f us hf. in_turn last E W Any StrengthIs (λ xs w. LockIs (f ∷ xs) w) (strength_at last) (λ s r. policy_at last r >>= λ p. Ok (Some (lock_of s p.0), p.1)) us
      (λ ss s q. ([], Some (lock_of s policies.Wait), locks f ss [] s policies.Wait hf q wait))
      (strength_local us) (λ s ss rest split q.
      mapped last E W Any PolicyIs (λ xs w. LockIs (f ∷ (ss ++ xs)) w) (policy_at last) (λ p. Some (lock_of s p)) rest (λ ps p k. locks f ss ps s p hf q k) (policy_local rest)))
      (gives last E W Any LockIs None ts no_lock)

  -- ---- SELECT

  abbrev selected : List ItemTree → Option (List ℕ) → Option Tree → List OrderTree → Option Lock → SelectTree
  selected i t f o l = record { items = i; table = t; filter = f; order = o; lock = l }

  whole_of : (s : At Token) → Key words.Select s → (is fs ws os ls : Tokens) (i : List ItemTree) (t : Option (List ℕ)) (f : Option Tree) (o : List OrderTree) (l : Option Lock) → Commas (AddsItem E) [] is i → FromIs fs t → WhereIs E ws f → OrderIs E os o → LockIs ls l → Whole E (s ∷ (is ++ (fs ++ (ws ++ (os ++ ls))))) (query_of s.span.start (selected i t f o l))
  whole_of s hs is fs ws os ls i t f o l a b c d e = record {
    stmt = Selects (selected i t f o l);
    spells = select s is fs ws os ls i t f o l hs a b c d e;
    shows = query_shown s (is ++ (fs ++ (ws ++ (os ++ ls)))) (selected i t f o l);
  }

  pub select_local : (s : At Token) → Key words.Select s → (ts : Tokens) → Local last E W Any (λ xs r. Whole E (s ∷ xs) r) (select_at last s.span.start) ts
  unfolding select_at
  select_local s hs ts =
      let p = s.span.start in
      in_turn last E W Any (Commas (AddsItem E) []) (λ xs r. Whole E (s ∷ xs) r) (items_at (added (item_at last)) []) (λ i r. from_at last r >>= λ t. filter_at last t.1 >>= λ f. order_at last f.1 >>= λ o. lock_at last o.1 >>= λ l. Ok (query_of p (selected i t.0 f.0 o.0 l.0), l.1)) ts
      (λ is i a. ([], query_of p (selected i None None [] None), whole_of s hs is [] [] [] [] i None None [] None a no_table unfiltered unordered no_lock))
      (list_local last E W Any (added (item_at last)) (AddsItem E) adds_some_item item_add_local [] ts) (λ i is us e1 a.
      in_turn last E W Any FromIs (λ xs r. Whole E (s ∷ (is ++ xs)) r) (from_at last) (λ t r. filter_at last r >>= λ f. order_at last f.1 >>= λ o. lock_at last o.1 >>= λ l. Ok (query_of p (selected i t f.0 o.0 l.0), l.1)) us
      (λ fs t b. ([], query_of p (selected i t None [] None), whole_of s hs is fs [] [] [] i t None [] None a b unfiltered unordered no_lock))
      (from_local us) (λ t fs vs e2 b.
      in_turn last E W Any (WhereIs E) (λ xs r. Whole E (s ∷ (is ++ (fs ++ xs))) r) (filter_at last) (λ f r. order_at last r >>= λ o. lock_at last o.1 >>= λ l. Ok (query_of p (selected i t f o.0 l.0), l.1)) vs
      (λ ws f c. ([], query_of p (selected i t f [] None), whole_of s hs is fs ws [] [] i t f [] None a b c unordered no_lock))
      (where_local last E W Any an_expr exprs vs) (λ f ws xs e3 c.
      in_turn last E W Any (OrderIs E) (λ xs r. Whole E (s ∷ (is ++ (fs ++ (ws ++ xs)))) r) (order_at last) (λ o r. lock_at last r >>= λ l. Ok (query_of p (selected i t f o l.0), l.1)) xs
      (λ os o d. ([], query_of p (selected i t f o None), whole_of s hs is fs ws os [] i t f o None a b c d no_lock))
      (order_local xs) (λ o os ys e4 d.
      mapped last E W Any LockIs (λ xs r. Whole E (s ∷ (is ++ (fs ++ (ws ++ (os ++ xs))))) r) (lock_at last) (λ l. query_of p (selected i t f o l)) ys (λ ls l e. whole_of s hs is fs ws os ls i t f o l a b c d e) (lock_local ys)))))
