-- What the tokens spell is read: SELECT.
use Rattle.std.proofs.Common.{◌≡◌, ℕ, Bool, true, false, List, [], ◌∷◌, ◌++◌, Option, Some, None, refl, sym, ap, ◌∙◌, append_assoc}
use Rattle.std.specs.Prelude.{Result, Ok, Err, if◌then◌else◌}
use Rattle.iso_lexer.specs.declared.token.At.{At}
use Rattle.iso_lexer.specs.declared.sql_token.SqlSign.TheVariants as signs
use Rattle.sql_trees.specs.declared.fault.SqlFault.{SqlFault}
use Rattle.sql_trees.specs.declared.fault.SqlFault.TheVariants.{LeftOut}
use Rattle.sql_trees.specs.declared.word.Word.{Word}
use Rattle.sql_trees.specs.declared.word.Word.TheVariants as words
use Rattle.sql_trees.specs.declared.expr.AggKind.{AggKind}
use Rattle.sql_trees.specs.declared.expr.AggKind.TheVariants as aggs
use Rattle.sql_trees.specs.declared.stmt.Lock.{Lock}
use Rattle.sql_trees.specs.declared.stmt.Strength.{Strength}
use Rattle.sql_trees.specs.declared.stmt.Policy.{Policy}
use Rattle.sql_trees.specs.Words.{is_reserved}
use Rattle.sql_trees.specs.Statements.{ItemTree, OrderTree, SelectTree, Selects, All, Value, Aggregate}
use Rattle.sql_trees.specs.Tokens.{Token, Tokens}
use Rattle.sql_trees.specs.Tokens as tok
use Rattle.sql_trees.specs.Trees.{Tree, AggTree}
use Rattle.sql_expressions.specs.Readers.{is_word, is_sign, after, added}
use Rattle.sql_expressions.specs.Reading.{Part, agg_kind, expr_at}
use Rattle.sql_expressions.specs.Inner.Pieces.{chain, or_at, and_at, is_at, cmp_at, inn_at, cat_at, add_at, mul_at}
use Rattle.sql_expressions.specs.Grammar.{Ends}
use Rattle.sql_expressions.proofs.Complete.{expr_complete}
use Rattle.sql_expressions.proofs.Same.{is_fault, expr_same}
use Rattle.sql_blocks.specs.Parts.{is_allowed}
use Rattle.sql_parser.specs.Inner.Queries.{call_at, counts_rows, direction_at, agg_at, item_at, from_at, nulls_at, order_add, order_at, strength_at, lock_at, select_at}
use Rattle.sql_parser.specs.Changes.{alias_at}
use Rattle.sql_parser.specs.Queries.{policy_at}
use Rattle.sql_parser.specs.Grammar.{Is, Commas, AggIs, all_rows, of_values, AddsItem, a_star, a_value, an_aggregate, FromIs, no_table, from_table, DirectionIs, as_ever, ascending, descending, NullsAre, unsaid, nulls_first, nulls_last, AddsKey, adds_key, OrderIs, unordered, ordered, StrengthIs, for_update, for_no_key_update, for_share, for_key_share, PolicyIs, wait, no_wait, skip_locked, LockIs, no_lock, locks, WhereIs, unfiltered, filtered, Shallow}
use Rattle.sql_parser.proofs.StmtLocals.{word_is}
use Rattle.sql_parser.proofs.Completes.{other_word, not_key, ends_part, Parted, part_ends, no_part_word, comma_is_parted, close_ends, tree_reads, list_reads}
use Rattle.sql_parser.proofs.CompleteReturning.{no_star, alias_reads, alias_ends}
use Rattle.sql_parser.proofs.CompleteStmts.{where_reads}
use Rattle.sql_parser.proofs.QueryLocals.{call_of}

-- ---- what can't begin an expression

no_both : {A : Type 0} (x : A) (e : SqlFault) → ◌≡◌ {A = Result A SqlFault} (Ok x) (Err e) → ⊥
no_both x e h = cc

module _ (last : ℕ) where
  call_faults : (t o : At Token) (ts : Tokens) (k : AggKind) (x : Token) → t.tok ≡ x → agg_kind x ≡ Some k → is_sign signs.Open o.tok ≡ true → expr_at last (t ∷ o ∷ ts) ≡ Err (LeftOut t.span.start)
  unfolding is_reserved chain or_at and_at is_at cmp_at inn_at cat_at add_at mul_at
  call_faults t o ts k (tok.word words.Count s) h e g = is_fault (expr_at last (t ∷ o ∷ ts)) (LeftOut t.span.start) (expr_same last (t ∷ o ∷ ts) ∙ rw (h, g) refl)
  call_faults t o ts k (tok.word words.Sum s) h e g = is_fault (expr_at last (t ∷ o ∷ ts)) (LeftOut t.span.start) (expr_same last (t ∷ o ∷ ts) ∙ rw (h, g) refl)
  call_faults t o ts k (tok.word words.Min s) h e g = is_fault (expr_at last (t ∷ o ∷ ts)) (LeftOut t.span.start) (expr_same last (t ∷ o ∷ ts) ∙ rw (h, g) refl)
  call_faults t o ts k (tok.word words.Max s) h e g = is_fault (expr_at last (t ∷ o ∷ ts)) (LeftOut t.span.start) (expr_same last (t ∷ o ∷ ts) ∙ rw (h, g) refl)
  call_faults t o ts k _ h e g = absurd cc

  no_call : (ts rest : Tokens) (e : Tree) → Shallow ts e → Ends rest → call_at (ts ++ rest) ≡ None
  no_call ts rest e s g = of_first (ts ++ rest) (expr_complete last s.1 rest g)
    where
      of_next : (t : At Token) (us : Tokens) (k : AggKind) → {f : Part × Tokens} → agg_kind t.tok ≡ Some k → expr_at last (t ∷ us) ≡ Ok f → after (is_sign signs.Open) us ≡ None
      of_next t [] k n h = refl
      of_next t (o ∷ us) k {f} n h = of_test (is_sign signs.Open o.tok) refl
        where
          of_test : (b : Bool) → is_sign signs.Open o.tok ≡ b → (if b then Some us else None) ≡ None
          of_test false j = refl
          of_test true j = absurd (no_both f (LeftOut t.span.start) (sym h ∙ call_faults t o us k t.tok refl n j))

      of_first : (us : Tokens) → {f : Part × Tokens} → expr_at last us ≡ Ok f → call_at us ≡ None
      of_first [] h = refl
      of_first (t ∷ us) {f} h = of_kind (agg_kind t.tok) refl
        where
          of_kind : (m : Option AggKind) → agg_kind t.tok ≡ m → call_of m (after (is_sign signs.Open) us) ≡ None
          of_kind None j = refl
          of_kind (Some k) j = rw (of_next t us k j h) refl

  -- ---- items

  agg_no_star : (x : Token) (k : AggKind) → agg_kind x ≡ Some k → is_sign signs.Star x ≡ false
  agg_no_star (tok.word w s) k e = refl
  agg_no_star _ k e = absurd cc

  no_rows_star : (k : AggKind) (ts : Tokens) → after (is_sign signs.Star) ts ≡ None → counts_rows k ts ≡ None
  no_rows_star aggs.Count ts h = h
  no_rows_star aggs.Sum ts h = refl
  no_rows_star aggs.Min ts h = refl
  no_rows_star aggs.Max ts h = refl

  -- a call, behind its name and its parenthesis
  record Called (ts rest : Tokens) (a : AggTree) : Type 0 where
    kind : AggKind
    behind : Tokens
    no_all : after (is_sign signs.Star) (ts ++ rest) ≡ None
    calls : call_at (ts ++ rest) ≡ Some (kind, behind)
    reads : agg_at last kind behind ≡ Ok (a, rest)

  agg_reads : (ts rest : Tokens) (a : AggTree) → AggIs Shallow ts a → Called ts rest a
  unfolding agg_at
  agg_reads _ rest _ (all_rows k o s c hk ho hs hc) = record {
    kind = aggs.Count;
    behind = s ∷ c ∷ rest;
    no_all = rw (agg_no_star k.tok aggs.Count hk) refl;
    calls = rw (hk, ho) refl;
    reads = rw (hs, hc) refl;
  }
  agg_reads _ rest _ (of_values k o c kind xs e hk ho q hc) = record {
    kind = kind;
    behind = xs ++ (c ∷ rest);
    no_all = rw (agg_no_star k.tok kind hk) refl;
    calls = rw (hk, ho) (ap (λ us. Some (kind, us)) (append_assoc xs (c ∷ []) rest));
    reads = rw (no_rows_star kind (xs ++ (c ∷ rest)) (no_star last xs (c ∷ rest) e q (close_ends c rest hc)), tree_reads last xs (c ∷ rest) e q (close_ends c rest hc), hc) refl;
  }

  call_reads : (ts us rest : Tokens) (a : AggTree) (n : Option (List ℕ)) → Called ts (us ++ rest) a → alias_at last (us ++ rest) ≡ Ok (n, rest) → item_at last (ts ++ (us ++ rest)) ≡ Ok (Aggregate a n, rest)
  unfolding item_at
  call_reads ts us rest a n k h = rw (k.no_all, k.calls, k.reads, h) refl

  value_reads : (ts us rest : Tokens) (e : Tree) (n : Option (List ℕ)) → Shallow ts e → Ends (us ++ rest) → alias_at last (us ++ rest) ≡ Ok (n, rest) → item_at last (ts ++ (us ++ rest)) ≡ Ok (Value e n, rest)
  unfolding item_at
  value_reads ts us rest e n q g h = rw (no_star last ts (us ++ rest) e q g, no_call ts (us ++ rest) e q g, tree_reads last ts (us ++ rest) e q g, h) refl

  star_reads : (s : At Token) (rest : Tokens) → Is (is_sign signs.Star) s → item_at last (s ∷ rest) ≡ Ok (All, rest)
  unfolding item_at
  star_reads s rest h = rw h refl

  item_reads : (s t : List ItemTree) (ts rest : Tokens) → Unit {0} → AddsItem Shallow s ts t → Unit {0} → Parted rest → added (item_at last) s (ts ++ rest) ≡ Ok (t, rest)
  item_reads _ _ _ rest b (a_star is s h) f p = rw (star_reads s rest h) refl
  item_reads _ _ _ rest b (a_value is ts us e n q a) f p = rw (append_assoc ts us rest, value_reads ts us rest e n q (alias_ends last us rest n a p) (alias_reads last us rest n a p)) refl
  item_reads _ _ _ rest b (an_aggregate is ts us g n q a) f p = rw (append_assoc ts us rest, call_reads ts us rest g n (agg_reads ts (us ++ rest) g q) (alias_reads last us rest n a p)) refl

  -- ---- the parts behind the items, each of which stands before the next

  abbrev Clause : (Token → Bool) → Tokens → Type 0
  Clause p [] = Unit {0}
  Clause p (t ∷ ts) = p t.tok ≡ true

  abbrev is_lock : Token → Bool
  is_lock (tok.word words.For s) = true
  is_lock _ = false

  abbrev is_order : Token → Bool
  is_order (tok.word words.For s) = true
  is_order (tok.word words.Order s) = true
  is_order _ = false

  abbrev is_where : Token → Bool
  is_where (tok.word words.For s) = true
  is_where (tok.word words.Order s) = true
  is_where (tok.word words.Where s) = true
  is_where _ = false

  lock_word : (w : Word) → (words.For ≡ w → ⊥) → (x : Token) → is_lock x ≡ true → is_word w x ≡ false
  lock_word w f (tok.word words.For s) e = other_word words.For w s f
  lock_word w f _ e = absurd cc

  order_word : (w : Word) → (words.For ≡ w → ⊥) → (words.Order ≡ w → ⊥) → (x : Token) → is_order x ≡ true → is_word w x ≡ false
  order_word w f g (tok.word words.For s) e = other_word words.For w s f
  order_word w f g (tok.word words.Order s) e = other_word words.Order w s g
  order_word w f g _ e = absurd cc

  where_word : (w : Word) → (words.For ≡ w → ⊥) → (words.Order ≡ w → ⊥) → (words.Where ≡ w → ⊥) → (x : Token) → is_where x ≡ true → is_word w x ≡ false
  where_word w f g h (tok.word words.For s) e = other_word words.For w s f
  where_word w f g h (tok.word words.Order s) e = other_word words.Order w s g
  where_word w f g h (tok.word words.Where s) e = other_word words.Where w s h
  where_word w f g h _ e = absurd cc

  where_part : (x : Token) → is_where x ≡ true → ends_part x ≡ true
  where_part (tok.word words.For s) e = refl
  where_part (tok.word words.Order s) e = refl
  where_part (tok.word words.Where s) e = refl
  where_part _ e = absurd cc

  order_where : (x : Token) → is_order x ≡ true → is_where x ≡ true
  order_where (tok.word words.For s) e = refl
  order_where (tok.word words.Order s) e = refl
  order_where _ e = absurd cc

  lock_order : (x : Token) → is_lock x ≡ true → is_order x ≡ true
  lock_order (tok.word words.For s) e = refl
  lock_order _ e = absurd cc

  up : (p q : Token → Bool) → ((x : Token) → p x ≡ true → q x ≡ true) → (ts : Tokens) → Clause p ts → Clause q ts
  up p q f [] c = tt
  up p q f (t ∷ ts) c = f t.tok c

  none_after : (p : Token → Bool) (w : Word) → ((x : Token) → p x ≡ true → is_word w x ≡ false) → (ts : Tokens) → Clause p ts → after (is_word w) ts ≡ None
  none_after p w f [] c = refl
  none_after p w f (t ∷ ts) c = rw (f t.tok c) refl

  parted : (ts : Tokens) → Clause is_where ts → Parted ts
  parted [] c = tt
  parted (t ∷ ts) c = where_part t.tok c

  where_commas : (x : Token) → is_where x ≡ true → is_sign signs.Comma x ≡ false
  where_commas (tok.word w s) e = refl
  where_commas _ e = absurd cc

  no_comma : (ts : Tokens) → Clause is_where ts → after (is_sign signs.Comma) ts ≡ None
  no_comma [] c = refl
  no_comma (t ∷ ts) c = rw (where_commas t.tok c) refl

  lock_clause : (ls : Tokens) (l : Option Lock) → LockIs ls l → Clause is_lock ls
  lock_clause _ _ no_lock = tt
  lock_clause _ _ (locks f ss ps s p hf hs hp) = let k = word_is words.For f.tok hf in rw k.1 refl

  order_clause : (os rest : Tokens) (ks : List OrderTree) → OrderIs Shallow os ks → Clause is_lock rest → Clause is_order (os ++ rest)
  order_clause _ rest _ unordered c = up is_lock is_order lock_order rest c
  order_clause _ rest _ (ordered o b ts ks ho hb k) c = let w = word_is words.Order o.tok ho in rw w.1 refl

  where_clause : (ws rest : Tokens) (f : Option Tree) → WhereIs Shallow ws f → Clause is_order rest → Clause is_where (ws ++ rest)
  where_clause _ rest _ unfiltered c = up is_order is_where order_where rest c
  where_clause _ rest _ (filtered w ts e hw q) c = let k = word_is words.Where w.tok hw in rw k.1 refl

  from_part : (fs rest : Tokens) (t : Option (List ℕ)) → FromIs fs t → Clause is_where rest → Parted (fs ++ rest)
  from_part _ rest _ no_table c = parted rest c
  from_part _ rest _ (from_table f t n hf hn) c = let k = word_is words.From f.tok hf in rw k.1 refl

  from_no_comma : (fs rest : Tokens) (t : Option (List ℕ)) → FromIs fs t → Clause is_where rest → after (is_sign signs.Comma) (fs ++ rest) ≡ None
  from_no_comma _ rest _ no_table c = no_comma rest c
  from_no_comma _ rest _ (from_table f t n hf hn) c = let k = word_is words.From f.tok hf in rw k.1 refl

  from_reads : (fs rest : Tokens) (t : Option (List ℕ)) → FromIs fs t → Clause is_where rest → from_at last (fs ++ rest) ≡ Ok (t, rest)
  unfolding from_at
  from_reads _ rest _ no_table c = rw (none_after is_where words.From (where_word words.From (λ e. cc) (λ e. cc) (λ e. cc)) rest c) refl
  from_reads _ rest _ (from_table f t n hf hn) c = rw (hf, hn) refl

  strength_reads : (ss rest : Tokens) (s : Strength) → StrengthIs ss s → strength_at last (ss ++ rest) ≡ Ok (s, rest)
  unfolding strength_at
  strength_reads _ rest _ (for_update u hu) = rw (not_key words.Update words.No u hu (λ e. cc), not_key words.Update words.Key u hu (λ e. cc), hu) refl
  strength_reads _ rest _ (for_no_key_update n k u hn hk hu) = rw (hn, hk, hu) refl
  strength_reads _ rest _ (for_share s hs) = rw (not_key words.Share words.No s hs (λ e. cc), not_key words.Share words.Key s hs (λ e. cc), not_key words.Share words.Update s hs (λ e. cc), hs) refl
  strength_reads _ rest _ (for_key_share k s hk hs) = rw (not_key words.Key words.No k hk (λ e. cc), hk, hs) refl

  policy_reads : (ps : Tokens) (p : Policy) → PolicyIs ps p → policy_at last ps ≡ Ok (p, [])
  unfolding policy_at
  policy_reads _ _ wait = refl
  policy_reads _ _ (no_wait n hn) = rw hn refl
  policy_reads _ _ (skip_locked s l hs hl) = rw (not_key words.Skip words.NoWait s hs (λ e. cc), hs, hl) refl

  lock_reads : (ls : Tokens) (l : Option Lock) → LockIs ls l → lock_at last ls ≡ Ok (l, [])
  unfolding lock_at
  lock_reads _ _ no_lock = refl
  lock_reads _ _ (locks f ss ps s p hf hs hp) = rw (hf, strength_reads ss ps s hs, policy_reads ps p hp) refl

  -- ---- ORDER BY

  nulls_reads : (down : Bool) (ns rest : Tokens) (first : Bool) → NullsAre down ns first → Parted rest → nulls_at last down (ns ++ rest) ≡ Ok (first, rest)
  unfolding nulls_at
  nulls_reads down _ rest _ unsaid p = rw (no_part_word words.Nulls (λ e. cc) (λ e. cc) (λ e. cc) (λ e. cc) rest p) refl
  nulls_reads down _ rest _ (nulls_first n f hn hf) p = rw (hn, hf) refl
  nulls_reads down _ rest _ (nulls_last n l hn hl) p = rw (hn, not_key words.Last words.First l hl (λ e. cc), hl) refl

  nulls_no_word : (w : Word) → (words.From ≡ w → ⊥) → (words.Where ≡ w → ⊥) → (words.Order ≡ w → ⊥) → (words.For ≡ w → ⊥) → (words.Nulls ≡ w → ⊥) → (down : Bool) (ns rest : Tokens) (first : Bool) → NullsAre down ns first → Parted rest → after (is_word w) (ns ++ rest) ≡ None
  nulls_no_word w f g h k m down _ rest _ unsaid p = no_part_word w f g h k rest p
  nulls_no_word w f g h k m down _ rest _ (nulls_first n a hn ha) p = rw (not_key words.Nulls w n hn m) refl
  nulls_no_word w f g h k m down _ rest _ (nulls_last n a hn ha) p = rw (not_key words.Nulls w n hn m) refl

  nulls_ends : (down : Bool) (ns rest : Tokens) (first : Bool) → NullsAre down ns first → Parted rest → Ends (ns ++ rest)
  nulls_ends down _ rest _ unsaid p = part_ends rest p
  nulls_ends down _ rest _ (nulls_first n f hn hf) p = let k = word_is words.Nulls n.tok hn in rw k.1 refl
  nulls_ends down _ rest _ (nulls_last n l hn hl) p = let k = word_is words.Nulls n.tok hn in rw k.1 refl

  direction_reads : (ds us : Tokens) (desc : Bool) → DirectionIs ds desc → after (is_word words.Asc) us ≡ None → after (is_word words.Desc) us ≡ None → direction_at (ds ++ us) ≡ Ok (desc, us)
  unfolding direction_at
  direction_reads _ us _ as_ever f g = rw (f, g) refl
  direction_reads _ us _ (ascending a ha) f g = rw ha refl
  direction_reads _ us _ (descending d hd) f g = rw (not_key words.Desc words.Asc d hd (λ e. cc), hd) refl

  direction_ends : (ds us : Tokens) (desc : Bool) → DirectionIs ds desc → Ends us → Ends (ds ++ us)
  direction_ends _ us _ as_ever f = f
  direction_ends _ us _ (ascending a ha) f = let k = word_is words.Asc a.tok ha in rw k.1 refl
  direction_ends _ us _ (descending d hd) f = let k = word_is words.Desc d.tok hd in rw k.1 refl

  assoc_key : (ts ds ns rest : Tokens) → (ts ++ (ds ++ ns)) ++ rest ≡ ts ++ (ds ++ (ns ++ rest))
  assoc_key ts ds ns rest = append_assoc ts (ds ++ ns) rest ∙ ap (λ xs. ts ++ xs) (append_assoc ds ns rest)

  key_reads : (s t : List OrderTree) (ts rest : Tokens) → Unit {0} → AddsKey Shallow s ts t → Unit {0} → Parted rest → order_add last s (ts ++ rest) ≡ Ok (t, rest)
  unfolding order_add
  key_reads _ _ _ rest b (adds_key ks ts ds ns e desc first q d n) f p =
      let asc = nulls_no_word words.Asc (λ e. cc) (λ e. cc) (λ e. cc) (λ e. cc) (λ e. cc) desc ns rest first n p in
      let down = nulls_no_word words.Desc (λ e. cc) (λ e. cc) (λ e. cc) (λ e. cc) (λ e. cc) desc ns rest first n p in
      rw (assoc_key ts ds ns rest, tree_reads last ts (ds ++ (ns ++ rest)) e q (direction_ends ds (ns ++ rest) desc d (nulls_ends desc ns rest first n p)), direction_reads ds (ns ++ rest) desc d asc down, nulls_reads desc ns rest first n p) refl

  order_reads : (os rest : Tokens) (ks : List OrderTree) → OrderIs Shallow os ks → Clause is_lock rest → order_at last (os ++ rest) ≡ Ok (ks, rest)
  unfolding order_at
  order_reads _ rest _ unordered c = rw (none_after is_lock words.Order (lock_word words.Order (λ e. cc)) rest c) refl
  order_reads _ rest _ (ordered o b ts ks ho hb k) c =
      let above = up is_order is_where order_where rest (up is_lock is_order lock_order rest c) in
      rw (ho, hb) (list_reads (order_add last) (AddsKey Shallow) (λ s. Unit {0}) (λ s. Unit {0}) Parted (λ s t ts b a. tt) (λ s t ts a b. tt) key_reads comma_is_parted k tt tt rest (parted rest above) (no_comma rest above))

  -- ---- SELECT

  abbrev selected : List ItemTree → Option (List ℕ) → Option Tree → List OrderTree → Option Lock → SelectTree
  selected i t f o l = record { items = i; table = t; filter = f; order = o; lock = l }

  pub select_reads : (place : ℕ) (is fs ws os ls : Tokens) (i : List ItemTree) (t : Option (List ℕ)) (f : Option Tree) (o : List OrderTree) (l : Option Lock) → Commas (AddsItem Shallow) [] is i → FromIs fs t → WhereIs Shallow ws f → OrderIs Shallow os o → LockIs ls l → is_allowed (selected i t f o l) ≡ true → select_at last place (is ++ (fs ++ (ws ++ (os ++ ls)))) ≡ Ok (Ok (Selects (selected i t f o l)), [])
  unfolding select_at
  select_reads place is fs ws os ls i t f o l a b c d e ok =
      let lc = lock_clause ls l e in
      let oc = order_clause os ls o d lc in
      let wc = where_clause ws (os ++ ls) f c oc in
      let items = list_reads (added (item_at last)) (AddsItem Shallow) (λ s. Unit {0}) (λ s. Unit {0}) Parted (λ s t ts b a. tt) (λ s t ts a b. tt) item_reads comma_is_parted a tt tt (fs ++ (ws ++ (os ++ ls))) (from_part fs (ws ++ (os ++ ls)) t b wc) (from_no_comma fs (ws ++ (os ++ ls)) t b wc) in
      let filter = where_reads last ws (os ++ ls) f c (part_ends (os ++ ls) (parted (os ++ ls) (up is_order is_where order_where (os ++ ls) oc))) (none_after is_order words.Where (order_word words.Where (λ e. cc) (λ e. cc)) (os ++ ls) oc) in
      rw (items, from_reads fs (ws ++ (os ++ ls)) t b wc, filter, order_reads os ls o d lc, lock_reads ls l e, ok) refl
