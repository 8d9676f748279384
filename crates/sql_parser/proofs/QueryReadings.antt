-- What is read of SELECT is what the code reads, with what is told of the whole once all tokens have been read.
use Rattle.std.proofs.Common.{◌≡◌, ℕ, Bool, true, false, List, [], ◌∷◌, ◌++◌, Option, Some, None, refl, sym, ap, ◌∙◌}
use Rattle.std.specs.Prelude.{Result, Ok, Err, if◌then◌else◌, option_map}
use Rattle.std.specs.Option.{option_map_or}
use Rattle.iso_lexer.specs.Bytes.{row_of}
use Rattle.iso_lexer.specs.declared.sql_token.SqlSign.TheVariants as signs
use Rattle.sql_trees.specs.declared.fault.SqlFault.{SqlFault}
use Rattle.sql_trees.specs.declared.fault.SqlFault.TheVariants.{LeftOut}
use Rattle.sql_trees.specs.declared.word.Word.TheVariants as words
use Rattle.sql_trees.specs.declared.expr.AggKind.{AggKind}
use Rattle.sql_trees.specs.declared.expr.AggKind.TheVariants as aggs
use Rattle.sql_trees.specs.declared.stmt.Lock.{Lock}
use Rattle.sql_trees.specs.declared.stmt.Strength.{Strength}
use Rattle.sql_trees.specs.declared.stmt.Strength.TheVariants as strengths
use Rattle.sql_trees.specs.declared.stmt.Policy.{Policy}
use Rattle.sql_trees.specs.Statements.{ItemTree, OrderTree, SelectTree, Selects, Value, Aggregate}
use Rattle.sql_trees.specs.Tokens.{Tokens}
use Rattle.sql_trees.specs.Trees.{Tree, AggTree, CountRows, Of}
use Rattle.sql_expressions.specs.Results.{◌>>=◌}
use Rattle.sql_expressions.specs.Readers.{after, by_first, expect, gives, is_sign, is_word, keyword, items_at, added}
use Rattle.sql_expressions.specs.Reading.{agg_kind}
use Rattle.sql_blocks.specs.Parts.{is_allowed}
use Rattle.sql_parser.specs.Readers.{maybe, list_of, one_of, tree_at, whole}
use Rattle.sql_parser.specs.Changes.{alias_at, filter_at}
use Rattle.sql_parser.specs.Queries.{call_at, item_at, sort_key_at, strength_at, policy_at, lock_behind, select_at}
use Rattle.sql_parser.specs.Inner.Queries as queries
use Rattle.sql_parser.proofs.Readings.{turned, bind_on, option_on, items_alike, two_words}
use Rattle.sql_parser.proofs.TableReadings.{chain, ended, stated}

-- ASC, DESC or none of them
direction_same : (ts : Tokens) → by_first (row_of is_word ((words.Asc, false) ∷ (words.Desc, true) ∷ [])) gives (gives false) ts ≡ queries.direction_at ts
unfolding queries.direction_at
direction_same [] = refl
direction_same (t ∷ ts) = by_tests (is_word words.Asc t.tok) refl (is_word words.Desc t.tok) refl
  where
    by_tests : (b : Bool) → is_word words.Asc t.tok ≡ b → (c : Bool) → is_word words.Desc t.tok ≡ c → by_first (row_of is_word ((words.Asc, false) ∷ (words.Desc, true) ∷ [])) gives (gives false) (t ∷ ts) ≡ queries.direction_at (t ∷ ts)
    by_tests true h c k = rw h refl
    by_tests false h true k = rw (h, k) refl
    by_tests false h false k = rw (h, k) refl

module _ (last : ℕ) where
  -- ---- items

  -- an aggregate or its argument, and the parenthesis behind it
  abbrev shut : AggTree × Tokens → Result (AggTree × Tokens) SqlFault
  shut x = expect last (is_sign signs.Close) x.1 >>= λ rest. Ok (x.0, rest)

  call_same : (k : AggKind) (ts : Tokens) → call_at last k ts ≡ queries.agg_at last k ts
  unfolding call_at queries.agg_at
  call_same aggs.Count ts = of_star (after (is_sign signs.Star) ts)
    where
      of_tree : (r : Result (Tree × Tokens) SqlFault) → (turned (Of aggs.Count) r >>= shut) ≡ (r >>= λ x. expect last (is_sign signs.Close) x.1 >>= λ rest. Ok (Of aggs.Count x.0, rest))
      of_tree (Ok x) = refl
      of_tree (Err e) = refl

      of_star : (o : Option Tokens) → (option_map_or (λ us. Ok (CountRows, us)) o (turned (Of aggs.Count) (tree_at last ts)) >>= shut) ≡ option_map_or (λ us. expect last (is_sign signs.Close) us >>= λ rest. Ok (CountRows, rest)) o (tree_at last ts >>= λ x. expect last (is_sign signs.Close) x.1 >>= λ rest. Ok (Of aggs.Count x.0, rest))
      of_star (Some us) = refl
      of_star None = of_tree (tree_at last ts)
  call_same aggs.Sum ts = refl
  call_same aggs.Min ts = refl
  call_same aggs.Max ts = refl

  abbrev value_at : Tokens → Result (ItemTree × Tokens) SqlFault
  value_at ts = tree_at last ts >>= λ x. turned (Value x.0) (alias_at last x.1)

  abbrev named_call : AggTree × Tokens → Result (ItemTree × Tokens) SqlFault
  named_call x = turned (Aggregate x.0) (alias_at last x.1)

  abbrev called : Option (AggKind × Tokens) → Tokens → Result (ItemTree × Tokens) SqlFault
  called o ts = queries.item_of last o ts

  abbrev calls : AggKind → Tokens → AggKind × Tokens
  calls k us = (k, us)

  item_same : (ts : Tokens) → item_at last ts ≡ queries.item_at last ts
  unfolding item_at queries.item_at
  item_same [] = refl
  item_same (t ∷ ts) = option_on (after (is_sign signs.Star) (t ∷ ts)) _ _ _ _ (λ us. refl) (of_agg (agg_kind t.tok))
    where
      of_open : (k : AggKind) (o : Option Tokens) → option_map_or (λ us. call_at last k us >>= named_call) o (value_at (t ∷ ts)) ≡ called (option_map (calls k) o) (t ∷ ts)
      of_open k None = refl
      of_open k (Some us) = ap (λ (r : Result (AggTree × Tokens) SqlFault). r >>= named_call) (call_same k us)

      of_agg : (o : Option AggKind) → option_map_or (λ k. option_map_or (λ us. call_at last k us >>= named_call) (after (is_sign signs.Open) ts) (value_at (t ∷ ts))) o (value_at (t ∷ ts)) ≡ called (option_map_or (λ k. option_map (calls k) (after (is_sign signs.Open) ts)) o None) (t ∷ ts)
      of_agg None = refl
      of_agg (Some k) = of_open k (after (is_sign signs.Open) ts)

  items_read : (ts : Tokens) → list_of (λ items. item_at last) ts ≡ items_at (added (queries.item_at last)) [] ts
  items_read ts = sym (items_alike (λ items us. turned (λ i. items ++ i ∷ []) (item_at last us)) (added (queries.item_at last)) (λ items us. ap (turned (λ i. items ++ i ∷ [])) (sym (item_same us))) [] ts)

  -- ---- keys of ORDER BY

  nulls_same : (desc : Bool) (ts : Tokens) → option_map_or (one_of last ((words.First, true) ∷ (words.Last, false) ∷ [])) (after (is_word words.Nulls) ts) (Ok (desc, ts)) ≡ queries.nulls_at last desc ts
  unfolding queries.nulls_at
  nulls_same desc ts = option_on (after (is_word words.Nulls) ts) _ _ _ _ (two_words last words.First words.Last true false) refl

  abbrev key_of : Tree → Bool → Bool → OrderTree
  key_of e desc nulls = record { expr = e; dir = record { desc = desc; nulls_first = nulls } }

  order_same : (ks : List OrderTree) (ts : Tokens) → queries.order_add last ks ts ≡ turned (λ k. ks ++ k ∷ []) (sort_key_at last ts)
  unfolding sort_key_at queries.order_add
  order_same ks ts = of_tree (tree_at last ts)
    where
      of_nulls : (e : Tree) (desc : Bool) (r : Result (Bool × Tokens) SqlFault) → (r >>= λ n. Ok (ks ++ key_of e desc n.0 ∷ [], n.1)) ≡ turned (λ k. ks ++ k ∷ []) (r >>= λ n. Ok (key_of e desc n.0, n.1))
      of_nulls e desc (Ok n) = refl
      of_nulls e desc (Err f) = refl

      of_desc : (e : Tree) (r : Result (Bool × Tokens) SqlFault) → (r >>= λ d. queries.nulls_at last d.0 d.1 >>= λ n. Ok (ks ++ key_of e d.0 n.0 ∷ [], n.1)) ≡ turned (λ k. ks ++ k ∷ []) (r >>= λ d. option_map_or (one_of last ((words.First, true) ∷ (words.Last, false) ∷ [])) (after (is_word words.Nulls) d.1) (Ok (d.0, d.1)) >>= λ n. Ok (key_of e d.0 n.0, n.1))
      of_desc e (Ok d) = of_nulls e d.0 (queries.nulls_at last d.0 d.1) ∙ ap (λ (r : Result (Bool × Tokens) SqlFault). turned (λ k. ks ++ k ∷ []) (r >>= λ n. Ok (key_of e d.0 n.0, n.1))) (sym (nulls_same d.0 d.1))
      of_desc e (Err f) = refl

      of_tree : (r : Result (Tree × Tokens) SqlFault) → (r >>= λ e. queries.direction_at e.1 >>= λ d. queries.nulls_at last d.0 d.1 >>= λ n. Ok (ks ++ key_of e.0 d.0 n.0 ∷ [], n.1)) ≡ turned (λ k. ks ++ k ∷ []) (r >>= λ e. by_first (row_of is_word ((words.Asc, false) ∷ (words.Desc, true) ∷ [])) gives (gives false) e.1 >>= λ d. option_map_or (one_of last ((words.First, true) ∷ (words.Last, false) ∷ [])) (after (is_word words.Nulls) d.1) (Ok (d.0, d.1)) >>= λ n. Ok (key_of e.0 d.0 n.0, n.1))
      of_tree (Ok e) = of_desc e.0 (queries.direction_at e.1) ∙ ap (λ (r : Result (Bool × Tokens) SqlFault). turned (λ k. ks ++ k ∷ []) (r >>= λ d. option_map_or (one_of last ((words.First, true) ∷ (words.Last, false) ∷ [])) (after (is_word words.Nulls) d.1) (Ok (d.0, d.1)) >>= λ n. Ok (key_of e.0 d.0 n.0, n.1))) (sym (direction_same e.1))
      of_tree (Err f) = refl

  keys_read : (ts : Tokens) → list_of (λ keys. sort_key_at last) ts ≡ items_at (queries.order_add last) [] ts
  keys_read ts = sym (items_alike (λ ks us. turned (λ k. ks ++ k ∷ []) (sort_key_at last us)) (queries.order_add last) order_same [] ts)

  sorted_same : (ts : Tokens) → option_map_or (λ us. keyword last words.By us >>= list_of (λ keys. sort_key_at last)) (after (is_word words.Order) ts) (Ok ([], ts)) ≡ queries.order_at last ts
  unfolding queries.order_at
  sorted_same ts = option_on (after (is_word words.Order) ts) _ _ _ _ (λ us. bind_on (keyword last words.By us) _ _ keys_read) refl

  -- ---- FOR

  strength_same : (ts : Tokens) → strength_at last ts ≡ queries.strength_at last ts
  unfolding strength_at queries.strength_at
  strength_same ts = option_on (after (is_word words.No) ts) _ _ _ _ (λ us. refl) (option_on (after (is_word words.Key) ts) _ _ _ _ (λ us. refl) (two_words last words.Update words.Share strengths.Update strengths.Share ts))

  -- what follows how strongly the rows are locked
  abbrev with_policy : Strength × Tokens → Result (Lock × Tokens) SqlFault
  with_policy s = turned (queries.lock_of s.0) (policy_at last s.1)

  lock_same : (ts : Tokens) → maybe (is_word words.For) (lock_behind last) ts ≡ queries.lock_at last ts
  unfolding lock_behind queries.lock_at
  lock_same ts = option_on (after (is_word words.For) ts) _ _ _ _ (λ us. ap (λ (r : Result (Strength × Tokens) SqlFault). turned (λ (l : Lock). Some l) (r >>= with_policy)) (strength_same us) ∙ of_strength (queries.strength_at last us)) refl
    where
      of_policy : (s : Strength) (r : Result (Policy × Tokens) SqlFault) → turned (λ (l : Lock). Some l) (turned (queries.lock_of s) r) ≡ turned (λ p. Some (queries.lock_of s p)) r
      of_policy s (Ok p) = refl
      of_policy s (Err e) = refl

      of_strength : (r : Result (Strength × Tokens) SqlFault) → turned (λ (l : Lock). Some l) (r >>= with_policy) ≡ (r >>= λ s. turned (λ p. Some (queries.lock_of s.0 p)) (policy_at last s.1))
      of_strength (Ok s) = of_policy s.0 (policy_at last s.1)
      of_strength (Err e) = refl

  -- ---- SELECT

  queried_same : (place : ℕ) (s : SelectTree) (ts : Tokens) → (whole last (if is_allowed s then None else Some (LeftOut place)) ts >>= stated last (Selects s)) ≡ ended last (queries.query_of place s, ts)
  queried_same place s (t ∷ ts) = refl
  queried_same place s [] = of_test (is_allowed s)
    where
      of_test : (b : Bool) → (option_map_or (λ f. Err f) (if b then None else Some (LeftOut place)) (Ok []) >>= stated last (Selects s)) ≡ ((if b then Ok (Selects s) else Err (LeftOut place)) >>= λ q. stated last q [])
      of_test true = refl
      of_test false = refl

  pub select_same : (place : ℕ) (ts : Tokens) → select_at last place ts ≡ (queries.select_at last place ts >>= ended last)
  unfolding select_at queries.select_at queries.from_at
  select_same place ts =
      chain (list_of (λ items. item_at last) ts) (items_at (added (queries.item_at last)) [] ts) _ _ (ended last) (items_read ts) (λ i.
      chain (queries.from_at last i.1) (queries.from_at last i.1) _ _ (ended last) refl (λ t.
      chain (filter_at last t.1) (filter_at last t.1) _ _ (ended last) refl (λ f.
      chain (option_map_or (λ us. keyword last words.By us >>= list_of (λ keys. sort_key_at last)) (after (is_word words.Order) f.1) (Ok ([], f.1))) (queries.order_at last f.1) _ _ (ended last) (sorted_same f.1) (λ o.
      chain (maybe (is_word words.For) (lock_behind last) o.1) (queries.lock_at last o.1) _ _ (ended last) (lock_same o.1) (λ l.
      queried_same place (record { items = i.0; table = t.0; filter = f.0; order = o.0; lock = l.0 }) l.1)))))
