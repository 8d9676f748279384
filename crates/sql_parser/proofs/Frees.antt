-- No semicolon stands in a statement.
use Rattle.std.proofs.Common.{◌≡◌, ℕ, Bool, true, false, List, [], ◌∷◌, ◌++◌, Option, Some, refl, ap, ◌∙◌}
use Rattle.std.proofs.lemmas.Bool.{and_from}
use Rattle.std.proofs.lemmas.List.Folds.{list_all-append}
use Rattle.std.specs.List.{list_all}
use Rattle.std.specs.Prelude.{not}
use Rattle.iso_lexer.specs.declared.token.At.{At}
use Rattle.iso_lexer.specs.declared.sql_token.SqlSign.{SqlSign}
use Rattle.iso_lexer.specs.declared.sql_token.SqlSign.TheVariants as signs
use Rattle.sql_trees.specs.declared.word.Word.{Word}
use Rattle.sql_trees.specs.declared.word.Word.TheVariants as words
use Rattle.sql_trees.specs.declared.kind.Kind.{Kind}
use Rattle.sql_trees.specs.declared.expr.AggKind.{AggKind}
use Rattle.sql_trees.specs.declared.expr.AggKind.TheVariants as aggs
use Rattle.sql_trees.specs.declared.expr.Operator.{Operator}
use Rattle.sql_trees.specs.declared.expr.Truth.{Truth}
use Rattle.sql_trees.specs.declared.stmt.Level as levels
use Rattle.sql_trees.specs.declared.stmt.Lock.{Lock}
use Rattle.sql_trees.specs.declared.stmt.Strength.{Strength}
use Rattle.sql_trees.specs.declared.stmt.Policy.{Policy}
use Rattle.sql_trees.specs.Statements.{StmtTree, SetTree, ItemTree, OrderTree}
use Rattle.sql_trees.specs.Tokens.{Token, Tokens, named}
use Rattle.sql_trees.specs.Tokens as tok
use Rattle.sql_trees.specs.Trees.{Tree, Trees, AggTree}
use Rattle.sql_expressions.specs.Readers.{is_word, is_sign}
use Rattle.sql_expressions.specs.Reading.{comparison_op, truth_of, agg_kind}
use Rattle.sql_expressions.specs.Grammar.{IsWord, Level, OR, AND, CAT, ADD, MUL, operator_at, SpellsIn, ItemsIn, only, chain, negation, is, comparison, contained, between, minus, plus, parens, literal, one, next, IsLeaf, number, text, column, yes, no, null, IsIn, IsBetween, IsIs}
use Rattle.sql_parser.specs.Transactions.{is_work}
use Rattle.sql_parser.specs.Grammar.{is_scope, is_to, is_setting, Constraints, kind_of, Rows, Is, Key, Perhaps, nothing, one_is, Commas, last_item, next_item, AddsName, adds_name, IsolationIs, uncommitted, committed, repeatable, MaybeLevel, no_level, a_level, AddsColumn, adds_column, Says, no_more, not_null, primary_key, unique_key, AddsPart, a_column, a_primary, a_unique, AddsValue, adds_value, RowIs, is_row, AddsRow, adds_row, ColumnsAre, unlisted, listed_columns, AddsSet, adds_set, WhereIs, unfiltered, filtered, AliasIs, no_alias, as_alias, bare_alias, AggIs, all_rows, of_values, AddsItem, a_star, a_value, an_aggregate, FromIs, no_table, from_table, DirectionIs, as_ever, ascending, descending, NullsAre, unsaid, nulls_first, nulls_last, AddsKey, adds_key, OrderIs, unordered, ordered, StrengthIs, for_update, for_no_key_update, for_share, for_key_share, PolicyIs, wait, no_wait, skip_locked, LockIs, no_lock, locks, ConflictIs, fails, does_nothing, AddsReturned, returns_all, returns_value, ReturningIs, returns_nothing, returns, Spells, begin, start, commit, end, rollback, abort, set_transaction, set_timeout, create, drop, drop_if, insert, update, delete, select, Shallow}
use Rattle.sql_parser.specs.Tables.{Placed, TableRead}
use Rattle.sql_parser.specs.Grammar as grammar

abbrev pub is_free : At Token → Bool
is_free t = not (is_sign signs.Semicolon t.tok)

-- no semicolon stands there
abbrev pub Free : Tokens → Type 0
Free ts = list_all is_free ts ≡ true

first : (t : At Token) (ts : Tokens) → is_free t ≡ true → Free ts → Free (t ∷ ts)
first t ts h f = and_from (is_free t) (list_all is_free ts) h f

both : (xs ys : Tokens) → Free xs → Free ys → Free (xs ++ ys)
both xs ys f g = list_all-append is_free xs ys ∙ and_from (list_all is_free xs) (list_all is_free ys) f g

-- ---- tokens

key_free : (w : Word) (x : Token) → is_word w x ≡ true → not (is_sign signs.Semicolon x) ≡ true
key_free w (tok.word v s) e = refl
key_free w _ e = absurd cc

word_free : (w : Word) (t : At Token) → IsWord w t.tok → is_free t ≡ true
word_free w t h = rw h.1 refl

name_free : (x : Token) (n : List ℕ) → named x ≡ Some n → not (is_sign signs.Semicolon x) ≡ true
name_free (tok.word w s) n e = refl
name_free (tok.quoted s) n e = refl
name_free _ n e = absurd cc

open_free : (x : Token) → is_sign signs.Open x ≡ true → not (is_sign signs.Semicolon x) ≡ true
open_free (tok.sign signs.Open) e = refl
open_free _ e = absurd cc

close_free : (x : Token) → is_sign signs.Close x ≡ true → not (is_sign signs.Semicolon x) ≡ true
close_free (tok.sign signs.Close) e = refl
close_free _ e = absurd cc

comma_free : (x : Token) → is_sign signs.Comma x ≡ true → not (is_sign signs.Semicolon x) ≡ true
comma_free (tok.sign signs.Comma) e = refl
comma_free _ e = absurd cc

equal_free : (x : Token) → is_sign signs.Equal x ≡ true → not (is_sign signs.Semicolon x) ≡ true
equal_free (tok.sign signs.Equal) e = refl
equal_free _ e = absurd cc

star_free : (x : Token) → is_sign signs.Star x ≡ true → not (is_sign signs.Semicolon x) ≡ true
star_free (tok.sign signs.Star) e = refl
star_free _ e = absurd cc

work_free : (x : Token) → is_work x ≡ true → not (is_sign signs.Semicolon x) ≡ true
work_free (tok.word w s) e = refl
work_free _ e = absurd cc

scope_free : (x : Token) → is_scope x ≡ true → not (is_sign signs.Semicolon x) ≡ true
scope_free (tok.word w s) e = refl
scope_free _ e = absurd cc

to_free : (x : Token) → is_to x ≡ true → not (is_sign signs.Semicolon x) ≡ true
to_free (tok.sign signs.Equal) e = refl
to_free (tok.word w s) e = refl
to_free _ e = absurd cc

setting_free : (x : Token) → is_setting x ≡ true → not (is_sign signs.Semicolon x) ≡ true
setting_free (tok.number n) e = refl
setting_free (tok.string s) e = refl
setting_free _ e = absurd cc

kind_free : (x : Token) (k : Kind) → kind_of x ≡ Some k → not (is_sign signs.Semicolon x) ≡ true
kind_free (tok.word w s) k e = refl
kind_free _ k e = absurd cc

agg_free : (x : Token) (k : AggKind) → agg_kind x ≡ Some k → not (is_sign signs.Semicolon x) ≡ true
agg_free (tok.word w s) k e = refl
agg_free _ k e = absurd cc

sign_free : (t : At Token) (s : SqlSign) → t.tok ≡ tok.sign s → not (is_sign signs.Semicolon (tok.sign s)) ≡ true → is_free t ≡ true
sign_free t s h e = ap (λ x. not (is_sign signs.Semicolon x)) h ∙ e

binary_free : (l : Level) (x : Token) (o : Operator) → operator_at l x ≡ Some o → not (is_sign signs.Semicolon x) ≡ true
binary_free OR (tok.word w s) o e = refl
binary_free OR _ o e = absurd cc
binary_free AND (tok.word w s) o e = refl
binary_free AND _ o e = absurd cc
binary_free CAT (tok.sign signs.Concat) o e = refl
binary_free CAT _ o e = absurd cc
binary_free ADD (tok.sign signs.Plus) o e = refl
binary_free ADD (tok.sign signs.Minus) o e = refl
binary_free ADD _ o e = absurd cc
binary_free MUL (tok.sign signs.Star) o e = refl
binary_free MUL (tok.sign signs.Slash) o e = refl
binary_free MUL (tok.sign signs.Percent) o e = refl
binary_free MUL _ o e = absurd cc
binary_free _ x o e = absurd cc

comparison_free : (x : Token) (o : Operator) → comparison_op x ≡ Some o → not (is_sign signs.Semicolon x) ≡ true
comparison_free (tok.sign signs.Semicolon) o e = absurd cc
comparison_free _ o e = refl

truth_free : (x : Token) (w : Truth) → truth_of x ≡ Some w → not (is_sign signs.Semicolon x) ≡ true
truth_free (tok.word w s) v e = refl
truth_free _ v e = absurd cc

leaf_free : (x : Token) (e : Tree) → IsLeaf x e → not (is_sign signs.Semicolon x) ≡ true
leaf_free _ _ (number n) = refl
leaf_free _ _ (text s) = refl
leaf_free _ _ (column t n h) = name_free t n h
leaf_free _ _ (yes s) = refl
leaf_free _ _ (no s) = refl
leaf_free _ _ (null s) = refl

-- ---- expressions

in_free : (b : Bool) (ws : Tokens) → IsIn b ws → Free ws
in_free false ws i = rw i.1 (first i.0 [] (word_free words.In i.0 i.2) refl)
in_free true ws i = rw i.2 (first i.0 (i.1 ∷ []) (word_free words.Not i.0 i.3) (first i.1 [] (word_free words.In i.1 i.4) refl))

between_free : (b : Bool) (ws : Tokens) → IsBetween b ws → Free ws
between_free false ws i = rw i.1 (first i.0 [] (word_free words.Between i.0 i.2) refl)
between_free true ws i = rw i.2 (first i.0 (i.1 ∷ []) (word_free words.Not i.0 i.3) (first i.1 [] (word_free words.Between i.1 i.4) refl))

is_is_free : (b : Bool) (ws : Tokens) → IsIs b ws → Free ws
is_is_free false ws i = rw i.1 (first i.0 [] (word_free words.Is i.0 i.2) refl)
is_is_free true ws i = rw i.2 (first i.0 (i.1 ∷ []) (word_free words.Is i.0 i.3) (first i.1 [] (word_free words.Not i.1 i.4) refl))

mutual
  expr_free : {limit n : ℕ} {l : Level} {ts : Tokens} {e : Tree} {d : ℕ} → SpellsIn limit n l ts e d → Free ts
  expr_free (only l ts e d p) = expr_free p
  expr_free (chain l fs bs t o a b c d p h q lt) = both fs (t ∷ bs) (expr_free p) (first t bs (binary_free l t.tok o h) (expr_free q))
  expr_free (negation ts t e d h p lt) = first t ts (word_free words.Not t h) (expr_free p)
  expr_free (is ts ws t neg truth e d p i h lt) = both ts (ws ++ t ∷ []) (expr_free p) (both ws (t ∷ []) (is_is_free neg ws i) (first t [] (truth_free t.tok truth h) refl))
  expr_free (comparison fs bs t o a b c d p h q lt) = both fs (t ∷ bs) (expr_free p) (first t bs (comparison_free t.tok o h) (expr_free q))
  expr_free (contained ts ws us t u neg e es c d p i h q g lt) = both ts (ws ++ t ∷ (us ++ u ∷ [])) (expr_free p) (both ws (t ∷ (us ++ u ∷ [])) (in_free neg ws i) (first t (us ++ u ∷ []) (sign_free t signs.Open h refl) (both us (u ∷ []) (items_free q) (first u [] (sign_free u signs.Close g refl) refl))))
  expr_free (between ts ws us vs t neg e low high b c d p i q h r lt) = both ts (ws ++ (us ++ t ∷ vs)) (expr_free p) (both ws (us ++ t ∷ vs) (between_free neg ws i) (both us (t ∷ vs) (expr_free q) (first t vs (word_free words.And t h) (expr_free r))))
  expr_free (minus ts t e d h p lt) = first t ts (sign_free t signs.Minus h refl) (expr_free p)
  expr_free (plus ts t e d h p lt) = first t ts (sign_free t signs.Plus h refl) (expr_free p)
  expr_free (parens ts t u e d h p g lt) = first t (ts ++ u ∷ []) (sign_free t signs.Open h refl) (both ts (u ∷ []) (expr_free p) (first u [] (sign_free u signs.Close g refl) refl))
  expr_free (literal t e p) = first t [] (leaf_free t.tok e p) refl

  items_free : {limit n : ℕ} {ts : Tokens} {es : Trees} {d : ℕ} → ItemsIn limit n ts es d → Free ts
  items_free (one ts e d p) = expr_free p
  items_free (next fs bs t es e c d p h q) = both fs (t ∷ bs) (items_free p) (first t bs (sign_free t signs.Comma h refl) (expr_free q))

shallow_free : (ts : Tokens) (e : Tree) → Shallow ts e → Free ts
shallow_free ts e s = expr_free s.1

-- ---- parts of statements

perhaps_free : (is_it : Token → Bool) → ((x : Token) → is_it x ≡ true → not (is_sign signs.Semicolon x) ≡ true) → (ws : Tokens) → Perhaps is_it ws → Free ws
perhaps_free is_it f _ nothing = refl
perhaps_free is_it f _ (one_is t h) = first t [] (f t.tok h) refl

commas_free : {S : Type 0} (Adds : S → Tokens → S → Type 0) → ((s t : S) (ts : Tokens) → Adds s ts t → Free ts) → {s v : S} {ts : Tokens} → Commas Adds s ts v → Free ts
commas_free Adds f (last_item s t ts a) = f s t ts a
commas_free Adds f (next_item s t v ts us c a h k) = both ts (c ∷ us) (f s t ts a) (first c us (comma_free c.tok h) (commas_free Adds f k))

adds_name_free : (s t : List (List ℕ)) (ts : Tokens) → AddsName s ts t → Free ts
adds_name_free _ _ _ (adds_name ns t n h) = first t [] (name_free t.tok n h) refl

keys_free : (w : Word) (t : At Token) (ts : Tokens) → Key w t → Free ts → Free (t ∷ ts)
keys_free w t ts h f = first t ts (key_free w t.tok h) f

isolation_free : (ts : Tokens) (level : levels.Level) → IsolationIs ts level → Free ts
isolation_free _ _ (uncommitted i l r u hi hl hr hu) = keys_free words.Isolation i (l ∷ r ∷ u ∷ []) hi (keys_free words.Level l (r ∷ u ∷ []) hl (keys_free words.Read r (u ∷ []) hr (keys_free words.Uncommitted u [] hu refl)))
isolation_free _ _ (committed i l r c hi hl hr hc) = keys_free words.Isolation i (l ∷ r ∷ c ∷ []) hi (keys_free words.Level l (r ∷ c ∷ []) hl (keys_free words.Read r (c ∷ []) hr (keys_free words.Committed c [] hc refl)))
isolation_free _ _ (repeatable i l p r hi hl hp hr) = keys_free words.Isolation i (l ∷ p ∷ r ∷ []) hi (keys_free words.Level l (p ∷ r ∷ []) hl (keys_free words.Repeatable p (r ∷ []) hp (keys_free words.Read r [] hr refl)))

level_free : (ts : Tokens) (level : Option levels.Level) → MaybeLevel ts level → Free ts
level_free _ _ no_level = refl
level_free _ _ (a_level ts level h) = isolation_free ts level h

-- a list in parentheses
in_parens : (o c : At Token) (ts : Tokens) → Is (is_sign signs.Open) o → Free ts → Is (is_sign signs.Close) c → Free (o ∷ (ts ++ c ∷ []))
in_parens o c ts ho f hc = first o (ts ++ c ∷ []) (open_free o.tok ho) (both ts (c ∷ []) f (first c [] (close_free c.tok hc) refl))

adds_column_free : (s t : List Placed) (ts : Tokens) → AddsColumn s ts t → Free ts
adds_column_free _ _ _ (adds_column ns t n h) = first t [] (name_free t.tok n h) refl

says_free : (c : Placed) {s v : Constraints} {ts : Tokens} → Says c s ts v → Free ts
says_free c (no_more s) = refl
says_free c (not_null s v n u ts hn hu k) = keys_free words.Not n (u ∷ ts) hn (keys_free words.Null u ts hu (says_free c k))
says_free c (primary_key s v p u ts hp hu k) = keys_free words.Primary p (u ∷ ts) hp (keys_free words.Key u ts hu (says_free c k))
says_free c (unique_key s v u ts hu k) = keys_free words.Unique u ts hu (says_free c k)

adds_part_free : (s t : TableRead) (ts : Tokens) → AddsPart s ts t → Free ts
adds_part_free _ _ _ (a_column t n k name kind ts s hn hk says) = first n (k ∷ ts) (name_free n.tok name hn) (first k ts (kind_free k.tok kind hk) (says_free (grammar.placed name n) says))
adds_part_free _ _ _ (a_primary t p k o c ts columns hp hk ho q hc) = keys_free words.Primary p (k ∷ o ∷ (ts ++ c ∷ [])) hp (keys_free words.Key k (o ∷ (ts ++ c ∷ [])) hk (in_parens o c ts ho (commas_free AddsColumn adds_column_free q) hc))
adds_part_free _ _ _ (a_unique t u o c ts columns hu ho q hc) = keys_free words.Unique u (o ∷ (ts ++ c ∷ [])) hu (in_parens o c ts ho (commas_free AddsColumn adds_column_free q) hc)

adds_value_free : (s t : List Tree) (ts : Tokens) → AddsValue Shallow s ts t → Free ts
adds_value_free _ _ _ (adds_value es ts e h) = shallow_free ts e h

adds_row_free : (s t : Rows) (ts : Tokens) → AddsRow Shallow s ts t → Free ts
adds_row_free _ _ _ (adds_row s ts es h) = of_row ts es h
  where
    of_row : (ts : Tokens) (es : List Tree) → RowIs Shallow ts es → Free ts
    of_row _ _ (is_row o c ts es ho q hc) = in_parens o c ts ho (commas_free (AddsValue Shallow) adds_value_free q) hc

columns_free : (ts : Tokens) (columns : Option (List (List ℕ))) → ColumnsAre ts columns → Free ts
columns_free _ _ unlisted = refl
columns_free _ _ (listed_columns o c ts ns ho q hc) = in_parens o c ts ho (commas_free AddsName adds_name_free q) hc

adds_set_free : (s t : List SetTree) (ts : Tokens) → AddsSet Shallow s ts t → Free ts
adds_set_free _ _ _ (adds_set ss n q name ts e hn hq h) = first n (q ∷ ts) (name_free n.tok name hn) (first q ts (equal_free q.tok hq) (shallow_free ts e h))

where_free : (ts : Tokens) (f : Option Tree) → WhereIs Shallow ts f → Free ts
where_free _ _ unfiltered = refl
where_free _ _ (filtered w ts e hw h) = keys_free words.Where w ts hw (shallow_free ts e h)

alias_free : (ts : Tokens) (n : Option (List ℕ)) → AliasIs ts n → Free ts
alias_free _ _ no_alias = refl
alias_free _ _ (as_alias a t n ha hn) = keys_free words.As a (t ∷ []) ha (first t [] (name_free t.tok n hn) refl)
alias_free _ _ (bare_alias t n hn) = first t [] (name_free t.tok n hn) refl

agg_is_free : (ts : Tokens) (a : AggTree) → AggIs Shallow ts a → Free ts
agg_is_free _ _ (all_rows k o s c hk ho hs hc) = first k (o ∷ s ∷ c ∷ []) (agg_free k.tok aggs.Count hk) (first o (s ∷ c ∷ []) (open_free o.tok ho) (first s (c ∷ []) (star_free s.tok hs) (first c [] (close_free c.tok hc) refl)))
agg_is_free _ _ (of_values k o c kind ts e hk ho h hc) = first k (o ∷ (ts ++ c ∷ [])) (agg_free k.tok kind hk) (in_parens o c ts ho (shallow_free ts e h) hc)

adds_item_free : (s t : List ItemTree) (ts : Tokens) → AddsItem Shallow s ts t → Free ts
adds_item_free _ _ _ (a_star js s h) = first s [] (star_free s.tok h) refl
adds_item_free _ _ _ (a_value js ts us e n h a) = both ts us (shallow_free ts e h) (alias_free us n a)
adds_item_free _ _ _ (an_aggregate js ts us g n h a) = both ts us (agg_is_free ts g h) (alias_free us n a)

from_free : (ts : Tokens) (n : Option (List ℕ)) → FromIs ts n → Free ts
from_free _ _ no_table = refl
from_free _ _ (from_table f t n hf hn) = keys_free words.From f (t ∷ []) hf (first t [] (name_free t.tok n hn) refl)

direction_free : (ts : Tokens) (b : Bool) → DirectionIs ts b → Free ts
direction_free _ _ as_ever = refl
direction_free _ _ (ascending a h) = keys_free words.Asc a [] h refl
direction_free _ _ (descending d h) = keys_free words.Desc d [] h refl

nulls_free : (down : Bool) (ts : Tokens) (b : Bool) → NullsAre down ts b → Free ts
nulls_free down _ _ unsaid = refl
nulls_free down _ _ (nulls_first n f hn hf) = keys_free words.Nulls n (f ∷ []) hn (keys_free words.First f [] hf refl)
nulls_free down _ _ (nulls_last n l hn hl) = keys_free words.Nulls n (l ∷ []) hn (keys_free words.Last l [] hl refl)

adds_key_free : (s t : List OrderTree) (ts : Tokens) → AddsKey Shallow s ts t → Free ts
adds_key_free _ _ _ (adds_key ks ts ds ns e desc f h d n) = both ts (ds ++ ns) (shallow_free ts e h) (both ds ns (direction_free ds desc d) (nulls_free desc ns f n))

order_free : (ts : Tokens) (ks : List OrderTree) → OrderIs Shallow ts ks → Free ts
order_free _ _ unordered = refl
order_free _ _ (ordered o b ts ks ho hb q) = keys_free words.Order o (b ∷ ts) ho (keys_free words.By b ts hb (commas_free (AddsKey Shallow) adds_key_free q))

strength_free : (ts : Tokens) (s : Strength) → StrengthIs ts s → Free ts
strength_free _ _ (for_update u hu) = keys_free words.Update u [] hu refl
strength_free _ _ (for_no_key_update n k u hn hk hu) = keys_free words.No n (k ∷ u ∷ []) hn (keys_free words.Key k (u ∷ []) hk (keys_free words.Update u [] hu refl))
strength_free _ _ (for_share s hs) = keys_free words.Share s [] hs refl
strength_free _ _ (for_key_share k s hk hs) = keys_free words.Key k (s ∷ []) hk (keys_free words.Share s [] hs refl)

policy_free : (ts : Tokens) (p : Policy) → PolicyIs ts p → Free ts
policy_free _ _ wait = refl
policy_free _ _ (no_wait n hn) = keys_free words.NoWait n [] hn refl
policy_free _ _ (skip_locked s l hs hl) = keys_free words.Skip s (l ∷ []) hs (keys_free words.Locked l [] hl refl)

lock_free : (ts : Tokens) (l : Option Lock) → LockIs ts l → Free ts
lock_free _ _ no_lock = refl
lock_free _ _ (locks f ss ps s p hf hs hp) = keys_free words.For f (ss ++ ps) hf (both ss ps (strength_free ss s hs) (policy_free ps p hp))

conflict_free : (ts : Tokens) (b : Bool) → ConflictIs ts b → Free ts
conflict_free _ _ fails = refl
conflict_free _ _ (does_nothing o c d n ho hc hd hn) = keys_free words.On o (c ∷ d ∷ n ∷ []) ho (keys_free words.Conflict c (d ∷ n ∷ []) hc (keys_free words.Do d (n ∷ []) hd (keys_free words.Nothing n [] hn refl)))

adds_returned_free : (s t : List ItemTree) (ts : Tokens) → AddsReturned Shallow s ts t → Free ts
adds_returned_free _ _ _ (returns_all js s h) = first s [] (star_free s.tok h) refl
adds_returned_free _ _ _ (returns_value js ts us e n h a) = both ts us (shallow_free ts e h) (alias_free us n a)

returning_free : (ts : Tokens) (t : Option (List ItemTree)) → ReturningIs Shallow ts t → Free ts
returning_free _ _ returns_nothing = refl
returning_free _ _ (returns r ts js h q) = keys_free words.Returning r ts h (commas_free (AddsReturned Shallow) adds_returned_free q)

-- ---- statements

pub stmt_free : (ts : Tokens) (s : StmtTree) → Spells Shallow ts s → Free ts
stmt_free _ _ (begin b ws vs level hb p m) = keys_free words.Begin b (ws ++ vs) hb (both ws vs (perhaps_free is_work work_free ws p) (level_free vs level m))
stmt_free _ _ (start s t vs level hs ht m) = keys_free words.Start s (t ∷ vs) hs (keys_free words.Transaction t vs ht (level_free vs level m))
stmt_free _ _ (commit c ws h p) = keys_free words.Commit c ws h (perhaps_free is_work work_free ws p)
stmt_free _ _ (end c ws h p) = keys_free words.End c ws h (perhaps_free is_work work_free ws p)
stmt_free _ _ (rollback c ws h p) = keys_free words.Rollback c ws h (perhaps_free is_work work_free ws p)
stmt_free _ _ (abort c ws h p) = keys_free words.Abort c ws h (perhaps_free is_work work_free ws p)
stmt_free _ _ (set_transaction s t vs level hs ht m) = keys_free words.Set s (t ∷ vs) hs (keys_free words.Transaction t vs ht (isolation_free vs level m))
stmt_free _ _ (set_timeout s d q v ws hs p hd hq hv) = keys_free words.Set s (ws ++ d ∷ q ∷ v ∷ []) hs (both ws (d ∷ q ∷ v ∷ []) (perhaps_free is_scope scope_free ws p) (keys_free words.DeadlockTimeout d (q ∷ v ∷ []) hd (first q (v ∷ []) (to_free q.tok hq) (first v [] (setting_free v.tok hv) refl))))
stmt_free _ _ (create c t n o z name ts parts hc ht hn ho q hz) = keys_free words.Create c (t ∷ n ∷ o ∷ (ts ++ z ∷ [])) hc (keys_free words.Table t (n ∷ o ∷ (ts ++ z ∷ [])) ht (first n (o ∷ (ts ++ z ∷ [])) (name_free n.tok name hn) (in_parens o z ts ho (commas_free AddsPart adds_part_free q) hz)))
stmt_free _ _ (drop d t ts ns hd ht q) = keys_free words.Drop d (t ∷ ts) hd (keys_free words.Table t ts ht (commas_free AddsName adds_name_free q))
stmt_free _ _ (drop_if d t i e ts ns hd ht hi he q) = keys_free words.Drop d (t ∷ i ∷ e ∷ ts) hd (keys_free words.Table t (i ∷ e ∷ ts) ht (keys_free words.If i (e ∷ ts) hi (keys_free words.Exists e ts he (commas_free AddsName adds_name_free q))))
stmt_free _ _ (insert i o n v name cs ts ds vs columns rows b t hi ho hn q hv r d k) =
    let behind = ts ++ (ds ++ vs) in
    keys_free words.Insert i (o ∷ n ∷ (cs ++ v ∷ behind)) hi (keys_free words.Into o (n ∷ (cs ++ v ∷ behind)) ho (first n (cs ++ v ∷ behind) (name_free n.tok name hn) (both cs (v ∷ behind) (columns_free cs columns q)
    (keys_free words.Values v behind hv (both ts (ds ++ vs) (commas_free (AddsRow Shallow) adds_row_free r) (both ds vs (conflict_free ds b d) (returning_free vs t k)))))))
stmt_free _ _ (update u n s name ts ws vs sets f t hu hn hs q w k) =
    let behind = ts ++ (ws ++ vs) in
    keys_free words.Update u (n ∷ s ∷ behind) hu (first n (s ∷ behind) (name_free n.tok name hn) (keys_free words.Set s behind hs (both ts (ws ++ vs) (commas_free (AddsSet Shallow) adds_set_free q) (both ws vs (where_free ws f w) (returning_free vs t k)))))
stmt_free _ _ (delete d f n name ws vs filter t hd hf hn w k) = keys_free words.Delete d (f ∷ n ∷ (ws ++ vs)) hd (keys_free words.From f (n ∷ (ws ++ vs)) hf (first n (ws ++ vs) (name_free n.tok name hn) (both ws vs (where_free ws filter w) (returning_free vs t k))))
stmt_free _ _ (select s js fs ws os ls i t f o l hs a b c d e) = keys_free words.Select s (js ++ (fs ++ (ws ++ (os ++ ls)))) hs (both js (fs ++ (ws ++ (os ++ ls))) (commas_free (AddsItem Shallow) adds_item_free a) (both fs (ws ++ (os ++ ls)) (from_free fs t b) (both ws (os ++ ls) (where_free ws f c) (both os ls (order_free os o d) (lock_free ls l e)))))
