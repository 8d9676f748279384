-- CREATE TABLE is read as far as its tokens allow.
use Rattle.std.proofs.Common.{◌≡◌, ℕ, zero, suc, ◌≤◌, Bool, true, false, List, [], ◌∷◌, ◌++◌, length, Option, Some, None, refl, sym, ap, ◌∙◌, arith}
use Rattle.std.specs.Prelude.{Result, Ok, Err, if◌then◌else◌}
use Rattle.std.specs.Option.{option_map_or}
use Rattle.iso_lexer.specs.declared.token.At.{At}
use Rattle.iso_lexer.specs.declared.sql_token.SqlSign.TheVariants as signs
use Rattle.sql_trees.specs.declared.fault.SqlFault.{SqlFault}
use Rattle.sql_trees.specs.declared.fault.SqlFault.TheVariants.{BadColumns}
use Rattle.sql_trees.specs.declared.word.Word.{Word}
use Rattle.sql_trees.specs.declared.word.Word.TheVariants as words
use Rattle.sql_trees.specs.declared.kind.Kind.{Kind}
use Rattle.sql_trees.specs.declared.kind.Kind.TheVariants as kinds
use Rattle.sql_trees.specs.Tokens.{Token, Tokens, named}
use Rattle.sql_trees.specs.Tokens as tok
use Rattle.sql_trees.specs.Trees.{Tree}
use Rattle.sql_expressions.specs.Results.{◌>>=◌}
use Rattle.sql_expressions.specs.Readers.{place_of, expect, is_word, is_sign, after, keyword, name_at, items_at, Reader}
use Rattle.sql_blocks.specs.Parts.{column_names}
use Rattle.sql_parser.specs.Inner.Parts.{misplaced_word}
use Rattle.sql_parser.specs.Tables.{Placed, KeyRead, TableRead, has_name, placed_names, with_key}
use Rattle.sql_parser.specs.Grammar.{Constraints, empty_table, with_column, key_limit, kind_of, Is, Key, Names, Commas, placed, AddsColumn, adds_column, Says, no_more, not_null, primary_key, unique_key, AddsPart, a_column, a_primary, a_unique}
use Rattle.sql_parser.specs.Inner.Tables.{kind_at, key_add, key_at, constraints_at, limits_at, column_behind, column_read, table_add}
use Rattle.sql_parser.specs.Inner.OneConstraint.{is_constraint, constraint_of, constraint_at}
use Rattle.sql_parser.specs.Stops.{at_name}
use Rattle.sql_parser.proofs.Locals.{Inhabited, Local, gives, gives_at, gives_end, stuck_at, goes_on, no_rule_at, no_rule_end, behind, same_at, switch_at, switch_end, in_turn, mapped, token_in, token_then, token_last, list_local, some_list, chosen}
use Rattle.sql_parser.proofs.Steps.{bind_ok, ok_same}
use Rattle.sql_parser.proofs.Going.{turn_is}
use Rattle.sql_parser.proofs.TablesKept.{expect_shorter}
use Rattle.sql_parser.proofs.StmtLocals.{a_word, a_sign, a_name, the_name, key_is, no_word}

module _ (last : ℕ) (E : Tokens → Tree → Type 0) (W Any : Type 0) where
  -- ---- keys

  adds_some_column : (ns : List Placed) → Inhabited (AddsColumn ns)
  adds_some_column ns = (a_name ∷ [], ns ++ placed the_name a_name ∷ [], adds_column ns a_name the_name refl)

  -- a name that may not stand there twice
  pub distinct_local : {B : Type 0} (K : Tokens → B → Type 0) (test : List ℕ → Bool) (k : List ℕ → ℕ → Reader B) (ts : Tokens) → Inhabited K → ((t : At Token) (n : List ℕ) (us : Tokens) → Names n t → Local last E W Any (λ xs w. K (t ∷ xs) w) (k n t.span.start) us) → Local last E W Any K (λ r. name_at last r >>= λ x. if test x.0 then Err (BadColumns (place_of last r)) else k x.0 (place_of last r) x.1) ts
  distinct_local K test k [] some next = no_rule_end last E W Any K (λ r. name_at last r >>= λ x. if test x.0 then Err (BadColumns (place_of last r)) else k x.0 (place_of last r) x.1) some refl
  distinct_local K test k (t ∷ us) some next = of_name (named t.tok) refl
    where
      of_test : (n : List ℕ) → named t.tok ≡ Some n → (b : Bool) → test n ≡ b → Local last E W Any K (λ r. name_at last r >>= λ x. if test x.0 then Err (BadColumns (place_of last r)) else k x.0 (place_of last r) x.1) (t ∷ us)
      of_test n h true g = stuck_at last E W Any K (λ r. name_at last r >>= λ x. if test x.0 then Err (BadColumns (place_of last r)) else k x.0 (place_of last r) x.1) (BadColumns t.span.start) t us some (λ any. at_name [] us t n h (goes_on last E W Any (λ xs w. K (t ∷ xs) w) (k n t.span.start) us any (next t n us h))) (λ vs. rw (h, g) refl)
      of_test n h false g = behind last E W Any K (k n t.span.start) (λ r. name_at last r >>= λ x. if test x.0 then Err (BadColumns (place_of last r)) else k x.0 (place_of last r) x.1) t us (λ vs. rw (h, g) refl) (next t n us h)

      of_name : (o : Option (List ℕ)) → named t.tok ≡ o → Local last E W Any K (λ r. name_at last r >>= λ x. if test x.0 then Err (BadColumns (place_of last r)) else k x.0 (place_of last r) x.1) (t ∷ us)
      of_name None h = no_rule_at last E W Any K (λ r. name_at last r >>= λ x. if test x.0 then Err (BadColumns (place_of last r)) else k x.0 (place_of last r) x.1) t us some (λ vs. rw h refl)
      of_name (Some n) h = of_test n h (test n) refl

  column_add_local : (ns : List Placed) (ts : Tokens) → Local last E W Any (AddsColumn ns) (key_add last ns) ts
  column_add_local ns ts = distinct_local (AddsColumn ns) (λ n. has_name n (placed_names ns)) (λ n p r. Ok (ns ++ (record { name = n; place = p }) ∷ [], r)) ts (adds_some_column ns) (λ t n us h. gives last E W Any (λ xs w. AddsColumn ns (t ∷ xs) w) (ns ++ placed n t ∷ []) us (adds_column ns t n h))

  some_columns : Inhabited (Commas AddsColumn [])
  some_columns = some_list last E W Any (key_add last) AddsColumn adds_some_column column_add_local []

  -- a key's columns in parentheses
  key_local : (K : Tokens → TableRead → Type 0) (p : Bool) (t : TableRead) (ts : Tokens) → ((o c : At Token) (xs : Tokens) (ns : List Placed) → Is (is_sign signs.Open) o → Commas AddsColumn [] xs ns → Is (is_sign signs.Close) c → K (o ∷ (xs ++ c ∷ [])) (with_key p ns t)) → Local last E W Any K (key_at last p t) ts
  unfolding key_at
  key_local K p t ts up =
      let s = some_columns in
      token_then last E W Any K (is_sign signs.Open) (λ us. items_at (key_add last) [] us >>= λ x. expect last (is_sign signs.Close) x.1 >>= λ rest. Ok (with_key p x.0 t, rest)) ts
      (a_sign signs.Open ∷ (s.0 ++ a_sign signs.Close ∷ []), with_key p s.1 t, up (a_sign signs.Open) (a_sign signs.Close) s.0 s.1 refl s.2 refl)
      (λ o us ho. in_turn last E W Any (Commas AddsColumn []) (λ xs w. K (o ∷ xs) w) (items_at (key_add last) []) (λ v r. expect last (is_sign signs.Close) r >>= λ rest. Ok (with_key p v t, rest)) us
      (λ xs ns q. (a_sign signs.Close ∷ [], with_key p ns t, up o (a_sign signs.Close) xs ns ho q refl))
      (list_local last E W Any (key_add last) AddsColumn adds_some_column column_add_local [] us)
      (λ ns xs rest split q. token_last last E W Any (λ ys w. K (o ∷ (xs ++ ys)) w) (is_sign signs.Close) (with_key p ns t) rest (a_sign signs.Close ∷ [], with_key p ns t, up o (a_sign signs.Close) xs ns ho q refl) (λ c hc. up o c xs ns ho q hc)))

  -- ---- columns

  -- what is said of a column, with turns for each token
  abbrev pub says_at : Placed → Constraints → Reader Constraints
  says_at c s ts = constraints_at last c (length ts) s ts

  abbrev pub none_null : Constraints → Constraints
  none_null s = record { not_null = true; keys = s.keys }

  pub says_end : (n : ℕ) (c : Placed) (s : Constraints) → constraints_at last c n s [] ≡ Ok (s, [])
  unfolding constraints_at
  says_end zero c s = refl
  says_end (suc n) c s = refl

  pub says_no_more : (n : ℕ) (c : Placed) (s : Constraints) (t : At Token) (vs : Tokens) → is_constraint t.tok ≡ false → constraints_at last c n s (t ∷ vs) ≡ Ok (s, t ∷ vs)
  unfolding constraints_at
  says_no_more zero c s t vs h = refl
  says_no_more (suc n) c s t vs h = turn_is last c n s (t ∷ vs) ∙ rw h refl

  says_next : (n : ℕ) (c : Placed) (s : Constraints) (t : At Token) (vs : Tokens) → is_constraint t.tok ≡ true → constraints_at last c (suc n) s (t ∷ vs) ≡ (constraint_at last c s (t ∷ vs) >>= λ x. constraints_at last c n x.0 x.1)
  says_next n c s t vs h = turn_is last c n s (t ∷ vs) ∙ rw h refl

  constraint_left : (c : Placed) (s : Constraints) (t : At Token) (ts : Tokens) (y : Constraints × Tokens) (x : Token) → constraint_of last c s x (t ∷ ts) ts ≡ Ok y → length y.1 ≤ length ts
  constraint_left c s t ts y (tok.word words.Not w) e =
      let a = bind_ok (keyword last words.Null ts) (λ us. Ok (none_null s, us)) y e in
      omega (arith, expect_shorter last (is_word words.Null) ts a.0 a.1, ap (λ (z : Constraints × Tokens). length z.1) (ok_same (none_null s, a.0) y a.2))
  constraint_left c s t ts y (tok.word words.Primary w) e =
      let a = bind_ok (keyword last words.Key ts) (λ us. Ok (key_limit true c s, us)) y e in
      omega (arith, expect_shorter last (is_word words.Key) ts a.0 a.1, ap (λ (z : Constraints × Tokens). length z.1) (ok_same (key_limit true c s, a.0) y a.2))
  constraint_left c s t ts y (tok.word words.Unique w) e = omega (arith, ap (λ (z : Constraints × Tokens). length z.1) (ok_same (key_limit false c s, ts) y e))
  constraint_left c s t ts y _ e = absurd cc

  bind_same : {A B : Type 0} (r : Result A SqlFault) (f g : A → Result B SqlFault) → ((x : A) → r ≡ Ok x → f x ≡ g x) → (r >>= f) ≡ (r >>= g)
  bind_same (Ok x) f g h = h x refl
  bind_same (Err e) f g h = refl

  -- more turns than tokens change nothing
  pub says_enough : (m n : ℕ) (c : Placed) (s : Constraints) (ts : Tokens) → length ts ≤ m → length ts ≤ n → constraints_at last c m s ts ≡ constraints_at last c n s ts
  says_enough m n c s [] g h = says_end m c s ∙ sym (says_end n c s)
  says_enough zero n c s (t ∷ ts) g h = absurd (omega arith)
  says_enough (suc m) zero c s (t ∷ ts) g h = absurd (omega arith)
  says_enough (suc m) (suc n) c s (t ∷ ts) g h = of_test (is_constraint t.tok) refl (λ v us a b. says_enough m n c v us a b)
    where
      of_test : (b : Bool) → is_constraint t.tok ≡ b → ((v : Constraints) (us : Tokens) → length us ≤ m → length us ≤ n → constraints_at last c m v us ≡ constraints_at last c n v us) → constraints_at last c (suc m) s (t ∷ ts) ≡ constraints_at last c (suc n) s (t ∷ ts)
      of_test false q ih = says_no_more (suc m) c s t ts q ∙ sym (says_no_more (suc n) c s t ts q)
      of_test true q ih = says_next m c s t ts q ∙ bind_same (constraint_at last c s (t ∷ ts)) (λ x. constraints_at last c m x.0 x.1) (λ x. constraints_at last c n x.0 x.1) (λ x is. let lt = constraint_left c s t ts x t.tok is in ih x.0 x.1 (omega arith) (omega arith)) ∙ sym (says_next n c s t ts q)

  after_it : (c : Placed) (s : Constraints) (vs : Tokens) (r : Result Tokens SqlFault) → ((us : Tokens) → r ≡ Ok us → length us ≤ length vs) → ((r >>= λ us. Ok (s, us)) >>= λ (x : Constraints × Tokens). constraints_at last c (length vs) x.0 x.1) ≡ (r >>= λ us. says_at c s us)
  after_it c s vs (Ok us) f = says_enough (length vs) (length us) c s us (f us refl) (omega arith)
  after_it c s vs (Err e) f = refl

  pub not_turn : (c : Placed) (s : Constraints) (t : At Token) (vs : Tokens) (w : List ℕ) → t.tok ≡ tok.word words.Not w → says_at c s (t ∷ vs) ≡ (keyword last words.Null vs >>= λ us. says_at c (none_null s) us)
  not_turn c s t vs w h = says_next (length vs) c s t vs (rw h refl) ∙ rw h (after_it c (none_null s) vs (keyword last words.Null vs) (λ us e. let lt = expect_shorter last (is_word words.Null) vs us e in omega arith))

  pub primary_turn : (c : Placed) (s : Constraints) (t : At Token) (vs : Tokens) (w : List ℕ) → t.tok ≡ tok.word words.Primary w → says_at c s (t ∷ vs) ≡ (keyword last words.Key vs >>= λ us. says_at c (key_limit true c s) us)
  primary_turn c s t vs w h = says_next (length vs) c s t vs (rw h refl) ∙ rw h (after_it c (key_limit true c s) vs (keyword last words.Key vs) (λ us e. let lt = expect_shorter last (is_word words.Key) vs us e in omega arith))

  pub unique_turn : (c : Placed) (s : Constraints) (t : At Token) (vs : Tokens) (w : List ℕ) → t.tok ≡ tok.word words.Unique w → says_at c s (t ∷ vs) ≡ says_at c (key_limit false c s) vs
  unique_turn c s t vs w h = says_next (length vs) c s t vs (rw h refl) ∙ rw h refl

  key_of : (w : Word) (x : Token) (t : At Token) (s : List ℕ) → t.tok ≡ x → x ≡ tok.word w s → Key w t
  key_of w x t s h g = ap (is_word w) (h ∙ g) ∙ key_is w s

  -- a second word of a constraint, and what follows it
  word_then : (m : ℕ) (c : Placed) (v : Constraints) (K : Tokens → Constraints → Type 0) (key : Word) (ts : Tokens) → length ts ≤ m → ((u : At Token) (xs : Tokens) (z : Constraints) → Key key u → Says c v xs z → K (u ∷ xs) z) → ((w : Constraints) (vs : Tokens) → length vs ≤ m → Local last E W Any (Says c w) (says_at c w) vs) → Local last E W Any K (λ r. keyword last key r >>= says_at c v) ts
  word_then m c v K key ts le up ih = token_in last E W Any K (is_word key) (says_at c v) ts (a_word key ∷ [], v, up (a_word key) [] v (key_is key []) (no_more v))
      (λ u us split h. same_at last E W Any (Says c v) (λ xs w. K (u ∷ xs) w) (says_at c v) (says_at c v) us (λ xs z q. up u xs z h q) (λ vs g. refl) (ih v us (omega (arith, ap length split))))

  says_token : (m : ℕ) (c : Placed) (s : Constraints) (t : At Token) (us : Tokens) (x : Token) → t.tok ≡ x → is_constraint x ≡ true → length us ≤ m → ((v : Constraints) (vs : Tokens) → length vs ≤ m → Local last E W Any (Says c v) (says_at c v) vs) → Local last E W Any (Says c s) (says_at c s) (t ∷ us)
  says_token m c s t us (tok.word words.Not w) h g le ih = behind last E W Any (Says c s) (λ vs. keyword last words.Null vs >>= says_at c (none_null s)) (says_at c s) t us (λ vs. not_turn c s t vs w h)
      (word_then m c (none_null s) (λ xs v. Says c s (t ∷ xs) v) words.Null us le (λ u xs z hu q. not_null s z t u xs (key_of words.Not (tok.word words.Not w) t w h refl) hu q) ih)
  says_token m c s t us (tok.word words.Primary w) h g le ih = behind last E W Any (Says c s) (λ vs. keyword last words.Key vs >>= says_at c (key_limit true c s)) (says_at c s) t us (λ vs. primary_turn c s t vs w h)
      (word_then m c (key_limit true c s) (λ xs v. Says c s (t ∷ xs) v) words.Key us le (λ u xs z hu q. primary_key s z t u xs (key_of words.Primary (tok.word words.Primary w) t w h refl) hu q) ih)
  says_token m c s t us (tok.word words.Unique w) h g le ih = behind last E W Any (Says c s) (says_at c (key_limit false c s)) (says_at c s) t us (λ vs. unique_turn c s t vs w h)
      (same_at last E W Any (Says c (key_limit false c s)) (λ xs v. Says c s (t ∷ xs) v) (says_at c (key_limit false c s)) (says_at c (key_limit false c s)) us (λ xs z q. unique_key s z t xs (key_of words.Unique (tok.word words.Unique w) t w h refl) q) (λ vs e. refl) (ih (key_limit false c s) us le))
  says_token m c s t us _ h g le ih = absurd cc

  says_case : (m : ℕ) (c : Placed) (s : Constraints) (t : At Token) (us : Tokens) (b : Bool) → is_constraint t.tok ≡ b → length us ≤ m → ((v : Constraints) (vs : Tokens) → length vs ≤ m → Local last E W Any (Says c v) (says_at c v) vs) → Local last E W Any (Says c s) (says_at c s) (t ∷ us)
  says_case m c s t us false h le ih = gives_at last E W Any (Says c s) (says_at c s) s t us (λ vs. says_no_more (length (t ∷ vs)) c s t vs h) (no_more s)
  says_case m c s t us true h le ih = says_token m c s t us t.tok refl h le ih

  says_within : (m : ℕ) (c : Placed) (s : Constraints) (ts : Tokens) → length ts ≤ m → Local last E W Any (Says c s) (says_at c s) ts
  says_within m c s [] le = gives_end last E W Any (Says c s) (says_at c s) s (says_end 0 c s) (no_more s)
  says_within zero c s (t ∷ us) le = absurd (omega arith)
  says_within (suc m) c s (t ∷ us) le = says_case m c s t us (is_constraint t.tok) refl (omega arith) (λ v vs h. says_within m c v vs h)

  says_local : (c : Placed) (s : Constraints) (ts : Tokens) → Local last E W Any (Says c s) (says_at c s) ts
  says_local c s ts = says_within (length ts) c s ts (omega arith)

  abbrev pub nothing_said : List KeyRead → Constraints
  nothing_said keys = record { not_null = false; keys = keys }

  a_kind : At Token
  a_kind = a_word words.Integer

  some_part : (t : TableRead) → Inhabited (AddsPart t)
  unfolding a_kind
  some_part t = (a_name ∷ a_kind ∷ [], with_column (placed the_name a_name) kinds.Int (nothing_said t.keys) t, a_column t a_name a_kind the_name kinds.Int [] (nothing_said t.keys) refl refl (no_more (nothing_said t.keys)))

  -- a column behind its name
  abbrev pub with_kind : Kind → Result (Constraints × Tokens) SqlFault → Result ((Kind × Constraints) × Tokens) SqlFault
  with_kind k r = r >>= λ x. Ok ((k, x.0), x.1)

  abbrev pub made_column : Placed → TableRead → (Kind × Constraints) × Tokens → Result (TableRead × Tokens) SqlFault
  made_column c t x = Ok (with_column c x.0.0 x.0.1 t, x.1)

  abbrev pub limits_of : TableRead → Placed → Kind × Tokens → Result ((Kind × Constraints) × Tokens) SqlFault
  limits_of t c k = with_kind k.0 (constraints_at last c (length k.1) (nothing_said t.keys) k.1)

  behind_is : (c : Placed) (t : TableRead) (ts : Tokens) → column_behind last c t ts ≡ ((kind_at last ts >>= limits_of t c) >>= made_column c t)
  unfolding column_behind limits_at
  behind_is c t ts = refl

  abbrev pub with_said : Placed → Kind → TableRead → Constraints × Tokens → Result (TableRead × Tokens) SqlFault
  with_said c kind t x = Ok (with_column c kind x.0 t, x.1)

  pub kind_turn : (c : Placed) (t : TableRead) (k : At Token) (vs : Tokens) (kind : Kind) → kind_of k.tok ≡ Some kind → column_behind last c t (k ∷ vs) ≡ (says_at c (nothing_said t.keys) vs >>= with_said c kind t)
  kind_turn c t k vs kind h = behind_is c t (k ∷ vs) ∙ rw h (of_says (says_at c (nothing_said t.keys) vs))
    where
      of_says : (r : Result (Constraints × Tokens) SqlFault) → (with_kind kind r >>= made_column c t) ≡ (r >>= with_said c kind t)
      of_says (Ok x) = refl
      of_says (Err e) = refl

  kind_none : (c : Placed) (t : TableRead) (k : At Token) (vs : Tokens) → kind_of k.tok ≡ None → column_behind last c t (k ∷ vs) ≡ Err (misplaced_word last (k ∷ vs))
  kind_none c t k vs h = behind_is c t (k ∷ vs) ∙ rw h refl

  behind_local : W → (t : TableRead) (n : At Token) (name : List ℕ) → Names name n → (ts : Tokens) → Local last E W Any (λ xs w. AddsPart t (n ∷ xs) w) (column_behind last (placed name n) t) ts
  unfolding a_kind
  behind_local w t n name hn [] = switch_end last E W Any (λ xs w. AddsPart t (n ∷ xs) w) (λ r. Err (misplaced_word last r)) (column_behind last (placed name n) t) (behind_is (placed name n) t []) (no_word last E W Any (λ xs w. AddsPart t (n ∷ xs) w) w []
      (a_kind ∷ [], with_column (placed name n) kinds.Int (nothing_said t.keys) t, a_column t n a_kind name kinds.Int [] (nothing_said t.keys) hn refl (no_more (nothing_said t.keys))))
  behind_local w t n name hn (k ∷ us) = of_kind (kind_of k.tok) refl
    where
      of_kind : (o : Option Kind) → kind_of k.tok ≡ o → Local last E W Any (λ xs w. AddsPart t (n ∷ xs) w) (column_behind last (placed name n) t) (k ∷ us)
      of_kind None h = switch_at last E W Any (λ xs w. AddsPart t (n ∷ xs) w) (λ r. Err (misplaced_word last r)) (column_behind last (placed name n) t) k us (λ vs. kind_none (placed name n) t k vs h) (no_word last E W Any (λ xs w. AddsPart t (n ∷ xs) w) w (k ∷ us)
          (a_kind ∷ [], with_column (placed name n) kinds.Int (nothing_said t.keys) t, a_column t n a_kind name kinds.Int [] (nothing_said t.keys) hn refl (no_more (nothing_said t.keys))))
      of_kind (Some kind) h = behind last E W Any (λ xs w. AddsPart t (n ∷ xs) w) (λ vs. says_at (placed name n) (nothing_said t.keys) vs >>= with_said (placed name n) kind t) (column_behind last (placed name n) t) k us (λ vs. kind_turn (placed name n) t k vs kind h)
          (mapped last E W Any (Says (placed name n) (nothing_said t.keys)) (λ xs w. AddsPart t (n ∷ k ∷ xs) w) (says_at (placed name n) (nothing_said t.keys)) (λ s. with_column (placed name n) kind s t) us (λ xs s q. a_column t n k name kind xs s hn h q) (says_local (placed name n) (nothing_said t.keys) us))

  column_local : W → (t : TableRead) (ts : Tokens) → Local last E W Any (AddsPart t) (column_read last t) ts
  unfolding column_read
  column_local w t ts = distinct_local (AddsPart t) (λ n. has_name n (column_names t.columns)) (λ n p. column_behind last (record { name = n; place = p }) t) ts (some_part t) (λ n name us hn. behind_local w t n name hn us)

  part_local : W → (t : TableRead) (ts : Tokens) → Local last E W Any (AddsPart t) (table_add last t) ts
  unfolding table_add
  part_local w t ts = chosen last E W Any (AddsPart t) (is_word words.Primary) (λ us. keyword last words.Key us >>= key_at last true t) (λ us. option_map_or (key_at last false t) (after (is_word words.Unique) us) (column_read last t us)) ts
      (λ p us hp. let s = some_columns in token_then last E W Any (λ xs w. AddsPart t (p ∷ xs) w) (is_word words.Key) (key_at last true t) us
      (a_word words.Key ∷ a_sign signs.Open ∷ (s.0 ++ a_sign signs.Close ∷ []), with_key true s.1 t, a_primary t p (a_word words.Key) (a_sign signs.Open) (a_sign signs.Close) s.0 s.1 hp (key_is words.Key []) refl s.2 refl)
      (λ k vs hk. key_local (λ xs w. AddsPart t (p ∷ k ∷ xs) w) true t vs (λ o c xs ns ho q hc. a_primary t p k o c xs ns hp hk ho q hc)))
      (chosen last E W Any (AddsPart t) (is_word words.Unique) (key_at last false t) (column_read last t) ts
      (λ u us hu. key_local (λ xs w. AddsPart t (u ∷ xs) w) false t us (λ o c xs ns ho q hc. a_unique t u o c xs ns hu ho q hc))
      (column_local w t ts))

  pub parts_local : W → (ts : Tokens) → Local last E W Any (Commas AddsPart empty_table) (items_at (table_add last) empty_table) ts
  parts_local w ts = list_local last E W Any (table_add last) AddsPart some_part (part_local w) empty_table ts

  pub some_parts : W → Inhabited (Commas AddsPart empty_table)
  some_parts w = some_list last E W Any (table_add last) AddsPart some_part (part_local w) empty_table
