-- What the tokens spell is read: CREATE TABLE.
use Rattle.std.proofs.Common.{◌≡◌, ℕ, suc, ◌+◌, ◌<◌, ◌^◌, Bool, true, false, List, [], ◌∷◌, ◌++◌, length, map, Some, None, refl, sym, ap, subst, ◌∙◌, append_assoc, arith, rules}
use Rattle.std.proofs.lemmas.Bool.{and_from, and_parts, or_parts, not_from_false, not-true, false_from_ne_true, lt-ltb}
use Rattle.std.proofs.lemmas.Bool.Decides.{Decides-eqb}
use Rattle.std.proofs.lemmas.List.{map-append, length-map}
use Rattle.std.proofs.lemmas.List.Folds.{list_any-append, list_all-append}
use Rattle.std.proofs.lemmas.Slice.Eq.{bytes_eq-Decides}
use Rattle.std.specs.List.{list_any, list_all, filter}
use Rattle.std.specs.Prelude.{Result, Ok, not, ◌&&◌, ◌||◌, ◌==◌, nat_lt, bytes_eq, if◌then◌else◌}
use Rattle.iso_lexer.specs.declared.token.At.{At}
use Rattle.iso_lexer.specs.declared.sql_token.SqlSign.TheVariants as signs
use Rattle.sql_trees.specs.declared.fault.SqlFault.{SqlFault}
use Rattle.sql_trees.specs.declared.word.Word.{Word}
use Rattle.sql_trees.specs.declared.word.Word.TheVariants as words
use Rattle.sql_trees.specs.Words.{is_reserved}
use Rattle.sql_trees.specs.declared.kind.Kind.{Kind}
use Rattle.sql_trees.specs.Statements.{ColumnTree, KeyTree}
use Rattle.sql_trees.specs.Tokens.{Token, Tokens, named}
use Rattle.sql_trees.specs.Tokens as tok
use Rattle.sql_expressions.specs.Readers.{is_word, is_sign}
use Rattle.sql_blocks.specs.Parts.{column_names}
use Rattle.sql_blocks.specs.Kept.{all_differ, places_differ, key_fits, tree_name, table_kept}
use Rattle.sql_parser.specs.Tables.{Placed, KeyRead, TableRead, has_name, placed_names, with_key, completed, created, resolved}
use Rattle.sql_parser.specs.Grammar.{Constraints, empty_table, with_column, kind_of, Is, Key, Names, Commas, placed, AddsColumn, adds_column, Says, no_more, not_null, primary_key, unique_key, AddsPart, a_column, a_primary, a_unique, Shallow}
use Rattle.sql_parser.specs.Inner.Tables.{key_add, key_at, constraints_at, column_read, table_add, made_name, first_lacking, text_fault, keys_fault, place_among, declared, finished, create_at}
use Rattle.sql_parser.specs.Inner.OneConstraint.{is_constraint}
use Rattle.sql_parser.specs.Inner.Pieces.{is_kept_key, resolved_keys}
use Rattle.sql_parser.proofs.Keeping.{or_none}
use Rattle.sql_parser.proofs.KeysKept.{key_among, places_in, names_kept, made, names_stay}
use Rattle.sql_parser.proofs.TablesKept.{key_differs}
use Rattle.sql_parser.proofs.StmtLocals.{word_is}
use Rattle.sql_parser.proofs.TableLocals.{says_end, says_no_more, not_turn, primary_turn, unique_turn, kind_turn}
use Rattle.sql_parser.proofs.Completes.{not_key, no_comma_at_close, list_reads}
use Rattle.sql_parser.proofs.CompleteStmts.{differ_pop}

-- ---- conditions on the table, from those on its tree

below : (m n : ℕ) → nat_lt m n ≡ true → m < n
below m n h = search rules

one_less : (m n : ℕ) → nat_lt (1 + m) (suc n) ≡ true → nat_lt m n ≡ true
one_less m n h = lt-ltb m n (omega (arith, below (1 + m) (suc n) h))

within_among : (columns : List (List ℕ)) (n : List ℕ) → nat_lt (place_among columns n) (length columns) ≡ true → has_name n columns ≡ true
within_among [] n e = absurd cc
within_among (m ∷ ms) n e = of_test (bytes_eq m n) refl (within_among ms n) e
  where
    of_test : (b : Bool) → bytes_eq m n ≡ b → (nat_lt (place_among ms n) (length ms) ≡ true → has_name n ms ≡ true) → nat_lt (if not b then 1 + place_among ms n else 0) (suc (length ms)) ≡ true → (b || has_name n ms) ≡ true
    of_test true h go k = refl
    of_test false h go k = go (one_less (place_among ms n) (length ms) k)

names_among : (columns : List (List ℕ)) (ns : List Placed) → list_all (λ c. nat_lt c (length columns)) (places_in columns ns) ≡ true → list_all (λ n. has_name n columns) (placed_names ns) ≡ true
names_among columns [] e = refl
names_among columns (n ∷ ns) e =
    let p = and_parts (nat_lt (place_among columns n.name) (length columns)) (list_all (λ c. nat_lt c (length columns)) (places_in columns ns)) e in
    and_from (has_name n.name columns) (list_all (λ m. has_name m columns) (placed_names ns)) (within_among columns n.name p.0) (names_among columns ns p.1)

-- names at places that differ differ
name_apart : (columns : List (List ℕ)) (m n : List ℕ) → (place_among columns m == place_among columns n) ≡ false → bytes_eq m n ≡ false
name_apart columns m n e = false_from_ne_true (bytes_eq m n) (λ h. differ h)
  where
    differ : bytes_eq m n ≡ true → ⊥
    differ h =
        let same : place_among columns m ≡ place_among columns n = ap (place_among columns) ((bytes_eq-Decides m n).0 h) in
        let one : (place_among columns m == place_among columns n) ≡ true = (Decides-eqb (place_among columns m) (place_among columns n)).1 same in
        cc

names_apart : (columns : List (List ℕ)) (m : List ℕ) (ns : List Placed) → list_any (λ k. place_among columns m == k) (places_in columns ns) ≡ false → list_any (bytes_eq m) (placed_names ns) ≡ false
names_apart columns m [] e = refl
names_apart columns m (n ∷ ns) e =
    let q = or_parts (place_among columns m == place_among columns n.name) (list_any (λ k. place_among columns m == k) (places_in columns ns)) e in
    or_none (bytes_eq m n.name) (list_any (bytes_eq m) (placed_names ns)) (name_apart columns m n.name q.0) (names_apart columns m ns q.1)

places_names : (columns : List (List ℕ)) (ns : List Placed) → places_differ (places_in columns ns) ≡ true → all_differ (placed_names ns) ≡ true
places_names columns [] e = refl
places_names columns (n ∷ ns) e =
    let p = and_parts (not (list_any (λ k. place_among columns n.name == k) (places_in columns ns))) (places_differ (places_in columns ns)) e in
    and_from (not (list_any (bytes_eq n.name) (placed_names ns))) (all_differ (placed_names ns))
    (not_from_false (list_any (bytes_eq n.name) (placed_names ns)) (names_apart columns n.name ns (not-true (list_any (λ k. place_among columns n.name == k) (places_in columns ns)) p.0)))
    (places_names columns ns p.1)

-- ---- from the keys in their declared order to those in the order of the text

module _ (f : KeyRead → KeyTree) (p : KeyTree → Bool) where
  from_parts : (ks : List KeyRead) → list_all p (map f (filter (is_kept_key true) ks)) ≡ true → list_all p (map f (filter (is_kept_key false) ks)) ≡ true → list_all (λ k. p (f k)) ks ≡ true
  from_parts [] g h = refl
  from_parts (k ∷ ks) g h = of_test k.primary (from_parts ks) g h
    where
      of_test : (b : Bool) → (list_all p (map f (filter (is_kept_key true) ks)) ≡ true → list_all p (map f (filter (is_kept_key false) ks)) ≡ true → list_all (λ k. p (f k)) ks ≡ true) → list_all p (map f (if b then k ∷ filter (is_kept_key true) ks else filter (is_kept_key true) ks)) ≡ true → list_all p (map f (if not b then k ∷ filter (is_kept_key false) ks else filter (is_kept_key false) ks)) ≡ true → (p (f k) && list_all (λ k. p (f k)) ks) ≡ true
      of_test true go a b = let q = and_parts (p (f k)) (list_all p (map f (filter (is_kept_key true) ks))) a in and_from (p (f k)) (list_all (λ k. p (f k)) ks) q.0 (go q.1 b)
      of_test false go a b = let q = and_parts (p (f k)) (list_all p (map f (filter (is_kept_key false) ks))) b in and_from (p (f k)) (list_all (λ k. p (f k)) ks) q.0 (go a q.1)

absent_parts : (n : List ℕ) (xs ys : List (List ℕ)) → list_any (bytes_eq n) (xs ++ ys) ≡ false → (list_any (bytes_eq n) xs ≡ false) × (list_any (bytes_eq n) ys ≡ false)
absent_parts n xs ys h = or_parts (list_any (bytes_eq n) xs) (list_any (bytes_eq n) ys) (sym (list_any-append (bytes_eq n) xs ys) ∙ h)

apart_back : (m n : List ℕ) → bytes_eq m n ≡ false → bytes_eq n m ≡ false
apart_back m n e = false_from_ne_true (bytes_eq n m) differ
  where
    differ : bytes_eq n m ≡ true → ⊥
    differ h =
        let there : bytes_eq m n ≡ true = (bytes_eq-Decides m n).1 (sym ((bytes_eq-Decides n m).0 h)) in
        cc

record Removed (xs ys : List (List ℕ)) (n : List ℕ) : Type 0 where
  differ : all_differ (xs ++ ys) ≡ true
  before : list_any (bytes_eq n) xs ≡ false
  behind : list_any (bytes_eq n) ys ≡ false

differ_remove : (xs ys : List (List ℕ)) (n : List ℕ) → all_differ (xs ++ n ∷ ys) ≡ true → Removed xs ys n
differ_remove [] ys n h =
    let p = and_parts (not (list_any (bytes_eq n) ys)) (all_differ ys) h in
    record { differ = p.1; before = refl; behind = not-true (list_any (bytes_eq n) ys) p.0 }
differ_remove (x ∷ xs) ys n h =
    let p = and_parts (not (list_any (bytes_eq x) (xs ++ n ∷ ys))) (all_differ (xs ++ n ∷ ys)) h in
    let a = absent_parts x xs (n ∷ ys) (not-true (list_any (bytes_eq x) (xs ++ n ∷ ys)) p.0) in
    let b = or_parts (bytes_eq x n) (list_any (bytes_eq x) ys) a.1 in
    let r = differ_remove xs ys n p.1 in
    record {
      differ = and_from (not (list_any (bytes_eq x) (xs ++ ys))) (all_differ (xs ++ ys)) (not_from_false (list_any (bytes_eq x) (xs ++ ys)) (list_any-append (bytes_eq x) xs ys ∙ or_none (list_any (bytes_eq x) xs) (list_any (bytes_eq x) ys) a.0 b.1)) r.differ;
      before = or_none (bytes_eq n x) (list_any (bytes_eq n) xs) (apart_back x n b.0) r.before;
      behind = r.behind;
    }

module _ (table : List ℕ) where
  abbrev names_of : Bool → List KeyRead → List (List ℕ)
  names_of primary ks = made table primary ks

  absent_all : (n : List ℕ) (ks : List KeyRead) → list_any (bytes_eq n) (names_of true ks) ≡ false → list_any (bytes_eq n) (names_of false ks) ≡ false → list_any (bytes_eq n) (map (made_name table) ks) ≡ false
  absent_all n [] g h = refl
  absent_all n (k ∷ ks) g h = of_test k.primary (absent_all n ks) g h
    where
      of_test : (b : Bool) → (list_any (bytes_eq n) (names_of true ks) ≡ false → list_any (bytes_eq n) (names_of false ks) ≡ false → list_any (bytes_eq n) (map (made_name table) ks) ≡ false) → list_any (bytes_eq n) (map (made_name table) (if b then k ∷ filter (is_kept_key true) ks else filter (is_kept_key true) ks)) ≡ false → list_any (bytes_eq n) (map (made_name table) (if not b then k ∷ filter (is_kept_key false) ks else filter (is_kept_key false) ks)) ≡ false → (bytes_eq n (made_name table k) || list_any (bytes_eq n) (map (made_name table) ks)) ≡ false
      of_test true go a b = let q = or_parts (bytes_eq n (made_name table k)) (list_any (bytes_eq n) (names_of true ks)) a in or_none (bytes_eq n (made_name table k)) (list_any (bytes_eq n) (map (made_name table) ks)) q.0 (go q.1 b)
      of_test false go a b = let q = or_parts (bytes_eq n (made_name table k)) (list_any (bytes_eq n) (names_of false ks)) b in or_none (bytes_eq n (made_name table k)) (list_any (bytes_eq n) (map (made_name table) ks)) q.0 (go a q.1)

  parts_differ : (ks : List KeyRead) → all_differ (names_of true ks ++ names_of false ks) ≡ true → all_differ (map (made_name table) ks) ≡ true
  parts_differ [] h = refl
  parts_differ (k ∷ ks) h = of_test k.primary (parts_differ ks) h
    where
      whole : (xs ys : List (List ℕ)) → Removed xs ys (made_name table k) → (all_differ (xs ++ ys) ≡ true → all_differ (map (made_name table) ks) ≡ true) → (list_any (bytes_eq (made_name table k)) xs ≡ false → list_any (bytes_eq (made_name table k)) ys ≡ false → list_any (bytes_eq (made_name table k)) (map (made_name table) ks) ≡ false) → (not (list_any (bytes_eq (made_name table k)) (map (made_name table) ks)) && all_differ (map (made_name table) ks)) ≡ true
      whole xs ys r go none = and_from (not (list_any (bytes_eq (made_name table k)) (map (made_name table) ks))) (all_differ (map (made_name table) ks)) (not_from_false (list_any (bytes_eq (made_name table k)) (map (made_name table) ks)) (none r.before r.behind)) (go r.differ)

      first : all_differ (made_name table k ∷ (names_of true ks ++ names_of false ks)) ≡ true → Removed (names_of true ks) (names_of false ks) (made_name table k)
      first e =
          let p = and_parts (not (list_any (bytes_eq (made_name table k)) (names_of true ks ++ names_of false ks))) (all_differ (names_of true ks ++ names_of false ks)) e in
          let q = absent_parts (made_name table k) (names_of true ks) (names_of false ks) (not-true (list_any (bytes_eq (made_name table k)) (names_of true ks ++ names_of false ks)) p.0) in
          record { differ = p.1; before = q.0; behind = q.1 }

      of_test : (b : Bool) → (all_differ (names_of true ks ++ names_of false ks) ≡ true → all_differ (map (made_name table) ks) ≡ true) → all_differ (map (made_name table) (if b then k ∷ filter (is_kept_key true) ks else filter (is_kept_key true) ks) ++ map (made_name table) (if not b then k ∷ filter (is_kept_key false) ks else filter (is_kept_key false) ks)) ≡ true → (not (list_any (bytes_eq (made_name table k)) (map (made_name table) ks)) && all_differ (map (made_name table) ks)) ≡ true
      of_test true go e = whole (names_of true ks) (names_of false ks) (first e) go (absent_all (made_name table k) ks)
      of_test false go e = whole (names_of true ks) (names_of false ks) (differ_remove (names_of true ks) (names_of false ks) (made_name table k) e) go (absent_all (made_name table k) ks)

-- ---- no fault of keys

none_lacking : (columns : List (List ℕ)) (ns : List Placed) → list_all (λ n. has_name n columns) (placed_names ns) ≡ true → first_lacking columns ns ≡ None
none_lacking columns [] e = refl
none_lacking columns (n ∷ ns) e =
    let p = and_parts (has_name n.name columns) (list_all (λ m. has_name m columns) (placed_names ns)) e in
    rw p.0 (none_lacking columns ns p.1)

-- a name that differs from all before it is none of them
among_not : (n : List ℕ) (ns : List (List ℕ)) (ms : List (List ℕ)) → all_differ (ns ++ n ∷ ms) ≡ true → has_name n ns ≡ false
among_not n [] ms e = refl
among_not n (m ∷ ns) ms e =
    let p = and_parts (not (list_any (bytes_eq m) (ns ++ n ∷ ms))) (all_differ (ns ++ n ∷ ms)) e in
    let a = absent_parts m ns (n ∷ ms) (not-true (list_any (bytes_eq m) (ns ++ n ∷ ms)) p.0) in
    let b = or_parts (bytes_eq m n) (list_any (bytes_eq m) ms) a.1 in
    or_none (bytes_eq m n) (has_name n ns) b.0 (among_not n ns ms p.1)

keys_right : (table : List ℕ) (columns earlier : List (List ℕ)) (ks : List KeyRead) → list_all (key_among columns) ks ≡ true → all_differ (earlier ++ map (made_name table) ks) ≡ true → keys_fault table columns earlier ks ≡ None
unfolding keys_fault text_fault
keys_right table columns earlier [] a d = refl
keys_right table columns earlier (k ∷ ks) a d =
    let p = and_parts (key_among columns k) (list_all (key_among columns) ks) a in
    rw (among_not (made_name table k) earlier (map (made_name table) ks) d, none_lacking columns k.columns p.0)
    (keys_right table columns (earlier ++ made_name table k ∷ []) ks p.1 (ap all_differ (append_assoc earlier (made_name table k ∷ []) (map (made_name table) ks)) ∙ d))

-- what a kept tree says of the table that it was made of
pub record TableFits (name : List ℕ) (t : TableRead) : Type 0 where
  pub differ : all_differ (column_names t.columns) ≡ true
  pub keys : list_all key_differs t.keys ≡ true
  pub right : keys_fault name (column_names t.columns) [] t.keys ≡ None

key_parts : (n : ℕ) (columns : List (List ℕ)) (ks : List KeyRead) → n ≡ length columns → list_all (λ k. key_fits n (resolved columns k)) ks ≡ true → (list_all (key_among columns) ks ≡ true) × (list_all key_differs ks ≡ true)
key_parts n columns [] same e = (refl, refl)
key_parts n columns (k ∷ ks) same e =
    let p = and_parts (key_fits n (resolved columns k)) (list_all (λ k. key_fits n (resolved columns k)) ks) e in
    let q = and_parts (list_all (λ c. nat_lt c n) (places_in columns k.columns)) (places_differ (places_in columns k.columns)) p.0 in
    let r = key_parts n columns ks same p.1 in
    let among = names_among columns k.columns (subst (λ m. list_all (λ c. nat_lt c m) (places_in columns k.columns) ≡ true) same q.0) in
    (and_from (key_among columns k) (list_all (key_among columns) ks) among r.0, and_from (key_differs k) (list_all key_differs ks) (places_names columns k.columns q.1) r.1)

pub table_fits : (name : List ℕ) (t : TableRead) → table_kept (record { name = name; columns = map (completed t.keys) t.columns; keys = declared (column_names t.columns) t.keys }) ≡ true → TableFits name t
table_fits name t e =
    let cols = column_names t.columns in
    let cs = map (completed t.keys) t.columns in
    let ks = declared cols t.keys in
    let same : column_names cs ≡ cols = names_stay t.keys t.columns in
    let len : length cs ≡ length cols = sym (length-map cs (λ (c : ColumnTree). c.name)) ∙ ap length same in
    let p = and_parts (nat_lt (length cs) (2 ^ 32) && nat_lt (length ks) (2 ^ 32)) (all_differ (column_names cs) && (list_all (key_fits (length cs)) ks && all_differ (map (tree_name name (column_names cs)) ks))) e in
    let q = and_parts (all_differ (column_names cs)) (list_all (key_fits (length cs)) ks && all_differ (map (tree_name name (column_names cs)) ks)) p.1 in
    let r = and_parts (list_all (key_fits (length cs)) ks) (all_differ (map (tree_name name (column_names cs)) ks)) q.1 in
    let halves = and_parts (list_all (key_fits (length cs)) (resolved_keys true cols t.keys)) (list_all (key_fits (length cs)) (resolved_keys false cols t.keys)) (sym (list_all-append (key_fits (length cs)) (resolved_keys true cols t.keys) (resolved_keys false cols t.keys)) ∙ r.0) in
    let each = key_parts (length cs) cols t.keys len (from_parts (resolved cols) (key_fits (length cs)) t.keys halves.0 halves.1) in
    let named : map (tree_name name cols) ks ≡ made name true t.keys ++ made name false t.keys =
    map-append (tree_name name cols) (resolved_keys true cols t.keys) (resolved_keys false cols t.keys)
    ∙ (ap (λ xs. xs ++ map (tree_name name cols) (resolved_keys false cols t.keys)) (names_kept name cols true t.keys each.0) ∙ ap (λ ys. made name true t.keys ++ ys) (names_kept name cols false t.keys each.0)) in
    let apart : all_differ (map (tree_name name cols) ks) ≡ true = subst (λ ns. all_differ (map (tree_name name ns) ks) ≡ true) same r.1 in
    record {
      differ = ap all_differ (sym same) ∙ q.0;
      keys = each.1;
      right = keys_right name cols [] t.keys each.0 (parts_differ name t.keys (sym (ap all_differ named) ∙ apart));
    }

-- ---- reading

-- a name is no reserved word
pub name_no_key : (w : Word) → is_reserved w ≡ true → (x : Token) (n : List ℕ) → named x ≡ Some n → is_word w x ≡ false
name_no_key w r x n h = of_test (is_word w x) refl
  where
    of_test : (b : Bool) → is_word w x ≡ b → is_word w x ≡ false
    of_test false g = g
    of_test true g = let k = word_is w x g in absurd (let e : None ≡ Some n = sym (rw r refl) ∙ (sym (ap named k.1) ∙ h) in cc)

abbrev Unconstrained : Tokens → Type 0
Unconstrained [] = Unit {0}
Unconstrained (t ∷ ts) = is_constraint t.tok ≡ false

comma_free : (x : Token) → is_sign signs.Comma x ≡ true → is_constraint x ≡ false
comma_free (tok.sign signs.Comma) e = refl
comma_free _ e = absurd cc

close_free : (x : Token) → is_sign signs.Close x ≡ true → is_constraint x ≡ false
close_free (tok.sign signs.Close) e = refl
close_free _ e = absurd cc

abbrev Apart : TableRead → Type 0
Apart t = (all_differ (column_names t.columns) ≡ true) × (list_all key_differs t.keys ≡ true)

module _ (last : ℕ) where
  abbrev said_at : Placed → Constraints → Tokens → Result (Constraints × Tokens) SqlFault
  said_at c s ts = constraints_at last c (length ts) s ts

  says_nothing : (c : Placed) (s : Constraints) (rest : Tokens) → Unconstrained rest → said_at c s rest ≡ Ok (s, rest)
  says_nothing c s [] u = says_end last Shallow (Unit {0}) ⊥ 0 c s
  says_nothing c s (t ∷ ts) u = says_no_more last Shallow (Unit {0}) ⊥ (length (t ∷ ts)) c s t ts u

  says_reads : (c : Placed) {s : Constraints} {ts : Tokens} {v : Constraints} → Says c s ts v → (rest : Tokens) → Unconstrained rest → said_at c s (ts ++ rest) ≡ Ok (v, rest)
  says_reads c (no_more s) rest f = says_nothing c s rest f
  says_reads c (not_null s v n u ts hn hu k) rest f = let w = word_is words.Not n.tok hn in not_turn last Shallow (Unit {0}) ⊥ c s n (u ∷ (ts ++ rest)) w.0 w.1 ∙ rw hu (says_reads c k rest f)
  says_reads c (primary_key s v p u ts hp hu k) rest f = let w = word_is words.Primary p.tok hp in primary_turn last Shallow (Unit {0}) ⊥ c s p (u ∷ (ts ++ rest)) w.0 w.1 ∙ rw hu (says_reads c k rest f)
  says_reads c (unique_key s v u ts hu k) rest f = let w = word_is words.Unique u.tok hu in unique_turn last Shallow (Unit {0}) ⊥ c s u (ts ++ rest) w.0 w.1 ∙ says_reads c k rest f

  key_pop : (ks : List KeyRead) (k : KeyRead) → list_all key_differs (ks ++ k ∷ []) ≡ true → (list_all key_differs ks ≡ true) × (key_differs k ≡ true)
  key_pop ks k h =
      let p = and_parts (list_all key_differs ks) (list_all key_differs (k ∷ [])) (sym (list_all-append key_differs ks (k ∷ [])) ∙ h) in
      (p.0, (and_parts (key_differs k) true p.1).0)

  says_back : (c : Placed) {s : Constraints} {ts : Tokens} {v : Constraints} → Says c s ts v → list_all key_differs v.keys ≡ true → list_all key_differs s.keys ≡ true
  says_back c (no_more s) h = h
  says_back c (not_null s v n u ts hn hu k) h = says_back c k h
  says_back c (primary_key s v p u ts hp hu k) h = (key_pop s.keys (record { primary = true; columns = c ∷ [] }) (says_back c k h)).0
  says_back c (unique_key s v u ts hu k) h = (key_pop s.keys (record { primary = false; columns = c ∷ [] }) (says_back c k h)).0

  abbrev PlacesDiffer : List Placed → Type 0
  PlacesDiffer ns = all_differ (placed_names ns) ≡ true

  placed_pop : (ns : List Placed) (n : Placed) → PlacesDiffer (ns ++ n ∷ []) → PlacesDiffer ns × (has_name n.name (placed_names ns) ≡ false)
  placed_pop ns n f = differ_pop (placed_names ns) n.name (ap all_differ (sym (map-append (λ (x : Placed). x.name) ns (n ∷ []))) ∙ f)

  columns_come : (s t : List Placed) (ts : Tokens) → AddsColumn s ts t → PlacesDiffer t → PlacesDiffer s
  columns_come _ _ _ (adds_column ns t n h) f = (placed_pop ns (placed n t) f).0

  column_add : (s t : List Placed) (ts rest : Tokens) → Unit {0} → AddsColumn s ts t → PlacesDiffer t → Unit {0} → key_add last s (ts ++ rest) ≡ Ok (t, rest)
  column_add _ _ _ rest b (adds_column ns t n h) f g = rw (h, (placed_pop ns (placed n t) f).1) refl

  key_reads : (primary : Bool) (t : TableRead) (o c : At Token) (ts rest : Tokens) (ns : List Placed) → Is (is_sign signs.Open) o → Commas AddsColumn [] ts ns → Is (is_sign signs.Close) c → PlacesDiffer ns → key_at last primary t (o ∷ ((ts ++ c ∷ []) ++ rest)) ≡ Ok (with_key primary ns t, rest)
  unfolding key_at
  key_reads primary t o c ts rest ns ho k hc d =
      let columns = list_reads (key_add last) AddsColumn (λ s. Unit {0}) PlacesDiffer (λ rest. Unit {0}) (λ s t ts b a. tt) columns_come column_add (λ c us h. tt) k tt d (c ∷ rest) tt (no_comma_at_close c rest hc) in
      rw (ho, append_assoc ts (c ∷ []) rest, columns, hc) refl

  column_pop : (cs : List ColumnTree) (c : ColumnTree) → all_differ (column_names (cs ++ c ∷ [])) ≡ true → (all_differ (column_names cs) ≡ true) × (has_name c.name (column_names cs) ≡ false)
  column_pop cs c f = differ_pop (column_names cs) c.name (ap all_differ (sym (map-append (λ (x : ColumnTree). x.name) cs (c ∷ []))) ∙ f)

  column_reads : (t : TableRead) (n k : At Token) (name : List ℕ) (kind : Kind) (ts rest : Tokens) (s : Constraints) → Names name n → kind_of k.tok ≡ Some kind → Says (placed name n) (record { not_null = false; keys = t.keys }) ts s → has_name name (column_names t.columns) ≡ false → Unconstrained rest → column_read last t (n ∷ k ∷ (ts ++ rest)) ≡ Ok (with_column (placed name n) kind s t, rest)
  unfolding column_read
  column_reads t n k name kind ts rest s hn hk says none free = rw (hn, none) (kind_turn last Shallow (Unit {0}) ⊥ (placed name n) t k (ts ++ rest) kind hk ∙ rw (says_reads (placed name n) says rest free) refl)

  parts_come : (s t : TableRead) (ts : Tokens) → AddsPart s ts t → Apart t → Apart s
  parts_come _ _ _ (a_column t n k name kind ts s hn hk says) f = ((column_pop t.columns (record { name = name; kind = kind; not_null = s.not_null }) f.0).0, says_back (placed name n) says f.1)
  parts_come _ _ _ (a_primary t p k o c ts columns hp hk ho q hc) f = (f.0, (key_pop t.keys (record { primary = true; columns = columns }) f.1).0)
  parts_come _ _ _ (a_unique t u o c ts columns hu ho q hc) f = (f.0, (key_pop t.keys (record { primary = false; columns = columns }) f.1).0)

  part_add : (s t : TableRead) (ts rest : Tokens) → Unit {0} → AddsPart s ts t → Apart t → Unconstrained rest → table_add last s (ts ++ rest) ≡ Ok (t, rest)
  unfolding is_reserved table_add
  part_add _ _ _ rest b (a_column t n k name kind ts s hn hk says) f g = rw (name_no_key words.Primary refl n.tok name hn, name_no_key words.Unique refl n.tok name hn) (column_reads t n k name kind ts rest s hn hk says (column_pop t.columns (record { name = name; kind = kind; not_null = s.not_null }) f.0).1 g)
  part_add _ _ _ rest b (a_primary t p k o c ts columns hp hk ho q hc) f g = rw (hp, hk) (key_reads true t o c ts rest columns ho q hc (key_pop t.keys (record { primary = true; columns = columns }) f.1).1)
  part_add _ _ _ rest b (a_unique t u o c ts columns hu ho q hc) f g = rw (not_key words.Unique words.Primary u hu (λ e. cc), hu) (key_reads false t o c ts rest columns ho q hc (key_pop t.keys (record { primary = false; columns = columns }) f.1).1)

  pub create_reads : (t n o z : At Token) (name : List ℕ) (ts : Tokens) (parts : TableRead) → Key words.Table t → Names name n → Is (is_sign signs.Open) o → Commas AddsPart empty_table ts parts → Is (is_sign signs.Close) z → TableFits name parts → create_at last (t ∷ n ∷ o ∷ (ts ++ z ∷ [])) ≡ Ok (Ok (created name parts), [])
  unfolding create_at finished
  create_reads t n o z name ts parts ht hn ho k hz f =
      let all = list_reads (table_add last) AddsPart (λ s. Unit {0}) Apart Unconstrained (λ s t ts b a. tt) parts_come part_add (λ c us h. comma_free c.tok h) k tt (f.differ, f.keys) (z ∷ []) (close_free z.tok hz) (no_comma_at_close z [] hz) in
      rw (ht, hn, ho, all, hz, f.right) refl
