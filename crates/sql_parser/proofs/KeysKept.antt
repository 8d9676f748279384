-- The keys of a table, where none has a fault, are kept.
use Rattle.std.proofs.Common.{◌≡◌, ℕ, suc, ◌+◌, ◌<◌, ◌≤◌, ◌^◌, List, [], ◌∷◌, ◌++◌, length, map, get_or, Option, Some, None, refl, sym, ap, subst, ◌∙◌, arith, append_assoc, append-nil, length-append}
use Rattle.std.proofs.lemmas.Bool.{and_from, and_parts, or_parts, not_from_false, not-true, lt-ltb, false_from_ne_true}
use Rattle.std.proofs.lemmas.Bool.Decides.{Decides-eqb}
use Rattle.std.proofs.lemmas.List.{map-append, length-map}
use Rattle.std.proofs.lemmas.List.Folds.{list_any-append, list_all-append}
use Rattle.std.proofs.lemmas.Slice.Eq.{bytes_eq-Decides}
use Rattle.std.specs.List.{list_any, list_all, filter}
use Rattle.std.specs.Prelude.{Result, Ok, Err, Bool, true, false, not, ◌&&◌, ◌||◌, ◌==◌, nat_lt, bytes_eq, find, option_map, slice_index, if◌then◌else◌}
use Rattle.std.specs.Option.{option_or, option_map_or}
use Rattle.iso_lexer.specs.declared.sql_token.SqlSign.TheVariants as signs
use Rattle.sql_trees.specs.declared.fault.SqlFault.{SqlFault}
use Rattle.sql_trees.specs.declared.word.Word.TheVariants as words
use Rattle.sql_trees.specs.Statements.{StmtTree, ColumnTree, KeyTree, key_name}
use Rattle.sql_trees.specs.Tokens.{Tokens}
use Rattle.sql_expressions.specs.Results.{◌>>=◌}
use Rattle.sql_expressions.specs.Readers.{expect, is_sign, is_word, items_at, keyword, name_at}
use Rattle.sql_blocks.specs.Parts.{column_names}
use Rattle.sql_blocks.specs.Kept.{all_differ, places_differ, names_among, key_fits, tree_name, table_kept}
use Rattle.sql_parser.specs.Tables.{Placed, KeyRead, TableRead, has_name, placed_names, completed, created, resolved}
use Rattle.sql_parser.specs.Grammar.{empty_table}
use Rattle.sql_parser.specs.Inner.Tables.{made_name, first_lacking, text_fault, keys_fault, place_among, declared, finished, table_add, create_at}
use Rattle.sql_parser.specs.Inner.Pieces.{is_kept_key, resolved_keys}
use Rattle.sql_trees.specs.declared.fault.SqlFault.TheVariants.{BadColumns}
use Rattle.sql_parser.proofs.Created.{created_is}
use Rattle.sql_parser.proofs.Keeping.{FineOrNot, differ_push, or_none}
use Rattle.sql_parser.proofs.Steps.{bind_ok, ok_same}
use Rattle.sql_parser.proofs.TablesKept.{TableWithin, key_differs, table_within, expect_shorter, name_shorter}

-- the columns of a key are columns of the table
abbrev pub key_among : List (List ℕ) → KeyRead → Bool
key_among columns k = list_all (λ n. has_name n columns) (placed_names k.columns)

-- ---- without a fault

text_none : (b : Bool) (p : ℕ) (o : Option ℕ) → (if b then Some p else o) ≡ None → (b ≡ false) × (o ≡ None)
text_none true p o e = absurd cc
text_none false p o e = (refl, e)

both_none : (a b : Option ℕ) → option_or a b ≡ None → (a ≡ None) × (b ≡ None)
both_none (Some n) b e = absurd cc
both_none None b e = (refl, e)

none_lacks : (columns : List (List ℕ)) (ns : List Placed) → first_lacking columns ns ≡ None → list_all (λ n. has_name n columns) (placed_names ns) ≡ true
none_lacks columns [] e = refl
none_lacks columns (n ∷ ns) e = of_test (has_name n.name columns) refl (none_lacks columns ns) e
  where
    of_test : (b : Bool) → has_name n.name columns ≡ b → (first_lacking columns ns ≡ None → list_all (λ m. has_name m columns) (placed_names ns) ≡ true) → option_map (λ (m : Placed). m.place) (if not b then Some n else find (λ m. not (has_name m.name columns)) ns) ≡ None → list_all (λ m. has_name m columns) (n.name ∷ placed_names ns) ≡ true
    of_test true h go k = and_from (has_name n.name columns) (list_all (λ m. has_name m columns) (placed_names ns)) h (go k)
    of_test false h go k = absurd cc

no_fault : (table : List ℕ) (columns earlier : List (List ℕ)) (ks : List KeyRead) → keys_fault table columns earlier ks ≡ None → all_differ earlier ≡ true → (all_differ (earlier ++ map (made_name table) ks) ≡ true) × (list_all (key_among columns) ks ≡ true)
unfolding keys_fault text_fault
no_fault table columns earlier [] e h = (ap all_differ (append-nil earlier) ∙ h, refl)
no_fault table columns earlier (k ∷ ks) e h =
    let p = both_none (text_fault (made_name table k) columns earlier k) (keys_fault table columns (earlier ++ made_name table k ∷ []) ks) e in
    let q = text_none (has_name (made_name table k) earlier) (slice_index (map (λ (n : Placed). n.place) k.columns) 0) (first_lacking columns k.columns) p.0 in
    let r = no_fault table columns (earlier ++ made_name table k ∷ []) ks p.1 (differ_push earlier (made_name table k) h q.0) in
    (ap all_differ (sym (append_assoc earlier (made_name table k ∷ []) (map (made_name table) ks))) ∙ r.0, and_from (key_among columns k) (list_all (key_among columns) ks) (none_lacks columns k.columns q.1) r.1)

-- ---- places

pub record PlaceOk (columns : List (List ℕ)) (n : List ℕ) (place : ℕ) : Type 0 where
  within : place < length columns
  back : get_or columns place [] ≡ n

place_ok : (columns : List (List ℕ)) (n : List ℕ) → has_name n columns ≡ true → PlaceOk columns n (place_among columns n)
place_ok [] n e = absurd cc
place_ok (m ∷ ms) n e = of_test (bytes_eq m n) refl (place_ok ms n) e
  where
    of_test : (b : Bool) → bytes_eq m n ≡ b → (has_name n ms ≡ true → PlaceOk ms n (place_among ms n)) → (b || has_name n ms) ≡ true → PlaceOk (m ∷ ms) n (if not b then 1 + place_among ms n else 0)
    of_test true h go k = record { within = omega arith; back = (bytes_eq-Decides m n).0 h }
    of_test false h go k =
        let p = go k in
        let next : suc (place_among ms n) ≡ 1 + place_among ms n = omega arith in
        record { within = omega (arith, p.within); back = subst (λ i. get_or (m ∷ ms) i [] ≡ n) next p.back }

-- the places of these columns
abbrev pub places_in : List (List ℕ) → List Placed → List ℕ
places_in columns ns = map (λ n. place_among columns n.name) ns

names_back : (columns : List (List ℕ)) (ns : List Placed) → list_all (λ n. has_name n columns) (placed_names ns) ≡ true → names_among columns (places_in columns ns) ≡ placed_names ns
names_back columns [] e = refl
names_back columns (n ∷ ns) e =
    let p = and_parts (has_name n.name columns) (list_all (λ m. has_name m columns) (placed_names ns)) e in
    let here : get_or columns (place_among columns n.name) [] ≡ n.name = (place_ok columns n.name p.0).back in
    let more : names_among columns (places_in columns ns) ≡ placed_names ns = names_back columns ns p.1 in
    ap (λ m. m ∷ names_among columns (places_in columns ns)) here ∙ ap (λ ms. n.name ∷ ms) more

places_within : (columns : List (List ℕ)) (ns : List Placed) → list_all (λ n. has_name n columns) (placed_names ns) ≡ true → list_all (λ k. nat_lt k (length columns)) (places_in columns ns) ≡ true
places_within columns [] e = refl
places_within columns (n ∷ ns) e =
    let p = and_parts (has_name n.name columns) (list_all (λ m. has_name m columns) (placed_names ns)) e in
    and_from (nat_lt (place_among columns n.name) (length columns)) (list_all (λ k. nat_lt k (length columns)) (places_in columns ns)) (lt-ltb (place_among columns n.name) (length columns) (place_ok columns n.name p.0).within) (places_within columns ns p.1)

place_apart : (columns : List (List ℕ)) (m n : List ℕ) → has_name m columns ≡ true → has_name n columns ≡ true → bytes_eq m n ≡ false → (place_among columns m == place_among columns n) ≡ false
place_apart columns m n hm hn e = false_from_ne_true (place_among columns m == place_among columns n) (λ h. differ h)
  where
    differ : (place_among columns m == place_among columns n) ≡ true → ⊥
    differ h =
        let same : place_among columns m ≡ place_among columns n = (Decides-eqb (place_among columns m) (place_among columns n)).0 h in
        let one : m ≡ n = sym (place_ok columns m hm).back ∙ (ap (λ k. get_or columns k []) same ∙ (place_ok columns n hn).back) in
        let yes : bytes_eq m n ≡ true = (bytes_eq-Decides m n).1 one in
        cc

places_apart : (columns : List (List ℕ)) (m : List ℕ) (ns : List Placed) → has_name m columns ≡ true → list_all (λ n. has_name n columns) (placed_names ns) ≡ true → list_any (bytes_eq m) (placed_names ns) ≡ false → list_any (λ k. place_among columns m == k) (places_in columns ns) ≡ false
places_apart columns m [] hm hn e = refl
places_apart columns m (n ∷ ns) hm hn e =
    let p = and_parts (has_name n.name columns) (list_all (λ o. has_name o columns) (placed_names ns)) hn in
    let q = or_parts (bytes_eq m n.name) (list_any (bytes_eq m) (placed_names ns)) e in
    or_none (place_among columns m == place_among columns n.name) (list_any (λ k. place_among columns m == k) (places_in columns ns)) (place_apart columns m n.name hm p.0 q.0) (places_apart columns m ns hm p.1 q.1)

differ_places : (columns : List (List ℕ)) (ns : List Placed) → list_all (λ n. has_name n columns) (placed_names ns) ≡ true → all_differ (placed_names ns) ≡ true → places_differ (places_in columns ns) ≡ true
differ_places columns [] h e = refl
differ_places columns (n ∷ ns) h e =
    let p = and_parts (has_name n.name columns) (list_all (λ m. has_name m columns) (placed_names ns)) h in
    let q = and_parts (not (list_any (bytes_eq n.name) (placed_names ns))) (all_differ (placed_names ns)) e in
    and_from (not (list_any (λ k. place_among columns n.name == k) (places_in columns ns))) (places_differ (places_in columns ns))
    (not_from_false (list_any (λ k. place_among columns n.name == k) (places_in columns ns)) (places_apart columns n.name ns p.0 p.1 (not-true (list_any (bytes_eq n.name) (placed_names ns)) q.0)))
    (differ_places columns ns p.1 q.1)

-- ---- the primary key first

module _ (table : List ℕ) (columns : List (List ℕ)) (primary : Bool) where
  abbrev kept_of : List KeyRead → List KeyRead
  kept_of ks = filter (is_kept_key primary) ks

  pub names_kept : (ks : List KeyRead) → list_all (key_among columns) ks ≡ true → map (tree_name table columns) (map (resolved columns) (kept_of ks)) ≡ map (made_name table) (kept_of ks)
  names_kept [] e = refl
  names_kept (k ∷ ks) e = of_test (is_kept_key primary k) (names_kept ks p.1)
    where
      p : (key_among columns k ≡ true) × (list_all (key_among columns) ks ≡ true)
      p = and_parts (key_among columns k) (list_all (key_among columns) ks) e

      of_test : (b : Bool) → map (tree_name table columns) (map (resolved columns) (kept_of ks)) ≡ map (made_name table) (kept_of ks) → map (tree_name table columns) (map (resolved columns) (if b then k ∷ kept_of ks else kept_of ks)) ≡ map (made_name table) (if b then k ∷ kept_of ks else kept_of ks)
      of_test true h =
          let here : tree_name table columns (resolved columns k) ≡ made_name table k = ap (key_name table k.primary) (names_back columns k.columns p.0) in
          ap (λ n. n ∷ map (tree_name table columns) (map (resolved columns) (kept_of ks))) here ∙ ap (λ ns. made_name table k ∷ ns) h
      of_test false h = h

  fit_kept : (ks : List KeyRead) → list_all (key_among columns) ks ≡ true → list_all key_differs ks ≡ true → list_all (key_fits (length columns)) (map (resolved columns) (kept_of ks)) ≡ true
  fit_kept [] e d = refl
  fit_kept (k ∷ ks) e d = of_test (is_kept_key primary k) (fit_kept ks p.1 q.1)
    where
      p : (key_among columns k ≡ true) × (list_all (key_among columns) ks ≡ true)
      p = and_parts (key_among columns k) (list_all (key_among columns) ks) e

      q : (key_differs k ≡ true) × (list_all key_differs ks ≡ true)
      q = and_parts (key_differs k) (list_all key_differs ks) d

      of_test : (b : Bool) → list_all (key_fits (length columns)) (map (resolved columns) (kept_of ks)) ≡ true → list_all (key_fits (length columns)) (map (resolved columns) (if b then k ∷ kept_of ks else kept_of ks)) ≡ true
      of_test true h =
          and_from (key_fits (length columns) (resolved columns k)) (list_all (key_fits (length columns)) (map (resolved columns) (kept_of ks)))
          (and_from (list_all (λ c. nat_lt c (length columns)) (places_in columns k.columns)) (places_differ (places_in columns k.columns)) (places_within columns k.columns p.0) (differ_places columns k.columns p.0 q.0)) h
      of_test false h = h

  absent : (n : List ℕ) (ks : List KeyRead) → list_any (bytes_eq n) (map (made_name table) ks) ≡ false → list_any (bytes_eq n) (map (made_name table) (kept_of ks)) ≡ false
  absent n [] e = refl
  absent n (k ∷ ks) e = of_test (is_kept_key primary k) (absent n ks q.1)
    where
      q : (bytes_eq n (made_name table k) ≡ false) × (list_any (bytes_eq n) (map (made_name table) ks) ≡ false)
      q = or_parts (bytes_eq n (made_name table k)) (list_any (bytes_eq n) (map (made_name table) ks)) e

      of_test : (b : Bool) → list_any (bytes_eq n) (map (made_name table) (kept_of ks)) ≡ false → list_any (bytes_eq n) (map (made_name table) (if b then k ∷ kept_of ks else kept_of ks)) ≡ false
      of_test true h = or_none (bytes_eq n (made_name table k)) (list_any (bytes_eq n) (map (made_name table) (kept_of ks))) q.0 h
      of_test false h = h

apart_back : (m n : List ℕ) → bytes_eq m n ≡ false → bytes_eq n m ≡ false
apart_back m n e = false_from_ne_true (bytes_eq n m) differ
  where
    differ : bytes_eq n m ≡ true → ⊥
    differ h =
        let yes : bytes_eq m n ≡ true = (bytes_eq-Decides m n).1 (sym ((bytes_eq-Decides n m).0 h)) in
        cc

absent_both : (n : List ℕ) (xs ys : List (List ℕ)) → list_any (bytes_eq n) xs ≡ false → list_any (bytes_eq n) ys ≡ false → list_any (bytes_eq n) (xs ++ ys) ≡ false
absent_both n xs ys h k = list_any-append (bytes_eq n) xs ys ∙ or_none (list_any (bytes_eq n) xs) (list_any (bytes_eq n) ys) h k

differ_insert : (xs ys : List (List ℕ)) (n : List ℕ) → all_differ (xs ++ ys) ≡ true → list_any (bytes_eq n) xs ≡ false → list_any (bytes_eq n) ys ≡ false → all_differ (xs ++ n ∷ ys) ≡ true
differ_insert [] ys n h k l = and_from (not (list_any (bytes_eq n) ys)) (all_differ ys) (not_from_false (list_any (bytes_eq n) ys) l) h
differ_insert (x ∷ xs) ys n h k l =
    let p = and_parts (not (list_any (bytes_eq x) (xs ++ ys))) (all_differ (xs ++ ys)) h in
    let q = or_parts (bytes_eq n x) (list_any (bytes_eq n) xs) k in
    let parts = or_parts (list_any (bytes_eq x) xs) (list_any (bytes_eq x) ys) (sym (list_any-append (bytes_eq x) xs ys) ∙ not-true (list_any (bytes_eq x) (xs ++ ys)) p.0) in
    and_from (not (list_any (bytes_eq x) (xs ++ n ∷ ys))) (all_differ (xs ++ n ∷ ys))
    (not_from_false (list_any (bytes_eq x) (xs ++ n ∷ ys)) (absent_both x xs (n ∷ ys) parts.0 (or_none (bytes_eq x n) (list_any (bytes_eq x) ys) (apart_back n x q.0) parts.1)))
    (differ_insert xs ys n p.1 q.1 l)

module _ (table : List ℕ) where
  abbrev pub made : Bool → List KeyRead → List (List ℕ)
  made primary ks = map (made_name table) (filter (is_kept_key primary) ks)

  differ_parts : (ks : List KeyRead) → all_differ (map (made_name table) ks) ≡ true → all_differ (made true ks ++ made false ks) ≡ true
  differ_parts [] e = refl
  differ_parts (k ∷ ks) e = of_test k.primary (differ_parts ks p.1)
    where
      p : (not (list_any (bytes_eq (made_name table k)) (map (made_name table) ks)) ≡ true) × (all_differ (map (made_name table) ks) ≡ true)
      p = and_parts (not (list_any (bytes_eq (made_name table k)) (map (made_name table) ks))) (all_differ (map (made_name table) ks)) e

      none : list_any (bytes_eq (made_name table k)) (map (made_name table) ks) ≡ false
      none = not-true (list_any (bytes_eq (made_name table k)) (map (made_name table) ks)) p.0

      first : list_any (bytes_eq (made_name table k)) (made true ks) ≡ false
      first = absent table [] true (made_name table k) ks none

      others : list_any (bytes_eq (made_name table k)) (made false ks) ≡ false
      others = absent table [] false (made_name table k) ks none

      of_test : (b : Bool) → all_differ (made true ks ++ made false ks) ≡ true → all_differ (map (made_name table) (if b then k ∷ filter (is_kept_key true) ks else filter (is_kept_key true) ks) ++ map (made_name table) (if not b then k ∷ filter (is_kept_key false) ks else filter (is_kept_key false) ks)) ≡ true
      of_test true h = differ_insert [] (made true ks ++ made false ks) (made_name table k) h refl (absent_both (made_name table k) (made true ks) (made false ks) first others)
      of_test false h = differ_insert (made true ks) (made false ks) (made_name table k) h first others

parts_length : (ks : List KeyRead) → length (filter (is_kept_key true) ks) + length (filter (is_kept_key false) ks) ≤ length ks
parts_length [] = omega arith
parts_length (k ∷ ks) = of_test k.primary (parts_length ks)
  where
    of_test : (b : Bool) → length (filter (is_kept_key true) ks) + length (filter (is_kept_key false) ks) ≤ length ks → length (if b then k ∷ filter (is_kept_key true) ks else filter (is_kept_key true) ks) + length (if not b then k ∷ filter (is_kept_key false) ks else filter (is_kept_key false) ks) ≤ length (k ∷ ks)
    of_test true h = omega arith
    of_test false h = omega arith

-- ---- the table

pub names_stay : (ks : List KeyRead) (cs : List ColumnTree) → column_names (map (completed ks) cs) ≡ column_names cs
names_stay ks [] = refl
names_stay ks (c ∷ cs) = ap (λ ns. c.name ∷ ns) (names_stay ks cs)

-- a table of these columns, whose names are these
record TableParts (name : List ℕ) (names : List (List ℕ)) (cs : List ColumnTree) (ks : List KeyTree) : Type 0 where
  same : column_names cs ≡ names
  few_columns : length names < 2 ^ 32
  few_keys : length ks < 2 ^ 32
  differ : all_differ names ≡ true
  fit : list_all (key_fits (length names)) ks ≡ true
  named : all_differ (map (tree_name name names) ks) ≡ true

parts_kept : (name : List ℕ) (names : List (List ℕ)) (cs : List ColumnTree) (ks : List KeyTree) → TableParts name names cs ks → table_kept (record { name = name; columns = cs; keys = ks }) ≡ true
parts_kept name names cs ks p =
    let len : length names ≡ length cs = sym (ap length p.same) ∙ length-map cs (λ (c : ColumnTree). c.name) in
    and_from (nat_lt (length cs) (2 ^ 32) && nat_lt (length ks) (2 ^ 32)) (all_differ (column_names cs) && (list_all (key_fits (length cs)) ks && all_differ (map (tree_name name (column_names cs)) ks)))
    (and_from (nat_lt (length cs) (2 ^ 32)) (nat_lt (length ks) (2 ^ 32)) (lt-ltb (length cs) (2 ^ 32) (subst (λ n. n < 2 ^ 32) len p.few_columns)) (lt-ltb (length ks) (2 ^ 32) p.few_keys))
    (and_from (all_differ (column_names cs)) (list_all (key_fits (length cs)) ks && all_differ (map (tree_name name (column_names cs)) ks)) (ap all_differ p.same ∙ p.differ)
    (and_from (list_all (key_fits (length cs)) ks) (all_differ (map (tree_name name (column_names cs)) ks)) (subst (λ n. list_all (key_fits n) ks ≡ true) len p.fit) (subst (λ ns. all_differ (map (tree_name name ns) ks) ≡ true) (sym p.same) p.named)))

finished_fine : (name : List ℕ) (bound : ℕ) (t : TableRead) (ts : Tokens) → TableWithin bound t ts → bound < 2 ^ 32 → FineOrNot true (finished name t)
unfolding finished
finished_fine name bound t ts w less = of_fault (keys_fault name (column_names t.columns) [] t.keys) refl
  where
    of_fault : (o : Option ℕ) → keys_fault name (column_names t.columns) [] t.keys ≡ o → FineOrNot true (option_map_or (λ place. Err (BadColumns place)) o (Ok (created name t)))
    of_fault (Some place) e = tt
    of_fault None e =
        let cols = column_names t.columns in
        let n = no_fault name cols [] t.keys e refl in
        let named : map (tree_name name cols) (declared cols t.keys) ≡ made name true t.keys ++ made name false t.keys =
        map-append (tree_name name cols) (resolved_keys true cols t.keys) (resolved_keys false cols t.keys)
        ∙ (ap (λ xs. xs ++ map (tree_name name cols) (resolved_keys false cols t.keys)) (names_kept name cols true t.keys n.1) ∙ ap (λ ys. made name true t.keys ++ ys) (names_kept name cols false t.keys n.1)) in
        subst (λ x. FineOrNot true (Ok x)) (sym (created_is name t)) (record {
          kept = parts_kept name cols (map (completed t.keys) t.columns) (declared cols t.keys) (record {
            same = names_stay t.keys t.columns;
            few_columns = omega (arith, w.columns, less, length-map t.columns (λ (c : ColumnTree). c.name));
            few_keys = omega (arith, w.keys, less, parts_length t.keys, length-append (resolved_keys true cols t.keys) (resolved_keys false cols t.keys), length-map (filter (is_kept_key true) t.keys) (resolved cols), length-map (filter (is_kept_key false) t.keys) (resolved cols));
            differ = w.names;
            fit = list_all-append (key_fits (length cols)) (resolved_keys true cols t.keys) (resolved_keys false cols t.keys) ∙ and_from (list_all (key_fits (length cols)) (resolved_keys true cols t.keys)) (list_all (key_fits (length cols)) (resolved_keys false cols t.keys)) (fit_kept name cols true t.keys n.1 w.differ) (fit_kept name cols false t.keys n.1 w.differ);
            named = ap all_differ named ∙ differ_parts name t.keys n.0;
          });
          made = refl;
        })

module _ (last : ℕ) where
  pub create_fine : (ts : Tokens) (x : Result StmtTree SqlFault × Tokens) → create_at last ts ≡ Ok x → length ts < 2 ^ 32 → FineOrNot true x.0
  unfolding create_at
  create_fine ts x e less =
      let a = bind_ok (keyword last words.Table ts) (λ us. name_at last us >>= λ n. expect last (is_sign signs.Open) n.1 >>= λ vs. items_at (table_add last) empty_table vs >>= λ t. expect last (is_sign signs.Close) t.1 >>= λ rest. Ok (finished n.0 t.0, rest)) x e in
      let n = bind_ok (name_at last a.0) (λ n. expect last (is_sign signs.Open) n.1 >>= λ vs. items_at (table_add last) empty_table vs >>= λ t. expect last (is_sign signs.Close) t.1 >>= λ rest. Ok (finished n.0 t.0, rest)) x a.2 in
      let o = bind_ok (expect last (is_sign signs.Open) n.0.1) (λ vs. items_at (table_add last) empty_table vs >>= λ t. expect last (is_sign signs.Close) t.1 >>= λ rest. Ok (finished n.0.0 t.0, rest)) x n.2 in
      let t = bind_ok (items_at (table_add last) empty_table o.0) (λ t. expect last (is_sign signs.Close) t.1 >>= λ rest. Ok (finished n.0.0 t.0, rest)) x o.2 in
      let c = bind_ok (expect last (is_sign signs.Close) t.0.1) (λ rest. Ok (finished n.0.0 t.0.0, rest)) x t.2 in
      let few : length o.0 < 2 ^ 32 = omega (arith, less, expect_shorter last (is_word words.Table) ts a.0 a.1, name_shorter last a.0 n.0 n.1, expect_shorter last (is_sign signs.Open) n.0.1 o.0 o.1) in
      subst (λ (y : Result StmtTree SqlFault × Tokens). FineOrNot true y.0) (ok_same (finished n.0.0 t.0.0, c.0) x c.2) (finished_fine n.0.0 (length o.0) t.0.0 t.0.1 (table_within last o.0 t.0 t.1) few)
