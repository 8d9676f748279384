-- What is read of INSERT, UPDATE and DELETE, and of the columns of a key, is what the code reads.
use Rattle.std.proofs.Common.{◌≡◌, ℕ, Bool, true, false, List, [], ◌∷◌, ◌++◌, length, Option, Some, None, refl, sym, ap, ◌∙◌}
use Rattle.std.proofs.lemmas.Bool.Decides.{Decides-eqb}
use Rattle.std.proofs.lemmas.List.{map-append}
use Rattle.std.specs.Prelude.{Result, Ok, Err, if◌then◌else◌, option_map}
use Rattle.std.specs.Option.{option_or}
use Rattle.std.specs.List.{slice_get}
use Rattle.iso_lexer.specs.declared.sql_token.SqlSign.TheVariants as signs
use Rattle.sql_trees.specs.declared.fault.SqlFault.{SqlFault}
use Rattle.sql_trees.specs.declared.fault.SqlFault.TheVariants.{Syntax, BadColumns}
use Rattle.sql_trees.specs.declared.word.Word.TheVariants as words
use Rattle.sql_trees.specs.Statements.{StmtTree, SetTree, Inserts, Updates}
use Rattle.sql_trees.specs.Trees.{Tree}
use Rattle.sql_trees.specs.Tokens.{Tokens}
use Rattle.sql_expressions.specs.Results.{◌>>=◌}
use Rattle.sql_expressions.specs.Readers.{Reader, after, expect, is_sign, keyword, place_of, name_at, items_at, added}
use Rattle.sql_blocks.specs.Parts.{fits, set_columns}
use Rattle.sql_parser.specs.Grammar.{Rows}
use Rattle.sql_parser.specs.Readers.{maybe, list_of, tree_at}
use Rattle.sql_parser.specs.Tables.{has_name, Placed, placed_names, new_name, names_at}
use Rattle.sql_parser.specs.Changes.{row_at, one_set, filter_at, conflict_at, returning_at, insert_at, update_at, delete_at}
use Rattle.sql_parser.specs.Inner.Tables as tables
use Rattle.sql_parser.specs.Inner.Changes as changes
use Rattle.sql_parser.proofs.Readings.{turned, bind_on, bind_twice, option_on, items_same, items_alike}

-- ---- names

module _ (last : ℕ) where
  -- a name that is none of these, and what is read behind it
  module _ {X : Type 0} (names : List (List ℕ)) (next : Placed → Reader X) (ts : Tokens) where
    abbrev goes : Placed × Tokens → Result (X × Tokens) SqlFault
    goes y = next y.0 y.1

    abbrev named : List ℕ → Tokens → Placed × Tokens
    named n us = (record { name = n; place = place_of last ts }, us)

    of_test : (b : Bool) (n : List ℕ) (us : Tokens) → (if b then Err (BadColumns (place_of last ts)) else goes (named n us)) ≡ ((if b then Err (BadColumns (place_of last ts)) else Ok (named n us)) >>= goes)
    of_test true n us = refl
    of_test false n us = refl

    of_name : (r : Result (List ℕ × Tokens) SqlFault) → (r >>= λ x. if has_name x.0 names then Err (BadColumns (place_of last ts)) else goes (named x.0 x.1)) ≡ ((r >>= λ x. if has_name x.0 names then Err (BadColumns (place_of last ts)) else Ok (named x.0 x.1)) >>= goes)
    of_name (Ok x) = of_test (has_name x.0 names) x.0 x.1
    of_name (Err e) = refl

    pub name_then : tables.new_name last names next ts ≡ (new_name last names ts >>= goes)
    name_then = of_name (name_at last ts)

  -- ---- UPDATE

  set_same : (ss : List SetTree) (ts : Tokens) → changes.set_add last ss ts ≡ turned (λ s. ss ++ s ∷ []) (one_set last ss ts)
  unfolding one_set changes.set_add
  set_same ss ts =
      name_then (set_columns ss) (λ n. changes.set_value last n.name ss) ts
      ∙ (bind_on (new_name last (set_columns ss) ts) (λ x. changes.set_value last x.0.name ss x.1) (λ x. turned (λ s. ss ++ s ∷ []) (expect last (is_sign signs.Equal) x.1 >>= λ us. turned (λ e. record { column = x.0.name; value = e }) (tree_at last us))) of_sign
      ∙ sym (bind_twice (new_name last (set_columns ss) ts) _ _))
    where
      of_value : (n : List ℕ) (r : Result (Tree × Tokens) SqlFault) → turned (λ e. ss ++ (record { column = n; value = e }) ∷ []) r ≡ turned (λ s. ss ++ s ∷ []) (turned (λ e. record { column = n; value = e }) r)
      of_value n (Ok x) = refl
      of_value n (Err e) = refl

      of_behind : (n : List ℕ) (r : Result Tokens SqlFault) → (r >>= λ us. turned (λ e. ss ++ (record { column = n; value = e }) ∷ []) (tree_at last us)) ≡ turned (λ s. ss ++ s ∷ []) (r >>= λ us. turned (λ e. record { column = n; value = e }) (tree_at last us))
      of_behind n (Ok us) = of_value n (tree_at last us)
      of_behind n (Err e) = refl

      of_sign : (x : Placed × Tokens) → changes.set_value last x.0.name ss x.1 ≡ turned (λ s. ss ++ s ∷ []) (expect last (is_sign signs.Equal) x.1 >>= λ us. turned (λ e. record { column = x.0.name; value = e }) (tree_at last us))
      of_sign x = of_behind x.0.name (expect last (is_sign signs.Equal) x.1)

  abbrev updated : List ℕ → List SetTree × Tokens → Result (StmtTree × Tokens) SqlFault
  updated table x = filter_at last x.1 >>= λ f. returning_at last f.1 >>= λ r. Ok (Updates (record { table = table; sets = x.0; filter = f.0; returning = r.0 }), r.1)

  pub update_same : (ts : Tokens) → update_at last ts ≡ changes.update_at last ts
  unfolding returning_at changes.returning_at update_at changes.update_at
  update_same ts = bind_on (name_at last ts) _ _ (λ x. bind_on (keyword last words.Set x.1) _ _ (λ us. ap (λ (r : Result (List SetTree × Tokens) SqlFault). r >>= updated x.0) (sym (items_alike (λ ss vs. turned (λ s. ss ++ s ∷ []) (one_set last ss vs)) (changes.set_add last) set_same [] us))))

  -- ---- DELETE

  pub delete_same : (ts : Tokens) → delete_at last ts ≡ changes.delete_at last ts
  unfolding returning_at changes.returning_at delete_at changes.delete_at
  delete_same ts = refl

  -- ---- INSERT

  key_same : (ns : List Placed) (ts : Tokens) → tables.key_add last ns ts ≡ turned (λ n. ns ++ n ∷ []) (new_name last (placed_names ns) ts)
  key_same ns ts = name_then (placed_names ns) (λ n us. Ok (ns ++ n ∷ [], us)) ts

  -- the columns of a key
  pub keys_same : (ts : Tokens) → items_at (tables.key_add last) [] ts ≡ list_of (λ ns. new_name last (placed_names ns)) ts
  keys_same ts = items_alike (λ ns us. turned (λ n. ns ++ n ∷ []) (new_name last (placed_names ns) us)) (tables.key_add last) key_same [] ts

  one_column : (ns : List Placed) (ts : Tokens) → changes.distinct_add last (placed_names ns) ts ≡ turned placed_names (turned (λ n. ns ++ n ∷ []) (new_name last (placed_names ns) ts))
  one_column ns ts = name_then (placed_names ns) (λ n us. Ok (placed_names ns ++ n.name ∷ [], us)) ts ∙ of_new (new_name last (placed_names ns) ts)
    where
      of_new : (r : Result (Placed × Tokens) SqlFault) → (r >>= λ x. Ok (placed_names ns ++ x.0.name ∷ [], x.1)) ≡ turned placed_names (turned (λ n. ns ++ n ∷ []) r)
      of_new (Ok x) = ap (λ (ms : List (List ℕ)). Ok (ms, x.1)) (sym (map-append (λ (n : Placed). n.name) ns (x.0 ∷ [])))
      of_new (Err e) = refl

  columns_same : (ts : Tokens) → items_at (changes.distinct_add last) [] ts ≡ turned placed_names (list_of (λ ns. new_name last (placed_names ns)) ts)
  columns_same ts = items_same placed_names (λ ns us. turned (λ n. ns ++ n ∷ []) (new_name last (placed_names ns) us)) (changes.distinct_add last) one_column [] ts

  listed_same : (ts : Tokens) → maybe (is_sign signs.Open) (λ us. turned placed_names (names_at last us)) ts ≡ changes.columns_at last ts
  unfolding names_at changes.columns_at
  listed_same ts = option_on (after (is_sign signs.Open) ts) _ _ _ _ (λ us. of_names us (list_of (λ ns. new_name last (placed_names ns)) us) refl) refl
    where
      of_close : (ns : List Placed) (r : Result Tokens SqlFault) → turned (λ x. Some x) (turned placed_names (r >>= λ rest. Ok (ns, rest))) ≡ (r >>= λ rest. Ok (Some (placed_names ns), rest))
      of_close ns (Ok rest) = refl
      of_close ns (Err e) = refl

      of_names : (us : Tokens) (r : Result (List Placed × Tokens) SqlFault) → list_of (λ ns. new_name last (placed_names ns)) us ≡ r → turned (λ x. Some x) (turned placed_names (r >>= λ x. expect last (is_sign signs.Close) x.1 >>= λ rest. Ok (x.0, rest))) ≡ (items_at (changes.distinct_add last) [] us >>= λ x. expect last (is_sign signs.Close) x.1 >>= λ rest. Ok (Some x.0, rest))
      of_names us (Ok x) h = of_close x.0 (expect last (is_sign signs.Close) x.1) ∙ rw (columns_same us, h) refl
      of_names us (Err e) h = rw (columns_same us, h) refl

  -- how many values each row has, with these before it
  abbrev width_of : Option (List (List ℕ)) → List (List Tree) → Option ℕ
  width_of columns rows = option_or (option_map length columns) (option_map length (slice_get rows 0))

  abbrev rows_read : Option (List (List ℕ)) → List (List Tree) → Rows
  rows_read columns rows = record { rows = rows; width = width_of columns rows }

  width_after : (columns : Option (List (List ℕ))) (rows : List (List Tree)) (v : List Tree) → fits (width_of columns rows) (length v) ≡ true → Some (length v) ≡ width_of columns (rows ++ v ∷ [])
  width_after (Some cs) rows v h = ap (λ (n : ℕ). Some n) (sym ((Decides-eqb (length cs) (length v)).0 h))
  width_after None [] v h = refl
  width_after None (r ∷ rs) v h = ap (λ (n : ℕ). Some n) (sym ((Decides-eqb (length r) (length v)).0 h))

  module _ (columns : Option (List (List ℕ))) where
    abbrev one_more : List (List Tree) → Reader (List (List Tree))
    one_more rows us = turned (λ v. rows ++ v ∷ []) (row_at last (width_of columns rows) us)

    abbrev tested : Tokens → Bool → List Tree × Tokens → Result (List Tree × Tokens) SqlFault
    tested ts b x = let read : Reader (List Tree) = if b then (λ us. Ok (x.0, us)) else (λ us. Err (Syntax (place_of last ts))) in read x.1

    row_same : (rows : List (List Tree)) (ts : Tokens) → changes.row_add last (rows_read columns rows) ts ≡ turned (rows_read columns) (one_more rows ts)
    unfolding row_at changes.row_add
    row_same rows ts = of_open (expect last (is_sign signs.Open) ts)
      where
        of_fit : (v : List Tree) (us : Tokens) (b : Bool) → fits (width_of columns rows) (length v) ≡ b → (if b then Ok (record { rows = rows ++ v ∷ []; width = Some (length v) }, us) else Err (Syntax (place_of last ts))) ≡ turned (rows_read columns) (turned (λ w. rows ++ w ∷ []) (tested ts b (v, us)))
        of_fit v us true h = ap (λ (w : Option ℕ). Ok (record { rows = rows ++ v ∷ []; width = w }, us)) (width_after columns rows v h)
        of_fit v us false h = refl

        of_close : (v : List Tree) (r : Result Tokens SqlFault) → (r >>= λ us. if fits (width_of columns rows) (length v) then Ok (record { rows = rows ++ v ∷ []; width = Some (length v) }, us) else Err (Syntax (place_of last ts))) ≡ turned (rows_read columns) (turned (λ w. rows ++ w ∷ []) ((r >>= λ us. Ok (v, us)) >>= λ x. tested ts (fits (width_of columns rows) (length x.0)) x))
        of_close v (Ok us) = of_fit v us (fits (width_of columns rows) (length v)) refl
        of_close v (Err e) = refl

        of_values : (r : Result (List Tree × Tokens) SqlFault) → (r >>= λ v. expect last (is_sign signs.Close) v.1 >>= λ us. if fits (width_of columns rows) (length v.0) then Ok (record { rows = rows ++ v.0 ∷ []; width = Some (length v.0) }, us) else Err (Syntax (place_of last ts))) ≡ turned (rows_read columns) (turned (λ w. rows ++ w ∷ []) ((r >>= λ v. expect last (is_sign signs.Close) v.1 >>= λ us. Ok (v.0, us)) >>= λ x. tested ts (fits (width_of columns rows) (length x.0)) x))
        of_values (Ok v) = of_close v.0 (expect last (is_sign signs.Close) v.1)
        of_values (Err e) = refl

        of_open : (r : Result Tokens SqlFault) → (r >>= λ vs. items_at (added (tree_at last)) [] vs >>= λ v. expect last (is_sign signs.Close) v.1 >>= λ us. if fits (width_of columns rows) (length v.0) then Ok (record { rows = rows ++ v.0 ∷ []; width = Some (length v.0) }, us) else Err (Syntax (place_of last ts))) ≡ turned (rows_read columns) (turned (λ w. rows ++ w ∷ []) (r >>= λ vs. (items_at (added (tree_at last)) [] vs >>= λ v. expect last (is_sign signs.Close) v.1 >>= λ us. Ok (v.0, us)) >>= λ x. tested ts (fits (width_of columns rows) (length x.0)) x))
        of_open (Ok vs) = of_values (items_at (added (tree_at last)) [] vs)
        of_open (Err e) = refl

    start_same : option_map length columns ≡ option_or (option_map length columns) None
    start_same = of_columns columns
      where
        of_columns : (o : Option (List (List ℕ))) → option_map length o ≡ option_or (option_map length o) None
        of_columns None = refl
        of_columns (Some cs) = refl

    rows_same : (ts : Tokens) → items_at (changes.row_add last) (record { rows = []; width = option_map length columns }) ts ≡ turned (rows_read columns) (items_at one_more [] ts)
    rows_same ts = ap (λ (w : Option ℕ). items_at (changes.row_add last) (record { rows = []; width = w }) ts) start_same ∙ items_same (rows_read columns) one_more (changes.row_add last) row_same [] ts

    abbrev inserted : List ℕ → List (List Tree) × Tokens → Result (StmtTree × Tokens) SqlFault
    inserted table x = conflict_at last x.1 >>= λ d. returning_at last d.1 >>= λ r. Ok (Inserts (record { table = table; columns = columns; rows = x.0; do_nothing = d.0; returning = r.0 }), r.1)

    inserts : (table : List ℕ) (ts : Tokens) → (items_at one_more [] ts >>= inserted table) ≡ (items_at (changes.row_add last) (record { rows = []; width = option_map length columns }) ts >>= λ x. inserted table (x.0.rows, x.1))
    inserts table ts = of_rows (items_at one_more [] ts) ∙ ap (λ (r : Result (Rows × Tokens) SqlFault). r >>= λ x. inserted table (x.0.rows, x.1)) (sym (rows_same ts))
      where
        of_rows : (r : Result (List (List Tree) × Tokens) SqlFault) → (r >>= inserted table) ≡ (turned (rows_read columns) r >>= λ x. inserted table (x.0.rows, x.1))
        of_rows (Ok x) = refl
        of_rows (Err e) = refl

  abbrev behind_columns : List ℕ → Option (List (List ℕ)) × Tokens → Result (StmtTree × Tokens) SqlFault
  behind_columns table c = keyword last words.Values c.1 >>= λ us. items_at (one_more c.0) [] us >>= inserted c.0 table

  pub insert_same : (ts : Tokens) → insert_at last ts ≡ changes.insert_at last ts
  unfolding returning_at changes.returning_at insert_at changes.insert_at
  insert_same ts = bind_on (keyword last words.Into ts) _ _ (λ us. bind_on (name_at last us) _ _ (λ n.
      ap (λ (r : Result (Option (List (List ℕ)) × Tokens) SqlFault). r >>= behind_columns n.0) (listed_same n.1)
      ∙ bind_on (changes.columns_at last n.1) (behind_columns n.0) _ (λ c. bind_on (keyword last words.Values c.1) _ _ (λ vs. inserts c.0 n.0 vs))))
