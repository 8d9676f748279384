-- What is read of CREATE TABLE and SELECT is what the code reads, with what is told of the whole once all tokens have been read.
use Rattle.std.proofs.Common.{◌≡◌, ℕ, zero, suc, Bool, true, false, List, [], ◌∷◌, length, Option, Some, None, refl, sym, ap, subst, ◌∙◌}
use Rattle.std.specs.Prelude.{Result, Ok, Err, option_map}
use Rattle.std.specs.Option.{option_map_or}
use Rattle.iso_lexer.specs.declared.sql_token.SqlSign.TheVariants as signs
use Rattle.sql_trees.specs.declared.fault.SqlFault.{SqlFault}
use Rattle.sql_trees.specs.declared.fault.SqlFault.TheVariants.{BadColumns}
use Rattle.sql_trees.specs.declared.word.Word.TheVariants as words
use Rattle.sql_trees.specs.declared.kind.Kind.{Kind}
use Rattle.sql_trees.specs.declared.kind.Kind.TheVariants as kinds
use Rattle.sql_trees.specs.Statements.{StmtTree, ColumnTree}
use Rattle.sql_trees.specs.Tokens.{Token, Tokens}
use Rattle.sql_trees.specs.Tokens as tok
use Rattle.sql_expressions.specs.Results.{◌>>=◌}
use Rattle.sql_expressions.specs.Readers.{after, expect, is_sign, is_word, keyword, name_at, items_at}
use Rattle.sql_blocks.specs.Parts.{column_names}
use Rattle.sql_parser.specs.Grammar.{Constraints, empty_table, with_column, key_limit, Commas, AddsPart, Shallow}
use Rattle.sql_parser.specs.Readers.{known_of, list_of, whole}
use Rattle.sql_parser.specs.Tables.{Placed, TableRead, placed_names, with_key, new_name, names_at, constraints_at, column_read, table_add, keys_fault, created, create_at}
use Rattle.sql_parser.specs.Inner.Tables as tables
use Rattle.sql_parser.specs.Inner.Blocks.{at_end}
use Rattle.sql_parser.proofs.Created.{are_full, fault_is, parts_full}
use Rattle.sql_parser.proofs.Steps.{ok_same}
use Rattle.sql_parser.proofs.Locals.{Local, took, stopped}
use Rattle.sql_parser.proofs.TableLocals.{parts_local}
use Rattle.sql_parser.proofs.Readings.{turned, bind_on, bind_twice, option_on, items_alike}
use Rattle.sql_parser.proofs.StmtReadings.{name_then, keys_same}

-- ---- one after another

bind_of : {A B : Type 0} (r : Result A SqlFault) (f g : A → Result B SqlFault) → ((x : A) → r ≡ Ok x → f x ≡ g x) → (r >>= f) ≡ (r >>= g)
bind_of (Ok x) f g h = h x refl
bind_of (Err e) f g h = refl

pub chain : {A C D : Type 0} (r q : Result A SqlFault) (k : A → Result C SqlFault) (l : A → Result D SqlFault) (e : D → Result C SqlFault) → r ≡ q → ((x : A) → k x ≡ (l x >>= e)) → (r >>= k) ≡ ((q >>= l) >>= e)
chain r q k l e same h = ap (λ (p : Result _ SqlFault). p >>= k) same ∙ (bind_on q k (λ x. l x >>= e) h ∙ sym (bind_twice q l e))

pub chain_of : {A C D : Type 0} (r q : Result A SqlFault) (k : A → Result C SqlFault) (l : A → Result D SqlFault) (e : D → Result C SqlFault) → r ≡ q → ((x : A) → q ≡ Ok x → k x ≡ (l x >>= e)) → (r >>= k) ≡ ((q >>= l) >>= e)
chain_of r q k l e same h = ap (λ (p : Result _ SqlFault). p >>= k) same ∙ (bind_of q k (λ x. l x >>= e) h ∙ sym (bind_twice q l e))

pub turned_option : {X A B : Type 0} (f : A → B) (o : Option X) (g : X → Result (A × Tokens) SqlFault) (d : Result (A × Tokens) SqlFault) → turned f (option_map_or g o d) ≡ option_map_or (λ x. turned f (g x)) o (turned f d)
turned_option f None g d = refl
turned_option f (Some x) g d = refl

module _ (last : ℕ) where
  -- what is answered once all tokens have been read
  abbrev pub ended : Result StmtTree SqlFault × Tokens → Result (StmtTree × Tokens) SqlFault
  ended x = at_end last x.0 x.1 >>= λ s. Ok (s, [])

  -- ---- columns

  module _ (name : Placed) (kind : Kind) (t : TableRead) where
    abbrev column_of : Bool → ColumnTree
    column_of b = record { name = name.name; kind = kind; not_null = b }

    abbrev with_said : Constraints → TableRead
    with_said s = with_column name kind s t

    said_same : (n : ℕ) (s : Constraints) (ts : Tokens) → constraints_at last name n (column_of s.not_null) (record t { keys = s.keys }) ts ≡ turned with_said (tables.constraints_at last name n s ts)
    unfolding constraints_at tables.constraints_at
    said_same zero s ts = refl
    said_same (suc n) s ts = of_not (λ u us. said_same n u us) (after (is_word words.Not) ts) (after (is_word words.Primary) ts) (after (is_word words.Unique) ts)
      where
        Goes : Type 0
        Goes = (u : Constraints) (us : Tokens) → constraints_at last name n (column_of u.not_null) (record t { keys = u.keys }) us ≡ turned with_said (tables.constraints_at last name n u us)

        of_word : Goes → (r : Result Tokens SqlFault) (u : Constraints) → (r >>= constraints_at last name n (column_of u.not_null) (record t { keys = u.keys })) ≡ turned with_said (r >>= tables.constraints_at last name n u)
        of_word go (Ok us) u = go u us
        of_word go (Err e) u = refl

        of_not : Goes → (o p q : Option Tokens) →
            option_map_or (λ us. keyword last words.Null us >>= constraints_at last name n (column_of true) (record t { keys = s.keys })) o
            (option_map_or (λ us. keyword last words.Key us >>= constraints_at last name n (column_of s.not_null) (with_key true (name ∷ []) (record t { keys = s.keys }))) p
            (option_map_or (constraints_at last name n (column_of s.not_null) (with_key false (name ∷ []) (record t { keys = s.keys }))) q
            (Ok (with_said s, ts))))
            ≡ turned with_said
            (option_map_or (λ us. keyword last words.Null us >>= tables.constraints_at last name n (record s { not_null = true })) o
            (option_map_or (λ us. keyword last words.Key us >>= tables.constraints_at last name n (key_limit true name s)) p
            (option_map_or (tables.constraints_at last name n (key_limit false name s)) q
            (Ok (s, ts)))))
        of_not go (Some us) p q = of_word go (keyword last words.Null us) (record s { not_null = true })
        of_not go None (Some us) q = of_word go (keyword last words.Key us) (key_limit true name s)
        of_not go None None (Some us) = go (key_limit false name s) us
        of_not go None None None = refl

  abbrev kind_known : Tokens → Result (Kind × Tokens) SqlFault
  kind_known ts = known_of last ((words.Integer, kinds.Int) ∷ (words.Bigint, kinds.Big) ∷ (words.Text, kinds.Text) ∷ (words.Boolean, kinds.Bool) ∷ []) ts

  kind_same : (ts : Tokens) → kind_known ts ≡ tables.kind_at last ts
  kind_same [] = refl
  kind_same (t ∷ ts) = of_token t.tok refl
    where
      of_token : (x : Token) → t.tok ≡ x → kind_known (t ∷ ts) ≡ tables.kind_at last (t ∷ ts)
      of_token (tok.word w s) h = rw h refl
      of_token (tok.quoted s) h = rw h refl
      of_token (tok.string s) h = rw h refl
      of_token (tok.number n) h = rw h refl
      of_token (tok.sign s) h = rw h refl

  abbrev said_behind : TableRead → Placed → Kind × Tokens → Result (TableRead × Tokens) SqlFault
  said_behind t name k = constraints_at last name (length k.1) (record { name = name.name; kind = k.0; not_null = false }) t k.1

  limits_same : (t : TableRead) (name : Placed) (ts : Tokens) → (kind_known ts >>= said_behind t name) ≡ tables.column_behind last name t ts
  unfolding tables.column_behind tables.limits_at
  limits_same t name ts = ap (λ (r : Result (Kind × Tokens) SqlFault). r >>= said_behind t name) (kind_same ts) ∙ of_kind (tables.kind_at last ts)
    where
      of_said : (kind : Kind) (r : Result (Constraints × Tokens) SqlFault) → turned (λ s. with_column name kind s t) r ≡ turned (λ (x : Kind × Constraints). with_column name x.0 x.1 t) (r >>= λ s. Ok ((kind, s.0), s.1))
      of_said kind (Ok x) = refl
      of_said kind (Err e) = refl

      of_kind : (r : Result (Kind × Tokens) SqlFault) → (r >>= said_behind t name) ≡ turned (λ (x : Kind × Constraints). with_column name x.0 x.1 t) (r >>= λ k. tables.constraints_at last name (length k.1) (record { not_null = false; keys = t.keys }) k.1 >>= λ s. Ok ((k.0, s.0), s.1))
      of_kind (Ok k) = said_same name k.0 t (length k.1) (record { not_null = false; keys = t.keys }) k.1 ∙ of_said k.0 (tables.constraints_at last name (length k.1) (record { not_null = false; keys = t.keys }) k.1)
      of_kind (Err e) = refl

  column_same : (t : TableRead) (ts : Tokens) → column_read last t ts ≡ tables.column_read last t ts
  unfolding column_read tables.column_read
  column_same t ts =
      bind_on (new_name last (column_names t.columns) ts) _ _ (λ x. limits_same t x.0 x.1)
      ∙ sym (name_then last (column_names t.columns) (λ c. tables.column_behind last c t) ts)

  -- ---- keys

  key_same : (primary : Bool) (t : TableRead) (ts : Tokens) → (expect last (is_sign signs.Open) ts >>= λ us. turned (λ ns. with_key primary ns t) (names_at last us)) ≡ tables.key_at last primary t ts
  unfolding names_at tables.key_at
  key_same primary t ts = bind_on (expect last (is_sign signs.Open) ts) _ _ (λ us. of_names us (list_of (λ ns. new_name last (placed_names ns)) us) refl)
    where
      of_close : (ns : List Placed) (r : Result Tokens SqlFault) → turned (λ ms. with_key primary ms t) (r >>= λ rest. Ok (ns, rest)) ≡ (r >>= λ rest. Ok (with_key primary ns t, rest))
      of_close ns (Ok rest) = refl
      of_close ns (Err e) = refl

      of_names : (us : Tokens) (r : Result (List Placed × Tokens) SqlFault) → list_of (λ ns. new_name last (placed_names ns)) us ≡ r → turned (λ ms. with_key primary ms t) (r >>= λ x. expect last (is_sign signs.Close) x.1 >>= λ rest. Ok (x.0, rest)) ≡ (items_at (tables.key_add last) [] us >>= λ x. expect last (is_sign signs.Close) x.1 >>= λ rest. Ok (with_key primary x.0 t, rest))
      of_names us (Ok x) h = of_close x.0 (expect last (is_sign signs.Close) x.1) ∙ rw (keys_same last us, h) refl
      of_names us (Err e) h = rw (keys_same last us, h) refl

  add_same : (t : TableRead) (ts : Tokens) → tables.table_add last t ts ≡ table_add last t ts
  unfolding table_add tables.table_add
  add_same t ts = sym (option_on (after (is_word words.Primary) ts) _ _ _ _ (λ us. bind_on (keyword last words.Key us) _ _ (λ vs. key_same true t vs)) (option_on (after (is_word words.Unique) ts) _ _ _ _ (λ us. key_same false t us) (column_same t ts)))

  -- ---- CREATE

  abbrev pub stated : StmtTree → Tokens → Result (StmtTree × Tokens) SqlFault
  stated s us = Ok (s, us)

  abbrev finishes : List ℕ → TableRead × Tokens → Result (StmtTree × Tokens) SqlFault
  finishes name x = whole last (option_map BadColumns (keys_fault name (column_names x.0.columns) [] x.0.keys)) x.1 >>= stated (created name x.0)

  finished_same : (name : List ℕ) (t : TableRead) (ts : Tokens) → are_full t.keys ≡ true → finishes name (t, ts) ≡ ended (tables.finished name t, ts)
  unfolding tables.finished
  finished_same name t (u ∷ us) full = refl
  finished_same name t [] full = rw (fault_is name (column_names t.columns) [] t.keys full) (of_fault (tables.keys_fault name (column_names t.columns) [] t.keys))
    where
      of_fault : (o : Option ℕ) → (option_map_or (λ f. Err f) (option_map BadColumns o) (Ok []) >>= stated (created name t)) ≡ (option_map_or (λ place. Err (BadColumns place)) o (Ok (created name t)) >>= λ s. stated s [])
      of_fault None = refl
      of_fault (Some place) = refl

  -- a key that is read has a column
  read_full : (ts : Tokens) (x : TableRead × Tokens) → items_at (tables.table_add last) empty_table ts ≡ Ok x → are_full x.0.keys ≡ true
  read_full ts x e = of_local (parts_local last Shallow (Unit {0}) ⊥ tt ts)
    where
      no_both : (y : TableRead × Tokens) (f : SqlFault) → ◌≡◌ {A = Result (TableRead × Tokens) SqlFault} (Ok y) (Err f) → ⊥
      no_both y f h = cc

      of_local : Local last Shallow (Unit {0}) ⊥ (Commas AddsPart empty_table) (items_at (tables.table_add last) empty_table) ts → are_full x.0.keys ≡ true
      of_local (took v front rest split local q) = subst (λ (y : TableRead × Tokens). are_full y.0.keys ≡ true) (ok_same (v, rest) x (sym (ap (items_at (tables.table_add last) empty_table) split ∙ local rest refl) ∙ e)) (parts_full q refl)
      of_local (stopped f front rest split local b) = absurd (no_both x f (sym e ∙ (ap (items_at (tables.table_add last) empty_table) split ∙ local rest refl)))

  pub create_same : (ts : Tokens) → create_at last ts ≡ (tables.create_at last ts >>= ended)
  unfolding create_at tables.create_at
  create_same ts =
      chain (keyword last words.Table ts) (keyword last words.Table ts) _ _ ended refl (λ us.
      chain (name_at last us) (name_at last us) _ _ ended refl (λ n.
      chain (expect last (is_sign signs.Open) n.1) (expect last (is_sign signs.Open) n.1) _ _ ended refl (λ vs.
      bind_twice (items_at (table_add last) empty_table vs) _ (finishes n.0)
      ∙ chain_of (items_at (table_add last) empty_table vs) (items_at (tables.table_add last) empty_table vs) _ _ ended (sym (items_alike (table_add last) (tables.table_add last) add_same empty_table vs)) (λ t e.
      bind_twice (expect last (is_sign signs.Close) t.1) _ (finishes n.0)
      ∙ chain (expect last (is_sign signs.Close) t.1) (expect last (is_sign signs.Close) t.1) _ _ ended refl (λ rest. finished_same n.0 t.0 rest (read_full vs t e))))))
