-- Reading SQL never answers want of memory: statements and blocks.
use Rattle.std.proofs.Common.{◌≢◌, Bool, true, false, ◌&&◌, ◌||◌, ◌==◌, ℕ, zero, suc, List, [], ◌∷◌, ◌++◌, length, map}
use Rattle.std.specs.Prelude.{slice_get, Option, Some, None, Result, Ok, Err, option_map, IfSome, if◌then◌else◌}
use Rattle.std.specs.Option.{option_map_or, option_or}
use Rattle.std.specs.List.{AllByRecursion}
use Rattle.iso_lexer.specs.declared.limits.TheConstants.{MAX_STMTS}
use Rattle.sql_trees.specs.declared.fault.SqlFault.{SqlFault}
use Rattle.sql_trees.specs.declared.fault.SqlFault.TheVariants.{Memory, Syntax, LeftOut, BadColumns, TooMany, DdlInSession}
use Rattle.iso_lexer.specs.Bytes.{row_of}
use Rattle.iso_lexer.specs.declared.sql_token.SqlSign.TheVariants as signs
use Rattle.sql_trees.specs.declared.kind.Kind.TheVariants as kinds
use Rattle.sql_trees.specs.declared.stmt.Level.TheVariants.{ReadCommitted, RepeatableRead}
use Rattle.sql_trees.specs.declared.stmt.Strength.TheVariants as strengths
use Rattle.sql_trees.specs.declared.stmt.Policy.TheVariants as policies
use Rattle.sql_trees.specs.declared.word.Word.{Word}
use Rattle.sql_trees.specs.declared.word.Word.TheVariants as words
use Rattle.sql_trees.specs.declared.expr.AggKind.{AggKind}
use Rattle.sql_trees.specs.declared.expr.AggKind.TheVariants as aggs
use Rattle.sql_trees.specs.Tokens.{Token, Tokens, named}
use Rattle.sql_trees.specs.Tokens as tok
use Rattle.sql_trees.specs.Trees.{CountRows, Of}
use Rattle.sql_trees.specs.Statements.{StmtTree, ColumnTree, SetTree, SelectTree, All, Value, Aggregate, Begin, Commit, Rollback, SetTransaction, SetDeadlockTimeout, DropTables, Selects}
use Rattle.sql_blocks.specs.declared.block.Role.{Role}
use Rattle.sql_blocks.specs.Parts.{is_session, column_names, is_allowed}
use Rattle.sql_expressions.specs.Readers.{Reader, ◌>>=◌, is_word, is_sign, place_of, gives, after, either, made, misplaced}
use Rattle.sql_expressions.specs.Reading.{agg_kind}
use Rattle.sql_parser.specs.Readers.{maybe, past, list_of, one_of, known_of, tree_at, whole}
use Rattle.sql_parser.specs.Tables.{Placed, TableRead, placed_names, with_key, keys_fault, created, has_name, new_name, names_at, key_or, constraints_at, column_read, table_add, create_at, dropped_at, drop_at}
use Rattle.sql_parser.specs.Changes.{alias_at, row_at, keyword_not, conflict_at, returned_at, returning_at, insert_at, filter_at, one_set, update_at, delete_at}
use Rattle.sql_parser.specs.Queries.{call_at, item_at, sort_key_at, strength_at, policy_at, lock_behind, select_at}
use Rattle.sql_parser.specs.Transactions.{is_work, level_at, begin_at, set_at}
use Rattle.sql_parser.specs.Blocks.{statements, whole_at, pieces, stmts_at, block_at}
use Rattle.history_laws.proofs.Fine.{Fine, IsFine, fine_if, fine_option, fine_then, fine_pass, fine_gives, fine_made, fine_either, fine_first, fine_fault, fine_one, fine_one_then, fine_items, fine_misplaced, fine_expect, fine_keyword, fine_closed, fine_name, fine_expr, row_says}

-- ---- words of reading

fine_maybe : {A : Type 0} {r : Reader A} (p : Token → Bool) → IsFine r → IsFine (maybe p r)
fine_maybe p h = fine_either p (fine_made _ h) (fine_gives None)

fine_past : {A : Type 0} {r : Reader A} (p : Token → Bool) → IsFine r → IsFine (past p r)
fine_past p h = fine_either p h h

fine_list : {A : Type 0} {item : List A → Reader A} → ((xs : List A) → IsFine (item xs)) → IsFine (list_of item)
fine_list h = fine_items (λ xs. fine_made _ (h xs)) []

syntax_is : (at : ℕ) → Syntax at ≢ Memory
syntax_is at h = cc

left_out_is : (at : ℕ) → LeftOut at ≢ Memory
left_out_is at h = cc

columns_is : (at : ℕ) → BadColumns at ≢ Memory
columns_is at h = cc

many_is : (at : ℕ) → TooMany at ≢ Memory
many_is at h = cc

ddl_is : (at : ℕ) → DdlInSession at ≢ Memory
ddl_is at h = cc

fine_test : {A : Type 0} (b : Bool) (x y : Result A SqlFault) → Fine x → Fine y → Fine (if b then x else y)
fine_test true x y h k = h
fine_test false x y h k = k

fault_option : (o : Option Tokens) (x y : SqlFault) → x ≢ Memory → y ≢ Memory → option_map_or (λ us. x) o y ≢ Memory
fault_option None x y h k = k
fault_option (Some us) x y h k = h

whole_case : (f : Option SqlFault) → IfSome f (λ g. g ≢ Memory) → Fine {A = Tokens} (option_map_or (λ g. Err g) f (Ok []))
whole_case None h = tt
whole_case (Some g) h = h

module _ (last : ℕ) where
  fine_one_of : {A : Type 0} (rows : List (Word × A)) → IsFine (one_of last rows)
  fine_one_of rows = fine_one (misplaced last) _ (fine_misplaced last)

  fine_known : {A : Type 0} (rows : List (Word × A)) → IsFine (known_of last rows)
  fine_known rows =
      fine_one (λ ts. either (λ t. elim t [ tok.word w s ↦ true | _ ↦ false ]) (λ us. LeftOut (place_of last ts)) (misplaced last) ts) (row_of is_word rows)
      (λ ts. fault_option (after (λ t. elim t [ tok.word w s ↦ true | _ ↦ false ]) ts) (LeftOut (place_of last ts)) (misplaced last ts) (left_out_is (place_of last ts)) (fine_misplaced last ts))

  fine_tree : IsFine (tree_at last)
  fine_tree = fine_made _ (fine_expr last)

  fine_whole : (f : Option SqlFault) → IfSome f (λ g. g ≢ Memory) → IsFine (whole last f)
  fine_whole f h = record { at = by } where
    by : (ts : Tokens) → Fine (whole last f ts)
    by [] = whole_case f h
    by (t ∷ ts) = fine_misplaced last (t ∷ ts)

  -- ---- tables

  fine_new_name : (names : List (List ℕ)) → IsFine (new_name last names)
  fine_new_name names = record { at = λ ts. fine_if _ _ ((fine_name last).at ts) (λ x. fine_test (has_name x.0 names) _ _ (columns_is _) tt) }

  fine_names : IsFine (names_at last)
  unfolding names_at
  fine_names = fine_closed last _ (fine_list (λ ns. fine_new_name _))

  fine_key_or : {A : Type 0} {key : Bool → Reader A} {others : Reader A} → ((b : Bool) → IsFine (key b)) → IsFine others → IsFine (key_or last key others)
  fine_key_or h k = fine_either (is_word words.Primary) (fine_pass (fine_keyword last words.Key) (h true)) (fine_either (is_word words.Unique) (h false) k)

  fine_constraints : (name : Placed) (n : ℕ) (c : ColumnTree) (t : TableRead) → IsFine (constraints_at last name n c t)
  unfolding constraints_at
  fine_constraints name zero c t = fine_gives (record t { columns = t.columns ++ c ∷ [] })
  fine_constraints name (suc n) c t =
      fine_either (is_word words.Not) (fine_pass (fine_keyword last words.Null) (fine_constraints name n (record c { not_null = true }) t))
      (fine_key_or (λ primary. fine_constraints name n c (with_key primary (name ∷ []) t)) (fine_gives (record t { columns = t.columns ++ c ∷ [] })))

  fine_column_read : (t : TableRead) → IsFine (column_read last t)
  unfolding column_read
  fine_column_read t = fine_then (fine_new_name (column_names t.columns)) (λ name. fine_then (fine_known ((words.Integer, kinds.Int) ∷ (words.Bigint, kinds.Big) ∷ (words.Text, kinds.Text) ∷ (words.Boolean, kinds.Bool) ∷ []))
      (λ kind. record { at = λ ts. (fine_constraints name (length ts) (record { name = name.name; kind = kind; not_null = false }) t).at ts }))

  fine_add : (t : TableRead) → IsFine (table_add last t)
  unfolding table_add
  fine_add t = fine_key_or (λ primary. fine_pass (fine_expect last (is_sign signs.Open)) (fine_made (λ ns. with_key primary ns t) fine_names)) (fine_column_read t)

  keys_case : (o : Option ℕ) → IfSome (option_map BadColumns o) (λ g. g ≢ Memory)
  keys_case None = tt
  keys_case (Some n) = columns_is n

  fine_create : IsFine (create_at last)
  unfolding create_at
  fine_create =
      fine_pass (fine_keyword last words.Table) (fine_then (fine_name last) (λ name. fine_pass (fine_expect last (is_sign signs.Open))
      (fine_then (fine_closed last (λ t. t) (fine_items fine_add (record { columns = []; keys = [] })))
      (λ table. fine_pass (fine_whole (option_map BadColumns (keys_fault name (column_names table.columns) [] table.keys)) (keys_case (keys_fault name (column_names table.columns) [] table.keys)))
      (fine_gives (created name table))))))

  fine_dropped : (if_exists : Bool) → IsFine (dropped_at last if_exists)
  fine_dropped if_exists = fine_made (λ ns. DropTables (record { if_exists = if_exists; names = ns })) (fine_list (λ ns. fine_name last))

  fine_drop : IsFine (drop_at last)
  unfolding drop_at
  fine_drop =
      fine_pass {r = λ ts. option_map_or (dropped_at last true) (either (is_word words.If) (after (is_word words.Exists)) (λ us. None) ts) (dropped_at last false ts)} (fine_keyword last words.Table) (record {
        at = λ ts.
            fine_option (either (is_word words.If) (after (is_word words.Exists)) (λ us. None) ts) (dropped_at last true) (dropped_at last false ts) (λ us. (fine_dropped true).at us) ((fine_dropped false).at ts);
      })

  -- ---- changes

  fine_alias : IsFine (alias_at last)
  unfolding alias_at
  fine_alias = fine_either (is_word words.As) (fine_made (λ n. Some n) (fine_name last)) (fine_first named (λ n. fine_gives (Some n)) (fine_gives None))

  row_case : {A : Type 0} (b : Bool) (x y : Reader A) → IsFine x → IsFine y → IsFine (if b then x else y)
  row_case true x y h k = h
  row_case false x y h k = k

  fine_row : (width : Option ℕ) → IsFine (row_at last width)
  unfolding row_at
  fine_row width = record {
    at = λ ts.
        (fine_pass (fine_expect last (is_sign signs.Open)) (fine_then (fine_closed last (λ vs. vs) (fine_list (λ vs. fine_tree)))
        (λ values. row_case (option_map_or (λ n. n == length values) width true) (gives values) (λ rest. Err (Syntax (place_of last ts))) (fine_gives values)
        (fine_fault (λ rest. Syntax (place_of last ts)) (λ rest. syntax_is (place_of last ts)))))).at ts;
  }

  fine_keyword_not : (other : Token → Bool) (w : Word) → IsFine (keyword_not last other w)
  fine_keyword_not other w = record { at = λ ts. (fine_either other (fine_fault (λ rest. LeftOut (place_of last ts)) (λ rest. left_out_is (place_of last ts))) (fine_keyword last w)).at ts }

  fine_conflict : IsFine (conflict_at last)
  unfolding conflict_at
  fine_conflict =
      fine_either (is_word words.On) (fine_pass (fine_keyword last words.Conflict) (fine_pass (fine_keyword_not (is_sign signs.Open) words.Do)
      (fine_pass (fine_keyword_not (is_word words.Update) words.Nothing) (fine_gives true)))) (fine_gives false)

  fine_returned : IsFine (returned_at last)
  unfolding returned_at
  fine_returned = fine_either (is_sign signs.Star) (fine_gives All) (fine_then fine_tree (λ e. fine_made (Value e) fine_alias))

  fine_returning : IsFine (returning_at last)
  unfolding returning_at
  fine_returning = fine_maybe (is_word words.Returning) (fine_list (λ items. fine_returned))

  fine_insert : IsFine (insert_at last)
  unfolding insert_at
  fine_insert =
      fine_pass (fine_keyword last words.Into) (fine_then (fine_name last) (λ table. fine_then (fine_maybe (is_sign signs.Open) (fine_made placed_names fine_names))
      (λ columns. fine_pass (fine_keyword last words.Values)
      (fine_then (fine_list (λ rows. fine_row (option_or (option_map length columns) (option_map length (slice_get rows 0))))) (λ rows. fine_then fine_conflict
      (λ do_nothing. fine_then fine_returning (λ returning. fine_gives _)))))))

  fine_filter : IsFine (filter_at last)
  unfolding filter_at
  fine_filter = fine_maybe (is_word words.Where) fine_tree

  fine_set : (sets : List SetTree) → IsFine (one_set last sets)
  unfolding one_set
  fine_set sets = fine_then (fine_new_name (map (λ set. set.column) sets)) (λ column. fine_pass (fine_expect last (is_sign signs.Equal)) (fine_then fine_tree (λ e. fine_gives _)))

  fine_update : IsFine (update_at last)
  unfolding update_at
  fine_update =
      fine_then (fine_name last) (λ table. fine_pass (fine_keyword last words.Set) (fine_then (fine_list fine_set) (λ sets. fine_then fine_filter (λ filter. fine_then fine_returning (λ returning. fine_gives _)))))

  fine_delete : IsFine (delete_at last)
  unfolding delete_at
  fine_delete = fine_pass (fine_keyword last words.From) (fine_then (fine_name last) (λ table. fine_then fine_filter (λ filter. fine_then fine_returning (λ returning. fine_gives _))))

  -- ---- queries

  fine_call : (k : AggKind) → IsFine (call_at last k)
  unfolding call_at
  fine_call aggs.Count = fine_closed last (λ a. a) (fine_either (is_sign signs.Star) (fine_gives CountRows) (fine_made (Of aggs.Count) fine_tree))
  fine_call aggs.Sum = fine_closed last (Of aggs.Sum) fine_tree
  fine_call aggs.Min = fine_closed last (Of aggs.Min) fine_tree
  fine_call aggs.Max = fine_closed last (Of aggs.Max) fine_tree

  fine_value : IsFine (tree_at last >>= λ e. made (Value e) (alias_at last))
  fine_value = fine_then fine_tree (λ e. fine_made (Value e) fine_alias)

  fine_item : IsFine (item_at last)
  unfolding item_at
  fine_item = record {
    at = λ ts.
        (fine_either (is_sign signs.Star) (fine_gives All) (fine_first agg_kind (λ k. fine_either (is_sign signs.Open) (fine_then (fine_call k) (λ a. fine_made (Aggregate a) fine_alias)) (record { at = λ us. fine_value.at ts })) fine_value)).at ts;
  }

  fine_sort_key : IsFine (sort_key_at last)
  unfolding sort_key_at
  fine_sort_key =
      fine_then fine_tree (λ e. fine_then (fine_first (row_of is_word ((words.Asc, false) ∷ (words.Desc, true) ∷ [])) fine_gives (fine_gives false))
      (λ desc. fine_then (fine_either (is_word words.Nulls) (fine_one_of ((words.First, true) ∷ (words.Last, false) ∷ [])) (fine_gives desc)) (λ nulls_first. fine_gives _)))

  fine_strength : IsFine (strength_at last)
  unfolding strength_at
  fine_strength =
      fine_either (is_word words.No) (fine_pass (fine_keyword last words.Key) (fine_pass (fine_keyword last words.Update) (fine_gives strengths.NoKeyUpdate)))
      (fine_either (is_word words.Key) (fine_pass (fine_keyword last words.Share) (fine_gives strengths.KeyShare)) (fine_one_of ((words.Update, strengths.Update) ∷ (words.Share, strengths.Share) ∷ [])))

  fine_policy : IsFine (policy_at last)
  unfolding policy_at
  fine_policy =
      fine_either (is_word words.NoWait) (fine_gives policies.NoWait) (fine_either (is_word words.Skip) (fine_pass (fine_keyword last words.Locked) (fine_gives policies.SkipLocked)) (fine_gives policies.Wait))

  fine_lock : IsFine (lock_behind last)
  unfolding lock_behind
  fine_lock = fine_then fine_strength (λ s. fine_made _ fine_policy)

  allowed_case : (b : Bool) (place : ℕ) → IfSome (if b then None else Some (LeftOut place)) (λ g. g ≢ Memory)
  allowed_case true place = tt
  allowed_case false place = left_out_is place

  fine_select : (place : ℕ) → IsFine (select_at last place)
  unfolding select_at
  fine_select place =
      fine_then (fine_list (λ items. fine_item)) (λ items. fine_then (fine_maybe (is_word words.From) (fine_name last)) (λ table. fine_then fine_filter
      (λ filter. fine_then (fine_either (is_word words.Order) (fine_pass (fine_keyword last words.By) (fine_list (λ keys. fine_sort_key))) (fine_gives [])) (λ order. fine_then (fine_maybe (is_word words.For) fine_lock)
      (λ lock. let query : SelectTree = record { items = items; table = table; filter = filter; order = order; lock = lock } in
      fine_pass (fine_whole (if is_allowed query then None else Some (LeftOut place)) (allowed_case (is_allowed query) place)) (fine_gives (Selects query)))))))

  -- ---- transactions

  fine_level : IsFine (level_at last)
  unfolding level_at
  fine_level =
      fine_pass (fine_keyword last words.Level) (fine_either (is_word words.Read) (fine_one_of ((words.Committed, ReadCommitted) ∷ (words.Uncommitted, ReadCommitted) ∷ []))
      (fine_pass (fine_keyword last words.Repeatable) (fine_pass (fine_keyword last words.Read) (fine_gives RepeatableRead))))

  fine_begin : IsFine (begin_at last)
  unfolding begin_at
  fine_begin = fine_made Begin (fine_maybe (is_word words.Isolation) fine_level)

  fine_set_at : IsFine (set_at last)
  unfolding set_at
  fine_set_at =
      fine_either (is_word words.Transaction) (fine_pass (fine_keyword last words.Isolation) (fine_made SetTransaction fine_level))
      (fine_past (λ t. is_word words.Session t || is_word words.Local t) (fine_then (fine_known ((words.DeadlockTimeout, SetDeadlockTimeout) ∷ []))
      (λ set. fine_pass (fine_expect last (λ t. is_sign signs.Equal t || is_word words.To t))
      (fine_pass (fine_expect last (λ t. elim t [ tok.number n ↦ true | tok.string s ↦ true | _ ↦ false ])) (fine_gives set)))))

  -- ---- blocks

  fine_statements : (place : ℕ) → AllByRecursion (λ (row : Word × Reader StmtTree). IsFine row.1) (statements last place)
  fine_statements place = (
    fine_past is_work fine_begin,
    (
      fine_pass (fine_keyword last words.Transaction) fine_begin,
      (
        fine_set_at,
        (
          fine_past is_work (fine_gives Commit),
          (
            fine_past is_work (fine_gives Commit),
            (fine_past is_work (fine_gives Rollback), (fine_past is_work (fine_gives Rollback), (fine_create, (fine_drop, (fine_insert, (fine_update, (fine_delete, (fine_select place, tt)))))))),
          ),
        ),
      ),
    ),
  )

  fine_stmt : (role : Role) → IsFine (whole_at last role)
  unfolding whole_at
  fine_stmt role = record {
    at = λ ts.
        (fine_either (λ t. is_session role && (is_word words.Create t || is_word words.Drop t)) (fine_fault (λ us. DdlInSession (place_of last ts)) (λ us. ddl_is (place_of last ts)))
        (fine_one_then (λ r. IsFine r) (misplaced last) (row_of is_word (statements last (place_of last ts)))
        (λ t. row_says (λ r. IsFine r) (statements last (place_of last ts)) (λ row. is_word row.0 t) (fine_statements (place_of last ts))) (fine_misplaced last)
        (λ behind h. fine_then h (λ statement. fine_pass (fine_whole None tt) (fine_gives statement))))).at ts;
  }

fine_stmts : (role : Role) (n : ℕ) (ps : List (Tokens × ℕ)) → Fine (stmts_at role n ps)
unfolding stmts_at
fine_stmts role n [] = tt
fine_stmts role n (([], end) ∷ ps) = fine_stmts role n ps
fine_stmts role zero ((t ∷ ts, end) ∷ ps) = many_is t.span.start
fine_stmts role (suc n) ((t ∷ ts, end) ∷ ps) =
    fine_if _ _ ((fine_stmt end role).at (t ∷ ts)) (λ x. fine_if _ _ (fine_stmts role n ps) (λ ss. tt))

pub fine_block : (last : ℕ) (role : Role) (ts : Tokens) → Fine (block_at last role ts)
fine_block last role ts = fine_stmts role MAX_STMTS (pieces last ts)
