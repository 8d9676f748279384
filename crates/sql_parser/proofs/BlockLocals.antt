-- Statements are read as far as their tokens allow.
use Rattle.std.proofs.Common.{◌≡◌, ℕ, Bool, true, false, List, [], ◌∷◌, ◌++◌, Option, Some, None, refl, ap, ◌∙◌}
use Rattle.std.specs.Prelude.{Result, Ok, Err, ◌&&◌, ◌||◌, if◌then◌else◌}
use Rattle.std.specs.Option.{option_map_or}
use Rattle.iso_lexer.specs.declared.token.At.{At}
use Rattle.iso_lexer.specs.declared.sql_token.SqlSign.TheVariants as signs
use Rattle.sql_trees.specs.declared.fault.SqlFault.{SqlFault}
use Rattle.sql_trees.specs.declared.fault.SqlFault.TheVariants.{DdlInSession, BadColumns}
use Rattle.sql_trees.specs.declared.word.Word.{Word}
use Rattle.sql_trees.specs.declared.word.Word.TheVariants as words
use Rattle.sql_trees.specs.Statements.{StmtTree, Commit, Rollback}
use Rattle.sql_trees.specs.Tokens.{Token, Tokens}
use Rattle.sql_trees.specs.Tokens as tok
use Rattle.sql_trees.specs.Trees.{Tree}
use Rattle.sql_expressions.specs.Results.{◌>>=◌}
use Rattle.sql_expressions.specs.Readers.{expect, is_word, is_sign, misplaced, name_at, items_at, Reader}
use Rattle.sql_blocks.specs.declared.block.Role.{Role}
use Rattle.sql_blocks.specs.Parts.{is_session, column_names}
use Rattle.sql_parser.specs.Inner.Parts.{past}
use Rattle.sql_parser.specs.Readers.{tree_at}
use Rattle.sql_parser.specs.Transactions.{is_work}
use Rattle.sql_parser.specs.Inner.Transactions.{begin_at, start_at, set_at}
use Rattle.sql_parser.specs.Tables.{TableRead, created, drop_at}
use Rattle.sql_parser.specs.Grammar.{empty_table, is_ddl, Is, Key, Names, nothing, Commas, AddsPart, Spells, commit, end, rollback, abort, create}
use Rattle.sql_parser.specs.Inner.Tables.{table_add, keys_fault, finished, create_at}
use Rattle.sql_parser.specs.Inner.Changes.{insert_at, update_at, delete_at}
use Rattle.sql_parser.specs.Inner.Queries.{select_at}
use Rattle.sql_parser.specs.Inner.Blocks.{simple_of, stmt_at, whole_at}
use Rattle.sql_parser.specs.Inner.Pieces.{begun_at}
use Rattle.sql_parser.specs.Stops.{WantsWords}
use Rattle.sql_parser.proofs.Created.{are_full, fault_is, parts_full}
use Rattle.sql_parser.proofs.Locals.{Inhabited, Local, behind, switch_at, in_turn, mapped, token_then, token_last, name_then, no_rule_at, no_rule_end}
use Rattle.sql_parser.proofs.StmtLocals.{a_word, a_sign, a_name, the_name, key_is, begun_local, start_local, word_local, set_local, drop_local}
use Rattle.sql_parser.proofs.TableLocals.{parts_local, some_parts}
use Rattle.sql_parser.proofs.ChangeLocals.{insert_local, update_local, delete_local}
use Rattle.sql_parser.proofs.QueryLocals.{Shown, shown, no_columns, Whole, select_local}

finished_shown : (ts : Tokens) (name : List ℕ) (t : TableRead) → are_full t.keys ≡ true → Shown ts (finished name t) (created name t)
unfolding finished
finished_shown ts name t full = of_fault (keys_fault name (column_names t.columns) [] t.keys) refl
  where
    of_fault : (o : Option ℕ) → keys_fault name (column_names t.columns) [] t.keys ≡ o → Shown ts (option_map_or (λ place. Err (BadColumns place)) o (Ok (created name t))) (created name t)
    of_fault None h = shown (created name t)
    of_fault (Some place) h = no_columns place name t (fault_is name (column_names t.columns) [] t.keys full ∙ h)

or_first : (a b : Bool) → a ≡ true → (a || b) ≡ true
or_first a b h = rw h refl

or_second : (a b : Bool) → b ≡ true → (a || b) ≡ true
or_second true b h = refl
or_second false b h = h

-- a statement that may not stand in a session's block
abbrev pub barred : Role → Tokens → Bool
barred role [] = false
barred role (t ∷ ts) = is_session role && is_ddl t.tok

pub barred_is : (last : ℕ) (role : Role) (t : At Token) (us : Tokens) → barred role (t ∷ us) ≡ true → whole_at last role (t ∷ us) ≡ Err (DdlInSession t.span.start)
unfolding whole_at stmt_at
barred_is last role t us h = rw h refl

module _ (last : ℕ) (E : Tokens → Tree → Type 0) (W Any : Type 0) (an_expr : Inhabited E) (exprs : (ts : Tokens) → Local last E W Any E (tree_at last) ts)
    (some_token : (xs : Tokens) (e : Tree) → E xs e → (t : At Token) × (us : Tokens) × (xs ≡ t ∷ us))
    (one_name : (t : At Token) (n : List ℕ) → Names n t → (e : Tree) × (tree_at last (t ∷ []) ≡ Ok (e, []))) where
  -- ---- CREATE

  abbrev table_behind : List ℕ → Reader (Result StmtTree SqlFault)
  table_behind name vs = items_at (table_add last) empty_table vs >>= λ t. expect last (is_sign signs.Close) t.1 >>= λ rest. Ok (finished name t.0, rest)

  whole_table : (c t n o z : At Token) (name : List ℕ) (ts : Tokens) (parts : TableRead) → Key words.Create c → Key words.Table t → Names name n → Is (is_sign signs.Open) o → Commas AddsPart empty_table ts parts → Is (is_sign signs.Close) z → Whole E (c ∷ t ∷ n ∷ o ∷ (ts ++ z ∷ [])) (finished name parts)
  whole_table c t n o z name ts parts hc ht hn ho q hz = record {
    stmt = created name parts;
    spells = create c t n o z name ts parts hc ht hn ho q hz;
    shows = finished_shown (c ∷ t ∷ n ∷ o ∷ (ts ++ z ∷ [])) name parts (parts_full q refl);
  }

  create_local : W → (c : At Token) → Key words.Create c → (ts : Tokens) → Local last E W Any (λ xs r. Whole E (c ∷ xs) r) (create_at last) ts
  unfolding create_at
  create_local w c hc ts =
      let table = a_word words.Table in
      let open' = a_sign signs.Open in
      let close' = a_sign signs.Close in
      let s = some_parts last E W Any w in
      token_then last E W Any (λ xs r. Whole E (c ∷ xs) r) (is_word words.Table) (λ us. name_at last us >>= λ x. expect last (is_sign signs.Open) x.1 >>= table_behind x.0) ts
      (table ∷ a_name ∷ open' ∷ (s.0 ++ close' ∷ []), finished the_name s.1, whole_table c table a_name open' close' the_name s.0 s.1 hc (key_is words.Table []) refl refl s.2 refl) (λ t us ht.
      name_then last E W Any (λ xs r. Whole E (c ∷ t ∷ xs) r) (λ n r. expect last (is_sign signs.Open) r >>= table_behind n) us
      (a_name ∷ open' ∷ (s.0 ++ close' ∷ []), finished the_name s.1, whole_table c t a_name open' close' the_name s.0 s.1 hc ht refl refl s.2 refl) (λ n name vs hn.
      token_then last E W Any (λ xs r. Whole E (c ∷ t ∷ n ∷ xs) r) (is_sign signs.Open) (table_behind name) vs
      (open' ∷ (s.0 ++ close' ∷ []), finished name s.1, whole_table c t n open' close' name s.0 s.1 hc ht hn refl s.2 refl) (λ o ws ho.
      in_turn last E W Any (Commas AddsPart empty_table) (λ xs r. Whole E (c ∷ t ∷ n ∷ o ∷ xs) r) (items_at (table_add last) empty_table) (λ parts r. expect last (is_sign signs.Close) r >>= λ rest. Ok (finished name parts, rest)) ws
      (λ xs parts q. (close' ∷ [], finished name parts, whole_table c t n o close' name xs parts hc ht hn ho q refl))
      (parts_local last E W Any w ws)
      (λ parts xs rest split q. token_last last E W Any (λ ys r. Whole E (c ∷ t ∷ n ∷ o ∷ (xs ++ ys)) r) (is_sign signs.Close) (finished name parts) rest
      (close' ∷ [], finished name parts, whole_table c t n o close' name xs parts hc ht hn ho q refl) (λ z hz. whole_table c t n o z name xs parts hc ht hn ho q hz)))))

  -- ---- statements

  whole_of : (ts : Tokens) (s : StmtTree) → Spells E ts s → Whole E ts (Ok s)
  whole_of ts s q = record { stmt = s; spells = q; shows = shown s }

  key_of : (w : Word) (t : At Token) (s : List ℕ) → t.tok ≡ tok.word w s → Key w t
  key_of w t s h = ap (is_word w) h ∙ key_is w s

  some_stmt : Inhabited (Whole E)
  some_stmt = (a_word words.Commit ∷ [], Ok Commit, whole_of (a_word words.Commit ∷ []) Commit (commit (a_word words.Commit) [] (key_is words.Commit []) nothing))

  -- a statement of which nothing has to hold as a whole
  simple_case : (p : Reader StmtTree) (t : At Token) (us : Tokens) → ((vs : Tokens) → begun_at last (t ∷ vs) ≡ (p vs >>= λ y. Ok (Ok y.0, y.1))) → Local last E W Any (λ xs s. Spells E (t ∷ xs) s) p us → Local last E W Any (Whole E) (begun_at last) (t ∷ us)
  simple_case p t us same l = behind last E W Any (Whole E) (λ vs. p vs >>= λ y. Ok (Ok y.0, y.1)) (begun_at last) t us same (mapped last E W Any (λ xs s. Spells E (t ∷ xs) s) (λ xs r. Whole E (t ∷ xs) r) p (λ s. Ok s) us (λ xs s q. whole_of (t ∷ xs) s q) l)

  begun_token : (t : At Token) (us : Tokens) → (WantsWords (t ∷ us) → W) → (x : Token) → t.tok ≡ x → Local last E W Any (Whole E) (begun_at last) (t ∷ us)
  unfolding simple_of
  begun_token t us wants (tok.word words.Create s) h = behind last E W Any (Whole E) (create_at last) (begun_at last) t us (λ vs. rw h refl) (create_local (wants (or_first (is_word words.Create t.tok) (is_word words.Set t.tok) (key_of words.Create t s h))) t (key_of words.Create t s h) us)
  begun_token t us wants (tok.word words.Select s) h = behind last E W Any (Whole E) (select_at last t.span.start) (begun_at last) t us (λ vs. rw h refl) (select_local last E W Any an_expr exprs some_token one_name t (key_of words.Select t s h) us)
  begun_token t us wants (tok.word words.Begin s) h = simple_case (λ vs. begin_at last (past is_work vs)) t us (λ vs. rw h refl) (begun_local last E W Any t (key_of words.Begin t s h) us)
  begun_token t us wants (tok.word words.Start s) h = simple_case (start_at last) t us (λ vs. rw h refl) (start_local last E W Any t (key_of words.Start t s h) us)
  begun_token t us wants (tok.word words.Commit s) h = simple_case (λ vs. Ok (Commit, past is_work vs)) t us (λ vs. rw h refl) (word_local last E W Any (λ xs w. Spells E (t ∷ xs) w) Commit (λ ws p. commit t ws (key_of words.Commit t s h) p) us)
  begun_token t us wants (tok.word words.End s) h = simple_case (λ vs. Ok (Commit, past is_work vs)) t us (λ vs. rw h refl) (word_local last E W Any (λ xs w. Spells E (t ∷ xs) w) Commit (λ ws p. end t ws (key_of words.End t s h) p) us)
  begun_token t us wants (tok.word words.Rollback s) h = simple_case (λ vs. Ok (Rollback, past is_work vs)) t us (λ vs. rw h refl) (word_local last E W Any (λ xs w. Spells E (t ∷ xs) w) Rollback (λ ws p. rollback t ws (key_of words.Rollback t s h) p) us)
  begun_token t us wants (tok.word words.Abort s) h = simple_case (λ vs. Ok (Rollback, past is_work vs)) t us (λ vs. rw h refl) (word_local last E W Any (λ xs w. Spells E (t ∷ xs) w) Rollback (λ ws p. abort t ws (key_of words.Abort t s h) p) us)
  begun_token t us wants (tok.word words.Set s) h = simple_case (set_at last) t us (λ vs. rw h refl) (set_local last E W Any (wants (or_second (is_word words.Create t.tok) (is_word words.Set t.tok) (key_of words.Set t s h))) t (key_of words.Set t s h) us)
  begun_token t us wants (tok.word words.Drop s) h = simple_case (drop_at last) t us (λ vs. rw h refl) (drop_local last E W Any t (key_of words.Drop t s h) us)
  begun_token t us wants (tok.word words.Insert s) h = simple_case (insert_at last) t us (λ vs. rw h refl) (insert_local last E W Any an_expr exprs t (key_of words.Insert t s h) us)
  begun_token t us wants (tok.word words.Update s) h = simple_case (update_at last) t us (λ vs. rw h refl) (update_local last E W Any an_expr exprs t (key_of words.Update t s h) us)
  begun_token t us wants (tok.word words.Delete s) h = simple_case (delete_at last) t us (λ vs. rw h refl) (delete_local last E W Any an_expr exprs t (key_of words.Delete t s h) us)
  begun_token t us wants _ h = no_rule_at last E W Any (Whole E) (begun_at last) t us some_stmt (λ vs. rw h refl)

  abbrev allowed : Role → Reader (Result StmtTree SqlFault)
  allowed role [] = Err (misplaced last [])
  allowed role (t ∷ ts) = if is_session role && is_ddl t.tok then Err (DdlInSession t.span.start) else begun_at last (t ∷ ts)

  pub stmt_local : (role : Role) (ts : Tokens) → barred role ts ≡ false → (WantsWords ts → W) → Local last E W Any (Whole E) (stmt_at last role) ts
  unfolding stmt_at
  stmt_local role [] free wants = no_rule_end last E W Any (Whole E) (allowed role) some_stmt refl
  stmt_local role (t ∷ us) free wants = switch_at last E W Any (Whole E) (begun_at last) (allowed role) t us (λ vs. rw free refl) (begun_token t us wants t.tok refl)
