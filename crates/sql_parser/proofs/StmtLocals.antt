-- Statements are read as far as their tokens allow.
use Rattle.std.proofs.Common.{◌≡◌, ℕ, Bool, true, false, List, [], ◌∷◌, ◌++◌, length, Option, Some, None, refl, sym, ap, subst, ◌∙◌, append-nil, arith}
use Rattle.std.specs.Prelude.{Ok, Err}
use Rattle.std.specs.Option.{option_map_or}
use denote.Enum.Bare.{same_true, true_same}
use Rattle.iso_lexer.specs.declared.token.At.{At}
use Rattle.iso_lexer.specs.declared.sql_token.SqlSign.{SqlSign}
use Rattle.iso_lexer.specs.declared.sql_token.SqlSign.TheVariants as signs
use Rattle.iso_lexer.specs.Names as names
use Rattle.sql_trees.specs.declared.word.Word.{Word}
use Rattle.sql_trees.specs.declared.word.Word.TheVariants as words
use Rattle.sql_trees.specs.declared.stmt.Level.{Level}
use Rattle.sql_trees.specs.declared.stmt.Level.TheVariants.{ReadCommitted, RepeatableRead}
use Rattle.sql_trees.specs.contracts.word.Word.{the_type}
use Rattle.sql_trees.specs.Words.{is_reserved}
use Rattle.sql_trees.specs.Statements.{StmtTree, Begin, SetTransaction, SetDeadlockTimeout, DropTables}
use Rattle.sql_trees.specs.Tokens.{Token, Tokens, named}
use Rattle.sql_trees.specs.Tokens as tok
use Rattle.sql_trees.specs.Trees.{Tree}
use Rattle.sql_expressions.specs.Results.{◌>>=◌}
use Rattle.sql_expressions.specs.Readers.{expect, is_word, after, keyword, items_at, Reader, name_at, added}
use Rattle.sql_expressions.proofs.Shapes.{some_token}
use Rattle.sql_parser.specs.Grammar.{is_unquoted, is_scope, is_to, is_setting, Key, Names, Perhaps, nothing, one_is, Commas, NameIs, is_name, AddsName, adds_name, AliasIs, no_alias, as_alias, bare_alias, IsolationIs, uncommitted, committed, repeatable, MaybeLevel, no_level, a_level, Spells, begin, start, set_transaction, set_timeout, drop, drop_if}
use Rattle.sql_parser.specs.Inner.Parts.{past, misplaced_word}
use Rattle.sql_parser.specs.Transactions.{is_work}
use Rattle.sql_parser.specs.Inner.Transactions.{level_at, begin_at, start_at, parameter_at, set_at}
use Rattle.sql_parser.specs.Inner.Tables.{after_if}
use Rattle.sql_parser.specs.Inner.Queries.{maybe_name}
use Rattle.sql_parser.specs.Changes.{alias_at}
use Rattle.sql_parser.specs.Tables.{dropped_at, drop_at}
use Rattle.sql_parser.specs.Stops.{Refuses, at_next, at_word}
use Rattle.sql_parser.proofs.Locals.{Inhabited, Begins, Local, gives, gives_at, gives_end, stuck_at, stuck_end, behind, same_at, switch_at, switch_end, mapped, token_then, token_last, name_then, either, list_local, some_list, Tail, left_of, tail_local, joined, items_is, chosen}

-- ---- tokens that can stand there

pub key_is : (w : Word) (s : List ℕ) → is_word w (tok.word w s) ≡ true
key_is w s = true_same the_type w w refl

pub word_is : (w : Word) (x : Token) → is_word w x ≡ true → (s : List ℕ) × (x ≡ tok.word w s)
word_is w (tok.word v s) e = (s, ap (λ u. tok.word u s) (same_true the_type tt v w e))
word_is w _ e = absurd cc

abbrev pub a_word : Word → At Token
a_word w = some_token (tok.word w [])

abbrev pub a_sign : SqlSign → At Token
a_sign s = some_token (tok.sign s)

abbrev pub a_name : At Token
a_name = some_token (tok.quoted (97 ∷ []))

abbrev pub the_name : List ℕ
the_name = names.decoded (names.quoted (97 ∷ []))

pub some_name : Inhabited NameIs
some_name = (a_name ∷ [], the_name, is_name a_name the_name refl)

pub adds_some_name : (s : List (List ℕ)) → Inhabited (AddsName s)
adds_some_name s = (a_name ∷ [], s ++ the_name ∷ [], adds_name s a_name the_name refl)

module _ (last : ℕ) (E : Tokens → Tree → Type 0) (W Any : Type 0) where
  -- a token that may be missing, and what follows it
  pub perhaps_then : {B : Type 0} (K : Tokens → B → Type 0) (is_it : Token → Bool) (k : Reader B) (ts : Tokens) → ((ws us : Tokens) → Perhaps is_it ws → Local last E W Any (λ xs w. K (ws ++ xs) w) k us) → Local last E W Any K (λ r. k (past is_it r)) ts
  perhaps_then K is_it k ts next = either last E W Any K is_it k k (λ r. k (past is_it r)) ts (λ t vs h. rw h refl) (λ t vs h. rw h refl) refl (λ t us h. next (t ∷ []) us (one_is t h)) (next [] ts nothing)

  -- ---- transactions

  some_level : Inhabited IsolationIs
  some_level = (a_word words.Isolation ∷ a_word words.Level ∷ a_word words.Read ∷ a_word words.Committed ∷ [], ReadCommitted, committed (a_word words.Isolation) (a_word words.Level) (a_word words.Read) (a_word words.Committed) (key_is words.Isolation []) (key_is words.Level []) (key_is words.Read []) (key_is words.Committed []))

  -- what stands behind ISOLATION
  level_local : (i : At Token) → Key words.Isolation i → (ts : Tokens) → Local last E W Any (λ xs w. IsolationIs (i ∷ xs) w) (level_at last) ts
  unfolding level_at
  level_local i hi us =
      token_then last E W Any (λ xs w. IsolationIs (i ∷ xs) w) (is_word words.Level) (λ vs. option_map_or (λ ws. option_map_or (λ rest. Ok (ReadCommitted, rest)) (after (is_word words.Committed) ws) (keyword last words.Uncommitted ws >>= λ rest. Ok (ReadCommitted, rest))) (after (is_word words.Read) vs) (keyword last words.Repeatable vs >>= λ ws. keyword last words.Read ws >>= λ rest. Ok (RepeatableRead, rest))) us
      (a_word words.Level ∷ a_word words.Read ∷ a_word words.Committed ∷ [], ReadCommitted, committed i (a_word words.Level) (a_word words.Read) (a_word words.Committed) hi (key_is words.Level []) (key_is words.Read []) (key_is words.Committed [])) (λ l vs hl.
      chosen last E W Any (λ xs w. IsolationIs (i ∷ l ∷ xs) w) (is_word words.Read) (λ ws. option_map_or (λ rest. Ok (ReadCommitted, rest)) (after (is_word words.Committed) ws) (keyword last words.Uncommitted ws >>= λ rest. Ok (ReadCommitted, rest))) (λ ws. keyword last words.Repeatable ws >>= λ xs. keyword last words.Read xs >>= λ rest. Ok (RepeatableRead, rest)) vs
      (λ r ws hr. chosen last E W Any (λ xs w. IsolationIs (i ∷ l ∷ r ∷ xs) w) (is_word words.Committed) (λ rest. Ok (ReadCommitted, rest)) (λ xs. keyword last words.Uncommitted xs >>= λ rest. Ok (ReadCommitted, rest)) ws
      (λ c xs hc. gives last E W Any (λ ys w. IsolationIs (i ∷ l ∷ r ∷ c ∷ ys) w) ReadCommitted xs (committed i l r c hi hl hr hc))
      (token_last last E W Any (λ xs w. IsolationIs (i ∷ l ∷ r ∷ xs) w) (is_word words.Uncommitted) ReadCommitted ws (a_word words.Committed ∷ [], ReadCommitted, committed i l r (a_word words.Committed) hi hl hr (key_is words.Committed [])) (λ u hu. uncommitted i l r u hi hl hr hu)))
      (token_then last E W Any (λ xs w. IsolationIs (i ∷ l ∷ xs) w) (is_word words.Repeatable) (λ xs. keyword last words.Read xs >>= λ rest. Ok (RepeatableRead, rest)) vs
      (a_word words.Read ∷ a_word words.Committed ∷ [], ReadCommitted, committed i l (a_word words.Read) (a_word words.Committed) hi hl (key_is words.Read []) (key_is words.Committed [])) (λ p ws hp.
      token_last last E W Any (λ xs w. IsolationIs (i ∷ l ∷ p ∷ xs) w) (is_word words.Read) RepeatableRead ws (a_word words.Read ∷ [], RepeatableRead, repeatable i l p (a_word words.Read) hi hl hp (key_is words.Read [])) (λ r hr. repeatable i l p r hi hl hp hr))))

  -- what stands behind BEGIN
  begin_local : (K : Tokens → StmtTree → Type 0) → ((xs : Tokens) (level : Option Level) → MaybeLevel xs level → K xs (Begin level)) → (ts : Tokens) → Local last E W Any K (begin_at last) ts
  unfolding begin_at
  begin_local K up ts = chosen last E W Any K (is_word words.Isolation) (λ us. level_at last us >>= λ x. Ok (Begin (Some x.0), x.1)) (λ us. Ok (Begin None, us)) ts
      (λ i us hi. mapped last E W Any (λ xs w. IsolationIs (i ∷ xs) w) (λ xs w. K (i ∷ xs) w) (level_at last) (λ l. Begin (Some l)) us (λ xs v q. up (i ∷ xs) (Some v) (a_level (i ∷ xs) v q)) (level_local i hi us))
      (gives last E W Any K (Begin None) ts (up [] None no_level))

  pub start_local : (s : At Token) → Key words.Start s → (ts : Tokens) → Local last E W Any (λ xs w. Spells E (s ∷ xs) w) (start_at last) ts
  unfolding start_at
  start_local s h ts = token_then last E W Any (λ xs w. Spells E (s ∷ xs) w) (is_word words.Transaction) (begin_at last) ts
      (a_word words.Transaction ∷ [], Begin None, start s (a_word words.Transaction) [] None h (key_is words.Transaction []) no_level)
      (λ t us g. begin_local (λ xs w. Spells E (s ∷ t ∷ xs) w) (λ xs level m. start s t xs level h g m) us)

  pub begun_local : (b : At Token) → Key words.Begin b → (ts : Tokens) → Local last E W Any (λ xs w. Spells E (b ∷ xs) w) (λ r. begin_at last (past is_work r)) ts
  begun_local b h ts = perhaps_then (λ xs w. Spells E (b ∷ xs) w) is_work (begin_at last) ts (λ ws us p. begin_local (λ xs w. Spells E (b ∷ (ws ++ xs)) w) (λ xs level m. begin b ws xs level h p m) us)

  -- a statement of one word, with WORK or TRANSACTION
  pub word_local : (K : Tokens → StmtTree → Type 0) (s : StmtTree) → ((ws : Tokens) → Perhaps is_work ws → K ws s) → (ts : Tokens) → Local last E W Any K (λ r. Ok (s, past is_work r)) ts
  word_local K s up ts = perhaps_then K is_work (λ r. Ok (s, r)) ts (λ ws us p. gives last E W Any (λ xs w. K (ws ++ xs) w) s us (subst (λ xs. K xs s) (sym (append-nil ws)) (up ws p)))

  word_refuses : (G : Tokens → Type 0) → W → (t : At Token) (us : Tokens) (x : Token) → t.tok ≡ x → Refuses last E W G [] (t ∷ us) (misplaced_word last (t ∷ us))
  word_refuses G w t us (tok.word v s) h = subst (Refuses last E W G [] (t ∷ us)) (rw h refl) (at_word [] us t w (ap is_unquoted h))
  word_refuses G w t us (tok.quoted s) h = subst (Refuses last E W G [] (t ∷ us)) (rw h refl) (at_next [] (t ∷ us))
  word_refuses G w t us (tok.string s) h = subst (Refuses last E W G [] (t ∷ us)) (rw h refl) (at_next [] (t ∷ us))
  word_refuses G w t us (tok.number n) h = subst (Refuses last E W G [] (t ∷ us)) (rw h refl) (at_next [] (t ∷ us))
  word_refuses G w t us (tok.sign s) h = subst (Refuses last E W G [] (t ∷ us)) (rw h refl) (at_next [] (t ∷ us))

  word_same : (t : At Token) (us vs : Tokens) (x : Token) → t.tok ≡ x → misplaced_word last (t ∷ us) ≡ misplaced_word last (t ∷ vs)
  word_same t us vs (tok.word w s) h = rw h refl
  word_same t us vs (tok.quoted s) h = rw h refl
  word_same t us vs (tok.string s) h = rw h refl
  word_same t us vs (tok.number n) h = rw h refl
  word_same t us vs (tok.sign s) h = rw h refl

  pub no_word : {A : Type 0} (Q : Tokens → A → Type 0) → W → (ts : Tokens) → Inhabited Q → Local last E W Any Q (λ r. Err (misplaced_word last r)) ts
  no_word Q w [] some = stuck_end last E W Any Q (λ r. Err (misplaced_word last r)) (misplaced_word last []) some (at_next [] []) refl
  no_word Q w (t ∷ us) some = stuck_at last E W Any Q (λ r. Err (misplaced_word last r)) (misplaced_word last (t ∷ us)) t us some (λ any. word_refuses (Begins Q) w t us t.tok refl) (λ vs. ap Err (word_same t vs us t.tok refl))

  parameter_local : W → (s : At Token) (ws : Tokens) → Key words.Set s → Perhaps is_scope ws → (ts : Tokens) → Local last E W Any (λ xs w. Spells E (s ∷ (ws ++ xs)) w) (parameter_at last) ts
  unfolding parameter_at
  parameter_local w s ws h p ts =
      let some : Inhabited (λ xs w. Spells E (s ∷ (ws ++ xs)) w) = (a_word words.DeadlockTimeout ∷ a_sign signs.Equal ∷ some_token (tok.number 1) ∷ [], SetDeadlockTimeout, set_timeout s (a_word words.DeadlockTimeout) (a_sign signs.Equal) (some_token (tok.number 1)) ws h p (key_is words.DeadlockTimeout []) refl refl) in
      chosen last E W Any (λ xs w. Spells E (s ∷ (ws ++ xs)) w) (is_word words.DeadlockTimeout) (λ us. expect last is_to us >>= λ vs. expect last is_setting vs >>= λ rest. Ok (SetDeadlockTimeout, rest)) (λ us. Err (misplaced_word last us)) ts
      (λ d us hd. token_then last E W Any (λ xs w. Spells E (s ∷ (ws ++ d ∷ xs)) w) is_to (λ vs. expect last is_setting vs >>= λ rest. Ok (SetDeadlockTimeout, rest)) us
      (a_sign signs.Equal ∷ some_token (tok.number 1) ∷ [], SetDeadlockTimeout, set_timeout s d (a_sign signs.Equal) (some_token (tok.number 1)) ws h p hd refl refl) (λ q vs hq.
      token_last last E W Any (λ xs w. Spells E (s ∷ (ws ++ d ∷ q ∷ xs)) w) is_setting SetDeadlockTimeout vs (some_token (tok.number 1) ∷ [], SetDeadlockTimeout, set_timeout s d q (some_token (tok.number 1)) ws h p hd hq refl) (λ v hv. set_timeout s d q v ws h p hd hq hv)))
      (no_word (λ xs w. Spells E (s ∷ (ws ++ xs)) w) w ts some)

  pub set_local : W → (s : At Token) → Key words.Set s → (ts : Tokens) → Local last E W Any (λ xs w. Spells E (s ∷ xs) w) (set_at last) ts
  unfolding set_at
  set_local w s h ts = chosen last E W Any (λ xs w. Spells E (s ∷ xs) w) (is_word words.Transaction) (λ us. keyword last words.Isolation us >>= λ vs. level_at last vs >>= λ x. Ok (SetTransaction x.0, x.1)) (λ us. parameter_at last (past is_scope us)) ts
      (λ t us g. token_then last E W Any (λ xs w. Spells E (s ∷ t ∷ xs) w) (is_word words.Isolation) (λ vs. level_at last vs >>= λ x. Ok (SetTransaction x.0, x.1)) us
      (some_level.0, SetTransaction some_level.1, set_transaction s t some_level.0 some_level.1 h g some_level.2) (λ i vs hi.
      mapped last E W Any (λ xs w. IsolationIs (i ∷ xs) w) (λ xs w. Spells E (s ∷ t ∷ i ∷ xs) w) (level_at last) SetTransaction vs (λ xs v q. set_transaction s t (i ∷ xs) v h g q) (level_local i hi vs)))
      (perhaps_then (λ xs w. Spells E (s ∷ xs) w) is_scope (parameter_at last) ts (λ ws us p. parameter_local w s ws h p us))

  -- ---- names given to items

  maybe_local : (ts : Tokens) → Local last E W Any AliasIs maybe_name ts
  maybe_local [] = gives_end last E W Any AliasIs maybe_name None refl no_alias
  maybe_local (t ∷ us) = of_name (named t.tok) refl
    where
      of_name : (o : Option (List ℕ)) → named t.tok ≡ o → Local last E W Any AliasIs maybe_name (t ∷ us)
      of_name None h = gives_at last E W Any AliasIs maybe_name None t us (λ vs. rw h refl) no_alias
      of_name (Some n) h = behind last E W Any AliasIs (λ r. Ok (Some n, r)) maybe_name t us (λ vs. rw h refl) (gives last E W Any (λ xs w. AliasIs (t ∷ xs) w) (Some n) us (bare_alias t n h))

  -- the name given to an item
  pub alias_local : (ts : Tokens) → Local last E W Any AliasIs (alias_at last) ts
  unfolding alias_at
  alias_local ts = chosen last E W Any AliasIs (is_word words.As) (λ us. name_at last us >>= λ x. Ok (Some x.0, x.1)) maybe_name ts
      (λ a us ha. name_then last E W Any (λ xs w. AliasIs (a ∷ xs) w) (λ n r. Ok (Some n, r)) us (a_name ∷ [], Some the_name, as_alias a a_name the_name ha refl) (λ t n vs hn. gives last E W Any (λ xs w. AliasIs (a ∷ t ∷ xs) w) (Some n) vs (as_alias a t n ha hn)))
      (maybe_local ts)

  -- ---- DROP

  name_add_local : (ns : List (List ℕ)) (ts : Tokens) → Local last E W Any (AddsName ns) (added (name_at last) ns) ts
  name_add_local ns ts = name_then last E W Any (AddsName ns) (λ n r. Ok (ns ++ n ∷ [], r)) ts (adds_some_name ns) (λ t n us h. gives last E W Any (λ xs w. AddsName ns (t ∷ xs) w) (ns ++ n ∷ []) us (adds_name ns t n h))

  abbrev dropped : Bool → List (List ℕ) → StmtTree
  dropped b ns = DropTables (record { if_exists = b; names = ns })

  drop_if_local : (d t i e : At Token) → Key words.Drop d → Key words.Table t → Key words.If i → Key words.Exists e → (ts : Tokens) → Local last E W Any (λ xs w. Spells E (d ∷ t ∷ i ∷ e ∷ xs) w) (dropped_at last true) ts
  drop_if_local d t i e hd ht hi he ts = mapped last E W Any (Commas AddsName []) (λ xs w. Spells E (d ∷ t ∷ i ∷ e ∷ xs) w) (items_at (added (name_at last)) []) (dropped true) ts (λ xs ns q. drop_if d t i e xs ns hd ht hi he q) (list_local last E W Any (added (name_at last)) AddsName adds_some_name name_add_local [] ts)

  drop_plain_local : (d t : At Token) → Key words.Drop d → Key words.Table t → (ts : Tokens) → Local last E W Any (λ xs w. Spells E (d ∷ t ∷ xs) w) (dropped_at last false) ts
  drop_plain_local d t hd ht ts = mapped last E W Any (Commas AddsName []) (λ xs w. Spells E (d ∷ t ∷ xs) w) (items_at (added (name_at last)) []) (dropped false) ts (λ xs ns q. drop d t xs ns hd ht q) (list_local last E W Any (added (name_at last)) AddsName adds_some_name name_add_local [] ts)

  -- IF may be a name, where no EXISTS follows
  if_named : (i : At Token) → Key words.If i → (n : List ℕ) × Names n i
  unfolding is_reserved
  if_named i h = let w = word_is words.If i.tok h in (names.decoded (names.folded w.0), ap named w.1)

  drop_named_local : (d t i : At Token) (n : List ℕ) → Key words.Drop d → Key words.Table t → Names n i → (ts : Tokens) → Local last E W Any (λ xs w. Spells E (d ∷ t ∷ i ∷ xs) w) (λ vs. dropped_at last false (i ∷ vs)) ts
  drop_named_local d t i n hd ht hi ts =
      let behind_it : Reader StmtTree = λ vs. left_of last E W Any (added (name_at last)) AddsName adds_some_name name_add_local (n ∷ []) vs >>= λ x. Ok (dropped false x.0, x.1) in
      let same : (vs : Tokens) → dropped_at last false (i ∷ vs) ≡ behind_it vs = λ vs. ap (λ r. r >>= λ x. Ok (dropped false x.0, x.1)) (items_is last E W Any (added (name_at last)) AddsName adds_some_name name_add_local [] (i ∷ vs)) ∙ rw hi refl in
      same_at last E W Any (λ xs w. Spells E (d ∷ t ∷ i ∷ xs) w) (λ xs w. Spells E (d ∷ t ∷ i ∷ xs) w) behind_it (λ vs. dropped_at last false (i ∷ vs)) ts (λ xs w k. k) (λ us h. same us)
      (mapped last E W Any (Tail last E W Any (added (name_at last)) AddsName adds_some_name name_add_local (n ∷ [])) (λ xs w. Spells E (d ∷ t ∷ i ∷ xs) w) (left_of last E W Any (added (name_at last)) AddsName adds_some_name name_add_local (n ∷ [])) (dropped false) ts
      (λ xs ns q. drop d t (i ∷ xs) ns hd ht (joined last E W Any (added (name_at last)) AddsName adds_some_name name_add_local [] (n ∷ []) ns (i ∷ []) xs (adds_name [] i n hi) q))
      (tail_local last E W Any (added (name_at last)) AddsName adds_some_name name_add_local (length ts) (n ∷ []) ts (omega arith)))

  drop_names_token : (d t i : At Token) (us : Tokens) (b : Bool) → Key words.Drop d → Key words.Table t → is_word words.If i.tok ≡ b → Local last E W Any (λ xs w. Spells E (d ∷ t ∷ xs) w) (λ vs. option_map_or (dropped_at last true) (after_if vs) (dropped_at last false vs)) (i ∷ us)
  drop_names_token d t i us false hd ht h = switch_at last E W Any (λ xs w. Spells E (d ∷ t ∷ xs) w) (dropped_at last false) (λ vs. option_map_or (dropped_at last true) (after_if vs) (dropped_at last false vs)) i us (λ vs. rw h refl) (drop_plain_local d t hd ht (i ∷ us))
  drop_names_token d t i us true hd ht h =
      let n = if_named i h in
      behind last E W Any (λ xs w. Spells E (d ∷ t ∷ xs) w) (λ vs. option_map_or (dropped_at last true) (after (is_word words.Exists) vs) (dropped_at last false (i ∷ vs))) (λ vs. option_map_or (dropped_at last true) (after_if vs) (dropped_at last false vs)) i us (λ vs. rw h refl)
      (either last E W Any (λ xs w. Spells E (d ∷ t ∷ i ∷ xs) w) (is_word words.Exists) (dropped_at last true) (λ vs. dropped_at last false (i ∷ vs)) (λ vs. option_map_or (dropped_at last true) (after (is_word words.Exists) vs) (dropped_at last false (i ∷ vs))) us
      (λ e vs g. rw g refl) (λ e vs g. rw g refl) refl
      (λ e vs he. drop_if_local d t i e hd ht h he vs)
      (drop_named_local d t i n.0 hd ht n.1 us))

  drop_names_local : (d t : At Token) (ts : Tokens) → Key words.Drop d → Key words.Table t → Local last E W Any (λ xs w. Spells E (d ∷ t ∷ xs) w) (λ vs. option_map_or (dropped_at last true) (after_if vs) (dropped_at last false vs)) ts
  drop_names_local d t [] hd ht = switch_end last E W Any (λ xs w. Spells E (d ∷ t ∷ xs) w) (dropped_at last false) (λ vs. option_map_or (dropped_at last true) (after_if vs) (dropped_at last false vs)) refl (drop_plain_local d t hd ht [])
  drop_names_local d t (i ∷ us) hd ht = drop_names_token d t i us (is_word words.If i.tok) hd ht refl

  pub drop_local : (d : At Token) → Key words.Drop d → (ts : Tokens) → Local last E W Any (λ xs w. Spells E (d ∷ xs) w) (drop_at last) ts
  unfolding drop_at
  drop_local d hd ts = token_then last E W Any (λ xs w. Spells E (d ∷ xs) w) (is_word words.Table) (λ vs. option_map_or (dropped_at last true) (after_if vs) (dropped_at last false vs)) ts
      (let a = some_list last E W Any (added (name_at last)) AddsName adds_some_name name_add_local [] in (a_word words.Table ∷ a.0, dropped false a.1, drop d (a_word words.Table) a.0 a.1 hd (key_is words.Table []) a.2))
      (λ t us ht. drop_names_local d t us hd ht)
