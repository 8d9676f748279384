-- The grammar of statements and blocks: which tokens spell which trees. Above each rule stands what is kept of the synopsis on the command's page of
-- PostgreSQL 17's manual; numbers are sections of it. E says which tokens spell an expression.
use Rattle.std.specs.Prelude.{◌≡◌, ℕ, Bool, true, false, ◌||◌, List, [], ◌∷◌, ◌++◌, length, Option, Some, None, option_map}
use Rattle.iso_lexer.specs.declared.limits.TheConstants.{MAX_DEPTH}
use Rattle.iso_lexer.specs.declared.token.At.{At}
use Rattle.iso_lexer.specs.Bytes.{row_of}
use Rattle.iso_lexer.specs.declared.sql_token.SqlSign.{SqlSign}
use Rattle.iso_lexer.specs.declared.sql_token.SqlSign.TheVariants as signs
use Rattle.sql_trees.specs.declared.word.Word.{Word}
use Rattle.sql_trees.specs.declared.word.Word.TheVariants as words
use Rattle.sql_trees.specs.declared.kind.Kind.{Kind}
use Rattle.sql_trees.specs.declared.kind.Kind.TheVariants as kinds
use Rattle.sql_trees.specs.declared.expr.AggKind.{AggKind}
use Rattle.sql_trees.specs.declared.expr.AggKind.TheVariants as aggs
use Rattle.sql_trees.specs.declared.stmt.Level.{Level}
use Rattle.sql_trees.specs.declared.stmt.Level.TheVariants.{ReadCommitted, RepeatableRead}
use Rattle.sql_trees.specs.declared.stmt.Lock.{Lock}
use Rattle.sql_trees.specs.declared.stmt.Strength.{Strength}
use Rattle.sql_trees.specs.declared.stmt.Strength.TheVariants as strengths
use Rattle.sql_trees.specs.declared.stmt.Policy.{Policy}
use Rattle.sql_trees.specs.declared.stmt.Policy.TheVariants as policies
use Rattle.sql_trees.specs.Statements.{StmtTree, Begin, Commit, Rollback, SetTransaction, SetDeadlockTimeout, DropTables, Inserts, Updates, Deletes, Selects}
use Rattle.sql_trees.specs.Statements.{SetTree, ItemTree, OrderTree, All, Value, Aggregate}
use Rattle.sql_trees.specs.Tokens.{Token, Tokens, named}
use Rattle.sql_trees.specs.Tokens as tok
use Rattle.sql_trees.specs.Trees.{Tree, AggTree, CountRows, Of}
use Rattle.sql_expressions.specs.Readers.{is_word, is_sign}
use Rattle.sql_expressions.specs.Reading.{agg_kind}
use Rattle.sql_expressions.specs.Grammar.{OR, SpellsIn}
use Rattle.sql_parser.specs.Transactions.{is_work}
use Rattle.sql_parser.specs.Tables.{Placed, KeyRead, TableRead, with_key, created}

-- ---- tokens

-- the token is of this kind
abbrev pub Is : (Token → Bool) → At Token → Type 0
Is is_it token = is_it token.tok ≡ true

-- the token is this keyword, in whatever letters
abbrev pub Key : Word → At Token → Type 0
Key w token = is_word w token.tok ≡ true

-- the token is this sign
abbrev pub Sign : SqlSign → At Token → Type 0
Sign s token = is_sign s token.tok ≡ true

-- the token is this name
abbrev pub Names : List ℕ → At Token → Type 0
Names name token = named token.tok ≡ Some name

-- a word without quotes
abbrev pub is_unquoted : Token → Bool
is_unquoted (tok.word w s) = true
is_unquoted _ = false

-- the first word of a statement that makes or drops a table
abbrev pub is_ddl : Token → Bool
is_ddl t = is_word words.Create t || is_word words.Drop t

-- SESSION or LOCAL
abbrev pub is_scope : Token → Bool
is_scope t = is_word words.Session t || is_word words.Local t

-- "=" or TO
abbrev pub is_to : Token → Bool
is_to t = is_sign signs.Equal t || is_word words.To t

-- a number or a string
abbrev pub is_setting : Token → Bool
is_setting (tok.number n) = true
is_setting (tok.string s) = true
is_setting _ = false

-- nothing, or one token of this kind
pub data Perhaps (is_it : Token → Bool) : Tokens → Type 0 where
  nothing : Perhaps is_it []
  one_is : (token : At Token) → Is is_it token → Perhaps is_it (token ∷ [])

-- items with commas between them, of which each adds to what those before it made
pub data Commas {S : Type 0} (Adds : S → Tokens → S → Type 0) : S → Tokens → S → Type 0 where
  last_item : (old new : S) (item : Tokens) → Adds old item new → Commas Adds old item new
  next_item : (old new all : S) (item others : Tokens) (comma : At Token) →
      Adds old item new → Sign signs.Comma comma → Commas Adds new others all →
      Commas Adds old (item ++ comma ∷ others) all

-- a name
pub data NameIs : Tokens → List ℕ → Type 0 where
  is_name : (token : At Token) (name : List ℕ) → Names name token → NameIs (token ∷ []) name

pub data AddsName : List (List ℕ) → Tokens → List (List ℕ) → Type 0 where
  adds_name : (names : List (List ℕ)) (token : At Token) (name : List ℕ) → Names name token → AddsName names (token ∷ []) (names ++ name ∷ [])

-- ---- transactions

-- transaction_mode: ISOLATION LEVEL (READ UNCOMMITTED | READ COMMITTED | REPEATABLE READ); READ UNCOMMITTED is READ COMMITTED (13.2)
pub data IsolationIs : Tokens → Level → Type 0 where
  uncommitted : (isolation level read uncommitted : At Token) →
      Key words.Isolation isolation → Key words.Level level → Key words.Read read → Key words.Uncommitted uncommitted →
      IsolationIs (isolation ∷ level ∷ read ∷ uncommitted ∷ []) ReadCommitted
  committed : (isolation level read committed : At Token) →
      Key words.Isolation isolation → Key words.Level level → Key words.Read read → Key words.Committed committed →
      IsolationIs (isolation ∷ level ∷ read ∷ committed ∷ []) ReadCommitted
  repeatable : (isolation level repeatable read : At Token) →
      Key words.Isolation isolation → Key words.Level level → Key words.Repeatable repeatable → Key words.Read read →
      IsolationIs (isolation ∷ level ∷ repeatable ∷ read ∷ []) RepeatableRead

-- [transaction_mode]
pub data MaybeLevel : Tokens → Option Level → Type 0 where
  no_level : MaybeLevel [] None
  a_level : (mode : Tokens) (level : Level) → IsolationIs mode level → MaybeLevel mode (Some level)

-- ---- CREATE TABLE

-- what is said of one column, behind the keys before it
pub record Constraints : Type 0 where
  pub not_null : Bool
  pub keys : List KeyRead

-- no column yet, and no key
abbrev pub empty_table : TableRead
empty_table = record { columns = []; keys = [] }

-- with a column, behind its keys
abbrev pub with_column : Placed → Kind → Constraints → TableRead → TableRead
with_column c kind s t = record { columns = t.columns ++ (record { name = c.name; kind = kind; not_null = s.not_null }) ∷ []; keys = s.keys }

-- with a key of this column alone
abbrev pub key_limit : Bool → Placed → Constraints → Constraints
key_limit primary c s = record s { keys = s.keys ++ (record { primary = primary; columns = c ∷ [] }) ∷ [] }

-- the kind that a word names
abbrev pub kind_of : Token → Option Kind
kind_of = row_of is_word ((words.Integer, kinds.Int) ∷ (words.Bigint, kinds.Big) ∷ (words.Text, kinds.Text) ∷ (words.Boolean, kinds.Bool) ∷ [])

abbrev pub placed : List ℕ → At Token → Placed
placed name token = record { name = name; place = token.span.start }

pub data AddsColumn : List Placed → Tokens → List Placed → Type 0 where
  adds_column : (columns : List Placed) (token : At Token) (name : List ℕ) →
      Names name token →
      AddsColumn columns (token ∷ []) (columns ++ placed name token ∷ [])

-- {column_constraint}: NOT NULL, PRIMARY KEY or UNIQUE, each behind the ones said before
pub data Says (column : Placed) : Constraints → Tokens → Constraints → Type 0 where
  no_more : (said : Constraints) → Says column said [] said
  not_null : (said all : Constraints) (not_word null : At Token) (others : Tokens) →
      Key words.Not not_word → Key words.Null null → Says column (record { not_null = true; keys = said.keys }) others all →
      Says column said (not_word ∷ null ∷ others) all
  primary_key : (said all : Constraints) (primary key : At Token) (others : Tokens) →
      Key words.Primary primary → Key words.Key key → Says column (key_limit true column said) others all →
      Says column said (primary ∷ key ∷ others) all
  unique_key : (said all : Constraints) (unique : At Token) (others : Tokens) →
      Key words.Unique unique → Says column (key_limit false column said) others all →
      Says column said (unique ∷ others) all

-- column_name data_type {column_constraint} | (PRIMARY KEY | UNIQUE) "(" column_name {"," column_name} ")"
pub data AddsPart : TableRead → Tokens → TableRead → Type 0 where
  a_column : (table : TableRead) (column data_type : At Token) (name : List ℕ) (kind : Kind) (constraints : Tokens) (said : Constraints) →
      Names name column → kind_of data_type.tok ≡ Some kind → Says (placed name column) (record { not_null = false; keys = table.keys }) constraints said →
      AddsPart table (column ∷ data_type ∷ constraints) (with_column (placed name column) kind said table)
  a_primary : (table : TableRead) (primary key opening closing : At Token) (list : Tokens) (columns : List Placed) →
      Key words.Primary primary → Key words.Key key → Sign signs.Open opening → Commas AddsColumn [] list columns → Sign signs.Close closing →
      AddsPart table (primary ∷ key ∷ opening ∷ (list ++ closing ∷ [])) (with_key true columns table)
  a_unique : (table : TableRead) (unique opening closing : At Token) (list : Tokens) (columns : List Placed) →
      Key words.Unique unique → Sign signs.Open opening → Commas AddsColumn [] list columns → Sign signs.Close closing →
      AddsPart table (unique ∷ opening ∷ (list ++ closing ∷ [])) (with_key false columns table)

-- ---- INSERT, UPDATE and DELETE

pub data AddsValue (E : Tokens → Tree → Type 0) : List Tree → Tokens → List Tree → Type 0 where
  adds_value : (values : List Tree) (expression : Tokens) (value : Tree) → E expression value → AddsValue E values expression (values ++ value ∷ [])

-- "(" expression {"," expression} ")"
pub data RowIs (E : Tokens → Tree → Type 0) : Tokens → List Tree → Type 0 where
  is_row : (opening closing : At Token) (list : Tokens) (values : List Tree) →
      Sign signs.Open opening → Commas (AddsValue E) [] list values → Sign signs.Close closing →
      RowIs E (opening ∷ (list ++ closing ∷ [])) values

-- the rows of VALUES so far, and how many values each has to have
pub record Rows : Type 0 where
  pub rows : List (List Tree)
  pub width : Option ℕ

abbrev pub with_row : Rows → List Tree → Rows
with_row s es = record { rows = s.rows ++ es ∷ []; width = Some (length es) }

-- no row yet, each of which has as many values as columns are listed
abbrev pub no_rows : Option (List (List ℕ)) → Rows
no_rows columns = record { rows = []; width = option_map length columns }

pub data AddsRow (E : Tokens → Tree → Type 0) : Rows → Tokens → Rows → Type 0 where
  adds_row : (rows : Rows) (row : Tokens) (values : List Tree) → RowIs E row values → AddsRow E rows row (with_row rows values)

-- ["(" column_name {"," column_name} ")"]
pub data ColumnsAre : Tokens → Option (List (List ℕ)) → Type 0 where
  unlisted : ColumnsAre [] None
  listed_columns : (opening closing : At Token) (list : Tokens) (names : List (List ℕ)) →
      Sign signs.Open opening → Commas AddsName [] list names → Sign signs.Close closing →
      ColumnsAre (opening ∷ (list ++ closing ∷ [])) (Some names)

-- column_name "=" expression
pub data AddsSet (E : Tokens → Tree → Type 0) : List SetTree → Tokens → List SetTree → Type 0 where
  adds_set : (sets : List SetTree) (column equals : At Token) (name : List ℕ) (expression : Tokens) (value : Tree) →
      Names name column → Sign signs.Equal equals → E expression value →
      AddsSet E sets (column ∷ equals ∷ expression) (sets ++ (record { column = name; value = value }) ∷ [])

-- [WHERE condition]
pub data WhereIs (E : Tokens → Tree → Type 0) : Tokens → Option Tree → Type 0 where
  unfiltered : WhereIs E [] None
  filtered : (where_word : At Token) (condition : Tokens) (filter : Tree) →
      Key words.Where where_word → E condition filter →
      WhereIs E (where_word ∷ condition) (Some filter)

-- ---- SELECT

-- [[AS] output_name]
pub data AliasIs : Tokens → Option (List ℕ) → Type 0 where
  no_alias : AliasIs [] None
  as_alias : (as_word token : At Token) (name : List ℕ) → Key words.As as_word → Names name token → AliasIs (as_word ∷ token ∷ []) (Some name)
  bare_alias : (token : At Token) (name : List ℕ) → Names name token → AliasIs (token ∷ []) (Some name)

-- COUNT "(" "*" ")" | (COUNT | SUM | MIN | MAX) "(" expression ")" (4.2.7)
pub data AggIs (E : Tokens → Tree → Type 0) : Tokens → AggTree → Type 0 where
  all_rows : (count opening star closing : At Token) →
      agg_kind count.tok ≡ Some aggs.Count → Sign signs.Open opening → Sign signs.Star star → Sign signs.Close closing →
      AggIs E (count ∷ opening ∷ star ∷ closing ∷ []) CountRows
  of_values : (aggregate opening closing : At Token) (kind : AggKind) (expression : Tokens) (value : Tree) →
      agg_kind aggregate.tok ≡ Some kind → Sign signs.Open opening → E expression value → Sign signs.Close closing →
      AggIs E (aggregate ∷ opening ∷ (expression ++ closing ∷ [])) (Of kind value)

-- "*" | (expression | aggregate) [[AS] output_name]
pub data AddsItem (E : Tokens → Tree → Type 0) : List ItemTree → Tokens → List ItemTree → Type 0 where
  a_star : (items : List ItemTree) (star : At Token) → Sign signs.Star star → AddsItem E items (star ∷ []) (items ++ All ∷ [])
  a_value : (items : List ItemTree) (expression alias : Tokens) (value : Tree) (name : Option (List ℕ)) →
      E expression value → AliasIs alias name →
      AddsItem E items (expression ++ alias) (items ++ Value value name ∷ [])
  an_aggregate : (items : List ItemTree) (call alias : Tokens) (aggregate : AggTree) (name : Option (List ℕ)) →
      AggIs E call aggregate → AliasIs alias name →
      AddsItem E items (call ++ alias) (items ++ Aggregate aggregate name ∷ [])

-- [FROM table_name]
pub data FromIs : Tokens → Option (List ℕ) → Type 0 where
  no_table : FromIs [] None
  from_table : (from token : At Token) (name : List ℕ) → Key words.From from → Names name token → FromIs (from ∷ token ∷ []) (Some name)

-- [ASC | DESC]: whether sorting goes down
pub data DirectionIs : Tokens → Bool → Type 0 where
  as_ever : DirectionIs [] false
  ascending : (asc : At Token) → Key words.Asc asc → DirectionIs (asc ∷ []) false
  descending : (desc : At Token) → Key words.Desc desc → DirectionIs (desc ∷ []) true

-- [NULLS (FIRST | LAST)]: whether NULL comes first, as it does where sorting goes down and nothing is said
pub data NullsAre (down : Bool) : Tokens → Bool → Type 0 where
  unsaid : NullsAre down [] down
  nulls_first : (nulls first : At Token) → Key words.Nulls nulls → Key words.First first → NullsAre down (nulls ∷ first ∷ []) true
  nulls_last : (nulls last : At Token) → Key words.Nulls nulls → Key words.Last last → NullsAre down (nulls ∷ last ∷ []) false

-- expression [ASC | DESC] [NULLS (FIRST | LAST)] (7.5)
pub data AddsKey (E : Tokens → Tree → Type 0) : List OrderTree → Tokens → List OrderTree → Type 0 where
  adds_key : (keys : List OrderTree) (expression direction nulls : Tokens) (value : Tree) (desc nulls_first : Bool) →
      E expression value → DirectionIs direction desc → NullsAre desc nulls nulls_first →
      AddsKey E keys (expression ++ (direction ++ nulls)) (keys ++ (record { expr = value; dir = record { desc = desc; nulls_first = nulls_first } }) ∷ [])

-- [ORDER BY sort_key {"," sort_key}]
pub data OrderIs (E : Tokens → Tree → Type 0) : Tokens → List OrderTree → Type 0 where
  unordered : OrderIs E [] []
  ordered : (order by : At Token) (list : Tokens) (keys : List OrderTree) →
      Key words.Order order → Key words.By by → Commas (AddsKey E) [] list keys →
      OrderIs E (order ∷ by ∷ list) keys

-- UPDATE | NO KEY UPDATE | SHARE | KEY SHARE (13.3.2)
pub data StrengthIs : Tokens → Strength → Type 0 where
  for_update : (update : At Token) → Key words.Update update → StrengthIs (update ∷ []) strengths.Update
  for_no_key_update : (no key update : At Token) → Key words.No no → Key words.Key key → Key words.Update update → StrengthIs (no ∷ key ∷ update ∷ []) strengths.NoKeyUpdate
  for_share : (share : At Token) → Key words.Share share → StrengthIs (share ∷ []) strengths.Share
  for_key_share : (key share : At Token) → Key words.Key key → Key words.Share share → StrengthIs (key ∷ share ∷ []) strengths.KeyShare

-- [NOWAIT | SKIP LOCKED]
pub data PolicyIs : Tokens → Policy → Type 0 where
  wait : PolicyIs [] policies.Wait
  no_wait : (nowait : At Token) → Key words.NoWait nowait → PolicyIs (nowait ∷ []) policies.NoWait
  skip_locked : (skip locked : At Token) → Key words.Skip skip → Key words.Locked locked → PolicyIs (skip ∷ locked ∷ []) policies.SkipLocked

-- [FOR strength [NOWAIT | SKIP LOCKED]]
pub data LockIs : Tokens → Option Lock → Type 0 where
  no_lock : LockIs [] None
  locks : (for_word : At Token) (strength_part policy_part : Tokens) (strength : Strength) (policy : Policy) →
      Key words.For for_word → StrengthIs strength_part strength → PolicyIs policy_part policy →
      LockIs (for_word ∷ (strength_part ++ policy_part)) (Some (record { strength = strength; policy = policy }))

-- [ON CONFLICT DO NOTHING] (INSERT)
pub data ConflictIs : Tokens → Bool → Type 0 where
  fails : ConflictIs [] false
  does_nothing : (on conflict does nothing : At Token) → Key words.On on → Key words.Conflict conflict → Key words.Do does → Key words.Nothing nothing →
      ConflictIs (on ∷ conflict ∷ does ∷ nothing ∷ []) true

-- "*" | expression [[AS] output_name]
pub data AddsReturned (E : Tokens → Tree → Type 0) : List ItemTree → Tokens → List ItemTree → Type 0 where
  returns_all : (items : List ItemTree) (star : At Token) → Sign signs.Star star → AddsReturned E items (star ∷ []) (items ++ All ∷ [])
  returns_value : (items : List ItemTree) (expression alias : Tokens) (value : Tree) (name : Option (List ℕ)) →
      E expression value → AliasIs alias name →
      AddsReturned E items (expression ++ alias) (items ++ Value value name ∷ [])

-- [RETURNING item {"," item}] (6.4)
pub data ReturningIs (E : Tokens → Tree → Type 0) : Tokens → Option (List ItemTree) → Type 0 where
  returns_nothing : ReturningIs E [] None
  returns : (returning : At Token) (list : Tokens) (items : List ItemTree) →
      Key words.Returning returning → Commas (AddsReturned E) [] list items → ReturningIs E (returning ∷ list) (Some items)

-- ---- statements

pub data Spells (E : Tokens → Tree → Type 0) : Tokens → StmtTree → Type 0 where
  -- BEGIN [WORK | TRANSACTION] [transaction_mode]
  begin : (begin_word : At Token) (work mode : Tokens) (level : Option Level) →
      Key words.Begin begin_word → Perhaps is_work work → MaybeLevel mode level →
      Spells E (begin_word ∷ (work ++ mode)) (Begin level)
  -- START TRANSACTION [transaction_mode]
  start : (start_word transaction : At Token) (mode : Tokens) (level : Option Level) →
      Key words.Start start_word → Key words.Transaction transaction → MaybeLevel mode level →
      Spells E (start_word ∷ transaction ∷ mode) (Begin level)
  -- (COMMIT | END) [WORK | TRANSACTION]
  commit : (word : At Token) (work : Tokens) → Key words.Commit word → Perhaps is_work work → Spells E (word ∷ work) Commit
  end : (word : At Token) (work : Tokens) → Key words.End word → Perhaps is_work work → Spells E (word ∷ work) Commit
  -- (ROLLBACK | ABORT) [WORK | TRANSACTION]
  rollback : (word : At Token) (work : Tokens) → Key words.Rollback word → Perhaps is_work work → Spells E (word ∷ work) Rollback
  abort : (word : At Token) (work : Tokens) → Key words.Abort word → Perhaps is_work work → Spells E (word ∷ work) Rollback
  -- SET TRANSACTION transaction_mode
  set_transaction : (set_word transaction : At Token) (mode : Tokens) (level : Level) →
      Key words.Set set_word → Key words.Transaction transaction → IsolationIs mode level →
      Spells E (set_word ∷ transaction ∷ mode) (SetTransaction level)
  -- SET [SESSION | LOCAL] deadlock_timeout (TO | "=") (number | string) (19.12)
  set_timeout : (set_word timeout to setting : At Token) (scope : Tokens) →
      Key words.Set set_word → Perhaps is_scope scope → Key words.DeadlockTimeout timeout → Is is_to to → Is is_setting setting →
      Spells E (set_word ∷ (scope ++ timeout ∷ to ∷ setting ∷ [])) SetDeadlockTimeout
  -- CREATE TABLE table_name "(" part {"," part} ")"
  create : (create_word table token opening closing : At Token) (name : List ℕ) (list : Tokens) (parts : TableRead) →
      Key words.Create create_word → Key words.Table table → Names name token → Sign signs.Open opening → Commas AddsPart empty_table list parts → Sign signs.Close closing →
      Spells E (create_word ∷ table ∷ token ∷ opening ∷ (list ++ closing ∷ [])) (created name parts)
  -- DROP TABLE [IF EXISTS] name {"," name}
  drop : (drop_word table : At Token) (list : Tokens) (names : List (List ℕ)) →
      Key words.Drop drop_word → Key words.Table table → Commas AddsName [] list names →
      Spells E (drop_word ∷ table ∷ list) (DropTables (record { if_exists = false; names = names }))
  drop_if : (drop_word table if_word exists : At Token) (list : Tokens) (names : List (List ℕ)) →
      Key words.Drop drop_word → Key words.Table table → Key words.If if_word → Key words.Exists exists → Commas AddsName [] list names →
      Spells E (drop_word ∷ table ∷ if_word ∷ exists ∷ list) (DropTables (record { if_exists = true; names = names }))
  -- INSERT INTO table_name ["(" column_name {"," column_name} ")"] VALUES row {"," row} [ON CONFLICT DO NOTHING] [RETURNING item {"," item}]
  insert : (insert_word into token values : At Token) (table : List ℕ) (listed list conflict_part returning_part : Tokens) (columns : Option (List (List ℕ))) (rows : Rows)
      (do_nothing : Bool) (returning : Option (List ItemTree)) →
      Key words.Insert insert_word → Key words.Into into → Names table token → ColumnsAre listed columns → Key words.Values values →
      Commas (AddsRow E) (no_rows columns) list rows → ConflictIs conflict_part do_nothing → ReturningIs E returning_part returning →
      Spells E (insert_word ∷ into ∷ token ∷ (listed ++ values ∷ (list ++ (conflict_part ++ returning_part))))
      (Inserts (record { table = table; columns = columns; rows = rows.rows; do_nothing = do_nothing; returning = returning }))
  -- UPDATE table_name SET column_name "=" expression {"," column_name "=" expression} [WHERE condition] [RETURNING item {"," item}]
  update : (update_word token set_word : At Token) (table : List ℕ) (list where_part returning_part : Tokens) (sets : List SetTree) (filter : Option Tree)
      (returning : Option (List ItemTree)) →
      Key words.Update update_word → Names table token → Key words.Set set_word → Commas (AddsSet E) [] list sets → WhereIs E where_part filter → ReturningIs E returning_part returning →
      Spells E (update_word ∷ token ∷ set_word ∷ (list ++ (where_part ++ returning_part))) (Updates (record { table = table; sets = sets; filter = filter; returning = returning }))
  -- DELETE FROM table_name [WHERE condition] [RETURNING item {"," item}]
  delete : (delete_word from token : At Token) (table : List ℕ) (where_part returning_part : Tokens) (filter : Option Tree) (returning : Option (List ItemTree)) →
      Key words.Delete delete_word → Key words.From from → Names table token → WhereIs E where_part filter → ReturningIs E returning_part returning →
      Spells E (delete_word ∷ from ∷ token ∷ (where_part ++ returning_part)) (Deletes (record { table = table; filter = filter; returning = returning }))
  -- SELECT item {"," item} [FROM table_name] [WHERE condition] [ORDER BY sort_key {"," sort_key}] [FOR strength [NOWAIT | SKIP LOCKED]]
  select : (select_word : At Token) (list from_part where_part order_part lock_part : Tokens)
      (items : List ItemTree) (table : Option (List ℕ)) (filter : Option Tree) (order : List OrderTree) (lock : Option Lock) →
      Key words.Select select_word → Commas (AddsItem E) [] list items →
      FromIs from_part table → WhereIs E where_part filter → OrderIs E order_part order → LockIs lock_part lock →
      Spells E (select_word ∷ (list ++ (from_part ++ (where_part ++ (order_part ++ lock_part)))))
      (Selects (record { items = items; table = table; filter = filter; order = order; lock = lock }))

-- ---- blocks

-- [statement]
pub data PieceIs (E : Tokens → Tree → Type 0) : Tokens → List StmtTree → Type 0 where
  no_stmt : PieceIs E [] []
  a_stmt : (tokens : Tokens) (statement : StmtTree) → Spells E tokens statement → PieceIs E tokens (statement ∷ [])

-- [statement] {";" [statement]}
pub data BlockIs (E : Tokens → Tree → Type 0) : Tokens → List StmtTree → Type 0 where
  last_piece : (piece : Tokens) (statements : List StmtTree) → PieceIs E piece statements → BlockIs E piece statements
  next_piece : (piece behind : Tokens) (statements others : List StmtTree) (semicolon : At Token) →
      PieceIs E piece statements → Sign signs.Semicolon semicolon → BlockIs E behind others →
      BlockIs E (piece ++ semicolon ∷ behind) (statements ++ others)

-- {[statement] ";"}: statements with a semicolon behind each
pub data EndedAre (E : Tokens → Tree → Type 0) : Tokens → List StmtTree → Type 0 where
  no_pieces : EndedAre E [] []
  ended_piece : (piece behind : Tokens) (statements others : List StmtTree) (semicolon : At Token) →
      PieceIs E piece statements → Sign signs.Semicolon semicolon → EndedAre E behind others →
      EndedAre E (piece ++ semicolon ∷ behind) (statements ++ others)

-- ---- expressions

-- the tokens spell the expression, no deeper than 64 and with no more than 64 openings within one another
abbrev pub Shallow : Tokens → Tree → Type 0
Shallow tokens tree = (depth : ℕ) × SpellsIn MAX_DEPTH MAX_DEPTH OR tokens tree depth

-- the tokens spell the expression, whatever its depth
abbrev pub OfAnyDepth : Tokens → Tree → Type 0
OfAnyDepth tokens tree = (limit room depth : ℕ) × SpellsIn limit room OR tokens tree depth
