-- The grammar of spec files (README of src/test/isolation, "Test specification"): one definition for each production.
use Rattle.std.specs.Prelude.{◌≡◌, ◌<◌, Bool, true, false, List, [], ◌∷◌, ◌++◌, length, Option, Some, None, unwrap_or, if◌then◌else◌}
use denote.Enum.Bare.{sameb}
use Rattle.iso_lexer.specs.declared.token.At.{At}
use Rattle.iso_lexer.specs.declared.spec_token.Keyword.{Keyword}
use Rattle.iso_lexer.specs.declared.spec_token.Keyword.TheVariants.{Permutation, Session, Setup, Step, Teardown}
use Rattle.iso_lexer.specs.contracts.spec_token.Keyword.{the_type as words}
use Rattle.iso_lexer.specs.declared.spec_token.Sign.{Sign}
use Rattle.iso_lexer.specs.declared.spec_token.Sign.TheVariants.{Open, Close, Comma, Star}
use Rattle.iso_lexer.specs.contracts.spec_token.Sign.{the_type as signs}
use Rattle.iso_lexer.specs.SpecTokens.{SpecToken, keyword, name, sign, block}
use Rattle.spec_parser.specs.Trees.{PartTree, NameAt, StepOf, SessionOf, MarkerTree, star, named, NamedEntry, FileTree}
use Rattle.spec_parser.specs.Counts.{Counts, past}
use Rattle.spec_parser.specs.Reading.{the_name, the_block}

-- which kind a token is of
abbrev pub is_keyword : Keyword → SpecToken → Bool
is_keyword k (keyword j) = sameb words j k
is_keyword k _ = false

abbrev pub is_mark : Sign → SpecToken → Bool
is_mark g (sign h) = sameb signs h g
is_mark g _ = false

abbrev pub is_name : SpecToken → Bool
is_name (name n) = true
is_name _ = false

abbrev pub is_block : SpecToken → Bool
is_block (block blanks sql) = true
is_block _ = false

-- that these tokens, behind what is counted, say this
abbrev pub Grammar : Type 0 → Type 1
Grammar A = Counts → List (At SpecToken) → A → Type 0

-- one thing and then another, which may depend on what the first says
infixl 10 ◌>>=◌
abbrev pub ◌>>=◌ : {A B : Type 0} → Grammar A → (A → Grammar B) → Grammar B
◌>>=◌ {A} {B} G H c ts z = (x : A) × (xs : List (At SpecToken)) × (ys : List (At SpecToken)) × (ts ≡ xs ++ ys) × G c xs x × H x (past c xs) ys z

-- no token
abbrev pub gives : {A : Type 0} → A → Grammar A
gives v c ts x = (ts ≡ []) × (x ≡ v)

-- one token, which says this
abbrev pub one : {A : Type 0} → (Counts → At SpecToken → Option A) → Grammar A
one f c ts x = (t : At SpecToken) × (ts ≡ t ∷ []) × (f c t ≡ Some x)

-- nothing but that the token is this word, or this sign
abbrev pub a_word : Keyword → Counts → At SpecToken → Option (Unit {0})
a_word k c t = if is_keyword k t.tok then Some tt else None

abbrev pub a_sign : Sign → Counts → At SpecToken → Option (Unit {0})
a_sign g c t = if is_mark g t.tok then Some tt else None

-- a name; and a block, whose number is how many stand before it
abbrev pub a_name : Counts → At SpecToken → Option NameAt
a_name c = the_name

abbrev pub a_block : Counts → At SpecToken → Option PartTree
a_block c = the_block c.blocks

-- it, or no token
pub data Maybe {A : Type 0} (G : Grammar A) (c : Counts) : List (At SpecToken) → Option A → Type 0 where
  left_out : Maybe G c [] None
  given : {ts : List (At SpecToken)} {x : A} → G c ts x → Maybe G c ts (Some x)

-- so many, one after another
pub data Many {A : Type 0} (G : Grammar A) : Counts → List (At SpecToken) → List A → Type 0 where
  none : {c : Counts} → Many G c [] []
  more : {c : Counts} {ts : List (At SpecToken)} {x : A} {others : List A} (xs ys : List (At SpecToken)) → ts ≡ xs ++ ys → G c xs x → Many G (past c xs) ys others → Many G c ts (x ∷ others)

-- one at least
abbrev pub some : {A : Type 0} → Grammar A → Grammar (List A)
some G c ts xs = Many G c ts xs × (0 < length xs)

-- one or the other
pub data Either {A : Type 0} (G H : Grammar A) (c : Counts) (ts : List (At SpecToken)) (x : A) : Type 0 where
  first : G c ts x → Either G H c ts x
  second : H c ts x → Either G H c ts x

-- ---- productions

abbrev pub block_behind : Keyword → Grammar PartTree
block_behind k = do
  _ ← one (a_word k)
  one a_block

-- "step" name block
abbrev pub step : Grammar (StepOf NameAt)
step = do
  _ ← one (a_word Step)
  n ← one a_name
  b ← one a_block
  gives (record { name = n; part = b })

-- "session" name ["setup" block] step+ ["teardown" block]
abbrev pub session : Grammar (SessionOf NameAt)
session = do
  _ ← one (a_word Session)
  n ← one a_name
  setup ← Maybe (block_behind Setup)
  steps ← some step
  teardown ← Maybe (block_behind Teardown)
  gives (record { name = n; setup = setup; steps = steps; teardown = teardown })

-- "*" | name
abbrev pub marker : Grammar MarkerTree
marker = Either (one (a_sign Star) >>= λ _. gives star) (one a_name >>= λ n. gives (named n))

-- "(" marker {"," marker} ")"
abbrev pub markers : Grammar (List MarkerTree)
markers = do
  _ ← one (a_sign Open)
  m ← marker
  others ← Many (one (a_sign Comma) >>= λ _. marker)
  _ ← one (a_sign Close)
  gives (m ∷ others)

-- name [markers]
abbrev pub entry : Grammar NamedEntry
entry = do
  n ← one a_name
  ms ← Maybe markers
  gives (record { name = n; markers = unwrap_or ms [] })

-- "permutation" entry+
abbrev pub perm : Grammar (List NamedEntry)
perm = do
  _ ← one (a_word Permutation)
  some entry

-- {"setup" block} ["teardown" block] session+ {perm}
abbrev pub file : Grammar FileTree
file = do
  setups ← Many (block_behind Setup)
  teardown ← Maybe (block_behind Teardown)
  sessions ← some session
  perms ← Many perm
  gives (record { setups = setups; teardown = teardown; sessions = sessions; perms = perms })
