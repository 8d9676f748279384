-- Reading as the code does it: it has counts of what stands before, and tells what stops it apart from where it stops; the place is put in behind all.
use Rattle.std.specs.Prelude.{ℕ, zero, suc, Bool, true, false, List, [], ◌∷◌, length, ◌+◌, nat_lt, Option, Some, None, unwrap_or, Result, Ok, Err, if◌then◌else◌}
use Rattle.std.specs.Option.{option_map_or}
use Rattle.iso_lexer.specs.declared.limits.TheConstants.{MOST_ENTRIES, MOST_SESSIONS, MOST_STEPS}
use Rattle.iso_lexer.specs.declared.token.At.{At}
use Rattle.iso_lexer.specs.declared.spec_token.Keyword.{Keyword}
use Rattle.iso_lexer.specs.declared.spec_token.Keyword.TheVariants.{Permutation, Session, Setup, Step, Teardown, Notices}
use Rattle.iso_lexer.specs.declared.spec_token.Sign.TheVariants.{Open, Close, Comma, Star}
use Rattle.iso_lexer.specs.SpecTokens.{SpecToken}
use Rattle.iso_lexer.specs.Readers.{place_of}
use Rattle.spec_parser.specs.declared.fault.What.{What}
use Rattle.spec_parser.specs.declared.fault.What.TheVariants as what
use Rattle.spec_parser.specs.declared.fault.Stop.{Stop}
use Rattle.spec_parser.specs.declared.fault.Stop.TheVariants.{Expected, NoticesLeftOut, OverLimit}
use Rattle.spec_parser.specs.Trees.{PartTree, NameAt, StepOf, SessionOf, MarkerTree, star, named, NamedEntry, FileTree, SpecTree}
use Rattle.spec_parser.specs.declared.fault.SpecFault.{SpecFault}
use Rattle.spec_parser.specs.Counts.{Counts, past_token}
use Rattle.spec_parser.specs.Grammar.{a_name, a_block, is_keyword, is_mark, is_name}
use Rattle.spec_parser.specs.Faults.{stopped}
use Rattle.spec_parser.specs.Inner.Known.{known_spec}

infixr 10 ◌>>=◌
infixr 10 ◌>>◌
-- what is left of a file: what stands before, and the tokens
abbrev pub Rest : Type 0
Rest = Counts × List (At SpecToken)

-- a value, or why reading stops before the first token of the rest; and the rest
abbrev pub Read : Type 0 → Type 0
Read A = Result A Stop × Rest

-- what reads a value
abbrev pub StoppingReader : Type 0 → Type 0
StoppingReader A = Rest → Read A

-- what is made of a value and of what is left behind it; a stop stays
abbrev pub and_then : {A B : Type 0} → Read A → (A × Rest → Read B) → Read B
and_then (Ok x, rest) f = f (x, rest)
and_then (Err s, rest) f = (Err s, rest)

-- One reader, and behind it the one that its value chooses. A do block has a line for each; there (← r) is the value that r reads, behind those before it.
abbrev pub ◌>>=◌ : {A B : Type 0} → StoppingReader A → (A → StoppingReader B) → StoppingReader B
◌>>=◌ first next_token r = and_then (first r) (λ x. next_token x.0 x.1)

-- one reader, and another behind it
abbrev pub ◌>>◌ : {A B : Type 0} → StoppingReader A → StoppingReader B → StoppingReader B
◌>>◌ first next_token r = and_then (first r) (λ x. next_token x.1)

-- this value, for which nothing is read
abbrev pub gives : {A : Type 0} → A → StoppingReader A
gives x r = (Ok x, r)

-- the place of a stop in a file of this many bytes: that of the token, or the end
abbrev pub place : ℕ → List (At SpecToken) → ℕ
place end ts = place_of end ts

-- ---- one token

-- a token of this kind stands next
abbrev pub starts : (SpecToken → Bool) → Rest → Bool
starts p (c, []) = false
starts p (c, t ∷ ts) = p t.tok

-- what the next token says, or w, which is expected there
abbrev pub token_at : {A : Type 0} → (Counts → At SpecToken → Option A) → What → StoppingReader A
token_at says w (c, []) = (Err (Expected w), (c, []))
token_at says w (c, t ∷ ts) = option_map_or (λ x. (Ok x, (past_token t.tok c, ts))) (says c t) (Err (Expected w), (c, t ∷ ts))

-- a token of this kind, or what is expected there
unfoldable pub next_token : (SpecToken → Bool) → What → StoppingReader (Unit {0})
next_token p = token_at (λ c t. if p t.tok then Some tt else None)

-- a word with which an item of the file begins
abbrev pub word : Keyword → StoppingReader (Unit {0})
word k = next_token (is_keyword k) what.Item

unfoldable pub name_next : What → StoppingReader NameAt
name_next = token_at a_name

unfoldable pub block_next : StoppingReader PartTree
block_next = token_at a_block what.Block

-- the end of the file
unfoldable pub end_at : StoppingReader (Unit {0})
end_at r = if starts (λ t. true) r then (Err (Expected what.Item), r) else (Ok tt, r)

-- the name of a thing behind so many others of its kind, of which there may be `most`
unfoldable pub name_within : ℕ → ℕ → StoppingReader NameAt
name_within before most r = if nat_lt before most then name_next what.Name r else (if starts is_name r then (Err OverLimit, r) else (Err (Expected what.Name), r))

-- ---- several things

-- as many as start here, one after another: item k reads the one behind k others, and there are at most n
unfoldable pub many_at : {A : Type 0} → (Rest → Bool) → (ℕ → StoppingReader A) → ℕ → ℕ → StoppingReader (List A)
many_at begins item k zero r = (Ok [], r)
many_at begins item k (suc n) r = if begins r then (item k >>= λ x. many_at begins item (k + 1) n >>= λ xs. gives (x ∷ xs)) r else (Ok [], r)

-- each takes a token at least
unfoldable pub all_at : {A : Type 0} → (Rest → Bool) → (ℕ → StoppingReader A) → StoppingReader (List A)
all_at begins item r = many_at begins item 0 (length r.1) r

-- one at least; w is what is expected where none starts
unfoldable pub some_at : {A : Type 0} → What → (Rest → Bool) → (ℕ → StoppingReader A) → StoppingReader (List A)
some_at w begins item r = if begins r then all_at begins item r else (Err (Expected w), r)

-- one, if it starts here
unfoldable pub maybe_at : {A : Type 0} → (Rest → Bool) → StoppingReader A → StoppingReader (Option A)
maybe_at begins item r = if begins r then (item >>= λ x. gives (Some x)) r else (Ok None, r)

-- ---- the parts of a file

-- "setup" block, or "teardown" block
unfoldable pub block_after : Keyword → StoppingReader PartTree
block_after k = word k >> block_next

-- the same, or nothing
unfoldable pub maybe_block : Keyword → StoppingReader (Option PartTree)
maybe_block k = maybe_at (starts (is_keyword k)) (block_after k)

-- "step" name block; a file has at most 1,000
unfoldable pub step_at : StoppingReader (StepOf NameAt)
step_at r = (word Step >> name_within r.0.steps MOST_STEPS >>= λ n. block_next >>= λ b. gives (record { name = n; part = b })) r

-- "session" name ["setup" block] step+ ["teardown" block]; a file has at most 64
unfoldable pub session_at : StoppingReader (SessionOf NameAt)
session_at r = (word Session >> do
  n ← name_within r.0.sessions MOST_SESSIONS
  setup ← maybe_block Setup
  steps ← some_at what.Step (starts (is_keyword Step)) (λ k. step_at)
  gives (record { name = n; setup = setup; steps = steps; teardown = (← maybe_block Teardown) })) r

-- a marker that is a name; `notices` may not follow it
unfoldable pub no_notices : NameAt → StoppingReader MarkerTree
no_notices n r = if starts (is_keyword Notices) r then (Err NoticesLeftOut, r) else (Ok (named n), r)

-- "*" or a name
unfoldable pub marker_at : StoppingReader MarkerTree
marker_at r = if starts (is_mark Star) r then (next_token (is_mark Star) what.Marker >> gives star) r else (name_next what.Marker >>= no_notices) r

-- "(" marker {"," marker} ")"
unfoldable pub markers_at : StoppingReader (List MarkerTree)
markers_at = next_token (is_mark Open) what.Item >> do
  m ← marker_at
  others ← all_at (starts (is_mark Comma)) (λ k. next_token (is_mark Comma) what.CommaOrClose >> marker_at)
  next_token (is_mark Close) what.CommaOrClose
  gives (m ∷ others)

-- name [markers], behind k other entries; a permutation has at most 1,000
unfoldable pub entry_at : ℕ → StoppingReader NamedEntry
entry_at k = name_within k MOST_ENTRIES >>= λ n. maybe_at (starts (is_mark Open)) markers_at >>= λ ms. gives (record { name = n; markers = unwrap_or ms [] })

-- "permutation" entry+
unfoldable pub perm_at : StoppingReader (List NamedEntry)
perm_at = word Permutation >> some_at what.Name (starts is_name) entry_at

-- {"setup" block} ["teardown" block] session+ {perm}, and nothing else
unfoldable pub file_at : StoppingReader FileTree
file_at = do
  setups ← all_at (starts (is_keyword Setup)) (λ k. block_after Setup)
  teardown ← maybe_block Teardown
  sessions ← some_at what.Session (starts (is_keyword Session)) (λ k. session_at)
  perms ← all_at (starts (is_keyword Permutation)) (λ k. perm_at)
  end_at >> gives (record { setups = setups; teardown = teardown; sessions = sessions; perms = perms })

-- ---- the whole

-- what was read, in a file of so many bytes, with the place of a stop put in
abbrev pub told : {A : Type 0} → ℕ → Read A → Result (A × Rest) SpecFault
told end (Ok x, rest) = Ok (x, rest)
told end (Err stop, rest) = Err (stopped stop (place end rest.1))

-- the same, with the file's names looked up
abbrev pub finished : ℕ → Read FileTree → Result SpecTree SpecFault
finished end (Ok file, rest) = known_spec file
finished end (Err stop, rest) = Err (stopped stop (place end rest.1))
