-- To be believed. Reading tokens from left to right, up to the first one that may not stand there: words of reading, and the parts of a file.
use Rattle.std.specs.Prelude.{ℕ, zero, suc, ◌+◌, nat_le, List, [], ◌∷◌, ◌++◌, length, count_by, is_some, Option, Some, None, Ok, Err, if◌then◌else◌}
use Rattle.std.specs.Option.{option_map_or}
use denote.Enum.Bare.{sameb}
use Rattle.iso_lexer.specs.declared.limits.TheConstants.{MOST_ENTRIES, MOST_SESSIONS, MOST_STEPS}
use Rattle.iso_lexer.specs.declared.token.At.{At}
use Rattle.iso_lexer.specs.declared.spec_token.Keyword.{Keyword}
use Rattle.iso_lexer.specs.declared.spec_token.Keyword.TheVariants.{Permutation, Session, Setup, Step, Teardown, Notices}
use Rattle.iso_lexer.specs.contracts.spec_token.Keyword.{the_type as words}
use Rattle.iso_lexer.specs.declared.spec_token.Sign.{Sign}
use Rattle.iso_lexer.specs.declared.spec_token.Sign.TheVariants.{Open, Close, Comma, Star}
use Rattle.iso_lexer.specs.contracts.spec_token.Sign.{the_type as signs}
use Rattle.iso_lexer.specs.SpecTokens.{SpecToken, keyword, name, sign, block}
use Rattle.iso_lexer.specs.Readers.{ReaderOf, ◌>>=◌, gives, place_of}
use Rattle.spec_parser.specs.declared.fault.What.{What}
use Rattle.spec_parser.specs.declared.fault.What.TheVariants as what
use Rattle.spec_parser.specs.declared.fault.SpecFault.{SpecFault}
use Rattle.spec_parser.specs.declared.fault.SpecFault.TheVariants.{Expected, NoticesLeftOut, Limit}
use Rattle.spec_parser.specs.Trees.{PartTree, NameAt, StepOf, SessionOf, MarkerTree, star, named, NamedEntry, FileTree}

-- what reads a part of a file: of the tokens before it, and those from here on
abbrev pub SpecReader : Type 0 → Type 0
SpecReader A = ReaderOf (List (At SpecToken) × List (At SpecToken)) SpecFault A

-- ---- one token

-- a kind of tokens, by what each of them says
abbrev pub TokenKind : Type 0 → Type 0
TokenKind A = At SpecToken → Option A

-- this word, by where it stands, and this sign
abbrev pub the_word : Keyword → TokenKind ℕ
the_word k t = elim t.tok [ keyword j ↦ if sameb words j k then Some t.span.start else None | _ ↦ None ]

abbrev pub the_sign : Sign → TokenKind ℕ
the_sign g t = elim t.tok [ sign h ↦ if sameb signs h g then Some t.span.start else None | _ ↦ None ]

abbrev pub the_name : TokenKind NameAt
the_name t = elim t.tok [ name n ↦ Some (record { name = n; at = t.span.start }) | _ ↦ None ]

-- the block of this number; its text begins behind its brace and blanks
abbrev pub the_block : ℕ → TokenKind PartTree
the_block number t = elim t.tok [ block blanks sql ↦ Some (record { sql = sql; at = t.span.start + 1 + blanks; block = number }) | _ ↦ None ]

-- how many of these tokens are of the kind
abbrev pub count : {A : Type 0} → TokenKind A → List (At SpecToken) → ℕ
count kind ts = count_by (λ t. is_some (kind t)) ts

-- where a token of this kind stands next, what that lets be read behind it, else what others read
abbrev pub if_next : {A B : Type 0} → TokenKind A → (A → SpecReader B) → SpecReader B → SpecReader B
if_next kind behind others (before, []) = others (before, [])
if_next kind behind others (before, t ∷ ts) = option_map_or (λ x. behind x (before ++ t ∷ [], ts)) (kind t) (others (before, t ∷ ts))

-- ---- several things

-- items one after another, as long as a token of this kind stands next: item k is read behind it, there are n at most, and `none` is read where the first isn't there
unfoldable pub many_from : {A B : Type 0} → TokenKind A → (ℕ → A → SpecReader B) → ℕ → ℕ → SpecReader (List B) → SpecReader (List B)
many_from kind item k zero none = none
many_from kind item k (suc n) none = if_next kind (λ x. item k x >>= λ y. many_from kind item (k + 1) n (gives []) >>= λ ys. gives (y ∷ ys)) none

-- the items from number 1 on, each of a token at least
abbrev pub many_of : {A B : Type 0} → TokenKind A → (ℕ → A → SpecReader B) → SpecReader (List B) → SpecReader (List B)
many_of kind item none r = many_from kind item 1 (length r.1) none r

-- the name of a thing of this number, of which there may be so many at most
abbrev pub at_most : ℕ → ℕ → NameAt → SpecReader NameAt
at_most most number n r = if nat_le number most then Ok (n, r) else Err (Limit n.at)

-- ---- the parts of a file, in a text of so many bytes

module _ (last : ℕ) where
  -- nothing but this is expected here
  abbrev pub expected : {A : Type 0} → What → SpecReader A
  expected w r = Err (Expected w (place_of last r.1))

  abbrev pub one_token : {A : Type 0} → TokenKind A → What → SpecReader A
  one_token kind w = if_next kind gives (expected w)

  -- a block; its number is how many stand before it
  abbrev pub spec_block : SpecReader PartTree
  spec_block r = one_token (the_block (count (the_block 0) r.0)) what.Block r

  -- "setup" block, or "teardown" block; or nothing
  unfoldable pub maybe_block : Keyword → SpecReader (Option PartTree)
  maybe_block k = if_next (the_word k) (λ at. spec_block >>= λ b. gives (Some b)) (gives None)

  -- behind "step": name block; a file has at most 1,000
  unfoldable pub step_at : SpecReader (StepOf NameAt)
  step_at r = (do gives (record { name = (← one_token the_name what.Name >>= at_most MOST_STEPS (count (the_word Step) r.0)); part = (← spec_block) })) r

  -- behind "session": name ["setup" block] step+ ["teardown" block]; a file has at most 64
  unfoldable pub session_at : SpecReader (SessionOf NameAt)
  session_at r = (do
    n ← one_token the_name what.Name >>= at_most MOST_SESSIONS (count (the_word Session) r.0)
    setup ← maybe_block Setup
    steps ← many_of (the_word Step) (λ k at. step_at) (expected what.Step)
    gives (record { name = n; setup = setup; steps = steps; teardown = (← maybe_block Teardown) })) r

  -- "*" or a name, which `notices` may not follow
  unfoldable pub marker_at : SpecReader MarkerTree
  marker_at = if_next (the_sign Star) (λ at. gives star)
      (one_token the_name what.Marker >>= λ n. if_next (the_word Notices) (λ at r. Err (NoticesLeftOut at)) (gives (named n)))

  -- behind "(": marker {"," marker} ")"
  unfoldable pub markers_at : SpecReader (List MarkerTree)
  markers_at = do
    m ← marker_at
    others ← many_of (the_sign Comma) (λ k at. marker_at) (gives [])
    closed ← one_token (the_sign Close) what.CommaOrClose
    gives (m ∷ others)

  -- behind the name of entry k: [markers]; a permutation has at most 1,000
  unfoldable pub entry_at : ℕ → NameAt → SpecReader NamedEntry
  entry_at k n = do gives (record { name = (← at_most MOST_ENTRIES k n); markers = (← if_next (the_sign Open) (λ at. markers_at) (gives [])) })

  -- {"setup" block} ["teardown" block] session+ {"permutation" entry+}, and nothing else
  unfoldable pub file_at : SpecReader FileTree
  file_at = do
    setups ← many_of (the_word Setup) (λ k at. spec_block) (gives [])
    teardown ← maybe_block Teardown
    sessions ← many_of (the_word Session) (λ k at. session_at) (expected what.Session)
    perms ← many_of (the_word Permutation) (λ k at. many_of the_name entry_at (expected what.Name)) (gives [])
    if_next Some (λ t r. Err (Expected what.Item t.span.start)) (gives (record { setups = setups; teardown = teardown; sessions = sessions; perms = perms }))
