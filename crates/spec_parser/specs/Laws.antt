-- What is so of every list of tokens, and of every text.
use Rattle.std.specs.Prelude.{◌≡◌, ℕ, Bool, true, ◌||◌, List, [], ◌∷◌, ◌++◌, length, Option, Some, None, Result, Ok, Err}
use Rattle.iso_lexer.specs.declared.token.At.{At}
use Rattle.iso_lexer.specs.SpecTokens.{SpecToken}
use Rattle.spec_parser.specs.declared.fault.What.{What}
use Rattle.spec_parser.specs.declared.fault.What.TheVariants as what
use Rattle.spec_parser.specs.declared.fault.Stop.{Stop}
use Rattle.spec_parser.specs.declared.fault.Stop.TheVariants.{Expected, NoticesLeftOut, OverLimit}
use Rattle.spec_parser.specs.declared.fault.SpecFault.{SpecFault}
use Rattle.spec_parser.specs.Trees.{FileTree, SpecTree}
use Rattle.spec_parser.specs.Counts.{start}
use Rattle.iso_lexer.specs.declared.spec_token.Keyword.TheVariants.{Permutation, Session, Setup, Step, Teardown, Notices}
use Rattle.iso_lexer.specs.declared.spec_token.Sign.TheVariants.{Close, Comma, Star}
use Rattle.iso_lexer.specs.Readers.{place_of}
use Rattle.spec_parser.specs.Reading.{file_at}
use Rattle.spec_parser.specs.Faults.{stopped}
use Rattle.iso_lexer.specs.SpecText.{Lexes}
use Rattle.spec_parser.specs.Grammar.{is_keyword, is_mark, is_name, is_block, file}
use Rattle.spec_parser.specs.declared.fault.SpecFault.TheVariants as faults
use Rattle.spec_parser.specs.SpecText.{SpecReads}
use Rattle.spec_parser.specs.IsSpec.{WithinLimits, IsSpec}
use Rattle.spec_parser.specs.LimitFaults.{IsWord, LimitStop, HasLimit}
use Rattle.spec_parser.specs.NameFaults.{HasRepeat, HasUndefined}
use Rattle.spec_parser.specs.Stands.{Stands, LiesIn}

abbrev pub head : List (At SpecToken) → Option (At SpecToken)
head [] = None
head (t ∷ ts) = Some t

-- the token is of the kind that is told as expected; an item of the file begins with one of four words
abbrev pub names_token : What → SpecToken → Bool
names_token what.Session t = is_keyword Session t
names_token what.Step t = is_keyword Step t
names_token what.Name t = is_name t
names_token what.Block t = is_block t
names_token what.Marker t = is_mark Star t || is_name t
names_token what.CommaOrClose t = is_mark Comma t || is_mark Close t
names_token what.Item t = is_keyword Setup t || is_keyword Teardown t || is_keyword Session t || is_keyword Permutation t

-- The tokens before a stop begin a file of the grammar; where something is told as expected, such a token can follow there. A list
-- that has the same tokens up to there and the same next token is none, whatever follows, but where the stop is at a limit; and
-- reading it stops there too.
pub record StopsFirst (ts : List (At SpecToken)) (stop : Stop) (rest : List (At SpecToken)) : Type 0 where
  pub front : List (At SpecToken)
  pub split : ts ≡ front ++ rest
  pub begins : (more : List (At SpecToken)) × (f : FileTree) × file start (front ++ more) f
  pub expects : (w : What) → stop ≡ Expected w → (token : At SpecToken) × (more : List (At SpecToken)) × (f : FileTree) × (names_token w token.tok ≡ true) × file start (front ++ token ∷ more) f
  pub stays : (last : ℕ) (others : List (At SpecToken)) → head others ≡ head rest → file_at last ([], front ++ others) ≡ Err (stopped stop (place_of last others))
  pub stuck : (others : List (At SpecToken)) (f : FileTree) → head others ≡ head rest → file start (front ++ others) f → stop ≡ OverLimit

-- the fault is such a stop, at the place of the rest
pub record FaultIsFirst (last : ℕ) (ts : List (At SpecToken)) (fault : SpecFault) : Type 0 where
  pub stop : Stop
  pub rest : List (At SpecToken)
  pub is : fault ≡ stopped stop (place_of last rest)
  pub first : StopsFirst ts stop rest

abbrev pub FaultsAreFirst : Type 0
FaultsAreFirst = (last : ℕ) (ts : List (At SpecToken)) (fault : SpecFault) → file_at last ([], ts) ≡ Err fault → FaultIsFirst last ts fault

-- What is read whole is a file of the grammar, within the limits.
abbrev pub ReadsAreFiles : Type 0
ReadsAreFiles = (last : ℕ) (ts : List (At SpecToken)) (f : FileTree) (rest : List (At SpecToken) × List (At SpecToken)) → file_at last ([], ts) ≡ Ok (f, rest) → file start ts f × WithinLimits f

-- A file of the grammar is read whole where it is within the limits, and else reading stops at a limit.
abbrev pub FilesAreRead : Type 0
FilesAreRead = (last : ℕ) (ts : List (At SpecToken)) (f : FileTree) → file start ts f
    → (WithinLimits f → file_at last ([], ts) ≡ Ok (f, (ts, []))) × ((WithinLimits f → ⊥) → (at : ℕ) × (file_at last ([], ts) ≡ Err (faults.Limit at)))

-- Reading stops at a limit before the name that is over it.
abbrev pub LimitsAreFirst : Type 0
LimitsAreFirst = (last : ℕ) (ts : List (At SpecToken)) (at : ℕ) → file_at last ([], ts) ≡ Err (faults.Limit at) → (rest : List (At SpecToken)) × (stop : LimitStop ts rest) × (at ≡ stop.name.span.start)

-- ---- texts

-- A text says one thing, or has one fault.
abbrev pub OneAnswer : Type 0
OneAnswer = (text : List ℕ) (x y : Result SpecTree SpecFault) → SpecReads text x → SpecReads text y → x ≡ y

-- a text whose tokens begin a file up to this byte, and with the next token begin none; what is left out is the word `notices`
pub record HasStop (text : List ℕ) (stop : Stop) (at : ℕ) : Type 0 where
  pub tokens : List (At SpecToken)
  pub lexes : Lexes text (Ok tokens)
  pub rest : List (At SpecToken)
  pub first : StopsFirst tokens stop rest
  pub place : at ≡ place_of (length text) rest
  pub notices : stop ≡ NoticesLeftOut → (token : At SpecToken) × (head rest ≡ Some token) × IsWord Notices token

-- A text is refused as Expected, NoticesLeftOut or Limit only at such a byte.
abbrev pub StopsAreFirst : Type 0
StopsAreFirst = (text : List ℕ) (stop : Stop) (at : ℕ) → SpecReads text (Err (stopped stop at)) → HasStop text stop at

-- A text says this where it is this spec file, and nowhere else.
abbrev pub SpecsAreExact : Type 0
SpecsAreExact = (text : List ℕ) (s : SpecTree) → (SpecReads text (Ok s) → IsSpec text s) × (IsSpec text s → SpecReads text (Ok s))

-- A name is refused as over a limit only where it is.
abbrev pub LimitsAreNames : Type 0
LimitsAreNames = (text : List ℕ) (at : ℕ) → SpecReads text (Err (faults.Limit at)) → HasLimit text at

-- A step name is refused where it is the first that an earlier step has, and nowhere else.
abbrev pub RepeatsAreExact : Type 0
RepeatsAreExact = (text : List ℕ) (at : ℕ) → (SpecReads text (Err (faults.DuplicateStep at)) → HasRepeat text at) × (HasRepeat text at → SpecReads text (Err (faults.DuplicateStep at)))

-- A name of a permutation is refused where it is the first that no step has, and nowhere else.
pub record UndefinedAreExact : Type 0 where
  pub steps : (text : List ℕ) (at : ℕ) → SpecReads text (Err (faults.UndefinedStep at)) → HasUndefined text (faults.UndefinedStep at)
  pub markers : (text : List ℕ) (at : ℕ) → SpecReads text (Err (faults.UndefinedMarker at)) → HasUndefined text (faults.UndefinedMarker at)
  pub only : (text : List ℕ) (fault : SpecFault) → HasUndefined text fault → SpecReads text (Err fault)

-- Whatever a text says has its numbers, counts and blocks in order.
abbrev pub SpecsStand : Type 0
SpecsStand = (text : List ℕ) (s : SpecTree) → SpecReads text (Ok s) → Stands s

-- Each block and each name is a slice of the text.
abbrev pub SpecsAreSlices : Type 0
SpecsAreSlices = (text : List ℕ) (s : SpecTree) → SpecReads text (Ok s) → LiesIn text s
