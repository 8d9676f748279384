-- A whole file.
use Rattle.std.proofs.Common.{◌≡◌, ℕ, List, [], length, map, Some, None, Result, Ok, Err, refl, sym, ap, ◌∙◌}
use Rattle.iso_lexer.specs.declared.token.At.{At}
use Rattle.iso_lexer.specs.declared.fault.LexFault.{LexFault}
use Rattle.iso_lexer.specs.declared.fault.LexFault.TheVariants as lexer
use Rattle.iso_lexer.specs.SpecTokens.{SpecToken}
use Rattle.iso_lexer.specs.SpecText.{Lexes, WantsRoom}
use Rattle.spec_parser.specs.declared.fault.Stop.{Stop}
use Rattle.spec_parser.specs.declared.fault.Stop.TheVariants.{Expected, NoticesLeftOut, OverLimit}
use Rattle.spec_parser.specs.declared.fault.Halt.{Halt}
use Rattle.spec_parser.specs.declared.fault.Halt.TheVariants as halts
use Rattle.spec_parser.specs.declared.fault.SpecFault.{SpecFault}
use Rattle.spec_parser.specs.declared.fault.SpecFault.TheVariants as faults
use Rattle.spec_parser.specs.Faults.{lexer_fault, stopped, halted}
use Rattle.spec_parser.specs.Trees.{FileTree, SpecTree, EntryTree}
use Rattle.spec_parser.specs.Counts.{start}
use Rattle.spec_parser.specs.Inner.Stopping.{Rest, Read, place, file_at, finished}
use Rattle.spec_parser.specs.Inner.Readers.{FailsAs}
use Rattle.spec_parser.specs.Names.{StepAt, session_tree}
use Rattle.spec_parser.specs.Inner.Known.{first_repeat, known_spec, sessions_from, known_perms, IsFaultOf}
use Rattle.spec_parser.proofs.Placing.{reads_as}
use Rattle.spec_parser.specs.SpecText.{SpecReads, no_tokens, tokens, SpecAnswers}

abbrev LexAnswers : List ℕ → LexFault → Type 0
LexAnswers text lexer.Memory = WantsRoom text
LexAnswers text (lexer.Fault f) = Lexes text (Err f)

pub on_lexer_fault : (text : List ℕ) (f : LexFault) → LexAnswers text f → SpecAnswers text (Err (lexer_fault f))
on_lexer_fault text lexer.Memory h = tt
on_lexer_fault text (lexer.Fault f) h = no_tokens f h

no_stop : (f : FileTree) (s : Stop) → ◌≡◌ {A = Result FileTree Stop} (Ok f) (Err s) → ⊥
no_stop f s e = cc

same_stop : (s t : Stop) → ◌≡◌ {A = Result FileTree Stop} (Err s) (Err t) → s ≡ t
same_stop s t e = cc

stop_is : (end : ℕ) (read : Read FileTree) (s : Stop) (at : ℕ) → read.0 ≡ Err s → at ≡ place end read.1.1 → Err (stopped s at) ≡ finished end read
stop_is end (Ok f, rest) s at e is = absurd (no_stop f s e)
stop_is end (Err t, rest) s at e is = rw (is, same_stop t s e) refl

so_told : (text : List ℕ) (ts : List (At SpecToken)) (answer : Result SpecTree SpecFault) → Lexes text (Ok ts) → answer ≡ finished (length text) (file_at (start, ts)) → SpecReads text answer
so_told text ts answer lexes e = tokens ts lexes (e ∙ sym (reads_as (length text) ts))

pub on_halt : (text : List ℕ) (ts : List (At SpecToken)) (h : Halt) → Lexes text (Ok ts) → FailsAs (length text) h (file_at (start, ts)) → SpecAnswers text (Err (halted h))
on_halt text ts halts.Memory lexes fails = tt
on_halt text ts (halts.At (Expected w) at) lexes fails = so_told text ts _ lexes (stop_is (length text) (file_at (start, ts)) (Expected w) at fails.0 fails.1)
on_halt text ts (halts.At NoticesLeftOut at) lexes fails = so_told text ts _ lexes (stop_is (length text) (file_at (start, ts)) NoticesLeftOut at fails.0 fails.1)
on_halt text ts (halts.At OverLimit at) lexes fails = so_told text ts _ lexes (stop_is (length text) (file_at (start, ts)) OverLimit at fails.0 fails.1)

-- the file was read whole
pub record WasRead (text : List ℕ) (ts : List (At SpecToken)) (file : FileTree) (known : List StepAt) : Type 0 where
  pub lexes : Lexes text (Ok ts)
  pub rest : Rest
  pub read : file_at (start, ts) ≡ (Ok file, rest)
  pub known_is : known ≡ sessions_from 1 file.sessions

read_is : (text : List ℕ) (ts : List (At SpecToken)) (file : FileTree) (known : List StepAt) (answer : Result SpecTree SpecFault) → WasRead text ts file known → answer ≡ known_spec file → SpecReads text answer
read_is text ts file known answer was e = so_told text ts answer was.lexes (e ∙ sym (ap (finished (length text)) was.read))

pub on_repeat : (text : List ℕ) (ts : List (At SpecToken)) (file : FileTree) (known : List StepAt) (at : ℕ) → WasRead text ts file known → Some at ≡ first_repeat [] known → SpecReads text (Err (faults.DuplicateStep at))
on_repeat text ts file known at was e = read_is text ts file known _ was (rw (← was.known_is, ← e) refl)

on_failure : (text : List ℕ) (ts : List (At SpecToken)) (file : FileTree) (known : List StepAt) (fault : SpecFault) → WasRead text ts file known → None ≡ first_repeat [] known → known_perms known file.perms ≡ Err fault → SpecReads text (Err fault)
on_failure text ts file known fault was e fails = read_is text ts file known _ was (rw (← was.known_is, ← e, fails) refl)

pub on_undefined : (text : List ℕ) (ts : List (At SpecToken)) (file : FileTree) (known : List StepAt) (fault : SpecFault) → WasRead text ts file known → None ≡ first_repeat [] known → IsFaultOf fault (known_perms known file.perms) → SpecAnswers text (Err fault)
on_undefined text ts file known faults.Memory was e fails = tt
on_undefined text ts file known (faults.Lex f) was e fails = on_failure text ts file known (faults.Lex f) was e fails
on_undefined text ts file known (faults.Expected w at) was e fails = on_failure text ts file known (faults.Expected w at) was e fails
on_undefined text ts file known (faults.DuplicateStep at) was e fails = on_failure text ts file known (faults.DuplicateStep at) was e fails
on_undefined text ts file known (faults.UndefinedStep at) was e fails = on_failure text ts file known (faults.UndefinedStep at) was e fails
on_undefined text ts file known (faults.UndefinedMarker at) was e fails = on_failure text ts file known (faults.UndefinedMarker at) was e fails
on_undefined text ts file known (faults.NoticesLeftOut at) was e fails = on_failure text ts file known (faults.NoticesLeftOut at) was e fails
on_undefined text ts file known (faults.Limit at) was e fails = on_failure text ts file known (faults.Limit at) was e fails

pub on_spec : (text : List ℕ) (ts : List (At SpecToken)) (file : FileTree) (known : List StepAt) (perms : List (List EntryTree)) (spec : SpecTree) → WasRead text ts file known → None ≡ first_repeat [] known → known_perms known file.perms ≡ Ok perms → spec ≡ record { setups = file.setups; teardown = file.teardown; sessions = map session_tree file.sessions; perms = perms } → SpecReads text (Ok spec)
on_spec text ts file known perms spec was e found is = read_is text ts file known _ was (rw (← was.known_is, ← e, found, is) refl)
