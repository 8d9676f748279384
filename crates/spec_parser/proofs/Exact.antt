-- What reading gives is just what the relations say.
use Rattle.std.proofs.Common.{◌≡◌, ◌⊎◌, inl, inr, ℕ, length, true, List, [], ◌∷◌, ◌++◌, append-nil, map, Option, Some, None, Result, Ok, Err, refl, sym, ap, subst, ◌∙◌}
use Rattle.std.specs.Option.{option_map_or}
use Rattle.std.proofs.lemmas.Option.{same_Some}
use Rattle.iso_lexer.specs.declared.token.At.{At}
use Rattle.iso_lexer.specs.declared.fault.Fault.{Fault}
use Rattle.iso_lexer.specs.declared.spec_token.Keyword.TheVariants.{Notices}
use Rattle.iso_lexer.specs.SpecTokens.{SpecToken}
use Rattle.iso_lexer.specs.SpecText.{Lexes}
use Rattle.spec_parser.specs.declared.fault.Stop.{Stop}
use Rattle.spec_parser.specs.declared.fault.Stop.TheVariants.{Expected, NoticesLeftOut, OverLimit}
use Rattle.spec_parser.specs.declared.fault.SpecFault.{SpecFault}
use Rattle.spec_parser.specs.declared.fault.SpecFault.TheVariants as faults
use Rattle.spec_parser.specs.Trees.{FileTree, SpecTree, EntryTree}
use Rattle.spec_parser.specs.Faults.{stopped}
use Rattle.spec_parser.specs.Counts.{Counts, start, past}
use Rattle.spec_parser.specs.Reading as new
use Rattle.spec_parser.specs.Inner.Stopping.{Rest, Read, place, told, file_at, finished}
use Rattle.spec_parser.specs.Inner.Pieces.{starts_word}
use Rattle.spec_parser.specs.Grammar.{file}
use Rattle.iso_lexer.specs.Results.{if_ok}
use Rattle.spec_parser.specs.Names.{StepAt, steps_of, session_tree}
use Rattle.spec_parser.specs.Inner.Known.{first_repeat, known_spec, known_perms}
use Rattle.spec_parser.proofs.Placing.{seen, seen_in, fault_is, file_same, reads_as}
use Rattle.spec_parser.proofs.Passing.{Rest as Ahead, Whole, file_passes}
use Rattle.spec_parser.specs.SpecText.{SpecReads, no_tokens, tokens}
use Rattle.spec_parser.specs.Laws.{head, FaultIsFirst, HasStop}
use Rattle.spec_parser.specs.IsSpec.{WithinLimits, IsSpec}
use Rattle.spec_parser.specs.NameFaults.{Mention, by_entry, by_marker, mentions, undefined_at, IsFirstUndefined, HasRepeat, HasUndefined}
use Rattle.spec_parser.proofs.Complete.{Again, whole, over, LongFile}
use Rattle.spec_parser.proofs.WholeLaws.{read_or_over, reads_are_files, files_are_read, stops_first}
use Rattle.spec_parser.proofs.Limits.{within, is_read_whole}
use Rattle.spec_parser.specs.LimitFaults.{IsWord, LimitStop, HasLimit}
use Rattle.spec_parser.proofs.StopsAreAtLimits.{limit_stop}
use Rattle.spec_parser.proofs.Notices.{file_ends}
use Rattle.spec_parser.proofs.NamesAreFound.{names_differ, no_repeat, repeats_first, first_repeats, perms_are, perms_ok, undefined_first, first_undefined}

-- ---- a file that was read whole

no_stop : (f : FileTree) (s : Stop) → ◌≡◌ {A = Result FileTree Stop} (Ok f) (Err s) → ⊥
no_stop f s e = cc

rest_case : (ts : List (At SpecToken)) (f : FileTree) (rest : Rest) → file_at (start, ts) ≡ (Ok f, rest) → Again LongFile f (past start ts, []) (file_at (start, ts)) → rest ≡ (past start ts, [])
rest_case ts f rest e (whole d) = sym (ap (λ (q : Read FileTree). q.1) e) ∙ ap (λ (q : Read FileTree). q.1) d
rest_case ts f rest e (over d o) = absurd (no_stop f OverLimit (sym (ap (λ (q : Read FileTree). q.0) e) ∙ d))

pub rest_is : (ts : List (At SpecToken)) (f : FileTree) (rest : Rest) → file_at (start, ts) ≡ (Ok f, rest) → rest ≡ (past start ts, [])
rest_is ts f rest e = rest_case ts f rest e (read_or_over ts f (reads_are_files ts f rest e))

pub limits_of : (ts : List (At SpecToken)) (f : FileTree) (rest : Rest) → file_at (start, ts) ≡ (Ok f, rest) → WithinLimits f
limits_of ts f rest e = within ts f rest (ap (λ (r : Rest). r.0) (rest_is ts f rest e)) e

-- an answer that comes only where the file was read whole
abbrev IsPast : Result SpecTree SpecFault → Type 0
IsPast (Ok s) = Unit {0}
IsPast (Err faults.Memory) = ⊥
IsPast (Err (faults.Lex f)) = ⊥
IsPast (Err (faults.Expected w at)) = ⊥
IsPast (Err (faults.NoticesLeftOut at)) = ⊥
IsPast (Err (faults.Limit at)) = ⊥
IsPast (Err (faults.DuplicateStep at)) = Unit {0}
IsPast (Err (faults.UndefinedStep at)) = Unit {0}
IsPast (Err (faults.UndefinedMarker at)) = Unit {0}

pub record WasResolved (text : List ℕ) (x : Result SpecTree SpecFault) : Type 0 where
  pub tokens : List (At SpecToken)
  pub lexes : Lexes text (Ok tokens)
  pub file_is : FileTree
  pub rest : Rest
  pub read : file_at (start, tokens) ≡ (Ok file_is, rest)
  pub is : x ≡ known_spec file_is

past_stop : (s : Stop) (p : ℕ) → IsPast (Err (stopped s p)) → ⊥
past_stop (Expected w) p h = h
past_stop NoticesLeftOut p h = h
past_stop OverLimit p h = h

from_read : (text : List ℕ) (ts : List (At SpecToken)) (x : Result SpecTree SpecFault) (q : Read FileTree) → file_at (start, ts) ≡ q → Lexes text (Ok ts) → x ≡ finished (length text) q → IsPast x → WasResolved text x
from_read text ts x (Ok f, rest) e lexes is h = record { tokens = ts; lexes = lexes; file_is = f; rest = rest; read = e; is = is }
from_read text ts x (Err s, rest) e lexes is h = absurd (past_stop s (place (length text) rest.1) (subst IsPast is h))

pub was_resolved : (text : List ℕ) (x : Result SpecTree SpecFault) → IsPast x → SpecReads text x → WasResolved text x
was_resolved text x h (no_tokens f lexes) = absurd h
was_resolved text x h (tokens ts lexes is) = from_read text ts x (file_at (start, ts)) refl lexes (is ∙ reads_as (length text) ts) h

-- what was resolved is read
pub reads_so : (text : List ℕ) (ts : List (At SpecToken)) (f : FileTree) (x : Result SpecTree SpecFault) → Lexes text (Ok ts) → file start ts f → WithinLimits f → x ≡ known_spec f → SpecReads text x
reads_so text ts f x lexes grammar limits is = tokens ts lexes (is ∙ sym (reads_as (length text) ts ∙ ap (finished (length text)) (is_read_whole ts f grammar limits)))

-- ---- the names looked up

abbrev made : FileTree → List (List EntryTree) → SpecTree
made f ps = record { setups = f.setups; teardown = f.teardown; sessions = map session_tree f.sessions; perms = ps }

-- the fault at the first repeat, or else this
abbrev without_repeat : Option ℕ → Result SpecTree SpecFault → Result SpecTree SpecFault
without_repeat o spec = option_map_or (λ at. Err (faults.DuplicateStep at)) o spec

abbrev out_of : FileTree → Option ℕ → Result (List (List EntryTree)) SpecFault → Result SpecTree SpecFault
out_of f o r = without_repeat o (if_ok r (λ ps. Ok (made f ps)))

ok_err : (x : SpecTree) (f : SpecFault) → ◌≡◌ {A = Result SpecTree SpecFault} (Ok x) (Err f) → ⊥
ok_err x f e = cc

ok_same : (x y : SpecTree) → ◌≡◌ {A = Result SpecTree SpecFault} (Ok x) (Ok y) → x ≡ y
ok_same x y e = cc

err_same : (f g : SpecFault) → ◌≡◌ {A = Result SpecTree SpecFault} (Err f) (Err g) → f ≡ g
err_same f g e = cc

ok_by : (f : FileTree) (s : SpecTree) (o : Option ℕ) (r : Result (List (List EntryTree)) SpecFault) → Ok s ≡ out_of f o r → (o ≡ None) × ((ps : List (List EntryTree)) × (r ≡ Ok ps) × (s ≡ made f ps))
ok_by f s (Some at) r e = absurd (ok_err s (faults.DuplicateStep at) e)
ok_by f s None (Ok ps) e = (refl, (ps, refl, ok_same s (made f ps) e))
ok_by f s None (Err x) e = absurd (ok_err s x e)

-- a fault of the names of permutations
abbrev IsUndefined : SpecFault → Type 0
IsUndefined (faults.UndefinedStep at) = Unit {0}
IsUndefined (faults.UndefinedMarker at) = Unit {0}
IsUndefined faults.Memory = ⊥
IsUndefined (faults.Lex f) = ⊥
IsUndefined (faults.Expected w at) = ⊥
IsUndefined (faults.NoticesLeftOut at) = ⊥
IsUndefined (faults.Limit at) = ⊥
IsUndefined (faults.DuplicateStep at) = ⊥

mention_undefined : (m : Mention) → IsUndefined (undefined_at m)
mention_undefined (by_entry n) = tt
mention_undefined (by_marker n) = tt

is_undefined : (known : List StepAt) (ms : List Mention) (f : SpecFault) → IsFirstUndefined known ms f → IsUndefined f
is_undefined known ms f h = subst IsUndefined (sym h.fault) (mention_undefined h.first)

undefined_by : (f : FileTree) (x : SpecFault) (o : Option ℕ) (r : Result (List (List EntryTree)) SpecFault) → IsUndefined x → Err x ≡ out_of f o r → (o ≡ None) × (r ≡ Err x)
undefined_by f x (Some at) r h e = absurd (subst IsUndefined (err_same x (faults.DuplicateStep at) e) h)
undefined_by f x None (Ok ps) h e = absurd (ok_err (made f ps) x (sym e))
undefined_by f x None (Err y) h e = (refl, ap Err (sym (err_same x y e)))

repeat_at : (at n : ℕ) → faults.DuplicateStep at ≡ faults.DuplicateStep n → n ≡ at
repeat_at at n e = cc

repeat_by : (f : FileTree) (at : ℕ) (o : Option ℕ) (r : Result (List (List EntryTree)) SpecFault) → ((x : SpecFault) → r ≡ Err x → IsUndefined x) → Err (faults.DuplicateStep at) ≡ out_of f o r → o ≡ Some at
repeat_by f at (Some n) r h e = ap Some (repeat_at at n (err_same (faults.DuplicateStep at) (faults.DuplicateStep n) e))
repeat_by f at None (Ok ps) h e = absurd (ok_err (made f ps) (faults.DuplicateStep at) (sym e))
repeat_by f at None (Err y) h e = absurd (subst IsUndefined (sym (err_same (faults.DuplicateStep at) y e)) (h y refl))

-- ---- the laws

spec_from : (text : List ℕ) (s : SpecTree) → WasResolved text (Ok s) → IsSpec text s
spec_from text s w =
    let f = w.file_is in
    let known = steps_of f in
    let k = ok_by f s (first_repeat [] known) (known_perms known f.perms) w.is in
    record {
      tokens = w.tokens;
      lexes = w.lexes;
      file = f;
      grammar = reads_are_files w.tokens f w.rest w.read;
      limits = limits_of w.tokens f w.rest w.read;
      differ = names_differ known k.0;
      setups = ap (λ (x : SpecTree). x.setups) k.1.2;
      teardown = ap (λ (x : SpecTree). x.teardown) k.1.2;
      sessions = ap (λ (x : SpecTree). x.sessions) k.1.2;
      perms = perms_are known f.perms s.perms (k.1.1 ∙ ap Ok (sym (ap (λ (x : SpecTree). x.perms) k.1.2)));
    }

pub reads_are_specs : (text : List ℕ) (s : SpecTree) → SpecReads text (Ok s) → IsSpec text s
reads_are_specs text s h = spec_from text s (was_resolved text (Ok s) tt h)

pub specs_are_read : (text : List ℕ) (s : SpecTree) → IsSpec text s → SpecReads text (Ok s)
specs_are_read text s h =
    let f = h.file in
    let known = steps_of f in
    let is : known_spec f ≡ Ok (made f s.perms) = (λ i. out_of f (no_repeat known h.differ i) (perms_ok known h.differ f.perms s.perms h.perms i)) in
    let same : s ≡ made f s.perms = (λ i. record { setups = h.setups i; teardown = h.teardown i; sessions = h.sessions i; perms = s.perms }) in
    reads_so text h.tokens f (Ok s) h.lexes h.grammar h.limits (ap Ok same ∙ sym is)

pub repeats_are_read : (text : List ℕ) (at : ℕ) → HasRepeat text at → SpecReads text (Err (faults.DuplicateStep at))
repeats_are_read text at h =
    let f = h.file in
    let known = steps_of f in
    let is : known_spec f ≡ Err (faults.DuplicateStep at) = ap (λ o. out_of f o (known_perms known f.perms)) (first_repeats known at h.first) in
    reads_so text h.tokens f (Err (faults.DuplicateStep at)) h.lexes h.grammar h.limits (sym is)

repeat_from : (text : List ℕ) (at : ℕ) → WasResolved text (Err (faults.DuplicateStep at)) → HasRepeat text at
repeat_from text at w =
    let f = w.file_is in
    let known = steps_of f in
    let k = repeat_by f at (first_repeat [] known) (known_perms known f.perms) (λ x e. is_undefined known (mentions f.perms) x (undefined_first known f.perms x e)) w.is in
    record { tokens = w.tokens; lexes = w.lexes; file = f; grammar = reads_are_files w.tokens f w.rest w.read; limits = limits_of w.tokens f w.rest w.read; first = repeats_first known at k }

pub reads_are_repeats : (text : List ℕ) (at : ℕ) → SpecReads text (Err (faults.DuplicateStep at)) → HasRepeat text at
reads_are_repeats text at h = repeat_from text at (was_resolved text (Err (faults.DuplicateStep at)) tt h)

pub undefined_are_read : (text : List ℕ) (x : SpecFault) → HasUndefined text x → SpecReads text (Err x)
undefined_are_read text x h =
    let f = h.file in
    let known = steps_of f in
    let is : known_spec f ≡ Err x = (λ i. out_of f (no_repeat known h.differ i) (first_undefined known f.perms x h.first i)) in
    reads_so text h.tokens f (Err x) h.lexes h.grammar h.limits (sym is)

undefined_from : (text : List ℕ) (x : SpecFault) → IsUndefined x → WasResolved text (Err x) → HasUndefined text x
undefined_from text x h w =
    let f = w.file_is in
    let known = steps_of f in
    let k = undefined_by f x (first_repeat [] known) (known_perms known f.perms) h w.is in
    record { tokens = w.tokens; lexes = w.lexes; file = f; grammar = reads_are_files w.tokens f w.rest w.read; limits = limits_of w.tokens f w.rest w.read; differ = names_differ known k.0; first = undefined_first known f.perms x k.1 }

pub steps_are_undefined : (text : List ℕ) (at : ℕ) → SpecReads text (Err (faults.UndefinedStep at)) → HasUndefined text (faults.UndefinedStep at)
steps_are_undefined text at h = undefined_from text (faults.UndefinedStep at) tt (was_resolved text (Err (faults.UndefinedStep at)) tt h)

pub markers_are_undefined : (text : List ℕ) (at : ℕ) → SpecReads text (Err (faults.UndefinedMarker at)) → HasUndefined text (faults.UndefinedMarker at)
markers_are_undefined text at h = undefined_from text (faults.UndefinedMarker at) tt (was_resolved text (Err (faults.UndefinedMarker at)) tt h)

-- ---- limits

limit_at : (at n : ℕ) → faults.Limit at ≡ faults.Limit n → at ≡ n
limit_at at n e = cc

not_limit_repeat : (at n : ℕ) → faults.Limit at ≡ faults.DuplicateStep n → ⊥
not_limit_repeat at n e = cc

no_limit : (f : FileTree) (at : ℕ) (o : Option ℕ) (r : Result (List (List EntryTree)) SpecFault) → ((x : SpecFault) → r ≡ Err x → IsUndefined x) → Err (faults.Limit at) ≡ out_of f o r → ⊥
no_limit f at (Some n) r h e = not_limit_repeat at n (err_same (faults.Limit at) (faults.DuplicateStep n) e)
no_limit f at None (Ok ps) h e = ok_err (made f ps) (faults.Limit at) (sym e)
no_limit f at None (Err y) h e = subst IsUndefined (sym (err_same (faults.Limit at) y e)) (h y refl)

limit_stopped : (at p : ℕ) (s : Stop) → faults.Limit at ≡ stopped s p → (s ≡ OverLimit) × (at ≡ p)
limit_stopped at p OverLimit e = (refl, limit_at at p e)
limit_stopped at p (Expected w) e = absurd cc
limit_stopped at p NoticesLeftOut e = absurd cc

limit_from : (text : List ℕ) (ts : List (At SpecToken)) (at : ℕ) (q : Read FileTree) → file_at (start, ts) ≡ q → Lexes text (Ok ts) → Err (faults.Limit at) ≡ finished (length text) q → HasLimit text at
limit_from text ts at (Ok f, rest) e lexes is = absurd (no_limit f at (first_repeat [] (steps_of f)) (known_perms (steps_of f) f.perms) (λ x d. is_undefined (steps_of f) (mentions f.perms) x (undefined_first (steps_of f) f.perms x d)) is)
limit_from text ts at (Err s, rest) e lexes is =
    let k = limit_stopped at (place (length text) rest.1) s (err_same (faults.Limit at) (stopped s (place (length text) rest.1)) is) in
    let stop = limit_stop ts rest (e ∙ (λ i. (Err (k.0 i), rest))) in
    record { tokens = ts; lexes = lexes; rest = rest.1; stop = stop; place = k.1 ∙ ap (place (length text)) stop.rest_is }

not_lex : (at : ℕ) (f : Fault) → faults.Lex f ≡ faults.Limit at → ⊥
not_lex at f e = cc

limit_by : (text : List ℕ) (at : ℕ) (x : Result SpecTree SpecFault) → x ≡ Err (faults.Limit at) → SpecReads text x → HasLimit text at
limit_by text at x e (no_tokens f lexes) = absurd (not_lex at f (err_same (faults.Lex f) (faults.Limit at) e))
limit_by text at x e (tokens ts lexes is) = limit_from text ts at (file_at (start, ts)) refl lexes (sym e ∙ is ∙ reads_as (length text) ts)

pub limits_are_names : (text : List ℕ) (at : ℕ) → SpecReads text (Err (faults.Limit at)) → HasLimit text at
limits_are_names text at h = limit_by text at (Err (faults.Limit at)) refl h

-- ---- files of the grammar

over_by : (ts : List (At SpecToken)) (f : FileTree) → ((file_at (start, ts) ≡ (Ok f, (past start ts, []))) ⊎ ((file_at (start, ts)).0 ≡ Err OverLimit)) → (WithinLimits f → ⊥) → (file_at (start, ts)).0 ≡ Err OverLimit
over_by ts f (inl e) outside = absurd (outside (limits_of ts f (past start ts, []) e))
over_by ts f (inr e) outside = e

pub files_within : (ts : List (At SpecToken)) (f : FileTree) → file start ts f → (WithinLimits f → file_at (start, ts) ≡ (Ok f, (past start ts, []))) × ((WithinLimits f → ⊥) → (file_at (start, ts)).0 ≡ Err OverLimit)
files_within ts f grammar = (λ limits. is_read_whole ts f grammar limits, λ outside. over_by ts f (files_are_read ts f grammar) outside)

pub reads_within : (ts : List (At SpecToken)) (f : FileTree) (rest : Rest) → file_at (start, ts) ≡ (Ok f, rest) → file start ts f × WithinLimits f
reads_within ts f rest e = (reads_are_files ts f rest e, limits_of ts f rest e)

-- ---- stops

-- a stop is neither a repeated name nor an undefined one
abbrev IsStopped : SpecFault → Type 0
IsStopped (faults.Expected w at) = Unit {0}
IsStopped (faults.NoticesLeftOut at) = Unit {0}
IsStopped (faults.Limit at) = Unit {0}
IsStopped (faults.DuplicateStep at) = ⊥
IsStopped (faults.UndefinedStep at) = ⊥
IsStopped (faults.UndefinedMarker at) = ⊥
IsStopped faults.Memory = ⊥
IsStopped (faults.Lex f) = ⊥

stop_is : (s : Stop) (at : ℕ) → IsStopped (stopped s at)
stop_is (Expected w) at = tt
stop_is NoticesLeftOut at = tt
stop_is OverLimit at = tt

not_undefined : (x : SpecFault) → IsStopped x → IsUndefined x → ⊥
not_undefined (faults.Expected w at) h k = k
not_undefined (faults.NoticesLeftOut at) h k = k
not_undefined (faults.Limit at) h k = k
not_undefined (faults.DuplicateStep at) h k = k
not_undefined (faults.UndefinedStep at) h k = h
not_undefined (faults.UndefinedMarker at) h k = h
not_undefined faults.Memory h k = h
not_undefined (faults.Lex f) h k = h

no_stop_in : (f : FileTree) (x : SpecFault) (o : Option ℕ) (r : Result (List (List EntryTree)) SpecFault) → IsStopped x → ((y : SpecFault) → r ≡ Err y → IsUndefined y) → Err x ≡ out_of f o r → ⊥
no_stop_in f x (Some n) r h u e = subst IsStopped (err_same x (faults.DuplicateStep n) e) h
no_stop_in f x None (Ok ps) h u e = ok_err (made f ps) x (sym e)
no_stop_in f x None (Err y) h u e = not_undefined x h (subst IsUndefined (sym (err_same x y e)) (u y refl))

abbrev place_in : SpecFault → ℕ
place_in (faults.Expected w at) = at
place_in (faults.NoticesLeftOut at) = at
place_in (faults.Limit at) = at
place_in (faults.DuplicateStep at) = at
place_in (faults.UndefinedStep at) = at
place_in (faults.UndefinedMarker at) = at
place_in faults.Memory = 0
place_in (faults.Lex f) = 0

abbrev stop_in : SpecFault → Option Stop
stop_in (faults.Expected w at) = Some (Expected w)
stop_in (faults.NoticesLeftOut at) = Some NoticesLeftOut
stop_in (faults.Limit at) = Some OverLimit
stop_in (faults.DuplicateStep at) = None
stop_in (faults.UndefinedStep at) = None
stop_in (faults.UndefinedMarker at) = None
stop_in faults.Memory = None
stop_in (faults.Lex f) = None

of_stop : (s : Stop) (at : ℕ) → (stop_in (stopped s at) ≡ Some s) × (place_in (stopped s at) ≡ at)
of_stop (Expected w) at = (refl, refl)
of_stop NoticesLeftOut at = (refl, refl)
of_stop OverLimit at = (refl, refl)

same_stop : (s t : Stop) (at p : ℕ) → stopped s at ≡ stopped t p → (t ≡ s) × (at ≡ p)
same_stop s t at p e =
    (same_Some t s (sym (of_stop t p).0 ∙ sym (ap stop_in e) ∙ (of_stop s at).0), sym (of_stop s at).1 ∙ ap place_in e ∙ (of_stop t p).1)

notices_first : (c : Counts) (ts : List (At SpecToken)) → starts_word Notices (c, ts) ≡ true → (token : At SpecToken) × (head ts ≡ Some token) × IsWord Notices token
notices_first c [] e = absurd cc
notices_first c (t ∷ ts) e = (t, refl, e)

stop_from : (text : List ℕ) (ts : List (At SpecToken)) (s : Stop) (at : ℕ) (q : Read FileTree) → file_at (start, ts) ≡ q → Lexes text (Ok ts) → Err (stopped s at) ≡ finished (length text) q → HasStop text s at
stop_from text ts s at (Ok f, rest) e lexes is = absurd (no_stop_in f (stopped s at) (first_repeat [] (steps_of f)) (known_perms (steps_of f) f.perms) (stop_is s at) (λ x d. is_undefined (steps_of f) (mentions f.perms) x (undefined_first (steps_of f) f.perms x d)) is)
stop_from text ts s at (Err t, rest) e lexes is =
    let k = same_stop s t at (place (length text) rest.1) (err_same (stopped s at) (stopped t (place (length text) rest.1)) is) in
    record { tokens = ts; lexes = lexes; rest = rest.1; first = stops_first ts s rest (e ∙ (λ i. (Err (k.0 i), rest))); place = k.1; notices = λ h. notices_first rest.0 rest.1 (file_ends (start, ts) rest (e ∙ (λ i. (Err ((k.0 ∙ h) i), rest)))) }

stop_by : (text : List ℕ) (s : Stop) (at : ℕ) (x : Result SpecTree SpecFault) → x ≡ Err (stopped s at) → SpecReads text x → HasStop text s at
stop_by text s at x e (no_tokens f lexes) = absurd (subst IsStopped (sym (err_same (faults.Lex f) (stopped s at) e)) (stop_is s at))
stop_by text s at x e (tokens ts lexes is) = stop_from text ts s at (file_at (start, ts)) refl lexes (sym e ∙ is ∙ reads_as (length text) ts)

pub stops_are_first : (text : List ℕ) (s : Stop) (at : ℕ) → SpecReads text (Err (stopped s at)) → HasStop text s at
stops_are_first text s at h = stop_by text s at (Err (stopped s at)) refl h

-- ---- of tokens, with the places put in

not_told : (f : FileTree) (rest : Rest) (x : SpecFault) → ◌≡◌ {A = Result (FileTree × Rest) SpecFault} (Ok (f, rest)) (Err x) → ⊥
not_told f rest x e = cc

fault_told : (x y : SpecFault) → ◌≡◌ {A = Result (FileTree × Rest) SpecFault} (Err x) (Err y) → x ≡ y
fault_told x y e = cc

value_told : (p q : FileTree × Rest) → ◌≡◌ {A = Result (FileTree × Rest) SpecFault} (Ok p) (Ok q) → p ≡ q
value_told p q e = cc

-- what is told as read was read, and what is told as a fault was a stop
value_from : (last : ℕ) (q : Read FileTree) (f : FileTree) (rest : Rest) → told last q ≡ Ok (f, rest) → q ≡ (Ok f, rest)
value_from last (Ok g, m) f rest e = ap (λ (p : FileTree × Rest). (Ok p.0, p.1)) (value_told (g, m) (f, rest) e)
value_from last (Err s, m) f rest e = absurd (not_told f rest (stopped s (place last m.1)) (sym e))

first_from : (last : ℕ) (ts : List (At SpecToken)) (x : SpecFault) (q : Read FileTree) → file_at (start, ts) ≡ q → told last q ≡ Err x → FaultIsFirst last ts x
first_from last ts x (Ok f, rest) is e = absurd (not_told f rest x e)
first_from last ts x (Err s, rest) is e = record { stop = s; rest = rest.1; is = sym (fault_told (stopped s (place last rest.1)) x e); first = stops_first ts s rest is }

pub faults_first : (last : ℕ) (ts : List (At SpecToken)) (x : SpecFault) → new.file_at last ([], ts) ≡ Err x → FaultIsFirst last ts x
faults_first last ts x e = first_from last ts x (file_at (start, ts)) refl (sym (file_same last ([], ts)) ∙ ap seen_in e)

pub reads_in : (last : ℕ) (ts : List (At SpecToken)) (f : FileTree) (rest : Ahead) → new.file_at last ([], ts) ≡ Ok (f, rest) → file start ts f × WithinLimits f
reads_in last ts f rest e = reads_within ts f (seen rest) (value_from last (file_at (start, ts)) f (seen rest) (sym (file_same last ([], ts)) ∙ ap seen_in e))

limit_told : (last : ℕ) (q : Read FileTree) → q.0 ≡ Err OverLimit → told last q ≡ Err (faults.Limit (place last q.1.1))
limit_told last (Ok f, rest) e = let wrong : ◌≡◌ {A = Result FileTree Stop} (Ok f) (Err OverLimit) = e in absurd cc
limit_told last (Err s, rest) e = let same : ◌≡◌ {A = Stop} s OverLimit = cc in ap (λ t. Err (stopped t (place last rest.1))) same

-- where nothing is left, all stands before
whole_by : (ts b us : List (At SpecToken)) (f g : FileTree) → g ≡ f → us ≡ [] → b ++ us ≡ ts → ◌≡◌ {A = Result (FileTree × Ahead) SpecFault} (Ok (g, (b, us))) (Ok (f, (ts, [])))
whole_by ts b us f g same nothing split =
    let all : b ≡ ts = sym (append-nil b) ∙ ap (λ vs. b ++ vs) (sym nothing) ∙ split in
    (λ i. Ok (same i, (all i, nothing i)))

whole_is : (ts : List (At SpecToken)) (c : Counts) (f : FileTree) (p : Result (FileTree × Ahead) SpecFault) → seen_in p ≡ Ok (f, (c, [])) → Whole ts p → p ≡ Ok (f, (ts, []))
whole_is ts c f (Ok (g, (b, us))) e split =
    let same = value_told (g, seen (b, us)) (f, (c, [])) e in
    whole_by ts b us f g (ap (λ (p : FileTree × Rest). p.0) same) (ap (λ (p : FileTree × Rest). p.1.1) same) split
whole_is ts c f (Err x) e split = absurd (not_told f (c, []) x (sym e))

pub files_in : (last : ℕ) (ts : List (At SpecToken)) (f : FileTree) → file start ts f → (WithinLimits f → new.file_at last ([], ts) ≡ Ok (f, (ts, []))) × ((WithinLimits f → ⊥) → (at : ℕ) × (new.file_at last ([], ts) ≡ Err (faults.Limit at)))
files_in last ts f grammar =
    let both = files_within ts f grammar in (
      λ limits. whole_is ts (past start ts) f (new.file_at last ([], ts)) (file_same last ([], ts) ∙ ap (told last) (both.0 limits)) (file_passes last ([], ts)),
      λ outside. let at = place last (file_at (start, ts)).1.1 in (at, fault_is (new.file_at last ([], ts)) (faults.Limit at) (file_same last ([], ts) ∙ limit_told last (file_at (start, ts)) (both.1 outside))),
    )

limits_from : (last : ℕ) (ts : List (At SpecToken)) (at : ℕ) (q : Read FileTree) → file_at (start, ts) ≡ q → told last q ≡ Err (faults.Limit at) → (rest : List (At SpecToken)) × (stop : LimitStop ts rest) × (at ≡ stop.name.span.start)
limits_from last ts at (Ok f, rest) is e = absurd (not_told f rest (faults.Limit at) e)
limits_from last ts at (Err s, rest) is e =
    let k = limit_stopped at (place last rest.1) s (sym (fault_told (stopped s (place last rest.1)) (faults.Limit at) e)) in
    let stop = limit_stop ts rest (is ∙ (λ i. (Err (k.0 i), rest))) in
    (rest.1, stop, k.1 ∙ ap (place last) stop.rest_is)

pub limits_first : (last : ℕ) (ts : List (At SpecToken)) (at : ℕ) → new.file_at last ([], ts) ≡ Err (faults.Limit at) → (rest : List (At SpecToken)) × (stop : LimitStop ts rest) × (at ≡ stop.name.span.start)
limits_first last ts at e = limits_from last ts at (file_at (start, ts)) refl (sym (file_same last ([], ts)) ∙ ap seen_in e)
