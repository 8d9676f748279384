-- The laws of whole files.
use Rattle.std.proofs.Common.{◌≡◌, ℕ, Bool, true, false, List, [], ◌∷◌, ◌++◌, length, Result, Ok, Err, refl, sym, ap, subst, ◌∙◌, ◌⊎◌, inl, inr}
use Rattle.std.proofs.lemmas.List.{append-nil}
use Rattle.iso_lexer.specs.declared.token.At.{At}
use Rattle.iso_lexer.specs.declared.fault.Fault.{Fault}
use Rattle.iso_lexer.specs.SpecTokens.{SpecToken}
use Rattle.iso_lexer.specs.SpecText.{Lexes}
use Rattle.spec_parser.specs.declared.fault.What.{What}
use Rattle.spec_parser.specs.declared.fault.Stop.{Stop}
use Rattle.spec_parser.specs.declared.fault.Stop.TheVariants.{Expected, OverLimit}
use Rattle.spec_parser.specs.declared.fault.SpecFault.{SpecFault}
use Rattle.spec_parser.specs.declared.fault.SpecFault.TheVariants as faults
use Rattle.spec_parser.specs.Trees.{FileTree, SpecTree}
use Rattle.spec_parser.specs.Counts.{Counts, start, past}
use Rattle.spec_parser.specs.Inner.Stopping.{Rest, Read, place, end_at, file_at, told}
use Rattle.spec_parser.specs.Inner.Pieces.{setups_at, teardown_at, sessions_at, perms_at}
use Rattle.spec_parser.specs.Faults.{stopped}
use Rattle.spec_parser.specs.Grammar.{file}
use Rattle.spec_parser.specs.Reading.{file_at as told_file}
use Rattle.iso_lexer.specs.Results.{if_ok}
use Rattle.spec_parser.specs.Names.{names_resolved}
use Rattle.spec_parser.specs.SpecText.{SpecReads, no_tokens, tokens}
use Rattle.spec_parser.specs.Laws.{head, names_token, StopsFirst}
use Rattle.spec_parser.proofs.Placing.{fault_is, file_same}
use Rattle.spec_parser.proofs.Local.{◌>>=◌, Means, Wants, is_read, no_value, in_two}
use Rattle.spec_parser.proofs.Productions.{file_local}
use Rattle.spec_parser.proofs.Complete.{Again, whole, over, LongFile, file_again}

end_of : (c : Counts) (ts : List (At SpecToken)) (f g : FileTree) (after : Rest) → (end_at (c, ts) >>= λ ended. (Ok f, ended.1)) ≡ (Ok g, after) → after.1 ≡ []
unfolding end_at
end_of c [] f g after e = sym (ap (λ (r : Read FileTree). r.1.1) e)
end_of c (t ∷ ts) f g after e = absurd (no_value _ g (ap (λ (r : Read FileTree). r.0) e))

at_end : (r : Rest) (f g : FileTree) (after : Rest) → (end_at r >>= λ ended. (Ok f, ended.1)) ≡ (Ok g, after) → after.1 ≡ []
unfolding end_at
at_end r f g after e = end_of r.0 r.1 f g after e

nothing_left : (r after : Rest) (g : FileTree) → file_at r ≡ (Ok g, after) → after.1 ≡ []
unfolding file_at
nothing_left r after g e =
    let setups = in_two (setups_at r) _ g after e in
    let teardown = in_two (teardown_at setups.1) _ g after setups.3 in
    let sessions = in_two (sessions_at teardown.1) _ g after teardown.3 in
    let perms = in_two (perms_at sessions.1) _ g after sessions.3 in
    at_end perms.1 _ g after perms.3

ok_same : (f g : FileTree) → ◌≡◌ {A = Result FileTree Stop} (Ok f) (Ok g) → f ≡ g
ok_same f g e = cc

err_same : (s t : Stop) → ◌≡◌ {A = Result FileTree Stop} (Err s) (Err t) → s ≡ t
err_same s t e = cc

whole_from : (ts front rest : List (At SpecToken)) (out : Result FileTree Stop) (f : FileTree) → out ≡ Ok f → rest ≡ [] → ts ≡ front ++ rest → Means file out start front → file start ts f
whole_from ts front rest (Ok g) f e nothing split is =
    subst (file start ts) (ok_same g f e) (subst (λ us. file start us g) (sym (split ∙ ap (λ (r : List (At SpecToken)). front ++ r) nothing ∙ append-nil front)) is)
whole_from ts front rest (Err s) f e nothing split is = absurd (no_value s f e)

pub reads_are_files : (ts : List (At SpecToken)) (f : FileTree) (rest : Rest) → file_at (start, ts) ≡ (Ok f, rest) → file start ts f
reads_are_files ts f rest e =
    let l = file_local start ts in
    let same = sym (is_read file file_at start ts l) ∙ e in
    whole_from ts l.front l.rest l.out f (ap (λ (r : Read FileTree). r.0) same) (ap (λ (r : Read FileTree). r.1.1) same ∙ nothing_left (start, ts) rest f e) l.split l.means

pub read_or_over : (ts : List (At SpecToken)) (f : FileTree) → file start ts f → Again LongFile f (past start ts, []) (file_at (start, ts))
read_or_over ts f h = subst (λ us. Again LongFile f (past start ts, []) (file_at (start, us))) (append-nil ts) (file_again start ts [] f refl h)

sides : (r : Read FileTree) (f : FileTree) (after : Rest) → Again LongFile f after r → (r ≡ (Ok f, after)) ⊎ (r.0 ≡ Err OverLimit)
sides r f after (whole e) = inl e
sides r f after (over e o) = inr e

pub files_are_read : (ts : List (At SpecToken)) (f : FileTree) → file start ts f → (file_at (start, ts) ≡ (Ok f, (past start ts, []))) ⊎ ((file_at (start, ts)).0 ≡ Err OverLimit)
files_are_read ts f h = sides (file_at (start, ts)) f (past start ts, []) (read_or_over ts f h)

stopped_at : (r : Read FileTree) (f : FileTree) (after rest : Rest) (s : Stop) → r ≡ (Err s, rest) → Again LongFile f after r → s ≡ OverLimit
stopped_at r f after rest s e (whole d) = absurd (no_value s f (sym (ap (λ (q : Read FileTree). q.0) e) ∙ ap (λ (q : Read FileTree). q.0) d))
stopped_at r f after rest s e (over d o) = err_same s OverLimit (sym (ap (λ (q : Read FileTree). q.0) e) ∙ d)

-- what is expected is the first token of what follows
wanted : (w : What) (front more : List (At SpecToken)) (f : FileTree) → file start (front ++ more) f → Wants (Expected w) more → (t : At SpecToken) × (others : List (At SpecToken)) × (g : FileTree) × (names_token w t.tok ≡ true) × file start (front ++ t ∷ others) g
wanted w front [] f is e = let wrong : ◌≡◌ {A = Bool} false true = e in absurd cc
wanted w front (t ∷ more) f is e = (t, more, f, e, is)

stops_from : (ts front rest after : List (At SpecToken)) (out : Result FileTree Stop) (s : Stop) → out ≡ Err s → rest ≡ after → ts ≡ front ++ rest
    → ((others : List (At SpecToken)) → head others ≡ head rest → file_at (start, front ++ others) ≡ (out, (past start front, others))) → Means file out start front → StopsFirst ts s after
stops_from ts front rest after (Ok g) s e is split local means = absurd (no_value s g (sym e))
stops_from ts front rest after (Err t) s e is split local means = record {
  front = front;
  split = split ∙ ap (λ (r : List (At SpecToken)). front ++ r) is;
  begins = (means.0, means.1, means.2);
  expects = λ w is_w. wanted w front means.0 means.1 means.2 (subst (λ u. Wants u means.0) (err_same t s e ∙ is_w) means.3);
  stuck = λ others f h in_grammar. sym (err_same t s e) ∙ stopped_at (file_at (start, front ++ others)) f (past start (front ++ others), []) (past start front, others) t (local others (h ∙ ap head (sym is))) (read_or_over (front ++ others) f in_grammar);
  stays = λ last others h. fault_is (told_file last ([], front ++ others)) (stopped s (place last others)) (file_same last ([], front ++ others) ∙ ap (told last) (local others (h ∙ ap head (sym is)) ∙ ap (λ (u : Stop). (Err u, (past start front, others))) (err_same t s e)));
}

pub stops_first : (ts : List (At SpecToken)) (s : Stop) (rest : Rest) → file_at (start, ts) ≡ (Err s, rest) → StopsFirst ts s rest.1
stops_first ts s rest e =
    let l = file_local start ts in
    let same = sym (is_read file file_at start ts l) ∙ e in
    stops_from ts l.front l.rest rest.1 l.out s (ap (λ (r : Read FileTree). r.0) same) (ap (λ (r : Read FileTree). r.1.1) same) l.split l.local l.means

-- ---- one answer

abbrev pub OneLexing : Type 0
OneLexing = (text : List ℕ) (x y : Result (List (At SpecToken)) Fault) → Lexes text x → Lexes text y → x ≡ y

same_fault : (f g : Fault) → ◌≡◌ {A = Result (List (At SpecToken)) Fault} (Err f) (Err g) → f ≡ g
same_fault f g e = cc

same_tokens : (ts us : List (At SpecToken)) → ◌≡◌ {A = Result (List (At SpecToken)) Fault} (Ok ts) (Ok us) → ts ≡ us
same_tokens ts us e = cc

no_both : (f : Fault) (ts : List (At SpecToken)) → ◌≡◌ {A = Result (List (At SpecToken)) Fault} (Err f) (Ok ts) → ⊥
no_both f ts e = cc

pub one_answer : OneLexing → (text : List ℕ) (x y : Result SpecTree SpecFault) → SpecReads text x → SpecReads text y → x ≡ y
one_answer one text x y (no_tokens f h) (no_tokens g k) = ap (λ (u : Fault). Err (faults.Lex u)) (same_fault f g (one text (Err f) (Err g) h k))
one_answer one text x y (no_tokens f h) (tokens ts k e) = absurd (no_both f ts (one text (Err f) (Ok ts) h k))
one_answer one text x y (tokens ts h e) (no_tokens f k) = absurd (no_both f ts (one text (Err f) (Ok ts) k h))
one_answer one text x y (tokens ts h e) (tokens us k d) = e ∙ ap (λ (vs : List (At SpecToken)). if_ok (told_file (length text) ([], vs)) (λ x. names_resolved x.0)) (same_tokens ts us (one text (Ok ts) (Ok us) h k)) ∙ sym d
