-- Teardowns one by one, and that going through them in turn tells what they say.
use Rattle.std.proofs.Common.{◌≡◌, ℕ, zero, suc, ◌+◌, ◌≤◌, List, [], ◌∷◌, ◌++◌, Bool, true, false, length, refl, sym, ap, ◌∙◌, arith, append_assoc, append-nil}
use Rattle.std.specs.Prelude.{nat_le, map, replicate, Option, Some, None, is_some, if◌then◌else◌}
use Rattle.session_machine.specs.declared.reply.HistItem.{HistItem}
use Rattle.spec_parser.specs.Trees.{SessionTree, SpecTree}
use Rattle.report_lines.specs.Due.{is_over}
use Rattle.report_text.specs.Said.{Said, whole, says, ◌>>◌}
use Rattle.report_text.specs.Code.Turns.{session_numbers}
use Rattle.report_text.specs.Code.Turns.{teardown_numbers}
use Rattle.report_text.specs.Inner.Teardowns.{teardown_said, teardowns_say, TeardownsSaid, behind, teardown_first, teardowns_from, teardowns_in_turn}
use Rattle.report_text.proofs.Saying.{after_whole}

-- teardowns that are not there say nothing
pub teardowns_gone : (sessions : List SessionTree) (items : List HistItem) (count k : ℕ) (ts : List ℕ) → count ≤ k → teardowns_from sessions items count k ts ≡ record { text = []; notes = []; next = k }
teardowns_gone sessions items count k [] h = refl
teardowns_gone sessions items count k (t ∷ ts) h = let e : nat_le count k ≡ true = grind arith in rw e refl

pub none_there : (sessions : List SessionTree) (items : List HistItem) (count k : ℕ) (ts : List (Option ℕ)) → count ≤ k → teardowns_say sessions items count k ts ≡ says []
none_there sessions items count k [] h = refl
none_there sessions items count k (None ∷ ts) h = none_there sessions items count (k + 1) ts (omega (arith, h))
none_there sessions items count k (Some t ∷ ts) h = let e : nat_le count k ≡ true = grind arith in rw e refl

whole_if : (b : Bool) (x y : Said) → x.ending ≡ whole → y.ending ≡ whole → (if b then x else y).ending ≡ whole
whole_if true x y h k = h
whole_if false x y h k = k

-- a teardown doesn't end the report
goes_on : (sessions : List SessionTree) (items : List HistItem) (k session : ℕ) → (teardown_said sessions items k session).ending ≡ whole
goes_on sessions items k session = whole_if (is_over items k session) _ _ refl refl

-- ---- one after the other

abbrev followed : TeardownsSaid → Said → Said
followed t s = record { text = t.text ++ s.text; notes = t.notes ++ s.notes; ending = s.ending }

followed_first : (a s rest : Said) (t : TeardownsSaid) → a.ending ≡ whole → s ≡ followed t rest → (a >> s) ≡ followed (teardown_first a t) rest
followed_first a s rest t w h =
    ap (λ (x : Said). a >> x) h
    ∙ after_whole a (followed t rest) w
    ∙ ap (λ (l : List ℕ). let x : Said = record { text = l; notes = a.notes ++ (t.notes ++ rest.notes); ending = rest.ending } in x) (sym (append_assoc a.text t.text rest.text))
    ∙ ap (λ (l : List ℕ). let x : Said = record { text = (a.text ++ t.text) ++ rest.text; notes = l; ending = rest.ending } in x) (sym (append_assoc a.notes t.notes rest.notes))

own_case : (b : Bool) (sessions : List SessionTree) (items : List HistItem) (count k t : ℕ) (ts : List ℕ) (rest : List (Option ℕ)) → b ≡ nat_le count k
    → teardowns_say sessions items count (behind items k t) (map Some ts ++ rest)
    ≡ followed (teardowns_from sessions items count (behind items k t) ts) (teardowns_say sessions items count (teardowns_from sessions items count (behind items k t) ts).next rest)
    → teardowns_say sessions items count k (Some t ∷ (map Some ts ++ rest))
    ≡ followed (teardowns_from sessions items count k (t ∷ ts)) (teardowns_say sessions items count (teardowns_from sessions items count k (t ∷ ts)).next rest)
own_case true sessions items count k t ts rest is h = let over : count ≤ k = grind arith in rw (sym is) (sym (none_there sessions items count k rest over))
own_case false sessions items count k t ts rest is h =
    rw (sym is)
    (followed_first (teardown_said sessions items k t) (teardowns_say sessions items count (behind items k t) (map Some ts ++ rest))
    (teardowns_say sessions items count (teardowns_from sessions items count (behind items k t) ts).next rest)
    (teardowns_from sessions items count (behind items k t) ts) (goes_on sessions items k t) h)

-- teardowns, and what comes behind them
own : (sessions : List SessionTree) (items : List HistItem) (count k : ℕ) (ts : List ℕ) (rest : List (Option ℕ)) → teardowns_say sessions items count k (map Some ts ++ rest)
    ≡ followed (teardowns_from sessions items count k ts) (teardowns_say sessions items count (teardowns_from sessions items count k ts).next rest)
own sessions items count k [] rest = refl
own sessions items count k (t ∷ ts) rest = own_case (nat_le count k) sessions items count k t ts rest refl (own sessions items count (behind items k t) ts rest)

leaves : (sessions : List SessionTree) (items : List HistItem) (count k n : ℕ) (rest : List (Option ℕ)) → teardowns_say sessions items count k (replicate n None ++ rest) ≡ teardowns_say sessions items count (k + n) rest
leaves sessions items count k zero rest = let e : k ≡ k + 0 = omega arith in ap (λ j. teardowns_say sessions items count j rest) e
leaves sessions items count k (suc n) rest =
    let e : (k + 1) + n ≡ k + suc n = omega arith in
    leaves sessions items count (k + 1) n rest ∙ ap (λ j. teardowns_say sessions items count j rest) e

abbrev alone : TeardownsSaid → Said
alone t = record { text = t.text; notes = t.notes; ending = whole }

last : (b : Bool) (sessions : List SessionTree) (items : List HistItem) (count k : ℕ) → teardowns_say sessions items count k (if b then Some 0 ∷ [] else []) ≡ alone (teardowns_from sessions items count k (if b then 0 ∷ [] else []))
last true sessions items count k =
    let t = teardowns_from sessions items count k (0 ∷ []) in
    own sessions items count k (0 ∷ []) []
    ∙ ap (λ (l : List ℕ). let x : Said = record { text = l; notes = t.notes ++ []; ending = whole } in x) (append-nil t.text)
    ∙ ap (λ (l : List ℕ). let x : Said = record { text = t.text; notes = l; ending = whole } in x) (append-nil t.notes)
last false sessions items count k = refl

pub told : (spec : SpecTree) (items : List HistItem) (count k : ℕ) → teardowns_say spec.sessions items count k (teardown_numbers spec) ≡ teardowns_in_turn spec items count k
told spec items count k =
    let numbers = session_numbers (λ s. s.teardown) spec.sessions in
    let first = teardowns_from spec.sessions items count k numbers in
    let leave : List (Option ℕ) = replicate (length spec.sessions) None in
    let main : List (Option ℕ) = if is_some spec.teardown then Some 0 ∷ [] else [] in
    ap (teardowns_say spec.sessions items count k) (append_assoc (map Some numbers) leave main)
    ∙ own spec.sessions items count k numbers (leave ++ main)
    ∙ ap (followed first) (leaves spec.sessions items count first.next (length spec.sessions) main ∙ last (is_some spec.teardown) spec.sessions items count (first.next + length spec.sessions))
