-- Outcomes that have their verdicts, one after the other.
use Rattle.std.proofs.Common.{◌≡◌, ◌+◌, ◌<◌, ◌≤◌, ◌^◌, ◌∙◌, ℕ, List, [], ◌∷◌, ◌++◌, length, map, take, get_or, sym, ap, subst, arith}
use Rattle.std.specs.Global.{Vec}
use Rattle.std.specs.List.{enumerate_from}
use Rattle.std.proofs.lemmas.List.{length-map, take_more}
use Rattle.std.proofs.lemmas.List.FromFn.{length-enumerate_from}
use Rattle.iso_lexer.specs.declared.limits.TheConstants.{MOST_SESSIONS}
use Rattle.session_machine.specs.Machine.{Blocks}
use Rattle.spec_parser.specs.Trees.{EntryTree, SpecTree}
use Rattle.outcome_counts.specs.declared.counted.Group.{Group}
use Rattle.outcome_verdicts.specs.declared.transactions.Transaction.{Transaction}
use Rattle.outcome_verdicts.specs.Transactions.{list_view, transactions_in, transactions_of}
use Rattle.outcome_verdicts.specs.declared.judged.Judged.{Judged}
use Rattle.outcomes.specs.Judging.{AllJudged, IsJudged}

one_more : (spec : SpecTree) (blocks : Blocks) (names : List (List ℕ)) (gs : List Group) (js : List Judged) (g : Group) (j : Judged) → AllJudged spec blocks names gs js → IsJudged spec blocks names g j
    → AllJudged spec blocks names (gs ++ g ∷ []) (js ++ j ∷ [])
one_more spec blocks names [] [] g j all is = (is, tt)
one_more spec blocks names (h ∷ gs) (k ∷ js) g j all is = (all.0, one_more spec blocks names gs js g j all.1 is)
one_more spec blocks names [] (k ∷ js) g j all is = absurd all
one_more spec blocks names (h ∷ gs) [] g j all is = absurd all

pub next_judged : (spec : SpecTree) (blocks : Blocks) (names : List (List ℕ)) (gs : List Group) (i : ℕ) (js after : List Judged) (g : Group) (j : Judged) → i < length gs → g ≡ get_or gs i g
    → AllJudged spec blocks names (take i gs) js → IsJudged spec blocks names g j → after ≡ js ++ j ∷ [] → AllJudged spec blocks names (take (i + 1) gs) after
next_judged spec blocks names gs i js after g j within here all is added =
    subst (AllJudged spec blocks names (take (i + 1) gs)) (sym added)
    (subst (λ (hs : List Group). AllJudged spec blocks names hs (js ++ j ∷ [])) (sym (take_more gs i g within))
    (one_more spec blocks names (take i gs) js (get_or gs i g) j all (subst (λ (h : Group). IsJudged spec blocks names h j) here is)))

-- as many lists of transactions as sessions
pub few_lists : (spec : SpecTree) (blocks : Blocks) (entries : List EntryTree) (lists : List (Vec Transaction)) → length spec.sessions ≤ MOST_SESSIONS
    → map list_view lists ≡ transactions_of spec blocks entries → length lists < 2 ^ 32
few_lists spec blocks entries lists few are =
    let one : length (map list_view lists) ≡ length lists = length-map lists list_view in
    let all : length (transactions_of spec blocks entries) ≡ length spec.sessions = length-map (enumerate_from 1 spec.sessions) (transactions_in blocks entries) ∙ length-enumerate_from 1 spec.sessions in
    let same : length (map list_view lists) ≡ length (transactions_of spec blocks entries) = ap length are in
    omega (arith, one, all, same, few)
