-- Blocks one after another say what the code goes through piece by piece.
use Rattle.std.proofs.Common.{◌≡◌, ℕ, ◌+◌, ◌-◌, ◌≤◌, List, [], ◌∷◌, Bool, true, false, length, refl, sym, ap, ◌∙◌, arith}
use Rattle.std.specs.Prelude.{nat_le, map, Option, Some, None, if◌then◌else◌}
use Rattle.session_machine.specs.declared.reply.HistItem.{HistItem}
use Rattle.session_machine.specs.declared.reply.Outcome.{Outcome}
use Rattle.session_machine.specs.declared.reply.Outcome.TheVariants.{Failed}
use Rattle.spec_parser.specs.Trees.{EntryTree, SessionTree, SpecTree}
use Rattle.report_lines.specs.Due.{segment, is_over, went_well, orders}
use Rattle.report_text.specs.Replies.{rows_text, last_outcome}
use Rattle.report_text.specs.Steps.{starting_text}
use Rattle.report_text.specs.Said.{Said, only_ends, says, ◌>>◌}
use Rattle.report_text.specs.Code.Turns.{in_turn}
use Rattle.report_text.specs.Code.Turns.{setup_numbers, setup_ending, setup_turn}
use Rattle.report_text.specs.Code.Turns.{teardown_numbers, teardown_turn}
use Rattle.report_text.specs.Code.Turns.{permutation_in_turn}
use Rattle.report_text.specs.Inner.Teardowns.{teardowns_say}
use Rattle.report_text.specs.Inner.Permutation.{setups_say, entries_say, all_says}
use Rattle.report_text.proofs.InTurn.{none_there}
use Rattle.report_text.specs.Permutation.{permutation_says}
use Rattle.report_text.proofs.Ordered.{permutation_turn}
use Rattle.report_text.proofs.Saying.{permutation_run}

setup_case : (gone well : Bool) (rows : List ℕ) (o : Outcome) (rest pieces : Said) → rest ≡ pieces
    → (if gone then says [] else ((if well then says rows else only_ends (setup_ending o)) >> rest)) ≡ (if gone then says [] else (if well then says rows >> pieces else only_ends (setup_ending o)))
setup_case true well rows o rest pieces h = refl
setup_case false true rows o rest pieces h = ap (λ (s : Said). says rows >> s) h
setup_case false false rows (Failed fault) rest pieces h = refl
setup_case false false rows o rest pieces h = refl

-- the setups
pub setups_are : (items : List HistItem) (count k : ℕ) (ss : List ℕ) → in_turn count k (map (setup_turn items) ss) ≡ setups_say items count k ss
setups_are items count k [] = refl
setups_are items count k (s ∷ ss) =
    let last = last_outcome (segment items k) in
    setup_case (nat_le count k) (went_well items k s) (rows_text last) last (in_turn count (k + 1) (map (setup_turn items) ss)) (setups_say items count (k + 1) ss) (setups_are items count (k + 1) ss)

leave_case : (gone : Bool) (rest pieces : Said) → rest ≡ pieces → (gone ≡ true → pieces ≡ says []) → (if gone then says [] else (says [] >> rest)) ≡ pieces
leave_case true rest pieces h none = sym (none refl)
leave_case false rest pieces h none = h

teardown_case : (gone over : Bool) (a b : Said) (rest pieces : ℕ → Said) (k : ℕ) → ((j : ℕ) → rest j ≡ pieces j)
    → (let p : Said × ℕ = if over then (a, 1) else (b, 2) in if gone then says [] else (p.0 >> rest (k + p.1))) ≡ (if gone then says [] else ((if over then a else b) >> pieces (if over then k + 1 else k + 2)))
teardown_case true over a b rest pieces k h = refl
teardown_case false true a b rest pieces k h = ap (λ (s : Said). a >> s) (h (k + 1))
teardown_case false false a b rest pieces k h = ap (λ (s : Said). b >> s) (h (k + 2))

-- the teardowns and the Leaves
pub teardowns_are : (sessions : List SessionTree) (items : List HistItem) (count k : ℕ) (ts : List (Option ℕ)) → in_turn count k (map (teardown_turn sessions items) ts) ≡ teardowns_say sessions items count k ts
teardowns_are sessions items count k [] = refl
teardowns_are sessions items count k (None ∷ ts) =
    leave_case (nat_le count k) (in_turn count (k + 1) (map (teardown_turn sessions items) ts)) (teardowns_say sessions items count (k + 1) ts) (teardowns_are sessions items count (k + 1) ts)
    (λ gone. let past : count ≤ k + 1 = grind arith in none_there sessions items count (k + 1) ts past)
teardowns_are sessions items count k (Some session ∷ ts) =
    teardown_case (nat_le count k) (is_over items k session) _ _ (λ j. in_turn count j (map (teardown_turn sessions items) ts)) (λ j. teardowns_say sessions items count j ts) k (λ j. teardowns_are sessions items count j ts)

turns_are : (spec : SpecTree) (entries : List EntryTree) (items : List HistItem) → permutation_in_turn spec entries items ≡ all_says spec (permutation_run entries items (length (setup_numbers spec)))
unfolding permutation_in_turn all_says
turns_are spec entries items =
    let start = starting_text spec entries in
    let n = orders items in
    let k = length (setup_numbers spec) + length entries in
    let told = entries_say spec (permutation_run entries items (length (setup_numbers spec))) (n - length (setup_numbers spec)) in
    ap (λ (s : Said). says start >> s >> told >> in_turn n k (map (teardown_turn spec.sessions items) (teardown_numbers spec))) (setups_are items n 0 (setup_numbers spec))
    ∙ ap (λ (s : Said). says start >> setups_say items n 0 (setup_numbers spec) >> told >> s) (teardowns_are spec.sessions items n k (teardown_numbers spec))

pub permutation_is : (spec : SpecTree) (entries : List EntryTree) (items : List HistItem) → permutation_says spec entries items ≡ all_says spec (permutation_run entries items (length (setup_numbers spec)))
permutation_is spec entries items = permutation_turn spec entries items ∙ turns_are spec entries items
