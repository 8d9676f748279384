-- Numbers of steps, as far as a number goes.
use Rattle.std.proofs.Common.{◌≡◌, ◌+◌, ◌-◌, ◌^◌, ◌<◌, ◌≤◌, ◌≢◌, ◌∙◌, ℕ, false, List, length, map, min, take, sym, ap, ⊎_elim, arith}
use Rattle.std.specs.Prelude.{◌==◌, flat_map, slice_get, Option}
use Rattle.std.specs.Global.{Vec}
use Rattle.std.specs.List.{list_any}
use Rattle.std.specs.Option.{option_map_or}
use Rattle.std.proofs.lemmas.List.{take-map, take_min}
use Rattle.std.proofs.lemmas.Bool.{cases_lt, ne_eqb}
use Rattle.std.proofs.lemmas.Option.{slice_get_past}
use Rattle.session_machine.specs.declared.reply.Outcome.{Outcome}
use Rattle.session_machine.specs.Machine.{is_failed}
use Rattle.spec_parser.specs.declared.tree.SessionPart.{SessionPart}
use Rattle.spec_parser.specs.declared.tree.Spec.{Spec}
use Rattle.spec_parser.specs.Trees.{SessionTree, session_view, spec_view}
use Rattle.outcome_verdicts.specs.Failures.{number_of}

-- the first sessions
first_sessions : (ss : List SessionPart) (k n : ℕ) → n ≡ min k (length ss) → map session_view (take n ss) ≡ take k (map session_view ss)
first_sessions ss k n is = ap (λ (m : ℕ). map session_view (take m ss)) is ∙ ap (map session_view) (take_min k ss) ∙ sym (take-map session_view k ss)

pub numbered : (spec : Spec) (lent : List SessionPart) (session step less before r : ℕ) → lent ≡ spec.sessions.items → less ≡ session - 1 → before ≡ min less (length lent)
    → r ≡ min (length (flat_map (λ (s : SessionTree). s.steps) (map session_view (take before lent))) + step) (2 ^ 64 - 1) → r ≡ min (number_of (spec_view spec) session step) (2 ^ 64 - 1)
numbered spec lent session step less before r own one few is =
    is ∙ ap (λ (ss : List SessionTree). min (length (flat_map (λ (s : SessionTree). s.steps) ss) + step) (2 ^ 64 - 1))
    (first_sessions lent less before few ∙ ap (λ (m : ℕ). take m (map session_view lent)) one ∙ ap (λ (ss : List SessionPart). take (session - 1) (map session_view ss)) own)

-- where a list is no longer than it can be, a greater number finds nothing
found_capped : {A : Type 0} (xs : List A) (n k : ℕ) → length xs < 2 ^ 63 → k ≡ min n (2 ^ 64 - 1) → slice_get xs k ≡ slice_get xs n
found_capped xs n k short is =
    ⊎_elim
    (λ (small : n < 2 ^ 64). let same : k ≡ n = omega arith in ap (slice_get xs) same)
    (λ (big : 2 ^ 64 ≤ n). slice_get_past xs k (omega arith) ∙ sym (slice_get_past xs n (omega arith)))
    (cases_lt n (2 ^ 64))

pub failed_capped : (answers : Vec (Vec Outcome)) (lent : List (Vec Outcome)) (n k : ℕ) → lent ≡ answers.items → k ≡ min n (2 ^ 64 - 1)
    → option_map_or (λ (step : Vec Outcome). list_any is_failed step.items) (slice_get lent k) false ≡ option_map_or (λ (step : Vec Outcome). list_any is_failed step.items) (slice_get answers.items n) false
failed_capped answers lent n k own is =
    let short : length answers.items < 2 ^ 63 = omega (arith, answers.ok.0, answers.ok.1, answers.small) in
    ap (λ (o : Option (Vec Outcome)). option_map_or (λ (step : Vec Outcome). list_any is_failed step.items) o false)
    (ap (λ (xs : List (Vec Outcome)). slice_get xs k) own ∙ found_capped answers.items n k short is)

-- and it is not the number of a step
pub same_capped : (n r k : ℕ) → r ≡ min n (2 ^ 64 - 1) → k < 2 ^ 64 - 1 → (r == k) ≡ (n == k)
same_capped n r k is below =
    ⊎_elim
    (λ (small : n < 2 ^ 64). let same : r ≡ n = omega arith in ap (λ (m : ℕ). m == k) same)
    (λ (big : 2 ^ 64 ≤ n). let one : r ≢ k = omega arith in let other : n ≢ k = omega arith in ne_eqb r k one ∙ sym (ne_eqb n k other))
    (cases_lt n (2 ^ 64))
