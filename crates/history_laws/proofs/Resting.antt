-- Steps in turn lead to a quiet state.
use Rattle.std.proofs.Common.{◌≡◌, refl, subst, ℕ, zero, suc, ◌+◌, ◌*◌, ◌<◌, ◌≤◌, List, [], ◌∷◌, ◌++◌, length, length-append, arith}
use Rattle.std.specs.Prelude.{Option, Some, None}
use Rattle.session_machine.specs.declared.event.Event.TheVariants.{Step}
use Rattle.session_machine.specs.declared.event.Mode.{Mode}
use Rattle.session_machine.specs.declared.event.Mode.TheVariants.{Directed}
use Rattle.session_machine.specs.declared.reply.HistItem.{HistItem}
use Rattle.session_machine.specs.Machine.{Machine, Blocks, opening, turn_in, Run}
use Rattle.wait_laws.specs.Laws.{Reaches, AreSteps, RestIsReached, statements_left, able}

pub run_append : (given : Blocks) (mode : Mode) (xs ys : List HistItem) (a b c : Machine) → Run given mode a xs b → Run given mode b ys c → Run given mode a (xs ++ ys) c
run_append given mode [] ys a b c r s = subst (λ x. Run given mode x ys c) r s
run_append given mode (x ∷ xs) ys a b c r s = (r.0, r.1, run_append given mode xs ys r.0 b c r.2 s)

steps_append : (xs ys : List HistItem) → AreSteps xs → AreSteps ys → AreSteps (xs ++ ys)
steps_append [] ys h k = k
steps_append (x ∷ xs) ys h k = (h.0, steps_append xs ys h.1 k)

-- steps that lead to a state in which nothing goes on by itself
pub record Rests (given : Blocks) (m : Machine) : Type 0 where
  pub items : List HistItem
  pub after : Machine
  pub run : Run given Directed m items after
  pub steps : AreSteps items
  pub quiet : turn_in after ≡ None

rests_from : RestIsReached → (given : Blocks) (count : ℕ) (first : Machine) → Reaches given Directed count first → (most : ℕ)
    → ((items : List HistItem) (after : Machine) → Run given Directed first items after → AreSteps items → length items ≤ most)
    → (left : ℕ) (sofar : List HistItem) (m : Machine) → Run given Directed first sofar m → AreSteps sofar → most < length sofar + left → Rests given m
rests_from law given count first reached most few zero sofar m run steps less = absurd (omega (arith, few sofar m run steps, less))
rests_from law given count first reached most few (suc left) sofar m run steps less = by (turn_in m) refl (λ on after ran stepped fewer. rests_from law given count first reached most few left on after ran stepped fewer) where
  by : (o : Option ℕ) → turn_in m ≡ o
      → ((on : List HistItem) (after : Machine) → Run given Directed first on after → AreSteps on → most < length on + left → Rests given after) → Rests given m
  by None quiet more = record { items = []; after = m; run = refl; steps = tt; quiet = quiet }
  by (Some k) turn more =
      let taken = law.in_turn given Directed count m (reached.0 ++ sofar, run_append given Directed reached.0 sofar (opening count) first m reached.1 run) k turn in
      let item : HistItem = record { event = Step k; reply = taken.0.reply } in
      let one : Run given Directed m (item ∷ []) taken.0.machine = (taken.0.machine, taken.1, refl) in
      let is_step : AreSteps (item ∷ []) = ((k, refl), tt) in
      let long = length-append sofar (item ∷ []) in
      let rest = more (sofar ++ item ∷ []) taken.0.machine (run_append given Directed sofar (item ∷ []) first m taken.0.machine run one)
      (steps_append sofar (item ∷ []) steps is_step) (omega (arith, less, long)) in
      record { items = item ∷ rest.items; after = rest.after; run = (taken.0.machine, taken.1, rest.run); steps = ((k, refl), rest.steps); quiet = rest.quiet }

pub rests : RestIsReached → (given : Blocks) (count : ℕ) (m : Machine) → Reaches given Directed count m → Rests given m
rests law given count m reached =
    let most = statements_left given m * (length m.sessions + 1) + able m in
    rests_from law given count m reached most (λ items after run steps. law.bounded given Directed count m after items reached run steps) (suc most) [] m refl tt (omega arith)
