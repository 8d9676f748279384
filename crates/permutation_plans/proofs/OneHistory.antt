-- At most one history is regular: where the state is quiet only what is due is taken, else only the step of the turn.
use Rattle.std.proofs.Common.{◌≡◌, ℕ, Bool, true, false, not, List, [], ◌∷◌, ◌++◌, refl, ap, ap₂, sym, ◌∙◌, subst}
use Rattle.std.specs.Prelude.{Option, Some, None, is_none, slice_get, if◌then◌else◌, Result, Ok, Err, IsTrue}
use Rattle.std.proofs.lemmas.Bool.{eqb-true}
use Rattle.session_machine.specs.declared.session.Place.{Place}
use Rattle.session_machine.specs.declared.session.Session.{Session}
use Rattle.session_machine.specs.declared.event.Event.{Event}
use Rattle.session_machine.specs.declared.event.Event.TheVariants.{Launch, Step, Leave}
use Rattle.session_machine.specs.declared.event.Order.{Order}
use Rattle.session_machine.specs.declared.event.Order.TheVariants.{Launch as LaunchOrder, Leave as LeaveOrder, Stop}
use Rattle.session_machine.specs.declared.event.Mode.TheVariants.{Directed}
use Rattle.session_machine.specs.declared.reply.Reply.{Reply}
use Rattle.session_machine.specs.declared.reply.HistItem.{HistItem}
use Rattle.session_machine.specs.declared.fault.Refusal.{Refusal}
use Rattle.session_machine.specs.declared.fault.Refusal.TheVariants.{Busy, NotYourTurn, StillBlocked, BlockNotAllowed}
use Rattle.session_machine.specs.Machine.{Machine, Blocks, Next, next, turn_in, is_quiet, Run}
use Rattle.session_machine.specs.Inner.Steps.{launch_of, leave_of, step_of, step_from_place, step_stmt, is_turn}
use Rattle.spec_parser.specs.Trees.{EntryTree, SpecTree}
use Rattle.permutation_plans.specs.Regular.{next_order, IsRegular}
use Rattle.permutation_plans.proofs.Next.{regular_fits}
use Rattle.permutation_plans.specs.Code.Fits.{IsOrdered, FitsAfter}

-- what can come next: where no session has the turn the order, else that session's step
abbrev coming : Option ℕ → Order → Option Event
coming None (LaunchOrder session block) = Some (Launch session block)
coming None (LeaveOrder session) = Some (Leave session)
coming None Stop = None
coming (Some k) order = Some (Step k)

abbrev answer_of : Next → Result Next Refusal
answer_of n = Ok n

abbrev refused : Refusal → Result Next Refusal
refused r = Err r

no_answer : {r : Refusal} {n : Next} → refused r ≡ answer_of n → ⊥
no_answer h = cc

one_answer : {a b : Next} → answer_of a ≡ answer_of b → a ≡ b
one_answer h = cc

one_some : {a b : Event} → (let x : Option Event = Some a in let y : Option Event = Some b in x ≡ y) → a ≡ b
one_some h = cc

none_some : {a : Event} → (let x : Option Event = None in let y : Option Event = Some a in x ≡ y) → ⊥
none_some h = cc

is_nothing : (o : Option ℕ) → is_none o ≡ true → o ≡ None
is_nothing None h = refl
is_nothing (Some k) h = cc

is_it : (o : Option ℕ) (k : ℕ) → is_turn o k ≡ true → o ≡ Some k
is_it None k h = cc
is_it (Some j) k h = ap Some (eqb-true j k h)

launch_tests : (allowed busy quiet : Bool) (n m : Next)
    → (if not allowed then refused BlockNotAllowed else if busy then refused Busy else if not quiet then refused NotYourTurn else answer_of n) ≡ answer_of m
    → quiet ≡ true
launch_tests allowed busy true n m h = refl
launch_tests false busy false n m h = absurd (no_answer h)
launch_tests true true false n m h = absurd (no_answer h)
launch_tests true false false n m h = absurd (no_answer h)

leave_tests : (quiet : Bool) (n m : Next) → (if not quiet then refused NotYourTurn else answer_of n) ≡ answer_of m → quiet ≡ true
leave_tests true n m h = refl
leave_tests false n m h = absurd (no_answer h)

step_tests : (turn blocked : Bool) (n m : Next)
    → (if not turn then refused NotYourTurn else if blocked then refused StillBlocked else answer_of n) ≡ answer_of m
    → turn ≡ true
step_tests true blocked n m h = refl
step_tests false blocked n m h = absurd (no_answer h)

launch_quiet : (blocks : Blocks) (m : Machine) (session block : ℕ) (o : Option Session) (n : Next) → launch_of blocks Directed m session block o ≡ answer_of n → turn_in m ≡ None
launch_quiet blocks m session block None n h = absurd (no_answer h)
launch_quiet blocks m session block (Some s) n h = is_nothing (turn_in m) (launch_tests _ _ (is_quiet m) _ n h)

leave_quiet : (m : Machine) (session : ℕ) (o : Option Session) (n : Next) → leave_of Directed m session o ≡ answer_of n → turn_in m ≡ None
leave_quiet m session None n h = absurd (no_answer h)
leave_quiet m session (Some s) n h = is_nothing (turn_in m) (leave_tests (is_quiet m) _ n h)

stmt_turn : (m : Machine) (session : ℕ) (s : Session) (place : Place) (count : ℕ) (o : Option _) (n : Next) → step_stmt Directed m session s place count o ≡ answer_of n
    → turn_in m ≡ Some session
stmt_turn m session s place count None n h = absurd (no_answer h)
stmt_turn m session s place count (Some stmt) n h = is_it (turn_in m) session (step_tests (is_turn (turn_in m) session) _ _ n h)

place_turn : (blocks : Blocks) (m : Machine) (session : ℕ) (s : Session) (o : Option Place) (n : Next) → step_from_place blocks Directed m session s o ≡ answer_of n → turn_in m ≡ Some session
place_turn blocks m session s None n h = absurd (no_answer h)
place_turn blocks m session s (Some place) n h = stmt_turn m session s place _ _ n h

step_turn : (blocks : Blocks) (m : Machine) (session : ℕ) (o : Option Session) (n : Next) → step_of blocks Directed m session o ≡ answer_of n → turn_in m ≡ Some session
step_turn blocks m session None n h = absurd (no_answer h)
step_turn blocks m session (Some s) n h = place_turn blocks m session s s.place n h

-- so the event that is taken is the one that can come
comes : (blocks : Blocks) (m : Machine) (order : Order) (e : Event) (n : Next) → IsOrdered e order → next blocks Directed m e ≡ answer_of n → coming (turn_in m) order ≡ Some e
comes blocks m order (Launch session block) n ordered taken =
    ap (λ t. coming t order) (launch_quiet blocks m session block (slice_get m.sessions session) n taken) ∙ ap (coming None) ordered
comes blocks m order (Step session) n ordered taken =
    ap (λ t. coming t order) (step_turn blocks m session (slice_get m.sessions session) n taken)
comes blocks m order (Leave session) n ordered taken =
    ap (λ t. coming t order) (leave_quiet m session (slice_get m.sessions session) n taken) ∙ ap (coming None) ordered

one_event : (blocks : Blocks) (m : Machine) (order : Order) (d e : Event) (k n : Next) → IsOrdered d order → IsOrdered e order
    → next blocks Directed m d ≡ answer_of k → next blocks Directed m e ≡ answer_of n → d ≡ e
one_event blocks m order d e k n due_d due_e taken_d taken_e = one_some (sym (comes blocks m order d k due_d taken_d) ∙ comes blocks m order e n due_e taken_e)

-- where nothing goes on by itself and the permutation is over, nothing comes
no_event : (blocks : Blocks) (m : Machine) (order : Order) (e : Event) (n : Next) → IsTrue (is_quiet m) → order ≡ Stop → IsOrdered e order
    → next blocks Directed m e ≡ answer_of n → ⊥
no_event blocks m order e n quiet over due taken =
    none_some (sym (ap₂ coming (is_nothing (turn_in m) quiet) over) ∙ comes blocks m order e n due taken)

same_item : (x y : HistItem) (a b : Machine) (blocks : Blocks) (m : Machine) → x.event ≡ y.event
    → next blocks Directed m x.event ≡ answer_of (record { machine = a; reply = x.reply }) → next blocks Directed m y.event ≡ answer_of (record { machine = b; reply = y.reply })
    → (x ≡ y) × (a ≡ b)
same_item x y a b blocks m e h k =
    let same = one_answer (sym h ∙ (ap (next blocks Directed m) e ∙ k)) in
    (ap₂ (λ (d : Event) (r : Reply). let i : HistItem = record { event = d; reply = r } in i) e (ap (λ (n : Next). n.reply) same), ap (λ (n : Next). n.machine) same)

one_after : (due : List HistItem → Order) (blocks : Blocks) (before : List HistItem) (m a b : Machine) (items others : List HistItem)
    → Run blocks Directed m items a → IsTrue (is_quiet a) → FitsAfter due before items
    → Run blocks Directed m others b → IsTrue (is_quiet b) → FitsAfter due before others → items ≡ others
one_after due blocks before m a b [] [] run quiet fits run' quiet' fits' = refl
one_after due blocks before m a b [] (o ∷ others) run quiet fits run' quiet' fits' =
    absurd (no_event blocks m (due before) o.event _ (subst (λ x. IsTrue (is_quiet x)) run quiet) fits fits'.0 run'.1)
one_after due blocks before m a b (i ∷ items) [] run quiet fits run' quiet' fits' =
    absurd (no_event blocks m (due before) i.event _ (subst (λ x. IsTrue (is_quiet x)) run' quiet') fits' fits.0 run.1)
one_after due blocks before m a b (i ∷ items) (o ∷ others) run quiet fits run' quiet' fits' =
    let e = one_event blocks m (due before) i.event o.event _ _ fits.0 fits'.0 run.1 run'.1 in
    let same = same_item i o run.0 run'.0 blocks m e run.1 run'.1 in
    let rest = subst (λ x. Run blocks Directed x others b) (sym same.1) run'.2 in
    let fitting = subst (λ x. FitsAfter due (before ++ x ∷ []) others) (sym same.0) fits'.1 in
    ap₂ (λ (x : HistItem) (xs : List HistItem). x ∷ xs) same.0
    (one_after due blocks (before ++ i ∷ []) run.0 a b items others run.2 quiet fits.1 rest quiet' fitting)

pub one_regular : (spec : SpecTree) (entries : List EntryTree) (blocks : Blocks) (items others : List HistItem)
    → IsRegular spec blocks entries items → IsRegular spec blocks entries others → items ≡ others
one_regular spec entries blocks items others h k =
    one_after (next_order spec entries) blocks [] _ h.state k.state items others h.run h.quiet (regular_fits spec blocks entries items h) k.run k.quiet (regular_fits spec blocks entries others k)
