-- Runs of the machine: how they go on, and that a history leads to one state.
use Rattle.std.proofs.Common.{◌≡◌, map, List, [], ◌∷◌, ◌++◌, refl, ap, ap₂, sym, ◌∙◌, subst}
use Rattle.std.specs.Prelude.{Result, Ok, Err}
use Rattle.session_machine.specs.declared.event.Event.{Event}
use Rattle.session_machine.specs.declared.event.Mode.{Mode}
use Rattle.session_machine.specs.declared.reply.Reply.{Reply}
use Rattle.session_machine.specs.declared.reply.HistItem.{HistItem}
use Rattle.session_machine.specs.declared.fault.Refusal.{Refusal}
use Rattle.session_machine.specs.Machine.{Machine, Blocks, Next, next, Run}
use Rattle.session_machine.specs.Engine.{Follows}

abbrev ok_next : Next → Result Next Refusal
ok_next n = Ok n

abbrev ok_reply : Reply → Result Reply Refusal
ok_reply r = Ok r

abbrev err_reply : Refusal → Result Reply Refusal
err_reply r = Err r

one_next : {a b : Next} → ok_next a ≡ ok_next b → a ≡ b
one_next h = cc

-- a run goes on by one item
pub run_more : (blocks : Blocks) (mode : Mode) (m mid after : Machine) (items : List HistItem) (item : HistItem) → Run blocks mode m items mid → Follows blocks mode mid item after
    → Run blocks mode m (items ++ item ∷ []) after
run_more blocks mode m mid after [] item h k = (after, subst (λ x. Follows blocks mode x item after) h k, refl)
run_more blocks mode m mid after (i ∷ items) item h k = (h.0, h.1, run_more blocks mode h.0 mid after items item h.2 k)

-- only one state follows
pub one_follows : (blocks : Blocks) (mode : Mode) (m : Machine) (item : HistItem) (a b : Machine) → Follows blocks mode m item a → Follows blocks mode m item b → a ≡ b
one_follows blocks mode m item a b h k = ap (λ (n : Next). n.machine) (one_next (sym h ∙ k))

-- so a history leads to one state
pub one_run : (blocks : Blocks) (mode : Mode) (m : Machine) (items : List HistItem) (a b : Machine) → Run blocks mode m items a → Run blocks mode m items b → a ≡ b
one_run blocks mode m [] a b h k = h ∙ sym k
one_run blocks mode m (item ∷ items) a b h k =
    one_run blocks mode h.0 items a b h.2 (subst (λ x. Run blocks mode x items b) (sym (one_follows blocks mode m item h.0 k.0 h.1 k.1)) k.2)

-- a run's first part is a run, and the rest goes on from where it led
pub run_parts : (blocks : Blocks) (mode : Mode) (m after : Machine) (first rest : List HistItem) → Run blocks mode m (first ++ rest) after
    → (mid : Machine) × Run blocks mode m first mid × Run blocks mode mid rest after
run_parts blocks mode m after [] rest h = (m, refl, h)
run_parts blocks mode m after (item ∷ first) rest h =
    let r = run_parts blocks mode h.0 after first rest h.2 in (r.0, (h.0, h.1, r.1), r.2)

-- an event has one reply
item_is : (blocks : Blocks) (mode : Mode) (m : Machine) (item other : HistItem) (a b : Machine) → Follows blocks mode m item a → Follows blocks mode m other b → item.event ≡ other.event
    → (item ≡ other) × (a ≡ b)
item_is blocks mode m item other a b h k e =
    let n : Next = record { machine = a; reply = item.reply } in
    let o : Next = record { machine = b; reply = other.reply } in
    let same : n ≡ o = one_next (sym h ∙ (ap (next blocks mode m) e ∙ k)) in
    (ap₂ (λ (x : Event) (y : Reply). let i : HistItem = record { event = x; reply = y } in i) e (ap (λ (x : Next). x.reply) same), ap (λ (x : Next). x.machine) same)

first_event : {a b : Event} {xs ys : List Event} → (a ∷ xs) ≡ (b ∷ ys) → (a ≡ b) × (xs ≡ ys)
first_event h = (cc, cc)

-- so runs of the same events are the same
pub same_events : (blocks : Blocks) (mode : Mode) (m : Machine) (items others : List HistItem) (a b : Machine) → Run blocks mode m items a → Run blocks mode m others b
    → map (λ (i : HistItem). i.event) items ≡ map (λ (i : HistItem). i.event) others → items ≡ others
same_events blocks mode m [] [] a b h k e = refl
same_events blocks mode m [] (o ∷ others) a b h k e = cc
same_events blocks mode m (i ∷ items) [] a b h k e = cc
same_events blocks mode m (i ∷ items) (o ∷ others) a b h k e =
    let parts = first_event e in
    let first = item_is blocks mode m i o h.0 k.0 h.1 k.1 parts.0 in
    ap₂ (λ (x : HistItem) (xs : List HistItem). x ∷ xs) first.0
    (same_events blocks mode h.0 items others a b h.2 (subst (λ x. Run blocks mode x others b) (sym first.1) k.2) parts.1)
