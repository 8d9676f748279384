-- What an event leaves of a machine and its history, events that it doesn't refuse, and tables that it shows.
use Rattle.std.proofs.Common.{◌≡◌, ℕ, Bool, true, false, List, [], ◌∷◌, ◌++◌, length, refl, ap, sym, ◌∙◌, subst}
use Rattle.std.specs.Prelude.{Option, Some, None, IfSome, Result, Ok, Err, slice_get, if◌then◌else◌}
use Rattle.sql_values.specs.declared.value.Value.{Value}
use Rattle.session_machine.specs.declared.session.Session.{Session}
use Rattle.session_machine.specs.declared.event.Event.{Event}
use Rattle.session_machine.specs.declared.event.Mode.{Mode}
use Rattle.session_machine.specs.declared.reply.Reply.{Reply}
use Rattle.session_machine.specs.declared.reply.HistItem.{HistItem}
use Rattle.session_machine.specs.declared.fault.Refusal.{Refusal}
use Rattle.session_machine.specs.Machine.{Machine, Blocks, Next, next, opening, visible, visible_for, visible_to, Run}
use Rattle.session_machine.specs.Engine.{Engine, Goes, IsDue, IsLegal}
use Rattle.session_core.specs.Inner.Answers.{engine_answer}
use Rattle.session_core.specs.Inner.Blocking.{AreBlockers, Lists as Ways}
use Rattle.session_core.specs.Inner.Kept.{AllKept, Lists}
use Rattle.session_machine.specs.Sound.{IsSoundMachine, StaysSound}
use Rattle.session_core.proofs.Replaying.{answered_ok, answered_err, goes_on}

-- what is known of a machine, a history that leads to it, and what its sessions keep
abbrev pub Keeps : Blocks → ℕ → Mode → List HistItem → Machine → Lists → Ways → Type 0
Keeps blocks count mode items m kept ways = IsSoundMachine m × (m.events ≡ length items) × Run blocks mode (opening count) items m × AllKept blocks m kept × AreBlockers m ways

-- what the machine answers, where that is known
as_known : (m after : Machine) (r : Result Next Refusal) (answer known : Result Reply Refusal) → engine_answer m r ≡ record { machine = after; answer = answer } → answer ≡ known
    → engine_answer m r ≡ record { machine = after; answer = known }
as_known m after r answer known h is = subst (λ (a : Result Reply Refusal). engine_answer m r ≡ record { machine = after; answer = a }) is h

-- an event with a reply goes
pub goes : (blocks : Blocks) (mode : Mode) (m after : Machine) (event : Event) (answer : Result Reply Refusal) (reply : Reply)
    → engine_answer m (next blocks mode m event) ≡ record { machine = after; answer = answer } → answer ≡ Ok reply → Goes blocks mode m event
goes blocks mode m after event answer reply h is =
    let r = next blocks mode m event in
    (record { machine = after; reply = reply }, answered_ok m after r reply (as_known m after r answer (Ok reply) h is))

-- with the reply in the history the history and the state go on by one event
pub noted : StaysSound → (blocks : Blocks) (count : ℕ) (mode : Mode) (m new : Machine) (items after : List HistItem) (event : Event) (answer : Result Reply Refusal) (reply : Reply) (spent : Bool) (kept now : Lists) (ways ways_now : Ways)
    → Keeps blocks count mode items m kept ways → AllKept blocks new now → AreBlockers new ways_now → engine_answer m (next blocks mode m event) ≡ record { machine = new; answer = answer } → answer ≡ Ok reply
    → after ≡ items ++ record { event = event; reply = reply } ∷ [] → IsLegal blocks count mode after × (spent ≡ false → Keeps blocks count mode after new now ways_now)
noted law blocks count mode m new items after event answer reply spent kept now ways ways_now keeps list blocked h is e =
    let known = as_known m new (next blocks mode m event) answer (Ok reply) h is in
    let k = goes_on law blocks mode (opening count) m new items after event reply keeps.0 keeps.1 keeps.2 known e in
    ((new, k.2), λ _. (k.0, k.1, k.2, list, blocked))

-- a refusal leaves the state
pub left : (blocks : Blocks) (count : ℕ) (mode : Mode) (m new : Machine) (items : List HistItem) (event : Event) (answer : Result Reply Refusal) (refusal : Refusal) (spent : Bool) (kept now : Lists) (ways ways_now : Ways)
    → IsLegal blocks count mode items × (spent ≡ false → Keeps blocks count mode items m kept ways) → (spent ≡ false → AllKept blocks new now × AreBlockers new ways_now) → engine_answer m (next blocks mode m event) ≡ record { machine = new; answer = answer }
    → answer ≡ Err refusal → IsLegal blocks count mode items × (spent ≡ false → Keeps blocks count mode items new now ways_now)
left blocks count mode m new items event answer refusal spent kept now ways ways_now keeps list h is =
    let r = next blocks mode m event in
    let same = answered_err m new r refusal (as_known m new r answer (Err refusal) h is) in (
      keeps.0,
      λ fresh.
          let k = keeps.1 fresh in
          let moved : IsSoundMachine new × (new.events ≡ length items) × Run blocks mode (opening count) items new =
          subst (λ (x : Machine). IsSoundMachine x × (x.events ≡ length items) × Run blocks mode (opening count) items x) (sym same.1) (k.0, k.1, k.2) in
          (moved.0, moved.1, moved.2, (list fresh).0, (list fresh).1),
    )

-- what is shown to a session that is there
pub shows : (m : Machine) (session : ℕ) (name : List ℕ) (s : Session) (rows : List (List Value)) → slice_get m.sessions session ≡ Some s → visible_to m.db s name ≡ Some rows
    → visible m session name ≡ Ok (Some rows)
shows m session name s rows e is = ap (visible_for m name) e ∙ ap (λ (o : Option (List (List Value))). Ok o) is

-- an event that the machine of an engine doesn't refuse is due, where the engine isn't spent
pub due : (blocks : Blocks) (count : ℕ) (mode : Mode) (m : Machine) (history : List HistItem) (spent : Bool) (event : Event) (e : Engine)
    → record { blocks = blocks; count = count; mode = mode; machine = if spent then None else Some m; history = history } ≡ e → spent ≡ false → Goes blocks mode m event
    → IsDue e event
due blocks count mode m history spent event e is fresh goes =
    subst (λ (x : Engine). IsDue x event) is (m, ap (λ (b : Bool). if b then None else Some m) fresh, goes)

-- what is said of the machine of an engine that isn't spent holds of the machine that it has
pub of_machine : (spent : Bool) (m : Machine) (P : Machine → Type 0) → (spent ≡ false → P m) → IfSome (if spent then None else Some m) P
of_machine true m P h = tt
of_machine false m P h = h refl
