-- Runs of the machine: how they go on, and that an event leads to one state.
use Rattle.std.proofs.Common.{◌≡◌, ◌↔◌, ℕ, suc, ◌+◌, ◌<◌, List, [], ◌∷◌, ◌++◌, length, length-append, ap, ap₂, sym, ◌∙◌, subst, drop, get_or, add-one, drop-cons}
use Rattle.std.specs.Prelude.{Result, Ok, Err}
use Rattle.session_machine.specs.declared.event.Event.{Event}
use Rattle.session_machine.specs.declared.event.Mode.{Mode}
use Rattle.session_machine.specs.declared.reply.Reply.{Reply}
use Rattle.session_machine.specs.declared.reply.HistItem.{HistItem}
use Rattle.session_machine.specs.declared.fault.Refusal.{Refusal}
use Rattle.session_machine.specs.Machine.{Machine, Blocks, Next, next, opening, Run}
use Rattle.session_machine.specs.Engine.{Follows}
use Rattle.wait_laws.specs.Laws.{Reaches}
use Rattle.session_laws.proofs.Replaying.{run_more, one_follows}
use Rattle.session_core.specs.Inner.Answers.{Answered, engine_answer}
use Rattle.session_machine.specs.Sound.{IsSoundMachine, StaysSound}

abbrev ok_reply : Reply → Result Reply Refusal
ok_reply r = Ok r

abbrev err_reply : Refusal → Result Reply Refusal
err_reply r = Err r

-- an answer that is no refusal is the machine's next reply
pub answered_ok : (m after : Machine) (r : Result Next Refusal) (reply : Reply) → engine_answer m r ≡ record { machine = after; answer = Ok reply }
    → r ≡ Ok (record { machine = after; reply = reply })
answered_ok m after (Ok n) reply h =
    let e : n.machine ≡ after = ap (λ (a : Answered). a.machine) h in
    let f : ok_reply n.reply ≡ ok_reply reply = ap (λ (a : Answered). a.answer) h in
    let g : n.reply ≡ reply = cc in
    ap Ok (ap₂ (λ (a : Machine) (b : Reply). let k : Next = record { machine = a; reply = b } in k) e g)
answered_ok m after (Err f) reply h = let e : err_reply f ≡ ok_reply reply = ap (λ (a : Answered). a.answer) h in cc

-- and one that is leaves the machine as it was
pub answered_err : (m after : Machine) (r : Result Next Refusal) (refusal : Refusal) → engine_answer m r ≡ record { machine = after; answer = Err refusal }
    → (r ≡ Err refusal) × (after ≡ m)
answered_err m after (Ok n) refusal h = let e : ok_reply n.reply ≡ err_reply refusal = ap (λ (a : Answered). a.answer) h in cc
answered_err m after (Err f) refusal h =
    let e : err_reply f ≡ err_reply refusal = ap (λ (a : Answered). a.answer) h in
    let g : f ≡ refusal = cc in
    (ap Err g, sym (ap (λ (a : Answered). a.machine) h))

-- what holds of an engine's machine and history goes on by one event
pub goes_on : StaysSound → (blocks : Blocks) (mode : Mode) (start old new : Machine) (history after : List HistItem) (event : Event) (reply : Reply)
    → IsSoundMachine old → old.events ≡ length history → Run blocks mode start history old
    → engine_answer old (next blocks mode old event) ≡ record { machine = new; answer = Ok reply } → after ≡ history ++ record { event = event; reply = reply } ∷ []
    → IsSoundMachine new × (new.events ≡ length after) × Run blocks mode start after new
goes_on law blocks mode start old new history after event reply sound count run h e =
    let n : Next = record { machine = new; reply = reply } in
    let item : HistItem = record { event = event; reply = reply } in
    let f : next blocks mode old event ≡ Ok n = answered_ok old new (next blocks mode old event) reply h in
    let s = law.goes_on blocks mode old event n sound f in
    (s.0, s.1 ∙ (ap (λ k. k + 1) count ∙ (sym (length-append history (item ∷ [])) ∙ ap length (sym e))), subst (λ items. Run blocks mode start items new) (sym e) (run_more blocks mode start old new history item run f))

-- a run goes on by one event
pub reaches_on : (blocks : Blocks) (mode : Mode) (count : ℕ) (m new : Machine) (item : HistItem) → Reaches blocks mode count m → Follows blocks mode m item new → Reaches blocks mode count new
reaches_on blocks mode count m new item reached follows = (reached.0 ++ item ∷ [], run_more blocks mode (opening count) m new reached.0 item reached.1 follows)

-- the items lead on to some state
abbrev pub LeadsOn : Blocks → Mode → Machine → List HistItem → Type 0
LeadsOn blocks mode m items = (after : Machine) × Run blocks mode m items after

pub legal_step : (blocks : Blocks) (mode : Mode) (m new : Machine) (item : HistItem) (rest all : List HistItem) (start : Machine) → Follows blocks mode m item new
    → (LeadsOn blocks mode m (item ∷ rest) ↔ LeadsOn blocks mode start all) → LeadsOn blocks mode new rest ↔ LeadsOn blocks mode start all
legal_step blocks mode m new item rest all start f legal = (
  λ h. legal.0 (h.0, (new, f, h.1)),
  λ h. let p = legal.1 h in (p.0, subst (λ x. Run blocks mode x rest p.0) (one_follows blocks mode m item p.1.0 new p.1.1 f) p.1.2),
)

pub legal_not : (blocks : Blocks) (mode : Mode) (m : Machine) (item : HistItem) (rest all : List HistItem) (start : Machine)
    → ((after : Machine) → Follows blocks mode m item after → ⊥) → (LeadsOn blocks mode m (item ∷ rest) ↔ LeadsOn blocks mode start all)
    → LeadsOn blocks mode start all → ⊥
legal_not blocks mode m item rest all start refused legal h = let p = legal.1 h in refused p.1.0 p.1.1

-- the items from a place on are that one and the ones after it
pub from_place : (items : List HistItem) (i : ℕ) (x : HistItem) → i < length items → x ≡ get_or items i x → drop i items ≡ x ∷ drop (i + 1) items
from_place items i x h e = rw (add-one, drop-cons items i x) (ap (λ y. y ∷ drop (suc i) items) (sym e))
