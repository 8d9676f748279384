-- The sessions' part of a free run, event by event.
use Rattle.std.proofs.Common.{◌≡◌, ◌∙◌, refl, sym, ap, subst, ℕ, zero, suc, ◌+◌, ◌-◌, ◌⊎◌, inl, inr, List, [], ◌∷◌, ◌++◌, append-nil, append_assoc, length, Option, Some, None, Bool, true, false, cond, eqb, get_or, arith}
use Rattle.std.specs.Prelude.{is_some, slice_get, slice_set, nat_eq}
use Rattle.std.proofs.lemmas.List.Elements.{filter-append}
use Rattle.std.proofs.lemmas.Bool.Decides.{eqb_tells}
use Rattle.std.proofs.lemmas.Option.{slice_get_within, slice_get-get_or}
use Rattle.session_machine.specs.declared.event.Event.{Event}
use Rattle.session_machine.specs.declared.reply.HistItem.{HistItem}
use Rattle.session_machine.specs.Machine.{session_of}
use Rattle.session_machine.specs.Engine.{Engine}
use Rattle.session_seats.specs.declared.fault.ThreadFault.{ThreadFault}
use Rattle.session_seats.specs.Acts.{Acted, NotActed}
use Rattle.session_seats.specs.FreeRuns.{Does, DoesAll, script_events}
use Rattle.session_seats.specs.Seats.{SeatOf, items_of}
use Rattle.session_crews.specs.Inner.FreeRuns.{ProgressOf, IsAt, IsNextOf, RunsScripts, AreAtStart, HaveDone, AllDone, next_event, left_after}
use Rattle.session_crews.proofs.Ordering.{acted_history, not_acted_history}
use Rattle.session_crews.proofs.Going.{acted_of, not_acted_of, of_on}
use Rattle.session_crews.proofs.Blocks.{does_then}

-- ---- lists

set_in : {X : Type 0} → (xs : List X) (k j : ℕ) (y q : X) → slice_get (slice_set xs k y) j ≡ Some q → ((j ≡ k) × (q ≡ y)) ⊎ ((j ≡ k → ⊥) × (slice_get xs j ≡ Some q))
set_in [] k j y q is = absurd cc
set_in (x ∷ xs) zero zero y q is = inl (refl, cc)
set_in (x ∷ xs) zero (suc j) y q is = inr (λ e. absurd cc, is)
set_in (x ∷ xs) (suc k) zero y q is = inr (λ e. absurd cc, is)
set_in (x ∷ xs) (suc k) (suc j) y q is = elim (set_in xs k j y q is) [ inl same ↦ inl (ap suc same.0, same.1) | inr other ↦ inr (λ e. other.0 cc, other.1) ]

length_set : {X : Type 0} → (xs : List X) (k : ℕ) (y : X) → length (slice_set xs k y) ≡ length xs
length_set [] k y = refl
length_set (x ∷ xs) zero y = refl
length_set (x ∷ xs) (suc k) y = ap suc (length_set xs k y)

pushed_in : {X : Type 0} → (xs : List X) (y : X) (k : ℕ) (q : X) → slice_get (xs ++ y ∷ []) k ≡ Some q → (slice_get xs k ≡ Some q) ⊎ ((k ≡ length xs) × (q ≡ y))
pushed_in [] y zero q is = inr (refl, cc)
pushed_in [] y (suc k) q is = absurd cc
pushed_in (x ∷ xs) y zero q is = inl is
pushed_in (x ∷ xs) y (suc k) q is = elim (pushed_in xs y k q is) [ inl there ↦ inl there | inr last ↦ inr (ap suc last.0, last.1) ]

-- ---- the items of a session

kept_one : (test : Bool) (item : HistItem) → test ≡ true → cond test (item ∷ []) [] ≡ item ∷ []
kept_one test item is = ap (λ (b : Bool). cond b (item ∷ []) []) is

dropped_one : (test : Bool) (item : HistItem) → test ≡ false → cond test (item ∷ []) [] ≡ []
dropped_one test item is = ap (λ (b : Bool). cond b (item ∷ []) []) is

own_on : (session : ℕ) (items : List HistItem) (item : HistItem) → session_of item.event ≡ session → items_of session (items ++ item ∷ []) ≡ items_of session items ++ item ∷ []
own_on session items item own =
    filter-append (λ (i : HistItem). nat_eq (session_of i.event) session) items (item ∷ [])
    ∙ ap (λ (w : List HistItem). items_of session items ++ w) (elim (eqb_tells (session_of item.event) session) [ inl same ↦ kept_one _ item same.0 | inr differ ↦ absurd (differ.1 own) ])

other_on : (session : ℕ) (items : List HistItem) (item : HistItem) → (session_of item.event ≡ session → ⊥) → items_of session (items ++ item ∷ []) ≡ items_of session items
other_on session items item other =
    filter-append (λ (i : HistItem). nat_eq (session_of i.event) session) items (item ∷ [])
    ∙ (ap (λ (w : List HistItem). items_of session items ++ w) (elim (eqb_tells (session_of item.event) session) [ inl same ↦ absurd (other same.1) | inr differ ↦ dropped_one _ item differ.0 ]) ∙ append-nil (items_of session items))

-- ---- the sessions' part

-- it begins
pub begins : (start engine : Engine) (scripts : List (List ℕ)) (progress : List ProgressOf) → engine ≡ start → is_some engine.machine ≡ true → AreAtStart scripts progress → RunsScripts start scripts engine progress None
begins start engine scripts progress same unspent at = record {
  items = [];
  of = (ap (λ (e : Engine). e.blocks) same, ap (λ (e : Engine). e.count) same, ap (λ (e : Engine). e.mode) same);
  history = ap (λ (e : Engine). e.history) same ∙ sym (append-nil start.history);
  unspent = λ _. unspent;
  control = refl;
  count = at.0;
  each = at.1;
}

some_same : (a b : List ℕ) → Some a ≡ Some b → a ≡ b
some_same a b is = cc

-- one session more stands at the beginning of its script
pub starts_on : (scripts : List (List ℕ)) (progress : List ProgressOf) (at : ℕ) (script : List ℕ) (own : ProgressOf) → ((k : ℕ) (p : ProgressOf) → slice_get progress k ≡ Some p → IsAt scripts [] k p)
    → length progress ≡ at → slice_get scripts at ≡ Some script → own ≡ record { session = at + 1; over = true; events = script_events (at + 1) script }
    → (k : ℕ) (p : ProgressOf) → slice_get (progress ++ own ∷ []) k ≡ Some p → IsAt scripts [] k p
starts_on scripts progress at script own each count its is k p there =
    elim (pushed_in progress own k p there) [ inl before ↦ each k p before | inr last ↦ last_at (last.0 ∙ count) (last.1 ∙ is) ]
  where
    last_at : k ≡ at → p ≡ record { session = at + 1; over = true; events = script_events (at + 1) script } → IsAt scripts [] k p
    last_at place now =
        subst (λ (n : ℕ). IsAt scripts [] n p) (sym place) (subst (λ (w : ProgressOf). IsAt scripts [] at w) (sym now) (
          refl,
          λ blocks same. (refl, ap (λ (b : List ℕ). script_events (at + 1) b) (some_same blocks script (sym same ∙ its))),
        ))

-- the session does what is next for it
next_does : (session : ℕ) (over : Bool) (events : List Event) (item : HistItem) → next_event session over events ≡ Some item.event → Does session over events (item ∷ []) item.reply.ended (left_after over events)
next_does session false events item next = (cc, (refl, refl))
next_does session true [] item next = absurd cc
next_does session true (e ∷ es) item next = (cc, (refl, refl))

-- an event is done
pub done_on : (start engine after : Engine) (scripts : List (List ℕ)) (progress : List ProgressOf) (fault : Option ThreadFault) (session : ℕ) (event : Event) (seat kept : SeatOf) (next : ProgressOf)
    (runs : RunsScripts start scripts engine progress fault) (is : IsNextOf progress session event) → session_of event ≡ session → (a : Acted event engine after seat kept)
    → next ≡ record { session = is.at.session; over = a.reply.ended; events = left_after is.at.over is.at.events }
    → RunsScripts start scripts after (slice_set progress (session - 1) next) fault
done_on start engine after scripts progress fault session event seat kept next runs is own a stands =
    let item : HistItem = record { event = event; reply = a.reply } in
    let k = is.place in
    let place : session - 1 ≡ k = omega (arith, is.is) in
    let at = runs.each k is.at is.there in
    record {
      items = runs.items ++ item ∷ [];
      of = of_on start engine after runs.of (acted_of event engine after seat kept a).0;
      history = acted_history event engine after seat kept a ∙ (ap (λ (w : List HistItem). w ++ item ∷ []) runs.history ∙ append_assoc start.history runs.items (item ∷ []));
      unspent = λ _. (acted_of event engine after seat kept a).1;
      control = other_on 0 runs.items item (λ zero. absurd (omega (arith, is.is, own, zero))) ∙ runs.control;
      count = length_set progress (session - 1) next ∙ runs.count;
      each = λ j q there. elim (set_in progress (session - 1) j next q there) [
        | inl same ↦ own_at j q (same.0 ∙ place) (same.1 ∙ stands)
        | inr other ↦ other_at j q (λ e. other.0 (e ∙ sym place)) other.1
      ];
    }
  where
    item : HistItem
    item = record { event = event; reply = a.reply }

    own_at : (j : ℕ) (q : ProgressOf) → j ≡ is.place → q ≡ record { session = is.at.session; over = a.reply.ended; events = left_after is.at.over is.at.events } → IsAt scripts (runs.items ++ item ∷ []) j q
    own_at j q place now =
        subst (λ (n : ℕ). IsAt scripts (runs.items ++ item ∷ []) n q) (sym place) (subst (λ (w : ProgressOf). IsAt scripts (runs.items ++ item ∷ []) is.place w) (sym now) (
          (runs.each is.place is.at is.there).0,
          λ blocks its.
              let so_far = (runs.each is.place is.at is.there).1 blocks its in
              let number : session_of event ≡ is.place + 1 = own ∙ is.is in
              let does = next_does (is.place + 1) is.at.over is.at.events item (subst (λ (n : ℕ). next_event n is.at.over is.at.events ≡ Some event) (runs.each is.place is.at is.there).0 is.next) in
              subst (λ (w : List HistItem). Does (is.place + 1) true (script_events (is.place + 1) blocks) w a.reply.ended (left_after is.at.over is.at.events)) (sym (own_on (is.place + 1) runs.items item number))
              (does_then (is.place + 1) true (script_events (is.place + 1) blocks) (items_of (is.place + 1) runs.items) (item ∷ []) is.at.over is.at.events a.reply.ended (left_after is.at.over is.at.events) so_far does),
        ))

    other_at : (j : ℕ) (q : ProgressOf) → (j ≡ is.place → ⊥) → slice_get progress j ≡ Some q → IsAt scripts (runs.items ++ item ∷ []) j q
    other_at j q other there = (
      (runs.each j q there).0,
      λ blocks its.
          subst (λ (w : List HistItem). Does (j + 1) true (script_events (j + 1) blocks) w q.over q.events)
          (sym (other_on (j + 1) runs.items item (λ same. other (omega (arith, same, own, is.is))))) ((runs.each j q there).1 blocks its),
    )

-- an event isn't done: nothing stands otherwise, or a fault is kept
pub same_on : (start engine after : Engine) (scripts : List (List ℕ)) (progress : List ProgressOf) (fault : Option ThreadFault) → RunsScripts start scripts engine progress fault → after ≡ engine → RunsScripts start scripts after progress fault
same_on start engine after scripts progress fault runs same = subst (λ (e : Engine). RunsScripts start scripts e progress fault) (sym same) runs

pub refused_on : (start engine after : Engine) (scripts : List (List ℕ)) (progress : List ProgressOf) (fault : Option ThreadFault) (event : Event) (f g : ThreadFault)
    → RunsScripts start scripts engine progress fault → NotActed event engine f after → RunsScripts start scripts after progress (Some g)
refused_on start engine after scripts progress fault event f g runs not_done = record {
  items = runs.items;
  of = of_on start engine after runs.of (not_acted_of event engine after f not_done);
  history = not_acted_history event engine after f not_done ∙ runs.history;
  unspent = λ none. absurd cc;
  control = runs.control;
  count = runs.count;
  each = runs.each;
}

-- what is next for a session is its own
pub next_own : (start engine : Engine) (scripts : List (List ℕ)) (progress : List ProgressOf) (fault : Option ThreadFault) (k : ℕ) (p : ProgressOf) → RunsScripts start scripts engine progress fault → slice_get progress k ≡ Some p → p.session ≡ k + 1
next_own start engine scripts progress fault k p runs there = (runs.each k p there).0

-- ---- its end

nothing : ProgressOf
nothing = record { session = 0; over = true; events = [] }

-- all sessions have done their scripts
pub all_done : (start engine : Engine) (scripts : List (List ℕ)) (progress : List ProgressOf) (fault : Option ThreadFault) → RunsScripts start scripts engine progress fault → HaveDone progress → fault ≡ None → AllDone start scripts engine
all_done start engine scripts progress fault runs done none = record {
  items = runs.items;
  history = runs.history;
  unspent = runs.unspent none;
  own = record { own = λ session blocks its. each_does session blocks (eqb session 0) refl its; control = runs.control };
}
  where
    at_place : (k : ℕ) (blocks : List ℕ) → slice_get scripts k ≡ Some blocks → DoesAll (k + 1) (script_events (k + 1) blocks) (items_of (k + 1) runs.items)
    at_place k blocks its =
        let within = slice_get_within scripts k blocks its in
        let p = get_or progress k nothing in
        let there = slice_get-get_or progress k nothing (omega (arith, within, runs.count)) in
        let at = (runs.each k p there).1 blocks its in
        let over = (done k p there).0 in
        let left = (done k p there).1 in
        subst (λ (o : Bool). Does (k + 1) true (script_events (k + 1) blocks) (items_of (k + 1) runs.items) o []) over
        (subst (λ (es : List Event). Does (k + 1) true (script_events (k + 1) blocks) (items_of (k + 1) runs.items) p.over es) left at)

    each_does : (session : ℕ) (blocks : List ℕ) (zero : Bool) → eqb session 0 ≡ zero → cond zero None (slice_get scripts (session - 1)) ≡ Some blocks → DoesAll session (script_events session blocks) (items_of session runs.items)
    each_does zero blocks true is its = absurd cc
    each_does (suc k) blocks true is its = absurd cc
    each_does zero blocks false is its = absurd cc
    each_does (suc k) blocks false is its =
        let same : k + 1 ≡ suc k = omega arith in
        subst (λ (n : ℕ). DoesAll n (script_events n blocks) (items_of n runs.items)) same (at_place k blocks (subst (λ (n : ℕ). slice_get scripts n ≡ Some blocks) (omega arith) its))
