-- What stopped a run may stop it.
use Rattle.std.proofs.Common.{◌≡◌, ◌∙◌, ℕ, List, Bool, true, false, true≢false, refl, sym, ap, subst, Option, Some, None}
use Rattle.std.specs.Prelude.{IfErr, IfSome, Result, Ok, Err, if◌then◌else◌}
use Rattle.session_machine.specs.declared.event.Mode.{Mode}
use Rattle.session_machine.specs.declared.event.Mode.TheVariants.{Directed}
use Rattle.session_machine.specs.declared.fault.EngineFault.{EngineFault}
use Rattle.session_machine.specs.declared.fault.EngineFault.TheVariants as engine_faults
use Rattle.session_machine.specs.Machine.{Machine, Blocks, opening, Run}
use Rattle.session_machine.specs.Engine.{Engine}
use Rattle.session_core.specs.Engines.{IsOf}
use Rattle.session_seats.specs.declared.fault.ThreadFault.{ThreadFault}
use Rattle.session_seats.specs.declared.fault.ThreadFault.TheVariants as thread_faults
use Rattle.session_seats.specs.Orders.{Orders}
use Rattle.session_seats.specs.Refusals.{CannotGoOn, IsStuck, IsUndone, MayMeet, MayStop}
use Rattle.session_seats.specs.Seats.{SeatOf}
use Rattle.session_crews.specs.Inner.Shared.{is_outside}
use Rattle.session_threads.specs.Crews.{CameBy}
use Rattle.session_threads.specs.Seats.{IsMisfit}
use Rattle.session_threads.specs.Inner.Met.{is_refusal, told_of, told_of_another}

leads_to : (e : Engine) (machine : Option Machine) (state : Machine) → machine ≡ Some state → IfSome machine (λ m. Run e.blocks e.mode (opening e.count) e.history m) → Run e.blocks e.mode (opening e.count) e.history state
leads_to e machine state live leads = subst (λ (x : Option Machine). IfSome x (λ m. Run e.blocks e.mode (opening e.count) e.history m)) live leads

-- an engine that is stuck has come there by a history of its blocks and sessions
cannot_go_on : (orders : Orders) (blocks : Blocks) (count : ℕ) (e : Engine) (fault : EngineFault) → IsOf e blocks count Directed
    → IfSome e.machine (λ m. Run e.blocks e.mode (opening e.count) e.history m) → IsStuck orders e fault → CannotGoOn orders blocks count Directed fault
cannot_go_on orders blocks count e fault of leads s =
    let state = s.is_next.state in
    record {
      items = e.history;
      state = state;
      run = subst (λ (b : Blocks). Run b Directed (opening count) e.history state) of.0
          (subst (λ (m : Mode). Run e.blocks m (opening count) e.history state) of.2
          (subst (λ (n : ℕ). Run e.blocks e.mode (opening n) e.history state) of.1 (leads_to e e.machine state s.is_next.live leads)));
      ordered = s.ordered;
      event = s.event;
      due = s.is_next.due;
      undone = subst (λ (b : Blocks). IsUndone b count Directed state s.event fault) of.0
          (subst (λ (m : Mode). IsUndone e.blocks count m state s.event fault) of.2
          (subst (λ (n : ℕ). IsUndone e.blocks n e.mode state s.event fault) of.1 s.undone));
    }

module _ (orders : Orders) (blocks : Blocks) (count : ℕ) (e : Engine) (of : IsOf e blocks count Directed) (leads : IfSome e.machine (λ m. Run e.blocks e.mode (opening e.count) e.history m)) where
  engine_may : (fault : EngineFault) → MayMeet orders e (thread_faults.Engine fault) → MayStop orders blocks count (thread_faults.Engine fault)
  engine_may engine_faults.Memory may = tt
  engine_may engine_faults.Busy may = cannot_go_on orders blocks count e engine_faults.Busy of leads may
  engine_may engine_faults.NotYourTurn may = tt
  engine_may engine_faults.StillBlocked may = cannot_go_on orders blocks count e engine_faults.StillBlocked of leads may
  engine_may engine_faults.Idle may = cannot_go_on orders blocks count e engine_faults.Idle of leads may
  engine_may engine_faults.Spent may = cannot_go_on orders blocks count e engine_faults.Spent of leads may
  engine_may engine_faults.NoSession may = cannot_go_on orders blocks count e engine_faults.NoSession of leads may
  engine_may engine_faults.BlockNotAllowed may = cannot_go_on orders blocks count e engine_faults.BlockNotAllowed of leads may

  met_may : (fault : ThreadFault) → MayMeet orders e fault → MayStop orders blocks count fault
  met_may (thread_faults.Engine fault) may = engine_may fault may
  met_may thread_faults.ThreadRefused may = tt
  met_may thread_faults.Gate may = tt
  met_may thread_faults.Memory may = tt
  met_may thread_faults.OtherRun may = tt
  met_may (thread_faults.SeatMismatch session) may = tt

-- whose engine refused nothing, a fault may stop any run
of_another : (orders : Orders) (blocks : Blocks) (count : ℕ) (fault : ThreadFault) → MayStop orders blocks count (if is_refusal fault then thread_faults.OtherRun else fault)
of_another orders blocks count (thread_faults.Engine engine_faults.Memory) = tt
of_another orders blocks count (thread_faults.Engine engine_faults.NotYourTurn) = tt
of_another orders blocks count (thread_faults.Engine engine_faults.Busy) = tt
of_another orders blocks count (thread_faults.Engine engine_faults.StillBlocked) = tt
of_another orders blocks count (thread_faults.Engine engine_faults.Idle) = tt
of_another orders blocks count (thread_faults.Engine engine_faults.Spent) = tt
of_another orders blocks count (thread_faults.Engine engine_faults.NoSession) = tt
of_another orders blocks count (thread_faults.Engine engine_faults.BlockNotAllowed) = tt
of_another orders blocks count thread_faults.ThreadRefused = tt
of_another orders blocks count thread_faults.Gate = tt
of_another orders blocks count thread_faults.Memory = tt
of_another orders blocks count thread_faults.OtherRun = tt
of_another orders blocks count (thread_faults.SeatMismatch session) = tt

another_may : (orders : Orders) (blocks : Blocks) (count : ℕ) (met : Option ThreadFault) → IfSome (told_of_another met) (MayStop orders blocks count)
another_may orders blocks count None = tt
another_may orders blocks count (Some fault) = of_another orders blocks count fault

own_may : (orders : Orders) (blocks : Blocks) (count : ℕ) (e : Engine) (met : Option ThreadFault) → IsOf e blocks count Directed
    → IfSome e.machine (λ m. Run e.blocks e.mode (opening e.count) e.history m) → IfSome met (MayMeet orders e) → IfSome met (MayStop orders blocks count)
own_may orders blocks count e None of leads may = tt
own_may orders blocks count e (Some fault) of leads may = met_may orders blocks count e of leads fault may

-- what a run is told to have met may stop it
pub told_may : (orders own : Orders) (blocks : Blocks) (count : ℕ) (e : Engine) (is_own : Bool) (met : Option ThreadFault)
    → (is_own ≡ true → (own ≡ orders) × IsOf e blocks count Directed) → IfSome e.machine (λ m. Run e.blocks e.mode (opening e.count) e.history m)
    → IfSome met (MayMeet own e) → IfSome (told_of is_own met) (MayStop orders blocks count)
told_may orders own blocks count e false met is leads may = another_may orders blocks count met
told_may orders own blocks count e true met is leads may =
    let of = is refl in
    own_may orders blocks count e met of.1 leads (subst (λ (o : Orders). IfSome met (MayMeet o e)) of.0 may)

-- what is told of a run that isn't the one that was handed in
another_told : (met : Option ThreadFault) → told_of_another met ≡ None → ⊥
another_told None is = absurd cc
another_told (Some fault) is = absurd cc

pub told_of_own : (is_own : Bool) (met : Option ThreadFault) → told_of is_own met ≡ None → is_own ≡ true
told_of_own true met is = refl
told_of_own false met is = absurd (another_told met is)

seat_may : (orders : Orders) (blocks : Blocks) (count session : ℕ) (fault : ThreadFault) → fault ≡ thread_faults.SeatMismatch session → MayStop orders blocks count fault
seat_may orders blocks count session fault is = subst (MayStop orders blocks count) (sym is) tt

late_may : (orders : Orders) (blocks : Blocks) (count : ℕ) (fault : ThreadFault) → fault ≡ thread_faults.Engine engine_faults.NotYourTurn → MayStop orders blocks count fault
late_may orders blocks count fault is = subst (MayStop orders blocks count) (sym is) tt

told_err : {A : Type 0} (P : ThreadFault → Type 0) (fault : ThreadFault) (result : Result A ThreadFault) → result ≡ Err fault → P fault → IfErr result P
told_err P fault result is may = subst (λ r. IfErr r P) (sym is) may

-- so the answer is one that may stop the run
pub stopped_by : {A : Type 0} (orders : Orders) (blocks : Blocks) (count : ℕ) (e : Engine) (seats : List SeatOf) (met late : Option ThreadFault) (result : Result A ThreadFault)
    → IfSome met (MayStop orders blocks count) → (met ≡ None → IsOf e blocks count Directed) → IfSome late (λ f. f ≡ thread_faults.Engine engine_faults.NotYourTurn)
    → IfSome met (λ f. result ≡ Err f) → (met ≡ None → IsOf e blocks count Directed → IfSome late (λ f. result ≡ Err f))
    → (met ≡ None → IsOf e blocks count Directed → late ≡ None → IfErr result (λ f. (s : ℕ) × (f ≡ thread_faults.SeatMismatch s) × IsMisfit e seats s))
    → IfErr result (MayStop orders blocks count)
stopped_by orders blocks count e seats (Some fault) late result may of told met behind seated = told_err (MayStop orders blocks count) fault result met may
stopped_by orders blocks count e seats None (Some fault) result may of told met behind seated = told_err (MayStop orders blocks count) fault result (behind refl (of refl)) (late_may orders blocks count fault told)
stopped_by {A = A} orders blocks count e seats None None result may of told met behind seated = by_seats result (seated refl (of refl) refl) where
  by_seats : (r : Result A ThreadFault) → IfErr r (λ f. (s : ℕ) × (f ≡ thread_faults.SeatMismatch s) × IsMisfit e seats s) → IfErr r (MayStop orders blocks count)
  by_seats (Ok closed) is = tt
  by_seats (Err fault) is = seat_may orders blocks count is.0 fault is.1

-- a fault that was met, but not what an engine refused, is told whatever run it is
pub met_told : {A : Type 0} (is_own : Bool) (met told : Option ThreadFault) (result : Result A ThreadFault) → told ≡ told_of is_own met
    → IfSome told (λ f. result ≡ Err f) → IfSome met (λ f. is_refusal f ≡ false → result ≡ Err f)
met_told is_own None told result is all = tt
met_told true (Some f) told result is all = λ _. subst (λ (m : Option ThreadFault). IfSome m (λ f. result ≡ Err f)) is all
met_told false (Some f) told result is all = λ no.
    let same : told ≡ Some f = is ∙ ap (λ (b : Bool). Some (if b then thread_faults.OtherRun else f)) no in
    subst (λ (m : Option ThreadFault). IfSome m (λ f. result ≡ Err f)) same all

lost_engine : (orders : Orders) (blocks : Blocks) (count : ℕ) (f : EngineFault) → is_outside (thread_faults.Engine f) ≡ true → MayStop orders blocks count (thread_faults.Engine f)
lost_engine orders blocks count engine_faults.NotYourTurn is = tt
lost_engine orders blocks count engine_faults.Memory is = tt
lost_engine orders blocks count engine_faults.Busy is = absurd (true≢false (sym is))
lost_engine orders blocks count engine_faults.StillBlocked is = absurd (true≢false (sym is))
lost_engine orders blocks count engine_faults.Idle is = absurd (true≢false (sym is))
lost_engine orders blocks count engine_faults.Spent is = absurd (true≢false (sym is))
lost_engine orders blocks count engine_faults.NoSession is = absurd (true≢false (sym is))
lost_engine orders blocks count engine_faults.BlockNotAllowed is = absurd (true≢false (sym is))

lost_so : (orders : Orders) (blocks : Blocks) (count : ℕ) (f : ThreadFault) → is_outside f ≡ true → MayStop orders blocks count f
lost_so orders blocks count thread_faults.ThreadRefused is = tt
lost_so orders blocks count thread_faults.Gate is = tt
lost_so orders blocks count thread_faults.Memory is = tt
lost_so orders blocks count thread_faults.OtherRun is = tt
lost_so orders blocks count (thread_faults.SeatMismatch session) is = tt
lost_so orders blocks count (thread_faults.Engine f) is = lost_engine orders blocks count f is

-- a run that never began, for a fault that says nothing of its engine, came to its end so
pub lost : (orders : Orders) (blocks : Blocks) (count : ℕ) (fault : ThreadFault) → is_outside fault ≡ true → CameBy blocks count orders (Err fault)
lost orders blocks count fault is = record { ran = tt; stopped = lost_so orders blocks count fault is }
