-- The targets that sessions keep are those of the present state, after each event.
use Rattle.std.proofs.Common.{◌≡◌, refl, sym, ◌∙◌, ap, subst, Bool, ⊎_elim, ◌⊎◌, inl, inr, ℕ, zero, suc, ◌+◌, ◌<◌, ◌≤◌, List, [], ◌∷◌, length, length-set, get_or, set, replicate, arith}
use Rattle.std.specs.Prelude.{Option, Some, None, IfSome, IfOk, IfErr, is_some, true, false, slice_get, nat_lt, if◌then◌else◌, Result, Ok, Err}
use Rattle.std.specs.Global.{Vec}
use Rattle.std.specs.Option.{option_map_or}
use Rattle.std.proofs.lemmas.Bool.{cases_eq}
use Rattle.std.proofs.lemmas.List.{length-replicate}
use Rattle.std.proofs.lemmas.Option.{same_Some, slice_get_cases, slice_get_within}
use Rattle.sql_trees.specs.Statements.{StmtTree, Begin, Commit, Rollback, SetTransaction, SetDeadlockTimeout, Create, DropTables, Inserts, Updates, Deletes, Selects}
use Rattle.sql_values.specs.declared.fault.ValueFault.{ValueFault}
use Rattle.row_versions.specs.declared.write.Seen.{Seen}
use Rattle.session_machine.specs.declared.session.OpenTransaction.{OpenTransaction}
use Rattle.session_machine.specs.declared.session.Place.{Place}
use Rattle.session_machine.specs.declared.session.Progress.{Progress}
use Rattle.session_machine.specs.declared.session.Session.{Session}
use Rattle.session_machine.specs.declared.session.Transaction.TheVariants.{Closed, Open}
use Rattle.session_machine.specs.Transactions.{committed}
use Rattle.session_machine.specs.declared.event.Event.{Event}
use Rattle.session_machine.specs.declared.event.Event.TheVariants.{Launch, Step, Leave}
use Rattle.session_machine.specs.declared.event.Mode.{Mode}
use Rattle.session_machine.specs.declared.reply.HistItem.{HistItem}
use Rattle.session_machine.specs.declared.reply.Reply.{Reply}
use Rattle.session_machine.specs.declared.fault.Refusal.{Refusal}
use Rattle.session_machine.specs.declared.fault.Refusal.TheVariants.{Busy, NotYourTurn, BlockNotAllowed}
use Rattle.session_machine.specs.Tables.{Database, Table}
use Rattle.session_machine.specs.Statements.{Effect, Surroundings}
use Rattle.session_machine.specs.Targets.{going_on}
use Rattle.session_machine.specs.Machine.{Machine, Blocks, Next, Run, after_stmt, at_rest, closed_at_end, is_failed, next, opening, session_of, stmts_of}
use Rattle.session_machine.specs.Running.{run_stmt}
use Rattle.session_machine.specs.Waits.{is_still_blocked}
use Rattle.session_machine.specs.Inner.Steps.{around, finished, first_place, launch_of, leave_of, waits_there}
use Rattle.session_machine.specs.Sound.{IsSoundMachine}
use Rattle.session_statements.specs.Targets.{AreKept, targets_of}
use Rattle.session_machine.specs.Engine.{Engine}
use Rattle.session_core.specs.Engines.{KeepsAt, KeepsTargets}
use Rattle.session_core.specs.Inner.Answers.{engine_answer}
use Rattle.session_core.specs.Inner.Kept.{AllKept, KeepsOn, Lists, kept_at, seen_in}
use Rattle.session_core.proofs.Stepping.{set_twice, within_at}
use Rattle.session_core.proofs.Replaying.{answered_err, answered_ok}
use Rattle.session_laws.proofs.Lists.{slice_get-set_other, slice_get-set_same}
use Rattle.wait_laws.specs.Laws.{FindsTheSame, IsAtWork, Reaches, SameTargets, stmt_at}
use Rattle.wait_laws.proofs.Begun.{begun_there, did_next, others_stay, rest_is, waits_go_on_as_begun}
use Rattle.wait_laws.proofs.Events.{After, after, ok_else, ok_is, session_there}
use Rattle.wait_laws.proofs.Resumed.{statements_stay_as_begun}

abbrev Kept : Type 0
Kept = Option (Vec Seen)

-- ---- the opening

no_list : (targets : Kept) → (let o : Option Kept = None in o ≡ Some targets) → ⊥
no_list targets h = cc

all_none : (n k : ℕ) (targets : Kept) → slice_get (replicate n None) k ≡ Some targets → targets ≡ None
all_none zero k targets h = absurd (no_list targets h)
all_none (suc n) zero targets h = sym (same_Some None targets h)
all_none (suc n) (suc k) targets h = all_none n k targets h

pub kept_opening : (given : Blocks) (count : ℕ) (m : Machine) (kept : Lists) → m ≡ opening count → kept ≡ replicate (count + 1) None → AllKept given m kept
kept_opening given count m kept is none = subst (λ (x : Machine). AllKept given x kept) (sym is) (record {
  long = ap length none ∙ (length-replicate (count + 1) _ ∙ sym (length-replicate (count + 1) at_rest));
  its = λ k s targets at its stmt tree.
      subst (λ (x : Session). AreKept (opening count).db stmt x.statement targets) (sym (rest_is (count + 1) k s at)) tt;
  over = λ k s targets at its idle. all_none (count + 1) k targets (ap (λ (ks : Lists). slice_get ks k) (sym none) ∙ its);
})

-- ---- the same targets in another state

same_targets : (db e : Database) (q : Progress) (t : OpenTransaction) (around : Surroundings) (stmt : StmtTree) → SameTargets db e q t around
    → targets_of e (going_on t around q) stmt ≡ targets_of db (going_on t around q) stmt
same_targets db e q t around (Begin level) same = refl
same_targets db e q t around Commit same = refl
same_targets db e q t around Rollback same = refl
same_targets db e q t around (SetTransaction level) same = refl
same_targets db e q t around SetDeadlockTimeout same = refl
same_targets db e q t around (Create c) same = refl
same_targets db e q t around (DropTables d) same = refl
same_targets db e q t around (Inserts i) same = refl
same_targets db e q t around (Updates u) same = same.passing u.filter
same_targets db e q t around (Deletes d) same = same.passing d.filter
same_targets db e q t around (Selects s) same = ap (λ (r : Result (List Seen) ValueFault). option_map_or (λ l. r) s.lock (Ok [])) (same.taken s)

still_kept : (db e : Database) (stmt : StmtTree) (q : Progress) (made : Table) (targets : Kept) → slice_get db.catalog.tables q.table.0 ≡ Some made → FindsTheSame db e q
    → AreKept db stmt (Some q) targets → AreKept e stmt (Some q) targets
still_kept db e stmt q made None there finds h = h
still_kept db e stmt q made (Some v) there finds h = λ t around. same_targets db e q t around stmt (finds.targets made there t around) ∙ h t around

-- ---- an event

table_at : (m : Machine) (k : ℕ) (s : Session) (p : Progress) → IsSoundMachine m → slice_get m.sessions k ≡ Some s → s.statement ≡ Some p
    → (made : Table) × (slice_get m.db.catalog.tables p.table.0 ≡ Some made)
table_at m k s p sound at is = by (slice_get_cases m.db.catalog.tables p.table.0).1 where
  within : p.table.0 < length m.db.catalog.tables
  within = within_at m k s p sound at is

  by : ((t : Table) × (p.table.0 < length m.db.catalog.tables) × (slice_get m.db.catalog.tables p.table.0 ≡ Some t) × (get_or m.db.catalog.tables p.table.0 t ≡ t))
      ⊎ ((length m.db.catalog.tables ≤ p.table.0) × (slice_get m.db.catalog.tables p.table.0 ≡ None))
      → (made : Table) × (slice_get m.db.catalog.tables p.table.0 ≡ Some made)
  by (inl w) = (w.0, w.2)
  by (inr w) = let past = w.0 in let low = within in absurd (omega arith)

-- what is kept after an event: of the session that it is of, the targets that its statement had before, and of the others what was kept before
record Keeping (given : Blocks) (m : Machine) (i : ℕ) (after : Machine) (kept now : Lists) : Type 0 where
  pub long : length now ≡ length kept
  pub others : (k : ℕ) → (k ≡ i → ⊥) → slice_get now k ≡ slice_get kept k
  pub its : (s u : Session) (targets : Kept) (stmt : StmtTree) → slice_get m.sessions i ≡ Some s → stmt_at given s.place ≡ Some stmt
      → slice_get after.sessions i ≡ Some u → slice_get now i ≡ Some targets → AreKept m.db stmt u.statement targets
  pub over : (u : Session) (targets : Kept) → slice_get after.sessions i ≡ Some u → slice_get now i ≡ Some targets → u.statement ≡ None → targets ≡ None

module _ (given : Blocks) (mode : Mode) (count : ℕ) (m : Machine) (event : Event) (n : Next) (kept now : Lists) where
  kept_next : Reaches given mode count m → IsSoundMachine m → next given mode m event ≡ Ok n → length n.machine.sessions ≡ length m.sessions → AllKept given m kept
      → Keeping given m (session_of event) n.machine kept now → AllKept given n.machine now
  kept_next reached sound h many old on = record {
    long = on.long ∙ (old.long ∙ sym many);
    its = λ k u targets at its stmt tree. by k u targets at its stmt tree u.statement refl;
    over = λ k u targets at its idle. ⊎_elim
        (λ is. on.over u targets (ap (slice_get n.machine.sessions) (sym is) ∙ at) (ap (slice_get now) (sym is) ∙ its) idle)
        (λ ne. old.over k u targets (sym (others_stay given mode m k event n (begun_there given mode count m reached) h (λ f. ne (sym f))) ∙ at) (sym (on.others k ne) ∙ its) idle)
        (cases_eq k (session_of event));
  } where
    by : (k : ℕ) (u : Session) (targets : Kept) → slice_get n.machine.sessions k ≡ Some u → slice_get now k ≡ Some targets → (stmt : StmtTree) → stmt_at given u.place ≡ Some stmt
        → (o : Option Progress) → u.statement ≡ o → AreKept n.machine.db stmt o targets
    by k u targets at its stmt tree None e = tt
    by k u targets at its stmt tree (Some q) e = ⊎_elim own other (cases_eq k (session_of event)) where
      waits : AreKept m.db stmt u.statement targets → AreKept m.db stmt (Some q) targets
      waits h = subst (λ (o : Option Progress). AreKept m.db stmt o targets) e h

      other : (k ≡ session_of event → ⊥) → AreKept n.machine.db stmt (Some q) targets
      other ne =
          let there : slice_get m.sessions k ≡ Some u = sym (others_stay given mode m k event n (begun_there given mode count m reached) h (λ f. ne (sym f))) ∙ at in
          let made = table_at m k u q sound there e in
          still_kept m.db n.machine.db stmt q made.0 targets made.1 (waits_go_on_as_begun given mode count m reached k u q there e event n h (λ f. ne (sym f))).1
          (waits (old.its k u targets there (sym (on.others k ne) ∙ its) stmt tree))

      own : k ≡ session_of event → AreKept n.machine.db stmt (Some q) targets
      own is =
          let there = session_there given mode m event n h in
          let s = there.0 in
          let here : slice_get m.sessions k ≡ Some s = ap (slice_get m.sessions) is ∙ there.1 in
          let item : HistItem = record { event = event; reply = n.reply } in
          let a = statements_stay_as_begun.since given mode count m reached k s here (item ∷ []) n.machine (n.machine, u, q, h, (at, e), refl) u q (at, e) in
          still_kept m.db n.machine.db stmt q a.made targets a.there a.finds
          (waits (on.its s u targets stmt there.1 (ap (stmt_at given) (sym a.place) ∙ tree) (ap (slice_get n.machine.sessions) (sym is) ∙ at) (ap (slice_get now) (sym is) ∙ its)))

-- ---- by kind

none_not : {A : Type 0} (x : A) → None ≡ Some x → ⊥
none_not x h = cc

-- the session is in the middle of no statement, and nothing is kept for it
idle_keeping : (given : Blocks) (m : Machine) (i : ℕ) (after : Machine) (kept now : Lists) → now ≡ set kept i None ⊎ now ≡ kept → ((targets : Kept) → slice_get now i ≡ Some targets → targets ≡ None)
    → ((u : Session) → slice_get after.sessions i ≡ Some u → u.statement ≡ None) → Keeping given m i after kept now
idle_keeping given m i after kept now is none idle = record {
  long = elim is [ inl e ↦ ap length e ∙ length-set kept i None | inr e ↦ ap length e ];
  others = λ k ne. elim is [
    | inl e ↦ ap (λ (ks : Lists). slice_get ks k) e ∙ slice_get-set_other kept i k None ne
    | inr e ↦ ap (λ (ks : Lists). slice_get ks k) e
  ];
  its = λ s u targets stmt at tree there its. subst (λ (o : Option Progress). AreKept m.db stmt o targets) (sym (idle u there)) tt;
  over = λ u targets there its f. none targets its;
}

on_keeping : (given : Blocks) (m : Machine) (i : ℕ) (s : Session) (stmt : StmtTree) (after : Machine) (kept now : Lists) → slice_get m.sessions i ≡ Some s → stmt_at given s.place ≡ Some stmt
    → i < length kept → KeepsOn m.db stmt i after kept now → Keeping given m i after kept now
on_keeping given m i s stmt after kept now at tree within h = record {
  long = ap length h.is ∙ length-set kept i h.targets;
  others = λ k ne. ap (λ (ks : Lists). slice_get ks k) h.is ∙ slice_get-set_other kept i k h.targets ne;
  its = λ v u targets other here its there kept_now.
      let one : v ≡ s = same_Some v s (sym here ∙ at) in
      let same : other ≡ stmt = same_Some other stmt (sym its ∙ (ap (λ (x : Session). stmt_at given x.place) one ∙ tree)) in
      let list : targets ≡ h.targets = same_Some targets h.targets (sym kept_now ∙ (ap (λ (ks : Lists). slice_get ks i) h.is ∙ slice_get-set_same kept i h.targets within)) in
      subst (λ (x : StmtTree). AreKept m.db x u.statement targets) (sym same) (subst (λ (o : Kept). AreKept m.db stmt u.statement o) (sym list) (h.its u there));
  over = λ u targets there kept_now idle.
      let list : targets ≡ h.targets = same_Some targets h.targets (sym kept_now ∙ (ap (λ (ks : Lists). slice_get ks i) h.is ∙ slice_get-set_same kept i h.targets within)) in
      list ∙ h.over u there idle;
}

-- the one session that changed
changed : (ss : List Session) (i : ℕ) (s u v : Session) → slice_get ss i ≡ Some s → slice_get (set ss i u) i ≡ Some v → v ≡ u
changed ss i s u v at h = same_Some v u (sym h ∙ slice_get-set_same ss i u (slice_get_within ss i s at))

-- a session in the middle of a statement stands at one of its block
pub at_a_statement : (given : Blocks) (mode : Mode) (count : ℕ) (m : Machine) → Reaches given mode count m → (k : ℕ) (s : Session) (p : Progress) → IsAtWork m k s p
    → (stmt : StmtTree) × (stmt_at given s.place ≡ Some stmt)
at_a_statement given mode count m reached k s p at =
    let b = statements_stay_as_begun.began given mode count reached.0 m reached.1 k s p at in
    let a = statements_stay_as_begun.since given mode count b.m (b.before, b.reached) k b.s b.there b.since m b.at_work s p at in
    (a.stmt, ap (stmt_at given) a.place ∙ a.tree)

no_stmt : (given : Blocks) (place : Option Place) (stmt : StmtTree) → place ≡ None → stmt_at given place ≡ Some stmt → ⊥
no_stmt given None stmt none h = none_not stmt h
no_stmt given (Some place) stmt none h = none_not place (sym none)

-- one that is in no block is in the middle of none
idle_at_rest : (given : Blocks) (mode : Mode) (count : ℕ) (m : Machine) → Reaches given mode count m → (k : ℕ) (s : Session) → slice_get m.sessions k ≡ Some s → s.place ≡ None → s.statement ≡ None
idle_at_rest given mode count m reached k s at rest = by s.statement refl where
  by : (o : Option Progress) → s.statement ≡ o → o ≡ None
  by None e = refl
  by (Some p) e = let w = at_a_statement given mode count m reached k s p (at, e) in absurd (no_stmt given s.place w.0 rest w.1)

none_there : (place : Option Place) → is_some place ≡ false → place ≡ None
none_there None h = refl
none_there (Some place) h = cc

-- a session that was given a block, or left, is in the middle of no statement
launched_keeping : (given : Blocks) (mode : Mode) (count : ℕ) (m : Machine) (i block : ℕ) (n : Next) (kept : Lists) → Reaches given mode count m → AllKept given m kept
    → next given mode m (Launch i block) ≡ Ok n → Keeping given m i n.machine kept kept
launched_keeping given mode count m i block n kept reached old h =
    let there = session_there given mode m (Launch i block) n h in
    let f = subst (λ (o : Option Session). launch_of given mode m i block o ≡ Ok n) there.1 h in
    let a = ok_else BlockNotAllowed _ _ n f in
    let b = ok_else Busy _ _ n a.1 in
    let c = ok_else NotYourTurn _ _ n b.1 in
    let rest = idle_at_rest given mode count m reached i there.0 there.1 (none_there there.0.place b.0) in
    idle_keeping given m i n.machine kept kept (inr refl) (λ targets its. old.over i there.0 targets there.1 its rest) (λ u at.
    let same : u ≡ record { place = first_place block (stmts_of given block); transaction = there.0.transaction; statement = None } =
    changed m.sessions i there.0 _ u there.1 (subst (λ (y : Next). slice_get y.machine.sessions i ≡ Some u) (ok_is _ n c.1) at) in
    ap (λ (y : Session). y.statement) same)

left_keeping : (given : Blocks) (mode : Mode) (m : Machine) (i : ℕ) (n : Next) (kept now : Lists) → length kept ≡ length m.sessions → now ≡ set kept i None
    → next given mode m (Leave i) ≡ Ok n → Keeping given m i n.machine kept now
left_keeping given mode m i n kept now long is h =
    let there = session_there given mode m (Leave i) n h in
    let f = subst (λ (o : Option Session). leave_of mode m i o ≡ Ok n) there.1 h in
    let c = ok_else NotYourTurn _ _ n f in
    let below : i < length kept = subst (λ k. i < k) (sym long) (slice_get_within m.sessions i there.0 there.1) in
    let none : (targets : Kept) → slice_get now i ≡ Some targets → targets ≡ None =
    λ targets its. same_Some targets None (sym its ∙ (ap (λ (ks : Lists). slice_get ks i) is ∙ slice_get-set_same kept i None below)) in
    idle_keeping given m i n.machine kept now (inl is) none (λ u at.
    let same : u ≡ at_rest = changed m.sessions i there.0 at_rest u there.1 (subst (λ (y : Next). slice_get y.machine.sessions i ≡ Some u) (ok_is _ n c.1) at) in
    ap (λ (y : Session). y.statement) same)

-- after a statement the session is in the middle of what the statement left
pub left_at : (m new : Machine) (i : ℕ) (s u : Session) (place : Place) (count : ℕ) (d : Effect) (reply : Reply) (db : Database) (stmt : StmtTree) (targets : Kept) → slice_get m.sessions i ≡ Some s
    → after_stmt m i place count d ≡ record { machine = new; reply = reply } → slice_get new.sessions i ≡ Some u → AreKept db stmt d.statement targets → AreKept db stmt u.statement targets
left_at m new i s u place count d reply db stmt targets at is there h = by a.how where
  a : After m i place d (after_stmt m i place count d)
  a = after m i place count d

  same : u ≡ a.u
  same = changed m.sessions i s a.u u at (subst (λ (x : Machine). slice_get x.sessions i ≡ Some u) (sym (ap (λ (x : Next). x.machine) is) ∙ a.is) there)

  its : (o : Option Progress) → a.u.statement ≡ o → AreKept db stmt o targets → AreKept db stmt u.statement targets
  its o e k = subst (λ (x : Option Progress). AreKept db stmt x targets) (sym (ap (λ (x : Session). x.statement) same ∙ e)) k

  by : ((a.e ≡ d.db) × (a.u.transaction ≡ d.transaction) × ((a.u.statement ≡ d.statement) ⊎ (a.u.statement ≡ None)))
      ⊎ ((t : OpenTransaction) × (d.transaction ≡ Open t) × (a.e ≡ committed d.db t.tx) × (a.u.transaction ≡ Closed) × (a.u.statement ≡ None))
      → AreKept db stmt u.statement targets
  by (inl w) = elim w.2 [ inl e ↦ its d.statement e h | inr e ↦ its None e tt ]
  by (inr w) = its None w.4 tt

-- what a statement left that waits is what its session is in the middle of
abbrev goes_or_waits : Machine → ℕ → Place → Effect → Bool → Bool → Bool → Next
goes_or_waits m i place d waits fails more =
    if waits then waits_there m i place d
    else if fails then finished m i d None
    else if more then finished m i d (Some (record { block = place.block; next = place.next + 1 }))
    else finished m i (closed_at_end d d.transaction) None

none_left : (o : Option Progress) → is_some o ≡ false → o ≡ None
none_left None h = refl
none_left (Some p) h = cc

some_is : (o : Option Progress) → is_some o ≡ true → o ≡ None → ⊥
some_is None there none = cc
some_is (Some p) there none = none_not p (sym none)

pub waits_at : (m new : Machine) (i : ℕ) (s u : Session) (place : Place) (count : ℕ) (d : Effect) (reply : Reply) → slice_get m.sessions i ≡ Some s
    → after_stmt m i place count d ≡ record { machine = new; reply = reply } → slice_get new.sessions i ≡ Some u → is_some d.statement ≡ true → u.statement ≡ None → ⊥
waits_at m new i s u place count d reply at is there waits idle =
    let stays : after_stmt m i place count d ≡ waits_there m i place d =
    ap (λ b. goes_or_waits m i place d b (is_failed d.outcome) (nat_lt (place.next + 1) count)) waits in
    let now : new ≡ (waits_there m i place d).machine = ap (λ (x : Next). x.machine) (sym is ∙ stays) in
    let same = changed m.sessions i s _ u at (subst (λ (x : Machine). slice_get x.sessions i ≡ Some u) now there) in
    some_is d.statement waits (sym (ap (λ (x : Session). x.statement) same) ∙ idle)

-- what is kept after a statement: its targets where it waits, and else none
abbrev pub left_kept : Bool → Kept → Kept
left_kept waits targets = if waits then targets else None

pub kept_by : (waits : Bool) (kept taken now : Lists) (k : ℕ) (targets : Kept) → taken ≡ set kept k None → (waits ≡ true → now ≡ set taken k targets) → (waits ≡ false → now ≡ taken)
    → now ≡ set kept k (left_kept waits targets)
kept_by true kept taken now k targets is stays over = stays refl ∙ (ap (λ (ks : Lists). set ks k targets) is ∙ set_twice kept k None targets)
kept_by false kept taken now k targets is stays over = over refl ∙ is

pub kept_on : (m new : Machine) (i : ℕ) (s : Session) (place : Place) (count : ℕ) (d : Effect) (reply : Reply) (db : Database) (stmt : StmtTree) (targets : Kept) (kept now : Lists)
    → slice_get m.sessions i ≡ Some s → after_stmt m i place count d ≡ record { machine = new; reply = reply } → AreKept db stmt d.statement targets
    → now ≡ set kept i (left_kept (is_some d.statement) targets) → KeepsOn db stmt i new kept now
kept_on m new i s place count d reply db stmt targets kept now at is its lists = by (is_some d.statement) refl where
  by : (b : Bool) → is_some d.statement ≡ b → KeepsOn db stmt i new kept now
  by true e = record {
    targets = targets;
    is = lists ∙ ap (λ b. set kept i (left_kept b targets)) e;
    its = λ u there. left_at m new i s u place count d reply db stmt targets at is there its;
    over = λ u there idle. absurd (waits_at m new i s u place count d reply at is there e idle);
  }
  by false e = record {
    targets = None;
    is = lists ∙ ap (λ b. set kept i (left_kept b targets)) e;
    its = λ u there. left_at m new i s u place count d reply db stmt None at is there (subst (λ (o : Option Progress). AreKept db stmt o None) (sym (none_left d.statement e)) tt);
    over = λ u there idle. refl;
  }

-- ---- what the code answers

-- the sessions stay as many
as_many : (given : Blocks) (mode : Mode) (count : ℕ) (m : Machine) (event : Event) (n : Next) → Reaches given mode count m → next given mode m event ≡ Ok n
    → length n.machine.sessions ≡ length m.sessions
as_many given mode count m event n reached h =
    let there = session_there given mode m event n h in
    let w = did_next given mode m event there.0 n (begun_there given mode count m reached) there.1 h in
    ap (λ (x : Machine). length x.sessions) w.is ∙ length-set m.sessions (session_of event) w.u

abbrev IsAfter : Blocks → Mode → Machine → Event → Machine → Result Reply Refusal → Type 0
IsAfter given mode m event after answer = engine_answer m (next given mode m event) ≡ record { machine = after; answer = answer }

-- a refusal leaves what is kept
kept_refused : (given : Blocks) (mode : Mode) (m after : Machine) (event : Event) (refusal : Refusal) (kept : Lists) → IsAfter given mode m event after (Err refusal)
    → AllKept given m kept → AllKept given after kept
kept_refused given mode m after event refusal kept is old =
    subst (λ (x : Machine). AllKept given x kept) (sym (answered_err m after (next given mode m event) refusal is).1) old

kept_answered : (given : Blocks) (mode : Mode) (count : ℕ) (m after : Machine) (event : Event) (reply : Reply) (kept now : Lists) → Reaches given mode count m → IsSoundMachine m
    → IsAfter given mode m event after (Ok reply) → AllKept given m kept → Keeping given m (session_of event) after kept now → AllKept given after now
kept_answered given mode count m after event reply kept now reached sound is old on =
    let n : Next = record { machine = after; reply = reply } in
    let h = answered_ok m after (next given mode m event) reply is in
    kept_next given mode count m event n kept now reached sound h (as_many given mode count m event n reached h) old on

-- ---- by what was called

pub kept_launched : (given : Blocks) (mode : Mode) (count : ℕ) (m after : Machine) (session block : ℕ) (answer : Result Reply Refusal) (kept : Lists) → Reaches given mode count m → IsSoundMachine m
    → IsAfter given mode m (Launch session block) after answer → AllKept given m kept → AllKept given after kept
kept_launched given mode count m after session block (Err refusal) kept reached sound is old = kept_refused given mode m after (Launch session block) refusal kept is old
kept_launched given mode count m after session block (Ok reply) kept reached sound is old =
    kept_answered given mode count m after (Launch session block) reply kept kept reached sound is old
    (launched_keeping given mode count m session block (record { machine = after; reply = reply }) kept reached old (answered_ok m after (next given mode m (Launch session block)) reply is))

pub kept_left : (given : Blocks) (mode : Mode) (count : ℕ) (m after : Machine) (session : ℕ) (answer : Result Reply Refusal) (kept now : Lists) → Reaches given mode count m → IsSoundMachine m
    → IsAfter given mode m (Leave session) after answer → IfOk answer (λ _. now ≡ set kept session None) → IfErr answer (λ _. now ≡ kept) → AllKept given m kept → AllKept given after now
kept_left given mode count m after session (Err refusal) kept now reached sound is dropped refused old =
    subst (AllKept given after) (sym refused) (kept_refused given mode m after (Leave session) refusal kept is old)
kept_left given mode count m after session (Ok reply) kept now reached sound is dropped refused old =
    kept_answered given mode count m after (Leave session) reply kept now reached sound is old
    (left_keeping given mode m session (record { machine = after; reply = reply }) kept now old.long dropped (answered_ok m after (next given mode m (Leave session)) reply is))

-- a step whose statement is found, and that ran it
pub kept_step : (given : Blocks) (mode : Mode) (count : ℕ) (m after : Machine) (session : ℕ) (place : Place) (many : ℕ) (stmt : StmtTree) (reply : Reply) (kept now : Lists)
    → Reaches given mode count m → IsSoundMachine m → AllKept given m kept
    → (s : Session) × (slice_get m.sessions session ≡ Some s) × (s.place ≡ Some place) × (is_still_blocked m.db s ≡ false)
    × (next given mode m (Step session) ≡ Ok (after_stmt m session place many (run_stmt m.db s.transaction s.statement (around m session s) stmt)))
    → stmt_at given (Some place) ≡ Some stmt
    → IfSome (slice_get m.sessions session) (λ s. after_stmt m session place many (run_stmt m.db s.transaction s.statement (around m session s) stmt) ≡ record { machine = after; reply = reply })
    → KeepsOn m.db stmt session after kept now → AllKept given after now
kept_step given mode count m after session place many stmt reply kept now reached sound old ok tree ran on =
    let s = ok.0 in
    let n : Next = record { machine = after; reply = reply } in
    let done : after_stmt m session place many (run_stmt m.db s.transaction s.statement (around m session s) stmt) ≡ n =
    subst (λ (o : Option Session). IfSome o (λ x. after_stmt m session place many (run_stmt m.db x.transaction x.statement (around m session x) stmt) ≡ n)) ok.1 ran in
    let h : next given mode m (Step session) ≡ Ok n = ok.4 ∙ ap Ok done in
    let below : session < length kept = subst (λ k. session < k) (sym old.long) (slice_get_within m.sessions session s ok.1) in
    kept_next given mode count m (Step session) n kept now reached sound h (as_many given mode count m (Step session) n reached h) old
    (on_keeping given m session s stmt after kept now ok.1 (ap (stmt_at given) ok.2 ∙ tree) below on)

-- ---- what an engine shows of it

some_list : (kept : Lists) (session : ℕ) (targets : Kept) → slice_get kept session ≡ Some targets → (targets ≡ None) → kept_at kept session ≡ None
some_list kept session targets at none = ap seen_in (at ∙ ap Some none)

module _ (e : Engine) (m : Machine) (kept : Lists) (session : ℕ) where
  shown_kept : (s : Session) (p : Progress) (stmt : StmtTree) (targets : Kept) → slice_get kept session ≡ Some targets → stmt_at e.blocks s.place ≡ Some stmt → AreKept m.db stmt (Some p) targets
      → KeepsAt e.blocks m s p (kept_at kept session)
  shown_kept s p stmt None at tree h = absurd h
  shown_kept s p stmt (Some v) at tree h = record { stmt = stmt; tree = tree; targets = v.items; are = ap seen_in at; its = h }

  shown : Reaches e.blocks e.mode e.count m → AllKept e.blocks m kept → e.machine ≡ Some m → KeepsTargets e session (kept_at kept session)
  shown reached old is = record {
    waits = λ n there s p at. subst (λ (x : Machine). KeepsAt e.blocks x s p (kept_at kept session)) (one n there) (waits s p (subst (λ (x : Machine). IsAtWork x session s p) (sym (one n there)) at));
    over = λ n there s at idle. over s (subst (λ (x : Machine). slice_get x.sessions session ≡ Some s) (sym (one n there)) at) idle;
    nobody = λ n there none. nobody (subst (λ (x : Machine). slice_get x.sessions session ≡ None) (sym (one n there)) none);
    spent = λ none. absurd (no_machine m (sym none ∙ is));
  } where
    no_machine : (x : Machine) → None ≡ Some x → ⊥
    no_machine x h = cc

    one : (n : Machine) → e.machine ≡ Some n → m ≡ n
    one n there = same_Some m n (sym is ∙ there)

    list : (s : Session) → slice_get m.sessions session ≡ Some s → (targets : Kept) × (slice_get kept session ≡ Some targets)
    list s at = elim (slice_get_cases kept session).1 [
      | inl w ↦ (w.0, w.2)
      | inr w ↦ let past = w.0 in let below = slice_get_within m.sessions session s at in let long = old.long in absurd (omega arith)
    ]

    waits : (s : Session) (p : Progress) → IsAtWork m session s p → KeepsAt e.blocks m s p (kept_at kept session)
    waits s p at =
        let w = at_a_statement e.blocks e.mode e.count m reached session s p at in
        let l = list s at.0 in
        shown_kept s p w.0 l.0 l.1 w.1 (subst (λ (o : Option Progress). AreKept m.db w.0 o l.0) at.1 (old.its session s l.0 at.0 l.1 w.0 w.1))

    over : (s : Session) → slice_get m.sessions session ≡ Some s → s.statement ≡ None → kept_at kept session ≡ None
    over s at idle = let l = list s at in some_list kept session l.0 l.1 (old.over session s l.0 at l.1 idle)

    nobody : slice_get m.sessions session ≡ None → kept_at kept session ≡ None
    nobody none = elim (slice_get_cases kept session).1 [
      | inl w ↦ absurd (elim (slice_get_cases m.sessions session).1 [
        | inl v ↦ none_not v.0 (sym none ∙ v.2)
        | inr v ↦ let past = v.0 in let below = w.1 in let long = old.long in let z : ⊥ = omega arith in z
      ])
      | inr w ↦ ap seen_in w.1
    ]

-- the engine's machine is the one that is there, where it isn't spent
pub kept_shown : (blocks : Blocks) (count : ℕ) (mode : Mode) (m : Machine) (items : List HistItem) (spent : Bool) (kept : Lists) (session : ℕ) (e : Engine) (found : Option (List Seen))
    → record { blocks = blocks; count = count; mode = mode; machine = if spent then None else Some m; history = items } ≡ e → spent ≡ false
    → Run blocks mode (opening count) items m → AllKept blocks m kept → found ≡ kept_at kept session → KeepsTargets e session found
kept_shown blocks count mode m items spent kept session e found is fresh run all its =
    let x : Engine = record { blocks = blocks; count = count; mode = mode; machine = if spent then None else Some m; history = items } in
    let there : x.machine ≡ Some m = ap (λ (b : Bool). if b then None else Some m) fresh in
    subst (λ (y : Engine). KeepsTargets y session found) is (subst (λ (o : Option (List Seen)). KeepsTargets x session o) (sym its) (shown x m kept session (items, run) all there))
