-- A transaction's snapshot is of what had committed.
use Rattle.std.proofs.Common.{◌≡◌, ℕ, zero, suc, ◌≤◌, ◌<◌, ◌+◌, Bool, true, false, List, [], ◌∷◌, length, set, replicate, refl, ap, sym, le_refl, ◌∙◌, subst, ⊎_elim, arith}
use Rattle.std.specs.Prelude.{Option, Some, None, unwrap_or, slice_get, Ok, if◌then◌else◌}
use Rattle.std.proofs.lemmas.Bool.{cases_eq}
use Rattle.std.proofs.lemmas.Option.{slice_get_within}
use Rattle.iso_lexer.specs.declared.limits.TheConstants.{MOST_SESSIONS}
use Rattle.sql_trees.specs.declared.stmt.Level.TheVariants.{ReadCommitted}
use Rattle.sql_trees.specs.Statements.{StmtTree}
use Rattle.row_versions.specs.declared.write.View.{View}
use Rattle.row_versions.specs.Log.{Content, commit_count}
use Rattle.session_machine.specs.declared.session.OpenTransaction.{OpenTransaction}
use Rattle.session_machine.specs.declared.session.Transaction.{Transaction}
use Rattle.session_machine.specs.declared.session.Transaction.TheVariants.{Closed, Open, Aborted}
use Rattle.session_machine.specs.declared.session.Progress.{Progress}
use Rattle.session_machine.specs.declared.session.Session.{Session}
use Rattle.session_machine.specs.declared.event.Event.{Event}
use Rattle.session_machine.specs.declared.event.Mode.{Mode}
use Rattle.session_machine.specs.declared.reply.HistItem.{HistItem}
use Rattle.session_machine.specs.Tables.{Database}
use Rattle.session_machine.specs.Transactions.{committed, fresh}
use Rattle.session_machine.specs.Inner.Statements.{begun, after_failure, moved_on}
use Rattle.session_machine.specs.Statements.{Surroundings, Effect}
use Rattle.session_machine.specs.Running.{run_stmt}
use Rattle.session_machine.specs.Machine.{Machine, Blocks, Next, next, at_rest, opening, closed_at_end, session_of}
use Rattle.session_machine.specs.Inner.Steps.{around}
use Rattle.session_machine.specs.Machine.{Run}
use Rattle.session_machine.specs.Sound.{IsSoundMachine}
use Rattle.session_laws.proofs.Lists.{slice_get-set_same, slice_get-set_other}
use Rattle.session_laws.proofs.Effects.{IsFirm, Effects, run_effects}
use Rattle.session_laws.proofs.Events.{event_cases, after_cases}
use Rattle.session_laws.proofs.Sound.{sound_firm, sound_within, sound_next, sound_opening, ran}
use Rattle.session_laws.proofs.Staying.{IsApart, stays-next, hides-begin}

-- the snapshot, or 0 where there is none
abbrev pub snap_in : Transaction → ℕ
snap_in Closed = 0
snap_in Aborted = 0
snap_in (Open t) = unwrap_or t.snapshot 0

abbrev pub snap_of : Option Session → ℕ
snap_of None = 0
snap_of (Some s) = snap_in s.transaction

-- the snapshot of a statement's transaction is at most so late
abbrev IsBy : ℕ → Effect → Type 0
IsBy k d = snap_in d.transaction ≤ k

by-fails : (k : ℕ) (t : OpenTransaction) → snap_in (after_failure t) ≤ k
by-fails k t = at_explicit t.explicit where
  at_explicit : (b : Bool) → snap_in (if b then Aborted else Closed) ≤ k
  at_explicit true = omega arith
  at_explicit false = omega arith

by-moved : (c : Content) (t : OpenTransaction) → unwrap_or t.snapshot 0 ≤ commit_count c → snap_in (Open (moved_on c t)) ≤ commit_count c
by-moved c t h = at_snapshot t.snapshot h where
  at_snapshot : (o : Option ℕ) → unwrap_or o 0 ≤ commit_count c → unwrap_or o (commit_count c) ≤ commit_count c
  at_snapshot None h = le_refl _
  at_snapshot (Some n) h = h

abbrev Nothing : OpenTransaction → Database → Type 0
Nothing t db = Unit {0}

-- a statement takes a snapshot of what has committed where there is none
effects-by : (db : Database) (t : OpenTransaction) (around : Surroundings) → IsFirm db → unwrap_or t.snapshot 0 ≤ commit_count db.content
    → Effects db t around (Nothing t) (IsBy (commit_count db.content))
effects-by db t around firm h =
    record {
      lasts = record { lock = λ e held k. tt; write = λ e k row values l. tt; made = λ e made k. tt; dropped = λ e k l. tt };
      firm = firm;
      here = tt;
      answer = λ e outcome f k. by-moved db.content t h;
      fail = λ e fault f k. by-fails (commit_count db.content) t;
      turn = λ ok u tx command snapshot. subst (λ (o : Option ℕ). unwrap_or o 0 ≤ commit_count db.content) (sym snapshot) h;
      commit = omega arith;
      roll_back = omega arith;
      pause = λ k view walk request f l within. by-moved db.content t h;
    }

-- a view of no transaction, as of the beginning
abbrev first_view : View
first_view = record { tx = None; commits = 0; command = 0 }

by-run : (db : Database) (t : Transaction) (statement : Option Progress) (around : Surroundings) (stmt : StmtTree) → IsFirm db
    → ((p : Progress) → statement ≡ Some p → p.table.0 < length db.catalog.tables) → snap_in t ≤ commit_count db.content → IsBy (commit_count db.content) (run_stmt db t statement around stmt)
by-run db t statement around stmt firm within h =
    run_effects true db t statement around stmt Nothing (IsBy (commit_count db.content)) (λ e. refl) within
    (λ u e. effects-by db u around firm (subst (λ x. snap_in x ≤ commit_count db.content) e h))
    (λ e. (
      omega arith,
      λ level explicit. omega arith,
      subst (λ k. Effects (begun db) (fresh db.content ReadCommitted false) around (Nothing (fresh db.content ReadCommitted false)) (IsBy k)) (hides-begin first_view db.content).same_count
          (effects-by (begun db) (fresh db.content ReadCommitted false) around (record { fit = firm.fit; stay = firm.stay }) (omega arith)),
    ))
    (λ e. (omega arith, omega arith))

by-closes : (k : ℕ) (d : Effect) (u : Transaction) → IsBy k d → IsBy k (closed_at_end d u)
by-closes k d Closed h = h
by-closes k d Aborted h = h
by-closes k d (Open u) h = at_test u.explicit where
  at_test : (b : Bool) → IsBy k (if b then d else record { db = committed d.db u.tx; transaction = Closed; statement = None; outcome = d.outcome })
  at_test true = h
  at_test false = omega arith

-- all sessions' snapshots are at most so late
abbrev pub AllBy : ℕ → List Session → Type 0
AllBy k ss = (i : ℕ) → snap_of (slice_get ss i) ≤ k

all_set : (k : ℕ) (ss : List Session) (i : ℕ) (s u : Session) → slice_get ss i ≡ Some s → AllBy k ss → snap_in u.transaction ≤ k → AllBy k (set ss i u)
all_set k ss i s u at all h j =
    ⊎_elim
    (λ e. let f : snap_of (slice_get (set ss i u) j) ≡ snap_in u.transaction =
    ap (λ x. snap_of (slice_get (set ss i u) x)) e ∙ ap snap_of (slice_get-set_same ss i u (slice_get_within ss i s at)) in omega arith)
    (λ ne. let f : snap_of (slice_get (set ss i u) j) ≡ snap_of (slice_get ss j) = ap snap_of (slice_get-set_other ss i j u ne) in
    let g = all j in omega arith)
    (cases_eq j i)

abbrev NextBy : ℕ → Next → Type 0
NextBy k n = AllBy k n.machine.sessions

mine : (k : ℕ) (m : Machine) (i : ℕ) (s : Session) → slice_get m.sessions i ≡ Some s → AllBy k m.sessions → snap_in s.transaction ≤ k
mine k m i s at all = subst (λ n. n ≤ k) (ap snap_of at) (all i)

all-next : (blocks : Blocks) (mode : Mode) (m : Machine) (event : Event) (n : Next) → IsSoundMachine m → next blocks mode m event ≡ Ok n → AllBy (commit_count m.db.content) m.sessions
    → NextBy (commit_count m.db.content) n
all-next blocks mode m event n sound h all =
    let k = commit_count m.db.content in
    let i = session_of event in
    event_cases blocks mode m event n (NextBy k) h
    (λ s place at idle. all_set k m.sessions i s (record { place = place; transaction = s.transaction; statement = None }) at all (mine k m i s at all))
    (λ s place count stmt at due.
    let d = ran m i s stmt in
    let by = by-run m.db s.transaction s.statement (around m i s) stmt (sound_firm m.db m.sessions m.events sound) (sound_within m.db m.sessions m.events i s sound at) (mine k m i s at all) in
    after_cases m i place count d (NextBy k)
    (all_set k m.sessions i s (record { place = Some place; transaction = d.transaction; statement = d.statement }) at all by)
    (λ p. all_set k m.sessions i s (record { place = p; transaction = d.transaction; statement = None }) at all by)
    (let e = closed_at_end d d.transaction in all_set k m.sessions i s (record { place = None; transaction = e.transaction; statement = None }) at all (by-closes k d d.transaction by)))
    (λ s at. all_set k m.sessions i s at_rest at all (omega arith))

-- the machine's snapshots are of what has committed
abbrev pub IsPast : Machine → Type 0
IsPast m = AllBy (commit_count m.db.content) m.sessions

no_view : (c : Content) (t : Transaction) → IsApart first_view c t
no_view c t = record { not_its = λ tx h e. none e; not_new = λ e. none e } where
  none : {A : Type 0} {x : A} → None ≡ Some x → ⊥
  none h = cc

past-next : (blocks : Blocks) (mode : Mode) (m : Machine) (event : Event) (n : Next) → IsSoundMachine m → next blocks mode m event ≡ Ok n → IsPast m → IsPast n.machine
past-next blocks mode m event n sound h past i =
    let more = (stays-next first_view blocks mode m event n sound h (λ s at. no_view m.db.content s.transaction) (omega arith)).counts in
    let by = all-next blocks mode m event n sound h past i in
    omega arith

-- so of each state that a run leads to
abbrev pub SoundAndPast : Machine → Type 0
SoundAndPast m = IsSoundMachine m × IsPast m

pub sound_run : (blocks : Blocks) (mode : Mode) (m : Machine) (items : List HistItem) (after : Machine) → SoundAndPast m → Run blocks mode m items after → SoundAndPast after
sound_run blocks mode m [] after h run = subst SoundAndPast (sym run) h
sound_run blocks mode m (item ∷ items) after h run =
    let n : Next = record { machine = run.0; reply = item.reply } in
    sound_run blocks mode run.0 items after ((sound_next blocks mode m item.event n h.0 run.1).0, past-next blocks mode m item.event n h.0 run.1 h.1) run.2

no_snapshot : (n i : ℕ) → snap_of (slice_get (replicate n at_rest) i) ≡ 0
no_snapshot zero i = refl
no_snapshot (suc n) zero = refl
no_snapshot (suc n) (suc i) = no_snapshot n i

pub sound_first : (count : ℕ) → count ≤ MOST_SESSIONS → SoundAndPast (opening count)
sound_first count few = (sound_opening count few, λ i. omega (arith, no_snapshot (count + 1) i))
