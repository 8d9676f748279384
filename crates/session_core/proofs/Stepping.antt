-- A statement's session, and what its transaction is after the statement.
use Rattle.std.proofs.Common.{◌≡◌, ℕ, zero, suc, ◌+◌, ◌^◌, ◌<◌, Bool, true, false, List, [], ◌∷◌, length, length-set, set, replicate, refl, ap, sym, ◌∙◌, subst, arith}
use Rattle.std.specs.Prelude.{Option, Some, None, IfSome, Result, Ok, Err, is_some, nat_lt, slice_get, if◌then◌else◌}
use Rattle.std.proofs.lemmas.List.{length-replicate}
use Rattle.std.proofs.lemmas.Option.{slice_get_within}
use Rattle.sql_trees.specs.Statements.{StmtTree}
use Rattle.row_versions.specs.Log.{IsOpen}
use Rattle.row_versions.proofs.Gets.{get-set_same}
use Rattle.session_machine.specs.declared.session.OpenTransaction.{OpenTransaction}
use Rattle.session_machine.specs.declared.session.Transaction.TheVariants.{Open}
use Rattle.session_machine.specs.declared.session.Place.{Place}
use Rattle.session_machine.specs.declared.session.Progress.{Progress}
use Rattle.session_machine.specs.declared.session.Session.{Session}
use Rattle.session_machine.specs.declared.event.Event.TheVariants.{Step}
use Rattle.session_machine.specs.declared.event.Mode.TheVariants.{Free}
use Rattle.session_machine.specs.declared.reply.Reply.{Reply}
use Rattle.session_machine.specs.declared.fault.Refusal.{Refusal}
use Rattle.session_machine.specs.declared.fault.Refusal.TheVariants.{StillBlocked}
use Rattle.session_machine.specs.Tables.{Database}
use Rattle.session_machine.specs.Statements.{Effect}
use Rattle.session_machine.specs.Running.{run_stmt}
use Rattle.session_machine.specs.Machine.{Machine, Blocks, Next, after_stmt, closed_at_end, is_failed, next, stmts_of, with_session}
use Rattle.session_machine.specs.Waits.{is_still_blocked}
use Rattle.session_machine.specs.Inner.Steps.{step_of, step_from_place, step_stmt, finished, waits_there, around}
use Rattle.session_machine.specs.Sound.{IsSoundMachine, StaysSound, tx_in, tx_of, command_in, command_of, progress_of}

-- an open transaction of a session is open, and has had at most as many commands as there were events
pub opened_at : (m : Machine) (i : ℕ) (s : Session) (t : OpenTransaction) → IsSoundMachine m → slice_get m.sessions i ≡ Some s → s.transaction ≡ Open t → IsOpen m.db.content t.tx
opened_at m i s t sound at is = sound.opened i t.tx.0 (ap tx_of at ∙ ap tx_in is)

pub few_at : (m : Machine) (i : ℕ) (s : Session) (t : OpenTransaction) → IsSoundMachine m → slice_get m.sessions i ≡ Some s → s.transaction ≡ Open t → m.events + 1 < 2 ^ 64 → t.command + 1 < 2 ^ 64
few_at m i s t sound at is room =
    let few = sound.few i in
    let e : command_of (slice_get m.sessions i) ≡ t.command = ap command_of at ∙ ap command_in is in
    omega arith

pub within_at : (m : Machine) (i : ℕ) (s : Session) (p : Progress) → IsSoundMachine m → slice_get m.sessions i ≡ Some s → s.statement ≡ Some p → p.table.0 < length m.db.catalog.tables
within_at m i s p sound at is = sound.within i p (ap progress_of at ∙ is)

-- where the statement isn't the block's last, its session's transaction is what it left
abbrev goes_or_waits : Machine → ℕ → Place → Effect → Bool → Bool → Bool → Next
goes_or_waits m i place d waits fails more =
    if waits then waits_there m i place d
    else if fails then finished m i d None
    else if more then finished m i d (Some (record { block = place.block; next = place.next + 1 }))
    else finished m i (closed_at_end d d.transaction) None

keeps : (m : Machine) (i : ℕ) (place : Place) (d : Effect) (waits fails more : Bool) → more ≡ true
    → (s : Session) × ((goes_or_waits m i place d waits fails more).machine ≡ with_session m d.db i s) × (s.transaction ≡ d.transaction)
keeps m i place d true fails more h = (record { place = Some place; transaction = d.transaction; statement = d.statement }, refl, refl)
keeps m i place d false true more h = (record { place = None; transaction = d.transaction; statement = None }, refl, refl)
keeps m i place d false false true h = (record { place = Some (record { block = place.block; next = place.next + 1 }); transaction = d.transaction; statement = None }, refl, refl)
keeps m i place d false false false h = cc

many : {A : Type 0} (n k : ℕ) (x : A) → k < n → slice_get (replicate n x) k ≡ Some x
many zero k x h = absurd (omega arith)
many (suc n) zero x h = refl
many (suc n) (suc k) x h = many n k x (omega arith)

-- a block that has more behind the place, whose statement this is
longer : Place → StmtTree → List StmtTree
longer place stmt = replicate (place.next + 2) stmt

blocks_with : Place → StmtTree → Blocks
blocks_with place stmt = replicate (place.block + 1) (longer place stmt)

block_is : (place : Place) (stmt : StmtTree) → stmts_of (blocks_with place stmt) place.block ≡ longer place stmt
unfolding blocks_with
block_is place stmt = rw (many (place.block + 1) place.block (longer place stmt) (omega arith)) refl

stmt_is : (place : Place) (stmt : StmtTree) → slice_get (longer place stmt) place.next ≡ Some stmt
unfolding longer
stmt_is place stmt = many (place.next + 2) place.next stmt (omega arith)

more_behind : (place : Place) (stmt : StmtTree) → place.next + 1 < length (longer place stmt)
unfolding longer
more_behind place stmt = omega (arith, length-replicate (place.next + 2) stmt)

lt_true : (a b : ℕ) → a < b → nat_lt a b ≡ true
lt_true a b h = grind arith

abbrev ok_or_blocked : Bool → Next → Result Next Refusal
ok_or_blocked blocked n = if blocked then Err StillBlocked else Ok n

-- in free mode the statement would run as well in such a block
runs_there : (blocks : Blocks) (m : Machine) (i : ℕ) (s : Session) (place : Place) (stmt : StmtTree) → slice_get m.sessions i ≡ Some s → s.place ≡ Some place
    → is_still_blocked m.db s ≡ false → slice_get (stmts_of blocks place.block) place.next ≡ Some stmt
    → next blocks Free m (Step i)
    ≡ Ok (after_stmt m i place (length (stmts_of blocks place.block)) (run_stmt m.db s.transaction s.statement (around m i s) stmt))
runs_there blocks m i s place stmt at stands free is =
    ap (step_of blocks Free m i) at
    ∙ (ap (step_from_place blocks Free m i s) stands
    ∙ (ap (step_stmt Free m i s place (length (stmts_of blocks place.block))) is
    ∙ ap (λ b. ok_or_blocked b (after_stmt m i place (length (stmts_of blocks place.block)) (run_stmt m.db s.transaction s.statement (around m i s) stmt))) free))

-- so a statement leaves its transaction open, if it leaves one
pub left_open : StaysSound → (m : Machine) (i : ℕ) (s : Session) (place : Place) (stmt : StmtTree) (d : Effect) (t : OpenTransaction) → IsSoundMachine m
    → slice_get m.sessions i ≡ Some s → s.place ≡ Some place → is_still_blocked m.db s ≡ false
    → run_stmt m.db s.transaction s.statement (around m i s) stmt ≡ d → d.transaction ≡ Open t → IsOpen d.db.content t.tx
left_open law m i s place stmt d t sound at stands free ran is =
    let blocks = blocks_with place stmt in
    let count = length (stmts_of blocks place.block) in
    let here : slice_get (stmts_of blocks place.block) place.next ≡ Some stmt = ap (λ ss. slice_get ss place.next) (block_is place stmt) ∙ stmt_is place stmt in
    let more : nat_lt (place.next + 1) count ≡ true =
    ap (λ (ss : List StmtTree). nat_lt (place.next + 1) (length ss)) (block_is place stmt) ∙ lt_true _ _ (more_behind place stmt) in
    let steps : next blocks Free m (Step i) ≡ Ok (after_stmt m i place count d) =
    subst (λ (x : Effect). next blocks Free m (Step i) ≡ Ok (after_stmt m i place count x)) ran (runs_there blocks m i s place stmt at stands free here) in
    let after = law.goes_on blocks Free m (Step i) (after_stmt m i place count d) sound steps in
    let kept = keeps m i place d (is_some d.statement) (is_failed d.outcome) (nat_lt (place.next + 1) count) more in
    let there : IsSoundMachine (with_session m d.db i kept.0) = subst IsSoundMachine kept.1 after.0 in
    opened_at (with_session m d.db i kept.0) i kept.0 t there (get-set_same m.sessions i s kept.0 at) (kept.2 ∙ is)

pub set_twice : {A : Type 0} (xs : List A) (i : ℕ) (x y : A) → set (set xs i x) i y ≡ set xs i y
set_twice [] zero x y = refl
set_twice [] (suc i) x y = refl
set_twice (z ∷ xs) zero x y = refl
set_twice (z ∷ xs) (suc i) x y = ap (λ ys. z ∷ ys) (set_twice xs i x y)

-- what was set at the session before doesn't matter
same : (m n : Machine) (i : ℕ) (place : Place) (d : Effect) (waits fails more : Bool) → ((db : Database) (s : Session) → with_session m db i s ≡ with_session n db i s)
    → goes_or_waits m i place d waits fails more ≡ goes_or_waits n i place d waits fails more
same m n i place d true fails more e = ap (λ (x : Machine). let k : Next = record { machine = x; reply = record { outcome = d.outcome; ended = false } } in k) (e _ _)
same m n i place d false true more e = ap (λ (x : Machine). let k : Next = record { machine = x; reply = record { outcome = d.outcome; ended = true } } in k) (e _ _)
same m n i place d false false true e = ap (λ (x : Machine). let k : Next = record { machine = x; reply = record { outcome = d.outcome; ended = false } } in k) (e _ _)
same m n i place d false false false e = ap (λ (x : Machine). let k : Next = record { machine = x; reply = record { outcome = (closed_at_end d d.transaction).outcome; ended = true } } in k) (e _ _)

-- a statement that ran over the machine without it in its session
pub ran : (m mid new : Machine) (i : ℕ) (s taken : Session) (place : Place) (count : ℕ) (stmt : StmtTree) (d : Effect) (reply : Reply) → slice_get m.sessions i ≡ Some s
    → mid ≡ record { db = d.db; sessions = set m.sessions i taken; events = m.events } → run_stmt m.db s.transaction s.statement (around m i s) stmt ≡ d
    → after_stmt mid i place count d ≡ record { machine = new; reply = reply }
    → IfSome (slice_get m.sessions i) (λ s. after_stmt m i place count (run_stmt m.db s.transaction s.statement (around m i s) stmt) ≡ record { machine = new; reply = reply })
ran m mid new i s taken place count stmt d reply at is run done =
    let over : (db : Database) (u : Session) → with_session m db i u ≡ with_session mid db i u =
    λ db u. let e : with_session mid db i u ≡ with_session m db i u =
    ap (λ (x : Machine). with_session x db i u) is
    ∙ ap (λ (ss : List Session). let k : Machine = record { db = db; sessions = ss; events = m.events + 1 } in k) (set_twice m.sessions i taken u) in sym e in
    rw at
    (ap (after_stmt m i place count) run
    ∙ (same m mid i place d (is_some d.statement) (is_failed d.outcome) (nat_lt (place.next + 1) count) over ∙ done))

-- the machine whose session's statement was taken out of it
abbrev pub taken_out : Machine → ℕ → Session → Machine
taken_out m i s = record { db = m.db; sessions = set m.sessions i (record s { statement = None }); events = m.events }

pub there : (m inside : Machine) (i : ℕ) (s : Session) → slice_get m.sessions i ≡ Some s → inside ≡ taken_out m i s → i < length inside.sessions
there m inside i s at is =
    let long : length inside.sessions ≡ length m.sessions = ap (λ (x : Machine). length x.sessions) is ∙ length-set m.sessions i _ in
    let below = slice_get_within m.sessions i s at in
    omega arith

-- what runs over it finds the sessions of the definition around it
pub ran_over : (m inside : Machine) (i : ℕ) (s : Session) (stmt : StmtTree) (lent : List Session) (d : Effect) → inside ≡ taken_out m i s → lent ≡ inside.sessions
    → run_stmt inside.db s.transaction s.statement (record { sessions = lent; number = inside.events }) stmt ≡ d
    → run_stmt m.db s.transaction s.statement (around m i s) stmt ≡ d
ran_over m inside i s stmt lent d is is_lent run =
    let over : Machine → Effect = λ x. run_stmt x.db s.transaction s.statement (record { sessions = x.sessions; number = x.events }) stmt in
    let lend : List Session → Effect = λ xs. run_stmt inside.db s.transaction s.statement (record { sessions = xs; number = inside.events }) stmt in
    ap over (sym is) ∙ (ap lend (sym is_lent) ∙ run)

abbrev some_session : Session → Option Session
some_session s = Some s

one_some : (a b : Session) → some_session a ≡ some_session b → a ≡ b
one_some a b h = cc

pub stands_at : (m : Machine) (i : ℕ) (place : Place) (s : Session) → slice_get m.sessions i ≡ Some s
    → (x : Session) × (slice_get m.sessions i ≡ Some x) × (x.place ≡ Some place) × (is_still_blocked m.db x ≡ false)
    → (s.place ≡ Some place) × (is_still_blocked m.db s ≡ false)
stands_at m i place s at h =
    let e : h.0 ≡ s = one_some h.0 s (sym h.1 ∙ at) in
    (subst (λ (x : Session). x.place ≡ Some place) e h.2, subst (λ (x : Session). is_still_blocked m.db x ≡ false) e h.3)
