use Rattle.std.proofs.Common.{◌≡◌, ap, sym, ◌∙◌, ◌<◌, length, length-set, set, subst}
use Rattle.std.specs.Prelude.{None, Some, is_some, slice_get}
use Rattle.std.proofs.lemmas.Option.{slice_get_within}
use Rattle.sql_trees.specs.Statements.{stmt_of}
use Rattle.row_versions.specs.Log.{IsOpen}
use Rattle.session_machine.specs.Statements.{Effect}
use Rattle.session_machine.specs.Machine.{Machine}
use Rattle.session_machine.specs.Sound.{RowsFit, RowsStay}
use Rattle.session_machine.specs.declared.session.Session.{Session}
use Rattle.session_laws.proofs.Lists.{slice_get-set_same}
use Rattle.session_statements.specs.Targets.{AreKept}
use Rattle.session_core.proofs.Holding.{kept_by, kept_on, left_kept}
use Rattle.session_core.proofs.Stepping.{left_open, opened_at, ran, ran_over, stands_at, taken_out, there, within_at}
use Rattle.session_core.proofs.live.Live.run.Goals as goal

pub run_statement-requires-clause-opened : goal.run_statement-requires-clause-opened
run_statement-requires-clause-opened g c t h =
    let m = c.args.self.now in
    let s = c.take_session-taken.result in
    let at = c.take_session-taken.ensures.was in
    let inside : Machine = record { db = c.self.inside.db; sessions = c.self.inside.sessions.items; events = c.self.inside.events } in
    let is : inside ≡ taken_out m c.args.session s = c.self.view_is ∙ c.take_session-taken.ensures.taken in
    subst (λ (x : Machine). IsOpen x.db.content t.tx) (sym is) (opened_at m c.args.session s t c.requires.sound at h)

pub run_statement-requires-clause-fit : goal.run_statement-requires-clause-fit
run_statement-requires-clause-fit g c =
    let m = c.args.self.now in
    let s = c.take_session-taken.result in
    let inside : Machine = record { db = c.self.inside.db; sessions = c.self.inside.sessions.items; events = c.self.inside.events } in
    let is : inside ≡ taken_out m c.args.session s = c.self.view_is ∙ c.take_session-taken.ensures.taken in
    subst (λ (x : Machine). RowsFit x.db.content x.db.catalog) (sym is) c.requires.sound.fit

pub run_statement-requires-clause-stay : goal.run_statement-requires-clause-stay
run_statement-requires-clause-stay g c =
    let m = c.args.self.now in
    let s = c.take_session-taken.result in
    let inside : Machine = record { db = c.self.inside.db; sessions = c.self.inside.sessions.items; events = c.self.inside.events } in
    let is : inside ≡ taken_out m c.args.session s = c.self.view_is ∙ c.take_session-taken.ensures.taken in
    subst (λ (x : Machine). RowsStay x.db.content) (sym is) c.requires.sound.stay

pub run_statement-requires-clause-within : goal.run_statement-requires-clause-within
run_statement-requires-clause-within g c p h =
    let m = c.args.self.now in
    let s = c.take_session-taken.result in
    let at = c.take_session-taken.ensures.was in
    let inside : Machine = record { db = c.self.inside.db; sessions = c.self.inside.sessions.items; events = c.self.inside.events } in
    let is : inside ≡ taken_out m c.args.session s = c.self.view_is ∙ c.take_session-taken.ensures.taken in
    subst (λ (x : Machine). p.table.0 < length x.db.catalog.tables) (sym is) (within_at m c.args.session s p c.requires.sound at h)

pub take-targets-requires : goal.take-targets-requires
take-targets-requires g c =
    let current = c.requires.current in
    subst (λ k. c.args.session < k) (sym c.requires.long) (slice_get_within c.args.self.now.sessions c.args.session current.0 current.1)

pub run_statement-requires-clause-kept : goal.run_statement-requires-clause-kept
run_statement-requires-clause-kept g c =
    let m = c.args.self.now in
    let s = c.take_session-taken.result in
    let at = c.take_session-taken.ensures.was in
    let stmt = stmt_of c.args.due.at.stmt.now in
    let targets = c.take-targets.result in
    let inside : Machine = record { db = c.self.inside.db; sessions = c.self.inside.sessions.items; events = c.self.inside.events } in
    let is : inside ≡ taken_out m c.args.session s = c.self.view_is ∙ c.take_session-taken.ensures.taken in
    subst (λ (x : Machine). AreKept x.db stmt s.statement targets) (sym is) (c.requires.kept s targets at c.take-targets.ensures.was)

pub go_on-requires-clause-lists : goal.go_on-requires-clause-lists
go_on-requires-clause-lists g c =
    let current = c.requires.current in
    let below = slice_get_within c.args.self.now.sessions c.args.session current.0 current.1 in
    subst (λ k. c.args.session < k) (sym (ap length c.take-targets.ensures.taken ∙ (length-set c.args.kept.now c.args.session None ∙ c.requires.long))) below

pub go_on-requires-clause-there : goal.go_on-requires-clause-there
go_on-requires-clause-there g c =
    let m = c.args.self.now in
    let s = c.take_session-taken.result in
    let at = c.take_session-taken.ensures.was in
    let inside : Machine = record { db = c.self.inside.db; sessions = c.self.inside.sessions.items; events = c.self.inside.events } in
    let is : inside ≡ taken_out m c.args.session s = c.self.view_is ∙ c.take_session-taken.ensures.taken in
    there m inside c.args.session s at is

pub go_on-requires-clause-opened : goal.go_on-requires-clause-opened
go_on-requires-clause-opened g c t h =
    let m = c.args.self.now in
    let s = c.take_session-taken.result in
    let at = c.take_session-taken.ensures.was in
    let inside : Machine = record { db = c.self.inside.db; sessions = c.self.inside.sessions.items; events = c.self.inside.events } in
    let is : inside ≡ taken_out m c.args.session s = c.self.view_is ∙ c.take_session-taken.ensures.taken in
    let stmt = stmt_of c.args.due.at.stmt.now in
    let d : Effect = record { db = c.run_statement.new.db; transaction = c.in_ok-did.did.transaction; statement = c.in_ok-did.did.statement; outcome = c.in_ok-did.did.outcome } in
    let run = ran_over m inside c.args.session s stmt c.deref.result.now d is c.deref.ensures.value c.in_ok-did.ensures.did in
    let stands = stands_at m c.args.session c.args.due.place s at c.requires.current in
    left_open c.stays_sound.ensures m c.args.session s c.args.due.place stmt d t c.requires.sound at stands.0 stands.1 run h

pub returns-clause-reply : goal.returns-clause-reply
returns-clause-reply g c =
    let m = c.args.self.now in
    let s = c.take_session-taken.result in
    let at = c.take_session-taken.ensures.was in
    let inside : Machine = record { db = c.self.inside.db; sessions = c.self.inside.sessions.items; events = c.self.inside.events } in
    let is : inside ≡ taken_out m c.args.session s = c.self.view_is ∙ c.take_session-taken.ensures.taken in
    let stmt = stmt_of c.args.due.at.stmt.now in
    let d : Effect = record { db = c.run_statement.new.db; transaction = c.in_ok-did.did.transaction; statement = c.in_ok-did.did.statement; outcome = c.in_ok-did.did.outcome } in
    let run = ran_over m inside c.args.session s stmt c.deref.result.now d is c.deref.ensures.value c.in_ok-did.ensures.did in
    let mid : Machine → Machine = λ x. record { db = d.db; sessions = x.sessions; events = x.events } in
    ran m (mid inside) c.go_on.new.self c.args.session s (record s { statement = None }) c.args.due.place c.args.due.at.count stmt d c.go_on.result at (ap mid is) run c.go_on.ensures.after

pub returns-clause-kept : goal.returns-clause-kept
returns-clause-kept g c =
    let m = c.args.self.now in
    let k = c.args.session in
    let s = c.take_session-taken.result in
    let at = c.take_session-taken.ensures.was in
    let inside : Machine = record { db = c.self.inside.db; sessions = c.self.inside.sessions.items; events = c.self.inside.events } in
    let is : inside ≡ taken_out m k s = c.self.view_is ∙ c.take_session-taken.ensures.taken in
    let stmt = stmt_of c.args.due.at.stmt.now in
    let d : Effect = record { db = c.run_statement.new.db; transaction = c.in_ok-did.did.transaction; statement = c.in_ok-did.did.statement; outcome = c.in_ok-did.did.outcome } in
    let targets = c.in_ok-did.did.targets in
    let mid : Machine = record { db = d.db; sessions = inside.sessions; events = inside.events } in
    let rest : Session = record s { statement = None } in
    let stood : slice_get mid.sessions k ≡ Some rest =
    ap (λ (x : Machine). slice_get x.sessions k) is ∙ slice_get-set_same m.sessions k rest (slice_get_within m.sessions k s at) in
    let kept : AreKept m.db stmt d.statement targets = subst (λ (x : Machine). AreKept x.db stmt d.statement targets) is c.in_ok-did.ensures.kept in
    let lists : c.go_on.new.kept ≡ set c.args.kept.now k (left_kept (is_some d.statement) targets) =
    kept_by (is_some d.statement) c.args.kept.now c.take-targets.new.self c.go_on.new.kept k targets c.take-targets.ensures.taken c.go_on.ensures.stays c.go_on.ensures.over in
    kept_on mid c.go_on.new.self k rest c.args.due.place c.args.due.at.count d c.go_on.result m.db stmt targets c.args.kept.now c.go_on.new.kept stood c.go_on.ensures.after kept lists
