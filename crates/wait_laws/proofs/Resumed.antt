-- A statement that waits is the one that was begun, and what it finds stays, whatever it wrote itself.
use Rattle.std.proofs.Common.{◌≡◌, refl, sym, ◌∙◌, ap, subst, inl, inr, ⊎_elim, Bool, true, false, ℕ, ◌+◌, ◌≤◌, List, [], ◌∷◌, ◌++◌, append_assoc, append-nil, length, set, arith}
use Rattle.std.specs.Prelude.{ℤ, Option, Some, None, slice_get, unwrap_or, Result, Ok, Err, if◌then◌else◌}
use Rattle.std.proofs.lemmas.Bool.{cases_eq}
use Rattle.std.proofs.lemmas.Option.{slice_get_within}
use Rattle.sql_trees.specs.declared.stmt.Level.{Level}
use Rattle.sql_trees.specs.declared.stmt.Lock.{Lock}
use Rattle.sql_trees.specs.Statements.{StmtTree, CreateTree, SelectTree, Inserts, Updates, Deletes, Selects}
use Rattle.sql_values.specs.declared.fault.ValueFault.{ValueFault}
use Rattle.query_results.specs.Results.{Results}
use Rattle.query_results.specs.Queries.{result_of, select_exprs, undefined_among, wrong_position}
use Rattle.row_versions.specs.declared.names.TableId.{TableId}
use Rattle.row_versions.specs.declared.names.TxId.{TxId}
use Rattle.row_versions.specs.declared.write.View.{View}
use Rattle.row_versions.specs.Log.{Content}
use Rattle.session_machine.specs.declared.session.OpenTransaction.{OpenTransaction}
use Rattle.session_machine.specs.declared.session.Transaction.{Transaction}
use Rattle.session_machine.specs.declared.session.Transaction.TheVariants.{Closed, Open, Aborted}
use Rattle.session_machine.specs.declared.session.Progress.{Progress}
use Rattle.session_machine.specs.declared.session.Session.{Session}
use Rattle.session_machine.specs.declared.event.Event.{Event}
use Rattle.session_machine.specs.declared.event.Event.TheVariants.{Launch, Step, Leave}
use Rattle.session_machine.specs.declared.event.Mode.{Mode}
use Rattle.session_machine.specs.declared.reply.HistItem.{HistItem}
use Rattle.session_machine.specs.declared.fault.Refusal.TheVariants.{Busy, NotYourTurn, BlockNotAllowed}
use Rattle.session_machine.specs.Tables.{Database, Table, find_table}
use Rattle.session_machine.specs.Engine.{Follows}
use Rattle.session_machine.specs.Transactions.{view_of}
use Rattle.session_machine.specs.Statements.{Surroundings, Effect, level_set}
use Rattle.session_machine.specs.Rows.{Work, columns_in, cols_in}
use Rattle.session_machine.specs.Running.{run_stmt}
use Rattle.session_machine.specs.Inner.Statements.{answered, beginning, run_on, select, select_rows, unless_wrong, create}
use Rattle.session_machine.specs.Inner.Pieces.{drop_ended, lock_again, select_found, dropped}
use Rattle.session_machine.proofs.Piecewise.{drops_by}
use Rattle.session_machine.proofs.ByKind.{runs_by_kind}
use Rattle.session_machine.specs.Machine.{Machine, Blocks, Next, next, opening, stmts_of, at_rest, session_of, Run}
use Rattle.session_machine.specs.Inner.Steps.{launch_of, step_of, leave_of, around, first_place}
use Rattle.session_machine.specs.Sound.{command_in}
use Rattle.wait_laws.specs.Laws.{BeganAt, GoesOnInItsView, IsAsBegun, IsAtWork, IsInViewOf, Reaches, RunAtWork, StatementsStayAsBegun, stmt_at, table_at, transaction_at, view_at}
use Rattle.wait_laws.proofs.ByKind.{on_kind}
use Rattle.wait_laws.proofs.Doing.{Keeps, doer, Allows, does_stmt}
use Rattle.wait_laws.proofs.Beginning.{begins_there, is_there}
use Rattle.wait_laws.proofs.Events.{ok_is, ok_else, session_there, stepped, after}
use Rattle.session_laws.proofs.Staying.{stays_here, stays_on, count-begin}
use Rattle.wait_laws.proofs.Again.{statements_go_on_in_their_view}
use Rattle.wait_laws.proofs.Begun.{IsBegun, IsOwn, IsSame, begun_next, begun_there, did_next, finds, others_stay, rest_is, same_next, same_to_others}
use Rattle.session_laws.proofs.Lists.{slice_get-set_same}

none_not : (p : Progress) → None ≡ Some p → ⊥
none_not p h = cc

same_progress : (p q : Progress) → Some p ≡ Some q → p ≡ q
same_progress p q h = cc

same_session : (s u : Session) → Some s ≡ Some u → s ≡ u
same_session s u h = cc

closed_not : (t : OpenTransaction) → Closed ≡ Open t → ⊥
closed_not t h = cc

-- a statement without targets is over at once
over_if : (b : Bool) (d e : Effect) → d.statement ≡ None → e.statement ≡ None → (if b then d else e).statement ≡ None
over_if true d e h k = h
over_if false d e h k = k

over_level : (db : Database) (t : OpenTransaction) (explicit : Bool) (level : Level) → (level_set db t explicit level).statement ≡ None
over_level db t explicit level = over_if _ _ _ refl refl

over_answered : (db : Database) (t : OpenTransaction) (r : Result Results ValueFault) → (answered db t r).statement ≡ None
over_answered db t (Ok set) = refl
over_answered db t (Err fault) = refl

over_unless_wrong : (db : Database) (t : OpenTransaction) (o : Option (List ℕ)) (n : Option ℤ) (due : Effect) → due.statement ≡ None → (unless_wrong db t o n due).statement ≡ None
over_unless_wrong db t (Some name) n due h = refl
over_unless_wrong db t None (Some n) due h = refl
over_unless_wrong db t None None due h = h

over_rows : (db : Database) (w : Work) (s : SelectTree) (o : Option Lock) → o ≡ None → (select_rows db w s o).statement ≡ None
over_rows db w s None h = over_answered db w.t _
over_rows db w s (Some l) h = cc

over_select : (db : Database) (t : OpenTransaction) (around : Surroundings) (s : SelectTree) → s.lock ≡ None → (select db t around s s.table).statement ≡ None
over_select db t around s h = from s.table where
  at : (name : List ℕ) (o : Option ℕ) → (select_found db t around s name o).statement ≡ None
  at name None = refl
  at name (Some k) =
      let w = beginning db t around k in
      over_unless_wrong db t (undefined_among (cols_in db w) (select_exprs s)) (wrong_position (columns_in db w) s) (select_rows db w s s.lock) (over_rows db w s s.lock h)

  from : (o : Option (List ℕ)) → (select db t around s o).statement ≡ None
  from None =
      let r = result_of s [] ([] ∷ []) in over_unless_wrong db t (undefined_among [] (select_exprs s)) (wrong_position [] s) (answered db t r) (over_answered db t r)
  from (Some name) = at name (find_table db (Some t.tx) name)

over_create : (db : Database) (t : OpenTransaction) (c : CreateTree) (o : Option ℕ) → (create db t c o).statement ≡ None
over_create db t c (Some k) = refl
over_create db t c None = refl

over_drop : (before : Content) (t : OpenTransaction) (db : Database) (o : Option (List ℕ)) → (drop_ended before t db o).statement ≡ None
over_drop before t db None = refl
over_drop before t db (Some name) = refl

-- a statement that goes on and waits again is in its view
in_its_view : (db : Database) (t : OpenTransaction) (around : Surroundings) (p q : Progress) (stmt : StmtTree) → (run_on db t around p stmt).statement ≡ Some q → IsInViewOf p around q
in_its_view db t around p q stmt = on_kind db t around In (record {
  begins = λ level. over _ (over_if t.explicit _ _ refl (over_level db t true (unwrap_or level t.level)));
  sets = λ level. over _ (over_level db t t.explicit level);
  stays = over _ refl;
  commits = over _ refl;
  rolls_back = over _ refl;
  creates = λ c. over _ (over_create db t c (find_table db (Some t.tx) c.name));
  drops = λ d. let e = dropped db t d.if_exists d.names in over _ (ap (λ (x : Effect). x.statement) (drops_by db t d.if_exists d.names) ∙ over_drop db.content t e.db e.missing);
  shows = λ s e. over _ (over_select db t around s e);
}) p (record {
  inserts = λ i h. again.inserts i (by (Inserts i) h);
  updates = λ u h. again.updates u (by (Updates u) h);
  deletes = λ d h. again.deletes d (by (Deletes d) h);
  locks = λ s l e h. again.locks s l e (by (Selects s) (subst (λ o. (lock_again db t around s p o).statement ≡ Some q) (sym e) h));
}) stmt where
  by : (s : StmtTree) → (run_on db t around p s).statement ≡ Some q → (run_stmt db (Open t) (Some p) around s).statement ≡ Some q
  by s h = ap (λ (d : Effect). d.statement) (runs_by_kind db (Open t) (Some p) around s) ∙ h

  In : Effect → Type 0
  In d = d.statement ≡ Some q → IsInViewOf p around q

  over : (o : Option Progress) → o ≡ None → o ≡ Some q → IsInViewOf p around q
  over o h k = absurd (none_not q (sym h ∙ k))

  again : GoesOnInItsView db t around p q
  again = statements_go_on_in_their_view db t around p q

free_keeps : (x : TxId) (n : ℕ) → Keeps x n (λ d. Unit {0}) (λ d. Unit {0})
free_keeps x n = record {
  lock = λ d h own may p. tt;
  insert = λ d w own now made p. tt;
  write = λ d w strength own now enough held p. tt;
  create = λ d made p. tt;
  drop = λ d k p. tt;
  commit = λ d p. tt;
  roll_back = λ d p. tt;
  rest = λ d p. tt;
}

-- one that begins and waits is in the view that is taken now
in_first_view : (db : Database) (tr : Transaction) (around : Surroundings) (q : Progress) (stmt : StmtTree) → (run_stmt db tr None around stmt).statement ≡ Some q
    → q.view ≡ view_of db.content (transaction_at db.content tr)
in_first_view db tr around q stmt h =
    elim (does_stmt (λ d. Unit {0}) (λ d. Unit {0}) (λ v. v ≡ view_of db.content (transaction_at db.content tr)) db tr None around stmt (free_keeps (doer db tr) (command_in tr)) (allows tr) tt) [
      | inl idle ↦ absurd (none_not q (sym idle.over ∙ h))
      | inr ran ↦ (ran.waits q h).1
    ] where
      allows : (r : Transaction) → Allows (λ v. v ≡ view_of db.content (transaction_at db.content r)) db r None
      allows Closed = let mk : ℕ → View = λ n. record { tx = Some (doer db Closed); commits = n; command = 0 } in ap mk (count-begin db.content.fates)
      allows Aborted = tt
      allows (Open t) = refl

-- where a statement waits that began now or goes on
record Waits (c : Content) (tr : Transaction) (st : Option Progress) (q : Progress) : Type 0 where
  view : q.view ≡ view_at c tr st
  goes_on : (p : Progress) → st ≡ Some p → (q.table ≡ p.table) × (p.place ≤ q.place)

waits_at : (db : Database) (tr : Transaction) (st : Option Progress) (around : Surroundings) (q : Progress) (stmt : StmtTree)
    → ((p : Progress) → st ≡ Some p → (t : OpenTransaction) × (tr ≡ Open t)) → (run_stmt db tr st around stmt).statement ≡ Some q → Waits db.content tr st q
waits_at db tr None around q stmt is_open h = record { view = in_first_view db tr around q stmt h; goes_on = λ p e. absurd (none_not p e) }
waits_at db tr (Some g) around q stmt is_open h =
    let t = (is_open g refl).0 in
    let in_view =
    in_its_view db t around g q stmt
    (ap (λ (d : Effect). d.statement) (sym (runs_by_kind db (Open t) (Some g) around stmt))
    ∙ subst (λ (y : Transaction). (run_stmt db y (Some g) around stmt).statement ≡ Some q) (is_open g refl).1 h) in
    record {
      view = in_view.view;
      goes_on = λ p e. subst (λ (y : Progress). (q.table ≡ y.table) × (y.place ≤ q.place)) (same_progress g p e) (in_view.table, in_view.onward);
    }

-- a session that is in the middle of a statement after an event of its own has made a step of it
record StepsOn (given : Blocks) (m : Machine) (s u : Session) (q : Progress) : Type 0 where
  place : u.place ≡ s.place
  around : Surroundings
  stmt : StmtTree
  tree : stmt_at given s.place ≡ Some stmt
  is : (run_stmt m.db s.transaction s.statement around stmt).statement ≡ Some q

-- the one session that changed
changed : (ss : List Session) (i : ℕ) (s u v : Session) → slice_get ss i ≡ Some s → slice_get (set ss i u) i ≡ Some v → v ≡ u
changed ss i s u v at h = same_session v u (sym h ∙ slice_get-set_same ss i u (slice_get_within ss i s at))

steps_on : (blocks : Blocks) (mode : Mode) (m : Machine) (event : Event) (s : Session) (n : Next) → slice_get m.sessions (session_of event) ≡ Some s → next blocks mode m event ≡ Ok n
    → (u : Session) (q : Progress) → slice_get n.machine.sessions (session_of event) ≡ Some u → u.statement ≡ Some q → StepsOn blocks m s u q
steps_on blocks mode m (Launch i block) s n at h u q there is =
    let a = ok_else BlockNotAllowed _ _ n (subst (λ o. launch_of blocks mode m i block o ≡ Ok n) at h) in
    let b = ok_else Busy _ _ n a.1 in
    let c = ok_else NotYourTurn _ _ n b.1 in
    let same : u ≡ record { place = first_place block (stmts_of blocks block); transaction = s.transaction; statement = None } =
    changed m.sessions i s _ u at (subst (λ (y : Next). slice_get y.machine.sessions i ≡ Some u) (ok_is _ n c.1) there) in
    absurd (none_not q (ap (λ (y : Session). y.statement) (sym same) ∙ is))
steps_on blocks mode m (Leave i) s n at h u q there is =
    let c = ok_else NotYourTurn _ _ n (subst (λ o. leave_of mode m i o ≡ Ok n) at h) in
    let same : u ≡ at_rest = changed m.sessions i s at_rest u at (subst (λ (y : Next). slice_get y.machine.sessions i ≡ Some u) (ok_is _ n c.1) there) in
    absurd (none_not q (ap (λ (y : Session). y.statement) (sym same) ∙ is))
steps_on blocks mode m (Step i) s n at h u q there is =
    let k = stepped blocks mode m i s n (subst (λ o. step_of blocks mode m i o ≡ Ok n) at h) in
    let d = run_stmt m.db s.transaction s.statement (around m i s) k.stmt in
    let a = after m i k.place (length (stmts_of blocks k.place.block)) d in
    let there' : slice_get (set m.sessions i a.u) i ≡ Some u =
    subst (λ (y : Machine). slice_get y.sessions i ≡ Some u) a.is (subst (λ (y : Next). slice_get y.machine.sessions i ≡ Some u) k.is there) in
    let same = changed m.sessions i s a.u u at there' in
    let waits : a.u.statement ≡ Some q = ap (λ (y : Session). y.statement) (sym same) ∙ is in
    record {
      place = ap (λ (y : Session). y.place) same ∙ (a.stays q waits ∙ sym k.there);
      around = around m i s;
      stmt = k.stmt;
      tree = ap (stmt_at blocks) k.there ∙ k.found;
      is = elim a.how [
        | inl w ↦ elim w.2 [ inl g ↦ sym g ∙ waits | inr g ↦ absurd (none_not q (sym g ∙ waits)) ]
        | inr w ↦ absurd (none_not q (sym w.4 ∙ waits))
      ];
    }

-- a statement that begins: its tree, and the table that its name means, which is there
record Begins (given : Blocks) (m : Machine) (s : Session) (q : Progress) : Type 0 where
  stmt : StmtTree
  tree : stmt_at given s.place ≡ Some stmt
  table : table_at m.db s.transaction None stmt ≡ Some q.table.0
  made : Table
  there : slice_get m.db.catalog.tables q.table.0 ≡ Some made

-- what became of a session's statement since a state
record Goes (given : Blocks) (m e : Machine) (s u : Session) (q : Progress) : Type 0 where
  place : u.place ≡ s.place
  waits : Waits m.db.content s.transaction s.statement q
  same : IsSame q.view m.db e.db
  begins : s.statement ≡ None → Begins given m s q

-- where nothing was done
stays_there : (given : Blocks) (m e : Machine) (s u : Session) (q : Progress) → u ≡ s → u.statement ≡ Some q → IsSame q.view m.db e.db → Goes given m e s u q
stays_there given m e s u q is at same =
    let here : s.statement ≡ Some q = ap (λ (y : Session). y.statement) (sym is) ∙ at in
    record {
      place = ap (λ (y : Session). y.place) is;
      waits = record {
        view = ap (view_at m.db.content s.transaction) (sym here);
        goes_on = λ p f. let one : q ≡ p = same_progress q p (sym here ∙ f) in subst (λ (y : Progress). (q.table ≡ y.table) × (y.place ≤ q.place)) one (refl, omega arith);
      };
      same = same;
      begins = λ idle. absurd (none_not q (sym idle ∙ here));
    }

goes_next : (blocks : Blocks) (mode : Mode) (m : Machine) (k : ℕ) (s : Session) (event : Event) (n : Next) (u : Session) (q : Progress) → IsBegun m → slice_get m.sessions k ≡ Some s
    → next blocks mode m event ≡ Ok n → IsAtWork n.machine k u q → Goes blocks m n.machine s u q
goes_next blocks mode m k s event n u q old at h work = ⊎_elim its others (cases_eq (session_of event) k) where
  others : (session_of event ≡ k → ⊥) → Goes blocks m n.machine s u q
  others ne =
      let is : u ≡ s = same_session u s (sym work.0 ∙ (others_stay blocks mode m k event n old h ne ∙ at)) in
      stays_there blocks m n.machine s u q is work.1
      (same_to_others blocks mode m k s q event n old at (ap (λ (y : Session). y.statement) (sym is) ∙ work.1) h ne)

  its : session_of event ≡ k → Goes blocks m n.machine s u q
  its e =
      let there : slice_get m.sessions (session_of event) ≡ Some s = ap (slice_get m.sessions) e ∙ at in
      let now : slice_get n.machine.sessions (session_of event) ≡ Some u = ap (slice_get n.machine.sessions) e ∙ work.0 in
      let step = steps_on blocks mode m event s n there h u q now work.1 in
      let w = did_next blocks mode m event s n old there h in
      let is : u ≡ w.u = changed m.sessions (session_of event) s w.u u there (subst (λ (y : Machine). slice_get y.sessions (session_of event) ≡ Some u) w.is now) in
      let waits : w.u.statement ≡ Some q = ap (λ (y : Session). y.statement) (sym is) ∙ work.1 in
      let own : IsOwn (doer m.db s.transaction) (command_in s.transaction) m.db q.view = elim w.did [
        | inl r ↦ absurd (none_not q (sym r.over ∙ waits))
        | inr r ↦ (r.waits q waits).1
      ] in
      record {
        place = step.place;
        waits = waits_at m.db s.transaction s.statement step.around q step.stmt (λ p f. let v = old.views k s p at f in (v.0, v.1)) step.is;
        same = same_next q.view blocks mode m event s n old there (record { unseen = inr own.2; before = own.1 }) h;
        begins = λ idle.
            let table = begins_there m.db s.transaction step.around step.stmt q
            (subst (λ (o : Option Progress). (run_stmt m.db s.transaction o step.around step.stmt).statement ≡ Some q) idle step.is) in
            let found = is_there m.db s.transaction step.stmt q.table.0 table in
            record { stmt = step.stmt; tree = step.tree; table = table; made = found.0; there = found.1 };
      }

-- from one state to the next, and on
goes_on : (given : Blocks) (m mid e : Machine) (s v u : Session) (p q : Progress) → v.statement ≡ Some p → Goes given m mid s v p → Goes given mid e v u q → Goes given m e s u q
goes_on given m mid e s v u p q at first rest =
    let view : q.view ≡ p.view = rest.waits.view ∙ ap (view_at mid.db.content v.transaction) at in
    let on = rest.waits.goes_on p at in
    let before = subst (λ (y : View). IsSame y m.db mid.db) (sym view) first.same in
    record {
      place = rest.place ∙ first.place;
      waits = record {
        view = view ∙ first.waits.view;
        goes_on = λ g f. let was = first.waits.goes_on g f in (on.0 ∙ was.0, let a = on.1 in let b = was.1 in omega arith);
      };
      same = record {
        stays = stays_on q.view m.db.content mid.db.content e.db.content before.stays rest.same.stays;
        tables = λ k made there. rest.same.tables k made (before.tables k made there);
      };
      begins = λ idle.
          let b = first.begins idle in
          let one : p.table.0 ≡ q.table.0 = ap (λ (k : TableId). k.0) (sym on.0) in
          record { stmt = b.stmt; tree = b.tree; table = b.table ∙ ap Some one; made = b.made; there = ap (slice_get m.db.catalog.tables) (sym one) ∙ b.there };
    }

goes_all : (blocks : Blocks) (mode : Mode) (k : ℕ) (items : List HistItem) (m e : Machine) (s u : Session) (q : Progress) → IsBegun m → slice_get m.sessions k ≡ Some s
    → RunAtWork blocks mode k m items e → IsAtWork e k u q → Goes blocks m e s u q
goes_all blocks mode k [] m e s u q old at run work =
    let is : u ≡ s = same_session u s (sym work.0 ∙ (ap (λ (y : Machine). slice_get y.sessions k) run ∙ at)) in
    subst (λ (y : Machine). Goes blocks m y s u q) (sym run) (stays_there blocks m m s u q is work.1 (record { stays = stays_here q.view m.db.content; tables = λ j made there. there }))
goes_all blocks mode k (item ∷ items) m e s u q old at run work =
    let mid = run.0 in
    let first = goes_next blocks mode m k s item.event _ run.1 run.2 old at run.3 run.4 in
    goes_on blocks m mid e s run.1 u run.2 q run.4.1 first
    (goes_all blocks mode k items mid e run.1 u q (begun_next blocks mode m item.event _ old run.3) run.4.0 run.5 work)

-- ---- the moment at which a statement began

run_on_by : (given : Blocks) (mode : Mode) (items : List HistItem) (m mid after : Machine) (item : HistItem) → Run given mode m items mid → Follows given mode mid item after
    → Run given mode m (items ++ item ∷ []) after
run_on_by given mode [] m mid after item run last = (after, subst (λ (y : Machine). Follows given mode y item after) run last, refl)
run_on_by given mode (first ∷ items) m mid after item run last = (run.0, run.1, run_on_by given mode items run.0 mid after item run.2 last)

work_on : (given : Blocks) (mode : Mode) (k : ℕ) (items : List HistItem) (m mid after : Machine) (item : HistItem) (u : Session) (q : Progress) → RunAtWork given mode k m items mid
    → Follows given mode mid item after → IsAtWork after k u q → RunAtWork given mode k m (items ++ item ∷ []) after
work_on given mode k [] m mid after item u q run last work = (after, u, q, subst (λ (y : Machine). Follows given mode y item after) run last, work, refl)
work_on given mode k (first ∷ items) m mid after item u q run last work =
    (run.0, run.1, run.2, run.3, run.4, work_on given mode k items run.0 mid after item u q run.5 last work)

-- of each session that is at work there is such a moment
abbrev Began : Blocks → Mode → ℕ → List HistItem → Machine → Type 0
Began given mode count items m = (k : ℕ) (u : Session) (q : Progress) → IsAtWork m k u q → BeganAt given mode count k items m

began_next : (given : Blocks) (mode : Mode) (count : ℕ) (items : List HistItem) (m after : Machine) (item : HistItem) → Run given mode (opening count) items m
    → Began given mode count items m → Follows given mode m item after → Began given mode count (items ++ item ∷ []) after
began_next given mode count items m after item run old last k u q work = ⊎_elim its others (cases_eq (session_of item.event) k) where
  n : Next
  n = record { machine = after; reply = item.reply }

  begun : IsBegun m
  begun = begun_there given mode count m (items, run)

  further : BeganAt given mode count k items m → BeganAt given mode count k (items ++ item ∷ []) after
  further b = record {
    before = b.before;
    since = b.since ++ item ∷ [];
    parts = ap (λ (xs : List HistItem). xs ++ item ∷ []) b.parts ∙ append_assoc b.before b.since (item ∷ []);
    m = b.m;
    reached = b.reached;
    s = b.s;
    there = b.there;
    idle = b.idle;
    at_work = work_on given mode k b.since b.m m after item u q b.at_work last work;
  }

  others : (session_of item.event ≡ k → ⊥) → BeganAt given mode count k (items ++ item ∷ []) after
  others ne = further (old k u q (sym (others_stay given mode m k item.event n begun last ne) ∙ work.0, work.1))

  its : session_of item.event ≡ k → BeganAt given mode count k (items ++ item ∷ []) after
  its e = by there.0.statement refl where
    there : (s : Session) × (slice_get m.sessions (session_of item.event) ≡ Some s)
    there = session_there given mode m item.event n last

    at : slice_get m.sessions k ≡ Some there.0
    at = ap (slice_get m.sessions) (sym e) ∙ there.1

    by : (o : Option Progress) → there.0.statement ≡ o → BeganAt given mode count k (items ++ item ∷ []) after
    by (Some p) f = further (old k there.0 p (at, f))
    by None f = record {
      before = items;
      since = item ∷ [];
      parts = refl;
      m = m;
      reached = run;
      s = there.0;
      there = at;
      idle = f;
      at_work = (after, u, q, last, work, refl);
    }

began_all : (given : Blocks) (mode : Mode) (count : ℕ) (items before : List HistItem) (m after : Machine) → Run given mode (opening count) before m
    → Began given mode count before m → Run given mode m items after → Began given mode count (before ++ items) after
began_all given mode count [] before m after run old rest =
    subst (λ (xs : List HistItem). Began given mode count xs after) (sym (append-nil before)) (subst (Began given mode count before) (sym rest) old)
began_all given mode count (item ∷ items) before m after run old rest =
    subst (λ (xs : List HistItem). Began given mode count xs after) (append_assoc before (item ∷ []) items)
    (began_all given mode count items (before ++ item ∷ []) rest.0 after (run_on_by given mode before (opening count) m rest.0 item run rest.1)
    (began_next given mode count before m rest.0 item run old rest.1) rest.2)

began_opening : (given : Blocks) (mode : Mode) (count : ℕ) → Began given mode count [] (opening count)
began_opening given mode count k u q work = absurd (none_not q (ap (λ (y : Session). y.statement) (sym (rest_is (count + 1) k u work.0)) ∙ work.1))

pub began : (given : Blocks) (mode : Mode) (count : ℕ) (items : List HistItem) (after : Machine) → Run given mode (opening count) items after → Began given mode count items after
began given mode count items after run = began_all given mode count items [] (opening count) after refl (began_opening given mode count) run

as_begun : (given : Blocks) (mode : Mode) (count : ℕ) (m : Machine) → Reaches given mode count m → (k : ℕ) (s : Session) → slice_get m.sessions k ≡ Some s
    → (items : List HistItem) (after : Machine) → RunAtWork given mode k m items after → (u : Session) (q : Progress) → IsAtWork after k u q → IsAsBegun given m after s u q
as_begun given mode count m reached k s at items after run u q work = by s.statement refl where
  g : Goes given m after s u q
  g = goes_all given mode k items m after s u q (begun_there given mode count m reached) at run work

  onward : (p : Progress) → s.statement ≡ Some p → p.place ≤ q.place
  onward p e = (g.waits.goes_on p e).1

  by : (o : Option Progress) → s.statement ≡ o → IsAsBegun given m after s u q
  by None e =
      let b = g.begins e in
      record {
        place = g.place;
        stmt = b.stmt;
        tree = b.tree;
        table = ap (λ (o : Option Progress). table_at m.db s.transaction o b.stmt) e ∙ b.table;
        made = b.made;
        there = b.there;
        view = g.waits.view;
        onward = onward;
        finds = finds m.db after.db q g.same;
      }
  by (Some p) e =
      let f = began given mode count reached.0 m reached.1 k s p (at, e) in
      let h = goes_all given mode k f.since f.m m f.s s p (begun_there given mode count f.m (f.before, f.reached)) f.there f.at_work (at, e) in
      let b = h.begins f.idle in
      let one : p.table.0 ≡ q.table.0 = ap (λ (k : TableId). k.0) (sym (g.waits.goes_on p e).0) in
      record {
        place = g.place;
        stmt = b.stmt;
        tree = ap (stmt_at given) h.place ∙ b.tree;
        table = ap (λ (o : Option Progress). table_at m.db s.transaction o b.stmt) e ∙ ap Some one;
        made = b.made;
        there = ap (slice_get m.db.catalog.tables) (sym one) ∙ h.same.tables p.table.0 b.made b.there;
        view = g.waits.view;
        onward = onward;
        finds = finds m.db after.db q g.same;
      }

pub statements_stay_as_begun : StatementsStayAsBegun
statements_stay_as_begun = record { began = began; since = as_begun }
