-- What a view shows stays as it is while other transactions go on.
use Rattle.std.proofs.Common.{◌≡◌, ◌≢◌, ℕ, suc, ◌<◌, ◌≤◌, ◌+◌, Bool, true, false, cond, List, [], ◌∷◌, ◌++◌, length, length-append, set, get_or, map, refl, ap, le_refl, ◌∙◌, arith, All}
use Rattle.std.specs.Prelude.{Ok, Option, Some, None, unwrap_or, option_and_then, slice_get, count_by, if◌then◌else◌}
use Rattle.std.proofs.lemmas.List.Elements.{Contains-get_or}
use Rattle.std.proofs.lemmas.List.Sums.{sum_by-append, sum_by-set}
use Rattle.std.proofs.lemmas.Option.{slice_get_within, get_or_from_slice_get}
use Rattle.sql_trees.specs.declared.stmt.Level.TheVariants.{ReadCommitted}
use Rattle.sql_trees.specs.Statements.{StmtTree}
use Rattle.sql_values.specs.declared.value.Value.{Value}
use Rattle.row_versions.specs.declared.names.TxId.{TxId}
use Rattle.row_versions.specs.declared.names.TableId.{TableId}
use Rattle.row_versions.specs.declared.write.Write.{Write}
use Rattle.row_versions.specs.declared.write.View.{View}
use Rattle.row_versions.specs.declared.write.Seen.{Seen}
use Rattle.row_versions.specs.declared.write.Fate.{Fate}
use Rattle.row_versions.specs.declared.write.Fate.TheVariants.{RolledBack, Open as OpenFate}
use Rattle.row_versions.specs.Log.{Content, IsOpen, is_commit, commit_count, values_at, next_tx, after_begin, after_write, after_commit, after_roll_back}
use Rattle.row_versions.specs.Rows.{rows_of}
use Rattle.row_versions.proofs.Gets.{get-append_left}
use Rattle.row_versions.proofs.Seeing.{other_unseen, sees-after_begin, sees-after_roll_back, sees-after_commit, count-after_commit}
use Rattle.row_versions.proofs.Shown.{rows-after_write, rows-same, shown_from_rows}
use Rattle.session_machine.specs.declared.session.OpenTransaction.{OpenTransaction}
use Rattle.session_machine.specs.declared.session.Transaction.{Transaction}
use Rattle.session_machine.specs.declared.session.Transaction.TheVariants.{Closed, Open, Aborted}
use Rattle.session_machine.specs.declared.session.Progress.{Progress}
use Rattle.session_machine.specs.declared.session.Session.{Session}
use Rattle.session_machine.specs.declared.event.Event.{Event}
use Rattle.session_machine.specs.declared.event.Mode.{Mode}
use Rattle.session_machine.specs.Tables.{Database}
use Rattle.session_machine.specs.Transactions.{fresh, committed}
use Rattle.session_machine.specs.Inner.Statements.{begun}
use Rattle.session_machine.specs.Views.{rows_shown}
use Rattle.session_machine.specs.Statements.{Surroundings, Effect}
use Rattle.session_machine.specs.Running.{run_stmt}
use Rattle.session_machine.specs.Machine.{Machine, Blocks, Next, next, is_failed, closed_at_end, session_of}
use Rattle.session_machine.specs.Inner.Steps.{around, left_behind}
use Rattle.session_machine.specs.Sound.{IsSoundMachine, tx_in, tx_of}
use Rattle.session_laws.proofs.Lists.{slice_get-append_seam}
use Rattle.session_laws.proofs.Writing.{Lasts}
use Rattle.session_laws.proofs.Effects.{IsFirm, Effects, run_effects}
use Rattle.session_laws.proofs.Keeping.{IsLive}
use Rattle.session_laws.proofs.Sound.{sound_live, sound_firm, sound_within, sound_ran, ran}
use Rattle.session_laws.proofs.Events.{event_cases, after_cases}

-- the view shows of the second content what it shows of the first, which the second has grown from
pub record Stays (view : View) (c d : Content) : Type 0 where
  pub rows : (table : TableId) → rows_of d view table ≡ rows_of c view table
  pub values : (place : ℕ) → place < length c.log → values_at d place ≡ values_at c place
  pub longer : length c.log ≤ length d.log
  pub counts : commit_count c ≤ commit_count d

pub stays_here : (view : View) (c : Content) → Stays view c c
stays_here view c = record { rows = λ table. refl; values = λ place l. refl; longer = le_refl _; counts = le_refl _ }

pub stays_on : (view : View) (c d e : Content) → Stays view c d → Stays view d e → Stays view c e
stays_on view c d e h k =
    record {
      rows = λ table. k.rows table ∙ h.rows table;
      values = λ place l. let longer = h.longer in k.values place (omega arith) ∙ h.values place l;
      longer = let a = h.longer in let b = k.longer in omega arith;
      counts = let a = h.counts in let b = k.counts in omega arith;
    }

-- the same, and no transaction has committed
pub record Hides (view : View) (c d : Content) : Type 0 where
  pub stays : Stays view c d
  pub same_count : commit_count d ≡ commit_count c

pub hides_here : (view : View) (c : Content) → Hides view c c
hides_here view c = record { stays = stays_here view c; same_count = refl }

pub hides_on : (view : View) (c d e : Content) → Hides view c d → Hides view d e → Hides view c e
hides_on view c d e h k = record { stays = stays_on view c d e h.stays k.stays; same_count = k.same_count ∙ h.same_count }

-- another transaction writes
pub stays-write : (view : View) (c : Content) (w : Write) → IsOpen c w.tx → view.tx ≢ Some w.tx → Stays view c (after_write c w)
stays-write view c w is_open other =
    record {
      rows = λ table. rows-after_write c view table w (other_unseen c.fates view w OpenFate is_open refl other);
      values = λ place l. ap (option_and_then (λ (v : Write). v.values)) (get-append_left c.log (w ∷ []) place l);
      longer = let long = length-append c.log (w ∷ []) in omega arith;
      counts = le_refl _;
    }

-- a transaction begins
pub count-begin : (fates : List Fate) → count_by is_commit (fates ++ OpenFate ∷ []) ≡ count_by is_commit fates
count-begin fates =
    let more : count_by is_commit (fates ++ OpenFate ∷ []) ≡ count_by is_commit fates + 0 = sum_by-append (λ f. cond (is_commit f) 1 0) fates (OpenFate ∷ []) in
    omega (arith, more)

pub stays-begin : (view : View) (c : Content) → Stays view c (after_begin c)
stays-begin view c =
    record {
      rows = λ table. rows-same c (after_begin c).fates view table (sees-after_begin c view);
      values = λ place l. refl;
      longer = le_refl _;
      counts = let same = count-begin c.fates in omega arith;
    }

-- one is rolled back
count-rolled : (fates : List Fate) (k : ℕ) → slice_get fates k ≡ Some OpenFate → count_by is_commit (set fates k RolledBack) ≡ count_by is_commit fates
count-rolled fates k is_open =
    let moved = sum_by-set (λ f. cond (is_commit f) 1 0) fates k RolledBack OpenFate (slice_get_within fates k OpenFate is_open) in
    let none : cond (is_commit (get_or fates k OpenFate)) 1 0 ≡ 0 =
    ap (λ (f : Fate). let n : ℕ = cond (is_commit f) 1 0 in n) (get_or_from_slice_get fates k OpenFate OpenFate is_open) in
    omega (arith, moved, none)

pub count-roll_back : (c : Content) (tx : TxId) → IsOpen c tx → commit_count (after_roll_back c tx) ≡ commit_count c
count-roll_back c tx is_open = count-rolled c.fates tx.0 is_open

pub stays-roll_back : (view : View) (c : Content) (tx : TxId) → IsOpen c tx → Stays view c (after_roll_back c tx)
stays-roll_back view c tx is_open =
    record {
      rows = λ table. rows-same c (after_roll_back c tx).fates view table (sees-after_roll_back c view tx is_open);
      values = λ place l. refl;
      longer = le_refl _;
      counts = let same = count-roll_back c tx is_open in omega arith;
    }

pub hides-write : (view : View) (c : Content) (w : Write) → IsOpen c w.tx → view.tx ≢ Some w.tx → Hides view c (after_write c w)
hides-write view c w is_open other = record { stays = stays-write view c w is_open other; same_count = refl }

pub hides-begin : (view : View) (c : Content) → Hides view c (after_begin c)
hides-begin view c = record { stays = stays-begin view c; same_count = count-begin c.fates }

pub hides-roll_back : (view : View) (c : Content) (tx : TxId) → IsOpen c tx → Hides view c (after_roll_back c tx)
hides-roll_back view c tx is_open = record { stays = stays-roll_back view c tx is_open; same_count = count-roll_back c tx is_open }

-- one commits, and counts for later views alone
pub stays-commit : (view : View) (c : Content) (tx : TxId) → IsOpen c tx → view.commits ≤ commit_count c → Stays view c (after_commit c tx)
stays-commit view c tx is_open earlier =
    record {
      rows = λ table. rows-same c (after_commit c tx).fates view table (sees-after_commit c view tx is_open earlier);
      values = λ place l. refl;
      longer = le_refl _;
      counts = let more = count-after_commit c tx is_open in omega arith;
    }

-- so the rows' values stay
same_map : {A B : Type 0} (f g : A → B) (xs : List A) → All (λ x. f x ≡ g x) xs → map f xs ≡ map g xs
same_map f g [] h = refl
same_map f g (x ∷ xs) h =
    let first = h 0 x (omega arith) in
    let rest = same_map f g xs (λ k d l. h (suc k) d (omega arith)) in
    λ i. first i ∷ rest i

pub shown_stays : (view : View) (c d : Content) (k : ℕ) → Stays view c d → rows_shown d view k ≡ rows_shown c view k
shown_stays view c d k h =
    let rows = rows_of c view (record { 0 = k }) in
    ap (map (λ (s : Seen). unwrap_or (values_at d s.place) [])) (h.rows (record { 0 = k }))
    ∙ same_map (λ (s : Seen). unwrap_or (values_at d s.place) []) (λ (s : Seen). unwrap_or (values_at c s.place) []) rows
    (λ i x l.
    let shown = shown_from_rows c view (record { 0 = k }) (get_or rows i x) (Contains-get_or rows i x l) in
    ap (λ (o : Option (List Value)). unwrap_or o []) (h.values (get_or rows i x).place (slice_get_within c.log (get_or rows i x).place shown.write shown.there)))

-- the view is of no transaction that the statement has or begins
pub record IsApart (view : View) (c : Content) (t : Transaction) : Type 0 where
  pub not_its : (tx : TxId) → tx_in t ≡ Some tx.0 → view.tx ≢ Some tx
  pub not_new : view.tx ≢ Some (next_tx c)

-- what an open transaction of others does is hidden from the view, since this content
pub record IsHidden (view : View) (c : Content) (t : OpenTransaction) (e : Database) : Type 0 where
  pub hides : Hides view c e.content
  pub is_open : IsOpen e.content t.tx

lasts-hidden : (view : View) (c : Content) (t : OpenTransaction) → view.tx ≢ Some t.tx → Lasts t (IsHidden view c t)
lasts-hidden view c t other =
    record {
      lock = λ e held h. record { hides = h.hides; is_open = h.is_open };
      write = λ e k row values h. record { hides = hides_on view c e.content _ h.hides (hides-write view e.content (record { tx = t.tx; command = t.command; table = record { 0 = k }; row = row; values = values }) h.is_open other); is_open = h.is_open };
      made = λ e made h. record { hides = h.hides; is_open = h.is_open };
      dropped = λ e k h. record { hides = h.hides; is_open = h.is_open };
    }

-- so it stays, where the view is earlier
abbrev pub StaysDid : View → Content → Effect → Type 0
StaysDid view c d = Stays view c d.db.content

effects-stay : (view : View) (c : Content) (db : Database) (t : OpenTransaction) (around : Surroundings) → view.tx ≢ Some t.tx → view.commits ≤ commit_count c → IsFirm db → IsHidden view c t db
    → Effects db t around (IsHidden view c t) (StaysDid view c)
effects-stay view c db t around other earlier firm here =
    record {
      lasts = lasts-hidden view c t other;
      firm = firm;
      here = here;
      answer = λ e outcome f h. h.hides.stays;
      fail = λ e fault f h. stays_on view c e.content _ h.hides.stays (stays-roll_back view e.content t.tx h.is_open);
      turn = λ ok u tx command snapshot. here.hides.stays;
      commit = let more = here.hides.stays.counts in stays_on view c db.content _ here.hides.stays (stays-commit view db.content t.tx here.is_open (omega arith));
      roll_back = stays_on view c db.content _ here.hides.stays (stays-roll_back view db.content t.tx here.is_open);
      pause = λ k v walk request f h within. h.hides.stays;
    }

-- and if it failed it is hidden
abbrev pub HidesFailed : View → Content → Effect → Type 0
HidesFailed view c d = is_failed d.outcome ≡ true → Hides view c d.db.content

no_failure : {A : Type 0} → false ≡ true → A
no_failure h = absurd (let z : ⊥ = cc in z)

effects-hide : (view : View) (c : Content) (db : Database) (t : OpenTransaction) (around : Surroundings) → view.tx ≢ Some t.tx → IsFirm db → IsHidden view c t db
    → Effects db t around (IsHidden view c t) (HidesFailed view c)
effects-hide view c db t around other firm here =
    record {
      lasts = lasts-hidden view c t other;
      firm = firm;
      here = here;
      answer = λ e outcome f h failed. h.hides;
      fail = λ e fault f h failed. hides_on view c e.content _ h.hides (hides-roll_back view e.content t.tx h.is_open);
      turn = λ ok u tx command snapshot failed. here.hides;
      commit = λ failed. no_failure failed;
      roll_back = λ failed. no_failure failed;
      pause = λ k v walk request f h within failed. h.hides;
    }

fresh_open : (c : Content) → IsOpen (after_begin c) (next_tx c)
fresh_open c = slice_get-append_seam c.fates OpenFate []

hidden-begun : (view : View) (db : Database) → IsHidden view db.content (fresh db.content ReadCommitted false) (begun db)
hidden-begun view db = record { hides = hides-begin view db.content; is_open = fresh_open db.content }

begun-firm : (db : Database) → IsFirm db → IsFirm (begun db)
begun-firm db f = record { fit = f.fit; stay = f.stay }

hidden-open : (view : View) (db : Database) (t : Transaction) (u : OpenTransaction) → t ≡ Open u → IsLive db.content t → IsHidden view db.content u db
hidden-open view db t u e live = record { hides = hides_here view db.content; is_open = live u.tx.0 (ap tx_in e) }

not_own : (view : View) (c : Content) (t : Transaction) (u : OpenTransaction) → t ≡ Open u → IsApart view c t → view.tx ≢ Some u.tx
not_own view c t u e apart = apart.not_its u.tx (ap tx_in e)

pub stays-run : (view : View) (db : Database) (t : Transaction) (statement : Option Progress) (around : Surroundings) (stmt : StmtTree) → IsLive db.content t → IsFirm db
    → ((p : Progress) → statement ≡ Some p → p.table.0 < length db.catalog.tables) → IsApart view db.content t → view.commits ≤ commit_count db.content
    → StaysDid view db.content (run_stmt db t statement around stmt)
stays-run view db t statement around stmt live firm within apart earlier =
    run_effects true db t statement around stmt (IsHidden view db.content) (StaysDid view db.content) (λ e. refl) within
    (λ u e. effects-stay view db.content db u around (not_own view db.content t u e apart) earlier firm (hidden-open view db t u e live))
    (λ e. (
      stays_here view db.content,
      λ level explicit. stays-begin view db.content,
      effects-stay view db.content (begun db) (fresh db.content ReadCommitted false) around apart.not_new earlier (begun-firm db firm) (hidden-begun view db),
    ))
    (λ e. (stays_here view db.content, stays_here view db.content))

pub hides-run : (view : View) (db : Database) (t : Transaction) (statement : Option Progress) (around : Surroundings) (stmt : StmtTree) → IsLive db.content t → IsFirm db
    → ((p : Progress) → statement ≡ Some p → p.table.0 < length db.catalog.tables) → IsApart view db.content t
    → HidesFailed view db.content (run_stmt db t statement around stmt)
hides-run view db t statement around stmt live firm within apart =
    run_effects true db t statement around stmt (IsHidden view db.content) (HidesFailed view db.content) (λ e. refl) within
    (λ u e. effects-hide view db.content db u around (not_own view db.content t u e apart) firm (hidden-open view db t u e live))
    (λ e. (
      λ failed. hides_here view db.content,
      λ level explicit failed. hides-begin view db.content,
      effects-hide view db.content (begun db) (fresh db.content ReadCommitted false) around apart.not_new (begun-firm db firm) (hidden-begun view db),
    ))
    (λ e. (λ failed. hides_here view db.content, λ failed. hides_here view db.content))

-- the end of a block
stays-closes : (view : View) (c : Content) (d : Effect) (u : Transaction) → d.transaction ≡ u → IsLive d.db.content d.transaction → view.commits ≤ commit_count c → Stays view c d.db.content
    → Stays view c (closed_at_end d u).db.content
stays-closes view c d Closed e live earlier h = h
stays-closes view c d Aborted e live earlier h = h
stays-closes view c d (Open u) e live earlier h = at_test u.explicit where
  closes : Effect
  closes = record { db = committed d.db u.tx; transaction = Closed; statement = None; outcome = d.outcome }

  at_test : (b : Bool) → (let x : Effect = if b then d else closes in Stays view c x.db.content)
  at_test true = h
  at_test false = let counts = h.counts in stays_on view c d.db.content (after_commit d.db.content u.tx) h (stays-commit view d.db.content u.tx (live u.tx.0 (ap tx_in e)) (omega arith))

stays-left : (view : View) (db : Database) (t : Transaction) → IsLive db.content t → Stays view db.content (left_behind db t).content
stays-left view db Closed live = stays_here view db.content
stays-left view db Aborted live = stays_here view db.content
stays-left view db (Open t) live = stays-roll_back view db.content t.tx (live t.tx.0 refl)

-- an event of another session stays unseen by an earlier view
pub stays-next : (view : View) (blocks : Blocks) (mode : Mode) (m : Machine) (event : Event) (n : Next) → IsSoundMachine m → next blocks mode m event ≡ Ok n
    → ((s : Session) → slice_get m.sessions (session_of event) ≡ Some s → IsApart view m.db.content s.transaction) → view.commits ≤ commit_count m.db.content
    → Stays view m.db.content n.machine.db.content
stays-next view blocks mode m event n sound h apart earlier =
    event_cases blocks mode m event n (λ x. Stays view m.db.content x.machine.db.content) h
    (λ s place at idle. stays_here view m.db.content)
    (λ s place count stmt at due.
    let i = session_of event in
    let left = sound_ran m i s stmt sound at in
    let stays = stays-run view m.db s.transaction s.statement (around m i s) stmt (sound_live m.db m.sessions m.events i s sound at) (sound_firm m.db m.sessions m.events sound)
    (sound_within m.db m.sessions m.events i s sound at) (apart s at) earlier in
    after_cases m i place count (ran m i s stmt) (λ x. Stays view m.db.content x.machine.db.content) stays (λ p. stays)
    (stays-closes view m.db.content (ran m i s stmt) (ran m i s stmt).transaction refl left.0.own earlier stays))
    (λ s at. stays-left view m.db s.transaction (sound_live m.db m.sessions m.events (session_of event) s sound at))

-- the view of one session's transaction is apart from another session
pub apart_sessions : (m : Machine) (i j : ℕ) (s u : Session) (view : View) → IsSoundMachine m → slice_get m.sessions i ≡ Some s → slice_get m.sessions j ≡ Some u → i ≢ j
    → ((tx : TxId) → view.tx ≡ Some tx → tx_in s.transaction ≡ Some tx.0) → IsApart view m.db.content u.transaction
apart_sessions m i j s u view sound at_i at_j ne own =
    record {
      not_its = λ tx h e. ne (sound.apart i j tx.0 (ap tx_of at_i ∙ own tx e) (ap tx_of at_j ∙ h));
      not_new = λ e.
          let w = slice_get_within m.db.content.fates (length m.db.content.fates) OpenFate (sound.opened i (length m.db.content.fates) (ap tx_of at_i ∙ own (next_tx m.db.content) e)) in
          omega arith;
    }
