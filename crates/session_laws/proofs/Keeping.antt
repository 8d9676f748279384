-- A statement leaves the open transactions of other sessions open, rows that fit their tables, and itself where its table is there.
use Rattle.std.proofs.Common.{◌≡◌, ◌≢◌, ℕ, ◌≤◌, ◌<◌, ◌+◌, Bool, true, false, List, [], ◌∷◌, ◌++◌, length, length-append, refl, ap, sym, le_refl, ◌∙◌, subst, arith, inl, inr, ◌⊎◌}
use Rattle.std.specs.Prelude.{Option, Some, None, slice_get, if◌then◌else◌}
use Rattle.std.proofs.lemmas.Option.{slice_get_within, same_Some}
use Rattle.sql_trees.specs.declared.stmt.Level.{Level}
use Rattle.sql_trees.specs.declared.stmt.Level.TheVariants.{ReadCommitted}
use Rattle.sql_trees.specs.Statements.{StmtTree}
use Rattle.row_versions.specs.declared.write.Fate.{Fate}
use Rattle.row_versions.specs.declared.write.Fate.TheVariants.{RolledBack, Committed, Open as OpenFate}
use Rattle.row_versions.specs.Log.{Content, commit_count, after_end, after_begin, after_roll_back}
use Rattle.session_machine.specs.declared.session.OpenTransaction.{OpenTransaction}
use Rattle.session_machine.specs.declared.session.Transaction.{Transaction}
use Rattle.session_machine.specs.declared.session.Transaction.TheVariants.{Closed, Open, Aborted}
use Rattle.session_machine.specs.declared.session.Progress.{Progress}
use Rattle.session_machine.specs.Tables.{Database}
use Rattle.session_machine.specs.Transactions.{fresh, started}
use Rattle.session_machine.specs.Statements.{Surroundings, Effect}
use Rattle.session_machine.specs.Running.{run_stmt}
use Rattle.session_machine.specs.Inner.Statements.{run_piecewise, begun, after_failure, moved_on}
use Rattle.session_machine.proofs.ByKind.{runs_by_kind}
use Rattle.session_machine.specs.Sound.{tx_in, command_in}
use Rattle.session_laws.proofs.Lists.{slice_get-set_other, slice_get-append_left, slice_get-append_seam}
use Rattle.session_laws.proofs.Writing.{Lasts}
use Rattle.session_laws.proofs.Effects.{IsFirm, Effects, after_open, after_on, after_closed, after_aborted, found_within}

-- the transaction, if there is one, is open
abbrev pub IsLive : Content → Transaction → Type 0
IsLive c t = (n : ℕ) → tx_in t ≡ Some n → slice_get c.fates n ≡ Some OpenFate

-- what is left of a transaction is open and no one else's, and the others are as they were
pub record Keeps (c : Content) (t : Transaction) (d : Content) (u : Transaction) : Type 0 where
  pub own : IsLive d u
  pub others : (n : ℕ) → tx_in t ≢ Some n → slice_get c.fates n ≡ Some OpenFate → slice_get d.fates n ≡ Some OpenFate
  pub same : (n : ℕ) → tx_in u ≡ Some n → tx_in t ≡ Some n
  pub command : command_in u ≤ command_in t + 1

-- the same, where what is left may be new
pub record Leaves (c : Content) (t : Transaction) (d : Content) (u : Transaction) : Type 0 where
  pub own : IsLive d u
  pub others : (n : ℕ) → tx_in t ≢ Some n → slice_get c.fates n ≡ Some OpenFate → slice_get d.fates n ≡ Some OpenFate
  pub same_or_new : (n : ℕ) → tx_in u ≡ Some n → (tx_in t ≡ Some n) ⊎ (n ≡ length c.fates)
  pub command : command_in u ≤ command_in t + 1

pub leaves : (c : Content) (t : Transaction) (d : Content) (u : Transaction) → Keeps c t d u → Leaves c t d u
leaves c t d u k = record { own = k.own; others = k.others; same_or_new = λ n h. inl (k.same n h); command = k.command }

pub none_some : {n : ℕ} → None ≡ Some n → ⊥
none_some h = cc

-- a transaction ends
pub keeps-ended : (c : Content) (t : OpenTransaction) (fate : Fate) (u : Transaction) → tx_in u ≡ None → command_in u ≡ 0 → Keeps c (Open t) (after_end c t.tx fate) u
keeps-ended c t fate u e f =
    record {
      own = λ n h. absurd (none_some (sym e ∙ h));
      others = λ n ne h. slice_get-set_other c.fates t.tx.0 n fate (λ same. ne (ap Some (sym same))) ∙ h;
      same = λ n h. absurd (none_some (sym e ∙ h));
      command = omega arith;
    }

-- a transaction goes on over the same fates
pub keeps-on : (c d : Content) (t u : OpenTransaction) → IsLive c (Open t) → d.fates ≡ c.fates → u.tx.0 ≡ t.tx.0 → u.command ≤ t.command + 1 → Keeps c (Open t) d (Open u)
keeps-on c d t u live e f g =
    record {
      own = λ n h. subst (λ fs. slice_get fs n ≡ Some OpenFate) (sym e) (live n (ap Some (sym f) ∙ h));
      others = λ n ne h. subst (λ fs. slice_get fs n ≡ Some OpenFate) (sym e) h;
      same = λ n h. ap Some (sym f) ∙ h;
      command = g;
    }

-- a failed statement, after others of the same fates
pub keeps-fails : (c d : Content) (t : OpenTransaction) → d.fates ≡ c.fates → Keeps c (Open t) (after_roll_back d t.tx) (after_failure t)
keeps-fails c d t same =
    record {
      own = λ n h. absurd (none_some (sym (none t.explicit) ∙ h));
      others = λ n ne h. slice_get-set_other d.fates t.tx.0 n RolledBack (λ its. ne (ap Some (sym its))) ∙ (ap (λ (fs : List Fate). slice_get fs n) same ∙ h);
      same = λ n h. absurd (none_some (sym (none t.explicit) ∙ h));
      command = let z : command_in (after_failure t) ≡ 0 = no_command t.explicit in omega arith;
    } where
      none : (b : Bool) → tx_in (if b then Aborted else Closed) ≡ None
      none true = refl
      none false = refl

      no_command : (b : Bool) → command_in (if b then Aborted else Closed) ≡ 0
      no_command true = refl
      no_command false = refl

-- a query that left the fates as they were
pub keeps-answers : (c d : Content) (t : OpenTransaction) → IsLive c (Open t) → d.fates ≡ c.fates → Keeps c (Open t) d (Open (moved_on c t))
keeps-answers c d t live same = keeps-on c d t (moved_on c t) live same refl (le_refl _)

-- nothing happens
pub kept-none : (c : Content) (t u : Transaction) → tx_in u ≡ None → command_in u ≡ 0 → Keeps c t c u
kept-none c t u e f =
    record { own = λ n h. absurd (none_some (sym e ∙ h)); others = λ n ne h. h; same = λ n h. absurd (none_some (sym e ∙ h)); command = omega arith }

fresh-live : (c : Content) (level : Level) (explicit : Bool) → IsLive (after_begin c) (Open (fresh c level explicit))
fresh-live c level explicit n h =
    let e : length c.fates ≡ n = cc in subst (λ k. slice_get (c.fates ++ OpenFate ∷ []) k ≡ Some OpenFate) e (slice_get-append_seam c.fates OpenFate [])

-- a transaction begins, and goes on or ends
leaves-begun : (c : Content) (level : Level) (explicit : Bool) (d : Content) (u : Transaction) → Keeps (after_begin c) (Open (fresh c level explicit)) d u → Leaves c Closed d u
leaves-begun c level explicit d u k =
    record {
      own = k.own;
      others = λ n ne h. k.others n (λ e. is_new n (some_same e) h) (slice_get-append_left c.fates (OpenFate ∷ []) n OpenFate h);
      same_or_new = λ n h. inr (sym (some_same (k.same n h)));
      command = k.command;
    } where
      some_same : {a b : ℕ} → Some a ≡ Some b → a ≡ b
      some_same h = cc

      is_new : (n : ℕ) → length c.fates ≡ n → slice_get c.fates n ≡ Some OpenFate → ⊥
      is_new n e h = let w = slice_get_within c.fates n OpenFate h in omega arith

leaves-opened : (db : Database) (level : Level) (explicit : Bool) → Leaves db.content Closed (after_begin db.content) (Open (fresh db.content level explicit))
leaves-opened db level explicit =
    let t = fresh db.content level explicit in
    leaves-begun db.content level explicit (after_begin db.content) (Open t)
    (keeps-on (after_begin db.content) (after_begin db.content) t t (fresh-live db.content level explicit) refl refl (omega arith))

-- what else a statement leaves: firm rows, no table less, and where it is in the middle of its targets its table, and a wait that begins now
pub record IsLeft (db : Database) (number : ℕ) (d : Effect) : Type 0 where
  pub firm : IsFirm d.db
  pub longer : length db.catalog.tables ≤ length d.db.catalog.tables
  pub within : (p : Progress) → d.statement ≡ Some p → p.table.0 < length d.db.catalog.tables
  pub now : (p : Progress) → d.statement ≡ Some p → p.wait.number ≡ number

no_progress : (p : Progress) → None ≡ Some p → ⊥
no_progress p h = cc

-- no statement is in the middle of its targets
left-over : (db : Database) (number : ℕ) (d : Effect) → IsFirm d.db → length db.catalog.tables ≤ length d.db.catalog.tables → d.statement ≡ None → IsLeft db number d
left-over db number d firm longer none =
    record { firm = firm; longer = longer; within = λ p e. absurd (no_progress p (sym none ∙ e)); now = λ p e. absurd (no_progress p (sym none ∙ e)) }

-- the same transactions are open, and no table less
pub record IsGrown (db e : Database) : Type 0 where
  pub same : e.content.fates ≡ db.content.fates
  pub longer : length db.catalog.tables ≤ length e.catalog.tables

abbrev pub KeptAndLeft : Database → OpenTransaction → ℕ → Effect → Type 0
KeptAndLeft db t number d = Keeps db.content (Open t) d.db.content d.transaction × IsLeft db number d

lasts-grown : (db : Database) (t : OpenTransaction) → Lasts t (IsGrown db)
lasts-grown db t =
    record {
      lock = λ e held h. record { same = h.same; longer = h.longer };
      write = λ e k row values h. record { same = h.same; longer = h.longer };
      made = λ e made h.
          let more = length-append e.catalog.tables (record { made = made; by = t.tx } ∷ []) in
          let l = h.longer in
          record { same = h.same; longer = omega arith };
      dropped = λ e k h. record { same = h.same; longer = h.longer };
    }

pub effects-kept : (db : Database) (t : OpenTransaction) (around : Surroundings) → IsLive db.content (Open t) → IsFirm db → Effects db t around (IsGrown db) (KeptAndLeft db t around.number)
effects-kept db t around live firm =
    record {
      lasts = lasts-grown db t;
      firm = firm;
      here = record { same = refl; longer = le_refl _ };
      answer = λ e outcome f h. (keeps-answers db.content e.content t live h.same, left-over db around.number _ (record { fit = f.fit; stay = f.stay }) h.longer refl);
      fail = λ e fault f h. (keeps-fails db.content e.content t h.same, left-over db around.number _ (record { fit = f.fit; stay = f.stay }) h.longer refl);
      turn = λ ok u tx command snapshot.
          let c : u.command ≡ t.command = command in
          (keeps-on db.content db.content t u live refl (ap (λ x. x.0) tx) (omega arith), left-over db around.number _ firm (le_refl _) refl);
      commit = (keeps-ended db.content t (Committed (commit_count db.content)) Closed refl refl, left-over db around.number _ (record { fit = firm.fit; stay = firm.stay }) (le_refl _) refl);
      roll_back = (keeps-ended db.content t RolledBack Closed refl refl, left-over db around.number _ (record { fit = firm.fit; stay = firm.stay }) (le_refl _) refl);
      pause = λ k view walk request f h within. (
        keeps-on db.content walk.db.content t (started db.content t) live h.same refl (let z : t.command ≤ t.command + 1 = omega arith in z),
        record {
          firm = f;
          longer = h.longer;
          within = λ p e. let s = same_Some _ p e in subst (λ (x : Progress). x.table.0 < length walk.db.catalog.tables) s within;
          now = λ p e. let s = same_Some _ p e in ap (λ (x : Progress). x.wait.number) (sym s);
        },
      );
    }

abbrev pub Leaving : Database → Transaction → ℕ → Effect → Type 0
Leaving db t number d = Leaves db.content t d.db.content d.transaction × IsLeft db number d

begun-firm : (db : Database) → IsFirm db → IsFirm (begun db)
begun-firm db f = record { fit = f.fit; stay = f.stay }

leaving_by_kind : (db : Database) (t : Transaction) (statement : Option Progress) (around : Surroundings) (stmt : StmtTree) → IsLive db.content t → IsFirm db
    → ((p : Progress) → statement ≡ Some p → p.table.0 < length db.catalog.tables) → Leaving db t around.number (run_piecewise db t statement around stmt)
leaving_by_kind db Closed statement around stmt live firm within =
    after_closed db around (Leaving db Closed around.number) stmt
    (leaves _ _ _ _ (kept-none db.content Closed Closed refl refl), left-over db around.number _ firm (le_refl _) refl)
    (λ level explicit. (leaves-opened db level explicit, left-over db around.number _ (begun-firm db firm) (le_refl _) refl))
    (λ none.
    let t = fresh db.content ReadCommitted false in
    let live = fresh-live db.content ReadCommitted false in
    let k = after_open true (begun db) t around (IsGrown (begun db)) (KeptAndLeft (begun db) t around.number) (effects-kept (begun db) t around live (begun-firm db firm)) stmt (λ e. refl) in
    (leaves-begun db.content ReadCommitted false _ _ k.0, record { firm = k.1.firm; longer = k.1.longer; within = k.1.within; now = k.1.now }))
leaving_by_kind db (Open t) None around stmt live firm within =
    let k = after_open true db t around (IsGrown db) (KeptAndLeft db t around.number) (effects-kept db t around live firm) stmt (λ e. refl) in
    (leaves _ _ _ _ k.0, k.1)
leaving_by_kind db (Open t) (Some p) around stmt live firm within =
    let table = found_within db.catalog.tables p.table.0 (within p refl) in
    let k = after_on true db t around (IsGrown db) (KeptAndLeft db t around.number) (effects-kept db t around live firm) p table.0 table.1 stmt (λ e. refl) in
    (leaves _ _ _ _ k.0, k.1)
leaving_by_kind db Aborted statement around stmt live firm within =
    after_aborted db (Leaving db Aborted around.number)
    (leaves _ _ _ _ (kept-none db.content Aborted Closed refl refl), left-over db around.number _ firm (le_refl _) refl)
    (leaves _ _ _ _ (kept-none db.content Aborted Aborted refl refl), left-over db around.number _ firm (le_refl _) refl)
    stmt

-- a statement keeps the open transactions of others open, and its own if it has one
pub leaving-run : (db : Database) (t : Transaction) (statement : Option Progress) (around : Surroundings) (stmt : StmtTree) → IsLive db.content t → IsFirm db
    → ((p : Progress) → statement ≡ Some p → p.table.0 < length db.catalog.tables) → Leaving db t around.number (run_stmt db t statement around stmt)
leaving-run db t statement around stmt live firm within =
    subst (Leaving db t around.number) (sym (runs_by_kind db t statement around stmt)) (leaving_by_kind db t statement around stmt live firm within)
