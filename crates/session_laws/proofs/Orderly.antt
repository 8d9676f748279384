-- What holds of the writes and commits of every state that the machine comes to.
use Rattle.std.proofs.Common.{◌≡◌, ℕ, zero, suc, ◌<◌, ◌≤◌, ◌+◌, Bool, true, false, List, [], ◌∷◌, ◌++◌, length, length-append, refl, ap, sym, ◌∙◌, subst, arith, inl, inr, ◌⊎◌, ⊎_elim}
use Rattle.std.specs.Prelude.{Option, Some, None, slice_get, if◌then◌else◌}
use Rattle.std.proofs.lemmas.Option.{slice_get_within}
use Rattle.sql_trees.specs.declared.stmt.Level.{Level}
use Rattle.sql_trees.specs.declared.stmt.Level.TheVariants.{ReadCommitted}
use Rattle.sql_trees.specs.Statements.{StmtTree}
use Rattle.row_versions.specs.declared.names.TxId.{TxId}
use Rattle.row_versions.specs.declared.write.Write.{Write}
use Rattle.row_versions.specs.declared.write.View.{View}
use Rattle.row_versions.specs.declared.write.Fate.{Fate}
use Rattle.row_versions.specs.declared.write.Fate.TheVariants.{Committed, Open as OpenFate}
use Rattle.row_versions.specs.Log.{Content, IsOpen}
use Rattle.session_machine.specs.declared.session.OpenTransaction.{OpenTransaction}
use Rattle.session_machine.specs.declared.session.Transaction.{Transaction}
use Rattle.session_machine.specs.declared.session.Transaction.TheVariants.{Closed, Open, Aborted}
use Rattle.session_machine.specs.declared.session.Progress.{Progress}
use Rattle.session_machine.specs.Tables.{Database, Table, Dropped}
use Rattle.session_machine.specs.Transactions.{fresh, committed}
use Rattle.session_machine.specs.Inner.Statements.{begun, after_failure}
use Rattle.session_machine.specs.Statements.{Surroundings, Effect, turns}
use Rattle.session_machine.specs.Running.{run_stmt}
use Rattle.session_machine.specs.Machine.{closed_at_end}
use Rattle.session_machine.specs.Inner.Steps.{around}
use Rattle.session_machine.specs.Sound.{tx_in}
use Rattle.session_laws.proofs.Lists.{slice_get-append_seam}
use Rattle.session_laws.proofs.Writing.{Lasts}
use Rattle.session_laws.proofs.Effects.{IsFirm, EffectsIf, may_turn, run_effects}
use Rattle.session_laws.proofs.Keeping.{IsLive}
use Rattle.session_laws.proofs.Staying.{hides-begin}
use Rattle.session_laws.proofs.Growing.{Numbered, Grows, grows_here, grows_roll_back, grows_commit, lasts-grows}

-- each write, table and drop is of a transaction that has begun, and commits are numbered below their count
pub record IsKnown (db : Database) : Type 0 where
  pub numbered : Numbered db.content
  pub writes : (place : ℕ) (w : Write) → slice_get db.content.log place ≡ Some w → w.tx.0 < length db.content.fates
  pub tables : (k : ℕ) (x : Table) → slice_get db.catalog.tables k ≡ Some x → x.by.0 < length db.content.fates
  pub drops : (k : ℕ) (x : Dropped) → slice_get db.catalog.drops k ≡ Some x → x.by.0 < length db.content.fates

some_same : {a b : ℕ} → Some a ≡ Some b → a ≡ b
some_same h = cc

pub none_is : {a : ℕ} → None ≡ Some a → ⊥
none_is h = cc

pub known_grows : (t : OpenTransaction) (db e : Database) → IsOpen db.content t.tx → IsKnown db → Grows t db e → IsKnown e
known_grows t db e is_open known g =
    let own = slice_get_within db.content.fates t.tx.0 OpenFate is_open in
    let begun = g.begun in
    record {
      numbered = g.numbered known.numbered;
      writes = λ p w at. ⊎_elim (λ x. let l = known.writes p w x in omega arith) (λ x. let s = x.0 in omega arith) (g.writes p w at);
      tables = λ k x at. ⊎_elim (λ y. let l = known.tables k x y in omega arith) (λ s. omega arith) (g.tables k x at);
      drops = λ k x at. ⊎_elim (λ y. let l = known.drops k x y in omega arith) (λ s. omega arith) (g.drops k x at);
    }

-- a transaction begins
known_begun : (db : Database) → IsKnown db → IsKnown (begun db)
known_begun db known =
    let long = length-append db.content.fates (OpenFate ∷ []) in
    record {
      numbered = λ n k at. numbered n k at;
      writes = λ p w at. let l = known.writes p w at in omega arith;
      tables = λ k x at. let l = known.tables k x at in omega arith;
      drops = λ k x at. let l = known.drops k x at in omega arith;
    } where
      first_view : View
      first_view = record { tx = None; commits = 0; command = 0 }

      open_one : {k : ℕ} → Some OpenFate ≡ Some (Committed k) → ⊥
      open_one h = cc

      none_one : {k : ℕ} → None ≡ Some (Committed k) → ⊥
      none_one h = cc

      before : (fates : List Fate) (n k : ℕ) → slice_get (fates ++ OpenFate ∷ []) n ≡ Some (Committed k) → slice_get fates n ≡ Some (Committed k)
      before [] zero k h = absurd (open_one h)
      before [] (suc n) k h = h
      before (f ∷ fates) zero k h = h
      before (f ∷ fates) (suc n) k h = before fates n k h

      numbered : Numbered (begun db).content
      numbered n k at =
          let l = known.numbered n k (before db.content.fates n k at) in
          let same = (hides-begin first_view db.content).same_count in
          omega arith

fresh_is_open : (c : Content) → slice_get (c.fates ++ OpenFate ∷ []) (length c.fates) ≡ Some OpenFate
fresh_is_open c = slice_get-append_seam c.fates OpenFate []

-- how many of the transaction's commands have written: in the middle of a statement also that one
abbrev pub command_now : Transaction → Option Progress → ℕ
command_now Closed p = 0
command_now Aborted p = 0
command_now (Open t) None = t.command
command_now (Open t) (Some p) = t.command + 1

-- the transaction's writes are of commands up to the present one
abbrev pub IsBehind : Content → Transaction → Option Progress → Type 0
IsBehind c t statement = (place : ℕ) (w : Write) → slice_get c.log place ≡ Some w → tx_in t ≡ Some w.tx.0 → w.command < command_now t statement

-- what an open transaction has come to in its present command, since this database
record Since (db : Database) (t : OpenTransaction) (e : Database) : Type 0 where
  pub known : IsKnown e
  pub is_open : IsOpen e.content t.tx
  pub behind : (place : ℕ) (w : Write) → slice_get e.content.log place ≡ Some w → w.tx.0 ≡ t.tx.0 → w.command < t.command + 1
  pub writes : (place : ℕ) (w : Write) → slice_get e.content.log place ≡ Some w → (slice_get db.content.log place ≡ Some w) ⊎ (w.tx.0 ≡ t.tx.0)

since_on : (db : Database) (t : OpenTransaction) (d e : Database) → Since db t d → IsOpen e.content t.tx → Grows t d e → Since db t e
since_on db t d e h is_open g =
    record {
      known = known_grows t d e h.is_open h.known g;
      is_open = is_open;
      behind = λ p w at its. ⊎_elim (λ x. h.behind p w x its) (λ x. let c = x.1 in omega arith) (g.writes p w at);
      writes = λ p w at. ⊎_elim (λ x. h.writes p w x) (λ x. inr x.0) (g.writes p w at);
    }

lasts-since : (db : Database) (t : OpenTransaction) → Lasts t (Since db t)
lasts-since db t =
    record {
      lock = λ e held h. since_on db t e _ h h.is_open ((lasts-grows t e).lock e held (grows_here t e));
      write = λ e k row values h. since_on db t e _ h h.is_open ((lasts-grows t e).write e k row values (grows_here t e));
      made = λ e made h. since_on db t e _ h h.is_open ((lasts-grows t e).made e made (grows_here t e));
      dropped = λ e k h. since_on db t e _ h h.is_open ((lasts-grows t e).dropped e k (grows_here t e));
    }

-- what a statement of the transaction leaves: the writes that are new are its own, or those of the transaction that it began
pub record Adds (db : Database) (t : Transaction) (e : Database) (u : Transaction) (statement : Option Progress) : Type 0 where
  pub known : IsKnown e
  pub behind : IsBehind e.content u statement
  pub writes : (place : ℕ) (w : Write) → slice_get e.content.log place ≡ Some w
      → (slice_get db.content.log place ≡ Some w) ⊎ ((tx_in t ≡ Some w.tx.0) ⊎ (length db.content.fates ≤ w.tx.0))

abbrev AddsDid : Database → Transaction → Effect → Type 0
AddsDid db t d = Adds db t d.db d.transaction d.statement

-- it has begun, or begins
abbrev Owns : Database → Transaction → OpenTransaction → Type 0
Owns db t u = (n : ℕ) → n ≡ u.tx.0 → (tx_in t ≡ Some n) ⊎ (length db.content.fates ≤ n)

since_writes : (db : Database) (t : Transaction) (u : OpenTransaction) (e : Database) → Owns db t u → Since db u e → (place : ℕ) (w : Write) → slice_get e.content.log place ≡ Some w
    → (slice_get db.content.log place ≡ Some w) ⊎ ((tx_in t ≡ Some w.tx.0) ⊎ (length db.content.fates ≤ w.tx.0))
since_writes db t u e owns h p w at = ⊎_elim inl (λ x. inr (owns w.tx.0 x)) (h.writes p w at)

adds_over : (db : Database) (t : Transaction) (u : OpenTransaction) (e d : Database) (v : Transaction) (p : Option Progress) → Owns db t u → Since db u e → IsKnown d → d.content.log ≡ e.content.log → tx_in v ≡ None
    → Adds db t d v p
adds_over db t u e d v p owns h known same none =
    record {
      known = known;
      behind = λ k w at its. absurd (none_is (sym none ∙ its));
      writes = λ k w at. since_writes db t u e owns h k w (ap (λ (l : List Write). slice_get l k) (sym same) ∙ at);
    }

failed_none : (b : Bool) → tx_in (if b then Aborted else Closed) ≡ None
failed_none true = refl
failed_none false = refl

effects-adds : (may : Bool) (db : Database) (t : Transaction) (e : Database) (u : OpenTransaction) (around : Surroundings) → Owns db t u → IsFirm e → Since db u e
    → (may ≡ true → (place : ℕ) (w : Write) → slice_get e.content.log place ≡ Some w → w.tx.0 ≡ u.tx.0 → w.command < u.command)
    → EffectsIf may e u around (Since db u) (AddsDid db t)
effects-adds may db t e u around owns firm here strict =
    record {
      lasts = lasts-since db u;
      firm = firm;
      here = here;
      answer = λ d outcome f h. record { known = h.known; behind = λ k w at its. h.behind k w at (sym (some_same its)); writes = since_writes db t u d owns h };
      fail = λ d fault f h. adds_over db t u d _ (after_failure u) None owns h (known_grows u d _ h.is_open h.known (grows_roll_back u d h.is_open)) refl (failed_none u.explicit);
      turn = λ ok v tx command snapshot. record {
        known = here.known;
        behind = λ k w at its.
            let c : v.command ≡ u.command = command in
            let n : u.tx.0 ≡ v.tx.0 = ap (λ (x : TxId). x.0) (sym tx) in
            let l : w.command < u.command = strict ok k w at (sym (n ∙ some_same its)) in
            (let z : w.command < v.command = omega arith in z);
        writes = since_writes db t u e owns here;
      };
      commit = adds_over db t u e _ Closed None owns here (known_grows u e _ here.is_open here.known (grows_commit u e here.is_open)) refl refl;
      roll_back = adds_over db t u e _ Closed None owns here (known_grows u e _ here.is_open here.known (grows_roll_back u e here.is_open)) refl refl;
      pause = λ k view walk request f h within. record { known = h.known; behind = λ k w at its. h.behind k w at (sym (some_same its)); writes = since_writes db t u walk.db owns h };
    }

pub adds_none : (db : Database) (t u : Transaction) → tx_in u ≡ None → IsKnown db → Adds db t db u None
adds_none db t u e known = record { known = known; behind = λ p w at its. absurd (none_is (sym e ∙ its)); writes = λ p w at. inl at }

-- a transaction that has just begun has written nothing
none_begun : (db : Database) (level : Level) (explicit : Bool) → IsKnown db → (place : ℕ) (w : Write) → slice_get db.content.log place ≡ Some w
    → w.tx.0 ≡ (fresh db.content level explicit).tx.0 → ⊥
none_begun db level explicit known p w at its = let l = known.writes p w at in omega arith

-- no statement that may change its transaction alone is in the middle of its targets
abbrev pub IsTurning : Option Progress → StmtTree → Type 0
IsTurning statement stmt = may_turn stmt ≡ true → statement ≡ None

weaker : (t : OpenTransaction) (p : Option Progress) (k : ℕ) → k < command_now (Open t) p → k < t.command + 1
weaker t None k h = omega arith
weaker t (Some p) k h = h

pub adds_run : (db : Database) (t : Transaction) (statement : Option Progress) (around : Surroundings) (stmt : StmtTree) → IsLive db.content t → IsFirm db
    → ((p : Progress) → statement ≡ Some p → p.table.0 < length db.catalog.tables) → IsKnown db → IsBehind db.content t statement → IsTurning statement stmt
    → AddsDid db t (run_stmt db t statement around stmt)
adds_run db t statement around stmt live firm within known behind turning =
    run_effects (may_turn stmt) db t statement around stmt (Since db) (AddsDid db t) (λ e. e) within opens closes (λ e. (adds_none db t Closed refl known, adds_none db t Aborted refl known)) where
      own : (u : OpenTransaction) → t ≡ Open u → (n : ℕ) → n ≡ u.tx.0 → tx_in t ≡ Some n
      own u e n h = ap tx_in e ∙ ap Some (sym h)

      its : (u : OpenTransaction) → t ≡ Open u → (place : ℕ) (w : Write) → slice_get db.content.log place ≡ Some w → w.tx.0 ≡ u.tx.0 → w.command < command_now (Open u) statement
      its u e place w at h = subst (λ x. w.command < command_now x statement) e (behind place w at (own u e w.tx.0 h))

      opens : (u : OpenTransaction) → t ≡ Open u → EffectsIf (may_turn stmt) db u around (Since db u) (AddsDid db t)
      opens u e =
          effects-adds (may_turn stmt) db t db u around (λ n h. inl (own u e n h)) firm
          (record { known = known; is_open = live u.tx.0 (ap tx_in e); behind = λ p w at h. weaker u statement w.command (its u e p w at h); writes = λ p w at. inl at })
          (λ ok p w at h. subst (λ x. w.command < command_now (Open u) x) (turning ok) (its u e p w at h))

      first : OpenTransaction
      first = fresh db.content ReadCommitted false

      later : Owns db t first
      later n h = inr (let z : length db.content.fates ≤ n = omega arith in z)

      starts : (level : Level) (explicit : Bool) → AddsDid db t (turns (begun db) (Open (fresh db.content level explicit)))
      starts level explicit = record { known = known_begun db known; behind = λ p w at h. absurd (none_begun db level explicit known p w at (sym (some_same h))); writes = λ p w at. inl at }

      begins : EffectsIf (may_turn stmt) (begun db) first around (Since db first) (AddsDid db t)
      begins =
          effects-adds (may_turn stmt) db t (begun db) first around later (record { fit = firm.fit; stay = firm.stay })
          (record { known = known_begun db known; is_open = fresh_is_open db.content; behind = λ p w at h. absurd (none_begun db ReadCommitted false known p w at h); writes = λ p w at. inl at })
          (λ ok p w at h. absurd (none_begun db ReadCommitted false known p w at h))

      closes : t ≡ Closed → AddsDid db t (turns db Closed) × ((level : Level) (explicit : Bool) → AddsDid db t (turns (begun db) (Open (fresh db.content level explicit))))
          × EffectsIf (may_turn stmt) (begun db) first around (Since db first) (AddsDid db t)
      closes e = (adds_none db t Closed refl known, starts, begins)

-- the end of a block
pub adds_closes : (db : Database) (t : Transaction) (d : Effect) (u : Transaction) → d.transaction ≡ u → d.statement ≡ None → IsLive d.db.content d.transaction → AddsDid db t d
    → (let e = closed_at_end d u in Adds db t e.db e.transaction None)
adds_closes db t d Closed e over live h = record { known = h.known; behind = λ p w at its. absurd (none_is (sym (ap tx_in e) ∙ its)); writes = h.writes }
adds_closes db t d Aborted e over live h = record { known = h.known; behind = λ p w at its. absurd (none_is (sym (ap tx_in e) ∙ its)); writes = h.writes }
adds_closes db t d (Open u) e over live h = at_test u.explicit where
  shuts : Effect
  shuts = record { db = committed d.db u.tx; transaction = Closed; statement = None; outcome = d.outcome }

  at_test : (b : Bool) → (let x : Effect = if b then d else shuts in Adds db t x.db x.transaction None)
  at_test true = subst (Adds db t d.db d.transaction) over h
  at_test false = record { known = known_grows u d.db (committed d.db u.tx) (live u.tx.0 (ap tx_in e)) h.known (grows_commit u d.db (live u.tx.0 (ap tx_in e))); behind = λ p w at its. absurd (none_is its); writes = h.writes }
