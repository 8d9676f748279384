-- What a statement adds to the writes, the tables and the fates.
use Rattle.std.proofs.Common.{◌≡◌, ℕ, zero, suc, ◌<◌, List, [], ◌∷◌, ◌++◌, length, length-set, set, refl, ap, sym, ◌∙◌, arith, inl, inr, ◌⊎◌, ⊎_elim}
use Rattle.std.specs.Prelude.{Option, Some, slice_get}
use Rattle.std.proofs.lemmas.Bool.{cases_eq}
use Rattle.std.proofs.lemmas.Option.{same_Some}
use Rattle.sql_trees.specs.Statements.{CreateTree}
use Rattle.sql_values.specs.declared.value.Value.{Value}
use Rattle.row_versions.specs.declared.names.RowId.{RowId}
use Rattle.row_versions.specs.declared.write.Write.{Write}
use Rattle.row_versions.specs.declared.write.Fate.TheVariants.{RolledBack, Committed, Open as OpenFate}
use Rattle.row_versions.specs.Log.{Content, IsOpen, commit_count, after_write, after_commit, after_roll_back}
use Rattle.row_versions.proofs.Gets.{get-set_same}
use Rattle.row_versions.proofs.Seeing.{count-after_commit}
use Rattle.row_locks.specs.declared.held.Held.{Held}
use Rattle.session_machine.specs.declared.session.OpenTransaction.{OpenTransaction}
use Rattle.session_machine.specs.Tables.{Database, Table, Dropped}
use Rattle.session_machine.specs.Transactions.{committed, rolled_back}
use Rattle.session_machine.specs.Inner.Pieces.{with_table, with_drop}
use Rattle.session_laws.proofs.Lists.{slice_get-set_other}
use Rattle.session_laws.proofs.Staying.{count-roll_back}
use Rattle.session_laws.proofs.Writing.{Lasts, write_by}

-- commits are numbered below their count
abbrev pub Numbered : Content → Type 0
Numbered c = (n k : ℕ) → slice_get c.fates n ≡ Some (Committed k) → k < commit_count c

-- the transaction alone may have added something
pub record Grows (t : OpenTransaction) (db e : Database) : Type 0 where
  pub begun : length e.content.fates ≡ length db.content.fates
  pub numbered : Numbered db.content → Numbered e.content
  pub writes : (place : ℕ) (w : Write) → slice_get e.content.log place ≡ Some w → (slice_get db.content.log place ≡ Some w) ⊎ ((w.tx.0 ≡ t.tx.0) × (w.command ≡ t.command))
  pub tables : (k : ℕ) (x : Table) → slice_get e.catalog.tables k ≡ Some x → (slice_get db.catalog.tables k ≡ Some x) ⊎ (x.by.0 ≡ t.tx.0)
  pub drops : (k : ℕ) (x : Dropped) → slice_get e.catalog.drops k ≡ Some x → (slice_get db.catalog.drops k ≡ Some x) ⊎ (x.by.0 ≡ t.tx.0)

pub grows_here : (t : OpenTransaction) (db : Database) → Grows t db db
grows_here t db = record { begun = refl; numbered = λ h. h; writes = λ p w h. inl h; tables = λ k x h. inl h; drops = λ k x h. inl h }

pub grows_on : (t : OpenTransaction) (db d e : Database) → Grows t db d → Grows t d e → Grows t db e
grows_on t db d e h k =
    record {
      begun = k.begun ∙ h.begun;
      numbered = λ n. k.numbered (h.numbered n);
      writes = λ p w at. ⊎_elim (λ x. h.writes p w x) inr (k.writes p w at);
      tables = λ n x at. ⊎_elim (λ y. h.tables n x y) inr (k.tables n x at);
      drops = λ n x at. ⊎_elim (λ y. h.drops n x y) inr (k.drops n x at);
    }

-- an element of a list with one more
get_more : {A : Type 0} (xs : List A) (y : A) (k : ℕ) (x : A) → slice_get (xs ++ y ∷ []) k ≡ Some x → (slice_get xs k ≡ Some x) ⊎ (y ≡ x)
get_more [] y zero x h = inr (same_Some y x h)
get_more [] y (suc k) x h = cc
get_more (z ∷ zs) y zero x h = inl h
get_more (z ∷ zs) y (suc k) x h = get_more zs y k x h

grows_write : (t : OpenTransaction) (db : Database) (k : ℕ) (row : RowId) (values : Option (List Value)) → Grows t db (record db { content = after_write db.content (write_by t k row values) })
grows_write t db k row values =
    record {
      begun = refl;
      numbered = λ h. h;
      writes = λ p w at. ⊎_elim inl (λ e. inr (ap (λ (v : Write). v.tx.0) (sym e), ap (λ (v : Write). v.command) (sym e))) (get_more db.content.log (write_by t k row values) p w at);
      tables = λ n x h. inl h;
      drops = λ n x h. inl h;
    }

grows_lock : (t : OpenTransaction) (db : Database) (held : List Held) → Grows t db (record db { held = held })
grows_lock t db held = record { begun = refl; numbered = λ h. h; writes = λ p w h. inl h; tables = λ k x h. inl h; drops = λ k x h. inl h }

grows_table : (t : OpenTransaction) (db : Database) (made : CreateTree) → Grows t db (record db { catalog = with_table db.catalog made t.tx })
grows_table t db made =
    record {
      begun = refl;
      numbered = λ h. h;
      writes = λ p w h. inl h;
      tables = λ n x at. ⊎_elim inl (λ e. inr (ap (λ (y : Table). y.by.0) (sym e))) (get_more db.catalog.tables (record { made = made; by = t.tx }) n x at);
      drops = λ n x h. inl h;
    }

grows_drop : (t : OpenTransaction) (db : Database) (k : ℕ) → Grows t db (record db { catalog = with_drop db.catalog k t.tx })
grows_drop t db k =
    record {
      begun = refl;
      numbered = λ h. h;
      writes = λ p w h. inl h;
      tables = λ n x h. inl h;
      drops = λ n x at. ⊎_elim inl (λ e. inr (ap (λ (y : Dropped). y.by.0) (sym e))) (get_more db.catalog.drops (record { table = k; by = t.tx }) n x at);
    }

-- a transaction ends
not_committed : {k : ℕ} → Some RolledBack ≡ Some (Committed k) → ⊥
not_committed h = cc

same_number : {j k : ℕ} → Some (Committed j) ≡ Some (Committed k) → j ≡ k
same_number h = cc

numbered-roll_back : (c : Content) (t : OpenTransaction) → IsOpen c t.tx → Numbered c → Numbered (after_roll_back c t.tx)
numbered-roll_back c t is_open h n k at =
    let same = count-roll_back c t.tx is_open in
    ⊎_elim
    (λ e. absurd (not_committed (sym (get-set_same c.fates t.tx.0 OpenFate RolledBack is_open) ∙ (ap (slice_get (set c.fates t.tx.0 RolledBack)) (sym e) ∙ at))))
    (λ ne. let l = h n k (sym (slice_get-set_other c.fates t.tx.0 n RolledBack ne) ∙ at) in omega arith)
    (cases_eq n t.tx.0)

numbered-commit : (c : Content) (t : OpenTransaction) → IsOpen c t.tx → Numbered c → Numbered (after_commit c t.tx)
numbered-commit c t is_open h n k at =
    let more = count-after_commit c t.tx is_open in
    let fate = Committed (commit_count c) in
    ⊎_elim
    (λ e. let s : commit_count c ≡ k = same_number (sym (get-set_same c.fates t.tx.0 OpenFate fate is_open) ∙ (ap (slice_get (set c.fates t.tx.0 fate)) (sym e) ∙ at)) in omega arith)
    (λ ne. let l = h n k (sym (slice_get-set_other c.fates t.tx.0 n fate ne) ∙ at) in omega arith)
    (cases_eq n t.tx.0)

pub grows_roll_back : (t : OpenTransaction) (db : Database) → IsOpen db.content t.tx → Grows t db (rolled_back db t.tx)
grows_roll_back t db is_open =
    record {
      begun = length-set db.content.fates t.tx.0 RolledBack;
      numbered = numbered-roll_back db.content t is_open;
      writes = λ p w h. inl h;
      tables = λ k x h. inl h;
      drops = λ k x h. inl h;
    }

pub grows_commit : (t : OpenTransaction) (db : Database) → IsOpen db.content t.tx → Grows t db (committed db t.tx)
grows_commit t db is_open =
    record {
      begun = length-set db.content.fates t.tx.0 (Committed (commit_count db.content));
      numbered = numbered-commit db.content t is_open;
      writes = λ p w h. inl h;
      tables = λ k x h. inl h;
      drops = λ k x h. inl h;
    }

-- whatever the transaction does, it alone has added something
pub lasts-grows : (t : OpenTransaction) (db : Database) → Lasts t (Grows t db)
lasts-grows t db =
    record {
      lock = λ e held h. grows_on t db e _ h (grows_lock t e held);
      write = λ e k row values h. grows_on t db e _ h (grows_write t e k row values);
      made = λ e made h. grows_on t db e _ h (grows_table t e made);
      dropped = λ e k h. grows_on t db e _ h (grows_drop t e k);
    }
