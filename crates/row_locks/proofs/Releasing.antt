-- A transaction's locks are let go, one after the other.
use Rattle.std.proofs.Common.{◌≡◌, sym, ◌∙◌, ap, subst, true, false, not, ℕ, ◌+◌, List, [], length}
use Rattle.std.specs.Prelude.{Option, Some, None}
use Rattle.row_versions.specs.declared.names.TxId.{TxId}
use Rattle.row_versions.specs.Members.{same_tx}
use Rattle.places.specs.declared.places.Places.{Places}
use Rattle.places.specs.Noted.{noted, has_place}
use Rattle.ordered_slots.specs.Kept.{has_no_slot_twice, value_in, values, without_slot}
use Rattle.row_locks.specs.declared.held.Held.{Held}
use Rattle.row_locks.specs.Held.{released}
use Rattle.row_locks.specs.Inner.Noting.{AreLocksNoted}
use Rattle.row_locks.proofs.Noting.{all_fail, filter_less, noted_has, one_fewer}

-- of what was held all that isn't the transaction's is held still
pub record Releases (held : List Held) (tx : TxId) (locks : List (ℕ × Held)) (by_row by_tx : Places) : Type 0 where
  pub apart : has_no_slot_twice locks
  pub noted : AreLocksNoted by_row by_tx locks
  pub rest : released tx (values locks) ≡ released tx held

-- a slot that is noted for the transaction has one of its locks
pub holds_there : (held : List Held) (tx : TxId) (locks : List (ℕ × Held)) (by_row by_tx : Places) (slot : ℕ) → Releases held tx locks by_row by_tx → has_place (noted by_tx tx.0) slot ≡ true
    → (h : Held) × (value_in locks slot ≡ Some h) × (same_tx h.tx tx ≡ true)
holds_there held tx locks by_row by_tx slot r there = noted_has (λ (h : Held). same_tx h.tx tx) locks slot r.apart (subst (λ places. has_place places slot ≡ true) (r.noted.txs tx.0) there)

-- one lock less
pub record OneLockLess (held : List Held) (tx : TxId) (locks after : List (ℕ × Held)) (by_row by_tx row_after tx_after : Places) : Type 0 where
  pub releases : Releases held tx after row_after tx_after
  pub fewer : length after + 1 ≡ length locks

pub one_lock_less : (held : List Held) (tx : TxId) (locks after : List (ℕ × Held)) (by_row by_tx row_after tx_after : Places) (slot : ℕ) (o : Option Held) (lock : Held) → Releases held tx locks by_row by_tx → has_place (noted by_tx tx.0) slot ≡ true
    → o ≡ value_in locks slot → after ≡ without_slot slot locks → has_no_slot_twice after → o ≡ Some lock
    → ((ls : List (ℕ × Held)) → has_no_slot_twice ls → value_in ls slot ≡ Some lock → AreLocksNoted by_row by_tx ls → AreLocksNoted row_after tx_after (without_slot slot ls))
    → OneLockLess held tx locks after by_row by_tx row_after tx_after
one_lock_less held tx locks after by_row by_tx row_after tx_after slot o lock r there found taken apart some struck =
    let is : value_in locks slot ≡ Some lock = sym found ∙ some in
    let h = holds_there held tx locks by_row by_tx slot r there in
    let same : h.0 ≡ lock = (let e : Some h.0 ≡ Some lock = sym h.1 ∙ is in cc) in
    let own : not (same_tx lock.tx tx) ≡ false = ap (λ (l : Held). not (same_tx l.tx tx)) (sym same) ∙ ap (λ b. not b) h.2 in
    record {
      releases = record {
        apart = apart;
        noted = subst (λ ls. AreLocksNoted row_after tx_after ls) (sym taken) (struck locks r.apart is r.noted);
        rest = ap (λ (ls : List (ℕ × Held)). released tx (values ls)) taken ∙ filter_less (λ (l : Held). not (same_tx l.tx tx)) locks slot lock is own ∙ r.rest;
      };
      fewer = ap (λ (ls : List (ℕ × Held)). length ls + 1) taken ∙ one_fewer locks slot lock is;
    }

-- a slot that is noted has a lock
pub never_none : {P : Type 0} (held : List Held) (tx : TxId) (locks : List (ℕ × Held)) (by_row by_tx : Places) (slot : ℕ) (o : Option Held) → Releases held tx locks by_row by_tx → has_place (noted by_tx tx.0) slot ≡ true → o ≡ value_in locks slot → o ≡ None → P
never_none held tx locks by_row by_tx slot o r there found none = let h = holds_there held tx locks by_row by_tx slot r there in let e : Some h.0 ≡ None = sym h.1 ∙ sym found ∙ none in cc

-- at the end nothing of the transaction's is held
pub all_released : (held : List Held) (tx : TxId) (locks : List (ℕ × Held)) (by_row by_tx : Places) → Releases held tx locks by_row by_tx → noted by_tx tx.0 ≡ [] → values locks ≡ released tx held
all_released held tx locks by_row by_tx r none = sym (all_fail (λ (h : Held). same_tx h.tx tx) locks (sym (r.noted.txs tx.0) ∙ none)) ∙ r.rest
