-- A transaction's waits end, one after the other.
use Rattle.std.proofs.Common.{◌≡◌, sym, ◌∙◌, ap, subst, true, false, not, ◌==◌, ℕ, ◌+◌, List, [], length}
use Rattle.std.proofs.lemmas.Bool.{eqb-true}
use Rattle.row_versions.specs.declared.names.TxId.{TxId}
use Rattle.places.specs.declared.places.Places.{Places}
use Rattle.places.specs.Noted.{noted, has_place, without_last}
use Rattle.ordered_slots.specs.Kept.{has_no_slot_twice, values, without_slot}
use Rattle.row_locks.specs.Waiting.{Waiting, is_wait_of, waits_without}
use Rattle.row_locks.specs.Inner.Noting.{AreNoted}
use Rattle.row_locks.proofs.Noting.{all_fail, filter_less, noted_has, noted_less, one_fewer}

-- of the waits all that aren't the transaction's stand
pub record Ends (before : List Waiting) (tx : TxId) (waits : List (ℕ × Waiting)) (by_tx : Places) : Type 0 where
  pub apart : has_no_slot_twice waits
  pub noted : AreNoted (λ w. w.tx.0) by_tx waits
  pub rest : waits_without tx (values waits) ≡ waits_without tx before

-- one wait less
pub record OneWaitLess (before : List Waiting) (tx : TxId) (waits after : List (ℕ × Waiting)) (tx_after : Places) : Type 0 where
  pub ends : Ends before tx after tx_after
  pub fewer : length after + 1 ≡ length waits

pub one_wait_less : (before : List Waiting) (tx : TxId) (waits after : List (ℕ × Waiting)) (by_tx tx_after : Places) (slot : ℕ) → Ends before tx waits by_tx → has_place (noted by_tx tx.0) slot ≡ true → after ≡ without_slot slot waits → has_no_slot_twice after
    → noted tx_after tx.0 ≡ without_last slot (noted by_tx tx.0) → ((other : ℕ) → (other == tx.0) ≡ false → noted tx_after other ≡ noted by_tx other) → OneWaitLess before tx waits after tx_after
one_wait_less before tx waits after by_tx tx_after slot e there taken apart struck others =
    let h = noted_has (λ (w : Waiting). is_wait_of tx w) waits slot e.apart (subst (λ places. has_place places slot ≡ true) (e.noted tx.0) there) in
    let own : h.0.tx.0 ≡ tx.0 = eqb-true h.0.tx.0 tx.0 h.2 in
    let fails : not (is_wait_of tx h.0) ≡ false = ap (λ b. not b) h.2 in
    record {
      ends = record {
        apart = apart;
        noted = subst (λ ws. AreNoted (λ (w : Waiting). w.tx.0) tx_after ws) (sym taken) (noted_less (λ (w : Waiting). w.tx.0) by_tx tx_after waits slot h.0 e.noted e.apart h.1
            (subst (λ n. noted tx_after n ≡ without_last slot (noted by_tx n)) (sym own) struck)
            (subst (λ n. (other : ℕ) → (other == n) ≡ false → noted tx_after other ≡ noted by_tx other) (sym own) others));
        rest = ap (λ (ws : List (ℕ × Waiting)). waits_without tx (values ws)) taken ∙ filter_less (λ (w : Waiting). not (is_wait_of tx w)) waits slot h.0 h.1 fails ∙ e.rest;
      };
      fewer = ap (λ (ws : List (ℕ × Waiting)). length ws + 1) taken ∙ one_fewer waits slot h.0 h.1;
    }

-- at the end none of the transaction's waits stands
pub all_ended : (before : List Waiting) (tx : TxId) (waits : List (ℕ × Waiting)) (by_tx : Places) → Ends before tx waits by_tx → noted by_tx tx.0 ≡ [] → values waits ≡ waits_without tx before
all_ended before tx waits by_tx e none = sym (all_fail (λ (w : Waiting). is_wait_of tx w) waits (sym (e.noted tx.0) ∙ none)) ∙ e.rest
