-- To be believed. Closing a cycle of waits: what PostgreSQL calls a deadlock (13.3.4).
use Rattle.std.specs.Prelude.{◌≡◌, Bool, true, false, ◌&&◌, ◌||◌, List, [], ◌∷◌}
use Rattle.std.specs.List.{list_any}
use Rattle.row_versions.specs.declared.names.TxId.{TxId}
use Rattle.row_versions.specs.Members.{same_tx, has}
use Rattle.row_locks.specs.Waiting.{Waiting}

-- the first waits, and the second is one of its blockers
abbrev pub blocks : List Waiting → TxId → TxId → Bool
blocks waits a b = list_any (λ w. same_tx w.tx a && has w.blockers b) waits

-- from one transaction over others to the last, each followed by one of its blockers
abbrev pub Path : (TxId → TxId → Bool) → TxId → List TxId → TxId → Type 0
Path edge a [] z = a ≡ z
Path edge a (b ∷ over) z = (edge a b ≡ true) × Path edge b over z

-- some path leads from one to the other
abbrev pub Leads : (TxId → TxId → Bool) → TxId → TxId → Type 0
Leads edge a z = (over : List TxId) × Path edge a over z

-- a request with these blockers closes a cycle: the transaction is reached from one of them
abbrev pub Closes : (TxId → TxId → Bool) → TxId → List TxId → Type 0
Closes edge tx blockers = (b : TxId) × (has blockers b ≡ true) × Leads edge b tx

-- no transaction is reached from one of its own blockers
abbrev pub NoCycle : (TxId → TxId → Bool) → Type 0
NoCycle edge = (a b : TxId) → edge a b ≡ true → Leads edge b a → ⊥

-- from each transaction a path leads to one that has no blockers, as one that doesn't wait
abbrev pub AllEnd : (TxId → TxId → Bool) → Type 0
AllEnd edge = (a : TxId) → (z : TxId) × Leads edge a z × ((b : TxId) → edge z b ≡ false)

-- the same as a test: over no wait one leads to itself alone; over one wait more,
-- as before, or first to the waiting one and on from one of its blockers
abbrev pub leads : List Waiting → TxId → TxId → Bool
leads [] a z = same_tx a z
leads (w ∷ waits) a z = leads waits a z || (leads waits a w.tx && list_any (λ b. leads waits b z) w.blockers)

-- the transaction is reached from one of these, as a test
abbrev pub closes : List Waiting → TxId → List TxId → Bool
closes waits tx blockers = list_any (λ b. leads waits b tx) blockers
