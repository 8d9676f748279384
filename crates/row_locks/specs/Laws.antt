-- What follows from the definitions. Each law stands on the contract of a function of `laws`.
use Rattle.std.specs.Prelude.{◌≡◌, ◌≢◌, ◌↔◌, ◌⊎◌, Bool, true, false, List, IsTrue}
use Rattle.row_versions.specs.declared.names.TxId.{TxId}
use Rattle.row_versions.specs.declared.names.RowId.{RowId}
use Rattle.sql_trees.specs.declared.stmt.Strength.{Strength}
use Rattle.row_locks.specs.declared.held.Held.{Held}
use Rattle.row_versions.specs.Members.{has}
use Rattle.row_locks.specs.Held.{conflicts, holders_against, holds, IsTaken, IsReleased}
use Rattle.row_locks.specs.Waiting.{Waiting}
use Rattle.row_locks.specs.Cycles.{blocks, Closes, NoCycle, AllEnd, closes}

-- strengths conflict whichever of the two is held (13.3.2)
abbrev pub ConflictsGoBothWays : Type 0
ConflictsGoBothWays = (a b : Strength) → conflicts a b ≡ conflicts b a

-- the blockers of a row request are exactly the other transactions that hold the row at a strength in conflict (13.3.2)
abbrev pub BlockersHoldInConflict : Type 0
BlockersHoldInConflict = (held : List Held) (row : RowId) (tx : TxId) (strength : Strength) (u : TxId)
    → IsTrue (has (holders_against held row tx strength) u)
    ↔ ((u ≢ tx) × ((k : Strength) × IsTrue (holds held (record { row = row; tx = u; strength = k })) × IsTrue (conflicts k strength)))

-- the same locks are held, in whatever order
abbrev pub SameLocks : List Held → List Held → Type 0
SameLocks held others = (h : Held) → holds held h ≡ holds others h

-- who blocks is a matter of which locks are held alone
abbrev pub BlockersByWhatIsHeld : Type 0
BlockersByWhatIsHeld = (held others : List Held) → SameLocks held others → (row : RowId) (tx : TxId) (strength : Strength) (u : TxId)
    → has (holders_against held row tx strength) u ≡ has (holders_against others row tx strength) u

-- but for the transaction's own locks, the same are held
abbrev pub SameButFor : TxId → List Held → List Held → Type 0
SameButFor x old new = (h : Held) → h.tx ≢ x → holds new h ≡ holds old h

-- what one transaction does adds at most itself to the blockers of others, and takes at most itself away
abbrev pub DoingAddsOnlyTheDoer : Type 0
DoingAddsOnlyTheDoer = (x : TxId) (old new : List Held) → SameButFor x old new
    → (row : RowId) (tx : TxId) (strength : Strength) (u : TxId) → u ≢ x
    → has (holders_against new row tx strength) u ≡ has (holders_against old row tx strength) u

-- a lock that was taken is held from then on, and what others hold stays as it is
abbrev pub LocksAreHeld : Type 0
LocksAreHeld = (held after : List Held) (h : Held) → IsTaken held h after → IsTrue (holds after h) × SameButFor h.tx held after

-- a transaction that ends lets go of all that it held, and what others hold stays as it is
abbrev pub EndsLetGo : Type 0
EndsLetGo = (held after : List Held) (x : TxId) → IsReleased held x after → ((h : Held) → h.tx ≡ x → holds after h ≡ false) × SameButFor x held after

-- the test for a cycle passes exactly where some path closes one
abbrev pub CycleTestIsExact : Type 0
CycleTestIsExact = (waits : List Waiting) (tx : TxId) (blockers : List TxId)
    → (closes waits tx blockers ≡ true) ↔ Closes (blocks waits) tx blockers

-- the same transactions are blocked by the same, in whatever order they wait
abbrev pub SamePairs : List Waiting → List Waiting → Type 0
SamePairs waits others = (a b : TxId) → blocks waits a b ≡ blocks others a b

-- whether a cycle is closed is a matter of who is blocked by whom alone
abbrev pub CyclesByWhoBlocks : Type 0
CyclesByWhoBlocks = (waits others : List Waiting) → SamePairs waits others → (tx : TxId) (found blockers : List TxId)
    → ((u : TxId) → has found u ≡ has blockers u) → closes waits tx found ≡ closes others tx blockers

-- each blocker after is one before, or the transaction itself, of another
abbrev pub GrowsOnlyBy : TxId → (TxId → TxId → Bool) → (TxId → TxId → Bool) → Type 0
GrowsOnlyBy x edge after = (a b : TxId) → after a b ≡ true → (b ≡ x) ⊎ (edge a b ≡ true)

-- the transaction waits for nobody
abbrev pub WaitsForNobody : TxId → (TxId → TxId → Bool) → Type 0
WaitsForNobody x edge = (b : TxId) → edge x b ≡ true → ⊥

-- each pair is one of the first's, or of the transaction with one of its blockers
abbrev pub AddsAWait : TxId → List TxId → (TxId → TxId → Bool) → (TxId → TxId → Bool) → Type 0
AddsAWait x blockers edge after = (a b : TxId) → after a b ≡ true → ((a ≡ x) × (has blockers b ≡ true)) ⊎ (edge a b ≡ true)

-- whichever way transactions block one another, no cycle appears: where one goes on, and adds at most itself to the blockers of others;
-- where it then waits, and its request closed no cycle; and where waits or blockers go
pub record NoCycleAppears : Type 0 where
  pub goes_on : (edge after : TxId → TxId → Bool) (x : TxId) → NoCycle edge → GrowsOnlyBy x edge after → WaitsForNobody x after → NoCycle after
  pub waits : (edge mid after : TxId → TxId → Bool) (x : TxId) (blockers : List TxId) → NoCycle edge → GrowsOnlyBy x edge mid → WaitsForNobody x mid
      → ¬ Closes mid x blockers → AddsAWait x blockers mid after → NoCycle after
  pub fewer : (edge after : TxId → TxId → Bool) → NoCycle edge → ((a b : TxId) → after a b ≡ true → edge a b ≡ true) → NoCycle after

-- where no transactions wait in a cycle, the blockers lead from each to one that waits for nobody
abbrev pub WaitsLeadToAnEnd : Type 0
WaitsLeadToAnEnd = (waits : List Waiting) → NoCycle (blocks waits) → AllEnd (blocks waits)
