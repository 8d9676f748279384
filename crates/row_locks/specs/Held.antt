-- To be believed. Held locks, and who stands against a request (PostgreSQL manual, 13.3.2).
use Rattle.std.specs.Prelude.{◌≡◌, ◌==◌, Bool, true, false, not, ◌&&◌, ◌||◌, List, [], ◌∷◌, ◌++◌, map, filter}
use Rattle.std.specs.List.{list_any}
use Rattle.row_versions.specs.declared.names.TxId.{TxId}
use Rattle.row_versions.specs.declared.names.RowId.{RowId}
use denote.Enum.Bare.{sameb}
use Rattle.sql_trees.specs.declared.stmt.Strength.{Strength}
use Rattle.sql_trees.specs.declared.stmt.Strength.TheVariants.{KeyShare, Share, NoKeyUpdate, Update}
use Rattle.sql_trees.specs.contracts.stmt.Strength.{the_type as the_strength}
use Rattle.row_locks.specs.declared.held.Held.{Held}
use Rattle.row_versions.specs.Members.{same_tx}

-- a transaction can't be given a row that another holds (table 13.3, "Conflicting Row-Level Locks"): the first is held, the second is asked for
abbrev pub conflicts : Strength → Strength → Bool
conflicts KeyShare KeyShare = false
conflicts KeyShare Share = false
conflicts KeyShare NoKeyUpdate = false
conflicts KeyShare Update = true
conflicts Share KeyShare = false
conflicts Share Share = false
conflicts Share NoKeyUpdate = true
conflicts Share Update = true
conflicts NoKeyUpdate KeyShare = false
conflicts NoKeyUpdate Share = true
conflicts NoKeyUpdate NoKeyUpdate = true
conflicts NoKeyUpdate Update = true
conflicts Update KeyShare = true
conflicts Update Share = true
conflicts Update NoKeyUpdate = true
conflicts Update Update = true

-- the blockers of a row request: the others that hold the row in conflict; a transaction never conflicts with itself (13.3.2),
-- and they are open, since locks are let go at a transaction's end
abbrev pub holders_against : List Held → RowId → TxId → Strength → List TxId
holders_against held row tx strength = map (λ h. h.tx) (filter (λ h. (h.row.0 == row.0) && not (same_tx h.tx tx) && conflicts h.strength strength) held)

abbrev pub same_strength : Strength → Strength → Bool
same_strength = sameb the_strength

-- the two are one lock
abbrev pub same_lock : Held → Held → Bool
same_lock a b = ((a.row.0 == b.row.0) && same_tx a.tx b.tx) && same_strength a.strength b.strength

-- the lock is held
abbrev pub holds : List Held → Held → Bool
holds held h = list_any (λ other. same_lock other h) held

-- A transaction's locks are those that settled targets took, and one at Update on each row that it inserted; an UPDATE or DELETE writes its row
-- under the lock that its target took.

-- what is held once a lock is taken, and once a transaction lets go of all that it held
abbrev pub with_lock : List Held → Held → List Held
with_lock held lock = held ++ lock ∷ []

abbrev pub released : TxId → List Held → List Held
released tx held = filter (λ h. not (same_tx h.tx tx)) held

-- after a lock was taken, what was held before is held, and that lock
abbrev pub IsTaken : List Held → Held → List Held → Type 0
IsTaken old lock new = (h : Held) → holds new h ≡ (holds old h || same_lock lock h)

-- after a transaction let go, what the others held is held
abbrev pub IsReleased : List Held → TxId → List Held → Type 0
IsReleased old tx new = (h : Held) → holds new h ≡ (not (same_tx h.tx tx) && holds old h)
