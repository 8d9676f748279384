-- How those who stand in the way of waits are kept, and mended by what an event did.
use Rattle.std.specs.Prelude.{◌≡◌, ℕ, Bool, not, ◌&&◌, ◌||◌, List, [], length, Some, slice_get, unwrap_or}
use Rattle.row_versions.specs.declared.names.TxId.{TxId}
use Rattle.row_versions.specs.Members.{has, same_tx}
use Rattle.update_recheck.specs.Settling.{SameMembers}
use Rattle.session_machine.specs.declared.session.Transaction.{Transaction}
use Rattle.session_machine.specs.declared.session.Transaction.TheVariants.{Open}
use Rattle.session_machine.specs.declared.session.Session.{Session}
use Rattle.session_machine.specs.Tables.{Database}
use Rattle.session_machine.specs.Machine.{Machine}
use Rattle.session_core.specs.declared.mending.Doer.{Doer}
use Rattle.session_core.specs.declared.mending.Doer.TheVariants.{GoesOn, Ends, Nobody}
use Rattle.session_core.specs.Engines.{in_the_way}

-- by session, those who stand in its way
abbrev pub Lists : Type 0
Lists = List (List TxId)

abbrev pub blockers_kept : Lists → ℕ → List TxId
blockers_kept lists session = unwrap_or (slice_get lists session) []

-- of each session those are kept who stand in its way in the present state
pub record AreBlockers (m : Machine) (lists : Lists) : Type 0 where
  pub long : length lists ≡ length m.sessions
  pub each : (k : ℕ) (s : Session) → slice_get m.sessions k ≡ Some s → SameMembers (blockers_kept lists k) (in_the_way m.db s)

-- one session's are those who pass now, and all others' are as they were
pub record IsChanged (old : Lists) (session : ℕ) (test : TxId → Bool) (now : Lists) : Type 0 where
  pub long : length now ≡ length old
  pub others : (k : ℕ) → (k ≡ session → ⊥) → blockers_kept now k ≡ blockers_kept old k
  pub each : (u : TxId) → has (blockers_kept now session) u ≡ test u

-- the transaction stands in the way of what the session waits for
abbrev pub is_in_the_way : Database → Session → TxId → Bool
is_in_the_way db s tx = has (in_the_way db s) tx

-- what became of a session's transaction in an event
abbrev pub doer_between : Transaction → Transaction → Doer
doer_between before (Open t) = GoesOn t.tx
doer_between (Open t) after = Ends t.tx
doer_between before after = Nobody

-- who stands in the way of a session that did nothing: one more, who goes on and stands there now, or one less, who is over
abbrev pub mended : Database → Session → Doer → List TxId → TxId → Bool
mended db s (GoesOn tx) was u = has was u || (same_tx tx u && is_in_the_way db s tx)
mended db s (Ends tx) was u = has was u && not (same_tx tx u)
mended db s Nobody was u = has was u

-- what an event of this session leaves
pub record AreMended (m : Machine) (doer : Doer) (session : ℕ) (old now : Lists) : Type 0 where
  pub long : length now ≡ length old
  pub own : (s : Session) → slice_get m.sessions session ≡ Some s → SameMembers (blockers_kept now session) (in_the_way m.db s)
  pub others : (k : ℕ) (s : Session) → (k ≡ session → ⊥) → slice_get m.sessions k ≡ Some s → (u : TxId)
      → has (blockers_kept now k) u ≡ mended m.db s doer (blockers_kept old k) u
