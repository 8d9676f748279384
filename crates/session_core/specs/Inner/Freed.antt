-- The wait that is found first of those that nothing blocks any more.
use Rattle.std.specs.Prelude.{ℕ, ◌+◌, nat_lt, List, [], ◌∷◌, Option, Some, None, if◌then◌else◌}
use Rattle.session_machine.specs.declared.session.Session.{Session}
use Rattle.session_machine.specs.Tables.{Database}
use Rattle.session_machine.specs.Machine.{free_wait}

-- a wait that nothing blocks any more: its number, and its session
pub record FreeWait : Type 0 where
  pub number : ℕ
  pub session : ℕ

-- the sooner of a session's wait and another
abbrev pub sooner : Option ℕ → ℕ → Option FreeWait → Option FreeWait
sooner None k other = other
sooner (Some n) k None = Some (record { number = n; session = k })
sooner (Some n) k (Some other) = if nat_lt other.number n then Some other else Some (record { number = n; session = k })

-- of the waits that nothing blocks the one with the least number, from the session on
abbrev pub earliest_free : Database → ℕ → List Session → Option FreeWait
earliest_free db k [] = None
earliest_free db k (s ∷ ss) = sooner (free_wait db s) k (earliest_free db (k + 1) ss)
