use Rattle.std.proofs.Common.{◌≡◌, ◌<◌, drop, length}
use Rattle.std.specs.Prelude.{IfSome}
use Rattle.session_core.specs.Inner.Freed.{FreeWait, earliest_free}
use Rattle.session_core.proofs.live.Live.freed_session.Given as goal

-- the first wait of the sessions from here on
abbrev pub invariant-loop-k : goal.invariant-loop-k
invariant-loop-k g l =
    record {
      earliest : l.first ≡ earliest_free l.self.db l.k (drop l.k l.self.sessions);
      within : IfSome l.first (λ (f : FreeWait). f.session < length l.self.sessions);
    }
