-- Whoever writes a row holds it so that nobody else writes it, in every state.
use Rattle.std.proofs.Common.{sym, ℕ}
use Rattle.row_versions.specs.declared.write.Write.{Write}
use Rattle.row_locks.specs.Held.{holders_against}
use Rattle.row_locks.proofs.Holding.{blockers_hold}
use Rattle.session_machine.specs.Tables.{Database}
use Rattle.wait_laws.specs.Laws.{IsHeldToWrite, WritesAreHeld}
use Rattle.wait_laws.proofs.Exclusion.{IsHeldFor}
use Rattle.wait_laws.proofs.KeyBlockers.{some_of}
use Rattle.wait_laws.proofs.Cycles.{orderly_there}

-- who writes a row stands against every other request for it that conflicts with what it holds
alone : (db : Database) (place : ℕ) (w : Write) → IsHeldFor db.held place w → IsHeldToWrite db place w
alone db place w h = record {
  strength = h.strength;
  held = h.locked;
  enough = h.enough;
  inserted = h.inserted;
  alone = λ other asked ne against. some_of (holders_against db.held w.row other asked) w.tx
      ((blockers_hold db.held w.row other asked w.tx).1 ((λ e. ne (sym e)), (h.strength, h.locked, against)));
}

pub writes_are_held : WritesAreHeld
writes_are_held given mode count m reached place w at is = alone m.db place w ((orderly_there given mode count m reached).rows.held place w at is)
