-- What is printed of a refused event.
use Rattle.std.specs.Prelude.{ℕ, List, codes}
use Rattle.session_machine.specs.declared.fault.EngineFault.{EngineFault}
use Rattle.session_machine.specs.declared.fault.EngineFault.TheVariants.{Busy, NotYourTurn, StillBlocked, Idle, Spent, Memory, NoSession, BlockNotAllowed}

-- the number and the name
abbrev pub engine_fault_text : EngineFault → List ℕ
engine_fault_text Busy = codes "E1 Busy"
engine_fault_text NotYourTurn = codes "E2 NotYourTurn"
engine_fault_text StillBlocked = codes "E3 StillBlocked"
engine_fault_text Idle = codes "E4 Idle"
engine_fault_text Spent = codes "E5 Spent"
engine_fault_text Memory = codes "E6 Memory"
engine_fault_text NoSession = codes "E7 NoSession"
engine_fault_text BlockNotAllowed = codes "E8 BlockNotAllowed"
