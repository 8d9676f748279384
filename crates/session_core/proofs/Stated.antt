-- The state of an engine is one that a run reaches.
use Rattle.std.proofs.Common.{◌≡◌, ℕ, List, Option, Some, subst}
use Rattle.std.specs.Prelude.{IfSome}
use Rattle.session_machine.specs.declared.event.Mode.{Mode}
use Rattle.session_machine.specs.declared.reply.HistItem.{HistItem}
use Rattle.session_machine.specs.Machine.{Machine, Blocks, opening, Run}
use Rattle.wait_laws.specs.Laws.{Reaches}

pub reached : (given : Blocks) (mode : Mode) (count : ℕ) (items : List HistItem) (at : Option Machine) (m : Machine)
    → IfSome at (λ x. Run given mode (opening count) items x) → at ≡ Some m → Reaches given mode count m
reached given mode count items at m leads is = (items, subst (λ (o : Option Machine). IfSome o (λ x. Run given mode (opening count) items x)) is leads)
