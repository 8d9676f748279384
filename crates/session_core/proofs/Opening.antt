-- A machine in which nothing has happened is one that an engine may have.
use Rattle.std.proofs.Common.{◌≡◌, ℕ, ◌+◌, ◌≤◌, List, [], replicate, None, refl, sym, ap, subst}
use Rattle.iso_lexer.specs.declared.limits.TheConstants.{MOST_SESSIONS}
use Rattle.session_machine.specs.declared.event.Mode.{Mode}
use Rattle.session_machine.specs.declared.reply.HistItem.{HistItem}
use Rattle.session_machine.specs.Machine.{Blocks, Machine, opening}
use Rattle.session_machine.specs.Engine.{IsLegal}
use Rattle.session_machine.specs.Sound.{IsSoundMachine, StaysSound}
use Rattle.session_core.specs.Inner.Blocking.{Lists as Ways}
use Rattle.session_core.specs.Inner.Kept.{Lists}
use Rattle.session_core.proofs.Blocking.{blockers_opening}
use Rattle.session_core.proofs.Going.{Keeps}
use Rattle.session_core.proofs.Holding.{kept_opening}

pub opens : StaysSound → (blocks : Blocks) (mode : Mode) (count : ℕ) (m : Machine) (items : List HistItem) (kept : Lists) (ways : Ways) → count ≤ MOST_SESSIONS → m ≡ opening count → items ≡ []
    → kept ≡ replicate (count + 1) None → ways ≡ replicate (count + 1) [] → IsLegal blocks count mode items × Keeps blocks count mode items m kept ways
opens law blocks mode count m items kept ways few e h none nobody =
    subst (λ (xs : List HistItem). IsLegal blocks count mode xs × Keeps blocks count mode xs m kept ways) (sym h)
    ((opening count, refl), (subst IsSoundMachine (sym e) (law.opens count few), ap (λ (x : Machine). x.events) e, e, kept_opening blocks count m kept e none, blockers_opening count m ways e nobody))
