use Rattle.std.proofs.Common.{◌≡◌, sym, ◌∙◌, ap, true, rules}
use Rattle.unique_keys.specs.Writes.{notes_without}
use Rattle.unique_keys.specs.Inner.Slots.{kept}
use Rattle.unique_keys.proofs.Slots.{without_set}
use Rattle.unique_keys.proofs.notes.Notes.empty_own.Goals as goal

pub returns-clause-left : goal.returns-clause-left
returns-clause-left c =
    let own : c.is_of_tx.result ≡ true = search rules in
    ap (λ s. notes_without c.args.tx (kept s)) c.empty.ensures.slots ∙ without_set c.args.tx c.args.self.now.slots.items c.args.place (sym c.is_of_tx.ensures ∙ own)
