use Rattle.std.proofs.Common.{sym, ◌∙◌, ap, ◌==◌, length}
use Rattle.unique_keys.proofs.Places.{row_in_all}
use Rattle.unique_keys.proofs.notes.list_row.Goals as goal

pub returns-else-is_empty-clause-listed : goal.returns-else-is_empty-clause-listed
returns-else-is_empty-clause-listed c =
    row_in_all c.args.by_row.now c.args.all.now.items c.args.row.0 c.requires (ap (λ l. length l == 0) (sym c.at.ensures) ∙ sym c.is_empty.ensures ∙ c.if-is_empty.false)
