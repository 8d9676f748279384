use Rattle.std.proofs.Common.{◌∙◌, sym, ap, length}
use Rattle.std.specs.Option.{option_copied}
use Rattle.std.proofs.lemmas.List.{length-map}
use Rattle.sql_trees.specs.Statements.{column_of}
use Rattle.session_statements.proofs.Keeping.{newest_values_fit}
use Rattle.session_statements.proofs.update.update_strength.Goals as goal

pub leaves_all-requires : goal.leaves_all-requires
leaves_all-requires g c =
    newest_values_fit c.args.db.now c.args.work.now c.args.seen.now.row c.requires.work.running.orderly c.requires.its c.in-Some.newest.now
    (sym c.newest_values.ensures ∙ ap option_copied c.in-Some.is)
    ∙ sym (ap length c.columns_in-columns.ensures) ∙ length-map c.columns_in-columns.result.now column_of
