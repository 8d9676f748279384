use Rattle.std.proofs.Common.{sym, ap, ◌∙◌}
use Rattle.std.specs.Prelude.{bytes_eq, position}
use Rattle.iso_lexer.specs.Names.{name_view, decoded}
use Rattle.sql_values.specs.Columns.{known_column}
use Rattle.sql_values.proofs.Places.{position_map}
use Rattle.sql_values.proofs.columns.Columns.place.Goals as goal

pub returns : goal.returns
returns c =
    c.place_of.ensures ∙ sym (position_map known_column (λ x. bytes_eq (decoded (name_view c.args.name.now)) x.0) c.self.inside.columns.now) ∙ ap (position (λ x. bytes_eq (decoded (name_view c.args.name.now)) x.0)) c.self.view_is
