-- What IS asks of a condition.
use Rattle.std.specs.Prelude.{Bool, false, not, Option, is_none, unwrap_or}
use Rattle.std.specs.Option.{option_map_or}
use Rattle.sql_trees.specs.declared.expr.Truth.{Truth}
use Rattle.sql_trees.specs.declared.expr.Truth.TheVariants as asked

-- whether IS finds what it asks for
abbrev pub truth_asked : Truth → Option Bool → Bool
truth_asked asked.True k = unwrap_or k false
truth_asked asked.False k = option_map_or not k false
truth_asked t k = is_none k
