use Rattle.std.proofs.Common.{◌≡◌, length, map}
use Rattle.sql_parser.specs.Tables.{has_name}
use Rattle.sql_parser.proofs.table_keys.is_text.Given as goal

abbrev pub invariant-loop-texts : goal.invariant-loop-texts
invariant-loop-texts l = has_name l.text (map (λ v. v.items) l.texts) ≡ has_name l.text (map (λ v. v.items) l.fn.texts)

abbrev pub decreases-loop-texts : goal.decreases-loop-texts
decreases-loop-texts l = length l.texts
