use Rattle.std.proofs.Common.{◌≡◌, [], map, take}
use Rattle.std.specs.Prelude.{unwrap_or}
use Rattle.row_versions.specs.declared.write.Seen.{Seen}
use Rattle.row_versions.specs.Log.{values_at}
use Rattle.session_database.proofs.database.Database.values_of.Given as goal

abbrev pub invariant-loop-one : goal.invariant-loop-one
invariant-loop-one g l =
    (map (λ row. row.now) l.rows.items ≡ map (λ (s : Seen). unwrap_or (values_at l.self.content s.place) []) (take l.one-index l.seen))
