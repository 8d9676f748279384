-- The newest version of a target, as it is handed on.
use Rattle.std.specs.Prelude.{◌≡◌, length}
use Rattle.sql_values.specs.Expressions.{passes}
use Rattle.update_recheck.specs.declared.newest.Newest.{Newest}
use Rattle.update_recheck.specs.declared.newest.Newest.TheVariants as found
use Rattle.update_recheck.specs.Asked.{Asked}
use Rattle.update_recheck.specs.Outcome.{Version}
use Rattle.update_recheck.specs.Outcome.Version.{Same, Gone, Newer}

-- the version that was found
abbrev pub told : Asked → Newest → Version
told ask found.Same = Same
told ask found.Gone = Gone
told ask (found.Newer seen row) = Newer seen (passes ask.condition ask.cols row.now)

-- its values are as many as the columns
abbrev pub NewestIsWhole : Asked → Newest → Type 0
NewestIsWhole ask found.Same = Unit {0}
NewestIsWhole ask found.Gone = Unit {0}
NewestIsWhole ask (found.Newer seen row) = length row.now ≡ length ask.cols
