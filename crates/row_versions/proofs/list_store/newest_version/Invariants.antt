use Rattle.std.proofs.Common.{◌≡◌, drop}
use Rattle.std.specs.Option.{option_or}
use Rattle.row_versions.specs.Inner.Searching.{newest_from}
use Rattle.row_versions.proofs.list_store.newest_version.Given as goal

-- the newest version of what is left, or else the newest so far, is that of the log
abbrev pub invariant-loop-place : goal.invariant-loop-place
invariant-loop-place l = option_or (newest_from l.fates l.row l.tx l.place (drop l.place l.log)) l.newest ≡ newest_from l.fates l.row l.tx 0 l.log
