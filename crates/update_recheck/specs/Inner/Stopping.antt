-- How a target stops, and by which version it goes on.
use Rattle.std.specs.Prelude.{Bool, List, Option, Some, None, if◌then◌else◌}
use Rattle.std.specs.Option.{option_map_or}
use Rattle.sql_trees.specs.declared.stmt.Policy.{Policy}
use Rattle.row_versions.specs.declared.names.TxId.{TxId}
use Rattle.row_versions.specs.declared.write.Seen.{Seen}
use Rattle.row_versions.specs.Members.{is_none_of}
use Rattle.row_versions.specs.Log.{Content, values_at}
use Rattle.update_recheck.specs.Asked.{Asked}
use Rattle.update_recheck.specs.Outcome.{Version, Outcome, version_at}
use Rattle.update_recheck.specs.Inner.Cases.{Holders, others_by}
use Rattle.update_recheck.specs.Inner.Cases.Holders.{Nobody, Others, OthersInACycle, OthersAtNoWait, OthersSkipped}
use Rattle.update_recheck.specs.Outcome.Version.{Gone}
use Rattle.update_recheck.specs.Outcome.Outcome.{Skips, Waits, Deadlocks, NotFree}

-- who holds a target, by what is done about others, by its blockers and by whether a wait for them closes a cycle
abbrev pub holders_of : Policy → List TxId → Bool → Holders
holders_of policy by closing = if is_none_of by then Nobody else others_by policy closing

-- what stops a target before its version is looked at
abbrev pub holders_stop : Holders → Option Outcome
holders_stop Nobody = None
holders_stop Others = Some Waits
holders_stop OthersInACycle = Some Deadlocks
holders_stop OthersAtNoWait = Some NotFree
holders_stop OthersSkipped = Some Skips

-- the row's newest version for the transaction, if there is one
abbrev pub version_of : Content → Asked → Option Seen → Version
version_of c ask newest = option_map_or (λ (m : Seen). version_at ask m (values_at c m.place)) newest Gone
