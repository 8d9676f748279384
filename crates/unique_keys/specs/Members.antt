-- Transactions that are found.
use Rattle.std.specs.Prelude.{◌≡◌, List}
use Rattle.row_versions.specs.declared.names.TxId.{TxId}
use Rattle.row_versions.specs.Members.{has, is_distinct}

-- found are these transactions, each once
pub record EachOnce (wanted found : List TxId) : Type 0 where
  pub each : (u : TxId) → has found u ≡ has wanted u
  pub once : is_distinct found
