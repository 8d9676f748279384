-- Closing a cycle is a matter of who is blocked by whom alone.
use Rattle.std.proofs.Common.{◌≡◌, sym, ◌∙◌, true, List}
use Rattle.row_versions.specs.declared.names.TxId.{TxId}
use Rattle.row_versions.specs.Members.{has}
use Rattle.row_locks.specs.Waiting.{Waiting}
use Rattle.row_locks.specs.Cycles.{blocks, closes}
use Rattle.row_locks.specs.Laws.{SamePairs, CyclesByWhoBlocks}
use Rattle.row_locks.proofs.Paths.{fewer_leads}
use Rattle.row_locks.proofs.Waiting.{closes_says}
use Rattle.row_locks.proofs.Holding.{both_ways}

still_closes : (waits others : List Waiting) → SamePairs waits others → (tx : TxId) (found blockers : List TxId) → ((u : TxId) → has found u ≡ has blockers u) → closes waits tx found ≡ true → closes others tx blockers ≡ true
still_closes waits others same tx found blockers each h =
    let c = (closes_says waits tx found).0 h in
    (closes_says others tx blockers).1 (c.0, sym (each c.0) ∙ c.1, (c.2.0, fewer_leads (blocks others) (blocks waits) (λ a b e. sym (same a b) ∙ e) c.0 c.2.0 tx c.2.1))

pub by_who_blocks : CyclesByWhoBlocks
by_who_blocks waits others same tx found blockers each =
    both_ways (closes waits tx found) (closes others tx blockers)
    (still_closes waits others same tx found blockers each)
    (still_closes others waits (λ a b. sym (same a b)) tx blockers found (λ u. sym (each u)))
