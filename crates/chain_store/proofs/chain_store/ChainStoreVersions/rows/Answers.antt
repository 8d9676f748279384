use Rattle.std.proofs.Common.{◌≡◌, subst, rules}
use Rattle.std.proofs.lemmas.List.Sorted.{IsNonDecreasingBy-from_sort_by_key}
use Rattle.row_versions.specs.declared.write.Seen.{Seen}
use Rattle.row_versions.specs.Log.{Content}
use Rattle.row_versions.specs.Rows.{rows_of}
use Rattle.chain_store.proofs.Showing.{sorted_are_rows}
use Rattle.chain_store.proofs.chain_store.ChainStoreVersions.rows.Goals as goal

pub returns : goal.returns
returns c = subst (λ (d : Content). c.sort_unstable_by_key.new.self.items ≡ rows_of d c.args.view.now c.args.table) c.self.view_is
    (sorted_are_rows c.self.inside.list c.args.view.now c.args.table c.in_ok-rows.rows.items c.sort_unstable_by_key.new.self.items c.in_ok-rows.ensures c.sort_unstable_by_key.ensures.permutation
    (IsNonDecreasingBy-from_sort_by_key (λ (s : Seen). s.place) c.sort_unstable_by_key.new.self.items c.sort_unstable_by_key.ensures.sorted (λ a r q k. search rules)))
