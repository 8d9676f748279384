use Rattle.std.proofs.Common.{◌≡◌, sym, ◌∙◌, ap, ◌∷◌, ◌++◌, [], length, rules}
use Rattle.std.specs.Prelude.{count_by}
use Rattle.row_versions.specs.declared.write.Fate.TheVariants.{Open}
use Rattle.row_versions.specs.declared.names.TxId.{TxId}
use Rattle.row_versions.specs.Log.{open_in, is_commit}
use Rattle.row_versions.proofs.OpenTxs.{count_begun, open-after_begin}
use Rattle.row_versions.proofs.list_store.ListStoreVersions.begin.Goals as goal

pub invariant_of-self-2 : goal.invariant_of-self-2
invariant_of-self-2 c =
    let before = c.self.inside.fates.items in
    let tx : TxId = record { 0 = c.len.result } in
    let fates : c.push.new.self.items ≡ before ++ Open ∷ [] = search rules in
    let number : c.len.result ≡ length before = search rules in (
      c.self.invariant.0 ∙ sym (ap (count_by is_commit) fates ∙ count_begun before),
      c.join.ensures ∙ ap (λ us. us ++ tx ∷ []) (c.reserve.ensures.items ∙ c.self.invariant.1) ∙ ap (λ n. open_in before ++ record { 0 = n } ∷ []) number
          ∙ sym (ap open_in fates ∙ open-after_begin before),
    )
