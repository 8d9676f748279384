use Rattle.std.proofs.Common.{◌≡◌, ◌∙◌, ap, sym, map, List, ◌∷◌, [], ◌++◌}
use Rattle.std.proofs.lemmas.List.{map-append}
use Rattle.row_versions.specs.Log.{Content, IsOpen}
use Rattle.row_versions.specs.declared.names.TxId.{TxId}
use Rattle.row_versions.specs.declared.write.Write.{Write}
use Rattle.session_machine.specs.Tables.{Database}
use Rattle.session_machine.specs.Rows.{Work}
use Rattle.session_database.proofs.database.Database.write.Goals as goal

pub invariant_of-self-in-Err : goal.invariant_of-self-in-Err
invariant_of-self-in-Err g c =
    let by = c.work.inside.by in
    let content : Content = g.V.Versions.content c.self.inside.store in
    let w : Write = record { tx = by.tx; command = by.command; table = record { 0 = c.work.inside.place }; row = c.in-Ok.made; values = c.args.values } in
    let is_open : IsOpen content by.tx = rw (ap (λ (d : Database). d.content) c.self.view_is, ap (λ (x : Work). x.t.tx) c.work.view_is) c.requires.opened in
    let made_by = λ (x : Write). x.tx in
    let written : c.self.inside.writers.items ++ by.tx ∷ [] ≡ map made_by (content.log ++ w ∷ []) =
    ap (λ (txs : List TxId). txs ++ by.tx ∷ []) c.self.invariant.1 ∙ sym (map-append made_by content.log (w ∷ [])) in
    rw (c.forget.ensures, c.in-Err.ensures.err, c.roll_back.ensures, c.in-Ok.ensures.ok) (
      (c.index_keeps_up.ensures.goes_on.1 c.self.inside.keys content c.self.invariant.0).takes_back w is_open,
      c.in_ok-push.ensures.items ∙ written,
      c.self.invariant.2,
    )
