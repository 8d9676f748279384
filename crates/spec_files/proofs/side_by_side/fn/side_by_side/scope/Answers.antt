use Rattle.std.proofs.Common.{List, subst}
use Rattle.std.proofs.lemmas.Result.{IfOk-weaker}
use Rattle.std.specs.Global.{Vec}
use Rattle.spec_parser.specs.declared.tree.Entry.{Entry}
use Rattle.spec_files.specs.Drafts.{AreDrafts}
use Rattle.spec_files.proofs.side_by_side.fn.side_by_side.scope.Goals as goal

pub returns : goal.returns
returns g c =
    IfOk-weaker c.drafts_of_each.result _ _
    (λ drafts of. subst (λ (taken : List (Vec Entry)). AreDrafts (g.L.Lent.gives c.captures.lent.now) taken drafts) c.in_ok-all.ensures.entries (of c.captures.lent.now c.in_ok-all.ensures.drafts))
    c.drafts_of_each.ensures
