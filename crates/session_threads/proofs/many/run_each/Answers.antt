use Rattle.std.proofs.Common.{◌∙◌}
use Rattle.std.proofs.lemmas.Result.{IfOk-weaker}
use Rattle.session_threads.proofs.many.run_each.Goals as goal

pub returns-clause-count : goal.returns-clause-count
returns-clause-count g c = IfOk-weaker c.serve_each.result _ _ (λ kept is. is ∙ c.in_ok-opened.ensures.count) c.serve_each.ensures.count
