use Rattle.std.proofs.Common.{◌≡◌, ◌↔◌, ◌∙◌, List, IsTrue, ap, subst, inl, inr}
use Rattle.std.proofs.lemmas.Result.{err_from_is_err_and}
use Rattle.session_machine.specs.declared.reply.HistItem.{HistItem}
use Rattle.report_lines.specs.History.{PermutationRun}
use Rattle.permutation_plans.specs.FreeRegular.{IsWhole, FreeFits}
use Rattle.permutation_plans.proofs.free_fit.fits.Goals as goal

pub returns-in-Some-clause-fit : goal.returns-in-Some-clause-fit
returns-in-Some-clause-fit c =
    let same : c.segments.result ≡ c.args.items.now = c.segments.ensures ∙ ap (λ (s : PermutationRun). s.items) c.in_ok-run.ensures.run in
    subst (λ (items : List HistItem). IsTrue c.in-Some.fit ↔ FreeFits c.args.plan.now items) same c.in-Some.ensures

pub returns-clause-fit : goal.returns-clause-fit
returns-clause-fit c =
    let same : c.segments.result ≡ c.args.items.now = c.segments.ensures ∙ ap (λ (s : PermutationRun). s.items) c.in_ok-run.ensures.run in
    let rest : FreeFits c.args.plan.now c.args.items.now ↔ IsWhole c.args.plan.now c.args.items.now =
    subst (λ (items : List HistItem). FreeFits c.args.plan.now items ↔ IsWhole c.args.plan.now items) same c.in-None.ensures in
    let whole = c.in_ok-whole-in-None.ensures.whole in
    (λ yes. rest.1 (whole.0 yes), λ fits. whole.1 (rest.0 fits))

pub returns-in_err-run-clause-memory : goal.returns-in_err-run-clause-memory
returns-in_err-run-clause-memory c =
    let p = err_from_is_err_and c.from_residual.result c.from_residual.ensures.1 in
    rw p.1 (inl c.in_err-run.ensures.memory)

pub returns-in_err-events-clause-memory : goal.returns-in_err-events-clause-memory
returns-in_err-events-clause-memory c =
    let p = err_from_is_err_and c.from_residual-in_err-events.result c.from_residual-in_err-events.ensures.1 in
    rw p.1 (inl c.in_err-events.ensures.memory)

pub returns-in_err-whole-in-None-clause-memory : goal.returns-in_err-whole-in-None-clause-memory
returns-in_err-whole-in-None-clause-memory c =
    let p = err_from_is_err_and c.from_residual-in_err-whole-in-None.result c.from_residual-in_err-whole-in-None.ensures.1 in
    rw p.1 (inr c.in_err-whole-in-None.ensures.memory)
