use Rattle.std.proofs.Common.{◌∙◌, ap}
use Rattle.outcome_verdicts.specs.Transactions.{of_session}
use Rattle.outcome_verdicts.proofs.Cutting.{now_over, still_open}
use Rattle.outcome_verdicts.proofs.transactions.add_step.Goals as goal

pub returns-then-still : goal.returns-then-still
returns-then-still c = λ rest. still_open c.args.session c.args.over.now.items c.args.now.now.items c.push.new.self.items c.args.step c.args.still rest c.if-still.true c.in_ok-push.ensures.items

pub returns : goal.returns
returns c = λ rest.
    now_over c.args.session c.args.over.now.items c.push-2.new.self.items _ c.args.now.now.items c.replace-steps.new.dest.items c.args.step c.args.still rest c.if-still.false
    (ap (of_session c.args.session) (ap (λ v. v.items) c.replace-steps.ensures.value ∙ c.in_ok-push.ensures.items)) c.in_ok-push-2.ensures.items
    (ap (λ v. v.items) c.replace-steps.ensures.after ∙ c.new.ensures.items)
