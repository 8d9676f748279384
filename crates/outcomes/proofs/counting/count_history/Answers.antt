use Rattle.std.proofs.Common.{◌∙◌, sym}
use Rattle.outcome_counts.specs.Counts.{blocked, waiting, whole}
use Rattle.outcomes.proofs.counting.count_history.Goals as goal

pub returns-in-Blocked : goal.returns-in-Blocked
returns-in-Blocked c = (blocked, sym c.in_ok-ended.ensures.ending ∙ c.in-Blocked.is, c.add_blocked.ensures)

pub returns-in-Waits : goal.returns-in-Waits
returns-in-Waits c = (waiting, sym c.in_ok-ended.ensures.ending ∙ c.in-Waits.is, c.add_waiting.ensures)

pub returns-in_ok-add-in-Whole : goal.returns-in_ok-add-in-Whole
returns-in_ok-add-in-Whole c =
    (whole c.in_ok-outcome-in-Whole.outcome, (sym c.in_ok-ended.ensures.ending ∙ c.in-Whole.is, c.in_ok-outcome-in-Whole.ensures.answers, c.in_ok-outcome-in-Whole.ensures.tables), c.in_ok-add-in-Whole.ensures)
