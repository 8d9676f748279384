use Rattle.std.proofs.Common.{◌≡◌, ◌∙◌, ap, false, rules, sym, true≢false}
use Rattle.row_versions.specs.Members.{has}
use Rattle.session_core.proofs.Striking.{none_at, place_from, there_already}
use Rattle.session_core.proofs.blockers.Blockers.add.Goals as goal

pub returns-in-Some-clause-added : goal.returns-in-Some-clause-added
returns-in-Some-clause-added c u =
    there_already c.args.self.now c.args.tx u c.in-Some.field-0
    (ap (place_from c.args.tx 0) (sym (c.deref.ensures ∙ c.self.view_is)) ∙ (sym c.place_of.ensures ∙ c.in-Some.is))

pub returns-in_ok-push-in-None-clause-once : goal.returns-in_ok-push-in-None-clause-once
returns-in_ok-push-in-None-clause-once c there =
    absurd (true≢false (sym there ∙ none_at c.args.tx 0 c.args.self.now (ap (place_from c.args.tx 0) (sym (c.deref.ensures ∙ c.self.view_is)) ∙ (sym c.place_of.ensures ∙ c.in-None.is))))

pub returns-in_err-push-in-None-clause-memory : goal.returns-in_err-push-in-None-clause-memory
returns-in_err-push-in-None-clause-memory c =
    let none : has c.args.self.now c.args.tx ≡ false =
    none_at c.args.tx 0 c.args.self.now (ap (place_from c.args.tx 0) (sym (c.deref.ensures ∙ c.self.view_is)) ∙ (sym c.place_of.ensures ∙ c.in-None.is)) in
    search (rules, none)
