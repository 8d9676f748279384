use Rattle.std.proofs.Common.{◌≡◌, None, Some, rules, subst, sym}
use Rattle.std.specs.Prelude.{IfSome}
use Rattle.session_crews.proofs.Next.{given_fault}
use Rattle.session_crews.proofs.shared.Shared.ask.Goals as goal

pub returns-in-Ok-Launch-clause-first : goal.returns-in-Ok-Launch-clause-first
returns-in-Ok-Launch-clause-first g c =
    let none : c.args.self.now.fault ≡ None = search rules in
    subst (λ o. IfSome o (λ fault. c.give.new.self.fault ≡ Some fault)) (sym none) tt

pub returns-in-Ok-Launch-clause-fault : goal.returns-in-Ok-Launch-clause-fault
returns-in-Ok-Launch-clause-fault g c = given_fault c.args.self.now.fault c.self.inside.fault c.give.new.self.fault (search rules) c.give.ensures.fault

pub returns-in-Ok-Leave-clause-first : goal.returns-in-Ok-Leave-clause-first
returns-in-Ok-Leave-clause-first g c =
    let none : c.args.self.now.fault ≡ None = search rules in
    subst (λ o. IfSome o (λ fault. c.give-in-Ok-Leave.new.self.fault ≡ Some fault)) (sym none) tt

pub returns-in-Ok-Leave-clause-fault : goal.returns-in-Ok-Leave-clause-fault
returns-in-Ok-Leave-clause-fault g c = given_fault c.args.self.now.fault c.self.inside.fault c.give-in-Ok-Leave.new.self.fault (search rules) c.give-in-Ok-Leave.ensures.fault
