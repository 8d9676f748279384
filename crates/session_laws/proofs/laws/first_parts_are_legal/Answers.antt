use Rattle.session_machine.specs.Machine.{opening}
use Rattle.session_laws.proofs.Replaying.{run_parts}
use Rattle.session_laws.proofs.laws.first_parts_are_legal.Goals as goal

pub returns : goal.returns
returns c = λ blocks count mode first rest h. let r = run_parts blocks mode (opening count) h.0 first rest h.1 in (r.0, r.1)
