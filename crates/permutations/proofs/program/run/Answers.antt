use Rattle.permutations.proofs.program.run.Goals as goal

pub returns-then-options-clause-runs : goal.returns-then-options-clause-runs
returns-then-options-clause-runs g c = record {
  listed = λ is. c.list.ensures.listed (g.N.Sink.put_so_far c.args.err.now);
  freely = λ is free. absurd (let it = c.if-options.true in cc);
  in_order = λ is ordered. absurd (let it = c.if-options.true in cc);
}

pub returns-then-options-2-clause-runs : goal.returns-then-options-2-clause-runs
returns-then-options-2-clause-runs g c = record {
  listed = λ is. absurd (let it = c.if-options.false in cc);
  freely = λ is free. c.run_freely.ensures.ran;
  in_order = λ is ordered. absurd (let it = c.if-options-2.true in cc);
}

pub returns-else-options-2-clause-runs : goal.returns-else-options-2-clause-runs
returns-else-options-2-clause-runs g c = record {
  listed = λ is. absurd (let it = c.if-options.false in cc);
  freely = λ is free. absurd (let it = c.if-options-2.false in cc);
  in_order = λ is ordered. c.run_in_order.ensures.ran;
}
