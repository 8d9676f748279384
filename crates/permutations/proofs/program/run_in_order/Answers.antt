use Rattle.program_words.specs.Shell.{Ran}
use Rattle.program_words.proofs.Serving.{of_whole, refusal_puts_both}
use Rattle.permutations.proofs.program.run_in_order.Goals as goal

pub returns-clause-ran : goal.returns-clause-ran
returns-clause-ran g c =
    let wo = g.W.Sink.put_so_far c.args.out.now in
    let wn = g.W.Sink.put_so_far c.run_spec.new.out in
    let no = g.N.Sink.put_so_far c.args.err.now in
    let nn = g.N.Sink.put_so_far c.run_spec.new.notes in
    let r = c.run_spec.result in
    of_whole (λ f. Ran f c.args.limit wo wn no nn r) c.args.file.now c.requires (record {
      told = c.run_spec.ensures.run.told;
      refused = c.run_spec.ensures.run.refused;
      untouched = refusal_puts_both g.W.Sink.put_so_far g.N.Sink.put_so_far c.run_spec.new.out c.args.out.now c.run_spec.new.notes c.args.err.now r c.run_spec.ensures.run.untouched;
      begun = c.run_spec.ensures.run.begun;
      broken = c.run_spec.ensures.run.broken;
      unbroken = c.run_spec.ensures.run.unbroken;
      sure = c.run_spec.ensures.sure;
    })
