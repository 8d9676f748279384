use Rattle.std.proofs.Common.{ap}
use Rattle.program_words.specs.Shell.{FileRanFreely}
use Rattle.program_words.proofs.Serving.{of_whole, refusal_puts_both}
use Rattle.permutations.proofs.program.run_freely.Goals as goal

pub returns-clause-ran : goal.returns-clause-ran
returns-clause-ran g c =
    let wo = g.W.Sink.put_so_far c.args.out.now in
    let wn = g.W.Sink.put_so_far c.free_spec.new.out in
    let no = g.N.Sink.put_so_far c.args.err.now in
    let nn = g.N.Sink.put_so_far c.free_spec.new.notes in
    let r = c.free_spec.result in
    of_whole (λ f. FileRanFreely f wo wn no nn r) c.args.file.now c.requires (record {
      told = c.free_spec.ensures.told;
      refused = c.free_spec.ensures.refused;
      untouched = refusal_puts_both g.W.Sink.put_so_far g.N.Sink.put_so_far c.free_spec.new.out c.args.out.now c.free_spec.new.notes c.args.err.now r c.free_spec.ensures.untouched;
      begun = c.free_spec.ensures.begun;
      broken = λ is. (ap g.W.Sink.put_so_far (c.free_spec.ensures.broken is).0, ap g.N.Sink.put_so_far (c.free_spec.ensures.broken is).1);
      unbroken = c.free_spec.ensures.unbroken;
    })
