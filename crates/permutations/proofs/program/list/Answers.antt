use Rattle.std.proofs.Common.{refl}
use Rattle.program_words.specs.Shell.{ListsTold}
use Rattle.program_words.proofs.Serving.{of_whole, refusal_puts}
use Rattle.permutations.proofs.program.list.Goals as goal

pub returns-clause-listed : goal.returns-clause-listed
returns-clause-listed g c notes =
    let old = g.W.Sink.put_so_far c.args.out.now in
    let new = g.W.Sink.put_so_far c.list_spec.new.out in
    let r = c.list_spec.result in
    of_whole (λ f. ListsTold f c.args.limit old new notes notes r) c.args.file.now c.requires (record {
      lists = c.list_spec.ensures.lists;
      refused = c.list_spec.ensures.refused;
      untouched = refusal_puts g.W.Sink.put_so_far c.list_spec.new.out c.args.out.now r c.list_spec.ensures.untouched;
      kinds = c.list_spec.ensures.kinds;
      begun = c.list_spec.ensures.begun;
      noted = refl;
    })
