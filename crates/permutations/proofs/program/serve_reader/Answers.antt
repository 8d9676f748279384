use Rattle.std.proofs.Common.{ap, refl, subst, sym, List, ℕ}
use Rattle.iso_lexer.specs.Devices.{IsFront}
use Rattle.program_words.specs.Served.{refuses}
use Rattle.program_words.proofs.Serving.{runs, unread}
use Rattle.permutations.proofs.program.serve_reader.Goals as goal

pub returns-in-Err-clause-serves : goal.returns-in-Err-clause-serves
returns-in-Err-clause-serves g c = refuses c.in-Err.ensures.refused refl

pub returns-in-Err-read_there-clause-serves : goal.returns-in-Err-read_there-clause-serves
returns-in-Err-read_there-clause-serves g c =
    unread _ _ _ _ c.args.typed c.args.there _ _ _ (g.W.Sink.put_so_far c.args.out.now) _ _ _ _ _ (ap g.W.Sink.put_so_far c.in-Ok.ensures.untouched.0) (ap g.N.Sink.put_so_far c.in-Ok.ensures.untouched.1)
    c.in-Ok.options c.in-Ok.ensures.gives.0 c.in-Ok.ensures.gives.1 c.in-Err-read_there.ensures.unread

pub returns-in-Ok-read_there-clause-serves : goal.returns-in-Ok-read_there-clause-serves
returns-in-Ok-read_there-clause-serves g c =
    let front = subst (λ (file : List ℕ). IsFront 1048577 (g.S.Source.left c.args.input.now) (g.S.Source.left c.read_there.new.input) file) (sym c.as_slice.ensures.value) c.in-Ok-read_there.ensures.reads in
    runs _ _ _ _ c.args.typed c.args.there _ _ _ _ _ _ _ _ _ (ap g.W.Sink.put_so_far c.in-Ok.ensures.untouched.0) (ap g.N.Sink.put_so_far c.in-Ok.ensures.untouched.1)
    c.in-Ok.options c.in-Ok.ensures.gives.0 c.in-Ok.ensures.gives.1 (g.N.Sink.put_so_far c.read_there.new.err) c.in-Ok-read_there.ensures.hints c.as_slice.result.now
    front c.in-Ok-read_there.ensures.well c.run_file.ensures
