use Rattle.std.proofs.Common.{◌++◌}
use Rattle.spec_files.specs.FaultText.{fault_line}
use Rattle.program_words.specs.Terminal.{quote_of}
use Rattle.program_words.proofs.Putting.{took}
use Rattle.program_words.proofs.program.tell_both.Goals as goal

pub returns-clause-told : goal.returns-clause-told
returns-clause-told g c =
    took (g.N.Sink.failed c.tell.new.err) (g.N.Sink.put_so_far c.args.err.now) (g.N.Sink.put_so_far c.tell.new.err) (fault_line c.args.fault.now ++ quote_of c.args.there c.args.file.now c.args.fault.now)
    c.tell.result c.tell.ensures.front c.tell.ensures.bytes c.tell.ensures.fails
