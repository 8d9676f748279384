use Rattle.spec_files.specs.FaultText.{fault_line}
use Rattle.program_words.proofs.Putting.{took}
use Rattle.program_words.proofs.program.told.Goals as goal

pub returns-clause-told : goal.returns-clause-told
returns-clause-told g c =
    took (g.N.Sink.failed c.put_fault.new.err) (g.N.Sink.put_so_far c.args.err.now) (g.N.Sink.put_so_far c.put_fault.new.err) (fault_line c.args.fault.now)
    c.put_fault.result c.put_fault.ensures.front c.put_fault.ensures.bytes c.put_fault.ensures.fails
