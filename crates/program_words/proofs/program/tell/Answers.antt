use Rattle.std.proofs.Common.{refl}
use Rattle.iso_lexer.proofs.Writing.{appends_more, front_of_piece}
use Rattle.spec_files.specs.FaultText.{fault_line}
use Rattle.program_words.specs.Terminal.{quote_of}
use Rattle.program_words.proofs.Putting.{front_behind, ok_with}
use Rattle.program_words.proofs.program.tell.Goals as goal

pub returns-in_err-put_fault-clause-front : goal.returns-in_err-put_fault-clause-front
returns-in_err-put_fault-clause-front g c =
    let put = g.N.Sink.put_so_far in
    front_of_piece (put c.args.err.now) (put c.put_fault.new.err) (fault_line c.args.fault.now) (quote_of c.args.there c.args.file.now c.args.fault.now) _ refl c.in_err-put_fault.ensures.front

pub returns-clause-bytes : goal.returns-clause-bytes
returns-clause-bytes g c =
    let put = g.N.Sink.put_so_far in
    ok_with c.put_there.result (λ more. appends_more (put c.args.err.now) (put c.put_fault.new.err) (put c.put_there.new.err) (fault_line c.args.fault.now) (quote_of c.args.there c.args.file.now c.args.fault.now) c.in_ok-put_fault.ensures.bytes
    more) c.put_there.ensures.bytes

pub returns-clause-front : goal.returns-clause-front
returns-clause-front g c =
    let put = g.N.Sink.put_so_far in
    front_behind (put c.args.err.now) (put c.put_fault.new.err) (put c.put_there.new.err) (fault_line c.args.fault.now) (quote_of c.args.there c.args.file.now c.args.fault.now) c.in_ok-put_fault.ensures.bytes
    c.put_there.ensures.front
