use Rattle.std.proofs.Common.{subst}
use Rattle.std.specs.Io.KnownBytes.{Appends}
use Rattle.iso_lexer.specs.Devices.{PutsFront}
use Rattle.program_words.proofs.Lines.{line_pieces}
use Rattle.program_words.proofs.Putting.{ok_with}
use Rattle.program_words.proofs.fault_line.put_parts.Goals as goal

pub returns-clause-bytes : goal.returns-clause-bytes
returns-clause-bytes g c =
    let put = g.N.Sink.put_so_far in
    ok_with c.put_pieces.result (subst (Appends (put c.args.err.now) (put c.put_pieces.new.sink))
    (line_pieces c.as_slice-program.result.now c.args.name.now c.args.text.now c.args.at_byte.now c.args.number.now c.as_slice-newline.result.now c.as_slice-program.ensures c.as_slice-newline.ensures)) c.put_pieces.ensures.bytes

pub returns-clause-front : goal.returns-clause-front
returns-clause-front g c =
    let put = g.N.Sink.put_so_far in
    subst (PutsFront (put c.args.err.now) (put c.put_pieces.new.sink))
    (line_pieces c.as_slice-program.result.now c.args.name.now c.args.text.now c.args.at_byte.now c.args.number.now c.as_slice-newline.result.now c.as_slice-program.ensures c.as_slice-newline.ensures) c.put_pieces.ensures.front
