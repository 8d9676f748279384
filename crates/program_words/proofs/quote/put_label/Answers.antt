use Rattle.std.proofs.Common.{subst}
use Rattle.std.specs.Io.KnownBytes.{Appends}
use Rattle.iso_lexer.specs.Devices.{PutsFront}
use Rattle.program_words.proofs.Lines.{label_pieces}
use Rattle.program_words.proofs.Putting.{ok_with}
use Rattle.program_words.proofs.quote.put_label.Goals as goal

pub returns-clause-bytes : goal.returns-clause-bytes
returns-clause-bytes g c =
    let put = g.N.Sink.put_so_far in
    ok_with c.put_pieces.result (subst (Appends (put c.args.err.now) (put c.put_pieces.new.sink))
    (label_pieces c.as_slice.result.now c.args.number.now c.as_slice-2.result.now c.args.line.now c.as_slice-3.result.now c.args.blanks.now c.as_slice-4.result.now c.as_slice.ensures c.as_slice-2.ensures c.as_slice-3.ensures c.as_slice-4.ensures)) c.put_pieces.ensures.bytes

pub returns-clause-front : goal.returns-clause-front
returns-clause-front g c =
    let put = g.N.Sink.put_so_far in
    subst (PutsFront (put c.args.err.now) (put c.put_pieces.new.sink))
    (label_pieces c.as_slice.result.now c.args.number.now c.as_slice-2.result.now c.args.line.now c.as_slice-3.result.now c.args.blanks.now c.as_slice-4.result.now c.as_slice.ensures c.as_slice-2.ensures c.as_slice-3.ensures c.as_slice-4.ensures) c.put_pieces.ensures.front
