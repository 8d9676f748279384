use Rattle.std.proofs.Common.{◌∙◌, sym, subst, ap, Err, arith}
use Rattle.iso_lexer.specs.declared.whole.ReadFault.{ReadFault}
use Rattle.iso_lexer.specs.declared.whole.ReadFault.TheVariants.{Device}
use Rattle.spec_files.specs.declared.fault.RunFault.{RunFault}
use Rattle.program_words.specs.Terminal.{FailsFirst, Hints, faulted}
use Rattle.program_words.proofs.Putting.{fails_first, on_ok, well_read}
use Rattle.program_words.proofs.terminal.read_there.Goals as goal

pub returns-in-Ok-clause-hints : goal.returns-in-Ok-clause-hints
returns-in-Ok-clause-hints g c =
    on_ok c.put_hint.result (Hints c.args.typed (g.N.Sink.put_so_far c.args.err.now) (g.N.Sink.put_so_far c.put_hint.new.err)) (sym c.is_err.ensures.value ∙ c.if-is_err.false) c.put_hint.ensures.hints

pub returns-in-Ok-clause-well : goal.returns-in-Ok-clause-well
returns-in-Ok-clause-well g c = well_read (g.S.Source.failed c.read_all.new.source) c.in-Ok.file Device (c.in-Ok.ensures.failed (omega arith))

pub returns-in-Err-clause-unread : goal.returns-in-Err-clause-unread
returns-in-Err-clause-unread g c =
    let hinted = g.N.Sink.put_so_far c.put_hint.new.err in
    let hints = on_ok c.put_hint.result (Hints c.args.typed (g.N.Sink.put_so_far c.args.err.now) hinted) (sym c.is_err.ensures.value ∙ c.if-is_err.false) c.put_hint.ensures.hints in
    let failed = g.S.Source.failed c.read_all.new.source in
    let first = subst (λ (e : RunFault). FailsFirst failed e) (sym c.from.ensures)
    (fails_first failed c.in-Err.fault (λ of_device. c.in-Err.ensures.device (ap (λ (f : ReadFault). Err f) of_device)) (λ fails. let it = c.in-Err.ensures.failed (omega arith) fails in cc)) in
    faulted hinted hints c.from.result first c.told.ensures.told c.in-Err.ensures.few c.told.ensures.status
