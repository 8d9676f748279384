use Rattle.std.proofs.Common.{rules, ◌++◌, take, length-append, length-take-le}
use Rattle.std.proofs.KnownBytes.{Consumes-trans}
use Rattle.iso_lexer.specs.Devices.{TakesFew}
use Rattle.iso_lexer.proofs.whole.read_all.Goals as goal

-- src/whole.rt:56:9
pub returns-in_err-extend_from_slice-clause-few : goal.returns-in_err-extend_from_slice-clause-few
returns-in_err-extend_from_slice-clause-few g c =
    let few : TakesFew c.args.limit (g.S.Source.left c.args.source.now) (g.S.Source.left c.read.new.self) = record {
      bytes = c.loop-buffer.bytes.items ++ take c.in_ok-n.n c.read.new.buf;
      within = search (rules, length-append, length-take-le);
      consumed = Consumes-trans _ _ _ _ _ c.loop-buffer.invariant.consumed (c.in_ok-n.ensures.bytes.0);
    } in
    search (rules, few)
