use Rattle.std.proofs.lemmas.Result.{err_from_is_err_and}
use Rattle.spec_files.specs.Begun.{ListBegun}
use Rattle.spec_files.proofs.Listing.{read_lists, of_bytes}
use Rattle.spec_files.proofs.list.list_spec.Goals as goal

pub returns-clause-begun : goal.returns-clause-begun
returns-clause-begun g c =
    of_bytes (λ bytes. ListBegun bytes c.args.limit (g.W.Sink.put_so_far c.args.out.now) (g.W.Sink.put_so_far c.list_file.new.out)) 1048577
    (g.S.Source.left c.args.input.now) c.deref.result.now c.in_ok-bytes.bytes.items c.deref.ensures.value c.in_ok-bytes.ensures.bytes.front c.list_file.ensures.begun

pub returns-in_err-bytes-clause-kinds : goal.returns-in_err-bytes-clause-kinds
returns-in_err-bytes-clause-kinds g c =
    let p = err_from_is_err_and c.from_residual.result c.from_residual.ensures.1 in
    rw (p.1, p.2) (read_lists c.in_err-bytes.field-0.0)
