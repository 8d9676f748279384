use Rattle.std.proofs.lemmas.Result.{err_from_is_err_and}
use Rattle.spec_files.specs.BlockAnswers.{file_view}
use Rattle.spec_files.proofs.Listing.{refused_list, file_listed, list_begun, reading_lists}
use Rattle.spec_files.proofs.list.list_file.Goals as goal

pub returns-in_err-file-clause-refused : goal.returns-in_err-file-clause-refused
returns-in_err-file-clause-refused g c =
    let p = err_from_is_err_and c.from_residual.result c.from_residual.ensures.1 in
    rw (p.1, p.2) (λ refusal. refused_list c.args.bytes.now c.args.limit c.in_err-file.field-0.0 c.in_err-file.ensures.err refusal)

pub returns-clause-lists : goal.returns-clause-lists
returns-clause-lists g c = λ ended. (_, file_listed c.args.bytes.now c.args.limit (file_view c.in_ok-file.file) c.in_ok-file.ensures.ok, c.list_permutations.ensures.lists ended)

pub returns-in_err-file-clause-kinds : goal.returns-in_err-file-clause-kinds
returns-in_err-file-clause-kinds g c =
    let p = err_from_is_err_and c.from_residual.result c.from_residual.ensures.1 in
    rw (p.1, p.2) (reading_lists c.in_err-file.field-0.0 c.in_err-file.ensures.kinds)

pub returns-clause-begun : goal.returns-clause-begun
returns-clause-begun g c =
    list_begun c.args.bytes.now c.args.limit (file_view c.in_ok-file.file) (g.W.Sink.put_so_far c.args.out.now) (g.W.Sink.put_so_far c.list_permutations.new.out) c.in_ok-file.ensures.ok c.list_permutations.ensures.begun
