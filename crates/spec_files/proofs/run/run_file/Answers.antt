use Rattle.std.proofs.lemmas.Result.{err_from_is_err_and}
use Rattle.std.proofs.Common.{◌∙◌}
use Rattle.spec_files.specs.BlockAnswers.{file_view}
use Rattle.spec_files.proofs.Whole.{refused_file, ran, broke, room_of}
use Rattle.spec_files.proofs.Beginning.{no_line_begun, file_begun}
use Rattle.spec_files.proofs.run.run_file.Goals as goal

pub returns-in_err-file-clause-refused : goal.returns-in_err-file-clause-refused
returns-in_err-file-clause-refused g c =
    let p = err_from_is_err_and c.from_residual.result c.from_residual.ensures.1 in
    rw (p.1, p.2) (λ refusal. refused_file c.args.bytes.now c.args.limit c.in_err-file.field-0.0 c.in_err-file.ensures.err refusal)

pub returns-clause-told : goal.returns-clause-told
returns-clause-told g c =
    let line = c.as_slice.ensures.value ∙ c.in_ok-line.ensures in
    λ ended.
    let one = c.run_permutations.ensures.told ended in
    let all = ran c.args.bytes.now c.args.limit (file_view c.in_ok-file.file)
    (g.W.Sink.put_so_far c.args.out.now) (g.W.Sink.put_so_far c.put.new.self) (g.W.Sink.put_so_far c.run_permutations.new.out)
    (g.N.Sink.put_so_far c.args.notes.now) (g.N.Sink.put_so_far c.run_permutations.new.notes)
    c.run_permutations.result c.as_slice.result.now one.0 c.in_ok-file.ensures.ok line c.in_ok-put.ensures.bytes one.1 one.2 in
    (all.said, all.says_so, all.told)

pub returns-clause-broken : goal.returns-clause-broken
returns-clause-broken g c =
    let line = c.as_slice.ensures.value ∙ c.in_ok-line.ensures in
    let wm = g.W.Sink.put_so_far c.put.new.self in
    let wn = g.W.Sink.put_so_far c.run_permutations.new.out in
    let eo = g.N.Sink.put_so_far c.args.notes.now in
    let en = g.N.Sink.put_so_far c.run_permutations.new.notes in
    λ broken.
    broke c.args.bytes.now c.args.limit (file_view c.in_ok-file.file) (g.W.Sink.put_so_far c.args.out.now) wm wn eo en
    c.as_slice.result.now c.in_ok-file.ensures.ok line c.in_ok-put.ensures.bytes (c.run_permutations.ensures.broken broken)

pub returns-in_err-put-clause-begun : goal.returns-in_err-put-clause-begun
returns-in_err-put-clause-begun g c =
    let line = c.as_slice.ensures.value ∙ c.in_ok-line.ensures in
    no_line_begun c.args.bytes.now c.args.limit (file_view c.in_ok-file.file)
    (g.W.Sink.put_so_far c.args.out.now) (g.W.Sink.put_so_far c.put.new.self) (g.N.Sink.put_so_far c.args.notes.now) c.as_slice.result.now c.in_ok-file.ensures.ok line c.in_err-put.ensures.front

pub returns-clause-begun : goal.returns-clause-begun
returns-clause-begun g c =
    let line = c.as_slice.ensures.value ∙ c.in_ok-line.ensures in
    let wm = g.W.Sink.put_so_far c.put.new.self in
    let wn = g.W.Sink.put_so_far c.run_permutations.new.out in
    let eo = g.N.Sink.put_so_far c.args.notes.now in
    let en = g.N.Sink.put_so_far c.run_permutations.new.notes in
    file_begun c.args.bytes.now c.args.limit (file_view c.in_ok-file.file) (g.W.Sink.put_so_far c.args.out.now) wm wn eo en c.as_slice.result.now c.in_ok-file.ensures.ok line c.in_ok-put.ensures.bytes c.run_permutations.ensures.begun

pub returns-in_err-line-clause-room : goal.returns-in_err-line-clause-room
returns-in_err-line-clause-room g c = λ _. room_of c.args.bytes.now (file_view c.in_ok-file.file) c.in_ok-file.ensures.ok

pub returns-clause-room : goal.returns-clause-room
returns-clause-room g c = λ _. room_of c.args.bytes.now (file_view c.in_ok-file.file) c.in_ok-file.ensures.ok

pub returns-clause-sure : goal.returns-clause-sure
returns-clause-sure g c = λ complete.
    let there = complete (file_view c.in_ok-file.file) c.in_ok-file.ensures.ok in
    c.run_permutations.ensures.sure there.0 there.1
