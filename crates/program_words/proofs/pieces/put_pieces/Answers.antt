use Rattle.std.proofs.Common.{[], rules, refl}
use Rattle.program_words.proofs.Putting.{front_at, more_out}
use Rattle.program_words.proofs.pieces.put_pieces.Goals as goal

pub returns-in_err-put-clause-front : goal.returns-in_err-put-clause-front
returns-in_err-put-clause-front g c =
    let put = g.N.Sink.put_so_far in
    front_at (λ piece. piece.now) c.args.pieces.now c.loop-piece.piece-index (record { ref_ptr = (0, 0); now = [] }) (put c.args.sink.now) (put c.loop-piece.sink) (put c.put.new.self) _
    (search rules) refl c.loop-piece.invariant.out c.in_err-put.ensures.front

pub loop-piece-preserved : goal.loop-piece-preserved
loop-piece-preserved g c =
    let put = g.N.Sink.put_so_far in
    record {
      out = more_out (λ piece. piece.now) c.args.pieces.now c.loop-piece.piece-index (record { ref_ptr = (0, 0); now = [] }) (put c.args.sink.now) (put c.loop-piece.sink) (put c.put.new.self) _
          (search rules) refl c.loop-piece.invariant.out c.in_ok-put.ensures.bytes;
      stays = search rules;
    }
