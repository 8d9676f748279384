use Rattle.std.proofs.Common.{◌≡◌, true, map, take}
use Rattle.std.specs.Io.KnownBytes.{Appends}
use Rattle.std.specs.List.{concat}
use Rattle.program_words.proofs.pieces.put_pieces.Given as goal

-- the pieces so far went out
abbrev pub invariant-loop-piece : goal.invariant-loop-piece
invariant-loop-piece g l =
    let put = g.N.Sink.put_so_far in
    let failed = g.N.Sink.failed in
    record { out : Appends (put l.fn.sink) (put l.sink) (concat (map (λ piece. piece.now) (take l.piece-index l.pieces))); stays : failed l.fn.sink ≡ true → failed l.sink ≡ true }
