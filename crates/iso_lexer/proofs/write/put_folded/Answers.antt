use Rattle.std.proofs.Common.{rules, ℕ, ◌+◌, List, [], ◌∷◌, map, drop, ◌≡◌, subst, sym}
use Rattle.std.specs.Char.{to_ascii_lowercase}
use Rattle.std.specs.Io.KnownBytes.{Appends}
use Rattle.iso_lexer.specs.Devices.{PutsFront}
use Rattle.iso_lexer.proofs.Writing.{all_gone, front_gone, front_of_piece, next_gone, next_byte, no_more, on_ok}
use Rattle.iso_lexer.proofs.write.put_folded.Goals as goal

pub returns-in_err-put-clause-front : goal.returns-in_err-put-clause-front
returns-in_err-put-clause-front g c =
    let put = g.W.Sink.put_so_far in
    let left : ℕ → List ℕ = λ i. map to_ascii_lowercase (drop i c.args.text.now) in
    front_gone (put c.args.out.now) (put c.loop-b.out) (put c.put.new.self) (left c.loop-b.b-index) (left 0) c.loop-b.invariant.gone
    (front_of_piece (put c.loop-b.out) (put c.put.new.self) (c.to_ascii_lowercase.result ∷ []) (left (c.loop-b.b-index + 1)) (left c.loop-b.b-index)
    (next_byte to_ascii_lowercase c.args.text.now c.loop-b.b-index c.to_ascii_lowercase.result (search rules) (search rules)) c.in_err-put.ensures.front)

pub loop-b-preserved : goal.loop-b-preserved
loop-b-preserved g c =
    let put = g.W.Sink.put_so_far in
    let left : ℕ → List ℕ = λ i. map to_ascii_lowercase (drop i c.args.text.now) in
    record {
      gone = next_gone (put c.args.out.now) (put c.loop-b.out) (put c.put.new.self) (c.to_ascii_lowercase.result ∷ []) (left c.loop-b.b-index) (left (c.loop-b.b-index + 1)) (left 0) c.loop-b.invariant.gone c.in_ok-put.ensures.bytes
          (next_byte to_ascii_lowercase c.args.text.now c.loop-b.b-index c.to_ascii_lowercase.result (search rules) (search rules));
      stays = search rules;
    }

pub returns-clause-bytes : goal.returns-clause-bytes
returns-clause-bytes g c =
    let put = g.W.Sink.put_so_far in
    let left : ℕ → List ℕ = λ i. map to_ascii_lowercase (drop i c.args.text.now) in
    let none : left c.loop-b.b-index ≡ [] = no_more to_ascii_lowercase c.args.text.now c.loop-b.b-index (search rules) in
    on_ok c.put-2.result c.put-2.ensures.bytes (λ h. all_gone (put c.args.out.now) (put c.loop-b.out) (put c.put-2.new.self) (left c.loop-b.b-index) (left 0) c.loop-b.invariant.gone (subst (Appends (put c.loop-b.out) (put c.put-2.new.self)) (sym none) h))

pub returns-clause-front : goal.returns-clause-front
returns-clause-front g c =
    let put = g.W.Sink.put_so_far in
    let left : ℕ → List ℕ = λ i. map to_ascii_lowercase (drop i c.args.text.now) in
    let none : left c.loop-b.b-index ≡ [] = no_more to_ascii_lowercase c.args.text.now c.loop-b.b-index (search rules) in
    front_gone (put c.args.out.now) (put c.loop-b.out) (put c.put-2.new.self) (left c.loop-b.b-index) (left 0) c.loop-b.invariant.gone (subst (PutsFront (put c.loop-b.out) (put c.put-2.new.self)) (sym none) c.put-2.ensures.front)
