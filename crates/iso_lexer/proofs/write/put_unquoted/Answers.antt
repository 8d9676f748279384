use Rattle.std.proofs.Common.{rules, ℕ, List, drop, length, min, refl, subst}
use Rattle.std.specs.Io.KnownBytes.{Appends}
use Rattle.iso_lexer.specs.Devices.{PutsFront}
use Rattle.iso_lexer.specs.Names.{unquoted}
use Rattle.iso_lexer.proofs.Writing.{all_gone, front_gone, front_of_piece, next_gone, up_to_quote, no_more_quotes, on_ok}
use Rattle.iso_lexer.proofs.write.put_unquoted.Goals as goal

pub loop-at-preserved : goal.loop-at-preserved
loop-at-preserved g c =
    let put = g.W.Sink.put_so_far in
    record {
      gone = next_gone (put c.args.out.now) (put c.loop-at.out) (put c.put.new.self) c.split_at.result.0.now (unquoted c.loop-at.rest.now) (unquoted c.split_at-in-Some.result.1.now) (unquoted c.args.text.now) c.loop-at.invariant.gone c.in_ok-put.ensures.bytes
          (up_to_quote c.loop-at.rest.now c.split_at.result.0.now c.split_at.result.1.now c.split_at-in-Some.result.1.now c.in-Some.at c.min.result c.in-Some.ensures c.split_at.ensures.front c.split_at.ensures.back c.min.ensures c.split_at-in-Some.ensures.back);
      stays = search rules;
      within = search rules;
    }

pub returns-in_err-put-clause-front : goal.returns-in_err-put-clause-front
returns-in_err-put-clause-front g c =
    let put = g.W.Sink.put_so_far in
    let more : List ℕ = unquoted (drop (min (length c.split_at.result.1.now) 1) c.split_at.result.1.now) in
    front_gone (put c.args.out.now) (put c.loop-at.out) (put c.put.new.self) (unquoted c.loop-at.rest.now) (unquoted c.args.text.now) c.loop-at.invariant.gone
    (front_of_piece (put c.loop-at.out) (put c.put.new.self) c.split_at.result.0.now more (unquoted c.loop-at.rest.now)
    (up_to_quote c.loop-at.rest.now c.split_at.result.0.now c.split_at.result.1.now (drop (min (length c.split_at.result.1.now) 1) c.split_at.result.1.now) c.in-Some.at (min (length c.split_at.result.1.now) 1) c.in-Some.ensures c.split_at.ensures.front c.split_at.ensures.back refl refl)
    c.in_err-put.ensures.front)

pub returns-clause-bytes : goal.returns-clause-bytes
returns-clause-bytes g c =
    let put = g.W.Sink.put_so_far in
    on_ok c.put-2.result c.put-2.ensures.bytes (λ h. all_gone (put c.args.out.now) (put c.loop-at.out) (put c.put-2.new.self) (unquoted c.loop-at.rest.now) (unquoted c.args.text.now) c.loop-at.invariant.gone (subst (Appends (put c.loop-at.out) (put c.put-2.new.self)) (no_more_quotes c.loop-at.rest.now c.in_default.ensures) h))

pub returns-clause-front : goal.returns-clause-front
returns-clause-front g c =
    let put = g.W.Sink.put_so_far in
    front_gone (put c.args.out.now) (put c.loop-at.out) (put c.put-2.new.self) (unquoted c.loop-at.rest.now) (unquoted c.args.text.now) c.loop-at.invariant.gone (subst (PutsFront (put c.loop-at.out) (put c.put-2.new.self)) (no_more_quotes c.loop-at.rest.now c.in_default.ensures) c.put-2.ensures.front)
