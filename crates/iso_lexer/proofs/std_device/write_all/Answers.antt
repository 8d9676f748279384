use Rattle.std.proofs.Common.{◌≡◌, ℕ, ◌-◌, ◌∙◌, List, [], Bor, ap, drop, le_of_eq, length, length-drop, take, take_all, take-append-drop, refl, sym}
use Rattle.iso_lexer.proofs.Writing.{kept_nothing, next_gone}
use Rattle.iso_lexer.proofs.std_device.write_all.Goals.{in-Ok, in-Err}
use Rattle.iso_lexer.proofs.std_device.write_all.Goals as goal

pub loop-preserved : goal.loop-preserved
loop-preserved g c =
    let put = g.T.Write.contents in
    let rest = c.loop.rest.now in
    elim c.match-write.branch [
      | in-Ok w ↦
          let behind : c.match-write.rest.now ≡ drop w.in-Ok.n rest = ap (λ (b : Bor (List ℕ)). b.now) w.rest-is ∙ take_all (length rest - w.in-Ok.n) (drop w.in-Ok.n rest) (le_of_eq (length-drop w.in-Ok.n rest)) in
          rw behind (next_gone (put c.args.to.now) (put c.loop.to) (put c.write.new.self) (take w.in-Ok.n rest) rest (drop w.in-Ok.n rest) c.args.bytes.now c.loop.invariant w.in-Ok.ensures.bytes (sym (take-append-drop w.in-Ok.n rest)))
      | in-Err w ↦ rw w.rest-is (next_gone (put c.args.to.now) (put c.loop.to) (put c.write.new.self) [] rest rest c.args.bytes.now c.loop.invariant (kept_nothing (put c.loop.to) (put c.write.new.self) w.in-Err.ensures.bytes) refl)
    ]
