use Rattle.std.proofs.Common.{◌≡◌, ◌+◌, true, List, ◌++◌, ◌∷◌, [], ℕ, sym, subst, arith, rules}
use Rattle.std.specs.Prelude.{Some, slice_get}
use Rattle.std.proofs.lemmas.Grind.{common_steps}
use Rattle.std.proofs.lemmas.Option.{gets, slice_get-map}
use Rattle.session_seats.specs.Free.{scripts_in}
use Rattle.session_seats.specs.FreeRuns.{script_events}
use Rattle.session_crews.specs.Inner.FreeRuns.{ProgressOf, IsAt}
use Rattle.session_crews.proofs.Scripts.{starts_on}
use Rattle.session_crews.proofs.free.at_start.Goals as goal

pub loop-place-preserved : goal.loop-place-preserved
loop-place-preserved c =
    let old = c.loop-place.progress.items in
    let at = c.loop-place.place in
    let scripts = scripts_in c.args.scripts.now in
    let script = c.index-scripts-place.result.items in
    let pushed : c.push.new.self.items ≡ old ++ c.new-own.result ∷ [] = search rules in
    let its : slice_get scripts at ≡ Some script = grind (arith, common_steps, gets, slice_get-map, c.index-scripts-place.is, c.loop-place-test.true) in
    let own = subst (λ (blocks : List ℕ). c.new-own.result ≡ record { session = at + 1; over = true; events = script_events (at + 1) blocks }) c.deref.ensures.value c.new-own.ensures in
    record {
      count = grind (arith, common_steps, pushed, c.loop-place.invariant.count);
      each = subst (λ w. (k : ℕ) (p : ProgressOf) → slice_get w k ≡ Some p → IsAt scripts [] k p) (sym pushed)
          (starts_on scripts old at script c.new-own.result c.loop-place.invariant.each c.loop-place.invariant.count its own);
    }
