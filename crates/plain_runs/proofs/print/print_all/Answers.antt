use Rattle.std.proofs.Common.{◌≡◌, ◌∷◌, ◌<◌, [], List, Err, subst, rules, arith, refl, sym}
use Rattle.std.specs.Prelude.{Contains}
use Rattle.std.proofs.lemmas.List.Elements.{Contains-append_left, Contains-append_right, Contains-push}
use Rattle.std.proofs.lemmas.Result.{err_from_is_err_and}
use Rattle.sql_blocks.specs.Blocks.{blocks_of}
use Rattle.spec_parser.specs.Trees.{EntryTree, spec_view}
use Rattle.permutation_lists.specs.Permutations.{Coming, permutations_of}
use Rattle.spec_files.specs.Runs.{IsOneTold}
use Rattle.spec_files.proofs.Printing.{SoFar, starts, goes_on, all_ran, one_too_many, run_stops}
use Rattle.spec_files.specs.Complete.{HasItsSteps}
use Rattle.plain_runs.proofs.print.print_all.Goals as goal

pub loop-permutations-init : goal.loop-permutations-init
loop-permutations-init g c =
    let spec = spec_view c.args.spec.now in
    let blocks = blocks_of c.args.blocks.now in
    let out = g.W.Sink.put_so_far c.args.out.now in
    let notes = g.N.Sink.put_so_far c.args.notes.now in
    subst (λ (coming : Coming). SoFar spec blocks out out notes notes c.args.limit (permutations_of spec) c.args.limit coming.more × ((p : List EntryTree) → Contains coming.more p → Contains (permutations_of spec) p))
    (sym c.in_ok-permutations.ensures.permutations) (starts spec blocks out notes c.args.limit (permutations_of spec), λ p is. is)

pub loop-permutations-preserved : goal.loop-permutations-preserved
loop-permutations-preserved g c =
    let spec = spec_view c.args.spec.now in
    let blocks = blocks_of c.args.blocks.now in
    let wm = g.W.Sink.put_so_far c.loop-permutations.out in
    let wn = g.W.Sink.put_so_far c.print_one.new.out in
    let em = g.N.Sink.put_so_far c.loop-permutations.notes in
    let en = g.N.Sink.put_so_far c.print_one.new.notes in
    let more : c.loop-permutations.permutations.more ≡ c.advance.new.self.here ∷ c.advance.new.self.more = search rules in
    let one = subst (λ (p : List EntryTree). IsOneTold spec blocks p wm wn em en _) c.entries.ensures (c.in_ok-print_one.ensures.told refl) in (
      goes_on spec blocks (g.W.Sink.put_so_far c.args.out.now) wm wn (g.N.Sink.put_so_far c.args.notes.now) em en
          c.args.limit (permutations_of spec) c.loop-permutations.left c.loop-permutations.permutations.more c.advance.new.self.here c.advance.new.self.more
          c.loop-permutations.invariant.0 more (omega (arith, c.if-left-eq0.false)) one,
      λ p is. c.loop-permutations.invariant.1 p (subst (λ (ps : List (List EntryTree)). Contains ps p) (sym more) (Contains-append_right (c.advance.new.self.here ∷ []) c.advance.new.self.more p is)),
    )

pub returns-in_err-print_one-clause-told : goal.returns-in_err-print_one-clause-told
returns-in_err-print_one-clause-told g c =
    let spec = spec_view c.args.spec.now in
    let blocks = blocks_of c.args.blocks.now in
    let wm = g.W.Sink.put_so_far c.loop-permutations.out in
    let wn = g.W.Sink.put_so_far c.print_one.new.out in
    let em = g.N.Sink.put_so_far c.loop-permutations.notes in
    let en = g.N.Sink.put_so_far c.print_one.new.notes in
    let more : c.loop-permutations.permutations.more ≡ c.advance.new.self.here ∷ c.advance.new.self.more = search rules in
    let some : 0 < c.loop-permutations.left = omega (arith, c.if-left-eq0.false) in
    let p = err_from_is_err_and c.from_residual-in_err-print_one.result c.from_residual-in_err-print_one.ensures.1 in
    rw (p.1, p.2) (λ early.
    let one = subst (λ (p : List EntryTree). IsOneTold spec blocks p wm wn em en (Err c.in_err-print_one.field-0.0)) c.entries.ensures (c.in_err-print_one.ensures.told early) in
    let end = run_stops spec blocks (g.W.Sink.put_so_far c.args.out.now) wm wn (g.N.Sink.put_so_far c.args.notes.now) em en
    c.args.limit (permutations_of spec) c.loop-permutations.left c.loop-permutations.permutations.more c.advance.new.self.here c.advance.new.self.more
    c.in_err-print_one.field-0.0 c.loop-permutations.invariant.0 more some one in
    (end.said, end.prints, end.told))

pub print_one-requires-clause-steps : goal.print_one-requires-clause-steps
print_one-requires-clause-steps g c =
    let spec = spec_view c.args.spec.now in
    let here = c.advance.new.self.here in
    let more : c.loop-permutations.permutations.more ≡ here ∷ c.advance.new.self.more = search rules in
    let there : Contains (permutations_of spec) here =
    c.loop-permutations.invariant.1 here (subst (λ (ps : List (List EntryTree)). Contains ps here) (sym more) (Contains-append_left (here ∷ []) c.advance.new.self.more here (Contains-push [] here))) in
    subst (HasItsSteps spec) (sym c.entries.ensures) (c.requires.steps here there)

pub returns-in_err-print_one-clause-faults : goal.returns-in_err-print_one-clause-faults
returns-in_err-print_one-clause-faults g c =
    let p = err_from_is_err_and c.from_residual-in_err-print_one.result c.from_residual-in_err-print_one.ensures.1 in
    rw (p.1, p.2) c.in_err-print_one.ensures.faults

pub returns-then-left-eq0-clause-told : goal.returns-then-left-eq0-clause-told
returns-then-left-eq0-clause-told g c =
    let more : c.loop-permutations.permutations.more ≡ c.advance.new.self.here ∷ c.advance.new.self.more = search rules in
    let end = one_too_many (spec_view c.args.spec.now) (blocks_of c.args.blocks.now) (g.W.Sink.put_so_far c.args.out.now) (g.W.Sink.put_so_far c.loop-permutations.out)
    (g.N.Sink.put_so_far c.args.notes.now) (g.N.Sink.put_so_far c.loop-permutations.notes) c.args.limit (permutations_of (spec_view c.args.spec.now))
    c.loop-permutations.left c.loop-permutations.permutations.more c.advance.new.self.here c.advance.new.self.more c.loop-permutations.invariant.0 more c.if-left-eq0.true in
    λ _. (end.said, end.prints, end.told)

pub returns-clause-told : goal.returns-clause-told
returns-clause-told g c =
    let none : c.loop-permutations.permutations.more ≡ [] = search rules in
    let end = all_ran (spec_view c.args.spec.now) (blocks_of c.args.blocks.now) (g.W.Sink.put_so_far c.args.out.now) (g.W.Sink.put_so_far c.loop-permutations.out)
    (g.N.Sink.put_so_far c.args.notes.now) (g.N.Sink.put_so_far c.loop-permutations.notes) c.args.limit (permutations_of (spec_view c.args.spec.now))
    c.loop-permutations.left c.loop-permutations.permutations.more c.loop-permutations.invariant.0 none in
    λ _. (end.said, end.prints, end.told)
