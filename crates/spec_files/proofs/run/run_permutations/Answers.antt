use Rattle.std.proofs.lemmas.Result.{err_from_is_err_and}
use Rattle.std.proofs.Common.{◌≡◌, ◌≢◌, ◌∷◌, ◌<◌, ◌≤◌, [], List, length, rules, arith, refl, sym, ap, subst, ◌+◌, ◌-◌}
use Rattle.std.specs.Prelude.{Contains}
use Rattle.sql_blocks.specs.Blocks.{blocks_of}
use Rattle.spec_parser.specs.Trees.{EntryTree, spec_view}
use Rattle.permutation_lists.specs.Permutations.{permutations_of}
use Rattle.spec_files.specs.Drafts.{IsDraft, entries_of}
use Rattle.spec_files.specs.Inner.Drafts.{to_come}
use Rattle.spec_files.proofs.Printing.{starts, still, goes_on, all_ran, one_too_many, run_stops, breaks}
use Rattle.spec_files.proofs.Beginning.{at_sink, whole_begun, next_begun}
use Rattle.spec_files.proofs.Turns.{draft_told, draft_begun, draft_broken, draft_sure, is_among, rest_among, no_drafts, all_come, first_of, none_left}
use Rattle.spec_files.proofs.run.run_permutations.Goals as goal

pub loop-ahead-init : goal.loop-ahead-init
loop-ahead-init g c =
    let spec = spec_view c.args.file.now.spec in
    let blocks = blocks_of c.args.file.now.blocks.items in
    let ahead = c.in_ok-ahead.ahead in
    let out = g.W.Sink.put_so_far c.args.out.now in
    let notes = g.N.Sink.put_so_far c.args.notes.now in
    let all = all_come ahead.drafts.items ahead.behind.more (permutations_of spec) c.in_ok-ahead.ensures.drafts c.in_ok-ahead.ensures.behind in
    let left : ahead.left ≡ c.args.limit = c.in_ok-ahead.ensures.left in
    let few : length ahead.drafts.items ≤ ahead.left = rw c.in_ok-ahead.ensures.drafts (omega arith) in (
      still spec blocks out out notes notes c.args.limit (permutations_of spec) c.args.limit (permutations_of spec) ahead.left (to_come ahead.drafts.items ahead.behind.more) left (sym all)
          (starts spec blocks out notes c.args.limit (permutations_of spec)),
      no_drafts spec blocks ahead.drafts.items c.in_ok-ahead.ensures.drafts,
      few,
      λ p is. subst (λ (ps : List (List EntryTree)). Contains ps p) (sym all) is,
    )

pub loop-ahead-preserved : goal.loop-ahead-preserved
loop-ahead-preserved g c =
    let spec = spec_view c.args.file.now.spec in
    let blocks = blocks_of c.args.file.now.blocks.items in
    let all = permutations_of spec in
    let old = c.loop-ahead.ahead in
    let new = c.next.new.self in
    let more = to_come old.drafts.items old.behind.more in
    let rest = to_come new.drafts.items new.behind.more in
    let so = c.loop-ahead.invariant.0 in
    let wo = g.W.Sink.put_so_far c.args.out.now in
    let wm = g.W.Sink.put_so_far c.loop-ahead.out in
    let eo = g.N.Sink.put_so_far c.args.notes.now in
    let em = g.N.Sink.put_so_far c.loop-ahead.notes in
    let wn = g.W.Sink.put_so_far c.put.new.out in
    let en = g.N.Sink.put_so_far c.put.new.notes in
    let left : old.left ≡ new.left + 1 = search rules in
    let some : 0 < old.left = omega (arith, left) in
    let is : IsDraft spec blocks c.in-Some.draft = search rules in
    let next : more ≡ entries_of c.in-Some.draft ∷ rest = search rules in
    let put = c.in_ok-put.ensures.whole refl in
    let one = draft_told spec blocks c.in-Some.draft wm wn em en _ is c.in_ok-put.ensures.answer refl put.0 put.1 in
    let goes = goes_on spec blocks wo wm wn eo em en c.args.limit all old.left more (entries_of c.in-Some.draft) rest so next some one in
    let one_less : new.left ≡ old.left - 1 = omega (arith, left) in (
      still spec blocks wo wn eo en c.args.limit all (old.left - 1) rest new.left rest one_less refl goes,
      search rules,
      search rules,
      rest_among all more rest (entries_of c.in-Some.draft) c.loop-ahead.invariant.3 next,
    )

pub returns-in_err-put-clause-told : goal.returns-in_err-put-clause-told
returns-in_err-put-clause-told g c =
    let spec = spec_view c.args.file.now.spec in
    let blocks = blocks_of c.args.file.now.blocks.items in
    let all = permutations_of spec in
    let old = c.loop-ahead.ahead in
    let new = c.next.new.self in
    let more = to_come old.drafts.items old.behind.more in
    let rest = to_come new.drafts.items new.behind.more in
    let so = c.loop-ahead.invariant.0 in
    let wo = g.W.Sink.put_so_far c.args.out.now in
    let wm = g.W.Sink.put_so_far c.loop-ahead.out in
    let eo = g.N.Sink.put_so_far c.args.notes.now in
    let em = g.N.Sink.put_so_far c.loop-ahead.notes in
    let wn = g.W.Sink.put_so_far c.put.new.out in
    let en = g.N.Sink.put_so_far c.put.new.notes in
    let left : old.left ≡ new.left + 1 = search rules in
    let some : 0 < old.left = omega (arith, left) in
    let is : IsDraft spec blocks c.in-Some.draft = search rules in
    let next : more ≡ entries_of c.in-Some.draft ∷ rest = search rules in
    let p = err_from_is_err_and c.from_residual-in_err-put.result c.from_residual-in_err-put.ensures.1 in
    rw (p.1, p.2) (λ early.
    let put = c.in_err-put.ensures.whole early in
    let one = draft_told spec blocks c.in-Some.draft wm wn em en _ is c.in_err-put.ensures.answer early put.0 put.1 in
    let end = run_stops spec blocks wo wm wn eo em en c.args.limit all old.left more (entries_of c.in-Some.draft) rest c.in_err-put.field-0.0 so next some one in
    (end.said, end.prints, end.told))

pub returns-in_err-put-clause-broken : goal.returns-in_err-put-clause-broken
returns-in_err-put-clause-broken g c =
    let spec = spec_view c.args.file.now.spec in
    let blocks = blocks_of c.args.file.now.blocks.items in
    let all = permutations_of spec in
    let old = c.loop-ahead.ahead in
    let new = c.next.new.self in
    let more = to_come old.drafts.items old.behind.more in
    let rest = to_come new.drafts.items new.behind.more in
    let so = c.loop-ahead.invariant.0 in
    let wo = g.W.Sink.put_so_far c.args.out.now in
    let wm = g.W.Sink.put_so_far c.loop-ahead.out in
    let eo = g.N.Sink.put_so_far c.args.notes.now in
    let em = g.N.Sink.put_so_far c.loop-ahead.notes in
    let left : old.left ≡ new.left + 1 = search rules in
    let some : 0 < old.left = omega (arith, left) in
    let next : more ≡ entries_of c.in-Some.draft ∷ rest = search rules in
    let p = err_from_is_err_and c.from_residual-in_err-put.result c.from_residual-in_err-put.ensures.1 in
    rw (p.1, p.2) (λ broken.
    let same = c.in_err-put.ensures.nothing (draft_broken c.in-Some.draft _ c.in_err-put.ensures.answer broken) in
    rw (same.0, same.1) (breaks spec blocks wo wm eo em c.args.limit all old.left more (entries_of c.in-Some.draft) rest so next some))

pub returns-in_err-put-clause-sure : goal.returns-in_err-put-clause-sure
returns-in_err-put-clause-sure g c =
    let spec = spec_view c.args.file.now.spec in
    let blocks = blocks_of c.args.file.now.blocks.items in
    let old = c.loop-ahead.ahead in
    let more = to_come old.drafts.items old.behind.more in
    let rest = to_come c.next.new.self.drafts.items c.next.new.self.behind.more in
    let is : IsDraft spec blocks c.in-Some.draft = search rules in
    let next : more ≡ entries_of c.in-Some.draft ∷ rest = search rules in
    let there = is_among (permutations_of spec) more rest (entries_of c.in-Some.draft) c.loop-ahead.invariant.3 next in
    let p = err_from_is_err_and c.from_residual-in_err-put.result c.from_residual-in_err-put.ensures.1 in
    rw (p.1, p.2) (λ has steps. draft_sure spec blocks c.in-Some.draft _ is c.in_err-put.ensures.answer has (steps (entries_of c.in-Some.draft) there))

pub returns-in_err-put-clause-begun : goal.returns-in_err-put-clause-begun
returns-in_err-put-clause-begun g c =
    let spec = spec_view c.args.file.now.spec in
    let blocks = blocks_of c.args.file.now.blocks.items in
    let all = permutations_of spec in
    let old = c.loop-ahead.ahead in
    let new = c.next.new.self in
    let more = to_come old.drafts.items old.behind.more in
    let rest = to_come new.drafts.items new.behind.more in
    let so = c.loop-ahead.invariant.0 in
    let wo = g.W.Sink.put_so_far c.args.out.now in
    let wm = g.W.Sink.put_so_far c.loop-ahead.out in
    let eo = g.N.Sink.put_so_far c.args.notes.now in
    let em = g.N.Sink.put_so_far c.loop-ahead.notes in
    let wn = g.W.Sink.put_so_far c.put.new.out in
    let en = g.N.Sink.put_so_far c.put.new.notes in
    let left : old.left ≡ new.left + 1 = search rules in
    let some : 0 < old.left = omega (arith, left) in
    let is : IsDraft spec blocks c.in-Some.draft = search rules in
    let next : more ≡ entries_of c.in-Some.draft ∷ rest = search rules in
    let begun = draft_begun spec blocks c.in-Some.draft wm wn em en is c.put.ensures.front
    (λ off. let same = c.put.ensures.nothing off in (ap g.W.Sink.put_so_far same.0, ap g.N.Sink.put_so_far same.1))
    (at_sink g.N.Sink.put_so_far c.loop-ahead.notes c.put.new.notes _ c.put.ensures.order) in
    next_begun spec blocks c.args.limit all wo wm wn eo em en old.left more (entries_of c.in-Some.draft) rest so next some begun

pub returns-then-branch-clause-told : goal.returns-then-branch-clause-told
returns-then-branch-clause-told g c =
    let spec = spec_view c.args.file.now.spec in
    let blocks = blocks_of c.args.file.now.blocks.items in
    let all = permutations_of spec in
    let old = c.loop-ahead.ahead in
    let new = c.next.new.self in
    let more = to_come old.drafts.items old.behind.more in
    let rest = to_come new.drafts.items new.behind.more in
    let so = c.loop-ahead.invariant.0 in
    let wo = g.W.Sink.put_so_far c.args.out.now in
    let wm = g.W.Sink.put_so_far c.loop-ahead.out in
    let eo = g.N.Sink.put_so_far c.args.notes.now in
    let em = g.N.Sink.put_so_far c.loop-ahead.notes in
    let left : new.left ≡ old.left = search rules in
    let same : rest ≡ more = search rules in
    let end_so = still spec blocks wo wm eo em c.args.limit all old.left more new.left rest left same so in
    let none : rest ≡ [] = search rules in
    let end = all_ran spec blocks wo wm eo em c.args.limit all new.left rest end_so none in
    λ _. (end.said, end.prints, end.told)

pub returns-clause-told : goal.returns-clause-told
returns-clause-told g c =
    let spec = spec_view c.args.file.now.spec in
    let blocks = blocks_of c.args.file.now.blocks.items in
    let all = permutations_of spec in
    let old = c.loop-ahead.ahead in
    let new = c.next.new.self in
    let more = to_come old.drafts.items old.behind.more in
    let rest = to_come new.drafts.items new.behind.more in
    let so = c.loop-ahead.invariant.0 in
    let wo = g.W.Sink.put_so_far c.args.out.now in
    let wm = g.W.Sink.put_so_far c.loop-ahead.out in
    let eo = g.N.Sink.put_so_far c.args.notes.now in
    let em = g.N.Sink.put_so_far c.loop-ahead.notes in
    let left : new.left ≡ old.left = search rules in
    let same : rest ≡ more = search rules in
    let end_so = still spec blocks wo wm eo em c.args.limit all old.left more new.left rest left same so in
    let some : rest ≢ [] = search rules in
    let first = first_of rest some in
    let none : new.left ≡ 0 = none_left old.left new.left more rest left same some (search rules) in
    let end = one_too_many spec blocks wo wm eo em c.args.limit all new.left rest first.first first.rest end_so first.is none in
    λ _. (end.said, end.prints, end.told)

pub returns-in_err-ahead-clause-begun : goal.returns-in_err-ahead-clause-begun
returns-in_err-ahead-clause-begun g c =
    let spec = spec_view c.args.file.now.spec in
    let blocks = blocks_of c.args.file.now.blocks.items in
    let all = permutations_of spec in
    let out = g.W.Sink.put_so_far c.args.out.now in
    let notes = g.N.Sink.put_so_far c.args.notes.now in
    whole_begun spec blocks c.args.limit all out out notes notes c.args.limit all (starts spec blocks out notes c.args.limit all)

pub returns-in_err-draft-clause-begun : goal.returns-in_err-draft-clause-begun
returns-in_err-draft-clause-begun g c =
    let spec = spec_view c.args.file.now.spec in
    let blocks = blocks_of c.args.file.now.blocks.items in
    let wo = g.W.Sink.put_so_far c.args.out.now in
    let wm = g.W.Sink.put_so_far c.loop-ahead.out in
    let eo = g.N.Sink.put_so_far c.args.notes.now in
    let em = g.N.Sink.put_so_far c.loop-ahead.notes in
    whole_begun spec blocks c.args.limit (permutations_of spec) wo wm eo em c.loop-ahead.ahead.left (to_come c.loop-ahead.ahead.drafts.items c.loop-ahead.ahead.behind.more) c.loop-ahead.invariant.0

pub returns-in_err-is_over-clause-begun : goal.returns-in_err-is_over-clause-begun
returns-in_err-is_over-clause-begun g c =
    let spec = spec_view c.args.file.now.spec in
    let blocks = blocks_of c.args.file.now.blocks.items in
    let wo = g.W.Sink.put_so_far c.args.out.now in
    let wm = g.W.Sink.put_so_far c.loop-ahead.out in
    let eo = g.N.Sink.put_so_far c.args.notes.now in
    let em = g.N.Sink.put_so_far c.loop-ahead.notes in
    whole_begun spec blocks c.args.limit (permutations_of spec) wo wm eo em c.loop-ahead.ahead.left (to_come c.loop-ahead.ahead.drafts.items c.loop-ahead.ahead.behind.more) c.loop-ahead.invariant.0

pub returns-then-branch-clause-begun : goal.returns-then-branch-clause-begun
returns-then-branch-clause-begun g c =
    let spec = spec_view c.args.file.now.spec in
    let blocks = blocks_of c.args.file.now.blocks.items in
    let wo = g.W.Sink.put_so_far c.args.out.now in
    let wm = g.W.Sink.put_so_far c.loop-ahead.out in
    let eo = g.N.Sink.put_so_far c.args.notes.now in
    let em = g.N.Sink.put_so_far c.loop-ahead.notes in
    whole_begun spec blocks c.args.limit (permutations_of spec) wo wm eo em c.loop-ahead.ahead.left (to_come c.loop-ahead.ahead.drafts.items c.loop-ahead.ahead.behind.more) c.loop-ahead.invariant.0

pub returns-clause-begun : goal.returns-clause-begun
returns-clause-begun g c =
    let spec = spec_view c.args.file.now.spec in
    let blocks = blocks_of c.args.file.now.blocks.items in
    let wo = g.W.Sink.put_so_far c.args.out.now in
    let wm = g.W.Sink.put_so_far c.loop-ahead.out in
    let eo = g.N.Sink.put_so_far c.args.notes.now in
    let em = g.N.Sink.put_so_far c.loop-ahead.notes in
    whole_begun spec blocks c.args.limit (permutations_of spec) wo wm eo em c.loop-ahead.ahead.left (to_come c.loop-ahead.ahead.drafts.items c.loop-ahead.ahead.behind.more) c.loop-ahead.invariant.0
