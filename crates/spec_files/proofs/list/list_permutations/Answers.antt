use Rattle.std.proofs.Common.{◌≡◌, ◌∷◌, ◌<◌, [], ap, ◌∙◌, rules, arith}
use Rattle.spec_parser.specs.Trees.{spec_view}
use Rattle.permutation_lists.specs.Lines.{line_text}
use Rattle.permutation_lists.specs.Permutations.{permutations_of}
use Rattle.spec_files.specs.Lists.{listed}
use Rattle.spec_files.proofs.Listing.{goes_on, all_listed, one_too_many, front_out, front_more, nothing_put}
use Rattle.spec_files.proofs.list.list_permutations.Goals as goal

pub returns-then-left-eq0-clause-lists : goal.returns-then-left-eq0-clause-lists
returns-then-left-eq0-clause-lists g c =
    let all = listed (spec_view c.args.spec.now) c.args.limit (permutations_of (spec_view c.args.spec.now)) in
    let more : c.loop-permutations.permutations.more ≡ c.advance.new.self.here ∷ c.advance.new.self.more = search rules in
    λ _. one_too_many (spec_view c.args.spec.now) c.loop-permutations.left (g.W.Sink.put_so_far c.args.out.now) (g.W.Sink.put_so_far c.loop-permutations.out) all c.loop-permutations.permutations.more c.advance.new.self.here c.advance.new.self.more c.loop-permutations.invariant more c.if-left-eq0.true

pub loop-permutations-preserved : goal.loop-permutations-preserved
loop-permutations-preserved g c =
    let all = listed (spec_view c.args.spec.now) c.args.limit (permutations_of (spec_view c.args.spec.now)) in
    let more : c.loop-permutations.permutations.more ≡ c.advance.new.self.here ∷ c.advance.new.self.more = search rules in
    let some : 0 < c.loop-permutations.left = omega (arith, c.if-left-eq0.false) in
    let line : c.as_slice.result.now ≡ line_text (spec_view c.args.spec.now) c.advance.new.self.here = c.as_slice.ensures.value ∙ c.in_ok-line.ensures ∙ ap (line_text (spec_view c.args.spec.now)) c.entries.ensures in
    goes_on (spec_view c.args.spec.now) c.loop-permutations.left (g.W.Sink.put_so_far c.args.out.now) (g.W.Sink.put_so_far c.loop-permutations.out) (g.W.Sink.put_so_far c.put.new.self) all c.loop-permutations.permutations.more c.advance.new.self.here c.advance.new.self.more c.as_slice.result.now
    c.loop-permutations.invariant more some line c.in_ok-put.ensures.bytes

pub returns-clause-lists : goal.returns-clause-lists
returns-clause-lists g c =
    let all = listed (spec_view c.args.spec.now) c.args.limit (permutations_of (spec_view c.args.spec.now)) in
    let none : c.loop-permutations.permutations.more ≡ [] = search rules in
    λ _. all_listed (spec_view c.args.spec.now) c.loop-permutations.left (g.W.Sink.put_so_far c.args.out.now) (g.W.Sink.put_so_far c.loop-permutations.out) all c.loop-permutations.permutations.more c.loop-permutations.invariant none

pub returns-in_err-permutations-clause-begun : goal.returns-in_err-permutations-clause-begun
returns-in_err-permutations-clause-begun g c =
    let all = listed (spec_view c.args.spec.now) c.args.limit (permutations_of (spec_view c.args.spec.now)) in
    nothing_put (g.W.Sink.put_so_far c.args.out.now) all.text

pub returns-in_err-advance-clause-begun : goal.returns-in_err-advance-clause-begun
returns-in_err-advance-clause-begun g c =
    let all = listed (spec_view c.args.spec.now) c.args.limit (permutations_of (spec_view c.args.spec.now)) in
    front_out (g.W.Sink.put_so_far c.args.out.now) (g.W.Sink.put_so_far c.loop-permutations.out) all (listed (spec_view c.args.spec.now) c.loop-permutations.left c.loop-permutations.permutations.more) c.loop-permutations.invariant

pub returns-then-left-eq0-clause-begun : goal.returns-then-left-eq0-clause-begun
returns-then-left-eq0-clause-begun g c =
    let all = listed (spec_view c.args.spec.now) c.args.limit (permutations_of (spec_view c.args.spec.now)) in
    front_out (g.W.Sink.put_so_far c.args.out.now) (g.W.Sink.put_so_far c.loop-permutations.out) all (listed (spec_view c.args.spec.now) c.loop-permutations.left c.loop-permutations.permutations.more) c.loop-permutations.invariant

pub returns-in_err-line-clause-begun : goal.returns-in_err-line-clause-begun
returns-in_err-line-clause-begun g c =
    let all = listed (spec_view c.args.spec.now) c.args.limit (permutations_of (spec_view c.args.spec.now)) in
    front_out (g.W.Sink.put_so_far c.args.out.now) (g.W.Sink.put_so_far c.loop-permutations.out) all (listed (spec_view c.args.spec.now) c.loop-permutations.left c.loop-permutations.permutations.more) c.loop-permutations.invariant

pub returns-in_err-put-clause-begun : goal.returns-in_err-put-clause-begun
returns-in_err-put-clause-begun g c =
    let all = listed (spec_view c.args.spec.now) c.args.limit (permutations_of (spec_view c.args.spec.now)) in
    let more : c.loop-permutations.permutations.more ≡ c.advance.new.self.here ∷ c.advance.new.self.more = search rules in
    let some : 0 < c.loop-permutations.left = omega (arith, c.if-left-eq0.false) in
    let line : c.as_slice.result.now ≡ line_text (spec_view c.args.spec.now) c.advance.new.self.here = c.as_slice.ensures.value ∙ c.in_ok-line.ensures ∙ ap (line_text (spec_view c.args.spec.now)) c.entries.ensures in
    front_more (spec_view c.args.spec.now) c.loop-permutations.left (g.W.Sink.put_so_far c.args.out.now) (g.W.Sink.put_so_far c.loop-permutations.out) (g.W.Sink.put_so_far c.put.new.self) all c.loop-permutations.permutations.more c.advance.new.self.here c.advance.new.self.more c.as_slice.result.now
    c.loop-permutations.invariant more some line c.in_err-put.ensures.front

pub returns-clause-begun : goal.returns-clause-begun
returns-clause-begun g c =
    let all = listed (spec_view c.args.spec.now) c.args.limit (permutations_of (spec_view c.args.spec.now)) in
    front_out (g.W.Sink.put_so_far c.args.out.now) (g.W.Sink.put_so_far c.loop-permutations.out) all (listed (spec_view c.args.spec.now) c.loop-permutations.left c.loop-permutations.permutations.more) c.loop-permutations.invariant
