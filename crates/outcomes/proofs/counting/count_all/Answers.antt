use Rattle.std.proofs.Common.{◌≡◌, ◌∷◌, ◌+◌, ◌<◌, ◌^◌, subst, sym, ap, rules, arith}
use Rattle.std.specs.Prelude.{map, string_bytes}
use Rattle.sql_blocks.specs.Blocks.{blocks_of}
use Rattle.spec_parser.specs.Trees.{spec_view}
use Rattle.permutation_lists.specs.Permutations.{Coming, permutations_of}
use Rattle.outcome_counts.specs.Counts.{Counts, counts_view}
use Rattle.outcomes.proofs.Fates.{SoFar, at_first, next_one, room_so_far}
use Rattle.outcomes.proofs.counting.count_all.Goals as goal

pub loop-counted-init : goal.loop-counted-init
loop-counted-init g c =
    let spec = spec_view c.args.spec.now in
    let blocks = blocks_of c.args.blocks.now in
    let names = map string_bytes c.args.names.now in
    subst (λ (n : Counts). SoFar spec blocks names (permutations_of spec) c.in_ok-permutations.permutations.more 0 n) (sym c.new-counted.ensures)
    (at_first spec blocks names (permutations_of spec) c.in_ok-permutations.permutations.more (ap (λ (p : Coming). p.more) c.in_ok-permutations.ensures.permutations))

pub count_one-requires-clause-room : goal.count_one-requires-clause-room
count_one-requires-clause-room g c =
    let spec = spec_view c.args.spec.now in
    let few : c.loop-counted.number + 1 < 2 ^ 64 = omega (arith, c.if-number-limit.false, c.ranges.limit) in
    room_so_far spec (blocks_of c.args.blocks.now) (map string_bytes c.args.names.now) (permutations_of spec) c.loop-counted.permutations.more c.loop-counted.number (counts_view c.loop-counted.counted) c.loop-counted.invariant few

pub loop-counted-preserved : goal.loop-counted-preserved
loop-counted-preserved g c =
    let spec = spec_view c.args.spec.now in
    let blocks = blocks_of c.args.blocks.now in
    let names = map string_bytes c.args.names.now in
    let more : c.loop-counted.permutations.more ≡ c.advance.new.self.here ∷ c.advance.new.self.more = search rules in
    let counted = c.in_ok-count_one.ensures in
    next_one spec blocks names (permutations_of spec) c.loop-counted.permutations.more c.advance.new.self.more c.loop-counted.number (counts_view c.loop-counted.counted)
    (counts_view c.count_one.new.counted) c.advance.new.self.here _ counted.0 c.loop-counted.invariant more c.entries.ensures counted.1 counted.2
