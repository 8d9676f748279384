use Rattle.std.proofs.Common.{arith}
use Rattle.outcome_counts.specs.declared.counted.Group.{Group}
use Rattle.outcome_counts.proofs.Counting.{map_counts, map_stays, read_map}
use Rattle.outcome_counts.proofs.counted.Counted.add_known.Goals as goal

pub add-requires : goal.add-requires
add-requires c =
    let room = c.requires.room.counts c.args.k in
    let e = read_map (λ (g : Group). g.count) c.args.self.now.groups.items c.args.k c.index_mut.result.now 0 c.requires.within c.index_mut.ensures.value in
    omega (arith, room, e)

pub returns-clause-outcomes : goal.returns-clause-outcomes
returns-clause-outcomes c =
    map_stays (λ (g : Group). g.outcome) c.args.self.now.groups.items c.args.k c.index_mut.result.now c.add.new.self c.requires.within c.index_mut.ensures.value c.in_ok-add.ensures.0

pub returns-clause-counts : goal.returns-clause-counts
returns-clause-counts c =
    map_counts (λ (g : Group). g.count) c.args.self.now.groups.items c.args.k c.index_mut.result.now c.add.new.self c.requires.within c.index_mut.ensures.value c.in_ok-add.ensures.1
