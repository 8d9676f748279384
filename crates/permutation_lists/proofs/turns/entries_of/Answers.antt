use Rattle.std.proofs.Common.{◌≡◌, take, get_or, refl}
use Rattle.spec_parser.specs.Trees.{entry_view}
use Rattle.permutation_lists.proofs.EntriesOf.{entry_after, entries_more}
use Rattle.permutation_lists.proofs.turns.entries_of.Goals as goal

pub loop-place-preserved : goal.loop-place-preserved
loop-place-preserved c =
    let this : entry_view c.entry_after.result ≡ entry_after (take c.loop-place.place c.args.turns.now) (get_or c.args.turns.now c.loop-place.place 0) = c.entry_after.ensures in
    entries_more c.args.turns.now c.loop-place.place c.loop-place.entries.items c.push.new.self.items c.entry_after.result _ _ c.loop-place-test.true this
    refl refl c.loop-place.invariant c.in_ok-push.ensures.items
