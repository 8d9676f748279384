use Rattle.unique_keys.proofs.Places.{grown_pushed}
use Rattle.unique_keys.proofs.listing.push_place.Goals as goal

pub returns-clause-grown : goal.returns-clause-grown
returns-clause-grown c = grown_pushed c.args.place c.args.list.now.items c.push.new.self.items c.in_ok-push.ensures.items
