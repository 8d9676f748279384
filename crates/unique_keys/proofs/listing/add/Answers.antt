use Rattle.unique_keys.proofs.Places.{grown_by}
use Rattle.unique_keys.proofs.listing.add.Goals as goal

pub returns-clause-grown : goal.returns-clause-grown
returns-clause-grown c = grown_by c.args.place c.args.places.now c.add.new.self c.args.number c.add.result c.add.ensures.ok c.add.ensures.others c.add.ensures.err
