use Rattle.std.proofs.Common.{subst, sym, length, ◌<◌}
use Rattle.places.specs.Noted.{noted}
use Rattle.unique_keys.proofs.Slots.{fewer_struck}
use Rattle.unique_keys.proofs.Places.{shrunk_at}
use Rattle.unique_keys.proofs.listing.strike.Goals as goal

pub returns-clause-shrunk : goal.returns-clause-shrunk
returns-clause-shrunk c = shrunk_at c.args.place c.args.places.now c.remove.new.self c.args.number c.remove.ensures.struck c.remove.ensures.others

pub returns-clause-fewer : goal.returns-clause-fewer
returns-clause-fewer c = λ h. subst (λ l. length l < length (noted c.args.places.now c.args.number)) (sym c.remove.ensures.struck) (fewer_struck c.args.place (noted c.args.places.now c.args.number) h)
