use Rattle.std.proofs.Common.{◌∙◌, ap, sym, arith}
use Rattle.session_core.proofs.Striking.{found_at, place_from, struck_end, struck_on}
use Rattle.session_core.proofs.blockers.Blockers.strike.Goals as goal

pub remove-requires : goal.remove-requires
remove-requires c = (
  omega arith,
  (found_at c.args.tx c.loop-place.self-inside.by.items c.in-Some.place (ap (place_from c.args.tx 0) (sym c.deref.ensures) ∙ (sym c.place_of.ensures ∙ c.in-Some.is))).within,
)

pub loop-place-preserved : goal.loop-place-preserved
loop-place-preserved c =
    struck_on c.args.tx c.args.self.now c.loop-place.self-inside.by.items c.remove.new.self.items c.in-Some.place c.loop-place.invariant
    (ap (place_from c.args.tx 0) (sym c.deref.ensures) ∙ (sym c.place_of.ensures ∙ c.in-Some.is)) c.remove.ensures.items

pub returns : goal.returns
returns c =
    struck_end c.args.tx c.args.self.now c.loop-place.self-inside.by.items c.loop-place.invariant
    (ap (place_from c.args.tx 0) (sym c.deref.ensures) ∙ (sym c.place_of.ensures ∙ c.in_default.is))
