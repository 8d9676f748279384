use Rattle.std.proofs.Common.{◌-◌, refl, arith}
use Rattle.std.proofs.lemmas.Option.{slice_get-map, slice_get_past, slice_get_read}
use Rattle.session_seats.proofs.free.script_of.Goals as goal

pub returns-in-Some : goal.returns-in-Some
returns-in-Some c =
    let look = c.in-Some.ensures.lookup in
    let there = slice_get_read c.args.scripts.now _ (c.args.session - 1) c.in-Some.script.now refl look.3.0 look.1 in
    grind (arith, slice_get-map, there)

pub returns-in-None : goal.returns-in-None
returns-in-None c =
    let past = slice_get_past c.args.scripts.now (c.args.session - 1) c.in-None.ensures.lookup.3 in
    grind (arith, slice_get-map, past)
