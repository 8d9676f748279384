use Rattle.std.proofs.Common.{◌<◌, ◌==◌, ◌∙◌, length, sym, ap, arith, rules}
use Rattle.row_versions.specs.declared.write.Write.{Write}
use Rattle.chain_store.proofs.Linking.{at_place, in_log, newest_is_of, slice_has}
use Rattle.chain_store.proofs.links.Links.is_of.Goals as goal

pub offset_bounds-log-place : goal.offset_bounds-log-place
offset_bounds-log-place c =
    let p = in_log c.args.list.now c.args.self.now c.args.row.0 c.in-Some.place.now c.at.result.now c.requires c.at.ensures (slice_has c.at.result.now _ _ (sym c.in-Some.ensures.value)) in
    let l : c.in-Some.place.now < length c.log.result.now = omega (arith, p.within, ap length c.log.ensures) in
    search rules

pub bounds-log-place : goal.bounds-log-place
bounds-log-place c =
    let p = in_log c.args.list.now c.args.self.now c.args.row.0 c.in-Some.place.now c.at.result.now c.requires c.at.ensures (slice_has c.at.result.now _ _ (sym c.in-Some.ensures.value)) in
    omega (arith, p.within, ap length c.log.ensures)

pub bounds-log-place-in-Some : goal.bounds-log-place-in-Some
bounds-log-place-in-Some c =
    let p = in_log c.args.list.now c.args.self.now c.args.row.0 c.in-Some.place.now c.at.result.now c.requires c.at.ensures (slice_has c.at.result.now _ _ (sym c.in-Some.ensures.value)) in
    omega (arith, p.within, ap length c.log.ensures)

pub returns-in-Some : goal.returns-in-Some
returns-in-Some c = λ of_table.
    let p = in_log c.args.list.now c.args.self.now c.args.row.0 c.in-Some.place.now c.at.result.now c.requires c.at.ensures (slice_has c.at.result.now _ _ (sym c.in-Some.ensures.value)) in
    let w = c.index-log-place.result in
    let there = at_place c.log.result.now c.args.list.now.log c.in-Some.place.now w c.log.ensures (omega (arith, p.within, ap length c.log.ensures)) c.index-log-place.is in
    newest_is_of c.args.list.now c.args.self.now c.args.row.0 c.args.table.0 c.in-Some.place.now w c.requires p there
    (ap (λ (v : Write). v.table.0 == c.args.table.0) c.index-log-place.is ∙ of_table)
