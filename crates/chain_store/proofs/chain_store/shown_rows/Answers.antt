use Rattle.std.proofs.Common.{◌<◌, length, sym, subst, rules}
use Rattle.std.specs.List.Sorted.{IsStrictlyIncreasing}
use Rattle.chain_store.proofs.Showing.{shown_push, shown_skip}
use Rattle.chain_store.proofs.chain_store.shown_rows.Goals as goal
use Rattle.chain_store.proofs.chain_store.shown_rows.Goals.{in-Some+in_ok-push, in_default}

pub loop-number-preserved : goal.loop-number-preserved
loop-number-preserved c =
    let inside : c.loop-number.number-index < length c.at-numbers.result.now = search rules in
    let rise = subst IsStrictlyIncreasing (sym c.at-numbers.ensures) (c.requires.linked.tables c.args.table.0) in
    elim c.match-shown_of.branch [
      | in-Some+in_ok-push w ↦ rw (w.shown-is, w.in_ok-push.ensures.items)
          (shown_push c.args.list.now c.args.view.now c.args.table c.at-numbers.result.now c.loop-number.number-index c.loop-number.shown.items w.in-Some.seen rise inside
          c.loop-number.invariant w.in-Some.ensures.0 w.in-Some.ensures.1)
      | in_default w ↦ rw w.shown-is
          (shown_skip c.args.list.now c.args.view.now c.args.table c.at-numbers.result.now c.loop-number.number-index c.loop-number.shown.items inside c.loop-number.invariant w.in_default.ensures)
    ]
