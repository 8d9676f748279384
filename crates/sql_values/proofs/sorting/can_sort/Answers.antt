use Rattle.std.proofs.Common.{◌≡◌, ◌-◌, length, sym, arith}
use Rattle.sql_values.proofs.Keys.{keys_left}
use Rattle.sql_values.proofs.Sortable.{sortable}
use Rattle.sql_values.proofs.sorting.can_sort.Goals as goal

pub loop-k-init : goal.loop-k-init
loop-k-init c =
    let all : length c.args.by.now - 0 ≡ length c.args.by.now = omega arith in
    rw all (sym (sortable c.args.by.now c.args.keys.now))

pub returns-then-not-all_compare : goal.returns-then-not-all_compare
returns-then-not-all_compare c =
    let more = keys_left c.loop-k.k (length c.args.by.now) (omega arith) in
    grind arith

pub loop-k-preserved : goal.loop-k-preserved
loop-k-preserved c =
    let more = keys_left c.loop-k.k (length c.args.by.now) (omega arith) in
    grind arith
