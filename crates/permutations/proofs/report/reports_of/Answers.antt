use Rattle.std.proofs.Common.{◌≡◌, ◌+◌, length, map, take, refl, sym, ap, subst, arith}
use Rattle.std.specs.Global.{Vec}
use Rattle.std.specs.Prelude.{IfSome, slice_get}
use Rattle.row_versions.specs.Log.{Content}
use Rattle.sql_blocks.specs.Blocks.{blocks_of}
use Rattle.session_machine.specs.Machine.{Blocks}
use Rattle.session_threads.specs.declared.opening.Run.{Run}
use Rattle.spec_parser.specs.declared.tree.Entry.{Entry}
use Rattle.spec_parser.specs.Trees.{SpecTree, perm_view, spec_view}
use Rattle.spec_files.specs.Drafts.{IsDraft}
use Rattle.spec_files.specs.Plans.{IsFollowing, Planning, order_after}
use Rattle.permutations.specs.Inner.Runs.{RanSo}
use Rattle.permutations.specs.declared.report.Report.{Report}
use Rattle.permutations.proofs.Running.{comes_at, in_front, orders_at, wait_each}
use Rattle.permutations.proofs.report.reports_of.Goals as goal

abbrev is_report : SpecTree → Blocks → Vec Entry → Report → Type 0
is_report spec blocks entries report = IsDraft spec blocks (record { entries = entries; text = report.text; notes = report.notes; result = report.result })

pub reports_placed-requires-clause-waits : goal.reports_placed-requires-clause-waits
reports_placed-requires-clause-waits g c κs live =
    let runs = c.plans_of-runs.result.items in
    wait_each (λ (store : Content). store) order_after IsFollowing (orders_at (map (λ (run : Run Content Planning). order_after run.driver) runs)) 0 runs
    (λ k. let n : 0 + k ≡ k = omega arith in ap (orders_at (map (λ (run : Run Content Planning). order_after run.driver) runs)) n) c.plans_of-runs.ensures.empty c.plans_of-runs.ensures.follows

pub reports_placed-requires-clause-comes : goal.reports_placed-requires-clause-comes
reports_placed-requires-clause-comes g c κs live place run came =
    let spec = spec_view c.args.spec.now in
    let blocks = blocks_of c.args.blocks.now in
    let runs = c.plans_of-runs.result.items in
    let same : c.len.result ≡ length runs = omega (arith, c.len.ensures, c.plans_of-runs.result.ok.0) in
    subst (λ n. IfSome (slice_get (take n c.args.taken.now) place) (λ entries. RanSo spec blocks (perm_view entries) run)) (sym same)
    (comes_at (λ (of : Run Content Planning). of.driver) spec blocks (length spec.sessions) c.args.taken.now runs place run refl c.plans_of-runs.ensures.plans came)

pub returns : goal.returns
returns g c =
    in_front (is_report (spec_view c.args.spec.now) (blocks_of c.args.blocks.now)) c.len.result c.args.taken.now c.reports_placed.result.items c.reports_placed.ensures
