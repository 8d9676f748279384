use Rattle.std.proofs.Common.{◌≡◌, ◌∙◌, ◌+◌, ◌<◌, ◌++◌, ◌∷◌, [], length, map, take, get_or, ap, sym, subst, rules, arith}
use Rattle.std.proofs.lemmas.List.{length_push}
use Rattle.std.proofs.lemmas.Grind.{common_steps}
use Rattle.std.proofs.lemmas.Option.{gets}
use Rattle.row_versions.specs.Log.{empty_content}
use Rattle.session_threads.specs.declared.opening.Run.{Run}
use Rattle.chain_store.specs.declared.chain_store.ChainStore.{ChainStore}
use Rattle.permutations.specs.declared.driver.Plan.{Plan}
use Rattle.spec_parser.specs.Trees.{entry_view, perm_view, spec_view}
use Rattle.permutation_plans.specs.Launches.{launches}
use Rattle.spec_files.specs.Plans.{IsFollowing}
use Rattle.permutations.specs.Inner.Runs.{ArePlans, IsPlanOf}
use Rattle.permutations.proofs.Drafting.{all_more, planned_of, planned_on}
use Rattle.permutations.proofs.thread_run.plans_of.Goals as goal

pub returns-in_default-clause-plans : goal.returns-in_default-clause-plans
returns-in_default-clause-plans c = planned_of (spec_view c.args.spec.now) c.loop-entries.entries-index c.args.taken.now _ c.loop-entries.invariant.plans

pub returns-then-is_err-clause-plans : goal.returns-then-is_err-clause-plans
returns-then-is_err-clause-plans c =
    let same : c.push.new.self.items ≡ c.loop-entries.runs.items = search rules in
    subst (λ runs. ArePlans (spec_view c.args.spec.now) c.args.taken.now (map (λ run. run.driver) runs)) (sym same)
    (planned_of (spec_view c.args.spec.now) c.loop-entries.entries-index c.args.taken.now _ c.loop-entries.invariant.plans)

pub loop-entries-preserved : goal.loop-entries-preserved
loop-entries-preserved c =
    let n = c.loop-entries.entries-index in
    let so_far = c.loop-entries.runs.items in
    let now = c.push.new.self.items in
    let one : Run ChainStore Plan = record { store = c.new-store.result; driver = c.in-Ok.driver } in
    let pushed : now ≡ so_far ++ one ∷ [] = search rules in
    let before = c.loop-entries.invariant in
    let within : n < length c.args.taken.now = search (rules, arith) in
    let it : get_or c.args.taken.now n c.entries-item.result ≡ c.entries-item.result = grind (arith, common_steps, gets, c.entries-item.is, c.loop-entries-test.true) in
    let long : length (take n c.args.taken.now) ≡ n = grind (arith, common_steps, within) in
    let lent : c.deref.result.now ≡ c.entries-item.result.items = c.deref.ensures.value in
    let of : IsPlanOf (spec_view c.args.spec.now) (perm_view c.entries-item.result) c.in-Ok.driver = record {
      launches = c.in-Ok.ensures.plan.0 ∙ ap (λ es. launches (spec_view c.args.spec.now) (map entry_view es)) lent;
      own = c.in-Ok.ensures.plan.1 ∙ ap (map entry_view) lent;
    } in
    record {
      count = ap length pushed ∙ length_push so_far one ∙ ap (λ k. k + 1) before.count;
      plans = planned_on (λ (run : Run ChainStore Plan). run.driver) (spec_view c.args.spec.now) n c.args.taken.now c.entries-item.result so_far now one before.count within it long before.plans of pushed;
      empty = all_more so_far now one (λ run. run.store ≡ empty_content) before.empty (search rules) pushed;
      follows = all_more so_far now one (λ run. IsFollowing run.driver []) before.follows (c.in-Ok.ensures.follows []) pushed;
    }
