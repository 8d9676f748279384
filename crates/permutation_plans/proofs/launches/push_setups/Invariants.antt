use Rattle.std.proofs.Common.{◌≡◌, ℕ, ◌+◌, ◌++◌, map, drop}
use Rattle.std.specs.Prelude.{filter_map, option_map}
use Rattle.std.specs.List.{enumerate_from}
use Rattle.spec_parser.specs.Trees.{SessionTree, session_view}
use Rattle.permutation_plans.specs.Launches.{launch_in, own_launches}
use Rattle.permutation_plans.proofs.launches.push_setups.Given as goal

abbrev pub invariant-loop-place : goal.invariant-loop-place
invariant-loop-place l =
    l.setups.items ++ filter_map (λ (p : ℕ × SessionTree). option_map (launch_in p.0) p.1.setup) (enumerate_from (l.place + 1) (map session_view (drop l.place l.sessions)))
    ≡ l.initial.setups.items ++ own_launches (λ s. s.setup) (map session_view l.sessions)
