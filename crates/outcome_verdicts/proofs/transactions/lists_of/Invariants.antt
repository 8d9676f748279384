use Rattle.std.proofs.Common.{◌≡◌, ◌+◌, ◌++◌, map, drop}
use Rattle.std.specs.List.{enumerate_from}
use Rattle.sql_blocks.specs.Blocks.{blocks_of}
use Rattle.spec_parser.specs.Trees.{entry_view, session_view}
use Rattle.outcome_verdicts.specs.Transactions.{list_view, transactions_in}
use Rattle.outcome_verdicts.proofs.transactions.lists_of.Given as goal

abbrev pub invariant-loop-place : goal.invariant-loop-place
invariant-loop-place l =
    map list_view l.lists.items ++ map (transactions_in (blocks_of l.blocks) (map entry_view l.entries)) (enumerate_from (l.place + 1) (map session_view (drop l.place l.sessions)))
    ≡ map (transactions_in (blocks_of l.blocks) (map entry_view l.entries)) (enumerate_from 1 (map session_view l.sessions))
