-- The transactions of a permutation, and orders of them.
use Rattle.std.specs.Prelude.{ℕ, ◌-◌, ◌==◌, Bool, true, false, List, [], ◌∷◌, map, flat_map, filter_map, fold, Option, option_and_then, slice_get, if◌then◌else◌}
use Rattle.std.specs.List.{enumerate_from, filter}
use Rattle.std.specs.Option.{option_map_or}
use Rattle.std.specs.Global.{Vec}
use Rattle.sql_trees.specs.Statements.{StmtTree}
use Rattle.sql_trees.specs.Statements.{Begin, Commit, Rollback}
use Rattle.session_machine.specs.Machine.{Blocks, stmts_of}
use Rattle.spec_parser.specs.Trees.{PartTree, StepTree, SessionTree, EntryTree, SpecTree}
use Rattle.permutation_lists.specs.Permutations.{entries_of}
use Rattle.outcome_verdicts.specs.declared.transactions.Transaction.{Transaction}

-- steps of a session, by their numbers in it
pub record TransactionTree : Type 0 where
  pub session : ℕ
  pub steps : List ℕ

abbrev pub transaction_view : Transaction → TransactionTree
transaction_view t = record { session = t.session; steps = t.steps.items }

abbrev pub list_view : Vec Transaction → List TransactionTree
list_view ts = map transaction_view ts.items

-- a transaction is open after a statement that worked: BEGIN opens one, COMMIT and ROLLBACK end it
abbrev pub is_open_after : Bool → StmtTree → Bool
is_open_after begun (Begin level) = true
is_open_after begun Commit = false
is_open_after begun Rollback = false
is_open_after begun stmt = begun

-- one is open behind a block, all of whose statements worked
abbrev pub is_open_behind : Blocks → Bool → PartTree → Bool
is_open_behind blocks begun part = fold is_open_after begun (stmts_of blocks part.block)

-- behind the session's setup
abbrev pub is_open_at_first : Blocks → SessionTree → Bool
is_open_at_first blocks s = option_map_or (is_open_behind blocks false) s.setup false

-- behind the session's step of this number
abbrev pub is_open_behind_step : Blocks → SessionTree → Bool → ℕ → Bool
is_open_behind_step blocks s begun step = option_map_or (λ (x : StepTree). is_open_behind blocks begun x.part) (slice_get s.steps step) begun

-- the steps that a session has among the entries
abbrev pub steps_of : ℕ → List EntryTree → List ℕ
steps_of session entries = map (λ (e : EntryTree). e.step) (filter (λ (e : EntryTree). e.session == session) entries)

-- a step before the steps of the first of these transactions
abbrev pub in_front : ℕ → List (List ℕ) → List (List ℕ)
in_front step [] = (step ∷ []) ∷ []
in_front step (steps ∷ more) = (step ∷ steps) ∷ more

-- a session's steps as transactions: one ends with the step behind which none is open
abbrev pub cut : Blocks → SessionTree → Bool → List ℕ → List (List ℕ)
cut blocks s begun [] = []
cut blocks s begun (step ∷ steps) =
    let still = is_open_behind_step blocks s begun step in
    if still then in_front step (cut blocks s still steps) else (step ∷ []) ∷ cut blocks s still steps

abbrev pub of_session : ℕ → List ℕ → TransactionTree
of_session session steps = record { session = session; steps = steps }

-- the transactions of a session, which has this number, in a permutation
abbrev pub transactions_in : Blocks → List EntryTree → ℕ × SessionTree → List TransactionTree
transactions_in blocks entries s = map (of_session s.0) (cut blocks s.1 (is_open_at_first blocks s.1) (steps_of s.0 entries))

-- the transactions of each session
abbrev pub transactions_of : SpecTree → Blocks → List EntryTree → List (List TransactionTree)
transactions_of spec blocks entries = map (transactions_in blocks entries) (enumerate_from 1 spec.sessions)

-- ---- orders, which are told by sessions: the turns of a session are its transactions, one after the other

abbrev pub entries_in : TransactionTree → List EntryTree
entries_in t = map (λ (step : ℕ). record { session = t.session; step = step; markers = [] }) t.steps

-- whose turn it is: the entry of turns that has the session, and the number of the transaction among the session's
abbrev pub in_turn : List (List TransactionTree) → EntryTree → Option TransactionTree
in_turn lists turn = option_and_then (λ (ts : List TransactionTree). slice_get ts turn.step) (slice_get lists (turn.session - 1))

-- the entries of the transactions, one transaction after the other in this order
abbrev pub in_order : List (List TransactionTree) → List ℕ → List EntryTree
in_order lists order = flat_map entries_in (filter_map (in_turn lists) (entries_of order))
