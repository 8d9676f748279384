-- A worked free run of the same file: its sessions' steps overlap, and the same DELETE waits.
use Rattle.std.specs.Prelude.{List, [], ◌∷◌, true, false}
use Rattle.session_machine.specs.declared.event.Event.TheVariants.{Launch, Step, Leave}
use Rattle.session_machine.specs.declared.reply.Outcome.TheVariants.{Launched, Done, Waits, Left}
use Rattle.session_machine.specs.declared.reply.HistItem.{HistItem}
use Rattle.permutation_plans.specs.Waited.{waited_spec, waited_blocks, item}
use Rattle.permutation_plans.specs.FreeRegular.{IsFreeRegular}

abbrev pub waited_free_items : List HistItem
waited_free_items =
    item (Launch 0 0) Launched false
    ∷ item (Step 0) Done false
    ∷ item (Step 0) Done true
    ∷ item (Leave 0) Left true
    ∷ item (Launch 1 1) Launched false
    ∷ item (Launch 2 3) Launched false
    ∷ item (Step 1) Done false
    ∷ item (Step 1) Done true
    ∷ item (Step 2) Waits false
    ∷ item (Launch 1 2) Launched false
    ∷ item (Step 1) Done true
    ∷ item (Leave 1) Left true
    ∷ item (Step 2) Done true
    ∷ item (Leave 2) Left true
    ∷ []

-- that history is one of the free run
abbrev pub WaitedFreeHistory : Type 0
WaitedFreeHistory = IsFreeRegular waited_spec waited_blocks waited_free_items
