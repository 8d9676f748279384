-- The worked permutation's history. After each item the machine is again as it was opened, but for the count of events.
use Rattle.std.proofs.Common.{ℕ, refl}
use Rattle.session_machine.specs.Machine.{Machine, opening}
use Rattle.permutation_plans.specs.Worked.{worked_spec, worked_blocks, worked_entries, worked_items, WorkedHistory}
use Rattle.permutation_plans.proofs.Next.{regular_of}

abbrev after : ℕ → Machine
after n = record (opening 2) { events = n }

pub worked : WorkedHistory
worked =
    regular_of worked_spec worked_blocks worked_entries worked_items (after 6)
    (after 1, refl, (after 2, refl, (after 3, refl, (after 4, refl, (after 5, refl, (after 6, refl, refl))))))
    refl
    (refl, (refl, (refl, (refl, (refl, (refl, refl))))))
