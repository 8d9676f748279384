-- Where sessions stand, as the code keeps it.
use Rattle.std.specs.Prelude.{◌≡◌, ℕ, ◌<◌, List, length, Option, Some, None, slice_get}
use Rattle.session_machine.specs.declared.reply.HistItem.{HistItem}
use Rattle.report_text.specs.declared.standing.Standing.{Standing}
use Rattle.report_text.specs.FreeText.{standing}

abbrev pub or_nowhere : Option (Option Standing) → Option Standing
or_nowhere None = None
or_nowhere (Some at) = at

-- where the session of this number stands; nowhere, where the table lacks it
abbrev pub at_number : List (Option Standing) → ℕ → Option Standing
at_number table session = or_nowhere (slice_get table session)

-- the table has where each of its sessions stands after these items
abbrev pub IsTable : List (Option Standing) → List HistItem → Type 0
IsTable table items = (session : ℕ) → session < length table → at_number table session ≡ standing session items
