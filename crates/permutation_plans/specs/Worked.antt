-- A worked permutation with its history. All blocks are empty, so that each ends at its Launch.
use Rattle.std.specs.Prelude.{ℕ, true, List, [], ◌∷◌, Some, None}
use Rattle.iso_lexer.specs.Names.{Written, plain}
use Rattle.session_machine.specs.declared.event.Event.{Event}
use Rattle.session_machine.specs.declared.event.Event.TheVariants.{Launch, Leave}
use Rattle.session_machine.specs.declared.reply.Outcome.{Outcome}
use Rattle.session_machine.specs.declared.reply.Outcome.TheVariants.{Launched, Left}
use Rattle.session_machine.specs.declared.reply.HistItem.{HistItem}
use Rattle.session_machine.specs.Machine.{Blocks}
use Rattle.spec_parser.specs.declared.tree.Marker.TheVariants.{Star}
use Rattle.spec_parser.specs.Trees.{PartTree, EntryTree, SpecTree}
use Rattle.permutation_plans.specs.Regular.{IsRegular}

abbrev pub empty_part : ℕ → PartTree
empty_part block = record { sql = []; at = 0; block = block }

abbrev pub named : ℕ → Written
named letter = plain (letter ∷ [])

-- setup { } session a step b { } session c step d { } teardown { } permutation b(*) d
abbrev pub worked_entries : List EntryTree
worked_entries = record { session = 1; step = 0; markers = Star ∷ [] } ∷ record { session = 2; step = 0; markers = [] } ∷ []

abbrev pub worked_spec : SpecTree
worked_spec = record {
  setups = empty_part 0 ∷ [];
  teardown = None;
  sessions = record { name = named 97; setup = None; steps = record { name = named 98; part = empty_part 1 } ∷ []; teardown = None }
      ∷ record { name = named 99; setup = None; steps = record { name = named 100; part = empty_part 2 } ∷ []; teardown = Some (empty_part 3) }
      ∷ [];
  perms = worked_entries ∷ [];
}

abbrev pub worked_blocks : Blocks
worked_blocks = [] ∷ [] ∷ [] ∷ [] ∷ []

abbrev pub ended : Event → Outcome → HistItem
ended event outcome = record { event = event; reply = record { outcome = outcome; ended = true } }

abbrev pub worked_items : List HistItem
worked_items =
    ended (Launch 0 0) Launched
    ∷ ended (Launch 1 1) Launched
    ∷ ended (Launch 2 2) Launched
    ∷ ended (Launch 2 3) Launched
    ∷ ended (Leave 1) Left
    ∷ ended (Leave 2) Left
    ∷ []

-- that history is regular
abbrev pub WorkedHistory : Type 0
WorkedHistory = IsRegular worked_spec worked_blocks worked_entries worked_items
