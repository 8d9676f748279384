-- The histories that a free run may have.
use Rattle.std.specs.Prelude.{◌≡◌, ℕ, ◌+◌, ◌-◌, ◌<◌, ◌==◌, Bool, true, false, not, ◌&&◌, ◌||◌, List, [], ◌∷◌, ◌++◌, length, map, drop, slice_get, slice_range, Some}
use Rattle.std.specs.List.{filter}
use Rattle.std.specs.Option.{option_map_or}
use Rattle.session_machine.specs.declared.event.Event.{Event}
use Rattle.session_machine.specs.declared.event.Event.TheVariants.{Launch, Leave}
use Rattle.session_machine.specs.declared.event.Mode.TheVariants.{Free}
use Rattle.session_machine.specs.declared.reply.HistItem.{HistItem}
use Rattle.session_machine.specs.declared.reply.Outcome.{Outcome}
use Rattle.session_machine.specs.declared.reply.Outcome.TheVariants.{Launched, Done, Rows, Waits, Failed, Left}
use Rattle.session_machine.specs.Machine.{Blocks, session_of}
use Rattle.session_machine.specs.Engine.{IsLegal}
use Rattle.spec_parser.specs.Trees.{SpecTree}
use Rattle.report_lines.specs.declared.history.PlannedLaunch.{PlannedLaunch}
use Rattle.report_lines.specs.Starts.{is_order}
use Rattle.report_lines.specs.Due.{went_well}
use Rattle.permutation_plans.specs.FreeLaunches.{FreeLaunches, free_launches}

-- ---- what the sessions are given

abbrev pub event_of : HistItem → Event
event_of item = item.event

-- the Launches and Leaves of a history, in its order
abbrev pub given : List HistItem → List Event
given items = filter is_order (map event_of items)

abbrev pub events_of : ℕ → List Event → List Event
events_of session events = filter (λ e. session_of e == session) events

abbrev pub launches_in : ℕ → List ℕ → List Event
launches_in session blocks = map (λ b. Launch session b) blocks

-- a session is given its blocks, and leaves
abbrev pub script_events : ℕ → List ℕ → List Event
script_events session blocks = launches_in session blocks ++ Leave session ∷ []

-- each session, the first of which has this number, is given its script
abbrev pub AreGiven : List Event → ℕ → List (List ℕ) → Type 0
AreGiven events session [] = Unit {0}
AreGiven events session (blocks ∷ scripts) = (events_of session events ≡ script_events session blocks) × AreGiven events (session + 1) scripts

-- what is given between the setups with the control session's Leave and its last blocks
abbrev pub between : FreeLaunches → List Event → List Event
between plan events = slice_range events (length plan.before + 1) (length events - length plan.after)

-- ---- each block has ended before the next

abbrev pub items_of : ℕ → List HistItem → List HistItem
items_of session items = filter (λ i. session_of i.event == session) items

-- of one session's items: each Launch and Leave comes where no block is in progress, and at the end none is
abbrev pub ends_each : Bool → List HistItem → Bool
ends_each over [] = over
ends_each over (item ∷ items) = (over || not (is_order item.event)) && ends_each item.reply.ended items

-- so for each of so many sessions
abbrev pub EachEnds : ℕ → List HistItem → Type 0
EachEnds sessions items = (session : ℕ) → session < sessions → ends_each true (items_of session items) ≡ true

-- ---- the whole

-- each session is given its script, in any order between sessions, and last the control session its last blocks
abbrev pub AreScriptsGiven : FreeLaunches → List Event → Type 0
AreScriptsGiven plan events =
    AreGiven (between plan events) 1 plan.scripts
    × (events_of 0 (between plan events) ≡ [])
    × (drop (length events - length plan.after) events ≡ launches_in 0 plan.after)

-- behind the setups the control session leaves; then the scripts are given; each block has ended before the next
abbrev pub IsWhole : FreeLaunches → List HistItem → Type 0
IsWhole plan items =
    (slice_get (given items) (length plan.before) ≡ Some (Leave 0))
    × AreScriptsGiven plan (given items)
    × EachEnds (length plan.scripts + 1) items

abbrev pub stops : Outcome → Bool
stops Launched = false
stops Done = false
stops (Rows set) = false
stops Waits = true
stops (Failed fault) = true
stops Left = false

abbrev pub item_stops : HistItem → Bool
item_stops item = stops item.reply.outcome

-- the block with this number of Launches and Leaves before it is the last one given, and it failed or waits
abbrev pub IsStopped : List HistItem → ℕ → Type 0
IsStopped items k = (option_map_or item_stops (slice_get items (length items - 1)) false ≡ true) × (length (given items) ≡ k + 1)

abbrev pub IfWell : Bool → Type 0 → Type 0 → Type 0
IfWell true Well Other = Well
IfWell false Well Other = Other

-- the setups from this segment on: each is launched where those before it went well; with one that doesn't the history ends, and behind them all it is whole
abbrev pub FitsFrom : Type 0 → List HistItem → ℕ → List PlannedLaunch → Type 0
FitsFrom Whole items k [] = Whole
FitsFrom Whole items k (t ∷ ts) =
    (slice_get (given items) k ≡ Some (Launch t.session t.block)) × IfWell (went_well items k t.session) (FitsFrom Whole items (k + 1) ts) (IsStopped items k)

-- a history launches what the free run of a spec launches
abbrev pub FreeFits : FreeLaunches → List HistItem → Type 0
FreeFits plan items = FitsFrom (IsWhole plan items) items 0 plan.before

-- a history of the free run: a legal one that launches what the free run launches
pub record IsFreeRegular (spec : SpecTree) (blocks : Blocks) (items : List HistItem) : Type 0 where
  pub legal : IsLegal blocks (length spec.sessions) Free items
  pub fits : FreeFits (free_launches spec) items
