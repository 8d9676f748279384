-- That each permutation has a history, and each file a text. Each law stands on the contract of a function of `laws`.
use Rattle.std.specs.Prelude.{◌≡◌, ℕ, ◌<◌, true, List, [], ◌∷◌, ◌++◌, Contains, IfSome, Some, is_some, slice_get, Ok}
use Rattle.session_machine.specs.declared.event.Mode.{Mode}
use Rattle.session_machine.specs.declared.session.Session.{Session}
use Rattle.session_machine.specs.declared.reply.HistItem.{HistItem}
use Rattle.session_machine.specs.declared.event.Event.{Event}
use Rattle.session_machine.specs.Machine.{Machine, Blocks, Next, next, opening, Run}
use Rattle.spec_parser.specs.Trees.{EntryTree, SpecTree}
use Rattle.report_lines.specs.Starts.{order_of}
use Rattle.report_lines.specs.Due.{Launches}
use Rattle.permutation_plans.specs.Launches.{due_after}
use Rattle.permutation_lists.specs.Permutations.{permutations_of}
use Rattle.permutation_plans.specs.Regular.{next_order, IsRegular}
use Rattle.spec_files.specs.Files.{File, FileIs}
use Rattle.spec_files.specs.Prints.{FileSays}
use Rattle.history_laws.specs.Unfinished.{IsUnfinished}
use Rattle.history_laws.specs.Left.{events_left}
use Rattle.history_laws.specs.One.{ExactlyOne}
use Rattle.history_laws.specs.UnderWay.{IsUnderWay, DoesOrder}
use Rattle.spec_files.specs.Complete.{HasItsBlocks, HasItsSteps, IsComplete}

-- a session that is in a block was given it, and no item since ended it
abbrev pub BusySessionsWereLaunched : Type 0
BusySessionsWereLaunched = (given : Blocks) (mode : Mode) (count : ℕ) (items : List HistItem) (m : Machine) → Run given mode (opening count) items m
    → (session : ℕ) (s : Session) → slice_get m.sessions session ≡ Some s → is_some s.place ≡ true → IsUnfinished items session

-- wherever a permutation has come to, the machine does what it orders next: the session is there and in no block, the block is there, and the session may be given it
abbrev pub NextOrdersAreDone : Type 0
NextOrdersAreDone = (spec : SpecTree) (blocks : Blocks) (entries : List EntryTree) → HasItsBlocks spec blocks → HasItsSteps spec entries
    → (items : List HistItem) (m : Machine) → IsUnderWay spec blocks entries items m → DoesOrder blocks m (next_order spec entries items)

-- a permutation whose blocks and steps are there has a regular history
abbrev pub RegularHistoriesAreThere : Type 0
RegularHistoriesAreThere = (spec : SpecTree) (blocks : Blocks) (entries : List EntryTree) → HasItsBlocks spec blocks → HasItsSteps spec entries
    → (items : List HistItem) × IsRegular spec blocks entries items

-- each event of a run that carries out what is due leaves fewer events: so a run that does so comes to its end
abbrev pub EventsAreFewer : Type 0
EventsAreFewer = (l : Launches) (entries : List EntryTree) (blocks : Blocks) (mode : Mode) (count : ℕ) (items : List HistItem) (m : Machine) (event : Event) (n : Next)
    → Run blocks mode (opening count) items m → next blocks mode m event ≡ Ok n → IfSome (order_of event) (λ order. due_after l entries items ≡ order)
    → events_left l blocks count (items ++ record { event = event; reply = n.reply } ∷ []) n.machine < events_left l blocks count items m

-- ---- of files

-- the blocks and steps of a spec that was read are there
abbrev pub SpecsHaveTheirBlocks : Type 0
SpecsHaveTheirBlocks = (bytes : List ℕ) → IsComplete bytes

-- each permutation of a file has exactly one regular history
abbrev pub EachHasAHistory : Type 0
EachHasAHistory = (bytes : List ℕ) (file : File) → FileIs bytes (Ok file) → (entries : List EntryTree) → Contains (permutations_of file.spec) entries
    → ExactlyOne (IsRegular file.spec file.blocks entries)

-- whatever the bytes are, they are exactly one spec, or have exactly one refusal
abbrev pub EveryFileIsOneThing : Type 0
EveryFileIsOneThing = (bytes : List ℕ) → ExactlyOne (FileIs bytes)

-- and for each limit they have exactly one text with its notes and its end, or exactly one refusal
abbrev pub EveryFileHasAText : Type 0
EveryFileHasAText = (bytes : List ℕ) (limit : ℕ) → ExactlyOne (FileSays bytes limit)
