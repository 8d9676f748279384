-- To be believed. What a spec file says, without where it lies in memory.
use Rattle.std.specs.Prelude.{ℕ, List, map, Option, option_map}
use Rattle.std.specs.Global.{Vec}
use Rattle.iso_lexer.specs.Names.{Written, name_view}
use Rattle.spec_parser.specs.declared.tree.Part.{Part}
use Rattle.spec_parser.specs.declared.tree.StepPart.{StepPart}
use Rattle.spec_parser.specs.declared.tree.SessionPart.{SessionPart}
use Rattle.spec_parser.specs.declared.tree.Marker.{Marker}
use Rattle.spec_parser.specs.declared.tree.Entry.{Entry}
use Rattle.spec_parser.specs.declared.tree.Spec.{Spec}
use Rattle.spec_parser.specs.declared.draft.PlacedName.{PlacedName}
use Rattle.spec_parser.specs.declared.draft.StepDraft.{StepDraft}
use Rattle.spec_parser.specs.declared.draft.SessionDraft.{SessionDraft}
use Rattle.spec_parser.specs.declared.draft.MarkerName.{MarkerName}
use Rattle.spec_parser.specs.declared.draft.MarkerName.TheVariants as markers
use Rattle.spec_parser.specs.declared.draft.EntryName.{EntryName}
use Rattle.spec_parser.specs.declared.draft.FileDraft.{FileDraft}

-- a block: its text, the byte at which that begins, and its number
pub record PartTree : Type 0 where
  pub sql : List ℕ
  pub at : ℕ
  pub block : ℕ

abbrev pub part_view : Part → PartTree
part_view p = record { sql = p.sql.now; at = p.at; block = p.block }

-- ---- a spec

-- a step, and a session; N is how a name is told: as it is written, or with its place
pub record StepOf (N : Type 0) : Type 0 where
  pub name : N
  pub part : PartTree

pub record SessionOf (N : Type 0) : Type 0 where
  pub name : N
  pub setup : Option PartTree
  pub steps : List (StepOf N)
  pub teardown : Option PartTree

abbrev pub StepTree : Type 0
StepTree = StepOf Written

abbrev pub SessionTree : Type 0
SessionTree = SessionOf Written

pub record EntryTree : Type 0 where
  pub session : ℕ
  pub step : ℕ
  pub markers : List Marker

pub record SpecTree : Type 0 where
  pub setups : List PartTree
  pub teardown : Option PartTree
  pub sessions : List SessionTree
  pub perms : List (List EntryTree)

abbrev pub step_view : StepPart → StepTree
step_view s = record { name = name_view s.name; part = part_view s.part }

abbrev pub session_view : SessionPart → SessionTree
session_view s = record { name = name_view s.name; setup = option_map part_view s.setup; steps = map step_view s.steps.items; teardown = option_map part_view s.teardown }

abbrev pub entry_view : Entry → EntryTree
entry_view e = record { session = e.session; step = e.step; markers = e.markers.items }

abbrev pub perm_view : Vec Entry → List EntryTree
perm_view es = map entry_view es.items

abbrev pub spec_view : Spec → SpecTree
spec_view s = record { setups = map part_view s.setups.items; teardown = option_map part_view s.teardown; sessions = map session_view s.sessions.items; perms = map perm_view s.perms.items }

-- ---- a file before its names are looked up

-- a name, and the byte at which it stands
pub record NameAt : Type 0 where
  pub name : Written
  pub at : ℕ

pub data MarkerTree : Type 0 where
  star : MarkerTree
  named : NameAt → MarkerTree

pub record NamedEntry : Type 0 where
  pub name : NameAt
  pub markers : List MarkerTree

pub record FileTree : Type 0 where
  pub setups : List PartTree
  pub teardown : Option PartTree
  pub sessions : List (SessionOf NameAt)
  pub perms : List (List NamedEntry)

abbrev pub placed_view : PlacedName → NameAt
placed_view n = record { name = name_view n.name; at = n.at }

abbrev pub draft_view : StepDraft → StepOf NameAt
draft_view s = record { name = placed_view s.name; part = part_view s.part }

abbrev pub session_draft_view : SessionDraft → SessionOf NameAt
session_draft_view s = record { name = placed_view s.name; setup = option_map part_view s.setup; steps = map draft_view s.steps.items; teardown = option_map part_view s.teardown }

abbrev pub marker_view : MarkerName → MarkerTree
marker_view markers.Star = star
marker_view (markers.Named n) = named (placed_view n)

abbrev pub entry_name_view : EntryName → NamedEntry
entry_name_view e = record { name = placed_view e.name; markers = map marker_view e.markers.items }

abbrev pub perm_names_view : Vec EntryName → List NamedEntry
perm_names_view es = map entry_name_view es.items

abbrev pub file_view : FileDraft → FileTree
file_view f = record {
  setups = map part_view f.setups.items;
  teardown = option_map part_view f.teardown;
  sessions = map session_draft_view f.sessions.items;
  perms = map perm_names_view f.perms.items;
}
