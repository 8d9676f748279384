-- The drafts of permutations that have run, or the thread that runs them.
use Rattle.std.specs.Prelude.{◌≡◌, ◌++◌, ◌∷◌, [], All, List, map}
use Rattle.std.specs.Global.{Vec}
use Rattle.spec_parser.specs.declared.tree.Entry.{Entry}
use Rattle.spec_files.specs.declared.draft.Draft.{Draft}
use Rattle.spec_files.specs.declared.side_by_side.Coming.{Coming}
use Rattle.spec_files.specs.declared.side_by_side.Coming.TheVariants.{There, Running}
use Rattle.spec_files.specs.Drafts.{AreDrafts, HasRoomFor, entries_read}

-- the entries of the permutations that have run, or run
abbrev pub coming_entries : {L : Type 0} → Coming L → List (Vec Entry)
coming_entries (There drafts) = map entries_read drafts.items
coming_entries (Running thread) = thread.promise.taken.value.items

-- the entries of all of them, one after the other
abbrev pub all_entries : {L : Type 0} → List (Coming L) → List (Vec Entry)
all_entries [] = []
all_entries (coming ∷ behind) = coming_entries coming ++ all_entries behind

-- the drafts are some of what it is lent, or will be
abbrev pub IsComing : {L : Type 0} → (L → Draft → Type 0) → L → Coming L → Type 0
IsComing gives lent (There drafts) = All (gives lent) drafts.items
IsComing gives lent (Running thread) = thread.promise.lent.value ≡ lent

-- a run may be called with these, and answers the drafts of what is lent, with these entries
pub record RunsAny (pre : Vec (Vec Entry) → Vec Draft → Type 0) (post : Vec (Vec Entry) → Vec Draft → Vec Draft → Type 0) (of_lent : Draft → Type 0) : Type 0 where
  pub accepts : (taken : Vec (Vec Entry)) (room : Vec Draft) → HasRoomFor room taken.items → pre taken room
  pub drafts : (taken : Vec (Vec Entry)) (room drafts : Vec Draft) → post taken room drafts → AreDrafts of_lent taken.items drafts
