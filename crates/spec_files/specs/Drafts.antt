-- A permutation's report in memory, before its turn comes.
use Rattle.std.specs.Prelude.{◌≡◌, ◌≢◌, ◌≤◌, true, All, List, [], Some, Err, IfErr, IsTrue, length, map, vec_len, vec_capacity}
use Rattle.std.specs.Global.{Vec}
use Rattle.iso_lexer.specs.Devices.{page_text}
use Rattle.session_machine.specs.Machine.{Blocks}
use Rattle.spec_parser.specs.declared.tree.Entry.{Entry}
use Rattle.spec_parser.specs.Trees.{EntryTree, SpecTree, perm_view}
use Rattle.spec_files.specs.declared.draft.Draft.{Draft}
use Rattle.spec_files.specs.declared.fault.RunFault.TheVariants as faults
use Rattle.spec_files.specs.Runs.{is_of_one, has_ended, IsOneTold}
use Rattle.spec_files.specs.Stopped.{IsStoppedSo}

abbrev pub entries_of : Draft → List EntryTree
entries_of draft = perm_view draft.entries

-- the entries of a draft, as they were read
abbrev pub entries_read : Draft → Vec Entry
entries_read draft = draft.entries

-- the permutation's run was written to pages that held nothing; where memory was refused to a page the answer says so; and no run whose blocks and steps are there was stopped by what an engine refuses
pub record IsDraft (spec : SpecTree) (blocks : Blocks) (draft : Draft) : Type 0 where
  pub told : IsTrue (has_ended draft.result)
      → IsOneTold spec blocks (entries_of draft) (Some []) (Some (page_text draft.text)) (Some []) (Some (page_text draft.notes)) draft.result
  pub unbroken : draft.result ≢ Err faults.ScheduleBroken
  pub unwritten : draft.result ≢ Err faults.Write
  pub kinds : IfErr draft.result (λ e. is_of_one e ≡ true)
  pub sure : IsStoppedSo spec blocks (entries_of draft) draft.result

-- each of the drafts is as this says, and they are the drafts of these entries, in the same order
pub record AreDrafts (is_draft : Draft → Type 0) (taken : List (Vec Entry)) (drafts : Vec Draft) : Type 0 where
  pub given : All is_draft drafts.items
  pub entries : map entries_read drafts.items ≡ taken

-- the list is empty, with room for a draft of each of these
pub record HasRoomFor (drafts : Vec Draft) (taken : List (Vec Entry)) : Type 0 where
  pub empty : drafts.items ≡ []
  pub long : vec_len drafts ≡ 0
  pub room : length taken ≤ vec_capacity drafts
