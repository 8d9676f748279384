-- Worked rows: what is said, and what is due, of histories as the definitions give it.
use Rattle.std.specs.Prelude.{◌≡◌, refl, ℕ, Bool, true, false, List, [], ◌∷◌, ◌++◌}
use Rattle.report_lines.specs.declared.history.Line.TheVariants.{AtOnce, Waiting, Completed}
use Rattle.session_machine.specs.declared.event.Event.TheVariants.{Launch, Step, Leave}
use Rattle.session_machine.specs.declared.reply.Outcome.{Outcome}
use Rattle.session_machine.specs.declared.reply.Outcome.TheVariants.{Launched, Done, Waits, Failed, Left}
use Rattle.session_machine.specs.declared.reply.HistItem.{HistItem}
use Rattle.spec_parser.specs.declared.tree.Marker.{Marker}
use Rattle.spec_parser.specs.declared.tree.Marker.TheVariants.{Star, Step as Named}
use Rattle.report_lines.specs.declared.history.RunState.TheVariants.{Due, Whole, Invalid}
use Rattle.session_machine.specs.declared.event.Order.{Order}
use Rattle.session_machine.specs.declared.event.Order.TheVariants.{Launch as LaunchOf, Leave as LeaveOf, Stop}
use Rattle.report_lines.specs.Starts.{segment_start}
use Rattle.report_lines.specs.Due.{due, Planned, orders, segment, is_over, went_well}
use Rattle.report_lines.specs.declared.history.PlannedLaunch.{PlannedLaunch}
use Rattle.spec_parser.specs.Trees.{EntryTree}
use Rattle.session_machine.specs.declared.fault.StmtFault.TheVariants.{TooManyValues}
use Rattle.report_lines.specs.History.{PermutationRun}
use Rattle.report_lines.specs.Code.Walk.{walked}

abbrev begins : ℕ → HistItem
begins s = record { event = Launch s 0; reply = record { outcome = Launched; ended = false } }

abbrev does : ℕ → Outcome → Bool → HistItem
does s outcome ended = record { event = Step s; reply = record { outcome = outcome; ended = ended } }

abbrev entry : ℕ → ℕ → List Marker → EntryTree
entry session step markers = record { session = session; step = step; markers = markers }

-- permutation a(*) b
abbrev ten : PermutationRun
ten = record {
  entries = entry 1 0 (Star ∷ []) ∷ entry 2 0 [] ∷ [];
  items = begins 1 ∷ does 1 Done true ∷ begins 2 ∷ does 2 Done true ∷ [];
  setups = 0;
}

ten_lines : (walked ten 2).lines ≡ Waiting 0 ∷ AtOnce 1 4 ∷ Completed 0 4 ∷ []
ten_lines = refl

ten_ends : (walked ten 2).state ≡ Whole
ten_ends = refl

ten_due : (walked ten 1).state ≡ Due 1
ten_due = refl

-- permutation a y x(y) ac, after a setup
abbrev eleven : PermutationRun
eleven = record {
  entries = entry 1 0 [] ∷ entry 2 0 [] ∷ entry 3 0 (Named 2 0 ∷ []) ∷ entry 1 1 [] ∷ [];
  items = begins 0 ∷ does 0 Done true
      ∷ begins 1 ∷ does 1 Done true
      ∷ begins 2 ∷ does 2 Waits false
      ∷ begins 3 ∷ does 3 Done true
      ∷ begins 1 ∷ does 1 Done true ∷ does 2 Done true ∷ [];
  setups = 1;
}

eleven_lines : (walked eleven 4).lines ≡ AtOnce 0 4 ∷ Waiting 1 ∷ Waiting 2 ∷ AtOnce 3 11 ∷ Completed 1 11 ∷ Completed 2 11 ∷ []
eleven_lines = refl

eleven_ends : (walked eleven 4).state ≡ Whole
eleven_ends = refl

-- permutation a b bc ac
abbrev twelve : PermutationRun
twelve = record {
  entries = entry 1 0 [] ∷ entry 2 0 [] ∷ entry 2 1 [] ∷ entry 1 1 [] ∷ [];
  items = begins 1 ∷ does 1 Done true ∷ begins 2 ∷ does 2 Waits false ∷ [];
  setups = 0;
}

twelve_lines : (walked twelve 2).lines ≡ AtOnce 0 2 ∷ Waiting 1 ∷ []
twelve_lines = refl

twelve_ends : (walked twelve 2).state ≡ Invalid
twelve_ends = refl

-- permutation a x(*, y) y ac: x is passed over, y reported, and a second pass reports x
abbrev polls : PermutationRun
polls = record {
  entries = entry 1 0 [] ∷ entry 3 0 (Star ∷ Named 2 0 ∷ []) ∷ entry 2 0 [] ∷ entry 1 1 [] ∷ [];
  items = begins 1 ∷ does 1 Done true
      ∷ begins 3 ∷ does 3 Done true
      ∷ begins 2 ∷ does 2 Waits false
      ∷ begins 1 ∷ does 1 Done true ∷ does 2 Done true ∷ [];
  setups = 0;
}

polls_lines : (walked polls 4).lines ≡ AtOnce 0 2 ∷ Waiting 1 ∷ Waiting 2 ∷ AtOnce 3 9 ∷ Completed 2 9 ∷ Completed 1 9 ∷ []
polls_lines = refl

abbrev launch : ℕ → ℕ → PlannedLaunch
launch session block = record { session = session; block = block }

-- a setup of block 0; session 2 has a teardown of block 9, which waits; block 8 is the main teardown
abbrev plan : List HistItem → Planned
plan items = record {
  launches = record { setups = launch 0 0 ∷ []; steps = launch 1 3 ∷ launch 2 4 ∷ []; teardowns = launch 2 9 ∷ []; sessions = 2; last = launch 0 8 ∷ [] };
  run = record { entries = entry 1 0 [] ∷ entry 2 0 [] ∷ []; items = items; setups = 1 };
}

abbrev due_of : Planned → Order
due_of p = due p.launches p.run (orders p.run.items)

abbrev leaves : ℕ → HistItem
leaves s = record { event = Leave s; reply = record { outcome = Left; ended = true } }

first_due : due_of (plan []) ≡ LaunchOf 0 0
first_due = refl

failed_due : due_of (plan (begins 0 ∷ does 0 (Failed TooManyValues) true ∷ [])) ≡ Stop
failed_due = refl

abbrev set_up : List HistItem
set_up = begins 0 ∷ does 0 Done true ∷ []

second_due : due_of (plan set_up) ≡ LaunchOf 1 3
second_due = refl

third_due : due_of (plan (set_up ++ begins 1 ∷ does 1 Done true ∷ [])) ≡ LaunchOf 2 4
third_due = refl

abbrev entered : List HistItem
entered = set_up ++ begins 1 ∷ does 1 Done true ∷ begins 2 ∷ does 2 Done true ∷ []

invalid_due : due_of (plan (set_up ++ begins 1 ∷ does 1 Done true ∷ begins 2 ∷ does 2 Waits false ∷ [])) ≡ Stop
invalid_due = refl

fourth_due : due_of (plan entered) ≡ LaunchOf 2 9
fourth_due = refl

waits_due : due_of (plan (entered ++ begins 2 ∷ does 2 Waits false ∷ [])) ≡ LeaveOf 2
waits_due = refl

abbrev left_teardown : List HistItem
left_teardown = entered ++ begins 2 ∷ does 2 Waits false ∷ leaves 2 ∷ []

leave_due : due_of (plan left_teardown) ≡ LeaveOf 1
leave_due = refl

leaves_due : due_of (plan (left_teardown ++ leaves 1 ∷ [])) ≡ LeaveOf 2
leaves_due = refl

last_due : due_of (plan (left_teardown ++ leaves 1 ∷ leaves 2 ∷ [])) ≡ LaunchOf 0 8
last_due = refl

over_due : due_of (plan (left_teardown ++ leaves 1 ∷ leaves 2 ∷ begins 0 ∷ does 0 Done true ∷ [])) ≡ Stop
over_due = refl

teardown_well_due : due_of (plan (entered ++ begins 2 ∷ does 2 Done true ∷ [])) ≡ LeaveOf 1
teardown_well_due = refl

failed_last_due : due_of (plan (left_teardown ++ leaves 1 ∷ leaves 2 ∷ begins 0 ∷ does 0 (Failed TooManyValues) true ∷ [])) ≡ Stop
failed_last_due = refl

waiting_setup_due : due_of (plan (begins 0 ∷ does 0 Waits false ∷ [])) ≡ Stop
waiting_setup_due = refl

late_failure_due : due_of (plan (begins 0 ∷ does 0 Done false ∷ does 0 (Failed TooManyValues) true ∷ [])) ≡ Stop
late_failure_due = refl

-- setups of the file and of session 1, and one step
abbrev two_setups : List HistItem → Planned
two_setups items = record {
  launches = record { setups = launch 0 0 ∷ launch 1 1 ∷ []; steps = launch 1 3 ∷ []; teardowns = []; sessions = 1; last = [] };
  run = record { entries = entry 1 0 [] ∷ []; items = items; setups = 2 };
}

second_setup_due : due_of (two_setups (begins 0 ∷ does 0 Done false ∷ does 0 Done true ∷ [])) ≡ LaunchOf 1 1
second_setup_due = refl

first_step_due : due_of (two_setups (begins 0 ∷ does 0 Done true ∷ begins 1 ∷ does 1 Done true ∷ [])) ≡ LaunchOf 1 3
first_step_due = refl

second_fails_due : due_of (two_setups (begins 0 ∷ does 0 Done true ∷ begins 1 ∷ does 1 (Failed TooManyValues) true ∷ [])) ≡ Stop
second_fails_due = refl

-- a step that still waits at the end
abbrev waits_on : PermutationRun
waits_on = record { entries = entry 1 0 [] ∷ []; items = begins 1 ∷ does 1 Waits false ∷ []; setups = 0 }

waits_on_lines : (walked waits_on 1).lines ≡ Waiting 0 ∷ []
waits_on_lines = refl

waits_on_ends : (walked waits_on 1).state ≡ Invalid
waits_on_ends = refl

-- three segments: of three items, of one, and of two
abbrev cut : List HistItem
cut = begins 0 ∷ does 0 Done false ∷ does 0 (Failed TooManyValues) true ∷ leaves 1 ∷ begins 2 ∷ does 2 Done true ∷ []

cut_orders : orders cut ≡ 3
cut_orders = refl

cut_starts : segment_start cut 1 ≡ 3
cut_starts = refl

cut_ends : segment_start cut 3 ≡ 6
cut_ends = refl

cut_last : segment cut 2 ≡ begins 2 ∷ does 2 Done true ∷ []
cut_last = refl

cut_behind : segment cut 3 ≡ []
cut_behind = refl

cut_over : is_over cut 0 0 ≡ true
cut_over = refl

cut_other : is_over cut 0 1 ≡ false
cut_other = refl

cut_well : went_well cut 2 2 ≡ true
cut_well = refl

cut_failed : went_well cut 0 0 ≡ false
cut_failed = refl
