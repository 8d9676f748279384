-- The worked history, by computation from state to state.
use Rattle.std.proofs.Common.{◌≡◌, ℕ, ◌<◌, true, false, List, [], ◌∷◌, take, subst, refl, arith}
use Rattle.std.proofs.lemmas.Option.{slice_get_within}
use Rattle.std.specs.Prelude.{Option, Some, None, slice_get, Ok}
use Rattle.sql_trees.specs.declared.kind.Kind.TheVariants.{Int as Integer}
use Rattle.sql_trees.specs.declared.stmt.Level.TheVariants.{ReadCommitted, RepeatableRead}
use Rattle.sql_trees.specs.declared.stmt.Strength.TheVariants.{Update}
use Rattle.sql_values.specs.declared.value.Value.{Value}
use Rattle.row_versions.specs.declared.write.Write.{Write}
use Rattle.row_versions.specs.declared.write.Fate.{Fate}
use Rattle.row_versions.specs.declared.write.Fate.TheVariants.{RolledBack, Committed, Open as OpenFate}
use Rattle.row_locks.specs.declared.held.Held.{Held}
use Rattle.session_machine.specs.declared.session.Transaction.{Transaction}
use Rattle.session_machine.specs.declared.session.Transaction.TheVariants.{Closed, Open}
use Rattle.session_machine.specs.declared.session.Session.{Session}
use Rattle.session_machine.specs.declared.event.Event.TheVariants.{Launch, Step, Leave}
use Rattle.session_machine.specs.declared.event.Mode.TheVariants.{Directed}
use Rattle.session_machine.specs.declared.reply.Outcome.TheVariants.{Launched, Done, Left}
use Rattle.session_machine.specs.declared.reply.HistItem.{HistItem}
use Rattle.session_machine.specs.Tables.{Table}
use Rattle.session_machine.specs.Machine.{Machine, at_rest, opening, visible}
use Rattle.session_machine.specs.Engine.{Follows}
use Rattle.session_laws.specs.Worked.{worked_blocks, worked_items, WorkedHistory, WorkedStates, Waited, Apart, Kept, Given, third, led_to, t, x, item, rows_reply, one_value, two}
use Rattle.session_laws.proofs.Replaying.{one_run}

abbrev made : Table
made = record { made = record { name = t; columns = record { name = x; kind = Integer; not_null = false } ∷ []; keys = [] }; by = record { 0 = 0 } }

abbrev wrote : ℕ → ℕ → ℕ → List Value → Write
wrote tx command row values = record { tx = record { 0 = tx }; command = command; table = record { 0 = 0 }; row = record { 0 = row }; values = Some values }

abbrev holding : ℕ → List Held → List Write → List Fate → List Table → Session → Session → Session → Machine
holding events held log fates tables a b c = record {
  db = record { content = record { log = log; fates = fates }; catalog = record { tables = tables; drops = [] }; held = held };
  sessions = a ∷ b ∷ c ∷ [];
  events = events;
}

abbrev state : ℕ → List Write → List Fate → List Table → Session → Session → Session → Machine
state events log fates tables a b c = holding events [] log fates tables a b c

-- the row that session 2's open transaction made
abbrev kept : List Held
kept = record { row = record { 0 = 2 }; tx = record { 0 = 5 }; strength = Update } ∷ []

abbrev at : ℕ → ℕ → Transaction → Session
at block next t = record { place = Some (record { block = block; next = next }); transaction = t; statement = None }

abbrev between : Transaction → Session
between t = record { place = None; transaction = t; statement = None }

-- session 1's transaction
abbrev reading : Option ℕ → ℕ → Transaction
reading snapshot command = Open (record { tx = record { 0 = 1 }; explicit = true; level = RepeatableRead; snapshot = snapshot; command = command })

-- session 0's
abbrev making : Transaction
making = Open (record { tx = record { 0 = 0 }; explicit = false; level = ReadCommitted; snapshot = Some 0; command = 1 })

abbrev first : List Write
first = wrote 0 1 0 one_value ∷ []

abbrev both : List Write
both = wrote 0 1 0 one_value ∷ wrote 2 0 1 two ∷ []

abbrev before_leave : List Fate
before_leave = Committed 0 ∷ OpenFate ∷ Committed 1 ∷ Committed 2 ∷ []

abbrev after_leave : List Fate
after_leave = Committed 0 ∷ RolledBack ∷ Committed 1 ∷ Committed 2 ∷ []

abbrev m0 : Machine
m0 = state 0 [] [] [] at_rest at_rest at_rest

abbrev m1 : Machine
m1 = state 1 [] [] [] (at 0 0 Closed) at_rest at_rest

abbrev m2 : Machine
m2 = state 2 [] (OpenFate ∷ []) (made ∷ []) (at 0 1 making) at_rest at_rest

abbrev m3 : Machine
m3 = state 3 first (Committed 0 ∷ []) (made ∷ []) at_rest at_rest at_rest

abbrev m4 : Machine
m4 = state 4 first (Committed 0 ∷ []) (made ∷ []) at_rest (at 1 0 Closed) at_rest

abbrev m5 : Machine
m5 = state 5 first (Committed 0 ∷ OpenFate ∷ []) (made ∷ []) at_rest (at 1 1 (reading None 0)) at_rest

abbrev m6 : Machine
m6 = state 6 first (Committed 0 ∷ OpenFate ∷ []) (made ∷ []) at_rest (between (reading (Some 1) 1)) at_rest

abbrev m7 : Machine
m7 = state 7 first (Committed 0 ∷ OpenFate ∷ []) (made ∷ []) at_rest (between (reading (Some 1) 1)) (at 2 0 Closed)

abbrev m8 : Machine
m8 = state 8 both (Committed 0 ∷ OpenFate ∷ Committed 1 ∷ []) (made ∷ []) at_rest (between (reading (Some 1) 1)) at_rest

abbrev m9 : Machine
m9 = state 9 both (Committed 0 ∷ OpenFate ∷ Committed 1 ∷ []) (made ∷ []) at_rest (at 3 0 (reading (Some 1) 1)) at_rest

abbrev m10 : Machine
m10 = state 10 both (Committed 0 ∷ OpenFate ∷ Committed 1 ∷ []) (made ∷ []) at_rest (between (reading (Some 1) 2)) at_rest

abbrev m11 : Machine
m11 = state 11 both (Committed 0 ∷ OpenFate ∷ Committed 1 ∷ []) (made ∷ []) at_rest (between (reading (Some 1) 2)) (at 3 0 Closed)

abbrev m12 : Machine
m12 = state 12 both before_leave (made ∷ []) at_rest (between (reading (Some 1) 2)) at_rest

abbrev m13 : Machine
m13 = state 13 both after_leave (made ∷ []) at_rest at_rest at_rest

abbrev m14 : Machine
m14 = state 14 both after_leave (made ∷ []) at_rest (at 3 0 Closed) at_rest

abbrev m15 : Machine
m15 = state 15 both (Committed 0 ∷ RolledBack ∷ Committed 1 ∷ Committed 2 ∷ Committed 3 ∷ []) (made ∷ []) at_rest at_rest at_rest

abbrev writing : Option ℕ → ℕ → Transaction
writing snapshot command = Open (record { tx = record { 0 = 5 }; explicit = true; level = ReadCommitted; snapshot = snapshot; command = command })

abbrev all_three : List Write
all_three = wrote 0 1 0 one_value ∷ wrote 2 0 1 two ∷ third ∷ []

abbrev while_open : List Fate
while_open = Committed 0 ∷ RolledBack ∷ Committed 1 ∷ Committed 2 ∷ Committed 3 ∷ OpenFate ∷ []

abbrev m16 : Machine
m16 = state 16 both (Committed 0 ∷ RolledBack ∷ Committed 1 ∷ Committed 2 ∷ Committed 3 ∷ []) (made ∷ []) at_rest at_rest (at 4 0 Closed)

abbrev m17 : Machine
m17 = state 17 both while_open (made ∷ []) at_rest at_rest (at 4 1 (writing None 0))

abbrev m18 : Machine
m18 = holding 18 kept all_three while_open (made ∷ []) at_rest at_rest (between (writing (Some 4) 1))

abbrev m19 : Machine
m19 = holding 19 kept all_three while_open (made ∷ []) at_rest at_rest (at 5 0 (writing (Some 4) 1))

abbrev m20 : Machine
m20 = state 20 all_three (Committed 0 ∷ RolledBack ∷ Committed 1 ∷ Committed 2 ∷ Committed 3 ∷ Committed 4 ∷ []) (made ∷ []) at_rest at_rest at_rest

abbrev To : Machine → HistItem → Machine → Type 0
To m i n = Follows worked_blocks Directed m i n

step1 : To m0 (item (Launch 0 0) Launched false) m1
step1 = refl

step2 : To m1 (item (Step 0) Done false) m2
step2 = refl

step3 : To m2 (item (Step 0) Done true) m3
step3 = refl

step4 : To m3 (item (Launch 1 1) Launched false) m4
step4 = refl

step5 : To m4 (item (Step 1) Done false) m5
step5 = refl

step6 : To m5 (item (Step 1) (rows_reply (one_value ∷ [])) true) m6
step6 = refl

step7 : To m6 (item (Launch 2 2) Launched false) m7
step7 = refl

step8 : To m7 (item (Step 2) Done true) m8
step8 = refl

step9 : To m8 (item (Launch 1 3) Launched false) m9
step9 = refl

step10 : To m9 (item (Step 1) (rows_reply (one_value ∷ [])) true) m10
step10 = refl

step11 : To m10 (item (Launch 2 3) Launched false) m11
step11 = refl

step12 : To m11 (item (Step 2) (rows_reply (one_value ∷ two ∷ [])) true) m12
step12 = refl

step13 : To m12 (item (Leave 1) Left true) m13
step13 = refl

step14 : To m13 (item (Launch 1 3) Launched false) m14
step14 = refl

step15 : To m14 (item (Step 1) (rows_reply (one_value ∷ two ∷ [])) true) m15
step15 = refl

step16 : To m15 (item (Launch 2 4) Launched false) m16
step16 = refl

step17 : To m16 (item (Step 2) Done false) m17
step17 = refl

step18 : To m17 (item (Step 2) Done true) m18
step18 = refl

step19 : To m18 (item (Launch 2 5) Launched false) m19
step19 = refl

step20 : To m19 (item (Step 2) Done true) m20
step20 = refl

pub worked : WorkedHistory
worked = (m20, (m1, step1, (m2, step2, (m3, step3, (m4, step4, (m5, step5, (m6, step6, (m7, step7, (m8, step8, (m9, step9, (m10, step10, (m11, step11, (m12, step12, (m13, step13, (m14, step14, (m15, step15, (m16, step16, (m17, step17, (m18, step18, (m19, step19, (m20, step20, refl)))))))))))))))))))))

waited : Waited m9
waited = record { busy = refl; early = refl; idle = refl; leaves_early = refl }

are_apart : Apart m12
are_apart = record { no_session = refl; definition = refl; no_block = refl; snapshot = refl; committed = refl; no_table = refl }

the_last : (later : ℕ) (v : Write) → 2 < later → slice_get all_three later ≡ Some v → ⊥
the_last later v l there = let w = slice_get_within all_three later v there in omega arith

is_kept : Kept m18
is_kept = record { last = record { there = refl; gave = refl; last = λ later v l there its. the_last later v l there }; not_yet = refl; its_own = refl; others = refl }

is_given : Given m20
is_given = record { last = record { there = refl; gave = refl; last = λ later v l there its. the_last later v l there }; committed = refl; its_own = refl; others = refl }

-- each of these states is the one that its part of the history leads to
states_are : (count : ℕ) (m n : Machine) → led_to count m → led_to count n → m ≡ n
states_are count m n h k = one_run worked_blocks Directed (opening 2) (take count worked_items) m n h k

pub worked_states : WorkedStates
worked_states = record {
  waited = λ m h. subst Waited (states_are 9 m9 m (m1, step1, (m2, step2, (m3, step3, (m4, step4, (m5, step5, (m6, step6, (m7, step7, (m8, step8, (m9, step9, refl))))))))) h) waited;
  apart = λ m h. subst Apart (states_are 12 m12 m (m1, step1, (m2, step2, (m3, step3, (m4, step4, (m5, step5, (m6, step6, (m7, step7, (m8, step8, (m9, step9, (m10, step10, (m11, step11, (m12, step12, refl)))))))))))) h) are_apart;
  left = λ m h. subst (λ (n : Machine). visible n 1 t ≡ Ok (Some (one_value ∷ two ∷ []))) (states_are 13 m13 m (m1, step1, (m2, step2, (m3, step3, (m4, step4, (m5, step5, (m6, step6, (m7, step7, (m8, step8, (m9, step9, (m10, step10, (m11, step11, (m12, step12, (m13, step13, refl))))))))))))) h) refl;
  kept = λ m h. subst Kept (states_are 18 m18 m (m1, step1, (m2, step2, (m3, step3, (m4, step4, (m5, step5, (m6, step6, (m7, step7, (m8, step8, (m9, step9, (m10, step10, (m11, step11, (m12, step12, (m13, step13, (m14, step14, (m15, step15, (m16, step16, (m17, step17, (m18, step18, refl)))))))))))))))))) h) is_kept;
  given = λ m h. subst Given (states_are 20 m20 m (m1, step1, (m2, step2, (m3, step3, (m4, step4, (m5, step5, (m6, step6, (m7, step7, (m8, step8, (m9, step9, (m10, step10, (m11, step11, (m12, step12, (m13, step13, (m14, step14, (m15, step15, (m16, step16, (m17, step17, (m18, step18, (m19, step19, (m20, step20, refl)))))))))))))))))))) h) is_given;
}
