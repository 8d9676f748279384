-- The worked history with a deadlock, by computation from state to state.
use Rattle.std.proofs.Common.{ℕ, List, [], ◌∷◌, refl}
use Rattle.std.specs.Prelude.{Option, Some, None, pos, true, false}
use Rattle.sql_trees.specs.declared.kind.Kind.TheVariants.{Int as Integer}
use Rattle.sql_trees.specs.declared.stmt.Level.TheVariants.{ReadCommitted}
use Rattle.sql_trees.specs.declared.stmt.Strength.TheVariants.{Update}
use Rattle.sql_values.specs.declared.value.Value.TheVariants.{Int}
use Rattle.row_versions.specs.declared.write.Write.{Write}
use Rattle.row_versions.specs.declared.write.Fate.{Fate}
use Rattle.row_versions.specs.declared.write.Fate.TheVariants.{Committed, RolledBack, Open as OpenFate}
use Rattle.row_locks.specs.declared.held.Held.{Held}
use Rattle.session_machine.specs.declared.session.Transaction.{Transaction}
use Rattle.session_machine.specs.declared.session.Transaction.TheVariants.{Aborted, Closed, Open}
use Rattle.session_machine.specs.declared.session.Request.TheVariants.{Row}
use Rattle.session_machine.specs.declared.session.Session.{Session}
use Rattle.session_machine.specs.declared.event.Event.TheVariants.{Launch, Step, Leave}
use Rattle.session_machine.specs.declared.event.Mode.TheVariants.{Directed}
use Rattle.session_machine.specs.declared.fault.StmtFault.TheVariants.{Deadlock}
use Rattle.session_machine.specs.declared.reply.Outcome.TheVariants.{Launched, Done, Waits, Failed, Left}
use Rattle.session_machine.specs.declared.reply.HistItem.{HistItem}
use Rattle.session_machine.specs.Tables.{Table}
use Rattle.session_machine.specs.Machine.{Machine, at_rest}
use Rattle.session_machine.specs.Engine.{Follows}
use Rattle.permutation_plans.specs.Waited.{item, t, x}
use Rattle.permutation_plans.specs.Deadlocked.{deadlocked_spec, deadlocked_blocks, deadlocked_entries, deadlocked_items, u, DeadlockedHistory}
use Rattle.permutation_plans.proofs.Next.{regular_of}
use Rattle.permutation_plans.proofs.Waiting.{state, at, between}

abbrev table_of : List ℕ → ℕ → Table
table_of name tx = record { made = record { name = name; columns = record { name = x; kind = Integer; not_null = false } ∷ []; keys = [] }; by = record { 0 = tx } }

abbrev both : List Table
both = table_of t 0 ∷ table_of u 1 ∷ []

-- the row of that table, which the transaction of the same number has made
abbrev made : ℕ → Write
made n = record { tx = record { 0 = n }; command = 1; table = record { 0 = n }; row = record { 0 = n }; values = Some (Int (pos 1) ∷ []) }

-- it is deleted
abbrev gone : ℕ → ℕ → ℕ → Write
gone tx n command = record { tx = record { 0 = tx }; command = command; table = record { 0 = n }; row = record { 0 = n }; values = None }

abbrev one_gone : List Write → List Write
one_gone more = made 0 ∷ made 1 ∷ gone 2 0 0 ∷ more

abbrev locked : ℕ → ℕ → Held
locked row tx = record { row = record { 0 = row }; tx = record { 0 = tx }; strength = Update }

abbrev locks : List Held
locks = locked 0 2 ∷ locked 1 3 ∷ []

abbrev making : ℕ → Transaction
making n = Open (record { tx = record { 0 = n }; explicit = false; level = ReadCommitted; snapshot = Some n; command = 1 })

abbrev deleting : ℕ → Option ℕ → ℕ → Transaction
deleting tx snapshot command = Open (record { tx = record { 0 = tx }; explicit = true; level = ReadCommitted; snapshot = snapshot; command = command })

-- session 1 waits for the row of u, since the event of this number
abbrev waiting : Session
waiting = record {
  place = Some (record { block = 3; next = 0 });
  transaction = deleting 2 (Some 2) 1;
  statement = Some (record {
    table = record { 0 = 1 };
    view = record { tx = Some (record { 0 = 2 }); commits = 2; command = 1 };
    place = 0;
    rows = [];
    wait = record { number = 13; request = Row (record { 0 = 1 }) Update };
  });
}

abbrev setup : List Fate → List Fate
setup more = Committed 0 ∷ Committed 1 ∷ more

abbrev begun : List Fate
begun = OpenFate ∷ OpenFate ∷ []

abbrev failed : List Fate
failed = OpenFate ∷ RolledBack ∷ []

abbrev over : List Fate
over = RolledBack ∷ RolledBack ∷ []

abbrev m0 : Machine
m0 = state 0 [] [] [] [] at_rest at_rest at_rest

abbrev m1 : Machine
m1 = state 1 [] [] [] [] (at 0 0 Closed) at_rest at_rest

abbrev m2 : Machine
m2 = state 2 [] [] (OpenFate ∷ []) (table_of t 0 ∷ []) (at 0 1 (making 0)) at_rest at_rest

abbrev m3 : Machine
m3 = state 3 [] (made 0 ∷ []) (Committed 0 ∷ []) (table_of t 0 ∷ []) at_rest at_rest at_rest

abbrev m4 : Machine
m4 = state 4 [] (made 0 ∷ []) (Committed 0 ∷ []) (table_of t 0 ∷ []) (at 1 0 Closed) at_rest at_rest

abbrev m5 : Machine
m5 = state 5 [] (made 0 ∷ []) (Committed 0 ∷ OpenFate ∷ []) both (at 1 1 (making 1)) at_rest at_rest

abbrev m6 : Machine
m6 = state 6 [] (made 0 ∷ made 1 ∷ []) (setup []) both at_rest at_rest at_rest

abbrev m7 : Machine
m7 = state 7 [] (made 0 ∷ made 1 ∷ []) (setup []) both at_rest (at 2 0 Closed) at_rest

abbrev m8 : Machine
m8 = state 8 [] (made 0 ∷ made 1 ∷ []) (setup (OpenFate ∷ [])) both at_rest (at 2 1 (deleting 2 None 0)) at_rest

abbrev m9 : Machine
m9 = state 9 (locked 0 2 ∷ []) (one_gone []) (setup (OpenFate ∷ [])) both at_rest (between (deleting 2 (Some 2) 1)) at_rest

abbrev m10 : Machine
m10 = state 10 (locked 0 2 ∷ []) (one_gone []) (setup (OpenFate ∷ [])) both at_rest (between (deleting 2 (Some 2) 1)) (at 4 0 Closed)

abbrev m11 : Machine
m11 = state 11 (locked 0 2 ∷ []) (one_gone []) (setup begun) both at_rest (between (deleting 2 (Some 2) 1)) (at 4 1 (deleting 3 None 0))

abbrev m12 : Machine
m12 = state 12 locks (one_gone (gone 3 1 0 ∷ [])) (setup begun) both at_rest (between (deleting 2 (Some 2) 1)) (between (deleting 3 (Some 2) 1))

abbrev m13 : Machine
m13 = state 13 locks (one_gone (gone 3 1 0 ∷ [])) (setup begun) both at_rest (at 3 0 (deleting 2 (Some 2) 1)) (between (deleting 3 (Some 2) 1))

abbrev m14 : Machine
m14 = state 14 locks (one_gone (gone 3 1 0 ∷ [])) (setup begun) both at_rest waiting (between (deleting 3 (Some 2) 1))

abbrev m15 : Machine
m15 = state 15 locks (one_gone (gone 3 1 0 ∷ [])) (setup begun) both at_rest waiting (at 5 0 (deleting 3 (Some 2) 1))

abbrev m16 : Machine
m16 = state 16 (locked 0 2 ∷ []) (one_gone (gone 3 1 0 ∷ [])) (setup failed) both at_rest waiting (between Aborted)

abbrev m17 : Machine
m17 = state 17 (locked 0 2 ∷ locked 1 2 ∷ []) (one_gone (gone 3 1 0 ∷ gone 2 1 1 ∷ [])) (setup failed) both at_rest (between (deleting 2 (Some 2) 2)) (between Aborted)

abbrev m18 : Machine
m18 = state 18 [] (one_gone (gone 3 1 0 ∷ gone 2 1 1 ∷ [])) (setup over) both at_rest at_rest (between Aborted)

abbrev m19 : Machine
m19 = state 19 [] (one_gone (gone 3 1 0 ∷ gone 2 1 1 ∷ [])) (setup over) both at_rest at_rest at_rest

abbrev To : Machine → HistItem → Machine → Type 0
To m i n = Follows deadlocked_blocks Directed m i n

step1 : To m0 (item (Launch 0 0) Launched false) m1
step1 = refl

step2 : To m1 (item (Step 0) Done false) m2
step2 = refl

step3 : To m2 (item (Step 0) Done true) m3
step3 = refl

step4 : To m3 (item (Launch 0 1) Launched false) m4
step4 = refl

step5 : To m4 (item (Step 0) Done false) m5
step5 = refl

step6 : To m5 (item (Step 0) Done true) m6
step6 = refl

step7 : To m6 (item (Launch 1 2) Launched false) m7
step7 = refl

step8 : To m7 (item (Step 1) Done false) m8
step8 = refl

step9 : To m8 (item (Step 1) Done true) m9
step9 = refl

step10 : To m9 (item (Launch 2 4) Launched false) m10
step10 = refl

step11 : To m10 (item (Step 2) Done false) m11
step11 = refl

step12 : To m11 (item (Step 2) Done true) m12
step12 = refl

step13 : To m12 (item (Launch 1 3) Launched false) m13
step13 = refl

step14 : To m13 (item (Step 1) Waits false) m14
step14 = refl

step15 : To m14 (item (Launch 2 5) Launched false) m15
step15 = refl

step16 : To m15 (item (Step 2) (Failed Deadlock) true) m16
step16 = refl

step17 : To m16 (item (Step 1) Done true) m17
step17 = refl

step18 : To m17 (item (Leave 1) Left true) m18
step18 = refl

step19 : To m18 (item (Leave 2) Left true) m19
step19 = refl

pub deadlocked : DeadlockedHistory
deadlocked =
    regular_of deadlocked_spec deadlocked_blocks deadlocked_entries deadlocked_items m19
    (m1, step1, (m2, step2, (m3, step3, (m4, step4, (m5, step5, (m6, step6, (m7, step7, (m8, step8, (m9, step9, (m10, step10, (m11, step11, (m12, step12, (m13, step13, (m14, step14, (m15, step15, (m16, step16, (m17, step17, (m18, step18, (m19, step19, refl)))))))))))))))))))
    refl
    (refl, (tt, (tt, (refl, (tt, (tt, (refl, (tt, (tt, (refl, (tt, (tt, (refl, (tt, (refl, (tt, (tt, (refl, (refl, refl)))))))))))))))))))
