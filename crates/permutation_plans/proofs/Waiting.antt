-- The worked histories with a wait, by computation from state to state.
use Rattle.std.proofs.Common.{ℕ, zero, suc, true, false, List, [], ◌∷◌, refl, arith}
use Rattle.std.specs.Prelude.{Option, Some, None, pos}
use Rattle.sql_trees.specs.declared.kind.Kind.TheVariants.{Int as Integer}
use Rattle.sql_trees.specs.declared.stmt.Level.TheVariants.{ReadCommitted}
use Rattle.sql_values.specs.declared.value.Value.TheVariants.{Int}
use Rattle.row_versions.specs.declared.write.Write.{Write}
use Rattle.row_versions.specs.declared.write.Fate.{Fate}
use Rattle.row_versions.specs.declared.write.Fate.TheVariants.{Committed, Open as OpenFate}
use Rattle.row_locks.specs.declared.held.Held.{Held}
use Rattle.sql_trees.specs.declared.stmt.Strength.TheVariants.{Update}
use Rattle.session_machine.specs.declared.session.Transaction.{Transaction}
use Rattle.session_machine.specs.declared.session.Transaction.TheVariants.{Closed, Open}
use Rattle.session_machine.specs.declared.session.Request.TheVariants.{Row}
use Rattle.session_machine.specs.declared.session.Session.{Session}
use Rattle.session_machine.specs.declared.event.Event.TheVariants.{Launch, Step, Leave}
use Rattle.session_machine.specs.declared.event.Mode.TheVariants.{Directed, Free}
use Rattle.session_machine.specs.declared.reply.Outcome.TheVariants.{Launched, Done, Waits, Left}
use Rattle.session_machine.specs.declared.reply.HistItem.{HistItem}
use Rattle.session_machine.specs.Tables.{Table}
use Rattle.session_machine.specs.Machine.{Machine, at_rest}
use Rattle.session_machine.specs.Engine.{Follows}
use Rattle.permutation_plans.specs.FreeRegular.{EachEnds}
use Rattle.permutation_plans.specs.Waited.{waited_spec, waited_blocks, waited_entries, waited_items, item, t, x, WaitedHistory}
use Rattle.permutation_plans.specs.FreeWaited.{waited_free_items, WaitedFreeHistory}
use Rattle.permutation_plans.proofs.Next.{regular_of}

-- ---- states

abbrev tables : List Table
tables = record { made = record { name = t; columns = record { name = x; kind = Integer; not_null = false } ∷ []; keys = [] }; by = record { 0 = 0 } } ∷ []

abbrev made : List Write
made = record { tx = record { 0 = 0 }; command = 1; table = record { 0 = 0 }; row = record { 0 = 0 }; values = Some (Int (pos 1) ∷ []) } ∷ []

abbrev gone : List Write
gone = record { tx = record { 0 = 0 }; command = 1; table = record { 0 = 0 }; row = record { 0 = 0 }; values = Some (Int (pos 1) ∷ []) }
    ∷ record { tx = record { 0 = 1 }; command = 0; table = record { 0 = 0 }; row = record { 0 = 0 }; values = None } ∷ []

abbrev pub state : ℕ → List Held → List Write → List Fate → List Table → Session → Session → Session → Machine
state events held log fates tables a b c = record {
  db = record { content = record { log = log; fates = fates }; catalog = record { tables = tables; drops = [] }; held = held };
  sessions = a ∷ b ∷ c ∷ [];
  events = events;
}

abbrev pub at : ℕ → ℕ → Transaction → Session
at block next t = record { place = Some (record { block = block; next = next }); transaction = t; statement = None }

abbrev pub between : Transaction → Session
between t = record { place = None; transaction = t; statement = None }

abbrev making : Transaction
making = Open (record { tx = record { 0 = 0 }; explicit = false; level = ReadCommitted; snapshot = Some 0; command = 1 })

abbrev deleting : Option ℕ → ℕ → Transaction
deleting snapshot command = Open (record { tx = record { 0 = 1 }; explicit = true; level = ReadCommitted; snapshot = snapshot; command = command })

-- the row that session 1's transaction has deleted
abbrev locked : List Held
locked = record { row = record { 0 = 0 }; tx = record { 0 = 1 }; strength = Update } ∷ []

-- session 2 waits for it, since the event of this number
abbrev waiting : ℕ → Session
waiting number = record {
  place = Some (record { block = 3; next = 0 });
  transaction = Open (record { tx = record { 0 = 2 }; explicit = false; level = ReadCommitted; snapshot = Some 1; command = 0 });
  statement = Some (record {
    table = record { 0 = 0 };
    view = record { tx = Some (record { 0 = 2 }); commits = 1; command = 0 };
    place = 0;
    rows = [];
    wait = record { number = number; request = Row (record { 0 = 0 }) Update };
  });
}

abbrev first : List Fate
first = Committed 0 ∷ []

abbrev second : List Fate
second = Committed 0 ∷ OpenFate ∷ []

abbrev third : List Fate
third = Committed 0 ∷ OpenFate ∷ OpenFate ∷ []

abbrev freed : List Fate
freed = Committed 0 ∷ Committed 1 ∷ OpenFate ∷ []

abbrev all : List Fate
all = Committed 0 ∷ Committed 1 ∷ Committed 2 ∷ []

abbrev m0 : Machine
m0 = state 0 [] [] [] [] at_rest at_rest at_rest

abbrev m1 : Machine
m1 = state 1 [] [] [] [] (at 0 0 Closed) at_rest at_rest

abbrev m2 : Machine
m2 = state 2 [] [] (OpenFate ∷ []) tables (at 0 1 making) at_rest at_rest

abbrev m3 : Machine
m3 = state 3 [] made first tables at_rest at_rest at_rest

-- ---- the permutation

abbrev m4 : Machine
m4 = state 4 [] made first tables at_rest (at 1 0 Closed) at_rest

abbrev m5 : Machine
m5 = state 5 [] made second tables at_rest (at 1 1 (deleting None 0)) at_rest

abbrev m6 : Machine
m6 = state 6 locked gone second tables at_rest (between (deleting (Some 1) 1)) at_rest

abbrev m7 : Machine
m7 = state 7 locked gone second tables at_rest (between (deleting (Some 1) 1)) (at 3 0 Closed)

abbrev m8 : Machine
m8 = state 8 locked gone third tables at_rest (between (deleting (Some 1) 1)) (waiting 7)

abbrev m9 : Machine
m9 = state 9 locked gone third tables at_rest (at 2 0 (deleting (Some 1) 1)) (waiting 7)

abbrev m10 : Machine
m10 = state 10 [] gone freed tables at_rest at_rest (waiting 7)

abbrev m11 : Machine
m11 = state 11 [] gone all tables at_rest at_rest at_rest

abbrev m12 : Machine
m12 = state 12 [] gone all tables at_rest at_rest at_rest

abbrev m13 : Machine
m13 = state 13 [] gone all tables at_rest at_rest at_rest

abbrev To : Machine → HistItem → Machine → Type 0
To m i n = Follows waited_blocks Directed m i n

step1 : To m0 (item (Launch 0 0) Launched false) m1
step1 = refl

step2 : To m1 (item (Step 0) Done false) m2
step2 = refl

step3 : To m2 (item (Step 0) Done true) m3
step3 = refl

step4 : To m3 (item (Launch 1 1) Launched false) m4
step4 = refl

step5 : To m4 (item (Step 1) Done false) m5
step5 = refl

step6 : To m5 (item (Step 1) Done true) m6
step6 = refl

step7 : To m6 (item (Launch 2 3) Launched false) m7
step7 = refl

step8 : To m7 (item (Step 2) Waits false) m8
step8 = refl

step9 : To m8 (item (Launch 1 2) Launched false) m9
step9 = refl

step10 : To m9 (item (Step 1) Done true) m10
step10 = refl

step11 : To m10 (item (Step 2) Done true) m11
step11 = refl

step12 : To m11 (item (Leave 1) Left true) m12
step12 = refl

step13 : To m12 (item (Leave 2) Left true) m13
step13 = refl

pub waited : WaitedHistory
waited = record {
  regular =
      regular_of waited_spec waited_blocks waited_entries waited_items m13
      (m1, step1, (m2, step2, (m3, step3, (m4, step4, (m5, step5, (m6, step6, (m7, step7, (m8, step8, (m9, step9, (m10, step10, (m11, step11, (m12, step12, (m13, step13, refl)))))))))))))
      refl
      (refl, (tt, (tt, (refl, (tt, (tt, (refl, (tt, (refl, (tt, (tt, (refl, (refl, refl)))))))))))));
  lines = refl;
}

-- ---- the free run

abbrev f4 : Machine
f4 = state 4 [] made first tables at_rest at_rest at_rest

abbrev f5 : Machine
f5 = state 5 [] made first tables at_rest (at 1 0 Closed) at_rest

abbrev f6 : Machine
f6 = state 6 [] made first tables at_rest (at 1 0 Closed) (at 3 0 Closed)

abbrev f7 : Machine
f7 = state 7 [] made second tables at_rest (at 1 1 (deleting None 0)) (at 3 0 Closed)

abbrev f8 : Machine
f8 = state 8 locked gone second tables at_rest (between (deleting (Some 1) 1)) (at 3 0 Closed)

abbrev f9 : Machine
f9 = state 9 locked gone third tables at_rest (between (deleting (Some 1) 1)) (waiting 8)

abbrev f10 : Machine
f10 = state 10 locked gone third tables at_rest (at 2 0 (deleting (Some 1) 1)) (waiting 8)

abbrev f11 : Machine
f11 = state 11 [] gone freed tables at_rest at_rest (waiting 8)

abbrev f12 : Machine
f12 = state 12 [] gone freed tables at_rest at_rest (waiting 8)

abbrev f13 : Machine
f13 = state 13 [] gone all tables at_rest at_rest at_rest

abbrev f14 : Machine
f14 = state 14 [] gone all tables at_rest at_rest at_rest

abbrev FreeTo : Machine → HistItem → Machine → Type 0
FreeTo m i n = Follows waited_blocks Free m i n

free1 : FreeTo m0 (item (Launch 0 0) Launched false) m1
free1 = refl

free2 : FreeTo m1 (item (Step 0) Done false) m2
free2 = refl

free3 : FreeTo m2 (item (Step 0) Done true) m3
free3 = refl

free4 : FreeTo m3 (item (Leave 0) Left true) f4
free4 = refl

free5 : FreeTo f4 (item (Launch 1 1) Launched false) f5
free5 = refl

free6 : FreeTo f5 (item (Launch 2 3) Launched false) f6
free6 = refl

free7 : FreeTo f6 (item (Step 1) Done false) f7
free7 = refl

free8 : FreeTo f7 (item (Step 1) Done true) f8
free8 = refl

free9 : FreeTo f8 (item (Step 2) Waits false) f9
free9 = refl

free10 : FreeTo f9 (item (Launch 1 2) Launched false) f10
free10 = refl

free11 : FreeTo f10 (item (Step 1) Done true) f11
free11 = refl

free12 : FreeTo f11 (item (Leave 1) Left true) f12
free12 = refl

free13 : FreeTo f12 (item (Step 2) Done true) f13
free13 = refl

free14 : FreeTo f13 (item (Leave 2) Left true) f14
free14 = refl

each_ends : EachEnds 3 waited_free_items
each_ends zero less = refl
each_ends (suc zero) less = refl
each_ends (suc (suc zero)) less = refl
each_ends (suc (suc (suc session))) less = absurd (omega arith)

pub waited_free : WaitedFreeHistory
waited_free = record {
  legal =
      (f14, (m1, free1, (m2, free2, (m3, free3, (f4, free4, (f5, free5, (f6, free6, (f7, free7, (f8, free8, (f9, free9, (f10, free10, (f11, free11, (f12, free12, (f13, free13, (f14, free14, refl)))))))))))))));
  fits = (refl, (refl, ((refl, (refl, tt)), refl, refl), each_ends));
}
