-- The version that a target takes is one of its row, and has values.
use Rattle.std.proofs.Common.{◌≡◌, Bool, true, false, ◌==◌, List, refl, sym, ◌∙◌, subst}
use Rattle.std.specs.Prelude.{Option, Some, None, Result, Ok, Err, slice_get, if◌then◌else◌}
use Rattle.std.proofs.lemmas.Bool.{eqb-true}
use Rattle.sql_trees.specs.declared.stmt.Level.{Level}
use Rattle.sql_trees.specs.declared.stmt.Level.TheVariants.{ReadCommitted, RepeatableRead}
use Rattle.sql_values.specs.declared.value.Value.{Value}
use Rattle.sql_values.specs.declared.fault.ValueFault.{ValueFault}
use Rattle.sql_values.specs.Expressions.{passes}
use Rattle.row_versions.specs.declared.names.RowId.{RowId}
use Rattle.row_versions.specs.declared.write.Write.{Write}
use Rattle.row_versions.specs.declared.write.Seen.{Seen}
use Rattle.row_versions.specs.Log.{Content, values_at}
use Rattle.row_versions.specs.Newest.{newest_of}
use Rattle.row_versions.specs.Laws.{IsNewest}
use Rattle.row_versions.proofs.Last.{newest_is_the_last}
use Rattle.row_locks.specs.declared.held.Held.{Held}
use Rattle.row_locks.specs.Waiting.{Waiting}
use Rattle.update_recheck.specs.Asked.{Asked}
use Rattle.update_recheck.specs.Outcome.{Version, version_at, target_outcome}
use Rattle.update_recheck.specs.Inner.Stopping.{version_of}
use Rattle.update_recheck.proofs.Cases.{outcome_is}
use Rattle.update_recheck.specs.Inner.Cases.{Holders, rechecked, outcome, holders}
use Rattle.update_recheck.specs.Inner.Cases.Holders.{Nobody, Others, OthersInACycle, OthersAtNoWait, OthersSkipped}
use Rattle.update_recheck.specs.Outcome.Version.{Same, Gone, Newer}
use Rattle.update_recheck.specs.Outcome.Outcome.{Takes}
use Rattle.session_laws.proofs.Fitting.{its_values}

-- the version is a write of the row that gave it values
pub record IsVersion (c : Content) (row : RowId) (s : Seen) : Type 0 where
  pub row_is : s.row ≡ row
  pub write : Write
  pub there : slice_get c.log s.place ≡ Some write
  pub its_row : write.row ≡ row
  pub values : List Value
  pub gave : write.values ≡ Some values

same_taken : {a b : Seen} → Takes a ≡ Takes b → a ≡ b
same_taken h = cc

-- no row is taken that is gone
gone_not : (l : Level) (found s : Seen) (h : Holders) → outcome l found h Gone ≡ Takes s → ⊥
gone_not ReadCommitted found s Nobody e = cc
gone_not ReadCommitted found s Others e = cc
gone_not ReadCommitted found s OthersInACycle e = cc
gone_not ReadCommitted found s OthersAtNoWait e = cc
gone_not ReadCommitted found s OthersSkipped e = cc
gone_not RepeatableRead found s Nobody e = cc
gone_not RepeatableRead found s Others e = cc
gone_not RepeatableRead found s OthersInACycle e = cc
gone_not RepeatableRead found s OthersAtNoWait e = cc
gone_not RepeatableRead found s OthersSkipped e = cc

same_is : (l : Level) (found s : Seen) (h : Holders) → outcome l found h Same ≡ Takes s → found ≡ s
same_is ReadCommitted found s Nobody e = same_taken e
same_is ReadCommitted found s Others e = cc
same_is ReadCommitted found s OthersInACycle e = cc
same_is ReadCommitted found s OthersAtNoWait e = cc
same_is ReadCommitted found s OthersSkipped e = cc
same_is RepeatableRead found s Nobody e = same_taken e
same_is RepeatableRead found s Others e = cc
same_is RepeatableRead found s OthersInACycle e = cc
same_is RepeatableRead found s OthersAtNoWait e = cc
same_is RepeatableRead found s OthersSkipped e = cc

rechecked_is : (newer s : Seen) (r : Result Bool ValueFault) → rechecked newer r ≡ Takes s → newer ≡ s
rechecked_is newer s (Ok true) e = same_taken e
rechecked_is newer s (Ok false) e = cc
rechecked_is newer s (Err fault) e = cc

newer_is : (l : Level) (found newer s : Seen) (h : Holders) (r : Result Bool ValueFault) → outcome l found h (Newer newer r) ≡ Takes s → newer ≡ s
newer_is ReadCommitted found newer s Nobody r e = rechecked_is newer s r e
newer_is ReadCommitted found newer s Others r e = cc
newer_is ReadCommitted found newer s OthersInACycle r e = cc
newer_is ReadCommitted found newer s OthersAtNoWait r e = cc
newer_is ReadCommitted found newer s OthersSkipped r e = cc
newer_is RepeatableRead found newer s Nobody r e = cc
newer_is RepeatableRead found newer s Others r e = cc
newer_is RepeatableRead found newer s OthersInACycle r e = cc
newer_is RepeatableRead found newer s OthersAtNoWait r e = cc
newer_is RepeatableRead found newer s OthersSkipped r e = cc

pub takes_version : (c : Content) (held : List Held) (waits : List Waiting) (a : Asked) (s : Seen) → target_outcome c held waits a ≡ Takes s → IsVersion c a.seen.row s
takes_version c held waits a s h = at_newest (newest_of c a.seen.row a.tx) refl (sym (outcome_is c held waits a) ∙ h) where
  who : Holders
  who = holders held waits a

  found_version : (m : Seen) (values : List Value) → newest_of c a.seen.row a.tx ≡ Some m → values_at c m.place ≡ Some values → IsVersion c a.seen.row m
  found_version m values e v =
      let last : IsNewest c a.seen.row a.tx m = ((newest_is_the_last c a.seen.row a.tx).0 m).0 e in
      record { row_is = last.named; write = last.write; there = last.there; its_row = last.its_row; values = values; gave = sym (its_values c m.place last.write last.there) ∙ v }

  at_same : (m : Seen) (values : List Value) (b : Bool) → newest_of c a.seen.row a.tx ≡ Some m → values_at c m.place ≡ Some values → (m.place == a.seen.place) ≡ b
      → (let v : Version = if b then Same else Newer m (passes a.condition a.cols values) in outcome a.level a.seen who v ≡ Takes s) → IsVersion c a.seen.row s
  at_same m values true e v b h =
      let f = found_version m values e v in
      let m_is : m ≡ a.seen = λ i. record { row = f.row_is i; place = (eqb-true m.place a.seen.place b) i } in
      subst (IsVersion c a.seen.row) (m_is ∙ same_is a.level a.seen s who h) f
  at_same m values false e v b h = subst (IsVersion c a.seen.row) (newer_is a.level a.seen m s who (passes a.condition a.cols values) h) (found_version m values e v)

  at_values : (m : Seen) (o : Option (List Value)) → newest_of c a.seen.row a.tx ≡ Some m → values_at c m.place ≡ o → outcome a.level a.seen who (version_at a m o) ≡ Takes s
      → IsVersion c a.seen.row s
  at_values m None e v h = absurd (gone_not a.level a.seen s who h)
  at_values m (Some values) e v h = at_same m values (m.place == a.seen.place) e v refl h

  at_newest : (o : Option Seen) → newest_of c a.seen.row a.tx ≡ o → outcome a.level a.seen who (version_of c a o) ≡ Takes s → IsVersion c a.seen.row s
  at_newest None e h = absurd (gone_not a.level a.seen s who h)
  at_newest (Some m) e h = at_values m (values_at c m.place) e refl h
