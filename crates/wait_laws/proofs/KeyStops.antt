-- What a row that is about to be written meets at a key, and when.
use Rattle.std.proofs.Common.{◌≡◌, ◌≢◌, ◌↔◌, ◌⊎◌, inl, inr, refl, ap, sym, ◌∙◌, subst, Bool, true, false, ℕ, List, [], ◌∷◌}
use Rattle.std.specs.Prelude.{Option, Some, None, is_some, IsTrue, if◌then◌else◌}
use Rattle.sql_trees.specs.declared.stmt.Level.{Level}
use Rattle.sql_trees.specs.declared.stmt.Level.TheVariants.{ReadCommitted, RepeatableRead}
use Rattle.sql_trees.specs.Statements.{KeyTree}
use Rattle.sql_values.specs.declared.value.Value.{Value}
use Rattle.row_versions.specs.declared.names.RowId.{RowId}
use Rattle.row_versions.specs.declared.names.TxId.{TxId}
use Rattle.row_versions.specs.declared.write.Seen.{Seen}
use Rattle.row_versions.specs.Members.{has}
use Rattle.row_locks.specs.Cycles.{blocks, Closes, closes}
use Rattle.row_locks.proofs.Waiting.{closes_says}
use Rattle.unique_keys.specs.Checks.{KeyFound, KeyIsFree, KeyIsTaken, KeyIsHeld, found_by}
use Rattle.session_machine.specs.declared.session.Request.{Request}
use Rattle.session_machine.specs.declared.session.Request.TheVariants.{Key}
use Rattle.session_machine.specs.declared.fault.StmtFault.TheVariants.{Deadlock, NotSerializable}
use Rattle.session_machine.specs.Waits.{waits_in}
use Rattle.session_machine.specs.Walks.{Stop, Blocked, Fails}
use Rattle.session_machine.specs.Tables.{Database}
use Rattle.session_machine.specs.Rows.{Work, Meets, Stops, PassesOver, does_nothing, is_known, meet_key}
use Rattle.session_machine.specs.Targets.{asked_key}
use Rattle.session_machine.specs.Inner.Pieces.{meet_by}
use Rattle.session_machine.proofs.Piecewise.{meets_by}
use Rattle.wait_laws.specs.Laws.{KeyIsExact, another_with, key_holders, key_taken}
use Rattle.wait_laws.proofs.Deadlocks.{false_is, false_not}

-- what a row meets by what is found of a key, by whether a wait for it would close a cycle, and by what one comes to that is taken
abbrev met_found : Request → Bool → (Seen → Meets) → KeyFound → Option Meets
met_found r closing at KeyIsFree = None
met_found r closing at (KeyIsTaken version) = Some (at version)
met_found r closing at KeyIsHeld = Some (Stops (if closing then Fails Deadlock else Blocked r))

same_met : (a b : Meets) → Some a ≡ Some b → a ≡ b
same_met a b h = cc

same_seen : (a b : Seen) → Some a ≡ Some b → a ≡ b
same_seen a b h = cc

by_deadlock : (r : Request) (at : Seen → Meets) → ((version : Seen) → at version ≡ Stops (Fails Deadlock) → ⊥) → (bs : List TxId) (closing : Bool) (taken : Option Seen)
    → (met_found r closing at (found_by bs taken) ≡ Some (Stops (Fails Deadlock))) ↔ ((bs ≢ []) × (closing ≡ true))
by_deadlock r at never [] closing None = (λ h. cc, λ h. absurd (h.0 refl))
by_deadlock r at never [] closing (Some version) = (λ h. absurd (never version (same_met _ _ h)), λ h. absurd (h.0 refl))
by_deadlock r at never (b ∷ bs) true taken = (λ h. (λ e. cc, refl), λ h. refl)
by_deadlock r at never (b ∷ bs) false taken = (λ h. cc, λ h. let k = h.1 in cc)

by_wait : (r : Request) (at : Seen → Meets) → ((version : Seen) → at version ≡ Stops (Blocked r) → ⊥) → (bs : List TxId) (closing : Bool) (taken : Option Seen)
    → (met_found r closing at (found_by bs taken) ≡ Some (Stops (Blocked r))) ↔ ((bs ≢ []) × (closing ≡ false))
by_wait r at never [] closing None = (λ h. cc, λ h. absurd (h.0 refl))
by_wait r at never [] closing (Some version) = (λ h. absurd (never version (same_met _ _ h)), λ h. absurd (h.0 refl))
by_wait r at never (b ∷ bs) true taken = (λ h. cc, λ h. let k = h.1 in cc)
by_wait r at never (b ∷ bs) false taken = (λ h. (λ e. cc, refl), λ h. refl)

-- what is met at no key that others hold
by_version : (r : Request) (at : Seen → Meets) (met : Meets) → (Stops (Fails Deadlock) ≡ met → ⊥) → (Stops (Blocked r) ≡ met → ⊥) → (bs : List TxId) (closing : Bool) (taken : Option Seen)
    → (met_found r closing at (found_by bs taken) ≡ Some met) ↔ ((version : Seen) × ((bs ≡ []) × (taken ≡ Some version)) × (at version ≡ met))
by_version r at met deadlock wait [] closing None = (λ h. cc, λ h. let k = h.1.1 in cc)
by_version r at met deadlock wait [] closing (Some version) = (
  λ h. (version, (refl, refl), same_met _ _ h),
  λ h. ap (λ (v : Seen). Some (at v)) (same_seen version h.0 h.1.1) ∙ ap Some h.2,
)
by_version r at met deadlock wait (b ∷ bs) true taken = (λ h. absurd (deadlock (same_met _ _ h)), λ h. let k = h.1.0 in cc)
by_version r at met deadlock wait (b ∷ bs) false taken = (λ h. absurd (wait (same_met _ _ h)), λ h. let k = h.1.0 in cc)

by_free : (r : Request) (at : Seen → Meets) (bs : List TxId) (closing : Bool) (taken : Option Seen)
    → (met_found r closing at (found_by bs taken) ≡ None) ↔ ((bs ≡ []) × (is_some taken ≡ false))
by_free r at [] closing None = (λ h. (refl, refl), λ h. refl)
by_free r at [] closing (Some version) = (λ h. cc, λ h. let k = h.1 in cc)
by_free r at (b ∷ bs) closing taken = (λ h. cc, λ h. let k = h.0 in cc)

-- those of whom one is blocked are some
some_close : (edge : TxId → TxId → Bool) (tx : TxId) (bs : List TxId) → Closes edge tx bs → bs ≢ []
some_close edge tx bs h e = never (subst (λ ys. has ys h.0 ≡ true) e h.1) where
  never : false ≡ true → ⊥
  never k = cc

-- what ON CONFLICT DO NOTHING does at this level, by whether the transaction knows the version
abbrev passed_by : Level → Bool → Meets
passed_by ReadCommitted known = PassesOver
passed_by RepeatableRead known = if known then PassesOver else Stops (Fails NotSerializable)

does_so : (db : Database) (w : Work) (version : Seen) → does_nothing db w version ≡ passed_by w.t.level (is_known db w version)
does_so db w version = by w.t.level where
  by : (l : Level) → (elim l [ ReadCommitted ↦ PassesOver | RepeatableRead ↦ if is_known db w version then PassesOver else Stops (Fails NotSerializable) ]) ≡ passed_by l (is_known db w version)
  by ReadCommitted = refl
  by RepeatableRead = refl

passes : (l : Level) (known : Bool) → (passed_by l known ≡ PassesOver) ↔ ((l ≡ ReadCommitted) ⊎ IsTrue known)
passes ReadCommitted known = (λ h. inl refl, λ h. refl)
passes RepeatableRead true = (λ h. inr refl, λ h. refl)
passes RepeatableRead false = (λ h. cc, λ h. elim h [ inl level ↦ let k = level in cc | inr known ↦ let k = known in cc ])

serializes : (l : Level) (known : Bool) → (passed_by l known ≡ Stops (Fails NotSerializable)) ↔ ((l ≡ RepeatableRead) × (known ≡ false))
serializes ReadCommitted known = (λ h. cc, λ h. let k = h.0 in cc)
serializes RepeatableRead true = (λ h. cc, λ h. let k = h.1 in cc)
serializes RepeatableRead false = (λ h. (refl, refl), λ h. refl)

-- what a row meets at a key that this version has
abbrev at_version : Database → Work → List ℕ → Bool → KeyTree → Seen → Meets
at_version db w name do_nothing key version = if do_nothing then does_nothing db w version else Stops (Fails (key_taken db w name key))

-- it is no deadlock there, and no wait
passed_not : (l : Level) (known : Bool) (stop : Stop) → passed_by l known ≡ Stops stop → Fails NotSerializable ≡ stop
passed_not ReadCommitted known stop h = cc
passed_not RepeatableRead true stop h = cc
passed_not RepeatableRead false stop h = cc

deadlock_not : (db : Database) (w : Work) (name : List ℕ) (do_nothing : Bool) (key : KeyTree) (version : Seen) → at_version db w name do_nothing key version ≡ Stops (Fails Deadlock) → ⊥
deadlock_not db w name false key version h = cc
deadlock_not db w name true key version h = never (passed_not w.t.level (is_known db w version) (Fails Deadlock) (sym (does_so db w version) ∙ h)) where
  never : Fails NotSerializable ≡ Fails Deadlock → ⊥
  never k = cc

pub wait_not : (db : Database) (w : Work) (name : List ℕ) (do_nothing : Bool) (key : KeyTree) (version : Seen) (r : Request)
    → at_version db w name do_nothing key version ≡ Stops (Blocked r) → ⊥
wait_not db w name false key version r h = cc
wait_not db w name true key version r h = never (passed_not w.t.level (is_known db w version) (Blocked r) (sym (does_so db w version) ∙ h)) where
  never : Fails NotSerializable ≡ Blocked r → ⊥
  never k = cc

-- what a row meets at a key, by who holds it and the version that has it
meets_so : (db : Database) (w : Work) (name : List ℕ) (do_nothing : Bool) (values : List Value) (except : Option RowId) (key : KeyTree)
    → meet_key db w name do_nothing values except key
    ≡ met_found (Key (asked_key w values key)) (closes (waits_in db w.around.sessions) w.t.tx (key_holders db w values key)) (at_version db w name do_nothing key)
    (found_by (key_holders db w values key) (another_with db w values except key))
meets_so db w name do_nothing values except key =
    meets_by db w name do_nothing values except key ∙ by (found_by (key_holders db w values key) (another_with db w values except key)) where
      by : (found : KeyFound)
          → meet_by db w name do_nothing values key found
          ≡ met_found (Key (asked_key w values key)) (closes (waits_in db w.around.sessions) w.t.tx (key_holders db w values key)) (at_version db w name do_nothing key) found
      by KeyIsFree = refl
      by (KeyIsTaken version) = refl
      by KeyIsHeld = refl

-- who waits at a key waits for that key
pub waits_for_it : (db : Database) (w : Work) (name : List ℕ) (do_nothing : Bool) (values : List Value) (except : Option RowId) (key : KeyTree) (r : Request)
    → meet_key db w name do_nothing values except key ≡ Some (Stops (Blocked r)) → Key (asked_key w values key) ≡ r
waits_for_it db w name do_nothing values except key r h = by _ _ (sym (meets_so db w name do_nothing values except key) ∙ h) where
  asked : Request
  asked = Key (asked_key w values key)

  by : (closing : Bool) (found : KeyFound) → met_found asked closing (at_version db w name do_nothing key) found ≡ Some (Stops (Blocked r)) → asked ≡ r
  by closing KeyIsFree k = cc
  by closing (KeyIsTaken version) k = absurd (wait_not db w name do_nothing key version r (same_met _ _ k))
  by true KeyIsHeld k = cc
  by false KeyIsHeld k = cc

pub key_is_exact : KeyIsExact
key_is_exact db w name do_nothing values except key =
    let bs = key_holders db w values key in
    let list = waits_in db w.around.sessions in
    let closing = closes list w.t.tx bs in
    let taken = another_with db w values except key in
    let r : Request = Key (asked_key w values key) in
    let at = at_version db w name do_nothing key in
    let says = closes_says list w.t.tx bs in
    let same = meets_so db w name do_nothing values except key in
    let d = by_deadlock r at (deadlock_not db w name do_nothing key) bs closing taken in
    let k = by_wait r at (λ v. wait_not db w name do_nothing key v r) bs closing taken in
    let f = by_free r at bs closing taken in
    let t = by_version r at (Stops (Fails (key_taken db w name key))) (λ e. cc) (λ e. cc) bs closing taken in
    let p = by_version r at PassesOver (λ e. cc) (λ e. cc) bs closing taken in
    let s = by_version r at (Stops (Fails NotSerializable)) (λ e. cc) (λ e. cc) bs closing taken in
    record {
      deadlocks = (λ h. says.0 (d.0 (sym same ∙ h)).1, λ h. same ∙ d.1 (some_close (blocks list) w.t.tx bs h, says.1 h));
      waits_else = (
        λ h. let o = k.0 (sym same ∙ h) in (o.0, λ e. false_not closing o.1 (says.1 e)),
        λ h. same ∙ k.1 (h.0, false_is closing (λ e. h.1 (says.0 e))),
      );
      free = (λ h. f.0 (sym same ∙ h), λ h. same ∙ f.1 h);
      taken = λ e. (λ h. let o = t.0 (sym same ∙ h) in (o.0, o.1), λ h. same ∙ t.1 (h.0, h.1, ap (λ (b : Bool). at_version db w name b key h.0) e));
      passes_over = λ e. (λ h. let o = p.0 (sym same ∙ h) in (o.0, o.1, (passes_so e o.0).0 o.2), λ h. same ∙ p.1 (h.0, h.1, (passes_so e h.0).1 h.2));
      serializes = λ e. (
        λ h. let o = s.0 (sym same ∙ h) in let c = (serializes_so e o.0).0 o.2 in (o.0, o.1, c.0, c.1),
        λ h. same ∙ s.1 (h.0, h.1, (serializes_so e h.0).1 (h.2, h.3)),
      );
    } where
      nothing_so : do_nothing ≡ true → (version : Seen) → at_version db w name do_nothing key version ≡ passed_by w.t.level (is_known db w version)
      nothing_so e version = ap (λ (b : Bool). at_version db w name b key version) e ∙ does_so db w version

      passes_so : do_nothing ≡ true → (version : Seen) → (at_version db w name do_nothing key version ≡ PassesOver) ↔ ((w.t.level ≡ ReadCommitted) ⊎ IsTrue (is_known db w version))
      passes_so e version =
          let on = passes w.t.level (is_known db w version) in
          let same = nothing_so e version in
          (λ h. on.0 (sym same ∙ h), λ h. same ∙ on.1 h)

      serializes_so : do_nothing ≡ true → (version : Seen)
          → (at_version db w name do_nothing key version ≡ Stops (Fails NotSerializable)) ↔ ((w.t.level ≡ RepeatableRead) × (is_known db w version ≡ false))
      serializes_so e version =
          let on = serializes w.t.level (is_known db w version) in
          let same = nothing_so e version in
          (λ h. on.0 (sym same ∙ h), λ h. same ∙ on.1 h)
