-- Those who are kept as standing in the way of waits are those of the present state, after each event.
use Rattle.std.proofs.Common.{◌≡◌, refl, sym, ◌∙◌, ap, subst, Bool, true, false, not, ◌&&◌, ◌||◌, ⊎_elim, ◌⊎◌, inl, inr, ℕ, zero, suc, ◌+◌, ◌<◌, ◌≤◌, List, [], ◌∷◌, length, length-set, set, replicate, arith}
use Rattle.std.specs.Prelude.{IfSome, Option, Some, None, slice_get, unwrap_or, Result, Ok, Err, is_ok}
use Rattle.std.specs.Option.{option_map_or}
use Rattle.std.proofs.lemmas.Bool.{cases_eq}
use Rattle.std.proofs.lemmas.List.{length-replicate}
use Rattle.std.proofs.lemmas.Option.{same_Some, slice_get_within}
use Rattle.row_versions.specs.declared.names.TxId.{TxId}
use Rattle.row_versions.specs.Log.{IsOpen}
use Rattle.row_versions.specs.Members.{has, is_none_of, same_tx}
use Rattle.row_locks.specs.Waiting.{Waiting}
use Rattle.row_locks.proofs.Cases.{and_both, bool_is, both_and, is_same, or_cases, or_left, or_right, same_is}
use Rattle.update_recheck.specs.Settling.{SameMembers}
use Rattle.session_machine.specs.declared.session.OpenTransaction.{OpenTransaction}
use Rattle.session_machine.specs.declared.session.Place.{Place}
use Rattle.session_machine.specs.declared.session.Progress.{Progress}
use Rattle.session_machine.specs.declared.session.Request.{Request}
use Rattle.session_machine.specs.declared.session.Session.{Session}
use Rattle.session_machine.specs.declared.session.Transaction.{Transaction}
use Rattle.session_machine.specs.declared.session.Transaction.TheVariants.{Closed, Open, Aborted}
use Rattle.session_machine.specs.declared.event.Event.{Event}
use Rattle.session_machine.specs.declared.event.Mode.{Mode}
use Rattle.session_machine.specs.declared.reply.Reply.{Reply}
use Rattle.session_machine.specs.declared.fault.Refusal.{Refusal}
use Rattle.session_machine.specs.Tables.{Database}
use Rattle.session_machine.specs.Machine.{Machine, Blocks, Next, at_rest, next, opening, session_of}
use Rattle.session_machine.specs.Waits.{blockers, is_still_blocked, waiting_in}
use Rattle.session_machine.specs.Engine.{Goes}
use Rattle.session_core.specs.declared.mending.Doer.{Doer}
use Rattle.session_core.specs.declared.mending.Doer.TheVariants.{GoesOn, Ends, Nobody}
use Rattle.session_core.specs.Engines.{in_the_way}
use Rattle.session_core.specs.Inner.Answers.{engine_answer}
use Rattle.session_core.specs.Inner.Blocking.{AreBlockers, AreMended, IsChanged, Lists, blockers_kept, doer_between, is_in_the_way, mended}
use Rattle.session_core.proofs.Replaying.{answered_err, answered_ok, reaches_on}
use Rattle.session_laws.proofs.Lists.{slice_get-set_other, slice_get-set_same}
use Rattle.wait_laws.specs.Laws.{BlockersStayToTheirEnd, Reaches, TransactionsEndThemselves, doer_of}
use Rattle.wait_laws.proofs.Begun.{begun_there, others_stay, rest_is}
use Rattle.wait_laws.proofs.Ending.{after_there, opened_before, transactions_end_themselves}
use Rattle.wait_laws.proofs.Events.{session_there}
use Rattle.wait_laws.proofs.Mending.{blockers_stay_to_their_end}

not_both : (b : Bool) → b ≡ false → b ≡ true → ⊥
not_both true h k = cc
not_both false h k = cc

alike : (a b : Bool) → (a ≡ true → b ≡ true) → (b ≡ true → a ≡ true) → a ≡ b
alike true b there back = sym (there refl)
alike false true there back = back refl
alike false false there back = refl

first_has : (b : TxId) (bs : List TxId) → has (b ∷ bs) b ≡ true
first_has b bs = or_left (same_tx b b) (has bs b) (is_same b)

-- lists of the same are both empty, or neither
none_same : (found others : List TxId) → SameMembers found others → is_none_of found ≡ is_none_of others
none_same [] [] h = refl
none_same [] (b ∷ bs) h = absurd (not_both false refl (h b ∙ first_has b bs))
none_same (a ∷ more) [] h = absurd (not_both false refl (sym (h a) ∙ first_has a more))
none_same (a ∷ more) (b ∷ bs) h = refl

still_by : (o : Option Waiting) → not (is_none_of (option_map_or (λ (w : Waiting). w.blockers) o [])) ≡ option_map_or (λ (w : Waiting). not (is_none_of w.blockers)) o false
still_by None = refl
still_by (Some w) = refl

-- a session is still blocked where somebody is kept who stands in its way
pub kept_blocks : (m : Machine) (lists : Lists) (k : ℕ) (s : Session) → AreBlockers m lists → slice_get m.sessions k ≡ Some s → not (is_none_of (blockers_kept lists k)) ≡ is_still_blocked m.db s
kept_blocks m lists k s are at = ap not (none_same (blockers_kept lists k) (in_the_way m.db s) (are.each k s at)) ∙ still_by (waiting_in m.db s)

pub blocked_so : (m : Machine) (lists : Lists) (k : ℕ) (blocked : Bool) → AreBlockers m lists → blocked ≡ not (is_none_of (blockers_kept lists k))
    → IfSome (slice_get m.sessions k) (λ s. blocked ≡ is_still_blocked m.db s)
blocked_so m lists k blocked are is = by (slice_get m.sessions k) refl where
  by : (o : Option Session) → slice_get m.sessions k ≡ o → IfSome o (λ s. blocked ≡ is_still_blocked m.db s)
  by None e = tt
  by (Some s) e = is ∙ kept_blocks m lists k s are e

-- ---- the opening

none_kept : (n k : ℕ) → blockers_kept (replicate n []) k ≡ []
none_kept zero k = refl
none_kept (suc n) zero = refl
none_kept (suc n) (suc k) = none_kept n k

pub blockers_opening : (count : ℕ) (m : Machine) (lists : Lists) → m ≡ opening count → lists ≡ replicate (count + 1) [] → AreBlockers m lists
blockers_opening count m lists is none = subst (λ (x : Machine). AreBlockers x lists) (sym is) (record {
  long = ap length none ∙ (length-replicate (count + 1) _ ∙ sym (length-replicate (count + 1) at_rest));
  each = λ k s at. subst (λ (x : Session). SameMembers (blockers_kept lists k) (in_the_way (opening count).db x)) (sym (rest_is (count + 1) k s at))
      (λ u. ap (λ (ls : Lists). has (blockers_kept ls k) u) none ∙ ap (λ (xs : List TxId). has xs u) (none_kept (count + 1) k));
})

-- ---- one session's blockers change

kept_here : (lists : Lists) (k : ℕ) (found : List TxId) → k < length lists → blockers_kept (set lists k found) k ≡ found
kept_here lists k found within = ap (λ (o : Option (List TxId)). unwrap_or o []) (slice_get-set_same lists k found within)

kept_there : (lists : Lists) (k j : ℕ) (found : List TxId) → (j ≡ k → ⊥) → blockers_kept (set lists k found) j ≡ blockers_kept lists j
kept_there lists k j found ne = ap (λ (o : Option (List TxId)). unwrap_or o []) (slice_get-set_other lists k j found ne)

pub changed_by : (old now : Lists) (k : ℕ) (found : List TxId) (test : TxId → Bool) → k < length old → now ≡ set old k found → ((u : TxId) → has found u ≡ test u) → IsChanged old k test now
changed_by old now k found test within is each = record {
  long = ap (λ (ls : Lists). length ls) is ∙ length-set old k found;
  others = λ j ne. ap (λ (ls : Lists). blockers_kept ls j) is ∙ kept_there old k j found ne;
  each = λ u. ap (λ (ls : Lists). has (blockers_kept ls k) u) is ∙ (ap (λ (xs : List TxId). has xs u) (kept_here old k found within) ∙ each u);
}

pub unchanged : (old : Lists) (k : ℕ) (test : TxId → Bool) → ((u : TxId) → has (blockers_kept old k) u ≡ test u) → IsChanged old k test old
unchanged old k test each = record { long = refl; others = λ j ne. refl; each = each }

pub changed_so : (old now : Lists) (k : ℕ) (test other : TxId → Bool) → IsChanged old k test now → ((u : TxId) → test u ≡ other u) → IsChanged old k other now
changed_so old now k test other c same = record { long = c.long; others = c.others; each = λ u. c.each u ∙ same u }

-- ---- one session after the other is mended

pub record Mending (m : Machine) (doer : Doer) (i : ℕ) (old : Lists) (k : ℕ) (now : Lists) : Type 0 where
  pub long : length now ≡ length old
  pub done : (j : ℕ) (s : Session) → j < k → (j ≡ i → ⊥) → slice_get m.sessions j ≡ Some s → (u : TxId)
      → has (blockers_kept now j) u ≡ mended m.db s doer (blockers_kept old j) u
  pub rest : (j : ℕ) → k ≤ j → blockers_kept now j ≡ blockers_kept old j

pub mending_start : (m : Machine) (doer : Doer) (i : ℕ) (old : Lists) → Mending m doer i old 0 old
mending_start m doer i old = record { long = refl; done = λ j s l ne at u. absurd (omega arith); rest = λ j l. refl }

below : (j k : ℕ) → j < k + 1 → (j ≡ k → ⊥) → j < k
below j k l ne = ⊎_elim (λ e. absurd (ne e)) (λ n. omega (arith, l, n)) (cases_eq j k)

pub mending_skip : (m : Machine) (doer : Doer) (i : ℕ) (old : Lists) (k : ℕ) (now : Lists) → k ≡ i → Mending m doer i old k now → Mending m doer i old (k + 1) now
mending_skip m doer i old k now own p = record {
  long = p.long;
  done = λ j s l ne at u. p.done j s (below j k l (λ e. ne (e ∙ own))) ne at u;
  rest = λ j l. p.rest j (omega arith);
}

pub mending_on : (m : Machine) (doer : Doer) (i : ℕ) (old : Lists) (k : ℕ) (now later : Lists) (s : Session) → slice_get m.sessions k ≡ Some s → Mending m doer i old k now
    → IsChanged now k (mended m.db s doer (blockers_kept now k)) later → Mending m doer i old (k + 1) later
mending_on m doer i old k now later s at p c = record {
  long = c.long ∙ p.long;
  done = λ j v l ne there u. ⊎_elim (here j v ne there u) (λ other. before j v other (below j k l other) ne there u) (cases_eq j k);
  rest = λ j l. c.others j (λ e. let z : ⊥ = omega arith in z) ∙ p.rest j (omega arith);
} where
  here : (j : ℕ) (v : Session) → (j ≡ i → ⊥) → slice_get m.sessions j ≡ Some v → (u : TxId) → j ≡ k → has (blockers_kept later j) u ≡ mended m.db v doer (blockers_kept old j) u
  here j v ne there u e =
      let same : v ≡ s = same_Some v s (sym there ∙ (ap (slice_get m.sessions) e ∙ at)) in
      let k_rest : blockers_kept now k ≡ blockers_kept old k = p.rest k (omega arith) in
      subst (λ (n : ℕ). has (blockers_kept later n) u ≡ mended m.db v doer (blockers_kept old n) u) (sym e)
      (subst (λ (x : Session). has (blockers_kept later k) u ≡ mended m.db x doer (blockers_kept old k) u) (sym same)
      (c.each u ∙ ap (λ (xs : List TxId). mended m.db s doer xs u) k_rest))

  before : (j : ℕ) (v : Session) → (j ≡ k → ⊥) → j < k → (j ≡ i → ⊥) → slice_get m.sessions j ≡ Some v → (u : TxId) → has (blockers_kept later j) u ≡ mended m.db v doer (blockers_kept old j) u
  before j v other l ne there u = ap (λ (xs : List TxId). has xs u) (c.others j other) ∙ p.done j v l ne there u

pub mending_end : (m : Machine) (doer : Doer) (i : ℕ) (old : Lists) (k : ℕ) (now later : Lists) (found : List TxId) (s : Session) → length m.sessions ≤ k → length old ≡ length m.sessions
    → Mending m doer i old k now → later ≡ set now i found → slice_get m.sessions i ≡ Some s → SameMembers found (in_the_way m.db s) → AreMended m doer i old later
mending_end m doer i old k now later found s all long p is at same = record {
  long = ap (λ (ls : Lists). length ls) is ∙ (length-set now i found ∙ p.long);
  own = λ v there u.
      let one : v ≡ s = same_Some v s (sym there ∙ at) in
      let within : i < length now = subst (λ n. i < n) (sym (p.long ∙ long)) (slice_get_within m.sessions i s at) in
      ap (λ (ls : Lists). has (blockers_kept ls i) u) is ∙ (ap (λ (xs : List TxId). has xs u) (kept_here now i found within)
      ∙ (same u ∙ ap (λ (x : Session). has (in_the_way m.db x) u) (sym one)));
  others = λ j v ne there u.
      let within : j < length m.sessions = slice_get_within m.sessions j v there in
      ap (λ (ls : Lists). has (blockers_kept ls j) u) is ∙ (ap (λ (xs : List TxId). has xs u) (kept_there now i j found ne) ∙ p.done j v (omega arith) ne there u);
}

-- ---- what an event did mends them

-- a session asks for something, or nobody stands in its way in any state
record Asks (v : Session) (r : Request) (tx : TxId) : Type 0 where
  pub way : (db : Database) → in_the_way db v ≡ blockers db r tx

asks : (v : Session) → ((r : Request) × (tx : TxId) × Asks v r tx) ⊎ ((db : Database) → in_the_way db v ≡ [])
asks v = by v.place v.transaction v.statement where
  by : (place : Option Place) (tr : Transaction) (statement : Option Progress)
      → (let x : Session = record { place = place; transaction = tr; statement = statement } in ((r : Request) × (tx : TxId) × Asks x r tx) ⊎ ((db : Database) → in_the_way db x ≡ []))
  by place Closed statement = inr (λ db. refl)
  by place Aborted statement = inr (λ db. refl)
  by place (Open t) None = inr (λ db. refl)
  by place (Open t) (Some p) = inl (p.wait.request, t.tx, record { way = λ db. refl })

not_open : (a b : Transaction) → a ≡ b → ((t : OpenTransaction) → b ≡ Open t → ⊥) → (t : OpenTransaction) → a ≡ Open t → ⊥
not_open a b is ne t f = ne t (sym is ∙ f)

module _ (given : Blocks) (mode : Mode) (count : ℕ) (m : Machine) (event : Event) (n : Next) (s u : Session) where
  abbrev x : TxId
  x = doer_of m s

  record Facts (r : Request) (tx : TxId) : Type 0 where
    pub stay : (y : TxId) → (y ≡ x → ⊥) → has (blockers m.db r tx) y ≡ true → has (blockers n.machine.db r tx) y ≡ true
    pub come : (y : TxId) → has (blockers n.machine.db r tx) y ≡ true → (has (blockers m.db r tx) y ≡ true) ⊎ (y ≡ x)
    pub own : IsOpen n.machine.db.content x → has (blockers m.db r tx) x ≡ true → has (blockers n.machine.db r tx) x ≡ true
    pub now_open : has (blockers n.machine.db r tx) x ≡ true → IsOpen n.machine.db.content x
    pub was_open : has (blockers m.db r tx) x ≡ true → IsOpen m.db.content x

  facts : Reaches given mode count m → next given mode m event ≡ Ok n → slice_get m.sessions (session_of event) ≡ Some s → (r : Request) (tx : TxId) → Facts r tx
  facts reached h at r tx = record {
    stay = λ y ne e. law.stay given mode count m reached event n h r tx y e (ends.others given mode count m reached event n h s at y ne (law.opened given mode count m reached r tx y e));
    come = λ y e. law.come given mode count m reached event n h s at r tx y e;
    own = λ o e. law.stay given mode count m reached event n h r tx x e o;
    now_open = λ e. law.opened given mode count n.machine (reaches_on given mode count m n.machine (record { event = event; reply = n.reply }) reached h) r tx x e;
    was_open = λ e. law.opened given mode count m reached r tx x e;
  } where
    law : BlockersStayToTheirEnd
    law = blockers_stay_to_their_end

    ends : TransactionsEndThemselves
    ends = transactions_end_themselves

  both : (y : TxId) → (y ≡ x) ⊎ (y ≡ x → ⊥)
  both y = elim (bool_is (same_tx y x)) [
    | inl e ↦ inl (same_is y x e)
    | inr ne ↦ inr (λ f. not_both (same_tx y x) ne (subst (λ (z : TxId). same_tx y z ≡ true) f (is_same y)))
  ]

  -- it goes on
  goes_on : (r : Request) (tx : TxId) (t : OpenTransaction) → Facts r tx → t.tx ≡ x → IsOpen n.machine.db.content x → (y : TxId)
      → (has (blockers m.db r tx) y || (same_tx t.tx y && has (blockers n.machine.db r tx) t.tx)) ≡ has (blockers n.machine.db r tx) y
  goes_on r tx t f is o y = alike _ _ there back where
    was : (y ≡ x) ⊎ (y ≡ x → ⊥) → has (blockers m.db r tx) y ≡ true → has (blockers n.machine.db r tx) y ≡ true
    was (inl e) k = subst (λ (z : TxId). has (blockers n.machine.db r tx) z ≡ true) (sym e) (f.own o (subst (λ (z : TxId). has (blockers m.db r tx) z ≡ true) e k))
    was (inr ne) k = f.stay y ne k

    there : (has (blockers m.db r tx) y || (same_tx t.tx y && has (blockers n.machine.db r tx) t.tx)) ≡ true → has (blockers n.machine.db r tx) y ≡ true
    there k = elim (or_cases _ _ k) [
      | inl e ↦ was (both y) e
      | inr e ↦ let w = and_both _ _ e in subst (λ (z : TxId). has (blockers n.machine.db r tx) z ≡ true) (same_is t.tx y w.0) w.1
    ]

    back : has (blockers n.machine.db r tx) y ≡ true → (has (blockers m.db r tx) y || (same_tx t.tx y && has (blockers n.machine.db r tx) t.tx)) ≡ true
    back k = elim (f.come y k) [
      | inl e ↦ or_left _ _ e
      | inr e ↦
          let same : y ≡ t.tx = e ∙ sym is in
          or_right _ _ (both_and _ _ (subst (λ (z : TxId). same_tx t.tx z ≡ true) (sym same) (is_same t.tx)) (subst (λ (z : TxId). has (blockers n.machine.db r tx) z ≡ true) same k))
    ]

  -- it is over, so it stands in nobody's way
  over : (r : Request) (tx : TxId) → Facts r tx → (IsOpen n.machine.db.content x → ⊥) → (y : TxId) → (y ≡ x → ⊥) → has (blockers n.machine.db r tx) y ≡ true → has (blockers m.db r tx) y ≡ true
  over r tx f shut y ne k = elim (f.come y k) [ inl e ↦ e | inr e ↦ absurd (ne e) ]

  gone : (r : Request) (tx : TxId) → Facts r tx → (IsOpen n.machine.db.content x → ⊥) → (y : TxId) → has (blockers n.machine.db r tx) y ≡ true → y ≡ x → ⊥
  gone r tx f shut y k e = shut (f.now_open (subst (λ (z : TxId). has (blockers n.machine.db r tx) z ≡ true) e k))

  ends_now : (r : Request) (tx : TxId) (t : OpenTransaction) → Facts r tx → t.tx ≡ x → (IsOpen n.machine.db.content x → ⊥) → (y : TxId)
      → (has (blockers m.db r tx) y && not (same_tx t.tx y)) ≡ has (blockers n.machine.db r tx) y
  ends_now r tx t f is shut y = alike _ _ there back where
    there : (has (blockers m.db r tx) y && not (same_tx t.tx y)) ≡ true → has (blockers n.machine.db r tx) y ≡ true
    there k =
        let w = and_both _ _ k in
        f.stay y (λ e. other (same_tx t.tx y) w.1 (subst (λ (z : TxId). same_tx t.tx z ≡ true) (sym (e ∙ sym is)) (is_same t.tx))) w.0 where
          other : (b : Bool) → not b ≡ true → b ≡ true → ⊥
          other true g e = cc
          other false g e = cc

    back : has (blockers n.machine.db r tx) y ≡ true → (has (blockers m.db r tx) y && not (same_tx t.tx y)) ≡ true
    back k = both_and _ _ (over r tx f shut y (gone r tx f shut y k) k) (by (bool_is (same_tx t.tx y))) where
      by : (same_tx t.tx y ≡ true) ⊎ (same_tx t.tx y ≡ false) → not (same_tx t.tx y) ≡ true
      by (inl e) = absurd (gone r tx f shut y k (sym (same_is t.tx y e) ∙ is))
      by (inr e) = ap not e

  stays_so : (r : Request) (tx : TxId) → Facts r tx → (IsOpen m.db.content x → ⊥) → (IsOpen n.machine.db.content x → ⊥) → (y : TxId) → has (blockers m.db r tx) y ≡ has (blockers n.machine.db r tx) y
  stays_so r tx f before shut y = alike _ _
      (λ k. f.stay y (λ e. before (f.was_open (subst (λ (z : TxId). has (blockers m.db r tx) z ≡ true) e k))) k)
      (λ k. over r tx f shut y (gone r tx f shut y k) k)

  -- so those who stand in the way of another session are as mended
  mended_to : Reaches given mode count m → next given mode m event ≡ Ok n → slice_get m.sessions (session_of event) ≡ Some s → slice_get n.machine.sessions (session_of event) ≡ Some u
      → (v : Session) (was : List TxId) → SameMembers was (in_the_way m.db v) → (y : TxId)
      → mended n.machine.db v (doer_between s.transaction u.transaction) was y ≡ has (in_the_way n.machine.db v) y
  mended_to reached h at there v was same y = by_asks (asks v) where
    ends : TransactionsEndThemselves
    ends = transactions_end_themselves

    now_its : IsOpen n.machine.db.content x → (t : OpenTransaction) × (u.transaction ≡ Open t)
    now_its o = let w = (ends.stays given mode count m reached event n h s u at there).0 o in (w.0, w.1)

    its : (t : OpenTransaction) → u.transaction ≡ Open t → (t.tx ≡ x) × IsOpen n.machine.db.content x
    its t e = let one = ends.one given mode count m reached event n h s u at there t e in (one, (ends.stays given mode count m reached event n h s u at there).1 (t, e, one))

    no_more : (b : Transaction) → u.transaction ≡ b → ((t : OpenTransaction) → b ≡ Open t → ⊥) → IsOpen n.machine.db.content x → ⊥
    no_more b e ne o = let w = now_its o in ne w.0 (sym e ∙ w.1)

    not_yet : (a : Transaction) → s.transaction ≡ a → ((t : OpenTransaction) → a ≡ Open t → ⊥) → IsOpen m.db.content x → ⊥
    not_yet a e ne o = let w = opened_before m s o in ne w.0 (sym e ∙ w.1)

    -- nobody stands there
    by_nobody : ((db : Database) → in_the_way db v ≡ []) → (d : Doer) → mended n.machine.db v d was y ≡ has (in_the_way n.machine.db v) y
    by_nobody none d = at_doer d ∙ sym (ap (λ (xs : List TxId). has xs y) (none n.machine.db)) where
      was_none : has was y ≡ false
      was_none = same y ∙ ap (λ (xs : List TxId). has xs y) (none m.db)

      and_none : (b : Bool) (z : TxId) → (b && is_in_the_way n.machine.db v z) ≡ false
      and_none true z = ap (λ (xs : List TxId). has xs z) (none n.machine.db)
      and_none false z = refl

      at_doer : (d : Doer) → mended n.machine.db v d was y ≡ false
      at_doer (GoesOn z) = ap (λ b. b || (same_tx z y && is_in_the_way n.machine.db v z)) was_none ∙ and_none (same_tx z y) z
      at_doer (Ends z) = ap (λ b. b && not (same_tx z y)) was_none
      at_doer Nobody = was_none

    by_request : (r : Request) (tx : TxId) → Asks v r tx → mended n.machine.db v (doer_between s.transaction u.transaction) was y ≡ has (in_the_way n.machine.db v) y
    by_request r tx k = by s.transaction u.transaction refl refl where
      f : Facts r tx
      f = facts reached h at r tx

      before : has was y ≡ has (blockers m.db r tx) y
      before = same y ∙ ap (λ (xs : List TxId). has xs y) (k.way m.db)

      after : has (blockers n.machine.db r tx) y ≡ has (in_the_way n.machine.db v) y
      after = ap (λ (xs : List TxId). has xs y) (sym (k.way n.machine.db))

      goes : (t : OpenTransaction) → u.transaction ≡ Open t → mended n.machine.db v (GoesOn t.tx) was y ≡ has (in_the_way n.machine.db v) y
      goes t e =
          let w = its t e in
          ap (λ b. b || (same_tx t.tx y && is_in_the_way n.machine.db v t.tx)) before
          ∙ (ap (λ (xs : List TxId). has (blockers m.db r tx) y || (same_tx t.tx y && has xs t.tx)) (k.way n.machine.db) ∙ (goes_on r tx t f w.0 w.1 y ∙ after))

      ended : (t : OpenTransaction) → s.transaction ≡ Open t → (IsOpen n.machine.db.content x → ⊥) → mended n.machine.db v (Ends t.tx) was y ≡ has (in_the_way n.machine.db v) y
      ended t e shut = ap (λ b. b && not (same_tx t.tx y)) before ∙ (ends_now r tx t f (own t e) shut y ∙ after) where
        own : (t : OpenTransaction) → s.transaction ≡ Open t → t.tx ≡ x
        own t e = sym (ap (λ (a : Transaction). doer_of m (record s { transaction = a })) e)

      rests : (IsOpen m.db.content x → ⊥) → (IsOpen n.machine.db.content x → ⊥) → mended n.machine.db v Nobody was y ≡ has (in_the_way n.machine.db v) y
      rests not_before shut = before ∙ (stays_so r tx f not_before shut y ∙ after)

      by : (a b : Transaction) → s.transaction ≡ a → u.transaction ≡ b → mended n.machine.db v (doer_between a b) was y ≡ has (in_the_way n.machine.db v) y
      by Closed (Open t) e g = goes t g
      by Aborted (Open t) e g = goes t g
      by (Open q) (Open t) e g = goes t g
      by (Open q) Closed e g = ended q e (no_more Closed g (λ t k. cc))
      by (Open q) Aborted e g = ended q e (no_more Aborted g (λ t k. cc))
      by Closed Closed e g = rests (not_yet Closed e (λ t k. cc)) (no_more Closed g (λ t k. cc))
      by Closed Aborted e g = rests (not_yet Closed e (λ t k. cc)) (no_more Aborted g (λ t k. cc))
      by Aborted Closed e g = rests (not_yet Aborted e (λ t k. cc)) (no_more Closed g (λ t k. cc))
      by Aborted Aborted e g = rests (not_yet Aborted e (λ t k. cc)) (no_more Aborted g (λ t k. cc))

    by_asks : ((r : Request) × (tx : TxId) × Asks v r tx) ⊎ ((db : Database) → in_the_way db v ≡ []) → mended n.machine.db v (doer_between s.transaction u.transaction) was y ≡ has (in_the_way n.machine.db v) y
    by_asks (inl w) = by_request w.0 w.1 w.2
    by_asks (inr none) = by_nobody none (doer_between s.transaction u.transaction)

  blockers_next : (old now : Lists) → Reaches given mode count m → next given mode m event ≡ Ok n → slice_get m.sessions (session_of event) ≡ Some s
      → slice_get n.machine.sessions (session_of event) ≡ Some u → AreBlockers m old → AreMended n.machine (doer_between s.transaction u.transaction) (session_of event) old now → AreBlockers n.machine now
  blockers_next old now reached h at there are mends = record {
    long = mends.long ∙ (are.long ∙ sym (after_there given mode m event s n at h).2);
    each = λ k v here. ⊎_elim (its k v here) (others k v here) (cases_eq k (session_of event));
  } where
    its : (k : ℕ) (v : Session) → slice_get n.machine.sessions k ≡ Some v → k ≡ session_of event → SameMembers (blockers_kept now k) (in_the_way n.machine.db v)
    its k v here e = subst (λ (i : ℕ). SameMembers (blockers_kept now i) (in_the_way n.machine.db v)) (sym e) (mends.own v (ap (slice_get n.machine.sessions) (sym e) ∙ here))

    others : (k : ℕ) (v : Session) → slice_get n.machine.sessions k ≡ Some v → (k ≡ session_of event → ⊥) → SameMembers (blockers_kept now k) (in_the_way n.machine.db v)
    others k v here ne y =
        let stood : slice_get m.sessions k ≡ Some v = sym (others_stay given mode m k event n (begun_there given mode count m reached) h (λ f. ne (sym f))) ∙ here in
        mends.others k v ne here y ∙ mended_to reached h at there v (blockers_kept old k) (are.each k v stood) y

-- ---- what the code answers

abbrev IsAfter : Blocks → Mode → Machine → Event → Machine → Result Reply Refusal → Type 0
IsAfter given mode m event after answer = engine_answer m (next given mode m event) ≡ record { machine = after; answer = answer }

-- who does an event that isn't refused is there before and after it, and the sessions are as many
pub record There (m : Machine) (i : ℕ) (after : Machine) : Type 0 where
  pub s : Session
  pub u : Session
  pub at : slice_get m.sessions i ≡ Some s
  pub now : slice_get after.sessions i ≡ Some u
  pub long : length after.sessions ≡ length m.sessions

pub there_by : (given : Blocks) (mode : Mode) (m after : Machine) (event : Event) (reply : Reply) → IsAfter given mode m event after (Ok reply) → There m (session_of event) after
there_by given mode m after event reply is =
    let n : Next = record { machine = after; reply = reply } in
    let h = answered_ok m after (next given mode m event) reply is in
    let s = session_there given mode m event n h in
    let u = after_there given mode m event s.0 n s.1 h in
    record { s = s.0; u = u.0; at = s.1; now = u.1; long = u.2 }

pub blockers_refused : (given : Blocks) (mode : Mode) (m after : Machine) (event : Event) (refusal : Refusal) (lists : Lists) → IsAfter given mode m event after (Err refusal)
    → AreBlockers m lists → AreBlockers after lists
blockers_refused given mode m after event refusal lists is are = subst (λ (x : Machine). AreBlockers x lists) (sym (answered_err m after (next given mode m event) refusal is).1) are

pub blockers_answered : (given : Blocks) (mode : Mode) (count : ℕ) (m after : Machine) (event : Event) (reply : Reply) (old now : Lists) → Reaches given mode count m
    → (is : IsAfter given mode m event after (Ok reply)) → AreBlockers m old
    → (let w = there_by given mode m after event reply is in AreMended after (doer_between w.s.transaction w.u.transaction) (session_of event) old now) → AreBlockers after now
blockers_answered given mode count m after event reply old now reached is are mends =
    let n : Next = record { machine = after; reply = reply } in
    let w = there_by given mode m after event reply is in
    blockers_next given mode count m event n w.s w.u old now reached (answered_ok m after (next given mode m event) reply is) w.at w.now are mends

ok_there : (answer : Result Reply Refusal) → is_ok answer ≡ true → (reply : Reply) × (answer ≡ Ok reply)
ok_there (Ok reply) e = (reply, refl)
ok_there (Err refusal) e = cc

err_there : (answer : Result Reply Refusal) → is_ok answer ≡ false → (refusal : Refusal) × (answer ≡ Err refusal)
err_there (Ok reply) e = cc
err_there (Err refusal) e = (refusal, refl)

module _ (given : Blocks) (mode : Mode) (m after : Machine) (event : Event) (answer : Result Reply Refusal) (session : ℕ) (is : IsAfter given mode m event after answer) (its : session ≡ session_of event) where
  done : (ok : is_ok answer ≡ true) → IsAfter given mode m event after (Ok (ok_there answer ok).0)
  done ok = subst (λ (a : Result Reply Refusal). IsAfter given mode m event after a) (ok_there answer ok).1 is

  pub within_after : is_ok answer ≡ true → session < length after.sessions
  within_after ok =
      let w = there_by given mode m after event (ok_there answer ok).0 (done ok) in
      subst (λ k. k < length after.sessions) (sym its) (slice_get_within after.sessions (session_of event) w.u w.now)

  pub long_after : (lists : Lists) → is_ok answer ≡ true → AreBlockers m lists → length lists ≡ length after.sessions
  long_after lists ok are = are.long ∙ sym (there_by given mode m after event (ok_there answer ok).0 (done ok)).long

  pub goes_ok : is_ok answer ≡ true → Goes given mode m event
  goes_ok ok = (record { machine = after; reply = (ok_there answer ok).0 }, answered_ok m after (next given mode m event) (ok_there answer ok).0 (done ok))

  pub blockers_left : (lists : Lists) → is_ok answer ≡ false → AreBlockers m lists → AreBlockers after lists
  blockers_left lists refused are = let r = err_there answer refused in
      blockers_refused given mode m after event r.0 lists (subst (λ (a : Result Reply Refusal). IsAfter given mode m event after a) r.1 is) are

  pub blockers_mended : (count : ℕ) (was now_is : Transaction) (doer : Doer) (old now : Lists) → Reaches given mode count m → is_ok answer ≡ true
      → IfSome (slice_get m.sessions session) (λ s. was ≡ s.transaction) → IfSome (slice_get after.sessions session) (λ s. now_is ≡ s.transaction) → doer ≡ doer_between was now_is
      → AreBlockers m old → AreMended after doer session old now → AreBlockers after now
  blockers_mended count was now_is doer old now reached ok before behind d are mends =
      let w = there_by given mode m after event (ok_there answer ok).0 (done ok) in
      let s_is : was ≡ w.s.transaction = subst (λ (o : Option Session). IfSome o (λ s. was ≡ s.transaction)) (ap (slice_get m.sessions) its ∙ w.at) before in
      let u_is : now_is ≡ w.u.transaction = subst (λ (o : Option Session). IfSome o (λ s. now_is ≡ s.transaction)) (ap (slice_get after.sessions) its ∙ w.now) behind in
      let doer_is : doer ≡ doer_between w.s.transaction w.u.transaction = d ∙ (ap (λ (a : Transaction). doer_between a now_is) s_is ∙ ap (λ (b : Transaction). doer_between w.s.transaction b) u_is) in
      blockers_answered given mode count m after event (ok_there answer ok).0 old now reached (done ok) are
      (subst (λ (x : Doer). AreMended after x (session_of event) old now) doer_is (subst (λ (k : ℕ). AreMended after doer k old now) its mends))
