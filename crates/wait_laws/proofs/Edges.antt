-- Who waits for whom, session by session.
use Rattle.std.proofs.Common.{◌≡◌, refl, sym, subst, ◌⊎◌, inl, inr, true, ◌&&◌, ℕ, zero, suc, List, [], ◌∷◌}
use Rattle.std.specs.Prelude.{Option, Some, None, slice_get}
use Rattle.row_versions.specs.declared.names.TxId.{TxId}
use Rattle.row_versions.specs.Members.{has, same_tx}
use Rattle.row_locks.specs.Cycles.{blocks}
use Rattle.row_locks.proofs.Cases.{or_cases, or_left, or_right, and_both, both_and, same_is, is_same}
use Rattle.session_machine.specs.declared.session.OpenTransaction.{OpenTransaction}
use Rattle.session_machine.specs.declared.session.Place.{Place}
use Rattle.session_machine.specs.declared.session.Transaction.{Transaction}
use Rattle.session_machine.specs.declared.session.Transaction.TheVariants.{Closed, Open, Aborted}
use Rattle.session_machine.specs.declared.session.Progress.{Progress}
use Rattle.session_machine.specs.declared.session.Session.{Session}
use Rattle.session_machine.specs.Tables.{Database}
use Rattle.session_machine.specs.Waits.{blockers, waits_in}

-- the session waits for the other transaction
pub record Edge (db : Database) (s : Session) (a b : TxId) : Type 0 where
  pub t : OpenTransaction
  pub p : Progress
  pub open_now : s.transaction ≡ Open t
  pub at : s.statement ≡ Some p
  pub its : t.tx ≡ a
  pub against : has (blockers db p.wait.request a) b ≡ true

abbrev session_as : Option Place → Transaction → Option Progress → Session
session_as place tr st = record { place = place; transaction = tr; statement = st }

-- the first session waits so, or the others do
edge_first : (db : Database) (place : Option Place) (tr : Transaction) (st : Option Progress) (ss : List Session) (a b : TxId)
    → blocks (waits_in db (session_as place tr st ∷ ss)) a b ≡ true → Edge db (session_as place tr st) a b ⊎ (blocks (waits_in db ss) a b ≡ true)
edge_first db place Closed None ss a b h = inr h
edge_first db place Closed (Some p) ss a b h = inr h
edge_first db place Aborted None ss a b h = inr h
edge_first db place Aborted (Some p) ss a b h = inr h
edge_first db place (Open t) None ss a b h = inr h
edge_first db place (Open t) (Some p) ss a b h =
    elim (or_cases (same_tx t.tx a && has (blockers db p.wait.request t.tx) b) (blocks (waits_in db ss) a b) h) [
      | inl k ↦
          let q = and_both (same_tx t.tx a) (has (blockers db p.wait.request t.tx) b) k in
          let is = same_is t.tx a q.0 in
          inl (record { t = t; p = p; open_now = refl; at = refl; its = is; against = subst (λ x. has (blockers db p.wait.request x) b ≡ true) is q.1 })
      | inr k ↦ inr k
    ]

first_edge : (db : Database) (place : Option Place) (tr : Transaction) (st : Option Progress) (ss : List Session) (a b : TxId)
    → Edge db (session_as place tr st) a b → blocks (waits_in db (session_as place tr st ∷ ss)) a b ≡ true
first_edge db place tr st ss a b e =
    subst (λ y. blocks (waits_in db (session_as place y st ∷ ss)) a b ≡ true) (sym e.open_now)
    (subst (λ y. blocks (waits_in db (session_as place (Open e.t) y ∷ ss)) a b ≡ true) (sym e.at)
    (or_left (same_tx e.t.tx a && has (blockers db e.p.wait.request e.t.tx) b) (blocks (waits_in db ss) a b)
    (both_and (same_tx e.t.tx a) (has (blockers db e.p.wait.request e.t.tx) b) (subst (λ x. same_tx e.t.tx x ≡ true) e.its (is_same e.t.tx))
    (subst (λ x. has (blockers db e.p.wait.request x) b ≡ true) (sym e.its) e.against))))

later_edge : (db : Database) (place : Option Place) (tr : Transaction) (st : Option Progress) (ss : List Session) (a b : TxId)
    → blocks (waits_in db ss) a b ≡ true → blocks (waits_in db (session_as place tr st ∷ ss)) a b ≡ true
later_edge db place Closed None ss a b h = h
later_edge db place Closed (Some p) ss a b h = h
later_edge db place Aborted None ss a b h = h
later_edge db place Aborted (Some p) ss a b h = h
later_edge db place (Open t) None ss a b h = h
later_edge db place (Open t) (Some p) ss a b h = or_right (same_tx t.tx a && has (blockers db p.wait.request t.tx) b) (blocks (waits_in db ss) a b) h

-- where one transaction waits for another, some session does
pub edge_from : (db : Database) (ss : List Session) (a b : TxId) → blocks (waits_in db ss) a b ≡ true → (j : ℕ) × (s : Session) × (slice_get ss j ≡ Some s) × Edge db s a b
edge_from db [] a b h = cc
edge_from db (s ∷ ss) a b h = elim (edge_first db s.place s.transaction s.statement ss a b h) [
  | inl e ↦ (zero, s, refl, e)
  | inr k ↦ let r = edge_from db ss a b k in (suc r.0, r.1, r.2, r.3)
]

same_session : (s u : Session) → Some s ≡ Some u → s ≡ u
same_session s u h = cc

no_session : (s : Session) → None ≡ Some s → ⊥
no_session s h = cc

pub edge_to : (db : Database) (ss : List Session) (j : ℕ) (s : Session) (a b : TxId) → slice_get ss j ≡ Some s → Edge db s a b → blocks (waits_in db ss) a b ≡ true
edge_to db [] j s a b at e = absurd (no_session s at)
edge_to db (u ∷ ss) zero s a b at e =
    first_edge db u.place u.transaction u.statement ss a b (subst (λ (y : Session). Edge db y a b) (sym (same_session u s at)) e)
edge_to db (u ∷ ss) (suc j) s a b at e = later_edge db u.place u.transaction u.statement ss a b (edge_to db ss j s a b at e)
