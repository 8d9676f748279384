-- The waits of some sessions, gathered one after the other.
use Rattle.std.proofs.Common.{◌≡◌, ◌||◌, ◌<◌, ◌+◌, ℕ, Bool, List, ◌∷◌, drop, get_or, length, sym, ap, ◌∙◌, rules}
use Rattle.std.proofs.lemmas.List.{drop_more}
use Rattle.row_versions.specs.declared.names.TxId.{TxId}
use Rattle.row_locks.specs.Cycles.{blocks}
use Rattle.row_locks.specs.Waiting.{Waiting}
use Rattle.session_machine.specs.declared.session.Session.{Session}
use Rattle.session_machine.specs.Tables.{Database}
use Rattle.session_machine.specs.Waits.{waiting_in, waits_in}
use Rattle.session_database.specs.Inner.Waits.{stands_in_way_of}

or_assoc : (x y z : Bool) → (x || (y || z)) ≡ ((x || y) || z)
or_assoc x y z = search rules

-- one wait in front of others
in_front : (db : Database) (s : Session) (rest : List Session) (a b : TxId)
    → blocks (waits_in db (s ∷ rest)) a b ≡ (stands_in_way_of (waiting_in db s) a b || blocks (waits_in db rest) a b)
in_front db s rest a b = search rules

-- where the wait of the next session was added, the rest begins behind it
pub one_more : (db : Database) (all : List Session) (i : ℕ) (s : Session) (old new : List Waiting) → i < length all → s ≡ get_or all i s
    → ((a b : TxId) → blocks new a b ≡ (blocks old a b || stands_in_way_of (waiting_in db s) a b))
    → ((a b : TxId) → (blocks old a b || blocks (waits_in db (drop i all)) a b) ≡ blocks (waits_in db all) a b)
    → (a b : TxId) → (blocks new a b || blocks (waits_in db (drop (i + 1) all)) a b) ≡ blocks (waits_in db all) a b
one_more db all i s old new within is added sofar a b =
    let from = drop_more all i s within ∙ ap (λ x. x ∷ drop (i + 1) all) (sym is) in
    let rest = blocks (waits_in db (drop (i + 1) all)) a b in
    ap (λ x. x || rest) (added a b)
    ∙ sym (or_assoc (blocks old a b) (stands_in_way_of (waiting_in db s) a b) rest)
    ∙ ap (λ x. blocks old a b || x) (sym (ap (λ ss. blocks (waits_in db ss) a b) from ∙ in_front db s (drop (i + 1) all) a b))
    ∙ sofar a b
