-- Steps that are cut into transactions, one after the other.
use Rattle.std.proofs.Common.{◌≡◌, ◌≢◌, ◌+◌, ◌<◌, ◌≤◌, ◌∙◌, ℕ, Bool, true, false, List, [], ◌∷◌, ◌++◌, length, map, get_or, drop, refl, sym, ap, append_assoc}
use Rattle.std.specs.Prelude.{◌==◌, if◌then◌else◌, vec_len}
use Rattle.std.specs.Global.{Vec}
use Rattle.std.proofs.lemmas.Bool.{eq-eqb, eqb-true, false≢true}
use Rattle.std.proofs.lemmas.List.{append-nil, at_drop_more, drop_all, map-append, nil_from_length}
use Rattle.session_machine.specs.Machine.{Blocks}
use Rattle.spec_parser.specs.Trees.{SessionTree}
use Rattle.outcome_verdicts.specs.declared.transactions.Transaction.{Transaction}
use Rattle.outcome_verdicts.specs.Transactions.{TransactionTree, cut, in_front, is_open_behind_step, of_session, transaction_view}
use Rattle.outcome_verdicts.specs.Inner.Cutting.{all_in_front, with_rest}

-- the transaction goes on with one more step
goes_on : (now : List ℕ) (step : ℕ) (rest : List (List ℕ)) → all_in_front (now ++ step ∷ []) rest ≡ all_in_front now (in_front step rest)
goes_on [] step rest = refl
goes_on (x ∷ xs) step rest = ap (in_front x) (goes_on xs step rest)

-- or ends with it
ends : (now : List ℕ) (step : ℕ) (rest : List (List ℕ)) → all_in_front now ((step ∷ []) ∷ rest) ≡ (now ++ step ∷ []) ∷ rest
ends [] step rest = refl
ends (x ∷ xs) step rest = ap (in_front x) (ends xs step rest)

-- or no step follows
alone : (x : ℕ) (now : List ℕ) → all_in_front (x ∷ now) [] ≡ (x ∷ now) ∷ []
alone x [] = refl
alone x (y ∷ ys) = ap (in_front x) (alone y ys)

pub still_open : (session : ℕ) (over : List Transaction) (now new : List ℕ) (step : ℕ) (still : Bool) (rest : List (List ℕ)) → still ≡ true → new ≡ now ++ step ∷ []
    → with_rest session over new rest ≡ with_rest session over now (if still then in_front step rest else (step ∷ []) ∷ rest)
still_open session over now new step still rest opened is =
    ap (λ (xs : List ℕ). with_rest session over xs rest) is
    ∙ ap (λ (ts : List (List ℕ)). map transaction_view over ++ map (of_session session) ts) (goes_on now step rest)
    ∙ ap (λ (b : Bool). with_rest session over now (if b then in_front step rest else (step ∷ []) ∷ rest)) (sym opened)

-- one more is over
one_more : (session : ℕ) (over after : List Transaction) (t : Transaction) (steps : List ℕ) (rest : List (List ℕ)) → transaction_view t ≡ of_session session steps → after ≡ over ++ t ∷ []
    → map transaction_view after ++ map (of_session session) rest ≡ map transaction_view over ++ map (of_session session) (steps ∷ rest)
one_more session over after t steps rest of is =
    let here = λ (ts : List TransactionTree). ts ++ map (of_session session) rest in
    ap (λ (ts : List Transaction). map transaction_view ts ++ map (of_session session) rest) is
    ∙ ap here (map-append transaction_view over (t ∷ []) ∙ ap (λ (x : TransactionTree). map transaction_view over ++ x ∷ []) of)
    ∙ append_assoc (map transaction_view over) (of_session session steps ∷ []) (map (of_session session) rest)

pub now_over : (session : ℕ) (over after : List Transaction) (t : Transaction) (now new : List ℕ) (step : ℕ) (still : Bool) (rest : List (List ℕ)) → still ≡ false
    → transaction_view t ≡ of_session session (now ++ step ∷ []) → after ≡ over ++ t ∷ [] → new ≡ []
    → with_rest session after new rest ≡ with_rest session over now (if still then in_front step rest else (step ∷ []) ∷ rest)
now_over session over after t now new step still rest closed of is none =
    ap (λ (xs : List ℕ). with_rest session after xs rest) none
    ∙ one_more session over after t (now ++ step ∷ []) rest of is
    ∙ ap (λ (ts : List (List ℕ)). map transaction_view over ++ map (of_session session) ts) (sym (ends now step rest))
    ∙ ap (λ (b : Bool). with_rest session over now (if b then in_front step rest else (step ∷ []) ∷ rest)) (sym closed)

-- the steps from one on
pub cut_more : (blocks : Blocks) (s : SessionTree) (begun still : Bool) (steps : List ℕ) (i : ℕ) → i < length steps → still ≡ is_open_behind_step blocks s begun (get_or steps i 0)
    → cut blocks s begun (drop i steps)
    ≡ (if still then in_front (get_or steps i 0) (cut blocks s still (drop (i + 1) steps)) else (get_or steps i 0 ∷ []) ∷ cut blocks s still (drop (i + 1) steps))
cut_more blocks s begun still steps i within is =
    at_drop_more (cut blocks s begun) steps i 0 within
    ∙ ap (λ (b : Bool). if b then in_front (get_or steps i 0) (cut blocks s b (drop (i + 1) steps)) else (get_or steps i 0 ∷ []) ∷ cut blocks s b (drop (i + 1) steps)) (sym is)

-- ---- at the end

-- no step is left
pub at_end : (blocks : Blocks) (s : SessionTree) (session : ℕ) (over : List Transaction) (now : List ℕ) (begun : Bool) (steps : List ℕ) (i : ℕ) (all : List TransactionTree) → length steps ≤ i
    → with_rest session over now (cut blocks s begun (drop i steps)) ≡ all → with_rest session over now [] ≡ all
at_end blocks s session over now begun steps i all past is = ap (λ (xs : List ℕ). with_rest session over now (cut blocks s begun xs)) (sym (drop_all i steps past)) ∙ is

pub is_nil : (v : Vec ℕ) (b : Bool) → b ≡ (vec_len v == 0) → b ≡ true → v.items ≡ []
is_nil v b e t = nil_from_length v.items (sym v.ok.0 ∙ eqb-true v.len 0 (sym e ∙ t))

pub not_nil : (v : Vec ℕ) (b : Bool) → b ≡ (vec_len v == 0) → b ≡ false → v.items ≢ []
not_nil v b e f = λ none. false≢true (sym f ∙ e ∙ eq-eqb v.len 0 (v.ok.0 ∙ ap length none))

pub none_left : (session : ℕ) (over : List Transaction) (now : List ℕ) → now ≡ [] → with_rest session over now [] ≡ map transaction_view over
none_left session over now none = ap (λ (xs : List ℕ). with_rest session over xs []) none ∙ append-nil (map transaction_view over)

pub one_left : (session : ℕ) (over after : List Transaction) (t : Transaction) (now : List ℕ) → now ≢ [] → transaction_view t ≡ of_session session now → after ≡ over ++ t ∷ []
    → with_rest session over now [] ≡ map transaction_view after
one_left session over after t [] some of is = absurd (some refl)
one_left session over after t (x ∷ xs) some of is =
    ap (λ (ts : List (List ℕ)). map transaction_view over ++ map (of_session session) ts) (alone x xs)
    ∙ sym (one_more session over after t (x ∷ xs) [] of is) ∙ append-nil (map transaction_view after)
