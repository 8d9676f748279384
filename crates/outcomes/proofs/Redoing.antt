-- A history that is done again: the machine answers each event in one way, so the history is the same.
use Rattle.std.proofs.Common.{◌≡◌, ◌+◌, ◌<◌, ◌∷◌, ◌++◌, ◌∙◌, ℕ, suc, List, [], length, get_or, take, drop, drop-cons, refl, sym, ap, subst}
use Rattle.std.specs.Prelude.{Option, Some, None, IfSome, Result, Ok, Err}
use Rattle.std.proofs.lemmas.List.{take-append-drop, take_more}
use Rattle.session_machine.specs.declared.event.Mode.{Mode}
use Rattle.session_machine.specs.declared.fault.Refusal.{Refusal}
use Rattle.session_machine.specs.declared.reply.Reply.{Reply}
use Rattle.session_machine.specs.declared.reply.HistItem.{HistItem}
use Rattle.session_machine.specs.Machine.{Machine, Blocks, Next, next, opening, Run}
use Rattle.session_machine.specs.Engine.{Engine, EngineAnswered, IsLegal, engine_after, engine_answered, engine_step}

-- the item is the machine's next one in that state
abbrev Answers : Blocks → Mode → Machine → HistItem → Type 0
Answers blocks mode m item = (after : Machine) × (next blocks mode m item.event ≡ Ok (record { machine = after; reply = item.reply }))

-- a run goes through a state in front of each item
split_at : (blocks : Blocks) (mode : Mode) (m : Machine) (front : List HistItem) (item : HistItem) (behind : List HistItem) (after : Machine) → Run blocks mode m (front ++ item ∷ behind) after
    → (mid : Machine) × Run blocks mode m front mid × Answers blocks mode mid item
split_at blocks mode m [] item behind after run = (m, refl, (run.0, run.1))
split_at blocks mode m (x ∷ xs) item behind after run =
    let rest = split_at blocks mode run.0 xs item behind after run.2 in
    (rest.0, (run.0, run.1, rest.1), rest.2)

same_next : (n k : Next) → (let r : Result Next Refusal = Ok n in let s : Result Next Refusal = Ok k in r ≡ s) → n ≡ k
same_next n k e = cc

one_next : (p q : Machine) (reply : Reply) (n : Result Next Refusal) → n ≡ Ok (record { machine = p; reply = reply }) → n ≡ Ok (record { machine = q; reply = reply }) → p ≡ q
one_next p q reply n a b = ap (λ (k : Next). k.machine) (same_next (record { machine = p; reply = reply }) (record { machine = q; reply = reply }) (sym a ∙ b))

-- a history leads to one state
pub one_state : (blocks : Blocks) (mode : Mode) (m : Machine) (items : List HistItem) (a b : Machine) → Run blocks mode m items a → Run blocks mode m items b → a ≡ b
one_state blocks mode m [] a b r s = r ∙ sym s
one_state blocks mode m (x ∷ xs) a b r s =
    one_state blocks mode r.0 xs a b r.2 (subst (λ (w : Machine). Run blocks mode w xs b) (sym (one_next r.0 s.0 x.reply (next blocks mode m x.event) r.1 s.1)) s.2)

answered : (e new : Engine) (item : HistItem) (reply : Reply) (n : Result Next Refusal) (after : Machine) → n ≡ Ok (record { machine = after; reply = item.reply })
    → engine_answered e item.event n ≡ record { engine = new; answer = Ok reply } → new.history ≡ e.history ++ item ∷ []
answered e new item reply (Ok n) after is told =
    sym (ap (λ (a : EngineAnswered). a.engine.history) told)
    ∙ ap (λ (k : Next). e.history ++ record { event = item.event; reply = k.reply } ∷ []) (same_next n (record { machine = after; reply = item.reply }) is)
answered e new item reply (Err r) after is told = absurd cc

by_machine : (e new : Engine) (front : List HistItem) (item : HistItem) (behind : List HistItem) (reply : Reply) (after : Machine) (m : Option Machine)
    → IfSome m (λ w. Run e.blocks e.mode (opening e.count) e.history w) → e.history ≡ front → Run e.blocks e.mode (opening e.count) (front ++ item ∷ behind) after
    → engine_step e item.event m ≡ record { engine = new; answer = Ok reply } → new.history ≡ front ++ item ∷ []
by_machine e new front item behind reply after None leads own run told = let answer = ap (λ (a : EngineAnswered). a.answer) told in absurd cc
by_machine e new front item behind reply after (Some w) leads own run told =
    let parts = split_at e.blocks e.mode (opening e.count) front item behind after run in
    let same : w ≡ parts.0 = one_state e.blocks e.mode (opening e.count) front w parts.0 (subst (λ (xs : List HistItem). Run e.blocks e.mode (opening e.count) xs w) own leads) parts.1 in
    let answers : Answers e.blocks e.mode w item = subst (λ (x : Machine). Answers e.blocks e.mode x item) (sym same) parts.2 in
    answered e new item reply (next e.blocks e.mode w item.event) answers.0 answers.1 told ∙ ap (λ (xs : List HistItem). xs ++ item ∷ []) own

-- one more item was done again
pub redone : (e new : Engine) (items : List HistItem) (place : ℕ) (item : HistItem) (reply : Reply) → place < length items → item ≡ get_or items place item → e.history ≡ take place items
    → IsLegal e.blocks e.count e.mode items → IfSome e.machine (λ w. Run e.blocks e.mode (opening e.count) e.history w)
    → engine_after e item.event ≡ record { engine = new; answer = Ok reply } → new.history ≡ take (place + 1) items
redone e new items place item reply within is own legal leads told =
    let parts : items ≡ take place items ++ item ∷ drop (suc place) items =
    sym (take-append-drop place items) ∙ ap (λ (xs : List HistItem). take place items ++ xs) (drop-cons items place item within)
    ∙ ap (λ (x : HistItem). take place items ++ x ∷ drop (suc place) items) (sym is) in
    by_machine e new (take place items) item (drop (suc place) items) reply legal.0 e.machine leads own (subst (λ (xs : List HistItem). Run e.blocks e.mode (opening e.count) xs legal.0) parts legal.1) told
    ∙ ap (λ (x : HistItem). take place items ++ x ∷ []) is ∙ sym (take_more items place item within)

first_part : (blocks : Blocks) (mode : Mode) (m : Machine) (front behind : List HistItem) (after : Machine) → Run blocks mode m (front ++ behind) after → (mid : Machine) × Run blocks mode m front mid
first_part blocks mode m [] behind after run = (m, refl)
first_part blocks mode m (x ∷ xs) behind after run = let rest = first_part blocks mode run.0 xs behind after run.2 in (rest.0, (run.0, run.1, rest.1))

-- a front of a legal history is legal
pub front_is_legal : (blocks : Blocks) (count : ℕ) (mode : Mode) (items : List HistItem) (n : ℕ) → IsLegal blocks count mode items → IsLegal blocks count mode (take n items)
front_is_legal blocks count mode items n legal =
    first_part blocks mode (opening count) (take n items) (drop n items) legal.0 (subst (λ (xs : List HistItem). Run blocks mode (opening count) xs legal.0) (sym (take-append-drop n items)) legal.1)
