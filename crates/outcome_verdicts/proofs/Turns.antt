-- Turns, one after the other.
use Rattle.std.proofs.Common.{◌≡◌, ◌+◌, ◌<◌, ◌∙◌, ℕ, List, [], ◌++◌, length, map, get_or, take, drop, refl, sym, ap, append_assoc}
use Rattle.std.specs.Prelude.{◌==◌, count_by, filter_map, flat_map, Option, Some, None, option_to_list}
use Rattle.std.specs.List.{cons_option, enumerate_from}
use Rattle.std.proofs.lemmas.List.{append-nil, at_drop_more}
use Rattle.spec_parser.specs.Trees.{EntryTree}
use Rattle.outcome_verdicts.specs.Transactions.{TransactionTree, entries_in, in_turn}

-- the entry of a turn, by its place
abbrev pub turn_at : List ℕ → ℕ × ℕ → EntryTree
turn_at turns p = record { session = p.1; step = count_by (λ x. x == p.1) (take p.0 turns); markers = [] }

-- the first transaction, if there is one, and those behind it
pub first_turn : (t : Option TransactionTree) (ts : List TransactionTree) → flat_map entries_in (cons_option t ts) ≡ flat_map entries_in (option_to_list t) ++ flat_map entries_in ts
first_turn None ts = refl
first_turn (Some t) ts = ap (λ (es : List EntryTree). es ++ flat_map entries_in ts) (sym (append-nil (entries_in t)))

-- the entries of the turns from this place on
abbrev pub turns_from : List (List TransactionTree) → List ℕ → ℕ → List EntryTree
turns_from lists turns place = flat_map entries_in (filter_map (in_turn lists) (map (turn_at turns) (enumerate_from place (drop place turns))))

pub next_turn : (lists : List (List TransactionTree)) (turns : List ℕ) (place before : ℕ) (es new all : List EntryTree) → place < length turns
    → before ≡ count_by (λ x. x == get_or turns place 0) (take place turns)
    → new ≡ es ++ flat_map entries_in (option_to_list (in_turn lists (record { session = get_or turns place 0; step = before; markers = [] })))
    → es ++ turns_from lists turns place ≡ all → new ++ turns_from lists turns (place + 1) ≡ all
next_turn lists turns place before es new all within many is so =
    let own = λ (n : ℕ). in_turn lists (record { session = get_or turns place 0; step = n; markers = [] }) in
    let t = own (count_by (λ x. x == get_or turns place 0) (take place turns)) in
    let more = turns_from lists turns (place + 1) in
    let later = filter_map (in_turn lists) (map (turn_at turns) (enumerate_from (place + 1) (drop (place + 1) turns))) in
    ap (λ (xs : List EntryTree). xs ++ more) (is ∙ ap (λ (n : ℕ). es ++ flat_map entries_in (option_to_list (own n))) many)
    ∙ append_assoc es (flat_map entries_in (option_to_list t)) more
    ∙ ap (λ (xs : List EntryTree). es ++ xs)
    (sym (first_turn t later)
    ∙ sym (at_drop_more (λ (xs : List ℕ). flat_map entries_in (filter_map (in_turn lists) (map (turn_at turns) (enumerate_from place xs)))) turns place 0 within))
    ∙ so
