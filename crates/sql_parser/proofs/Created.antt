-- A table by its columns and keys, as the code makes it.
use Rattle.std.proofs.Common.{◌≡◌, ℕ, Bool, true, false, List, [], ◌∷◌, ◌++◌, map, Some, refl, ap}
use Rattle.std.proofs.lemmas.Bool.{and_parts}
use Rattle.std.proofs.lemmas.List.{map-append}
use Rattle.std.specs.List.{filter, list_all}
use Rattle.std.specs.Prelude.{not, ◌||◌, find, option_map, slice_index, if◌then◌else◌}
use Rattle.sql_trees.specs.Statements.{KeyTree, Create}
use Rattle.sql_trees.specs.Tokens.{Tokens}
use Rattle.sql_blocks.specs.Parts.{column_names}
use Rattle.sql_parser.specs.Tables.{has_name, Placed, KeyRead, TableRead, completed, created, keys_fault, resolved}
use Rattle.sql_parser.specs.Grammar.{Constraints, Commas, last_item, next_item, placed, AddsColumn, adds_column, Says, no_more, not_null, primary_key, unique_key, AddsPart, a_column, a_primary, a_unique}
use Rattle.sql_parser.specs.Inner.Tables.{table_of, made_name, first_lacking, text_fault}
use Rattle.sql_parser.specs.Inner.Tables as inner
use Rattle.sql_parser.proofs.Steps.{push_all}

pub created_is : (name : List ℕ) (t : TableRead) → created name t ≡ table_of name t
created_is name t =
    let columns = column_names t.columns in
    ap (λ (keys : List KeyTree). Create (record { name = name; columns = map (completed t.keys) t.columns; keys = keys }))
    (map-append (resolved columns) (filter (λ (k : KeyRead). k.primary) t.keys) (filter (λ (k : KeyRead). not k.primary) t.keys))

-- ---- the fault of the keys

abbrev pub some_column : List Placed → Bool
some_column [] = false
some_column (n ∷ ns) = true

-- each key has a column
abbrev pub are_full : List KeyRead → Bool
are_full ks = list_all (λ k. some_column k.columns) ks

first_wrong : (b : Bool) (columns : List (List ℕ)) (ns : List Placed) → some_column ns ≡ true → option_map (λ n. n.place) (find (λ n. b || not (has_name n.name columns)) ns) ≡ (if b then Some (slice_index (map (λ n. n.place) ns) 0) else first_lacking columns ns)
first_wrong b columns [] h = absurd cc
first_wrong true columns (n ∷ ns) h = refl
first_wrong false columns (n ∷ ns) h = refl

pub fault_is : (table : List ℕ) (columns earlier : List (List ℕ)) (ks : List KeyRead) → are_full ks ≡ true → keys_fault table columns earlier ks ≡ inner.keys_fault table columns earlier ks
unfolding keys_fault inner.keys_fault text_fault
fault_is table columns earlier [] h = refl
fault_is table columns earlier (k ∷ ks) h =
    let p = and_parts (some_column k.columns) (are_full ks) h in
    rw (first_wrong (has_name (made_name table k) earlier) columns k.columns p.0, fault_is table columns (earlier ++ made_name table k ∷ []) ks p.1) refl

some_pushed : (ns : List Placed) (n : Placed) → some_column (ns ++ n ∷ []) ≡ true
some_pushed [] n = refl
some_pushed (m ∷ ms) n = refl

push_full : (ks : List KeyRead) (primary : Bool) (ns : List Placed) → are_full ks ≡ true → some_column ns ≡ true → are_full (ks ++ (record { primary = primary; columns = ns }) ∷ []) ≡ true
push_full ks primary ns h k = push_all (λ (y : KeyRead). some_column y.columns) ks (record { primary = primary; columns = ns }) h k

listed_full : {ns ms : List Placed} {ts : Tokens} → Commas AddsColumn ns ts ms → some_column ms ≡ true
listed_full (last_item _ _ _ (adds_column ns t n h)) = some_pushed ns (placed n t)
listed_full (next_item _ _ _ _ _ _ a h more) = listed_full more

said_full : {c : Placed} {s u : Constraints} {ts : Tokens} → Says c s ts u → are_full s.keys ≡ true → are_full u.keys ≡ true
said_full (no_more s) h = h
said_full (not_null s u t v ts ht hv more) h = said_full more h
said_full {c = c} (primary_key s u t v ts ht hv more) h = said_full more (push_full s.keys true (c ∷ []) h refl)
said_full {c = c} (unique_key s u t ts ht more) h = said_full more (push_full s.keys false (c ∷ []) h refl)

part_full : {t u : TableRead} {ts : Tokens} → AddsPart t ts u → are_full t.keys ≡ true → are_full u.keys ≡ true
part_full (a_column t c k n kind ts said hn hk says) h = said_full says h
part_full (a_primary t p k o z ts ns hp hk ho list hz) h = push_full t.keys true ns h (listed_full list)
part_full (a_unique t u o z ts ns hu ho list hz) h = push_full t.keys false ns h (listed_full list)

pub parts_full : {t u : TableRead} {ts : Tokens} → Commas AddsPart t ts u → are_full t.keys ≡ true → are_full u.keys ≡ true
parts_full (last_item _ _ _ a) h = part_full a h
parts_full (next_item _ _ _ _ _ _ a k more) h = parts_full more (part_full a h)
