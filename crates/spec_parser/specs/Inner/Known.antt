-- What contracts see of the steps by name, and of what was resolved.
use Rattle.std.specs.Prelude.{◌≡◌, ◌<◌, ℕ, List, [], ◌∷◌, ◌++◌, length, find, map, flat_map, Option, Some, None, is_some, IsSome, Result, Ok, Err, if◌then◌else◌}
use Rattle.std.specs.List.{enumerate_from}
use Rattle.std.specs.Option.{option_map_or}
use Rattle.spec_parser.specs.declared.known.KnownStep.{KnownStep}
use Rattle.spec_parser.specs.declared.fault.SpecFault.{SpecFault}
use Rattle.spec_parser.specs.declared.fault.SpecFault.TheVariants as faults
use Rattle.spec_parser.specs.Trees.{StepTree, EntryTree, SpecTree, placed_view, NameAt, StepOf, SessionOf, NamedEntry, FileTree}
use Rattle.iso_lexer.specs.Results.{if_ok, each}
use Rattle.spec_parser.specs.Names.{StepAt, is_named, known_entry, session_tree, steps_of}

abbrev pub known_view : KnownStep → StepAt
known_view s = record { name = placed_view s.name; session = s.session; step = s.step }

-- a step without the place of its name
abbrev pub step_tree : StepOf NameAt → StepTree
step_tree s = record { name = s.name.name; part = s.part }

-- the steps of a session, which stands behind its number
abbrev pub steps_in : ℕ × SessionOf NameAt → List StepAt
steps_in s = map (λ (x : ℕ × StepOf NameAt). record { name = x.1.name; session = s.0; step = x.0 }) (enumerate_from 0 s.1.steps)

-- the place of the first name that a step before it has
abbrev pub first_repeat : List StepAt → List StepAt → Option ℕ
first_repeat before [] = None
first_repeat before (s ∷ ss) = if is_some (find (is_named s.name.name) before) then Some s.name.at else first_repeat (before ++ s ∷ []) ss

-- a file with its names looked up, as the code does it
abbrev pub known_spec : FileTree → Result SpecTree SpecFault
known_spec f = option_map_or (λ at. Err (faults.DuplicateStep at)) (first_repeat [] (steps_of f))
    (if_ok (each (each (known_entry (steps_of f))) f.perms) (λ perms. Ok (record { setups = f.setups; teardown = f.teardown; sessions = map session_tree f.sessions; perms = perms })))

-- the steps of session k, from number j on
abbrev pub steps_from : ℕ → ℕ → List (StepOf NameAt) → List StepAt
steps_from k j ss = map (λ (x : ℕ × StepOf NameAt). record { name = x.1.name; session = k; step = x.0 }) (enumerate_from j ss)

-- the steps of the sessions from number k on, in file order
abbrev pub sessions_from : ℕ → List (SessionOf NameAt) → List StepAt
sessions_from k ss = flat_map steps_in (enumerate_from k ss)

-- permutations, entry by entry
abbrev pub known_perms : List StepAt → List (List NamedEntry) → Result (List (List EntryTree)) SpecFault
known_perms known = each (each (known_entry known))

abbrev pub IsFaultOf : {Y : Type 0} → SpecFault → Result Y SpecFault → Type 0
IsFaultOf faults.Memory wanted = Unit {0}
IsFaultOf (faults.Lex f) wanted = wanted ≡ Err (faults.Lex f)
IsFaultOf (faults.Expected w at) wanted = wanted ≡ Err (faults.Expected w at)
IsFaultOf (faults.DuplicateStep at) wanted = wanted ≡ Err (faults.DuplicateStep at)
IsFaultOf (faults.UndefinedStep at) wanted = wanted ≡ Err (faults.UndefinedStep at)
IsFaultOf (faults.UndefinedMarker at) wanted = wanted ≡ Err (faults.UndefinedMarker at)
IsFaultOf (faults.NoticesLeftOut at) wanted = wanted ≡ Err (faults.NoticesLeftOut at)
IsFaultOf (faults.Limit at) wanted = wanted ≡ Err (faults.Limit at)

-- what was returned, seen so, is this; or memory ran out
abbrev pub IsAs : {X Y : Type 0} → (X → Y) → Result X SpecFault → Result Y SpecFault → Type 0
IsAs view (Ok x) wanted = wanted ≡ Ok (view x)
IsAs view (Err e) wanted = IsFaultOf e wanted

-- an entry whose step is there, and which has markers
pub record EntryWantsRoom (known : List StepAt) (e : NamedEntry) : Type 0 where
  pub step : IsSome (find (is_named e.name.name) known)
  pub markers : 0 < length e.markers
