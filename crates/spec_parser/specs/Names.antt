-- To be believed. The steps that a file's names stand for.
use Rattle.std.specs.Prelude.{ℕ, Bool, List, take, find, is_some, map, flat_map, Option, ok_or, option_map, Result, Ok, Err, bytes_eq}
use Rattle.std.specs.List.{enumerate_from}
use Rattle.std.specs.Option.{option_map_or}
use Rattle.iso_lexer.specs.Names.{Written, decoded}
use Rattle.iso_lexer.specs.Results.{if_ok, each}
use Rattle.spec_parser.specs.declared.tree.Marker.{Marker}
use Rattle.spec_parser.specs.declared.tree.Marker.TheVariants as markers
use Rattle.spec_parser.specs.declared.fault.SpecFault.{SpecFault}
use Rattle.spec_parser.specs.declared.fault.SpecFault.TheVariants.{DuplicateStep, UndefinedStep, UndefinedMarker}
use Rattle.spec_parser.specs.Trees.{SessionTree, EntryTree, SpecTree, NameAt, SessionOf, MarkerTree, star, named, NamedEntry, FileTree}

-- a step of the file: its name, its session, numbered from 1, and its number in that, from 0
pub record StepAt : Type 0 where
  pub name : NameAt
  pub session : ℕ
  pub step : ℕ

-- the steps of a file, in file order; its sessions have the numbers from 1, and the steps of each the numbers from 0
abbrev pub steps_of : FileTree → List StepAt
steps_of f = flat_map (λ s. map (λ x. record { name = x.1.name; session = s.0; step = x.0 }) (enumerate_from 0 s.1.steps)) (enumerate_from 1 f.sessions)

-- names are the same where they stand for the same bytes
abbrev pub is_named : Written → StepAt → Bool
is_named n s = bytes_eq (decoded s.name.name) (decoded n)

-- the first step whose name one of those before it has, behind how many these are
abbrev pub first_repeated : List StepAt → Option (ℕ × StepAt)
first_repeated steps = find (λ s. is_some (find (is_named s.1.name.name) (take s.0 steps))) (enumerate_from 0 steps)

-- what a marker, or an entry, stands for; or its first name that no step has
abbrev pub known_marker : List StepAt → MarkerTree → Result Marker SpecFault
known_marker known star = Ok markers.Star
known_marker known (named n) = ok_or (option_map (λ s. markers.Step s.session s.step) (find (is_named n.name) known)) (UndefinedMarker n.at)

abbrev pub known_entry : List StepAt → NamedEntry → Result EntryTree SpecFault
known_entry known e = if_ok (ok_or (find (is_named e.name.name) known) (UndefinedStep e.name.at))
    (λ s. if_ok (each (known_marker known) e.markers) (λ ms. Ok (record { session = s.session; step = s.step; markers = ms })))

-- a session without the places of its names
abbrev pub session_tree : SessionOf NameAt → SessionTree
session_tree s = record { name = s.name.name; setup = s.setup; steps = map (λ x. record { name = x.name.name; part = x.part }) s.steps; teardown = s.teardown }

-- a file whose step names differ, and whose permutations name steps of it; else the first name that stands again, or the first that no step has
abbrev pub names_resolved : FileTree → Result SpecTree SpecFault
names_resolved f = option_map_or (λ s. Err (DuplicateStep s.1.name.at)) (first_repeated (steps_of f))
    (if_ok (each (each (known_entry (steps_of f))) f.perms) (λ perms. Ok (record { setups = f.setups; teardown = f.teardown; sessions = map session_tree f.sessions; perms = perms })))
