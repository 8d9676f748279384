-- What holds of every spec.
use Rattle.std.proofs.Common.{◌≡◌, ◌≤◌, ◌<◌, ◌+◌, ◌-◌, ◌⊎◌, inl, inr, arith, length, ℕ, zero, suc, List, [], ◌∷◌, ◌++◌, get_or, map, refl, sym, ap, subst, ◌∙◌, length-append}
use Rattle.std.specs.Prelude.{Contains, flat_map, option_to_list}
use Rattle.std.specs.List.{AllByRecursion, AllZip, range_with_len}
use Rattle.std.proofs.lemmas.List.{length-map}
use Rattle.std.proofs.lemmas.List.Elements.{Contains-append_cases}
use Rattle.iso_lexer.specs.declared.token.At.{At}
use Rattle.iso_lexer.specs.SpecTokens.{SpecToken}
use Rattle.iso_lexer.specs.SpecSpelling.{LiesAt}
use Rattle.spec_parser.specs.declared.tree.Marker.{Marker}
use Rattle.spec_parser.specs.declared.tree.Marker.TheVariants as markers
use Rattle.spec_parser.specs.Trees.{PartTree, SessionTree, EntryTree, SpecTree, NameAt, StepOf, SessionOf, MarkerTree, star, named, NamedEntry, FileTree}
use Rattle.spec_parser.specs.Counts.{Counts, start}
use Rattle.spec_parser.specs.Grammar.{Grammar, Many, none, more, perm, file}
use Rattle.spec_parser.specs.Grammar.{session as session_grammar}
use Rattle.spec_parser.specs.Names.{StepAt, session_tree}
use Rattle.spec_parser.specs.Inner.Known.{step_tree, steps_from, sessions_from}
use Rattle.spec_parser.specs.IsSpec.{IsShort, NamesStep, MarkerIs, EntryIs, PermIs, IsSpec}
use Rattle.spec_parser.specs.Stands.{StepStands, MarkerStands, EntryStands, PermStands, session_parts, parts_of, all_names, PartLies, NameLies, Stands, LiesIn}
use Rattle.spec_parser.proofs.ContentsAreCounted.{file_has, steps_len}
use Rattle.spec_parser.proofs.Limits.{all_from, all_to}

nothing_in : {A : Type 0} (x : A) → Contains [] x → ⊥
nothing_in x (k, lt, e) = omega (arith, lt)

in_cons : {A : Type 0} (x y : A) (ys : List A) → Contains (y ∷ ys) x → (y ≡ x) ⊎ Contains ys x
in_cons x y ys (zero, lt, e) = inl e
in_cons x y ys (suc k, lt, e) = inr (k, omega (arith, lt), e)

-- ---- numbers of steps

record NumberedStep (k j : ℕ) (ss : List (StepOf NameAt)) (s : StepAt) : Type 0 where
  session_is : s.session ≡ k
  from : j ≤ s.step
  to : s.step < j + length ss

step_case : (k j : ℕ) (x : StepOf NameAt) (ss : List (StepOf NameAt)) (s : StepAt) → (Contains (steps_from k (j + 1) ss) s → NumberedStep k (j + 1) ss s) → (record { name = x.name; session = k; step = j } ≡ s) ⊎ Contains (steps_from k (j + 1) ss) s → NumberedStep k j (x ∷ ss) s
step_case k j x ss s later (inl e) = let at = ap (λ (t : StepAt). t.step) e in record { session_is = sym (ap (λ (t : StepAt). t.session) e); from = omega (arith, at); to = omega (arith, at) }
step_case k j x ss s later (inr h) = let m = later h in record { session_is = m.session_is; from = omega (arith, m.from); to = omega (arith, m.to) }

step_numbers : (k j : ℕ) (ss : List (StepOf NameAt)) (s : StepAt) → Contains (steps_from k j ss) s → NumberedStep k j ss s
step_numbers k j [] s h = absurd (nothing_in s h)
step_numbers k j (x ∷ ss) s h = step_case k j x ss s (step_numbers k (j + 1) ss s) (in_cons s _ (steps_from k (j + 1) ss) h)

record NumberedSession (k : ℕ) (fs : List (SessionOf NameAt)) (s : StepAt) : Type 0 where
  place : ℕ
  within : place < length fs
  session_is : s.session ≡ k + place
  step_is : (d : SessionTree) → s.step < length (get_or (map session_tree fs) place d).steps

session_case : (k : ℕ) (x : SessionOf NameAt) (fs : List (SessionOf NameAt)) (s : StepAt) → (Contains (sessions_from (k + 1) fs) s → NumberedSession (k + 1) fs s) → Contains (steps_from k 0 x.steps) s ⊎ Contains (sessions_from (k + 1) fs) s → NumberedSession k (x ∷ fs) s
session_case k x fs s later (inl h) =
    let m = step_numbers k 0 x.steps s h in
    record { place = 0; within = omega arith; session_is = omega (arith, m.session_is); step_is = λ d. omega (arith, m.to, length-map x.steps step_tree) }
session_case k x fs s later (inr h) =
    let m = later h in
    record { place = suc m.place; within = omega (arith, m.within); session_is = omega (arith, m.session_is); step_is = λ d. m.step_is d }

session_numbers : (k : ℕ) (fs : List (SessionOf NameAt)) (s : StepAt) → Contains (sessions_from k fs) s → NumberedSession k fs s
session_numbers k [] s h = absurd (nothing_in s h)
session_numbers k (x ∷ fs) s h = session_case k x fs s (session_numbers (k + 1) fs s) (Contains-append_cases (steps_from k 0 x.steps) (sessions_from (k + 1) fs) s h)

-- what a name stands for is there
named_stands : (fs : List (SessionOf NameAt)) (n : NameAt) (k j : ℕ) → NamesStep (sessions_from 1 fs) n k j → StepStands (map session_tree fs) k j
named_stands fs n k j h =
    let m = session_numbers 1 fs h.step h.listed in
    let place : k - 1 ≡ m.place = omega (arith, h.session_is, m.session_is) in
    record {
      from_one = omega (arith, h.session_is, m.session_is);
      session = omega (arith, h.session_is, m.session_is, m.within, length-map fs session_tree);
      step = λ d. subst (λ i. j < length (get_or (map session_tree fs) i d).steps) (sym place) (subst (λ i. i < length (get_or (map session_tree fs) m.place d).steps) h.step_is (m.step_is d));
    }

marker_stands : (fs : List (SessionOf NameAt)) (t : MarkerTree) (m : Marker) → MarkerIs (sessions_from 1 fs) t m → MarkerStands (map session_tree fs) m
marker_stands fs star markers.Star h = tt
marker_stands fs star (markers.Step k j) h = absurd h
marker_stands fs (named n) markers.Star h = absurd h
marker_stands fs (named n) (markers.Step k j) h = named_stands fs n k j h

zip_all : {A B : Type 0} (R : A → B → Type 0) (P : B → Type 0) → ((x : A) (y : B) → R x y → P y) → (xs : List A) (ys : List B) → AllZip R xs ys → AllByRecursion P ys
zip_all R P each [] [] h = tt
zip_all R P each [] (y ∷ ys) h = absurd h
zip_all R P each (x ∷ xs) [] h = absurd h
zip_all R P each (x ∷ xs) (y ∷ ys) (r, h) = (each x y r, zip_all R P each xs ys h)

zip_long : {A B : Type 0} (R : A → B → Type 0) (xs : List A) (ys : List B) → AllZip R xs ys → length ys ≡ length xs
zip_long R [] [] h = refl
zip_long R [] (y ∷ ys) h = absurd h
zip_long R (x ∷ xs) [] h = absurd h
zip_long R (x ∷ xs) (y ∷ ys) (r, h) = omega (arith, zip_long R xs ys h)

entry_stands : (fs : List (SessionOf NameAt)) (e : NamedEntry) (x : EntryTree) → EntryIs (sessions_from 1 fs) e x → EntryStands (map session_tree fs) x
entry_stands fs e x h = record {
  step = named_stands fs e.name x.session x.step h.step;
  markers = all_from (MarkerStands (map session_tree fs)) x.markers (zip_all (MarkerIs (sessions_from 1 fs)) (MarkerStands (map session_tree fs)) (marker_stands fs) e.markers x.markers h.markers);
}

perm_stands : (fs : List (SessionOf NameAt)) (es : List NamedEntry) (xs : List EntryTree) → IsShort es → 0 < length es → PermIs (sessions_from 1 fs) es xs → PermStands (map session_tree fs) xs
perm_stands fs es xs short lt h =
    let same = zip_long (EntryIs (sessions_from 1 fs)) es xs h in
    record {
      some = omega (arith, same, lt);
      few = omega (arith, same, short);
      each = all_from (EntryStands (map session_tree fs)) xs (zip_all (EntryIs (sessions_from 1 fs)) (EntryStands (map session_tree fs)) (entry_stands fs) es xs h);
    }

perms_stand : (fs : List (SessionOf NameAt)) (ps : List (List NamedEntry)) (xs : List (List EntryTree)) → AllByRecursion IsShort ps → AllByRecursion (λ es. 0 < length es) ps → AllZip (PermIs (sessions_from 1 fs)) ps xs → AllByRecursion (PermStands (map session_tree fs)) xs
perms_stand fs [] [] short lt h = tt
perms_stand fs [] (x ∷ xs) short lt h = absurd h
perms_stand fs (p ∷ ps) [] short lt h = absurd h
perms_stand fs (p ∷ ps) (x ∷ xs) (s, short) (l, lt) (r, h) = (perm_stands fs p x s l r, perms_stand fs ps xs short lt h)

-- ---- what the grammar says of counts

many_all : {A : Type 0} (G : Grammar A) (P : A → Type 0) → ((c : Counts) (ts : List (At SpecToken)) (x : A) → G c ts x → P x) → (c : Counts) (ts : List (At SpecToken)) (xs : List A) → Many G c ts xs → AllByRecursion P xs
many_all G P each c ts all none = tt
many_all G P each c ts all (more {x = x} {others = os} xs ys e m others) = (each c xs x m, many_all G P each _ ys os others)

abbrev HasSteps : SessionOf NameAt → Type 0
HasSteps s = 0 < length s.steps

session_some : (c : Counts) (ts : List (At SpecToken)) (z : SessionOf NameAt) → session_grammar c ts z → HasSteps z
session_some c ts z (u, xs, ys, e, w, (n, us, vs, d, nm, (o, ws, zs, f, mo, (ss, ps, qs, g, st, (t, rs, os, h, mt, (nil, is)))))) = subst HasSteps (sym is) st.1

perm_some : (c : Counts) (ts : List (At SpecToken)) (es : List NamedEntry) → perm c ts es → 0 < length es
perm_some c ts es (u, xs, ys, e, w, h) = h.1

record FileCounts (f : FileTree) : Type 0 where
  sessions : 0 < length f.sessions
  steps : AllByRecursion HasSteps f.sessions
  entries : AllByRecursion (λ (es : List NamedEntry). 0 < length es) f.perms

file_counts : (c : Counts) (ts : List (At SpecToken)) (z : FileTree) → file c ts z → FileCounts z
file_counts c ts z (ps, xs, ys, e, m, (t, us, vs, d, mt, (ss, ws, zs, f, ms, (es, qs, rs, g, mp, (nil, is))))) =
    subst FileCounts (sym is) (record { sessions = ms.1; steps = many_all session_grammar HasSteps session_some _ ws ss ms.0; entries = many_all perm (λ (es : List NamedEntry). 0 < length es) perm_some _ qs es mp })

trees_have_steps : (fs : List (SessionOf NameAt)) → AllByRecursion HasSteps fs → AllByRecursion (λ (x : SessionTree). 0 < length x.steps) (map session_tree fs)
trees_have_steps [] h = tt
trees_have_steps (x ∷ fs) (lt, h) = (omega (arith, lt, length-map x.steps step_tree), trees_have_steps fs h)

step_count : (k : ℕ) (fs : List (SessionOf NameAt)) → length (flat_map (λ (x : SessionTree). x.steps) (map session_tree fs)) ≡ length (sessions_from k fs)
step_count k [] = refl
step_count k (x ∷ fs) =
    omega (arith, length-append (map step_tree x.steps) (flat_map (λ (y : SessionTree). y.steps) (map session_tree fs)), length-append (steps_from k 0 x.steps) (sessions_from (k + 1) fs), steps_len k 0 x.steps, length-map x.steps step_tree, step_count (k + 1) fs)

-- ---- the whole

abbrev file_parts : FileTree → List PartTree
file_parts f = f.setups ++ (option_to_list f.teardown ++ flat_map session_parts (map session_tree f.sessions))

parts_are : (text : List ℕ) (s : SpecTree) (h : IsSpec text s) → parts_of s ≡ file_parts h.file
parts_are text s h = λ i. h.setups i ++ (option_to_list (h.teardown i) ++ flat_map session_parts (h.sessions i))

pub specs_stand : (text : List ℕ) (s : SpecTree) → IsSpec text s → Stands s
specs_stand text s h =
    let f = h.file in
    let counts = file_counts start h.tokens f h.grammar in
    let m = file_has start h.tokens f h.grammar in
    let is = h.sessions in
    let len : length s.sessions ≡ length f.sessions = ap (λ (l : List SessionTree). length l) is ∙ length-map f.sessions session_tree in
    record {
      some_sessions = omega (arith, len, counts.sessions);
      few_sessions = omega (arith, len, h.limits.sessions);
      some_steps = all_from (λ (x : SessionTree). 0 < length x.steps) s.sessions (subst (AllByRecursion (λ (x : SessionTree). 0 < length x.steps)) (sym is) (trees_have_steps f.sessions counts.steps));
      few_steps = omega (arith, ap (λ (l : List SessionTree). length (flat_map (λ (x : SessionTree). x.steps) l)) is, step_count 1 f.sessions, h.limits.steps);
      perms = all_from (PermStands s.sessions) s.perms (subst (λ (l : List SessionTree). AllByRecursion (PermStands l) s.perms) (sym is) (perms_stand f.sessions f.perms s.perms (all_to IsShort f.perms h.limits.entries) counts.entries h.perms));
      numbered = subst (λ (ps : List PartTree). map (λ (p : PartTree). p.block) ps ≡ range_with_len 0 (length ps)) (sym (parts_are text s h)) m.numbered;
    }

pub specs_lie : (text : List ℕ) (s : SpecTree) (h : IsSpec text s) → AllByRecursion (LiesAt text) h.tokens → LiesIn text s
specs_lie text s h lies =
    let m = file_has start h.tokens h.file h.grammar in
    record {
      spec = h;
      parts = all_from (PartLies text) (parts_of s) (subst (AllByRecursion (PartLies text)) (sym (parts_are text s h)) (m.parts_lie text lies));
      names = all_from (NameLies text) (all_names h.file) (m.names_lie text lies);
    }
