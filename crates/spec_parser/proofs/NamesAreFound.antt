-- Looking names up finds what the names stand for, or the first that stands for nothing.
use Rattle.std.proofs.Common.{◌≡◌, ◌<◌, ◌+◌, arith, length, ℕ, zero, suc, Bool, true, false, cond, List, [], ◌∷◌, ◌++◌, get_or, Option, Some, None, Result, Ok, Err, refl, sym, ap, subst, ◌∙◌, append_assoc, length-append}
use Rattle.std.specs.Prelude.{All, Contains, find, flat_map, ok_or, option_map}
use Rattle.std.specs.Option.{is_some}
use Rattle.std.specs.List.{AllZip}
use Rattle.std.proofs.lemmas.List.{append-nil, get_or_append_left, get_or-append-add}
use Rattle.std.proofs.lemmas.List.Quantifiers.{all_pairs_push}
use Rattle.std.proofs.lemmas.Option.{same_Some}
use Rattle.std.proofs.lemmas.Slice.Eq.{bytes_eq-Decides}
use Rattle.iso_lexer.specs.Names.{decoded}
use Rattle.spec_parser.specs.declared.tree.Marker.{Marker}
use Rattle.spec_parser.specs.declared.tree.Marker.TheVariants as markers
use Rattle.spec_parser.specs.declared.fault.SpecFault.{SpecFault}
use Rattle.spec_parser.specs.declared.fault.SpecFault.TheVariants.{UndefinedStep, UndefinedMarker}
use Rattle.spec_parser.specs.Trees.{EntryTree, NameAt, MarkerTree, star, named, NamedEntry}
use Rattle.iso_lexer.specs.Results.{if_ok, each}
use Rattle.spec_parser.specs.Names.{StepAt, is_named, known_marker, known_entry}
use Rattle.spec_parser.specs.Inner.Known.{first_repeat, known_perms}
use Rattle.spec_parser.specs.IsSpec.{SameName, HasOtherName, NamesDiffer, NamesStep, MarkerIs, EntryIs, PermIs}
use Rattle.spec_parser.specs.NameFaults.{IsFirstRepeat, Mention, by_entry, by_marker, mentioned, of_marker, of_entry, mentions, IsDefined, undefined_at, IsFirstUndefined}

none_some : {A : Type 0} (x : A) → ◌≡◌ {A = Option A} None (Some x) → ⊥
none_some x e = cc

true_false : ◌≡◌ {A = Bool} true false → ⊥
true_false e = cc

ok_err : {A E : Type 0} (x : A) (f : E) → ◌≡◌ {A = Result A E} (Ok x) (Err f) → ⊥
ok_err x f e = cc

ok_same : {A E : Type 0} (x y : A) → ◌≡◌ {A = Result A E} (Ok x) (Ok y) → x ≡ y
ok_same x y e = cc

err_same : {A E : Type 0} (f g : E) → ◌≡◌ {A = Result A E} (Err f) (Err g) → f ≡ g
err_same f g e = cc

-- ---- finding

head_of : {A : Type 0} (x : A) (xs : List A) → Contains (x ∷ xs) x
head_of x xs = (0, omega arith, refl)

later_of : {A : Type 0} (x y : A) (xs : List A) → Contains xs x → Contains (y ∷ xs) x
later_of x y xs (k, lt, e) = (suc k, omega arith, e)

found_by : {A : Type 0} (p : A → Bool) (b : Bool) (y : A) (ys : List A) (x : A) → p y ≡ b → cond b (Some y) (find p ys) ≡ Some x → (find p ys ≡ Some x → Contains ys x × (p x ≡ true)) → Contains (y ∷ ys) x × (p x ≡ true)
found_by p true y ys x is e later = let same = same_Some y x e in (subst (λ z. Contains (y ∷ ys) z) same (head_of y ys), ap p (sym same) ∙ is)
found_by p false y ys x is e later = let h = later e in (later_of x y ys h.0, h.1)

-- what is found is there, and passes
pub found : {A : Type 0} (p : A → Bool) (xs : List A) (x : A) → find p xs ≡ Some x → Contains xs x × (p x ≡ true)
found p [] x e = absurd (none_some x e)
found p (y ∷ ys) x e = found_by p (p y) y ys x refl e (found p ys x)

skip_head : {A : Type 0} (p : A → Bool) (b : Bool) (y : A) (ys : List A) → p y ≡ b → cond b (Some y) (find p ys) ≡ None → (p y ≡ false) × (find p ys ≡ None)
skip_head p true y ys is e = absurd (none_some y (sym e))
skip_head p false y ys is e = (is, e)

-- where nothing is found, nothing passes
pub none_found : {A : Type 0} (p : A → Bool) (xs : List A) → find p xs ≡ None → All (λ x. p x ≡ false) xs
none_found p [] e k d lt = absurd (omega arith)
none_found p (y ∷ ys) e zero d lt = (skip_head p (p y) y ys refl e).0
none_found p (y ∷ ys) e (suc k) d lt = none_found p ys (skip_head p (p y) y ys refl e).1 k d (omega arith)

pub nothing_passes : {A : Type 0} (p : A → Bool) (xs : List A) (x : A) → find p xs ≡ None → Contains xs x → p x ≡ true → ⊥
nothing_passes p xs x e (k, lt, is) passes = true_false (sym passes ∙ ap p (sym is) ∙ none_found p xs e k x lt)

-- the first that passes is found
found_at : {A : Type 0} (p : A → Bool) (xs : List A) (k : ℕ) (x : A) → k < length xs → get_or xs k x ≡ x → p x ≡ true → ((j : ℕ) → j < k → p (get_or xs j x) ≡ false) → find p xs ≡ Some x
found_at p [] k x lt is passes before = absurd (omega arith)
found_at p (y ∷ ys) zero x lt is passes before = let yes : p y ≡ true = ap p is ∙ passes in rw yes (ap Some is)
found_at p (y ∷ ys) (suc k) x lt is passes before = let no : p y ≡ false = before 0 (omega arith) in rw no (found_at p ys k x (omega arith) is passes (λ j l. before (suc j) (omega arith)))

-- ---- names

pub named_is : (n : NameAt) (s : StepAt) → is_named n.name s ≡ true → SameName s.name n
named_is n s e = (bytes_eq-Decides (decoded s.name.name) (decoded n.name)).0 e

pub is_name : (n : NameAt) (s : StepAt) → SameName s.name n → is_named n.name s ≡ true
is_name n s e = (bytes_eq-Decides (decoded s.name.name) (decoded n.name)).1 e

not_true : (b : Bool) → (b ≡ true → ⊥) → b ≡ false
not_true true h = absurd (h refl)
not_true false h = refl

-- where names differ, a name finds its one step
pub finds : (steps : List StepAt) (n : NameAt) (s : StepAt) → NamesDiffer steps → Contains steps s → SameName s.name n → find (is_named n.name) steps ≡ Some s
finds steps n s differ (k, lt, is) same = found_at (is_named n.name) steps k s lt is (is_name n s same)
    (λ j l. not_true (is_named n.name (get_or steps j s)) (λ yes. differ j k s l lt (named_is n (get_or steps j s) yes ∙ sym (ap (λ (t : StepAt). decoded t.name.name) is ∙ same))))

is_some_by : (o : Option StepAt) → is_some o ≡ true → (s : StepAt) × (o ≡ Some s)
is_some_by (Some s) e = (s, refl)
is_some_by None e = absurd (true_false (sym e))

is_none_by : (o : Option StepAt) → is_some o ≡ false → o ≡ None
is_none_by (Some s) e = absurd (true_false e)
is_none_by None e = refl

-- ---- step names that differ

-- one more, whose name none has
one_more : (steps : List StepAt) (s : StepAt) → NamesDiffer steps → find (is_named s.name.name) steps ≡ None → NamesDiffer (steps ++ s ∷ [])
one_more steps s differ e = all_pairs_push HasOtherName steps s differ (λ k d lt same. true_false (sym (is_name s.name (get_or steps k d) same) ∙ none_found (is_named s.name.name) steps e k d lt))

regrouped : (before : List StepAt) (s : StepAt) (ss : List StepAt) → (before ++ s ∷ []) ++ ss ≡ before ++ s ∷ ss
regrouped before s ss = append_assoc before (s ∷ []) ss

-- a step whose name no earlier one has
fresh : (before : List StepAt) (s : StepAt) (ss : List StepAt) → NamesDiffer (before ++ s ∷ ss) → find (is_named s.name.name) before ≡ None
fresh before s ss differ = is_none_by (find (is_named s.name.name) before) (not_true (is_some (find (is_named s.name.name) before)) (λ yes.
    let f = is_some_by (find (is_named s.name.name) before) yes in
    let h = found (is_named s.name.name) before f.0 f.1 in
    let k = h.0.0 in
    let at_k : get_or (before ++ s ∷ ss) k f.0 ≡ f.0 = get_or_append_left before (s ∷ ss) f.0 k h.0.1 ∙ h.0.2 in
    let end : length before + 0 ≡ length before = omega arith in
    let at_end : get_or (before ++ s ∷ ss) (length before) f.0 ≡ s = ap (λ n. get_or (before ++ s ∷ ss) n f.0) (sym end) ∙ get_or-append-add before (s ∷ ss) 0 f.0 in
    differ k (length before) f.0 h.0.1 (omega (arith, length-append before (s ∷ ss))) (ap (λ (t : StepAt). decoded t.name.name) at_k ∙ named_is s.name f.0 h.1 ∙ sym (ap (λ (t : StepAt). decoded t.name.name) at_end))))

differ_case : (b : Bool) (before : List StepAt) (s : StepAt) (ss : List StepAt) → is_some (find (is_named s.name.name) before) ≡ b → cond b (Some s.name.at) (first_repeat (before ++ s ∷ []) ss) ≡ None → NamesDiffer before
    → (NamesDiffer (before ++ s ∷ []) → first_repeat (before ++ s ∷ []) ss ≡ None → NamesDiffer ((before ++ s ∷ []) ++ ss)) → NamesDiffer (before ++ s ∷ ss)
differ_case true before s ss is e differ later = absurd (none_some s.name.at (sym e))
differ_case false before s ss is e differ later = subst NamesDiffer (regrouped before s ss) (later (one_more before s differ (is_none_by (find (is_named s.name.name) before) is)) e)

differ_from : (before ss : List StepAt) → first_repeat before ss ≡ None → NamesDiffer before → NamesDiffer (before ++ ss)
differ_from before [] e differ = subst NamesDiffer (sym (append-nil before)) differ
differ_from before (s ∷ ss) e differ = differ_case (is_some (find (is_named s.name.name) before)) before s ss refl e differ (λ more later. differ_from (before ++ s ∷ []) ss later more)

no_pairs : NamesDiffer []
no_pairs i j d lt len = absurd (omega arith)

-- no name stands again: all differ
pub names_differ : (steps : List StepAt) → first_repeat [] steps ≡ None → NamesDiffer steps
names_differ steps e = differ_from [] steps e no_pairs

no_repeat_from : (before ss : List StepAt) → NamesDiffer (before ++ ss) → first_repeat before ss ≡ None
no_repeat_from before [] differ = refl
no_repeat_from before (s ∷ ss) differ = rw (fresh before s ss differ) (no_repeat_from (before ++ s ∷ []) ss (subst NamesDiffer (sym (regrouped before s ss)) differ))

pub no_repeat : (steps : List StepAt) → NamesDiffer steps → first_repeat [] steps ≡ None
no_repeat steps differ = no_repeat_from [] steps differ

repeat_case : (b : Bool) (before : List StepAt) (s : StepAt) (ss : List StepAt) (at : ℕ) → is_some (find (is_named s.name.name) before) ≡ b → cond b (Some s.name.at) (first_repeat (before ++ s ∷ []) ss) ≡ Some at → NamesDiffer before
    → (NamesDiffer (before ++ s ∷ []) → first_repeat (before ++ s ∷ []) ss ≡ Some at → IsFirstRepeat ((before ++ s ∷ []) ++ ss) at) → IsFirstRepeat (before ++ s ∷ ss) at
repeat_case true before s ss at is e differ later =
    let f = is_some_by (find (is_named s.name.name) before) is in
    let h = found (is_named s.name.name) before f.0 f.1 in
    record { front = before; step = s; back = ss; split = refl; differ = differ; earlier = f.0; listed = h.0; same = named_is s.name f.0 h.1; place = sym (same_Some s.name.at at e) }
repeat_case false before s ss at is e differ later = subst (λ (steps : List StepAt). IsFirstRepeat steps at) (regrouped before s ss) (later (one_more before s differ (is_none_by (find (is_named s.name.name) before) is)) e)

repeat_from : (before ss : List StepAt) (at : ℕ) → NamesDiffer before → first_repeat before ss ≡ Some at → IsFirstRepeat (before ++ ss) at
repeat_from before [] at differ e = absurd (none_some at e)
repeat_from before (s ∷ ss) at differ e = repeat_case (is_some (find (is_named s.name.name) before)) before s ss at refl e differ (λ more later. repeat_from (before ++ s ∷ []) ss at more later)

pub repeats_first : (steps : List StepAt) (at : ℕ) → first_repeat [] steps ≡ Some at → IsFirstRepeat steps at
repeats_first steps at e = repeat_from [] steps at no_pairs e

is_found : (o : Option StepAt) → (o ≡ None → ⊥) → is_some o ≡ true
is_found (Some s) h = refl
is_found None h = absurd (h refl)

first_from : (before front : List StepAt) (s : StepAt) (back : List StepAt) (x : StepAt) → NamesDiffer (before ++ front) → Contains (before ++ front) x → SameName x.name s.name → first_repeat before (front ++ s ∷ back) ≡ Some s.name.at
first_from before [] s back x differ listed same =
    let yes : is_some (find (is_named s.name.name) before) ≡ true = is_found (find (is_named s.name.name) before) (λ no. nothing_passes (is_named s.name.name) before x no (subst (λ (l : List StepAt). Contains l x) (append-nil before) listed) (is_name s.name x same)) in
    rw yes refl
first_from before (t ∷ front) s back x differ listed same =
    rw (fresh before t front differ) (first_from (before ++ t ∷ []) front s back x (subst NamesDiffer (sym (regrouped before t front)) differ) (subst (λ (l : List StepAt). Contains l x) (sym (regrouped before t front)) listed) same)

pub first_repeats : (steps : List StepAt) (at : ℕ) → IsFirstRepeat steps at → first_repeat [] steps ≡ Some at
first_repeats steps at h = ap (first_repeat []) h.split ∙ first_from [] h.front h.step h.back h.earlier h.differ h.listed h.same ∙ ap Some (sym h.place)

-- ---- what is found is meant

each_by : {B : Type 0} (r : Result B SpecFault) (q : Result (List B) SpecFault) (ys : List B) → (if_ok r (λ y. if_ok q (λ zs. Ok (y ∷ zs)))) ≡ Ok ys → (y : B) × (zs : List B) × (r ≡ Ok y) × (q ≡ Ok zs) × (ys ≡ y ∷ zs)
each_by (Ok y) (Ok zs) ys e = (y, zs, refl, refl, sym (ok_same (y ∷ zs) ys e))
each_by (Ok y) (Err f) ys e = absurd (ok_err ys f (sym e))
each_by (Err f) q ys e = absurd (ok_err ys f (sym e))

each_is : {A B : Type 0} (f : A → Result B SpecFault) (R : A → B → Type 0) → ((x : A) (y : B) → f x ≡ Ok y → R x y) → (xs : List A) (ys : List B) → each f xs ≡ Ok ys → AllZip R xs ys
each_is f R is [] ys e = subst (AllZip R []) (ok_same [] ys e) tt
each_is f R is (x ∷ xs) ys e =
    let h = each_by (f x) (each f xs) ys e in
    subst (AllZip R (x ∷ xs)) (sym h.4) (is x h.0 h.2, each_is f R is xs h.1 h.3)

each_ok : {A B : Type 0} (f : A → Result B SpecFault) (R : A → B → Type 0) → ((x : A) (y : B) → R x y → f x ≡ Ok y) → (xs : List A) (ys : List B) → AllZip R xs ys → each f xs ≡ Ok ys
each_ok f R ok [] [] h = refl
each_ok f R ok [] (y ∷ ys) h = absurd h
each_ok f R ok (x ∷ xs) [] h = absurd h
each_ok f R ok (x ∷ xs) (y ∷ ys) (r, h) = rw (ok x y r, each_ok f R ok xs ys h) refl

abbrev marker_of : NameAt → Option StepAt → Result Marker SpecFault
marker_of n o = ok_or (option_map (λ s. markers.Step s.session s.step) o) (UndefinedMarker n.at)

abbrev step_of : NameAt → Option StepAt → Result StepAt SpecFault
step_of n o = ok_or o (UndefinedStep n.at)

names_found : (known : List StepAt) (n : NameAt) (s : StepAt) → find (is_named n.name) known ≡ Some s → NamesStep known n s.session s.step
names_found known n s e = let h = found (is_named n.name) known s e in record { step = s; listed = h.0; same = named_is n s h.1; session_is = refl; step_is = refl }

marker_by : (known : List StepAt) (n : NameAt) (o : Option StepAt) (m : Marker) → find (is_named n.name) known ≡ o → marker_of n o ≡ Ok m → MarkerIs known (named n) m
marker_by known n (Some s) m is e = subst (MarkerIs known (named n)) (ok_same (markers.Step s.session s.step) m e) (names_found known n s is)
marker_by known n None m is e = absurd (ok_err m (UndefinedMarker n.at) (sym e))

marker_is : (known : List StepAt) (t : MarkerTree) (m : Marker) → known_marker known t ≡ Ok m → MarkerIs known t m
marker_is known star m e = subst (MarkerIs known star) (ok_same markers.Star m e) tt
marker_is known (named n) m e = marker_by known n (find (is_named n.name) known) m refl e

entry_by : (known : List StepAt) (e : NamedEntry) (o : Option StepAt) (r : Result (List Marker) SpecFault) (x : EntryTree) → find (is_named e.name.name) known ≡ o → each (known_marker known) e.markers ≡ r → (if_ok (step_of e.name o) (λ s. if_ok r (λ ms. Ok (record { session = s.session; step = s.step; markers = ms })))) ≡ Ok x → EntryIs known e x
entry_by known e (Some s) (Ok ms) x is ms_are h = subst (EntryIs known e) (ok_same _ x h) (record { step = names_found known e.name s is; markers = each_is (known_marker known) (MarkerIs known) (marker_is known) e.markers ms ms_are })
entry_by known e (Some s) (Err f) x is ms_are h = absurd (ok_err x f (sym h))
entry_by known e None r x is ms_are h = absurd (ok_err x (UndefinedStep e.name.at) (sym h))

entry_is : (known : List StepAt) (e : NamedEntry) (x : EntryTree) → known_entry known e ≡ Ok x → EntryIs known e x
entry_is known e x h = entry_by known e (find (is_named e.name.name) known) (each (known_marker known) e.markers) x refl refl h

pub perms_are : (known : List StepAt) (ps : List (List NamedEntry)) (xs : List (List EntryTree)) → known_perms known ps ≡ Ok xs → AllZip (PermIs known) ps xs
perms_are known ps xs h = each_is (each (known_entry known)) (PermIs known) (λ es ys e. each_is (known_entry known) (EntryIs known) (entry_is known) es ys e) ps xs h

-- ---- what is meant is found

marker_ok : (known : List StepAt) → NamesDiffer known → (t : MarkerTree) (m : Marker) → MarkerIs known t m → known_marker known t ≡ Ok m
marker_ok known differ star markers.Star h = refl
marker_ok known differ star (markers.Step k j) h = absurd h
marker_ok known differ (named n) markers.Star h = absurd h
marker_ok known differ (named n) (markers.Step k j) h = ap (marker_of n) (finds known n h.step differ h.listed h.same) ∙ (λ i. Ok (markers.Step (h.session_is i) (h.step_is i)))

entry_ok : (known : List StepAt) → NamesDiffer known → (e : NamedEntry) (x : EntryTree) → EntryIs known e x → known_entry known e ≡ Ok x
entry_ok known differ e x h =
    rw (finds known e.name h.step.step differ h.step.listed h.step.same, each_ok (known_marker known) (MarkerIs known) (marker_ok known differ) e.markers x.markers h.markers)
    (λ i. Ok (record { session = h.step.session_is i; step = h.step.step_is i; markers = x.markers }))

pub perms_ok : (known : List StepAt) → NamesDiffer known → (ps : List (List NamedEntry)) (xs : List (List EntryTree)) → AllZip (PermIs known) ps xs → known_perms known ps ≡ Ok xs
perms_ok known differ ps xs h = each_ok (each (known_entry known)) (PermIs known) (λ es ys k. each_ok (known_entry known) (EntryIs known) (entry_ok known differ) es ys k) ps xs h

-- ---- the first that stands for nothing

abbrev err_of : {B : Type 0} → Result B SpecFault → Option SpecFault
err_of (Ok y) = None
err_of (Err f) = Some f

abbrev or_else : Option SpecFault → Option SpecFault → Option SpecFault
or_else (Some f) o = Some f
or_else None o = o

abbrev check_by : Mention → Option StepAt → Option SpecFault
check_by m (Some s) = None
check_by m None = Some (undefined_at m)

abbrev check : List StepAt → Mention → Option SpecFault
check known m = check_by m (find (is_named (mentioned m).name) known)

abbrev first_of : List StepAt → List Mention → Option SpecFault
first_of known [] = None
first_of known (m ∷ ms) = or_else (check known m) (first_of known ms)

or_assoc : (a b c : Option SpecFault) → or_else a (or_else b c) ≡ or_else (or_else a b) c
or_assoc (Some f) b c = refl
or_assoc None b c = refl

first_append : (known : List StepAt) (ms ns : List Mention) → first_of known (ms ++ ns) ≡ or_else (first_of known ms) (first_of known ns)
first_append known [] ns = refl
first_append known (m ∷ ms) ns = ap (or_else (check known m)) (first_append known ms ns) ∙ or_assoc (check known m) (first_of known ms) (first_of known ns)

err_bind : {A : Type 0} (r : Result A SpecFault) (q : Result (List A) SpecFault) → err_of {B = List A} (if_ok r (λ y. if_ok q (λ zs. Ok (y ∷ zs)))) ≡ or_else (err_of r) (err_of q)
err_bind (Ok y) (Ok zs) = refl
err_bind (Ok y) (Err f) = refl
err_bind (Err f) q = refl

err_each : {A B : Type 0} (known : List StepAt) (f : A → Result B SpecFault) (g : A → List Mention) → ((x : A) → err_of (f x) ≡ first_of known (g x)) → (xs : List A) → err_of (each f xs) ≡ first_of known (flat_map g xs)
err_each known f g is [] = refl
err_each known f g is (x ∷ xs) = err_bind (f x) (each f xs) ∙ (λ i. or_else (is x i) (err_each known f g is xs i)) ∙ sym (first_append known (g x) (flat_map g xs))

err_marker_by : (n : NameAt) (o : Option StepAt) → err_of (marker_of n o) ≡ or_else (check_by (by_marker n) o) None
err_marker_by n (Some s) = refl
err_marker_by n None = refl

err_marker : (known : List StepAt) (t : MarkerTree) → err_of (known_marker known t) ≡ first_of known (of_marker t)
err_marker known star = refl
err_marker known (named n) = err_marker_by n (find (is_named n.name) known)

err_entry_by : (e : NamedEntry) (o : Option StepAt) (r : Result (List Marker) SpecFault) → err_of {B = EntryTree} (if_ok (step_of e.name o) (λ s. if_ok r (λ ms. Ok (record { session = s.session; step = s.step; markers = ms })))) ≡ or_else (check_by (by_entry e.name) o) (err_of r)
err_entry_by e (Some s) (Ok ms) = refl
err_entry_by e (Some s) (Err f) = refl
err_entry_by e None r = refl

err_entry : (known : List StepAt) (e : NamedEntry) → err_of (known_entry known e) ≡ first_of known (of_entry e)
err_entry known e = err_entry_by e (find (is_named e.name.name) known) (each (known_marker known) e.markers) ∙ ap (or_else (check known (by_entry e.name))) (err_each known (known_marker known) of_marker (err_marker known) e.markers)

err_perms : (known : List StepAt) (ps : List (List NamedEntry)) → err_of (known_perms known ps) ≡ first_of known (mentions ps)
err_perms known ps = err_each known (each (known_entry known)) (flat_map of_entry) (λ es. err_each known (known_entry known) of_entry (err_entry known) es) ps

defined_found : (known : List StepAt) (n : NameAt) → IsDefined known n → find (is_named n.name) known ≡ None → ⊥
defined_found known n h e = nothing_passes (is_named n.name) known h.step e h.listed (is_name n h.step h.same)

all_more : {A : Type 0} (P : A → Type 0) (x : A) (xs : List A) → P x → All P xs → All P (x ∷ xs)
all_more P x xs p h zero d lt = p
all_more P x xs p h (suc k) d lt = h k d (omega arith)

undefined_case : (known : List StepAt) (m : Mention) (ms : List Mention) (o : Option StepAt) (f : SpecFault) → find (is_named (mentioned m).name) known ≡ o → or_else (check_by m o) (first_of known ms) ≡ Some f → (first_of known ms ≡ Some f → IsFirstUndefined known ms f) → IsFirstUndefined known (m ∷ ms) f
undefined_case known m ms None f is e later = record { front = []; first = m; back = ms; split = refl; defined = λ k d lt. absurd (omega arith); undefined = λ h. defined_found known (mentioned m) h is; fault = sym (same_Some (undefined_at m) f e) }
undefined_case known m ms (Some s) f is e later =
    let h = later e in
    let here = found (is_named (mentioned m).name) known s is in
    record {
      front = m ∷ h.front;
      first = h.first;
      back = h.back;
      split = ap (λ (l : List Mention). m ∷ l) h.split;
      undefined = h.undefined;
      fault = h.fault;
      defined = all_more (λ x. IsDefined known (mentioned x)) m h.front (record { step = s; listed = here.0; same = named_is (mentioned m) s here.1 }) h.defined;
    }

undefined_from : (known : List StepAt) (ms : List Mention) (f : SpecFault) → first_of known ms ≡ Some f → IsFirstUndefined known ms f
undefined_from known [] f e = absurd (none_some f e)
undefined_from known (m ∷ ms) f e = undefined_case known m ms (find (is_named (mentioned m).name) known) f refl e (undefined_from known ms f)

pub undefined_first : (known : List StepAt) (ps : List (List NamedEntry)) (f : SpecFault) → known_perms known ps ≡ Err f → IsFirstUndefined known (mentions ps) f
undefined_first known ps f e = undefined_from known (mentions ps) f (sym (err_perms known ps) ∙ ap err_of e)

check_none : (m : Mention) (o : Option StepAt) → (o ≡ None → ⊥) → check_by m o ≡ None
check_none m (Some s) h = refl
check_none m None h = absurd (h refl)

check_some : (known : List StepAt) (m : Mention) (o : Option StepAt) → find (is_named (mentioned m).name) known ≡ o → (IsDefined known (mentioned m) → ⊥) → check_by m o ≡ Some (undefined_at m)
check_some known m (Some s) is h = let here = found (is_named (mentioned m).name) known s is in absurd (h (record { step = s; listed = here.0; same = named_is (mentioned m) s here.1 }))
check_some known m None is h = refl

first_is : (known : List StepAt) (front : List Mention) (m : Mention) (back : List Mention) → All (λ x. IsDefined known (mentioned x)) front → (IsDefined known (mentioned m) → ⊥) → first_of known (front ++ m ∷ back) ≡ Some (undefined_at m)
first_is known [] m back defined h = rw (check_some known m (find (is_named (mentioned m).name) known) refl h) refl
first_is known (x ∷ front) m back defined h =
    rw (check_none x (find (is_named (mentioned x).name) known) (defined_found known (mentioned x) (defined 0 x (omega arith))))
    (first_is known front m back (λ k d lt. defined (suc k) d (omega arith)) h)

err_is : {B : Type 0} (r : Result B SpecFault) (f : SpecFault) → err_of r ≡ Some f → r ≡ Err f
err_is (Ok y) f e = absurd (none_some f e)
err_is (Err g) f e = ap Err (same_Some g f e)

pub first_undefined : (known : List StepAt) (ps : List (List NamedEntry)) (f : SpecFault) → IsFirstUndefined known (mentions ps) f → known_perms known ps ≡ Err f
first_undefined known ps f h = err_is (known_perms known ps) f (err_perms known ps ∙ ap (first_of known) h.split ∙ first_is known h.front h.first h.back h.defined h.undefined ∙ ap Some (sym h.fault))
