-- What a piece of the grammar has: its blocks, the names of its sessions and steps, and how many of these it counts.
use Rattle.std.proofs.Common.{◌≡◌, ◌≤◌, ◌+◌, ◌-◌, arith, length, ℕ, zero, suc, List, [], ◌∷◌, ◌++◌, map, Some, refl, sym, ap, subst, ◌∙◌, append_assoc, length-append, length-drop, take, drop}
use Rattle.std.specs.Prelude.{slice_range, flat_map, option_to_list}
use Rattle.std.specs.List.{AllByRecursion, range_with_len, prefix_len, suffix_len}
use Rattle.std.proofs.lemmas.List.{append-nil, map-append, drop-drop, take-append-le, drop-append-le, take-append-drop, length-take-le}
use Rattle.std.proofs.lemmas.List.Folds.{length-prefix_len}
use Rattle.std.proofs.lemmas.List.Sums.{prefix_len-le-length}
use Rattle.std.proofs.lemmas.Option.{same_Some}
use Rattle.iso_lexer.specs.declared.token.At.{At}
use Rattle.iso_lexer.specs.declared.token.Span.{Span}
use Rattle.iso_lexer.specs.declared.spec_token.Keyword.{Keyword}
use Rattle.iso_lexer.specs.declared.spec_token.Keyword.TheVariants.{Permutation, Session, Setup, Step, Teardown}
use Rattle.iso_lexer.specs.declared.spec_token.Sign.TheVariants.{Open, Close, Comma, Star}
use Rattle.iso_lexer.specs.declared.runs.Run.TheVariants.{Blanks}
use Rattle.iso_lexer.specs.Bytes.{is_blank}
use Rattle.iso_lexer.specs.Inner.Runs.{passes as passes_run, run_of, trimmed}
use Rattle.iso_lexer.specs.SpecTokens.{SpecToken, keyword, name, digits, sign, block}
use Rattle.iso_lexer.specs.SpecText.{block_token}
use Rattle.iso_lexer.specs.SpecSpelling.{NameSpells, Spells, LiesAt}
use Rattle.spec_parser.specs.Trees.{PartTree, StepTree, NameAt, StepOf, SessionOf, star, named, FileTree}
use Rattle.spec_parser.specs.Counts.{Counts, past, past_token}
use Rattle.spec_parser.specs.Grammar.{a_name, a_block, Grammar, gives, one, a_word, a_sign, Maybe, left_out, given, Many, none, more, some, first, second, block_behind, step, session, marker, markers, entry, perm, file}
use Rattle.spec_parser.specs.Grammar.{◌>>=◌ as ◌▸◌}
use Rattle.spec_parser.specs.Names.{session_tree}
use Rattle.spec_parser.specs.Inner.Known.{step_tree, steps_from, sessions_from}
use Rattle.spec_parser.specs.Stands.{PartLies, NameLies, session_parts, session_names}
use Rattle.spec_parser.proofs.Local.{past_twice}
use Rattle.spec_parser.proofs.Tokens.{past_one, word_past, sign_past, name_past}

-- ---- lists

range_zero : (a : ℕ) → a + 0 ≡ a
range_zero a = omega arith

pub range_split : (a m n : ℕ) → range_with_len a (m + n) ≡ range_with_len a m ++ range_with_len (a + m) n
range_split a zero n = let none : 0 + n ≡ n = omega arith in let here : a + 0 ≡ a = omega arith in rw (none, here) refl
range_split a (suc m) n =
    let one : suc m + n ≡ suc (m + n) = omega arith in
    let next : a + suc m ≡ (a + 1) + m = omega arith in
    ap (range_with_len a) one ∙ ap (λ (ks : List ℕ). a ∷ ks) (range_split (a + 1) m n) ∙ ap (λ k. a ∷ (range_with_len (a + 1) m ++ range_with_len k n)) (sym next)

pub split_all : {A : Type 0} (P : A → Type 0) (xs ys : List A) → AllByRecursion P (xs ++ ys) → AllByRecursion P xs × AllByRecursion P ys
split_all P [] ys h = (tt, h)
split_all P (x ∷ xs) ys (p, h) = let both = split_all P xs ys h in ((p, both.0), both.1)

pub join_all : {A : Type 0} (P : A → Type 0) (xs ys : List A) → AllByRecursion P xs → AllByRecursion P ys → AllByRecursion P (xs ++ ys)
join_all P [] ys h k = k
join_all P (x ∷ xs) ys (p, h) k = (p, join_all P xs ys h k)

-- ---- contents

pub record Contents : Type 0 where
  pub parts : List PartTree
  pub names : List NameAt
  pub sessions : ℕ
  pub steps : ℕ

abbrev pub nothing : Contents
nothing = record { parts = []; names = []; sessions = 0; steps = 0 }

abbrev pub joined : Contents → Contents → Contents
joined g h = record { parts = g.parts ++ h.parts; names = g.names ++ h.names; sessions = g.sessions + h.sessions; steps = g.steps + h.steps }

abbrev numbers : List PartTree → List ℕ
numbers ps = map (λ (p : PartTree). p.block) ps

-- these tokens have this, behind what is counted, and then the other is
pub record Holds (c d : Counts) (ts : List (At SpecToken)) (g : Contents) : Type 0 where
  pub blocks : d.blocks ≡ c.blocks + length g.parts
  pub sessions : d.sessions ≡ c.sessions + g.sessions
  pub steps : d.steps ≡ c.steps + g.steps
  pub numbered : numbers g.parts ≡ range_with_len c.blocks (length g.parts)
  pub parts_lie : (text : List ℕ) → AllByRecursion (LiesAt text) ts → AllByRecursion (PartLies text) g.parts
  pub names_lie : (text : List ℕ) → AllByRecursion (LiesAt text) ts → AllByRecursion (NameLies text) g.names

moves_then : (c d e : Counts) (ts xs ys : List (At SpecToken)) (g h : Contents) → ts ≡ xs ++ ys → Holds c d xs g → Holds d e ys h → Holds c e ts (joined g h)
moves_then c d e ts xs ys g h split m n = record {
  blocks = omega (arith, m.blocks, n.blocks, length-append g.parts h.parts);
  sessions = omega (arith, m.sessions, n.sessions);
  steps = omega (arith, m.steps, n.steps);
  numbered =
      let second : numbers h.parts ≡ range_with_len (c.blocks + length g.parts) (length h.parts) = n.numbered ∙ ap (λ k. range_with_len k (length h.parts)) m.blocks in
      map-append (λ (p : PartTree). p.block) g.parts h.parts ∙ (λ i. m.numbered i ++ second i) ∙ sym (range_split c.blocks (length g.parts) (length h.parts)) ∙ ap (range_with_len c.blocks) (sym (length-append g.parts h.parts));
  parts_lie = λ text all. let both = split_all (LiesAt text) xs ys (subst (AllByRecursion (LiesAt text)) split all) in join_all (PartLies text) g.parts h.parts (m.parts_lie text both.0) (n.parts_lie text both.1);
  names_lie = λ text all. let both = split_all (LiesAt text) xs ys (subst (AllByRecursion (LiesAt text)) split all) in join_all (NameLies text) g.names h.names (m.names_lie text both.0) (n.names_lie text both.1);
}

pub then_has : (c : Counts) (ts xs ys : List (At SpecToken)) (g h : Contents) → ts ≡ xs ++ ys → Holds c (past c xs) xs g → Holds (past c xs) (past (past c xs) ys) ys h → Holds c (past c ts) ts (joined g h)
then_has c ts xs ys g h e m n =
    subst (λ d. Holds c d ts (joined g h)) (sym (past_twice c xs ys) ∙ ap (past c) (sym e)) (moves_then c (past c xs) (past (past c xs) ys) ts xs ys g h e m n)

-- the same contents, in other words
pub like : (c d : Counts) (ts : List (At SpecToken)) (g : Contents) (ps : List PartTree) (ns : List NameAt) (k j : ℕ) → Holds c d ts g → g.parts ≡ ps → g.names ≡ ns → g.sessions ≡ k → g.steps ≡ j → Holds c d ts (record { parts = ps; names = ns; sessions = k; steps = j })
like c d ts g ps ns k j m p n s t = subst (Holds c d ts) (λ i. record { parts = p i; names = n i; sessions = s i; steps = t i }) m

pub quiet : (c : Counts) (ts : List (At SpecToken)) → Holds c c ts nothing
quiet c ts = record { blocks = omega arith; sessions = omega arith; steps = omega arith; numbered = refl; parts_lie = λ text all. tt; names_lie = λ text all. tt }

-- ---- one token

word_has : (k : Keyword) (c : Counts) (ts : List (At SpecToken)) (u : Unit {0}) (g : Contents) → one (a_word k) c ts u → Holds c (past_token (keyword k) c) ts g → Holds c (past c ts) ts g
word_has k c ts u g h m = subst (λ d. Holds c d ts g) (sym (word_past k c ts u h)) m

abbrev pub a_session : Contents
a_session = record { parts = []; names = []; sessions = 1; steps = 0 }

abbrev pub a_step : Contents
a_step = record { parts = []; names = []; sessions = 0; steps = 1 }

pub session_word : (c : Counts) (ts : List (At SpecToken)) (u : Unit {0}) → one (a_word Session) c ts u → Holds c (past c ts) ts a_session
session_word c ts u h = word_has Session c ts u a_session h (record { blocks = omega arith; sessions = omega arith; steps = omega arith; numbered = refl; parts_lie = λ text all. tt; names_lie = λ text all. tt })

pub step_word : (c : Counts) (ts : List (At SpecToken)) (u : Unit {0}) → one (a_word Step) c ts u → Holds c (past c ts) ts a_step
step_word c ts u h = word_has Step c ts u a_step h (record { blocks = omega arith; sessions = omega arith; steps = omega arith; numbered = refl; parts_lie = λ text all. tt; names_lie = λ text all. tt })

-- a name, where it is that of a session or step
abbrev only_name : NameAt → Contents
only_name n = record { parts = []; names = n ∷ []; sessions = 0; steps = 0 }

named_is : (text : List ℕ) (c : Counts) (tok : SpecToken) (span : Span) (n : NameAt) → a_name c (record { tok = tok; span = span }) ≡ Some n → Spells tok (slice_range text span.start span.end) → NameSpells n.name (slice_range text n.at span.end)
named_is text c (name m) span n e h = subst (λ (k : NameAt). NameSpells k.name (slice_range text k.at span.end)) (same_Some _ _ e) h
named_is text c (keyword k) span n e h = absurd cc
named_is text c (digits d) span n e h = absurd cc
named_is text c (sign g) span n e h = absurd cc
named_is text c (block k b) span n e h = absurd cc

name_has : (c : Counts) (ts : List (At SpecToken)) (n : NameAt) → one a_name c ts n → Holds c (past c ts) ts (only_name n)
name_has c ts n (t, e, is) =
    subst (λ d. Holds c d ts (only_name n)) (sym (name_past c ts n (t, e, is))) (record {
      blocks = omega arith;
      sessions = omega arith;
      steps = omega arith;
      numbered = refl;
      parts_lie = λ text all. tt;
      names_lie = λ text all. let lies = (subst (AllByRecursion (LiesAt text)) e all).0 in (record { end = t.span.end; within = lies.0; slice = named_is text c t.tok t.span n is lies.1 }, tt);
    })

-- ---- a block lies where it says

trim_slice : (inner : List ℕ) → (length (run_of Blanks inner) + length (trimmed inner) ≤ length inner) × (take (length (trimmed inner)) (drop (length (run_of Blanks inner)) inner) ≡ trimmed inner)
trim_slice inner =
    let n = prefix_len (passes_run Blanks) inner in
    let rest = drop n inner in
    let m = length rest - suffix_len is_blank rest in
    let len : length (trimmed inner) ≡ m = length-take-le m rest (omega arith) in
    let front : length (run_of Blanks inner) ≡ n = length-prefix_len (passes_run Blanks) inner in
    (omega (arith, len, front, length-drop n inner, prefix_len-le-length (passes_run Blanks) inner), (λ i. take (len i) (drop (front i) inner)))

cut_inside : (text inner rest b : List ℕ) (start n : ℕ) → drop start text ≡ 123 ∷ (inner ++ (125 ∷ rest)) → n + length b ≤ length inner → take (length b) (drop n inner) ≡ b → slice_range text (start + 1 + n) (start + 1 + n + length b) ≡ b
cut_inside text inner rest b start n e le is =
    let width : start + 1 + n + length b - (start + 1 + n) ≡ length b = omega arith in
    let place : start + 1 + n ≡ start + suc n = omega arith in
    let at : drop (start + 1 + n) text ≡ drop n (inner ++ (125 ∷ rest)) = ap (λ k. drop k text) place ∙ sym (drop-drop (suc n) start text) ∙ ap (drop (suc n)) e in
    let inside : drop n (inner ++ (125 ∷ rest)) ≡ drop n inner ++ (125 ∷ rest) = drop-append-le n inner (125 ∷ rest) (omega (arith, le)) in
    (λ i. take (width i) ((at ∙ inside) i)) ∙ take-append-le (length b) (drop n inner) (125 ∷ rest) (omega (arith, le, length-drop n inner)) ∙ is

opened : (text inner : List ℕ) (start end : ℕ) → slice_range text start end ≡ 123 ∷ (inner ++ 125 ∷ []) → drop start text ≡ 123 ∷ (inner ++ (125 ∷ drop (end - start) (drop start text)))
opened text inner start end e =
    let rest = drop (end - start) (drop start text) in
    sym (take-append-drop (end - start) (drop start text)) ∙ ap (λ s. s ++ rest) e ∙ ap (λ s. 123 ∷ s) (append_assoc inner (125 ∷ []) rest)

block_lies : (text inner b : List ℕ) (start end n k : ℕ) → slice_range text start end ≡ 123 ∷ (inner ++ 125 ∷ []) → block n b ≡ block_token inner → PartLies text (record { sql = b; at = start + 1 + n; block = k })
block_lies text inner b start end n k e is =
    let same_n : n ≡ length (run_of Blanks inner) = cc in
    let same_b : b ≡ trimmed inner = cc in
    let trim = trim_slice inner in
    let le : n + length b ≤ length inner = rw (same_n, same_b) trim.0 in
    let cut : take (length b) (drop n inner) ≡ b = rw (same_n, same_b) trim.1 in
    let rest = drop (end - start) (drop start text) in
    let open_at = opened text inner start end e in
    record {
      within = omega (arith, le, ap length open_at, length-drop start text, length-append inner (125 ∷ rest));
      slice = cut_inside text inner rest b start n open_at le cut;
    }

block_is : (c : Counts) (tok : SpecToken) (span : Span) (p : PartTree) → a_block c (record { tok = tok; span = span }) ≡ Some p → (n : ℕ) × (b : List ℕ) × (tok ≡ block n b) × (p ≡ record { sql = b; at = span.start + 1 + n; block = c.blocks })
block_is c (block n b) span p e = (n, b, refl, sym (same_Some _ _ e))
block_is c (keyword k) span p e = absurd cc
block_is c (name m) span p e = absurd cc
block_is c (digits d) span p e = absurd cc
block_is c (sign g) span p e = absurd cc

token_lies : (text inner b : List ℕ) (start end n k : ℕ) → Spells (block n b) (slice_range text start end) → PartLies text (record { sql = b; at = start + 1 + n; block = k })
token_lies text _ b start end n k (inner, e, is) = block_lies text inner b start end n k e is

abbrev pub only_parts : List PartTree → Contents
only_parts ps = record { parts = ps; names = []; sessions = 0; steps = 0 }

block_has : (c : Counts) (ts : List (At SpecToken)) (p : PartTree) → one a_block c ts p → Holds c (past c ts) ts (only_parts (p ∷ []))
block_has c ts p (t, e, is) =
    let k = block_is c t.tok t.span p is in
    subst (λ d. Holds c d ts (only_parts (p ∷ []))) (sym (past_one c ts t (block k.0 k.1) e k.2)) (record {
      blocks = omega arith;
      sessions = omega arith;
      steps = omega arith;
      numbered = ap (λ (q : PartTree). q.block ∷ []) k.3;
      parts_lie = λ text all.
          let lies = (subst (AllByRecursion (LiesAt text)) e all).0 in
          (subst (PartLies text) (sym k.3) (token_lies text [] k.1 t.span.start t.span.end k.0 c.blocks (subst (λ u. Spells u (slice_range text t.span.start t.span.end)) k.2 lies.1)), tt);
      names_lie = λ text all. tt;
    })

-- ---- several

nil_has : (c : Counts) (ts : List (At SpecToken)) → ts ≡ [] → Holds c (past c ts) ts nothing
nil_has c ts e = subst (λ us. Holds c (past c us) us nothing) (sym e) (quiet c [])

abbrev pub all_contents : {A : Type 0} → (A → Contents) → List A → Contents
all_contents g [] = nothing
all_contents g (x ∷ xs) = joined (g x) (all_contents g xs)

abbrev pub Has : {A : Type 0} → Grammar A → (A → Contents) → Type 0
Has {A} G g = (c : Counts) (ts : List (At SpecToken)) (x : A) → G c ts x → Holds c (past c ts) ts (g x)

many_has : {A : Type 0} (G : Grammar A) (g : A → Contents) → Has G g → (c : Counts) (ts : List (At SpecToken)) (xs : List A) → Many G c ts xs → Holds c (past c ts) ts (all_contents g xs)
many_has G g has c ts all none = quiet c []
many_has G g has c ts all (more {x = x} {others = os} xs ys e m others) = then_has c ts xs ys (g x) (all_contents g os) e (has c xs x m) (many_has G g has (past c xs) ys os others)

pub maybe_has : (G : Grammar PartTree) → Has G (λ p. only_parts (p ∷ [])) → Has (Maybe G) (λ o. only_parts (option_to_list o))
maybe_has G has c ts o left_out = quiet c []
maybe_has G has c ts o (given {x = x} g) = has c ts x g

-- ---- productions

pub setup_has : Has (block_behind Setup) (λ p. only_parts (p ∷ []))
setup_has c ts p (u, xs, ys, e, w, b) = then_has c ts xs ys nothing (only_parts (p ∷ [])) e (word_has Setup c xs u nothing w (quiet c xs)) (block_has (past c xs) ys p b)

pub teardown_has : Has (block_behind Teardown) (λ p. only_parts (p ∷ []))
teardown_has c ts p (u, xs, ys, e, w, b) = then_has c ts xs ys nothing (only_parts (p ∷ [])) e (word_has Teardown c xs u nothing w (quiet c xs)) (block_has (past c xs) ys p b)

abbrev pub step_contents : StepOf NameAt → Contents
step_contents s = record { parts = s.part ∷ []; names = s.name ∷ []; sessions = 0; steps = 1 }

pub step_has : Has step step_contents
step_has c ts z (u, xs, ys, e, w, (n, us, vs, d, nm, (b, ws, zs, f, bl, (nil, is)))) =
    let block_on = then_has (past (past c xs) us) vs ws zs (only_parts (b ∷ [])) nothing f (block_has (past (past c xs) us) ws b bl) (nil_has (past (past (past c xs) us) ws) zs nil) in
    let name_on = then_has (past c xs) ys us vs (only_name n) (only_parts (b ∷ [])) d (name_has (past c xs) us n nm) block_on in
    subst (λ (s : StepOf NameAt). Holds c (past c ts) ts (step_contents s)) (sym is) (then_has c ts xs ys a_step _ e (step_word c xs u w) name_on)

steps_parts : (ss : List (StepOf NameAt)) → (all_contents step_contents ss).parts ≡ map (λ (x : StepTree). x.part) (map step_tree ss)
steps_parts [] = refl
steps_parts (s ∷ ss) = ap (λ ps. s.part ∷ ps) (steps_parts ss)

steps_names : (ss : List (StepOf NameAt)) → (all_contents step_contents ss).names ≡ map (λ (x : StepOf NameAt). x.name) ss
steps_names [] = refl
steps_names (s ∷ ss) = ap (λ ns. s.name ∷ ns) (steps_names ss)

steps_none : (ss : List (StepOf NameAt)) → (all_contents step_contents ss).sessions ≡ 0
steps_none [] = refl
steps_none (s ∷ ss) = omega (arith, steps_none ss)

steps_count : (ss : List (StepOf NameAt)) → (all_contents step_contents ss).steps ≡ length ss
steps_count [] = refl
steps_count (s ∷ ss) = omega (arith, steps_count ss)

abbrev steps_contents : List (StepOf NameAt) → Contents
steps_contents ss = record { parts = map (λ (x : StepTree). x.part) (map step_tree ss); names = map (λ (x : StepOf NameAt). x.name) ss; sessions = 0; steps = length ss }

steps_have : (c : Counts) (ts : List (At SpecToken)) (ss : List (StepOf NameAt)) → Many step c ts ss → Holds c (past c ts) ts (steps_contents ss)
steps_have c ts ss m = like c (past c ts) ts (all_contents step_contents ss) _ _ _ _ (many_has step step_contents step_has c ts ss m) (steps_parts ss) (steps_names ss) (steps_none ss) (steps_count ss)

abbrev pub session_contents : SessionOf NameAt → Contents
session_contents s = record { parts = session_parts (session_tree s); names = session_names s; sessions = 1; steps = length s.steps }

pub session_has : Has session session_contents
session_has c ts z (u, xs, ys, e, w, (n, us, vs, d, nm, (o, ws, zs, f, mo, (ss, ps, qs, g, st, (t, rs, os, h, mt, (nil, is)))))) =
    let c1 = past c xs in
    let c2 = past c1 us in
    let c3 = past c2 ws in
    let c4 = past c3 ps in
    let teardown_on = then_has c4 qs rs os (only_parts (option_to_list t)) nothing h (maybe_has (block_behind Teardown) teardown_has c4 rs t mt) (nil_has (past c4 rs) os nil) in
    let steps_on = then_has c3 zs ps qs (steps_contents ss) _ g (steps_have c3 ps ss st.0) teardown_on in
    let setup_on = then_has c2 vs ws zs (only_parts (option_to_list o)) _ f (maybe_has (block_behind Setup) setup_has c2 ws o mo) steps_on in
    let name_on = then_has c1 ys us vs (only_name n) _ d (name_has c1 us n nm) setup_on in
    let whole = then_has c ts xs ys a_session _ e (session_word c xs u w) name_on in
    let s : SessionOf NameAt = record { name = n; setup = o; steps = ss; teardown = t } in
    subst (λ (s : SessionOf NameAt). Holds c (past c ts) ts (session_contents s)) (sym is) (like c (past c ts) ts _ (session_parts (session_tree s)) (session_names s) 1 (length ss) whole
    (ap (λ l. option_to_list o ++ (map (λ (x : StepTree). x.part) (map step_tree ss) ++ l)) (append-nil (option_to_list t)))
    (ap (λ l. n ∷ l) (append-nil (map (λ (x : StepOf NameAt). x.name) ss)))
    refl
    (omega arith))

sessions_parts : (ss : List (SessionOf NameAt)) → (all_contents session_contents ss).parts ≡ flat_map session_parts (map session_tree ss)
sessions_parts [] = refl
sessions_parts (s ∷ ss) = ap (λ ps. session_parts (session_tree s) ++ ps) (sessions_parts ss)

sessions_names : (ss : List (SessionOf NameAt)) → (all_contents session_contents ss).names ≡ flat_map session_names ss
sessions_names [] = refl
sessions_names (s ∷ ss) = ap (λ ns. session_names s ++ ns) (sessions_names ss)

sessions_count : (ss : List (SessionOf NameAt)) → (all_contents session_contents ss).sessions ≡ length ss
sessions_count [] = refl
sessions_count (s ∷ ss) = omega (arith, sessions_count ss)

pub steps_len : (k j : ℕ) (ss : List (StepOf NameAt)) → length (steps_from k j ss) ≡ length ss
steps_len k j [] = refl
steps_len k j (s ∷ ss) = omega (arith, steps_len k (j + 1) ss)

sessions_steps : (k : ℕ) (ss : List (SessionOf NameAt)) → (all_contents session_contents ss).steps ≡ length (sessions_from k ss)
sessions_steps k [] = refl
sessions_steps k (s ∷ ss) = omega (arith, steps_len k 0 s.steps, sessions_steps (k + 1) ss, length-append (steps_from k 0 s.steps) (sessions_from (k + 1) ss))

abbrev sessions_contents : List (SessionOf NameAt) → Contents
sessions_contents ss = record { parts = flat_map session_parts (map session_tree ss); names = flat_map session_names ss; sessions = length ss; steps = length (sessions_from 1 ss) }

sessions_have : (c : Counts) (ts : List (At SpecToken)) (ss : List (SessionOf NameAt)) → Many session c ts ss → Holds c (past c ts) ts (sessions_contents ss)
sessions_have c ts ss m = like c (past c ts) ts (all_contents session_contents ss) _ _ _ _ (many_has session session_contents session_has c ts ss m) (sessions_parts ss) (sessions_names ss) (sessions_count ss) (sessions_steps 1 ss)

setups_parts : (ps : List PartTree) → (all_contents (λ p. only_parts (p ∷ [])) ps).parts ≡ ps
setups_parts [] = refl
setups_parts (p ∷ ps) = ap (λ qs. p ∷ qs) (setups_parts ps)

setups_names : (ps : List PartTree) → (all_contents (λ p. only_parts (p ∷ [])) ps).names ≡ []
setups_names [] = refl
setups_names (p ∷ ps) = setups_names ps

setups_sessions : (ps : List PartTree) → (all_contents (λ p. only_parts (p ∷ [])) ps).sessions ≡ 0
setups_sessions [] = refl
setups_sessions (p ∷ ps) = omega (arith, setups_sessions ps)

setups_steps : (ps : List PartTree) → (all_contents (λ p. only_parts (p ∷ [])) ps).steps ≡ 0
setups_steps [] = refl
setups_steps (p ∷ ps) = omega (arith, setups_steps ps)

pub setups_have : (c : Counts) (ts : List (At SpecToken)) (ps : List PartTree) → Many (block_behind Setup) c ts ps → Holds c (past c ts) ts (only_parts ps)
setups_have c ts ps m = like c (past c ts) ts (all_contents (λ p. only_parts (p ∷ [])) ps) ps [] 0 0 (many_has (block_behind Setup) (λ p. only_parts (p ∷ [])) setup_has c ts ps m) (setups_parts ps) (setups_names ps) (setups_sessions ps) (setups_steps ps)

-- ---- permutations count nothing

abbrev pub Quiet : {A : Type 0} → Grammar A → Type 0
Quiet {A} G = (c : Counts) (ts : List (At SpecToken)) (x : A) → G c ts x → past c ts ≡ c

seq_quiet : {A B : Type 0} (G : Grammar A) (H : A → Grammar B) → Quiet G → ((x : A) → Quiet (H x)) → Quiet (G ▸ H)
seq_quiet G H g h c ts z (x, xs, ys, e, m, n) = ap (past c) e ∙ past_twice c xs ys ∙ h x (past c xs) ys z n ∙ g c xs x m

gives_quiet : {A : Type 0} (v : A) → Quiet (gives v)
gives_quiet v c ts x (nil, is) = ap (past c) nil

maybe_quiet : {A : Type 0} (G : Grammar A) → Quiet G → Quiet (Maybe G)
maybe_quiet G q c ts o left_out = refl
maybe_quiet G q c ts o (given {x = x} g) = q c ts x g

many_quiet : {A : Type 0} (G : Grammar A) → Quiet G → Quiet (Many G)
many_quiet G q c ts all none = refl
many_quiet G q c ts all (more {x = x} {others = os} xs ys e m others) = ap (past c) e ∙ past_twice c xs ys ∙ many_quiet G q (past c xs) ys os others ∙ q c xs x m

marker_quiet : Quiet marker
marker_quiet c ts x (first h) = seq_quiet (one (a_sign Star)) (λ _. gives star) (sign_past Star) (λ _. gives_quiet star) c ts x h
marker_quiet c ts x (second h) = seq_quiet (one a_name) (λ n. gives (named n)) name_past (λ n. gives_quiet (named n)) c ts x h

markers_quiet : Quiet markers
markers_quiet = seq_quiet (one (a_sign Open)) _ (sign_past Open) (λ _. seq_quiet marker _ marker_quiet (λ m. seq_quiet (Many (one (a_sign Comma) ▸ λ _. marker)) _
    (many_quiet (one (a_sign Comma) ▸ λ _. marker) (seq_quiet (one (a_sign Comma)) (λ _. marker) (sign_past Comma) (λ _. marker_quiet)))
    (λ others. seq_quiet (one (a_sign Close)) (λ _. gives (m ∷ others)) (sign_past Close) (λ _. gives_quiet (m ∷ others)))))

entry_quiet : Quiet entry
entry_quiet = seq_quiet (one a_name) _ name_past (λ n. seq_quiet (Maybe markers) _ (maybe_quiet markers markers_quiet) (λ ms. gives_quiet _))

word_quiet : Quiet (one (a_word Permutation))
word_quiet c ts u h = word_past Permutation c ts u h

perm_quiet : Quiet perm
perm_quiet = seq_quiet (one (a_word Permutation)) (λ _. some entry) word_quiet (λ _ c ts es h. many_quiet entry entry_quiet c ts es h.0)

pub perms_quiet : Quiet (Many perm)
perms_quiet = many_quiet perm perm_quiet

-- ---- the file

abbrev pub file_contents : FileTree → Contents
file_contents f = record {
  parts = f.setups ++ (option_to_list f.teardown ++ flat_map session_parts (map session_tree f.sessions));
  names = flat_map session_names f.sessions;
  sessions = length f.sessions;
  steps = length (sessions_from 1 f.sessions);
}

pub file_has : Has file file_contents
file_has c ts z (ps, xs, ys, e, m, (t, us, vs, d, mt, (ss, ws, zs, f, ms, (es, qs, rs, g, mp, (nil, is))))) =
    let c1 = past c xs in
    let c2 = past c1 us in
    let c3 = past c2 ws in
    let perms_on : Holds c3 (past c3 zs) zs nothing = then_has c3 zs qs rs nothing nothing g (subst (λ k. Holds c3 k qs nothing) (sym (perms_quiet c3 qs es mp)) (quiet c3 qs)) (nil_has (past c3 qs) rs nil) in
    let sessions_on = then_has c2 vs ws zs (sessions_contents ss) nothing f (sessions_have c2 ws ss ms.0) perms_on in
    let teardown_on = then_has c1 ys us vs (only_parts (option_to_list t)) _ d (maybe_has (block_behind Teardown) teardown_has c1 us t mt) sessions_on in
    let whole = then_has c ts xs ys (only_parts ps) _ e (setups_have c xs ps m) teardown_on in
    let file_is : FileTree = record { setups = ps; teardown = t; sessions = ss; perms = es } in
    subst (λ (s : FileTree). Holds c (past c ts) ts (file_contents s)) (sym is) (like c (past c ts) ts _ (file_contents file_is).parts (file_contents file_is).names (length ss) (length (sessions_from 1 ss)) whole
    (ap (λ l. ps ++ (option_to_list t ++ l)) (append-nil (flat_map session_parts (map session_tree ss))))
    (append-nil (flat_map session_names ss))
    (omega arith)
    (omega arith))
