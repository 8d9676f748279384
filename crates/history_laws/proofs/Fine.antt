-- Reading never answers want of memory: words of reading, and expressions.
use Rattle.std.proofs.Common.{◌≢◌, Bool, true, false, ℕ, zero, suc, max, List, [], ◌∷◌, length}
use Rattle.std.specs.Prelude.{Option, Some, None, Result, Ok, Err, ok_or, option_map, IfSome, nat_lt, find, fold, if◌then◌else◌}
use Rattle.std.specs.Option.{option_map_or}
use Rattle.std.specs.List.{AllByRecursion}
use Rattle.iso_lexer.specs.declared.limits.TheConstants.{MAX_DEPTH}
use Rattle.iso_lexer.specs.Bytes.{row_of}
use Rattle.iso_lexer.specs.Results.{if_ok}
use Rattle.sql_trees.specs.declared.fault.SqlFault.{SqlFault}
use Rattle.sql_trees.specs.declared.fault.SqlFault.TheVariants.{Memory, Syntax, LeftOut, TooDeep}
use Rattle.iso_lexer.specs.declared.sql_token.SqlSign.TheVariants as signs
use Rattle.sql_trees.specs.declared.word.Word.{Word}
use Rattle.sql_trees.specs.declared.word.Word.TheVariants as words
use Rattle.sql_trees.specs.declared.expr.Operator.{Operator}
use Rattle.sql_trees.specs.Tokens.{Token, Tokens, named}
use Rattle.sql_trees.specs.Trees.{Tree, Plus, Not, Is, In, Between}
use Rattle.sql_expressions.specs.declared.level.Chain.{Chain}
use Rattle.sql_expressions.specs.declared.level.Opened.{Opened}
use Rattle.sql_expressions.specs.declared.level.Opened.TheVariants.{Whole, Negation, Unary}
use Rattle.sql_expressions.specs.Build.{negated}
use Rattle.sql_expressions.specs.Readers.{Reader, ◌>>=◌, ◌>>◌, is_word, is_sign, place_of, gives, made, after, either, by_first, one_at, more_at, items_at, misplaced, expect, keyword, closed, name_at, left_out}
use Rattle.sql_expressions.specs.Reading.{Part, trees_in, truth_of, literal_of, shallow, node, chain_more, chain, column_at, within_opening, una_at, cat_at, in_at, between_at, test_of, inn_at, cmp_at, is_at, not_at, or_at, inside, expr_at}

-- an answer that is no want of memory
abbrev pub Fine : {A : Type 0} → Result A SqlFault → Type 0
Fine (Ok x) = Unit {0}
Fine (Err f) = f ≢ Memory

-- whatever the tokens are, what is read of them is none
pub record IsFine {A : Type 0} (read : Tokens → Result A SqlFault) : Type 0 where
  pub at : (ts : Tokens) → Fine (read ts)

-- ---- words of reading

pub fine_if : {A B : Type 0} (r : Result A SqlFault) (f : A → Result B SqlFault) → Fine r → ((x : A) → Fine (f x)) → Fine (if_ok r f)
fine_if (Ok x) f h k = k x
fine_if (Err e) f h k = h

pub fine_then : {A B : Type 0} {r : Reader A} {k : A → Reader B} → IsFine r → ((x : A) → IsFine (k x)) → IsFine (r >>= k)
fine_then {r = r} {k = k} h j = record { at = λ ts. fine_if (r ts) (λ x. k x.0 x.1) (h.at ts) (λ x. (j x.0).at x.1) }

pub fine_pass : {A : Type 0} {pass : Tokens → Result Tokens SqlFault} {r : Reader A} → IsFine pass → IsFine r → IsFine (pass >> r)
fine_pass {pass = pass} {r = r} h j = record { at = λ ts. fine_if (pass ts) r (h.at ts) j.at }

pub fine_gives : {A : Type 0} (x : A) → IsFine (gives {A = A} x)
fine_gives x = record { at = λ ts. tt }

pub fine_made : {A B : Type 0} {r : Reader A} (make : A → B) → IsFine r → IsFine (made make r)
fine_made {r = r} make h = record { at = λ ts. fine_if (r ts) (λ x. Ok (make x.0, x.1)) (h.at ts) (λ x. tt) }

pub fine_option : {X A : Type 0} (o : Option X) (behind : X → Result A SqlFault) (other : Result A SqlFault) → ((x : X) → Fine (behind x)) → Fine other → Fine (option_map_or behind o other)
fine_option None behind other h k = k
fine_option (Some x) behind other h k = h x

pub fine_either : {A : Type 0} {behind others : Tokens → Result A SqlFault} (p : Token → Bool) → IsFine behind → IsFine others → IsFine (either p behind others)
fine_either {behind = behind} {others = others} p h k = record { at = λ ts. fine_option (after p ts) behind (others ts) h.at (k.at ts) }

-- what is so of each value that the first token may say
abbrev pub Says : {X : Type 0} → (Token → Option X) → (X → Type 0) → Type 0
Says says P = (t : Token) → IfSome (says t) P

by_said : {X A : Type 0} (P : X → Type 0) (o : Option X) (behind : X → Result A SqlFault) (other : Result A SqlFault) → IfSome o P → ((x : X) → P x → Fine (behind x)) → Fine other → Fine (option_map_or behind o other)
by_said P None behind other p h k = k
by_said P (Some x) behind other p h k = h x p

pub fine_said : {X A : Type 0} {behind : X → Tokens → Result A SqlFault} {others : Tokens → Result A SqlFault} (P : X → Type 0) (says : Token → Option X) → Says says P → ((x : X) → P x → IsFine (behind x)) → IsFine others
    → IsFine (by_first says behind others)
fine_said {X = X} {A = A} {behind = behind} {others = others} P says p h k = record { at = by } where
  by : (ts : Tokens) → Fine (by_first says behind others ts)
  by [] = k.at []
  by (t ∷ ts) = by_said P (says t.tok) (λ x. behind x ts) (others (t ∷ ts)) (p t.tok) (λ x q. (h x q).at ts) (k.at (t ∷ ts))

any_said : {X : Type 0} (o : Option X) → IfSome o (λ x. Unit {0})
any_said None = tt
any_said (Some x) = tt

pub fine_first : {X A : Type 0} {behind : X → Tokens → Result A SqlFault} {others : Tokens → Result A SqlFault} (says : Token → Option X) → ((x : X) → IsFine (behind x)) → IsFine others
    → IsFine (by_first says behind others)
fine_first says h k = fine_said (λ x. Unit {0}) says (λ t. any_said (says t)) (λ x q. h x) k

pub fine_fault : {A : Type 0} (f : Tokens → SqlFault) → ((ts : Tokens) → f ts ≢ Memory) → IsFine {A = A} (λ ts. Err (f ts))
fine_fault f h = record { at = h }

pub fine_one : {X : Type 0} (fault : Tokens → SqlFault) (says : Token → Option X) → ((ts : Tokens) → fault ts ≢ Memory) → IsFine (one_at fault says)
fine_one fault says h = fine_first says fine_gives (fine_fault fault h)

pub fine_more : {S : Type 0} {add : S → Reader S} → ((s : S) → IsFine (add s)) → (n : ℕ) (s : S) → IsFine (more_at add n s)
unfolding more_at
fine_more h zero s = record { at = λ ts. tt }
fine_more h (suc n) s = fine_either _ (fine_then (h s) (fine_more h n)) (fine_gives s)

pub fine_items : {S : Type 0} {add : S → Reader S} → ((s : S) → IsFine (add s)) → (s : S) → IsFine (items_at add s)
unfolding items_at
fine_items {add = add} h s = record { at = λ ts. (fine_then {k = more_at add (length ts)} (h s) (fine_more h (length ts))).at ts }

-- ---- with the text's length

syntax_is : (at : ℕ) → Syntax at ≢ Memory
syntax_is at h = cc

left_out_is : (at : ℕ) → LeftOut at ≢ Memory
left_out_is at h = cc

too_deep_is : (at : ℕ) → TooDeep at ≢ Memory
too_deep_is at h = cc

one_of_two : (b : Bool) (x y : SqlFault) → x ≢ Memory → y ≢ Memory → (if b then x else y) ≢ Memory
one_of_two true x y h k = h
one_of_two false x y h k = k

pub fine_misplaced : (last : ℕ) (ts : Tokens) → misplaced last ts ≢ Memory
fine_misplaced last [] = syntax_is last
fine_misplaced last (t ∷ ts) = one_of_two (left_out t.tok) (LeftOut t.span.start) (Syntax t.span.start) (left_out_is t.span.start) (syntax_is t.span.start)

fine_ok_or : {A : Type 0} (o : Option A) (f : SqlFault) → f ≢ Memory → Fine (ok_or o f)
fine_ok_or None f h = h
fine_ok_or (Some x) f h = tt

pub fine_expect : (last : ℕ) (p : Token → Bool) → IsFine (expect last p)
fine_expect last p = record { at = λ ts. fine_ok_or (after p ts) (misplaced last ts) (fine_misplaced last ts) }

pub fine_keyword : (last : ℕ) (w : Word) → IsFine (keyword last w)
fine_keyword last w = fine_expect last _

pub fine_closed : {A B : Type 0} {r : Reader A} (last : ℕ) (make : A → B) → IsFine r → IsFine (closed last make r)
fine_closed {r = r} last make h =
    record { at = λ ts. fine_if (r ts) _ (h.at ts) (λ x. fine_if (expect last _ x.1) (λ rest. Ok (make x.0, rest)) ((fine_expect last _).at x.1) (λ rest. tt)) }

pub fine_name : (last : ℕ) → IsFine (name_at last)
fine_name last = fine_one (misplaced last) named (fine_misplaced last)

-- ---- parts of expressions

fine_test : (b : Bool) (ts : Tokens) (f : SqlFault) → f ≢ Memory → Fine {A = Tokens} (if b then Ok ts else Err f)
fine_test true ts f h = tt
fine_test false ts f h = h

fine_shallow : (place depth : ℕ) → IsFine (shallow place depth)
fine_shallow place depth = record { at = λ ts. fine_test (nat_lt depth MAX_DEPTH) ts (TooDeep place) (too_deep_is place) }

fine_node : (place depth : ℕ) (e : Tree) → IsFine (node place depth e)
fine_node place depth e = fine_pass (fine_shallow place depth) (fine_gives _)

module _ (last : ℕ) where
  fine_chain_more : (operand : Reader Part) (op_of : Token → Option Operator) → IsFine operand → (n : ℕ) (a : Part) → IsFine (chain_more last operand op_of n a)
  unfolding chain_more
  fine_chain_more operand op_of h zero a = record { at = λ ts. tt }
  fine_chain_more operand op_of h (suc n) a = record {
    at = λ ts.
        (fine_first op_of (λ o. fine_pass (fine_shallow _ a.depth) (fine_then h (λ b. fine_then (fine_node _ _ _) (fine_chain_more operand op_of h n)))) (fine_gives a)).at ts;
  }

  fine_chain : (operand : Reader Part) (level : Chain) → IsFine operand → IsFine (chain last operand level)
  unfolding chain
  fine_chain operand level h = fine_then h (fine_chain_more operand _ h (suc MAX_DEPTH))

  fine_column : IsFine (column_at last)
  fine_column = record { at = λ ts. (fine_then (fine_name last) (λ n. record { at = λ us. (fine_either _ (fine_fault _ (λ vs. left_out_is _)) (fine_gives _)).at us })).at ts }

-- the values of a row are all so
pub row_says : {X : Type 0} (P : X → Type 0) (rows : List (Word × X)) (passes : Word × X → Bool) → AllByRecursion (λ row. P row.1) rows → IfSome (option_map (λ (row : Word × X). row.1) (find passes rows)) P
row_says P [] passes h = tt
row_says P (row ∷ rows) passes h = by (passes row) (row_says P rows passes h.1) where
  by : (b : Bool) → IfSome (option_map (λ (r : Word × _). r.1) (find passes rows)) P → IfSome (option_map (λ (r : Word × _). r.1) (if b then Some row else find passes rows)) P
  by true rest = h.0
  by false rest = rest

-- one of these values, with what is read behind it
pub fine_one_then : {X A : Type 0} {k : X → Reader A} (P : X → Type 0) (fault : Tokens → SqlFault) (says : Token → Option X) → Says says P → ((ts : Tokens) → fault ts ≢ Memory) → ((x : X) → P x → IsFine (k x))
    → IsFine (one_at fault says >>= k)
fine_one_then {X = X} {k = k} P fault says p f h = record { at = by } where
  by_option : (t : Token) (rest all : Tokens) (o : Option X) → IfSome o P → Fine (if_ok (option_map_or (λ x. gives x rest) o (Err (fault all))) (λ x. k x.0 x.1))
  by_option t rest all None q = f all
  by_option t rest all (Some x) q = (h x q).at rest

  by : (ts : Tokens) → Fine ((one_at fault says >>= k) ts)
  by [] = f []
  by (t ∷ ts) = by_option t.tok ts (t ∷ ts) (says t.tok) (p t.tok)

-- ---- expressions

module _ (last : ℕ) (within : Opened → ℕ → Reader Part) (fine : (level : Opened) (place : ℕ) → IsFine (within level place)) where
  fine_within : (level : Opened) (make : Tree → Tree) (place : ℕ) → IsFine (within_opening last within level make place)
  fine_within level make place = fine_then (fine level place) (λ e. fine_node place e.depth (make e.tree))

  fine_una : IsFine (una_at last within)
  fine_una = record {
    at = λ ts.
        (fine_first (row_of is_sign ((signs.Minus, negated) ∷ (signs.Plus, Plus) ∷ [])) (λ make. fine_within Unary make (place_of last ts))
        (fine_either (is_sign signs.Open) (fine_closed last (λ e. e) (fine_within Whole (λ e. e) (place_of last ts)))
        (fine_made (λ e. record { tree = e; depth = 0 }) (fine_first literal_of fine_gives (fine_column last))))).at ts;
  }

  fine_cat : IsFine (cat_at last within)
  unfolding cat_at
  fine_cat = fine_chain last _ _ (fine_chain last _ _ (fine_chain last _ _ fine_una))

  fine_in : (negative : Bool) (place : ℕ) (a : Part) → IsFine (in_at last within negative place a)
  unfolding in_at
  fine_in negative place a = record {
    at = λ ts.
        (fine_pass (fine_expect last (is_sign signs.Open)) (fine_closed last (λ e. e) (fine_then (fine_items (λ es. fine_made _ (fine Whole (place_of last ts))) [])
        (λ es. fine_node place (fold (λ d e. max d e.depth) a.depth es) (In a.tree negative (trees_in es)))))).at ts;
  }

  fine_between : (negative : Bool) (place : ℕ) (a : Part) → IsFine (between_at last within negative place a)
  unfolding between_at
  fine_between negative place a =
      fine_then fine_cat (λ low. fine_pass (fine_shallow place (max a.depth low.depth)) (fine_pass (fine_keyword last words.And) (fine_then fine_cat
      (λ high. fine_node place (max a.depth (max low.depth high.depth)) (Between a.tree negative low.tree high.tree)))))

  abbrev IsTest : (Bool → ℕ → Part → Reader Part) → Type 0
  IsTest test = (negative : Bool) (place : ℕ) (a : Part) → IsFine (test negative place a)

  tests : Says (test_of last within) IsTest
  tests t = row_says IsTest ((words.In, in_at last within) ∷ (words.Between, between_at last within) ∷ []) (λ row. is_word row.0 t) (fine_in, (fine_between, tt))

  fine_inn : IsFine (inn_at last within)
  unfolding inn_at
  fine_inn = fine_then fine_cat (λ a. record {
    at = λ ts.
        (fine_said IsTest (test_of last within) tests (λ test q. fine_pass (fine_shallow (place_of last ts) a.depth) (q false (place_of last ts) a))
        (fine_either (is_word words.Not) (fine_pass (fine_shallow (place_of last ts) a.depth)
        (fine_one_then IsTest (misplaced last) (test_of last within) tests (fine_misplaced last) (λ test q. q true (place_of last ts) a))) (fine_gives a))).at ts;
  })

  fine_cmp : IsFine (cmp_at last within)
  unfolding cmp_at
  fine_cmp = fine_then fine_inn (fine_chain_more last _ _ fine_inn 1)

  fine_is : IsFine (is_at last within)
  unfolding is_at
  fine_is = fine_then fine_cmp (λ a. record {
    at = λ ts.
        (fine_either (is_word words.Is) (fine_pass (fine_shallow (place_of last ts) a.depth) (fine_then (fine_either (is_word words.Not) (fine_gives true) (fine_gives false))
        (λ negative. fine_then (fine_one (misplaced last) truth_of (fine_misplaced last)) (λ asked. fine_node (place_of last ts) a.depth (Is a.tree negative asked))))) (fine_gives a)).at ts;
  })

  fine_not : IsFine (not_at last within)
  fine_not = record { at = λ ts. (fine_either (is_word words.Not) (fine_within Negation Not (place_of last ts)) fine_is).at ts }

  fine_or : IsFine (or_at last within)
  unfolding or_at
  fine_or = fine_chain last _ _ (fine_chain last _ _ fine_not)

fine_inside : (last n : ℕ) (level : Opened) (place : ℕ) → IsFine (inside last n level place)
unfolding inside
fine_inside last zero level place = record { at = λ ts. too_deep_is place }
fine_inside last (suc n) Whole place = record { at = λ ts. (fine_or last (inside last n) (fine_inside last n)).at ts }
fine_inside last (suc n) Negation place = record { at = λ ts. (fine_not last (inside last n) (fine_inside last n)).at ts }
fine_inside last (suc n) Unary place = record { at = λ ts. (fine_una last (inside last n) (fine_inside last n)).at ts }

pub fine_expr : (last : ℕ) → IsFine (expr_at last)
fine_expr last = fine_or last (inside last MAX_DEPTH) (fine_inside last MAX_DEPTH)
