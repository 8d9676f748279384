-- Expressions are read as far as their tokens allow.
use Rattle.std.proofs.Common.{◌≡◌, ℕ, false, List, [], ◌∷◌, ◌++◌, refl, sym, ap, subst, ◌∙◌}
use Rattle.std.specs.Prelude.{Result, Ok, Err}
use Rattle.std.proofs.lemmas.List.{append_cancel_right}
use Rattle.iso_lexer.specs.declared.limits.TheConstants.{MAX_DEPTH}
use Rattle.iso_lexer.specs.declared.token.At.{At}
use Rattle.sql_trees.specs.declared.fault.SqlFault.{SqlFault}
use Rattle.sql_trees.specs.declared.fault.SqlFault.TheVariants.{Syntax, LeftOut, TooDeep}
use Rattle.sql_trees.specs.Tokens.{Token, Tokens}
use Rattle.sql_trees.specs.Tokens as tok
use Rattle.sql_trees.specs.Trees.{Tree, Column, Number}
use Rattle.sql_expressions.specs.Results.{◌>>=◌}
use Rattle.sql_expressions.specs.Reading.{Part, expr_at}
use Rattle.sql_expressions.specs.Grammar.{OR, AND, NOT, IS, CMP, INN, CAT, ADD, MUL, UNA, SpellsIn, only, literal, IsLeaf, column, number}
use Rattle.sql_expressions.specs.Laws.{Spelled, StopsFirst, DeepFirst}
use Rattle.sql_expressions.proofs.Complete.{expr_complete, spells_starts}
use Rattle.sql_expressions.proofs.FirstFaults.{refusals_are_first, deep_is_first, fronts_are_taken}
use Rattle.sql_expressions.proofs.Levels.{expr_begins}
use Rattle.sql_expressions.proofs.Shapes.{a_number, some_token}
use Rattle.sql_parser.specs.Readers.{tree_at}
use Rattle.sql_parser.specs.Grammar.{Names, Shallow, OfAnyDepth}
use Rattle.sql_parser.specs.Stops.{in_expression, too_deep}
use Rattle.sql_parser.proofs.Locals.{Inhabited, Local, took, stopped}
use Rattle.sql_parser.proofs.ExprFaults.{expr_told}

leaf_spells : (t : At Token) (e : Tree) → IsLeaf t.tok e → SpellsIn MAX_DEPTH MAX_DEPTH OR (t ∷ []) e 0
leaf_spells t e h =
    let ts = t ∷ [] in
    only OR ts e 0 (only AND ts e 0 (only NOT ts e 0 (only IS ts e 0 (only CMP ts e 0 (only INN ts e 0 (only CAT ts e 0 (only ADD ts e 0 (only MUL ts e 0 (only UNA ts e 0 (literal t e h))))))))))

pub some_shallow : Inhabited Shallow
some_shallow = (a_number, Number false 1, (0, leaf_spells (some_token (tok.number 1)) (Number false 1) (number 1)))

pub some_of_any_depth : Inhabited OfAnyDepth
some_of_any_depth = (a_number, Number false 1, (MAX_DEPTH, MAX_DEPTH, 0, leaf_spells (some_token (tok.number 1)) (Number false 1) (number 1)))

pub shallow_starts : (xs : Tokens) (e : Tree) → Shallow xs e → (t : At Token) × (us : Tokens) × (xs ≡ t ∷ us)
shallow_starts xs e s = let k = spells_starts s.1 in (k.0, k.1, k.2)

pub of_any_depth_starts : (xs : Tokens) (e : Tree) → OfAnyDepth xs e → (t : At Token) × (us : Tokens) × (xs ≡ t ∷ us)
of_any_depth_starts xs e s = let k = spells_starts s.3 in (k.0, k.1, k.2)

-- any depth will do
pub deepened : (xs : Tokens) (e : Tree) → Shallow xs e → OfAnyDepth xs e
deepened xs e s = (MAX_DEPTH, MAX_DEPTH, s.0, s.1)

module _ (last : ℕ) where
  pub one_name : (t : At Token) (n : List ℕ) → Names n t → (e : Tree) × (tree_at last (t ∷ []) ≡ Ok (e, []))
  one_name t n h = (Column n, ap (λ r. r >>= λ f. Ok (f.0.tree, f.1)) (expr_complete last (leaf_spells t (Column n) (column t.tok n h)) [] tt))

  local_of : (E : Tokens → Tree → Type 0) (W Any : Type 0) → ((front : Tokens) (e : Tree) → Shallow front e → E front e) → (Any → (front more : Tokens) → Spelled OR (front ++ more) → (e : Tree) × E (front ++ more) e) → (ts : Tokens) → Local last E W Any E (tree_at last) ts
  local_of E W Any up ups ts = of_result (expr_at last ts) refl
    where
      refused : (f : SqlFault) (k : StopsFirst last ts f) → Local last E W Any E (tree_at last) ts
      refused f k = stopped f k.front k.rest k.split (λ others h. ap (λ r. r >>= λ g. Ok (g.0.tree, g.1)) (k.stays others h)) (λ any.
          let u = ups any k.front k.begins.0 k.begins.1 in
          record { begins = (k.begins.0, u.0, u.1); stands = in_expression [] k.front k.rest f k.refuses })

      too_far : (place : ℕ) (k : DeepFirst last ts place) → Local last E W Any E (tree_at last) ts
      too_far place k = stopped (TooDeep place) k.front k.rest k.split (λ others h. ap (λ r. r >>= λ g. Ok (g.0.tree, g.1)) (k.stays others h)) (λ any.
          let u = ups any k.front k.begins.0 k.begins.1 in
          record { begins = (k.begins.0, u.0, u.1); stands = too_deep [] k.front k.rest place k.makes })

      of_result : (r : Result (Part × Tokens) SqlFault) → expr_at last ts ≡ r → Local last E W Any E (tree_at last) ts
      of_result (Ok f) is =
          let k = fronts_are_taken last ts f is in
          let b = expr_begins last ts f is in
          let same : b.front ≡ k.front = append_cancel_right b.front k.front f.1 (sym b.whole ∙ k.split) in
          took f.0.tree k.front f.1 k.split (λ others h. ap (λ r. r >>= λ g. Ok (g.0.tree, g.1)) (k.stays others h)) (up k.front f.0.tree (f.0.depth, subst (λ xs. SpellsIn MAX_DEPTH MAX_DEPTH OR xs f.0.tree f.0.depth) same b.spells))
      of_result (Err (Syntax p)) is = refused (Syntax p) (refusals_are_first last ts (Syntax p) tt is)
      of_result (Err (LeftOut p)) is = refused (LeftOut p) (refusals_are_first last ts (LeftOut p) tt is)
      of_result (Err (TooDeep p)) is = too_far p (deep_is_first last p ts is)
      of_result (Err e) is = absurd (expr_told last ts e is)

  pub shallow_local : (ts : Tokens) → Local last Shallow (Unit {0}) ⊥ Shallow (tree_at last) ts
  shallow_local ts = local_of Shallow (Unit {0}) ⊥ (λ front e s. s) (λ any front more s. absurd any) ts

  pub any_depth_local : (W : Type 0) (ts : Tokens) → Local last OfAnyDepth W (Unit {0}) OfAnyDepth (tree_at last) ts
  any_depth_local W ts = local_of OfAnyDepth W (Unit {0}) deepened (λ any front more s. (s.2, (s.0, s.1, s.3, s.4))) ts
