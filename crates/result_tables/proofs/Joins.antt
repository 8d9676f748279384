-- Pieces joined one by one.
use Rattle.std.proofs.Common.{◌≡◌, ℕ, zero, suc, ◌+◌, ◌<◌, ◌≤◌, List, [], ◌∷◌, ◌++◌, length, get_or, take, map, refl, sym, ap, ◌∙◌, arith, append_assoc, add-one}
use Rattle.std.specs.List.{join_with_byte, zip}
use Rattle.std.proofs.lemmas.List.{get_or-map, length-map, take_all}
use Rattle.std.proofs.lemmas.Slice.Zip.{get_or-zip, length-zip}
use Rattle.result_tables.specs.declared.column.ColumnLayout.{ColumnLayout}
use Rattle.result_tables.specs.Inner.Lines.{separator}
use Rattle.result_tables.specs.TableText.{padded}

shifted : (p j s g : List ℕ) (c : ℕ) → p ++ (c ∷ ((j ++ s) ++ g)) ≡ ((p ++ (c ∷ j)) ++ s) ++ g
shifted p j s g c = simp append_assoc

join_take : (c : ℕ) (pieces : List (List ℕ)) (k : ℕ) → k < length pieces
    → join_with_byte c (take (suc k) pieces) ≡ (join_with_byte c (take k pieces) ++ separator c k) ++ get_or pieces k []
join_take c [] k h = absurd (omega arith)
join_take c (p ∷ ps) zero h = refl
join_take c (p ∷ []) (suc k) h = absurd (omega arith)
join_take c (p ∷ q ∷ qs) (suc zero) h = simp append_assoc
join_take c (p ∷ q ∷ qs) (suc (suc k)) h = ap (λ l. p ++ (c ∷ l)) (join_take c (q ∷ qs) (suc k) (omega arith)) ∙ shifted p (join_with_byte c (q ∷ take k qs)) (c ∷ []) (get_or qs k []) c

regrouped : (old j s g : List ℕ) → ((old ++ j) ++ s) ++ g ≡ old ++ ((j ++ s) ++ g)
regrouped old j s g = simp append_assoc

-- one more piece
pub join_more : (c : ℕ) (pieces : List (List ℕ)) (k : ℕ) → k < length pieces
    → join_with_byte c (take (k + 1) pieces) ≡ (join_with_byte c (take k pieces) ++ separator c k) ++ get_or pieces k []
join_more c pieces k h = rw add-one (join_take c pieces k h)

-- a line that was so far joined, after one more separator and piece
pub joined_more : (c : ℕ) (old : List ℕ) (pieces : List (List ℕ)) (k : ℕ) (piece before between after : List ℕ)
    → k < length pieces → get_or pieces k [] ≡ piece
    → before ≡ old ++ join_with_byte c (take k pieces) → between ≡ before ++ separator c k → after ≡ between ++ piece
    → after ≡ old ++ join_with_byte c (take (k + 1) pieces)
joined_more c old pieces k piece before between after h here e f g =
    let j = join_with_byte c (take k pieces) in
    g ∙ ap (λ l. l ++ piece) (f ∙ ap (λ l. l ++ separator c k) e)
    ∙ regrouped old j (separator c k) piece ∙ ap (λ l. old ++ ((j ++ separator c k) ++ l)) (sym here) ∙ ap (λ l. old ++ l) (sym (join_more c pieces k h))

-- each text in its column
abbrev pub padded_cells : List ColumnLayout → List (List ℕ) → List (List ℕ)
padded_cells columns texts = map (λ p. padded p.0 p.1) (zip columns texts)

-- as many cells as columns
pub length-padded_cells : (columns : List ColumnLayout) (texts : List (List ℕ)) → length texts ≡ length columns → length (padded_cells columns texts) ≡ length columns
length-padded_cells columns texts e = length-map (zip columns texts) (λ p. padded p.0 p.1) ∙ omega (arith, length-zip columns texts)

-- a cell in its column
pub padded_cells_at : {C : Type 0} (shown : C → List ℕ) (columns : List ColumnLayout) (cells : List C) (k : ℕ) (column : ColumnLayout) (cell : C)
    → length cells ≡ length columns → k < length columns → column ≡ get_or columns k column → cell ≡ get_or cells k cell
    → get_or (padded_cells columns (map shown cells)) k [] ≡ padded column (shown cell)
padded_cells_at shown columns cells k column cell e h i j =
    let texts = map shown cells in
    let long : length texts ≡ length columns = length-map cells shown ∙ e in
    let within : k < length cells = omega arith in
    let inside : k < length texts = omega arith in
    let both : k < length (zip columns texts) = omega (arith, length-zip columns texts) in
    let text : get_or texts k (shown cell) ≡ shown cell = get_or-map shown cells k cell (shown cell) within ∙ ap shown (sym j) in
    get_or-map (λ (p : ColumnLayout × List ℕ). padded p.0 p.1) (zip columns texts) k (column, shown cell) [] both
    ∙ ap (λ (p : ColumnLayout × List ℕ). padded p.0 p.1) (get_or-zip columns texts k (column, shown cell) h inside)
    ∙ ap (λ x. padded x (get_or texts k (shown cell))) (sym i)
    ∙ ap (λ x. padded column x) text

-- the whole line, with its end
pub joined_all : (c : ℕ) (old : List ℕ) (pieces : List (List ℕ)) (k : ℕ) (before after : List ℕ)
    → length pieces ≤ k → before ≡ old ++ join_with_byte c (take k pieces) → after ≡ before ++ 10 ∷ []
    → after ≡ old ++ (join_with_byte c pieces ++ 10 ∷ [])
joined_all c old pieces k before after h e f =
    f ∙ ap (λ l. l ++ 10 ∷ []) (e ∙ ap (λ l. old ++ join_with_byte c l) (take_all k pieces h)) ∙ append_assoc old (join_with_byte c pieces) (10 ∷ [])
