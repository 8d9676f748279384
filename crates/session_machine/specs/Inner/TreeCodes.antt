-- Trees of expressions as lists of plain parts, by which a proof tells two values that hold them apart. It promises nothing.
use Rattle.std.specs.Prelude.{◌≡◌, ℕ, Bool, false, List, [], ◌∷◌, ◌++◌}
use Rattle.std.proofs.Common.{refl, ap, sym, ◌∙◌, append_assoc, append-nil, get_or}
use Rattle.std.specs.Coded.{Coded, code_by, coded_ℕ, coded_bool, coded_list, coded×}
use Rattle.sql_trees.specs.declared.expr.Operator.{Operator}
use Rattle.sql_trees.specs.declared.expr.Operator.TheVariants as op
use Rattle.sql_trees.specs.declared.expr.Truth.{Truth}
use Rattle.sql_trees.specs.declared.expr.Truth.TheVariants as truth
use Rattle.sql_trees.specs.Trees.{Tree, Trees, Null, Flag, Number, Text, Column, Plus, Minus, Not, Binary, Is, In, Between, none, more}

abbrev pub op_number : Operator → ℕ
op_number op.Or = 0
op_number op.And = 1
op_number op.Equal = 2
op_number op.NotEqual = 3
op_number op.Less = 4
op_number op.AtMost = 5
op_number op.Greater = 6
op_number op.AtLeast = 7
op_number op.Concat = 8
op_number op.Add = 9
op_number op.Subtract = 10
op_number op.Multiply = 11
op_number op.Divide = 12
op_number op.Remainder = 13

abbrev pub op_at : ℕ → Operator
op_at n =
    get_or
    (op.Or ∷ op.And ∷ op.Equal ∷ op.NotEqual ∷ op.Less ∷ op.AtMost ∷ op.Greater ∷ op.AtLeast ∷ op.Concat ∷ op.Add ∷ op.Subtract ∷ op.Multiply ∷ op.Divide ∷ op.Remainder ∷ [])
    n op.Or

pub op_back : (o : Operator) → op_at (op_number o) ≡ o
op_back op.Or = refl
op_back op.And = refl
op_back op.Equal = refl
op_back op.NotEqual = refl
op_back op.Less = refl
op_back op.AtMost = refl
op_back op.Greater = refl
op_back op.AtLeast = refl
op_back op.Concat = refl
op_back op.Add = refl
op_back op.Subtract = refl
op_back op.Multiply = refl
op_back op.Divide = refl
op_back op.Remainder = refl

abbrev pub truth_number : Truth → ℕ
truth_number truth.Null = 0
truth_number truth.True = 1
truth_number truth.False = 2
truth_number truth.Unknown = 3

abbrev pub coded_truth : ℕ → Truth
coded_truth n = get_or (truth.Null ∷ truth.True ∷ truth.False ∷ truth.Unknown ∷ []) n truth.Null

pub truth_back : (t : Truth) → coded_truth (truth_number t) ≡ t
truth_back truth.Null = refl
truth_back truth.True = refl
truth_back truth.False = refl
truth_back truth.Unknown = refl

-- what a part is of
pub data PartKind : Type 0 where
  ANull : PartKind
  AFlag : PartKind
  ANumber : PartKind
  AText : PartKind
  AColumn : PartKind
  APlus : PartKind
  AMinus : PartKind
  ANot : PartKind
  ABinary : PartKind
  AIs : PartKind
  AIn : PartKind
  ABetween : PartKind
  NoItems : PartKind
  OneItem : PartKind

abbrev pub kind_number : PartKind → ℕ
kind_number ANull = 0
kind_number AFlag = 1
kind_number ANumber = 2
kind_number AText = 3
kind_number AColumn = 4
kind_number APlus = 5
kind_number AMinus = 6
kind_number ANot = 7
kind_number ABinary = 8
kind_number AIs = 9
kind_number AIn = 10
kind_number ABetween = 11
kind_number NoItems = 12
kind_number OneItem = 13

abbrev pub coded_kind : ℕ → PartKind
coded_kind n =
    get_or
    (ANull ∷ AFlag ∷ ANumber ∷ AText ∷ AColumn ∷ APlus ∷ AMinus ∷ ANot ∷ ABinary ∷ AIs ∷ AIn ∷ ABetween ∷ NoItems ∷ OneItem ∷ [])
    n ANull

pub kind_back : (k : PartKind) → coded_kind (kind_number k) ≡ k
kind_back ANull = refl
kind_back AFlag = refl
kind_back ANumber = refl
kind_back AText = refl
kind_back AColumn = refl
kind_back APlus = refl
kind_back AMinus = refl
kind_back ANot = refl
kind_back ABinary = refl
kind_back AIs = refl
kind_back AIn = refl
kind_back ABetween = refl
kind_back NoItems = refl
kind_back OneItem = refl

abbrev pub kind_code : Coded PartKind
kind_code = code_by ℕ coded_ℕ kind_number coded_kind kind_back

-- a part: its kind, and what it holds
abbrev pub CodePart : Type 0
CodePart = PartKind × (Bool × (ℕ × List ℕ))

abbrev pub part : PartKind → Bool → ℕ → List ℕ → List CodePart
part kind flag number bytes = (kind, (flag, (number, bytes))) ∷ []

abbrev mutual
  -- each tree's parts stand behind those of its own trees
  pub parts : Tree → List CodePart
  parts Null = part ANull false 0 []
  parts (Flag b) = part AFlag b 0 []
  parts (Number b n) = part ANumber b n []
  parts (Text s) = part AText false 0 s
  parts (Column s) = part AColumn false 0 s
  parts (Plus a) = parts a ++ part APlus false 0 []
  parts (Minus a) = parts a ++ part AMinus false 0 []
  parts (Not a) = parts a ++ part ANot false 0 []
  parts (Binary o a b) = parts a ++ (parts b ++ part ABinary false (op_number o) [])
  parts (Is a b t) = parts a ++ part AIs b (truth_number t) []
  parts (In a b items) = parts a ++ (parts_in items ++ part AIn b 0 [])
  parts (Between a b low high) = parts a ++ (parts low ++ (parts high ++ part ABetween b 0 []))

  pub parts_in : Trees → List CodePart
  parts_in none = part NoItems false 0 []
  parts_in (more e rest) = parts e ++ (parts_in rest ++ part OneItem false 0 [])

-- trees, and lists of them, that are put together so far
abbrev pub Stack : Type 0
Stack = List Tree × List Trees

abbrev pub top : List Tree → Tree
top [] = Null
top (t ∷ ts) = t

abbrev pub below : List Tree → List Tree
below [] = []
below (t ∷ ts) = ts

abbrev pub top_in : List Trees → Trees
top_in [] = none
top_in (l ∷ ls) = l

abbrev pub below_in : List Trees → List Trees
below_in [] = []
below_in (l ∷ ls) = ls

abbrev pub put : PartKind → Bool → ℕ → List ℕ → Stack → Stack
put ANull b n s st = (Null ∷ st.0, st.1)
put AFlag b n s st = (Flag b ∷ st.0, st.1)
put ANumber b n s st = (Number b n ∷ st.0, st.1)
put AText b n s st = (Text s ∷ st.0, st.1)
put AColumn b n s st = (Column s ∷ st.0, st.1)
put APlus b n s st = (Plus (top st.0) ∷ below st.0, st.1)
put AMinus b n s st = (Minus (top st.0) ∷ below st.0, st.1)
put ANot b n s st = (Not (top st.0) ∷ below st.0, st.1)
put ABinary b n s st = (Binary (op_at n) (top (below st.0)) (top st.0) ∷ below (below st.0), st.1)
put AIs b n s st = (Is (top st.0) b (coded_truth n) ∷ below st.0, st.1)
put AIn b n s st = (In (top st.0) b (top_in st.1) ∷ below st.0, below_in st.1)
put ABetween b n s st = (Between (top (below (below st.0))) b (top (below st.0)) (top st.0) ∷ below (below (below st.0)), st.1)
put NoItems b n s st = (st.0, none ∷ st.1)
put OneItem b n s st = (below st.0, more (top st.0) (top_in st.1) ∷ below_in st.1)

abbrev pub put_all : List CodePart → Stack → Stack
put_all [] st = st
put_all (p ∷ ps) st = put_all ps (put p.0 p.1.0 p.1.1.0 p.1.1.1 st)

-- a tree's parts put, and then what follows
then_all : (xs ys zs : List CodePart) (st : Stack) → put_all ((xs ++ ys) ++ zs) st ≡ put_all (xs ++ (ys ++ zs)) st
then_all xs ys zs st = ap (λ ps. put_all ps st) (append_assoc xs ys zs)

mutual
  put_parts : (t : Tree) (ks : List CodePart) (st : Stack) → put_all (parts t ++ ks) st ≡ put_all ks (t ∷ st.0, st.1)
  put_parts Null ks st = refl
  put_parts (Flag b) ks st = refl
  put_parts (Number b n) ks st = refl
  put_parts (Text s) ks st = refl
  put_parts (Column s) ks st = refl
  put_parts (Plus a) ks st = then_all (parts a) (part APlus false 0 []) ks st ∙ put_parts a (part APlus false 0 [] ++ ks) st
  put_parts (Minus a) ks st = then_all (parts a) (part AMinus false 0 []) ks st ∙ put_parts a (part AMinus false 0 [] ++ ks) st
  put_parts (Not a) ks st = then_all (parts a) (part ANot false 0 []) ks st ∙ put_parts a (part ANot false 0 [] ++ ks) st
  put_parts (Binary o a b) ks st =
      let p = part ABinary false (op_number o) [] in
      let sa : Stack = (a ∷ st.0, st.1) in
      then_all (parts a) (parts b ++ p) ks st
      ∙ (put_parts a ((parts b ++ p) ++ ks) st
      ∙ (then_all (parts b) p ks sa
      ∙ (put_parts b (p ++ ks) sa
      ∙ ap (λ (x : Operator). put_all ks (Binary x a b ∷ st.0, st.1)) (op_back o))))
  put_parts (Is a b t) ks st =
      let p = part AIs b (truth_number t) [] in
      then_all (parts a) p ks st
      ∙ (put_parts a (p ++ ks) st
      ∙ ap (λ (x : Truth). put_all ks (Is a b x ∷ st.0, st.1)) (truth_back t))
  put_parts (In a b items) ks st =
      let p = part AIn b 0 [] in
      let sa : Stack = (a ∷ st.0, st.1) in
      then_all (parts a) (parts_in items ++ p) ks st
      ∙ (put_parts a ((parts_in items ++ p) ++ ks) st
      ∙ (then_all (parts_in items) p ks sa
      ∙ put_parts_in items (p ++ ks) sa))
  put_parts (Between a b low high) ks st =
      let p = part ABetween b 0 [] in
      let sa : Stack = (a ∷ st.0, st.1) in
      let sl : Stack = (low ∷ a ∷ st.0, st.1) in
      then_all (parts a) (parts low ++ (parts high ++ p)) ks st
      ∙ (put_parts a ((parts low ++ (parts high ++ p)) ++ ks) st
      ∙ (then_all (parts low) (parts high ++ p) ks sa
      ∙ (put_parts low ((parts high ++ p) ++ ks) sa
      ∙ (then_all (parts high) p ks sl
      ∙ put_parts high (p ++ ks) sl))))

  put_parts_in : (l : Trees) (ks : List CodePart) (st : Stack) → put_all (parts_in l ++ ks) st ≡ put_all ks (st.0, l ∷ st.1)
  put_parts_in none ks st = refl
  put_parts_in (more e rest) ks st =
      let p = part OneItem false 0 [] in
      let se : Stack = (e ∷ st.0, st.1) in
      then_all (parts e) (parts_in rest ++ p) ks st
      ∙ (put_parts e ((parts_in rest ++ p) ++ ks) st
      ∙ (then_all (parts_in rest) p ks se
      ∙ put_parts_in rest (p ++ ks) se))

abbrev pub coded_tree : List CodePart → Tree
coded_tree ps = top (put_all ps ([], [])).0

pub tree_back : (t : Tree) → coded_tree (parts t) ≡ t
tree_back t = ap coded_tree (sym (append-nil (parts t))) ∙ ap (λ (st : Stack). top st.0) (put_parts t [] ([], []))

abbrev pub tree_code : Coded Tree
tree_code = code_by (List CodePart) (coded_list (coded× kind_code (coded× coded_bool (coded× coded_ℕ (coded_list coded_ℕ))))) parts coded_tree tree_back
