-- A spec that was read has its blocks, and those of sessions make and drop no tables.
use Rattle.std.proofs.Common.{◌≡◌, refl, sym, ◌∙◌, ap, subst, Bool, true, false, not, ◌&&◌, ◌||◌, ◌==◌, nat_lt, ℕ, suc, ◌+◌, List, [], ◌∷◌, ◌++◌, length, length-append, map, append_assoc, Result, Ok, Err}
use Rattle.std.specs.Prelude.{Some, slice_get, flat_map, option_to_list, unwrap_or}
use Rattle.std.specs.List.{AllByRecursion, range_with_len, list_any}
use Rattle.std.specs.Result.{result_map_both}
use Rattle.std.proofs.lemmas.Bool.{lt-ltb}
use Rattle.std.proofs.lemmas.Option.{slice_get_within}
use Rattle.std.proofs.lemmas.List.{length-map}
use Rattle.std.proofs.lemmas.List.Elements.{All-from_recursion}
use Rattle.sql_trees.specs.Statements.{StmtTree}
use Rattle.sql_blocks.specs.declared.block.Role.{Role}
use Rattle.sql_blocks.specs.declared.block.Role.TheVariants.{Main, Session}
use Rattle.sql_parser.specs.Texts.{ReadsAs}
use Rattle.session_machine.specs.Running.{is_definition}
use Rattle.session_machine.specs.Machine.{Blocks, stmts_of, may_launch}
use Rattle.session_laws.proofs.Lists.{slice_get-append_seam}
use Rattle.spec_parser.specs.Trees.{PartTree, SpecTree}
use Rattle.spec_parser.specs.Stands.{Stands, parts_of, session_parts}
use Rattle.spec_files.specs.declared.fault.BlockFault.{BlockFault}
use Rattle.spec_files.specs.Blocks.{BlockWithRole, BlocksRead, fault, block, blocks_in}
use Rattle.spec_files.specs.BlockAnswers.{block_as, HasShortText}
use Rattle.spec_files.specs.Complete.{HasItsBlocks}
use Rattle.history_laws.proofs.Lists.{each_left, each_right, each_unmap, each_of}
use Rattle.history_laws.proofs.Kept.{err_not_ok, kept, no_definitions}

-- ---- blocks by their numbers

-- the block stands at its part's number
record IsRead (all : Blocks) (p : BlockWithRole) : Type 0 where
  pub stmts : List StmtTree
  pub there : slice_get all p.part.block ≡ Some stmts
  pub reads : ReadsAs p.part.sql p.role (Ok stmts)

record Behind (stmts : List StmtTree) (others : Result Blocks BlockFault) (bs : Blocks) : Type 0 where
  pub rest : Blocks
  pub is : others ≡ Ok rest
  pub parts : bs ≡ stmts ∷ rest

behind : (stmts : List StmtTree) (others : Result Blocks BlockFault) (bs : Blocks) → ◌≡◌ {A = Result Blocks BlockFault} (Ok bs) (result_map_both (λ blocks. stmts ∷ blocks) (λ f. f) others) → Behind stmts others bs
behind stmts (Ok cs) bs e = record { rest = cs; is = refl; parts = ok_is bs (stmts ∷ cs) e } where
  ok_is : (x y : Blocks) → ◌≡◌ {A = Result Blocks BlockFault} (Ok x) (Ok y) → x ≡ y
  ok_is x y h = cc
behind stmts (Err f) bs e = absurd (err_not_ok f bs (sym e))

head_is : (x y : ℕ) (xs ys : List ℕ) → x ∷ xs ≡ y ∷ ys → x ≡ y
head_is x y xs ys h = cc

tail_is : (x y : ℕ) (xs ys : List ℕ) → x ∷ xs ≡ y ∷ ys → xs ≡ ys
tail_is x y xs ys h = cc

read_from : (all pre : Blocks) (ps : List BlockWithRole) (bs : Blocks) → all ≡ pre ++ bs → map (λ (p : BlockWithRole). p.part.block) ps ≡ range_with_len (length pre) (length ps) → BlocksRead ps (Ok bs) → AllByRecursion (IsRead all) ps
read_from all pre [] bs is numbers r = tt
read_from all pre (p ∷ ps) bs is numbers (fault f other reads e) = absurd (err_not_ok (record { block = p.part.at; fault = f }) bs (sym e))
read_from all pre (p ∷ ps) bs is numbers (block stmts others reads more e) =
    let b = behind stmts others bs e in
    let here : p.part.block ≡ length pre = head_is p.part.block (length pre) (map (λ (q : BlockWithRole). q.part.block) ps) (range_with_len (length pre + 1) (length ps)) numbers in
    let rest = tail_is p.part.block (length pre) (map (λ (q : BlockWithRole). q.part.block) ps) (range_with_len (length pre + 1) (length ps)) numbers in
    let parts : all ≡ pre ++ stmts ∷ b.rest = is ∙ ap (λ (w : Blocks). pre ++ w) b.parts in
    let long : length (pre ++ stmts ∷ []) ≡ length pre + 1 = length-append pre (stmts ∷ []) in (
      record { stmts = stmts; there = ap (slice_get all) here ∙ ap (λ (w : Blocks). slice_get w (length pre)) parts ∙ slice_get-append_seam pre stmts b.rest; reads = reads },
      read_from all (pre ++ stmts ∷ []) ps b.rest (parts ∙ sym (append_assoc pre (stmts ∷ []) b.rest))
          (rest ∙ ap (λ n. range_with_len n (length ps)) (sym long)) (subst (BlocksRead ps) b.is more),
    )

own_numbers : (role : Role) (ps : List PartTree) → map (λ (p : BlockWithRole). p.part.block) (map (block_as role) ps) ≡ map (λ (p : PartTree). p.block) ps
own_numbers role [] = refl
own_numbers role (p ∷ ps) = ap (λ ns. p.block ∷ ns) (own_numbers role ps)

all_numbers : (mains owns : List PartTree) → map (λ (p : BlockWithRole). p.part.block) (map (block_as Main) mains ++ map (block_as Session) owns) ≡ map (λ (p : PartTree). p.block) (mains ++ owns)
all_numbers [] owns = own_numbers Session owns
all_numbers (m ∷ ms) owns = ap (λ ns. m.block ∷ ns) (all_numbers ms owns)

as_many : (mains owns : List PartTree) → length (map (block_as Main) mains ++ map (block_as Session) owns) ≡ length (mains ++ owns)
as_many [] owns = length-map owns (block_as Session)
as_many (m ∷ ms) owns = ap suc (as_many ms owns)

numbered : (spec : SpecTree) → Stands spec → map (λ (p : BlockWithRole). p.part.block) (blocks_in spec) ≡ range_with_len 0 (length (blocks_in spec))
numbered spec stands =
    let mains = spec.setups ++ option_to_list spec.teardown in
    let owns = flat_map session_parts spec.sessions in
    let parts : mains ++ owns ≡ parts_of spec = append_assoc spec.setups (option_to_list spec.teardown) owns in
    all_numbers mains owns ∙ ap (map (λ (p : PartTree). p.block)) parts ∙ stands.numbered ∙ ap (λ (w : List PartTree). range_with_len 0 (length w)) (sym parts) ∙ ap (range_with_len 0) (sym (as_many mains owns))

-- ---- the whole

both_true : (a b : Bool) → a ≡ true → b ≡ true → (a && b) ≡ true
both_true true b h k = k
both_true false b h k = cc

either_true : (a b : Bool) → b ≡ true → (a || b) ≡ true
either_true true b h = refl
either_true false b h = h

first_true : (a b : Bool) → a ≡ true → (a || b) ≡ true
first_true true b h = refl
first_true false b h = cc

is_there : (all : Blocks) (p : BlockWithRole) → IsRead all p → nat_lt p.part.block (length all) ≡ true
is_there all p r = lt-ltb p.part.block (length all) (slice_get_within all p.part.block r.stmts r.there)

main_given : (all : Blocks) (part : PartTree) → IsRead all (block_as Main part) → may_launch all 0 part.block ≡ true
main_given all part r =
    both_true (nat_lt part.block (length all)) ((0 == 0) || not (list_any is_definition (stmts_of all part.block))) (is_there all (block_as Main part) r)
    (first_true (0 == 0) (not (list_any is_definition (stmts_of all part.block))) refl)

own_given : (all : Blocks) (part : PartTree) → IsRead all (block_as Session part) × HasShortText (block_as Session part) → (session : ℕ) → may_launch all session part.block ≡ true
own_given all part h session =
    let none = no_definitions h.0.stmts (kept part.sql Session h.0.stmts h.1 h.0.reads) in
    let stmts : stmts_of all part.block ≡ h.0.stmts = ap (λ o. unwrap_or o []) h.0.there in
    both_true (nat_lt part.block (length all)) ((session == 0) || not (list_any is_definition (stmts_of all part.block))) (is_there all (block_as Session part) h.0)
    (either_true (session == 0) (not (list_any is_definition (stmts_of all part.block))) (ap (λ (w : List StmtTree). not (list_any is_definition w)) stmts ∙ ap not none))

both : {A : Type 0} (P Q : A → Type 0) (xs : List A) → AllByRecursion P xs → AllByRecursion Q xs → AllByRecursion (λ x. P x × Q x) xs
both P Q [] h k = tt
both P Q (x ∷ xs) h k = ((h.0, k.0), both P Q xs h.1 k.1)

pub has_its_blocks : (spec : SpecTree) (blocks : Blocks) → Stands spec → AllByRecursion HasShortText (blocks_in spec) → BlocksRead (blocks_in spec) (Ok blocks) → HasItsBlocks spec blocks
has_its_blocks spec blocks stands short read =
    let mains = spec.setups ++ option_to_list spec.teardown in
    let owns = flat_map session_parts spec.sessions in
    let all = both (IsRead blocks) HasShortText (blocks_in spec) (read_from blocks [] (blocks_in spec) blocks refl (numbered spec stands) read) short in
    let P : BlockWithRole → Type 0 = λ p. IsRead blocks p × HasShortText p in
    record {
      main = All-from_recursion (λ (part : PartTree). may_launch blocks 0 part.block ≡ true) mains
          (each_of (λ part. P (block_as Main part)) (λ (part : PartTree). may_launch blocks 0 part.block ≡ true) (λ part r. main_given blocks part r.0) mains
          (each_unmap P (block_as Main) mains (each_left P (map (block_as Main) mains) (map (block_as Session) owns) all)));
      own = All-from_recursion (λ (part : PartTree). (session : ℕ) → may_launch blocks session part.block ≡ true) owns
          (each_of (λ part. P (block_as Session part)) (λ (part : PartTree). (session : ℕ) → may_launch blocks session part.block ≡ true) (own_given blocks) owns
          (each_unmap P (block_as Session) owns (each_right P (map (block_as Main) mains) (map (block_as Session) owns) all)));
    }
