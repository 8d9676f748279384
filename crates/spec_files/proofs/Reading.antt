-- The loop over the blocks of a file.
use Rattle.std.proofs.Common.{◌≡◌, ℕ, zero, suc, ◌+◌, ◌<◌, ◌≤◌, ◌++◌, length, drop, get_or, List, [], ◌∷◌, Result, Ok, Err, refl, sym, ap, subst, ◌∙◌, arith, append_assoc, drop-cons, add-one}
use Rattle.std.specs.Prelude.{map}
use Rattle.std.specs.List.{AllByRecursion}
use Rattle.std.proofs.lemmas.List.{drop_all, append-nil, map-append, length-map}
use Rattle.std.proofs.Math.ListN.{get_or-map}
use Rattle.sql_trees.specs.declared.fault.SqlFault.{SqlFault}
use Rattle.sql_trees.specs.declared.fault.SqlFault.TheVariants.{Memory, Lex, Syntax, LeftOut, TooDeep, TooMany, DdlInSession, BadColumns}
use Rattle.sql_trees.specs.Statements.{StmtTree}
use Rattle.sql_blocks.specs.declared.block.Role.TheVariants.{Main}
use Rattle.sql_blocks.specs.declared.block.Block.{Block}
use Rattle.sql_parser.specs.Texts.{Parses}
use Rattle.session_machine.specs.Machine.{Blocks}
use Rattle.sql_blocks.specs.Blocks.{block_of, blocks_of}
use Rattle.spec_files.specs.declared.blocks.PlacedPart.{PlacedPart}
use Rattle.spec_files.specs.declared.fault.BlockFault.{BlockFault}
use Rattle.spec_files.specs.declared.fault.RunFault.{RunFault}
use Rattle.spec_files.specs.declared.fault.RunFault.TheVariants as faults
use Rattle.spec_files.specs.Blocks.{BlockWithRole, BlocksRead, none, fault, block}
use Rattle.spec_files.proofs.Behind.{behind_block, has_fault, no_memory}
use Rattle.spec_files.specs.BlockAnswers.{placed_view, block_fault, HasFault, Says, SayAll, HasShortText}

-- ---- one block

pub says_fault : (p : BlockWithRole) (f : SqlFault) → Parses p.part.sql p.role (Err f) → Says p (Err (block_fault p.part.at f))
says_fault p Memory h = tt
says_fault p (Lex f) h = (refl, h)
says_fault p (Syntax n) h = (refl, h)
says_fault p (LeftOut n) h = (refl, h)
says_fault p (TooDeep n) h = (refl, h)
says_fault p (TooMany n) h = (refl, h)
says_fault p (DdlInSession n) h = (refl, h)
says_fault p (BadColumns n) h = (refl, h)

-- ---- all of them

pub behind_all : Blocks → Result Blocks BlockFault → Result Blocks BlockFault
behind_all bs (Ok cs) = Ok (bs ++ cs)
behind_all bs (Err f) = Err f

-- whatever the blocks from here on read as completes those before
pub record SoFar (ps : List BlockWithRole) (bs : Blocks) (i : ℕ) : Type 0 where
  pub told : (answer : Result Blocks BlockFault) → BlocksRead (drop i ps) answer → BlocksRead ps (behind_all bs answer)

behind_none : (answer : Result Blocks BlockFault) → behind_all [] answer ≡ answer
unfolding behind_all
behind_none (Ok bs) = refl
behind_none (Err m) = refl

behind_one : (bs : Blocks) (stmts : List StmtTree) (answer : Result Blocks BlockFault) → behind_all bs (behind_block stmts answer) ≡ behind_all (bs ++ stmts ∷ []) answer
unfolding behind_all
behind_one bs stmts (Ok cs) = ap Ok (sym (append_assoc bs (stmts ∷ []) cs))
behind_one bs stmts (Err m) = refl

pub starts : (ps : List BlockWithRole) → SoFar ps [] 0
starts ps = record { told = λ answer h. subst (BlocksRead ps) (sym (behind_none answer)) h }

here : (ps : List BlockWithRole) (i : ℕ) (p q : BlockWithRole) → i < length ps → get_or ps i q ≡ p → drop i ps ≡ p ∷ drop (i + 1) ps
here ps i p q lt is = rw add-one (drop-cons ps i q lt ∙ ap (λ (r : BlockWithRole). r ∷ drop (suc i) ps) is)

on_block : (ps : List BlockWithRole) (bs : Blocks) (i : ℕ) (p q : BlockWithRole) (stmts : List StmtTree) → i < length ps → get_or ps i q ≡ p → Parses p.part.sql p.role (Ok stmts) → SoFar ps bs i → SoFar ps (bs ++ stmts ∷ []) (i + 1)
on_block ps bs i p q stmts lt is reads so = record {
  told = λ answer h. subst (BlocksRead ps) (behind_one bs stmts answer) (so.told (behind_block stmts answer) (subst (λ qs. BlocksRead qs (behind_block stmts answer)) (sym (here ps i p q lt is)) (block stmts answer reads h refl)));
}

stopped : (ps : List BlockWithRole) (bs : Blocks) (i : ℕ) (p q : BlockWithRole) (f : BlockFault) → i < length ps → get_or ps i q ≡ p → f.block ≡ p.part.at → HasFault p f.fault → SoFar ps bs i → BlocksRead ps (Err f)
unfolding behind_all
stopped ps bs i p q f lt is at has so =
    so.told (Err f) (subst (λ qs. BlocksRead qs (Err f)) (sym (here ps i p q lt is)) (fault f.fault (no_memory p f.fault has) (has_fault p f.fault has) (ap (λ (n : ℕ). Err (record { block = n; fault = f.fault })) at)))

on_fault : (ps : List BlockWithRole) (bs : Blocks) (i : ℕ) (p q : BlockWithRole) (e : RunFault) → i < length ps → get_or ps i q ≡ p → Says p (Err e) → SoFar ps bs i → SayAll ps (Err e)
on_fault ps bs i p q faults.Memory lt is says so = tt
on_fault ps bs i p q (faults.Sql f) lt is says so = stopped ps bs i p q f lt is says.0 says.1 so
on_fault ps bs i p q faults.Read lt is says so = says
on_fault ps bs i p q faults.Write lt is says so = says
on_fault ps bs i p q (faults.Lex f) lt is says so = says
on_fault ps bs i p q (faults.Spec f) lt is says so = says
on_fault ps bs i p q (faults.SetupFailed t) lt is says so = says
on_fault ps bs i p q faults.SetupWaits lt is says so = says
on_fault ps bs i p q faults.ScheduleBroken lt is says so = says
on_fault ps bs i p q (faults.Threads f) lt is says so = says
on_fault ps bs i p q faults.TooManyPermutations lt is says so = says
on_fault ps bs i p q (faults.NotUtf8 at) lt is says so = says

on_end : (ps : List BlockWithRole) (bs : Blocks) (i : ℕ) → length ps ≤ i → SoFar ps bs i → BlocksRead ps (Ok bs)
unfolding behind_all
on_end ps bs i le so =
    let whole : BlocksRead ps (Ok (bs ++ [])) = so.told (Ok []) (subst (λ qs. BlocksRead qs (Ok [])) (sym (drop_all i ps le)) (none refl)) in
    subst (λ (cs : Blocks). BlocksRead ps (Ok cs)) (append-nil bs) whole

-- ---- the same of the code's blocks

-- what stands at an index past the end
abbrev pub no_part : PlacedPart
no_part = record { role = Main; part = record { sql = record { ref_ptr = (0, 0); now = [] }; at = 0; block = 0 } }

at_view : (parts : List PlacedPart) (i : ℕ) → get_or (map placed_view parts) i (placed_view no_part) ≡ placed_view (get_or parts i no_part)
at_view parts i = get_or-map placed_view parts i no_part

length_view : (parts : List PlacedPart) (i : ℕ) → i < length parts → i < length (map placed_view parts)
length_view parts i lt = omega (arith, length-map parts placed_view)

pub block_there : (parts : List PlacedPart) (bs cs : List Block) (b : Block) (i : ℕ) → i < length parts → cs ≡ bs ++ b ∷ [] → Says (placed_view (get_or parts i no_part)) (Ok b) → SoFar (map placed_view parts) (blocks_of bs) i → SoFar (map placed_view parts) (blocks_of cs) (i + 1)
block_there parts bs cs b i lt e reads so =
    subst (λ xs. SoFar (map placed_view parts) xs (i + 1)) (sym (ap blocks_of e ∙ map-append block_of bs (b ∷ [])))
    (on_block (map placed_view parts) (blocks_of bs) i (placed_view (get_or parts i no_part)) (placed_view no_part) (block_of b) (length_view parts i lt) (at_view parts i) reads so)

pub fault_there : (parts : List PlacedPart) (bs : List Block) (i : ℕ) (e : RunFault) → i < length parts → Says (placed_view (get_or parts i no_part)) (Err e) → SoFar (map placed_view parts) (blocks_of bs) i → SayAll (map placed_view parts) (Err e)
fault_there parts bs i e lt says so = on_fault (map placed_view parts) (blocks_of bs) i (placed_view (get_or parts i no_part)) (placed_view no_part) e (length_view parts i lt) (at_view parts i) says so

pub end_there : (parts : List PlacedPart) (bs : List Block) (i : ℕ) → length parts ≤ i → SoFar (map placed_view parts) (blocks_of bs) i → BlocksRead (map placed_view parts) (Ok (blocks_of bs))
end_there parts bs i le so = on_end (map placed_view parts) (blocks_of bs) i (omega (arith, length-map parts placed_view)) so

-- each text is short enough
short_at : (ps : List BlockWithRole) (i : ℕ) (q : BlockWithRole) → i < length ps → AllByRecursion HasShortText ps → HasShortText (get_or ps i q)
short_at [] i q lt all = absurd (omega arith)
short_at (p ∷ ps) zero q lt all = all.0
short_at (p ∷ ps) (suc i) q lt all = short_at ps i q (omega arith) all.1

pub short_there : (parts : List PlacedPart) (i : ℕ) → i < length parts → AllByRecursion HasShortText (map placed_view parts) → HasShortText (placed_view (get_or parts i no_part))
short_there parts i lt all = subst HasShortText (at_view parts i) (short_at (map placed_view parts) i (placed_view no_part) (length_view parts i lt) all)
