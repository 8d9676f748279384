-- What the places in a text are bounded by.
use Rattle.std.proofs.Common.{◌≡◌, ℕ, zero, suc, ◌-◌, ◌<◌, ◌≤◌, List, [], ◌∷◌, length, drop, ap, arith, length-append, length-drop, length-take}
use Rattle.std.specs.Prelude.{◌^◌, slice_range}
use Rattle.std.specs.List.{AllByRecursion}
use Rattle.std.proofs.lemmas.List.{length-map}
use Rattle.std.specs.List.{prefix_len}
use Rattle.iso_lexer.specs.Inner.Runs.{passes as passes_run}
use Rattle.iso_lexer.specs.declared.token.At.{At}
use Rattle.iso_lexer.specs.declared.spec_token.SpecTok.{SpecTok}
use Rattle.iso_lexer.specs.Inner.Runs.{run_of}
use Rattle.iso_lexer.specs.declared.runs.Run.TheVariants.{Blanks}
use Rattle.iso_lexer.specs.SpecTokens.{SpecToken, keyword, name, digits, sign, block, at_view, at_views}
use Rattle.iso_lexer.specs.SpecText.{block_token}
use Rattle.iso_lexer.specs.SpecSpelling.{LiesAt, Spells}
use Rattle.spec_parser.specs.Inner.Places.{text_start_of, FitsAll}

pub few_views : (n : ℕ) (ts : List (At SpecTok)) → n ≤ 1048576 → length (at_views ts) ≤ n → length ts < 2 ^ 32
few_views n ts few le = omega (arith, few, le, length-map ts at_view)

-- ---- where the text of a block begins

blanks_in : (n : ℕ) (b inner : List ℕ) → block n b ≡ block_token inner → n ≤ length inner
blanks_in n b inner e =
    let same : n ≡ length (run_of Blanks inner) = cc in
    omega (arith, same, length-take (prefix_len (passes_run Blanks) inner) inner)

start_in : (text : List ℕ) (t : SpecToken) (start end : ℕ) → end ≤ length text → length text ≤ 1048576 → Spells t (slice_range text start end) → text_start_of t start < 2 ^ 64
start_in text (block n b) start end le few (inner, s, is) =
    let size = ap (λ (bs : List ℕ). length bs) s in
    omega (arith, le, few, size, blanks_in n b inner is, length-append inner (125 ∷ []), length-take (end - start) (drop start text), length-drop start text)
start_in text (keyword k) start end le few h = omega arith
start_in text (name n) start end le few h = omega arith
start_in text (digits d) start end le few h = omega arith
start_in text (sign s) start end le few h = omega arith

pub all_fit : (text : List ℕ) (ts : List (At SpecTok)) → length text ≤ 1048576 → AllByRecursion (LiesAt text) (at_views ts) → FitsAll ts
all_fit text [] few all k t lt = absurd (omega arith)
all_fit text (u ∷ ts) few (lies, all) zero t lt = start_in text (at_view u).tok u.span.start u.span.end lies.0 few lies.1
all_fit text (u ∷ ts) few (lies, all) (suc k) t lt = all_fit text ts few all k t (omega arith)
