-- Where a quoted name or string ends, as the code finds it: byte by byte.
use Rattle.std.specs.Prelude.{ℕ, ◌+◌, ◌-◌, Bool, false, not, ◌&&◌, ◌==◌, List, [], ◌∷◌, take, drop, if◌then◌else◌}
use Rattle.iso_lexer.specs.declared.fault.FaultKind.{FaultKind}
use Rattle.iso_lexer.specs.declared.fault.FaultKind.TheVariants.{NewlineInName}
use Rattle.iso_lexer.specs.declared.quoted.Quoted.{Quoted}
use Rattle.iso_lexer.specs.declared.quoted.Quoted.TheVariants.{Closed, Broken, Unclosed}
use Rattle.iso_lexer.specs.Lexing.{Front, token, fault}
use Rattle.iso_lexer.specs.Quotes.{longer}

-- How a quoted text goes on. `alone` says that the byte before is a quote with no partner.
unfoldable pub quoted_from : ℕ → Bool → Bool → List ℕ → Quoted
quoted_from mark one_line alone [] = if alone then Closed 0 else Unclosed
quoted_from mark one_line alone (b ∷ bs) =
    if b == mark then longer 1 (quoted_from mark one_line (not alone) bs)
    else (if alone then Closed 0 else (if one_line && b == 10 then Broken 0 else longer 1 (quoted_from mark one_line false bs)))

-- the token made of the text between the quotes, by what stands behind the opening one; without a closing quote the fault is at the opening one
abbrev pub quoted_front : {T : Type 0} → (List ℕ → T) → FaultKind → Quoted → List ℕ → Front T
quoted_front make unclosed (Closed n) bs = token (make (take (n - 1) bs)) (drop n bs)
quoted_front make unclosed (Broken n) bs = fault NewlineInName (n + 1)
quoted_front make unclosed Unclosed bs = fault unclosed 0
