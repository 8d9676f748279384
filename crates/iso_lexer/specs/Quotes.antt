-- To be believed. Where a quoted name or string ends.
use Rattle.std.specs.Prelude.{◌≡◌, ◌≢◌, ◌↔◌, ℕ, suc, ◌+◌, ◌-◌, Bool, true, false, not, ◌&&◌, ◌==◌, List, [], ◌∷◌, Option, Some, None, option_map, take, drop, position, if◌then◌else◌}
use Rattle.std.specs.List.{before_first}
use Rattle.std.specs.Option.{option_map_or}
use Rattle.iso_lexer.specs.declared.quoted.Quoted.{Quoted}
use Rattle.iso_lexer.specs.declared.quoted.Quoted.TheVariants.{Closed, Broken, Unclosed}
use Rattle.iso_lexer.specs.Lexing.{Front, token}

-- how many bytes on a quoted text is closed, by a mark that is not doubled; `alone` says that the byte before is a mark with no partner
unfoldable pub closing : ℕ → Bool → List ℕ → Option ℕ
closing mark alone [] = if alone then Some 0 else None
closing mark alone (b ∷ bs) = if b == mark then option_map suc (closing mark (not alone) bs) else (if alone then Some 0 else option_map suc (closing mark false bs))

-- the token made of the text between the marks, by what stands behind the opening one, where it is closed within this front of it; or else this fault
abbrev pub quoted_front : {T : Type 0} → ℕ → (List ℕ → T) → List ℕ → List ℕ → Front T → Front T
quoted_front mark make within bs unclosed = option_map_or (λ n. token (make (take (n - 1) bs)) (drop n bs)) (closing mark false within) unclosed

-- ---- the same by cases

-- so many bytes further on
abbrev pub longer : ℕ → Quoted → Quoted
longer n (Closed k) = Closed (n + k)
longer n (Broken k) = Broken (n + k)
longer n Unclosed = Unclosed

-- Behind an opening quote a doubled quote and each other byte go on, and a quote that is not doubled closes, that many bytes on.
-- What has to stay on its line is broken by a newline.
pub data QuoteGoesOn (mark : ℕ) (one_line : Bool) : List ℕ → Quoted → Type 0 where
  runs_out : QuoteGoesOn mark one_line [] Unclosed
  doubled : {text rest : List ℕ} {end more : Quoted} → text ≡ mark ∷ mark ∷ rest → QuoteGoesOn mark one_line rest more → end ≡ longer 2 more → QuoteGoesOn mark one_line text end
  closes : {text rest : List ℕ} {end : Quoted} → text ≡ mark ∷ rest → ((more : List ℕ) → rest ≢ mark ∷ more) → end ≡ Closed 1 → QuoteGoesOn mark one_line text end
  breaks : {text rest : List ℕ} {end : Quoted} → text ≡ 10 ∷ rest → mark ≢ 10 → one_line ≡ true → end ≡ Broken 0 → QuoteGoesOn mark one_line text end
  goes_on : {text rest : List ℕ} {b : ℕ} {end more : Quoted} → text ≡ b ∷ rest → b ≢ mark → (one_line ≡ true → b ≢ 10) → QuoteGoesOn mark one_line rest more → end ≡ longer 1 more
      → QuoteGoesOn mark one_line text end

-- where a quoted text is closed, before a newline where it has to stay on its line, or else where that breaks it
abbrev pub how_quoted : ℕ → Bool → List ℕ → Quoted
how_quoted mark one_line text =
    let breaks : ℕ → Bool = λ b. one_line && (b == 10 && not (b == mark)) in
    option_map_or Closed (closing mark false (before_first breaks text)) (option_map_or Broken (position breaks text) Unclosed)

-- how a quoted text goes on is what is computed
abbrev pub ComputedQuotes : Type 0
ComputedQuotes = (mark : ℕ) (one_line : Bool) (text : List ℕ) (end : Quoted) → QuoteGoesOn mark one_line text end ↔ (how_quoted mark one_line text ≡ end)
