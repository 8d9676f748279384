-- To be believed. Where a comment of SQL text ends.
use Rattle.std.specs.Prelude.{◌≡◌, ◌≢◌, ◌↔◌, ℕ, suc, ◌-◌, ◌<◌, ◌≤◌, ◌&&◌, ◌==◌, List, ◌∷◌, Option, Some, None, if◌then◌else◌, length, drop, slice_index}

-- Behind a comment's opening: its end, a comment in it and what goes on behind that, or another byte. The rest follows the end.
pub data Comment : List ℕ → List ℕ → Type 0 where
  ends : {text rest : List ℕ} → text ≡ 42 ∷ 47 ∷ rest → Comment text rest
  nests : {text inner behind rest : List ℕ} → text ≡ 47 ∷ 42 ∷ inner → Comment inner behind → Comment behind rest → Comment text rest
  goes_on : {text more rest : List ℕ} {b : ℕ} → text ≡ b ∷ more → ((bs : List ℕ) → text ≢ 42 ∷ 47 ∷ bs) → ((bs : List ℕ) → text ≢ 47 ∷ 42 ∷ bs) → Comment more rest → Comment text rest

-- The same, computed: what follows the end of a comment that so many comments are around.
unfoldable pub after_comment : ℕ → List ℕ → Option (List ℕ)
after_comment around (b ∷ c ∷ bs) =
    if b == 42 && c == 47 then (if around == 0 then Some bs else after_comment (around - 1) bs)
    else (if b == 47 && c == 42 then after_comment (suc around) bs else after_comment around (c ∷ bs))
after_comment around _ = None

-- what follows a comment is what is computed
abbrev pub ComputedComments : Type 0
ComputedComments = (text rest : List ℕ) → Comment text rest ↔ (after_comment 0 text ≡ Some rest)

-- the comment ends with this many bytes, the last of them a slash
abbrev pub EndsAt : List ℕ → ℕ → Type 0
EndsAt text n = (0 < n) × (n ≤ length text) × (slice_index text (n - 1) ≡ 47) × (after_comment 0 text ≡ Some (drop n text))
