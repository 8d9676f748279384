-- The pieces of a line are the line.
use Rattle.std.proofs.Common.{◌≡◌, ◌∙◌, ◌+◌, ◌≤◌, ℕ, List, [], ◌++◌, length, take, codes, refl, ap, sym, append_assoc, append-nil, length-append, arith}
use Rattle.std.specs.Prelude.{replicate}
use Rattle.std.proofs.lemmas.List.{take-replicate}
use Rattle.program_words.specs.Places.{line_of}
use Rattle.program_words.specs.Quote.{label_of}

-- four texts one behind the other
four : (a b c d : List ℕ) → ((a ++ b) ++ c) ++ d ≡ a ++ (b ++ (c ++ d))
four a b c d = append_assoc (a ++ b) c d ∙ append_assoc a b (c ++ d)

five : (a b c d e : List ℕ) → (((a ++ b) ++ c) ++ d) ++ e ≡ a ++ (b ++ (c ++ (d ++ e)))
five a b c d e = append_assoc ((a ++ b) ++ c) d e ∙ four a b c (d ++ e)

-- the line of a fault
pub line_pieces : (program name text at number newline : List ℕ) → program ≡ codes "isolationtester: " → newline ≡ codes "\n"
    → program ++ (name ++ (text ++ (at ++ (number ++ (newline ++ []))))) ≡ line_of (((name ++ text) ++ at) ++ number)
line_pieces program name text at number newline p n = rw (p, append-nil newline, n) (ap (λ (l : List ℕ). codes "isolationtester: " ++ l) (sym (five name text at number (codes "\n"))))

-- a line with its label, and its mark
pub label_pieces : (word number colon line newline blanks mark : List ℕ) → word ≡ codes "LINE " → colon ≡ codes ": " → newline ≡ codes "\n" → mark ≡ codes "^\n"
    → word ++ (number ++ (colon ++ (line ++ (newline ++ (blanks ++ (mark ++ [])))))) ≡ (((label_of number ++ line) ++ codes "\n") ++ blanks) ++ codes "^\n"
label_pieces word number colon line newline blanks mark w c n m = rw (append-nil mark, w, c, n, m)
    (let behind = line ++ (codes "\n" ++ (blanks ++ codes "^\n")) in
    sym (append_assoc (codes "LINE ") (number ++ codes ": ") behind ∙ ap (λ (l : List ℕ). codes "LINE " ++ l) (append_assoc number (codes ": ") behind))
    ∙ sym (five (label_of number) line (codes "\n") blanks (codes "^\n")))

-- a line of two parts, and so many blanks below it
pub in_parts : (label line blanks before after : List ℕ) (width : ℕ) → line ≡ before ++ after → blanks ≡ replicate width 32
    → (((label ++ line) ++ codes "\n") ++ blanks) ++ codes "^\n" ≡ ((((label ++ before) ++ after) ++ codes "\n") ++ replicate width 32) ++ codes "^\n"
in_parts label line blanks before after width is below = rw (is, below) (ap (λ (l : List ℕ). ((l ++ codes "\n") ++ replicate width 32) ++ codes "^\n") (sym (append_assoc label before after)))

-- the blanks up to the mark
pub up_to_mark : (number blanks : List ℕ) (width cols : ℕ) → blanks ≡ take width (replicate 256 32) → width ≤ 256 → width ≡ length number + 7 + cols
    → blanks ≡ replicate (length (label_of number) + cols) 32
up_to_mark number blanks width cols is fits e = is ∙ take-replicate width 256 32 fits ∙ ap (λ (n : ℕ). replicate n 32) (e ∙ rw (length-append) (omega arith))
