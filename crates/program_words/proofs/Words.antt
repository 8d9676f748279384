-- What clap makes of the program's words, in the words of its options.
use Rattle.std.proofs.Common.{◌≡◌, ◌∙◌, ◌<◌, ◌^◌, ℕ, List, Option, Some, None, Result, Ok, Err, refl, subst}
use Rattle.std.specs.Str.Parse.{IsNumeral, digits_value, without_leading_plus, ParsesUnsigned}
use Rattle.clap.specs.Words.{Text, ReadsOne, one_of, rows_of, found_of, one_text, matches_of}
use Rattle.clap.specs.declared.parser.matches.ArgMatches.{ArgMatches}
use Rattle.clap.proofs.WalkLemmas.{one_text-rows}
use Rattle.program_words.specs.Options.{program, option_found}

-- what a getter reads is what the words say
pub reads : (m : ArgMatches) (words : List Text) (name : Text) → rows_of (found_of m) ≡ matches_of program words → one_text (found_of m) name ≡ option_found name words
reads m words name rows = one_text-rows (found_of m) name ∙ subst (λ r. one_of name (rows_of (found_of m)) ≡ one_of name r) rows refl

-- a number that was read in 32 bits
pub number : {E : Type 0} (G : Text → Result ℕ E → Type 0) (text : Text) (n : Option ℕ)
    → ((r : Result ℕ E) → G text r → ParsesUnsigned 32 10 text r) → ReadsOne G text n
    → IsNumeral 10 (without_leading_plus text) → digits_value 10 (without_leading_plus text) < 2 ^ 32 → n ≡ Some (digits_value 10 (without_leading_plus text))
number G text (Some n) parses read digits small = let p = parses (Ok n) read in cc
number G text None parses read digits small = absurd (parses (Err read.0) read.1 (digits, small))
