-- The program's options, as its words give them to clap.
use Rattle.std.specs.Prelude.{◌≡◌, ◌<◌, ◌^◌, ℕ, List, [], ◌∷◌, Option, Some, None, codes, true, false, pos}
use Rattle.std.specs.Str.Parse.{IsNumeral, digits_value, without_leading_plus}
use Rattle.clap.specs.Words.{App, Rule, Text, fault_of, matches_of, new_app, new_rule, one_of, with_rule}
use Rattle.clap.specs.declared.builder.action.ArgAction.TheVariants.{SetTrue}
use Rattle.clap.specs.declared.builder.value_parser.ValueParser.TheVariants.{Signed}
use Rattle.clap.specs.declared.error.kind.ErrorKind.{ErrorKind}
use Rattle.clap.specs.declared.error.kind.ErrorKind.TheVariants.{DisplayHelp, DisplayVersion, OutOfMemory, UnknownArgument, ValueValidation}
use Rattle.program_words.specs.declared.options.Options.{Options}

-- the flag `--list`
abbrev pub list_rule : Rule
list_rule = record (new_rule (codes "list")) { long = Some (codes "list"); action = Some SetTrue }

-- the flag `--free`
abbrev pub free_rule : Rule
free_rule = record (new_rule (codes "free")) { long = Some (codes "free"); action = Some SetTrue }

-- the option `--limit N`, of a number of 32 bits
abbrev pub limit_rule : Rule
limit_rule = record (new_rule (codes "limit")) { long = Some (codes "limit"); value_names = 1; parser = Some (Signed (pos 0) (pos 4294967295)) }

-- the program, as clap reads its words
abbrev pub program : App
program = with_rule (with_rule (with_rule (new_app (codes "isolationtester")) list_rule) free_rule) limit_rule

-- what clap finds in the words under this name
abbrev pub option_found : Text → List Text → Option Text
option_found name words = one_of name (matches_of program words)

-- the words, the first of which is the program's own name, give these options: `--list` lists, `--free` runs freely, `--limit N` limits, and without it a million permutations run
pub record GivesOptions (words : List Text) (o : Options) : Type 0 where
  pub lists : option_found (codes "list") words ≡ Some (codes "true") → o.list ≡ true
  pub runs : option_found (codes "list") words ≡ Some (codes "false") → o.list ≡ false
  pub runs_freely : option_found (codes "free") words ≡ Some (codes "true") → o.free ≡ true
  pub runs_in_order : option_found (codes "free") words ≡ Some (codes "false") → o.free ≡ false
  pub default : option_found (codes "limit") words ≡ None → o.limit ≡ 1000000
  pub limits : (text : Text) → option_found (codes "limit") words ≡ Some text → IsNumeral 10 (without_leading_plus text)
      → digits_value 10 (without_leading_plus text) < 2 ^ 32 → o.limit ≡ digits_value 10 (without_leading_plus text)

-- the exit status where the words give no options
abbrev pub option_status : ErrorKind → ℕ
option_status DisplayHelp = 0
option_status DisplayVersion = 0
option_status OutOfMemory = 3
option_status _ = 2

-- what these come to, by examples
abbrev pub WorkedWords : Type 0
WorkedWords = (name : Text) →
    (fault_of program (name ∷ []) ≡ []) × (option_found (codes "list") (name ∷ []) ≡ Some (codes "false"))
    × (option_found (codes "free") (name ∷ []) ≡ Some (codes "false")) × (option_found (codes "limit") (name ∷ []) ≡ None)
    × (fault_of program (name ∷ codes "--list" ∷ []) ≡ []) × (option_found (codes "list") (name ∷ codes "--list" ∷ []) ≡ Some (codes "true"))
    × (fault_of program (name ∷ codes "--free" ∷ []) ≡ []) × (option_found (codes "free") (name ∷ codes "--free" ∷ []) ≡ Some (codes "true"))
    × (option_found (codes "list") (name ∷ codes "--free" ∷ codes "--list" ∷ []) ≡ Some (codes "true")) × (option_found (codes "free") (name ∷ codes "--free" ∷ codes "--list" ∷ []) ≡ Some (codes "true"))
    × (fault_of program (name ∷ codes "--limit" ∷ codes "5" ∷ []) ≡ []) × (option_found (codes "limit") (name ∷ codes "--limit" ∷ codes "5" ∷ []) ≡ Some (codes "5"))
    × (option_found (codes "limit") (name ∷ codes "--list" ∷ codes "--limit=5" ∷ []) ≡ Some (codes "5"))
    × (fault_of program (name ∷ codes "--limit" ∷ codes "x" ∷ []) ≡ ValueValidation ∷ [])
    × (fault_of program (name ∷ codes "--limit" ∷ codes "4294967296" ∷ []) ≡ ValueValidation ∷ [])
    × (fault_of program (name ∷ codes "--threads" ∷ []) ≡ UnknownArgument ∷ [])
    × (fault_of program (name ∷ codes "--help" ∷ []) ≡ DisplayHelp ∷ [])
