use Rattle.std.proofs.Common.{ap, refl, [], codes, true, map, string_bytes, ◌≡◌, ◌∙◌, Option, ℕ, subst}
use Rattle.std.specs.Prelude.{unwrap_or}
use Rattle.std.specs.Str.Parse.{ParsesUnsigned, ExplainsUnsignedError, HasUnsignedDigitsIfOk}
use Rattle.std.proofs.lemmas.Result.{err_from_is_err_and}
use Rattle.clap.specs.Words.{App, HasKind, app_of, fault_of, found_of, is_simple, is_simple_and_free, matches_of, rows_of}
use Rattle.clap.proofs.OnLiterals.{clap_on_literals}
use Rattle.program_words.specs.Options.{program}
use Rattle.program_words.proofs.Words.{reads, number}
use Rattle.program_words.proofs.options.options_of.Goals as goal

is_plain : is_simple_and_free program ≡ true
unfolding clap_on_literals
is_plain = refl

is_simple_one : is_simple program ≡ true
unfolding clap_on_literals
is_simple_one = refl

pub returns-in_err-matches-clause-refused : goal.returns-in_err-matches-clause-refused
returns-in_err-matches-clause-refused c =
    let words = map string_bytes c.args.words.now in
    let app_is : app_of c.in_ok-command_of.field-0 ≡ program = c.in_ok-command_of.ensures in
    let kinds : HasKind (fault_of (app_of c.in_ok-command_of.field-0) words) c.in_err-matches.field-0.0 = c.in_err-matches.ensures.kinds (ap is_simple_and_free app_is ∙ is_plain) in
    let p = err_from_is_err_and c.from_residual-in_err-matches.result c.from_residual-in_err-matches.ensures.1 in
    let same : HasKind (fault_of program words) c.in_err-matches.field-0.0 = subst (λ (a : App). HasKind (fault_of a words) c.in_err-matches.field-0.0) app_is kinds in
    rw (p.1, p.2) same

pub returns-clause-refused : goal.returns-clause-refused
returns-clause-refused c =
    let words = map string_bytes c.args.words.now in
    let app_is : app_of c.in_ok-command_of.field-0 ≡ program = c.in_ok-command_of.ensures in
    subst (λ (a : App). fault_of a words ≡ []) app_is (c.in_ok-matches.ensures.kinds (ap is_simple_and_free app_is ∙ is_plain))

pub returns-clause-gives : goal.returns-clause-gives
returns-clause-gives c =
    let words = map string_bytes c.args.words.now in
    let app_is : app_of c.in_ok-command_of.field-0 ≡ program = c.in_ok-command_of.ensures in
    let m = c.in_ok-matches.matches in
    let rows : rows_of (found_of m) ≡ matches_of program words = (c.in_ok-matches.ensures.matches (ap is_simple app_is ∙ is_simple_one)).0 ∙ ap (λ (a : App). matches_of a words) app_is in
    record {
      lists = λ e. c.get_flag.ensures.value (reads m words (codes "list") rows ∙ e);
      runs = λ e. c.get_flag.ensures.other (reads m words (codes "list") rows ∙ e);
      runs_freely = λ e. c.get_flag-2.ensures.value (reads m words (codes "free") rows ∙ e);
      runs_in_order = λ e. c.get_flag-2.ensures.other (reads m words (codes "free") rows ∙ e);
      default = λ e. c.limit_of.ensures ∙ ap (λ (n : Option ℕ). unwrap_or n 1000000) (c.get_one.ensures.none (reads m words (codes "limit") rows ∙ e));
      limits = λ text e digits small. c.limit_of.ensures ∙ ap (λ (n : Option ℕ). unwrap_or n 1000000)
          (number (λ bs r. ParsesUnsigned 32 10 bs r × ExplainsUnsignedError 10 bs r × HasUnsignedDigitsIfOk bs r) text c.get_one.result (λ r g. g.0) (c.get_one.ensures.value text (reads m words (codes "limit") rows ∙ e)) digits small);
    }
