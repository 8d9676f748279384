use Rattle.std.proofs.Common.{rules, ap, ap₂, ◌≡◌, ◌∙◌, Some}
use Rattle.std.specs.Prelude.{pos}
use Rattle.std.proofs.lemmas.Result.{IfOk-weaker}
use Rattle.clap.specs.Words.{App, app_of, rule_of, with_rule}
use Rattle.clap.specs.Built.{AddsArg}
use Rattle.clap.specs.Simple.{app_of_fields}
use Rattle.clap.specs.declared.builder.value_parser.ValueParser.{ValueParser}
use Rattle.clap.specs.declared.builder.value_parser.ValueParser.TheVariants.{Signed}
use Rattle.program_words.specs.Options.{program, list_rule, free_rule, limit_rule}
use Rattle.program_words.proofs.options.command_of.Goals as goal

pub returns : goal.returns
returns c =
    let given = c.value_parser-2.ensures.given in
    let parser : c.value_parser-2.result.value_parser ≡ Some (Signed (pos 0) (pos 4294967295)) = given.1 ∙ ap (λ (q : ValueParser). Some q) (given.2 ∙ c.value_parser.ensures) in
    let list_is : rule_of c.help.result ≡ list_rule = search (c.help.ensures, c.action.ensures, c.long.ensures, c.new-2.ensures.rule, rules) in
    let free_is : rule_of c.help-2.result ≡ free_rule = search (c.help-2.ensures, c.action-2.ensures, c.long-2.ensures, c.new-3.ensures.rule, rules) in
    let limit_is : rule_of c.help-3.result ≡ limit_rule = search (c.help-3.ensures, c.value_parser-2.ensures.others, c.value_name.ensures, c.long-3.ensures, c.new-4.ensures.rule, rules, parser) in
    let about_is : app_of c.after_help.result ≡ app_of c.new.result = ap app_of_fields c.after_help.ensures ∙ ap app_of_fields c.override_usage.ensures ∙ ap app_of_fields c.about.ensures in
    let before : app_of c.in_ok-arg-2.field-0 ≡ with_rule (with_rule (app_of c.new.result) list_rule) free_rule =
    c.in_ok-arg-2.ensures.shape (search (c.help-2.ensures, c.action-2.ensures, c.long-2.ensures, c.new-3.ensures.optional, rules))
    ∙ ap₂ with_rule (c.in_ok-arg.ensures.shape (search (c.help.ensures, c.action.ensures, c.long.ensures, c.new-2.ensures.optional, rules)) ∙ ap₂ with_rule about_is list_is) free_is in
    IfOk-weaker c.arg-3.result (AddsArg c.in_ok-arg-2.field-0 c.help-3.result) (λ command. app_of command ≡ program)
    (λ command adds. adds.shape (search (c.help-3.ensures, c.value_parser-2.ensures.others, c.value_name.ensures, c.long-3.ensures, c.new-4.ensures.optional, rules))
    ∙ ap₂ with_rule (before ∙ ap (λ (a : App). with_rule (with_rule a list_rule) free_rule) c.new.ensures.app) limit_is) c.arg-3.ensures
