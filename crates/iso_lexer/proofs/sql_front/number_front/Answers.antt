use Rattle.std.proofs.Common.{sym, ◌∙◌, ap, subst}
use Rattle.std.specs.Str.Parse.{IsNumeral}
use Rattle.iso_lexer.specs.Bytes.{is_name_byte}
use Rattle.iso_lexer.proofs.SqlFronts.{digits_numeral, number_cut_off, number_whole}
use Rattle.iso_lexer.proofs.sql_front.number_front.Goals as goal

pub number_of-requires : goal.number_of-requires
number_of-requires c = subst (IsNumeral 10) (sym c.split_run.ensures.run) (digits_numeral c.args.text.now c.requires)

pub returns-then-is_name_byte : goal.returns-then-is_name_byte
returns-then-is_name_byte c = number_cut_off c.args.text.now c.split_run.result.0.now c.split_run.result.1.now c.in-Some.number c.split_run.ensures.run c.split_run.ensures.rest c.in-Some.ensures.0 c.in-Some.ensures.1 (ap is_name_byte (sym c.first_byte.ensures) ∙ sym c.if-is_name_byte.ensures)

pub returns-else-is_name_byte : goal.returns-else-is_name_byte
returns-else-is_name_byte c = number_whole c.args.text.now c.split_run.result.0.now c.split_run.result.1.now c.in-Some.number c.split_run.ensures.run c.split_run.ensures.rest c.in-Some.ensures.0 c.in-Some.ensures.1 (ap is_name_byte (sym c.first_byte.ensures) ∙ sym c.if-is_name_byte.ensures)
