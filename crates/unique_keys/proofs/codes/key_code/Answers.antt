use Rattle.std.proofs.Common.{◌≡◌, sym, ◌∙◌, ap, ℕ, ◌+◌, get_or, drop}
use Rattle.std.specs.Prelude.{Option, option_and_then}
use Rattle.std.proofs.lemmas.List.{at_drop_more}
use Rattle.unique_keys.specs.Inner.Codes.{code_from, mix}
use Rattle.unique_keys.proofs.codes.key_code.Goals as goal

pub returns-in-None : goal.returns-in-None
returns-in-None c =
    let columns = c.args.columns.now in
    let i = c.loop-column.column-index in
    let rest = λ (o : Option ℕ). option_and_then (λ number. code_from (mix (mix c.loop-column.code (get_or columns i 0)) number) (drop (i + 1) columns) c.args.row.now) o in
    sym (sym c.loop-column.invariant ∙ at_drop_more (λ cs. code_from c.loop-column.code cs c.args.row.now) columns i 0 c.loop-column-test.true ∙ ap rest (sym c.code_at.ensures ∙ c.in-None.is))

pub loop-column-preserved : goal.loop-column-preserved
loop-column-preserved c =
    let columns = c.args.columns.now in
    let i = c.loop-column.column-index in
    let rest = λ (o : Option ℕ). option_and_then (λ number. code_from (mix (mix c.loop-column.code (get_or columns i 0)) number) (drop (i + 1) columns) c.args.row.now) o in
    let code : c.mix-code.result ≡ mix (mix c.loop-column.code (get_or columns i 0)) c.in-Some.number = cc in
    ap (λ v. code_from v (drop (i + 1) columns) c.args.row.now) code ∙ sym (ap rest (sym c.code_at.ensures ∙ c.in-Some.is))
    ∙ sym (at_drop_more (λ cs. code_from c.loop-column.code cs c.args.row.now) columns i 0 c.loop-column-test.true) ∙ c.loop-column.invariant
